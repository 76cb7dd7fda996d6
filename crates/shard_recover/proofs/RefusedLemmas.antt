-- An entry that is refused has one place, and is none of entries that may all stand.
use Rattle.std.proofs.Common.{◌≡◌, ◌⊎◌, ⊎_elim, inl, inr, ℕ, ◌<◌, nat_lt, List, [], ◌∷◌, ◌++◌, length, map, refl, sym, ap, ◌∙◌, subst, append_assoc}
use Rattle.std.proofs.lemmas.List.{map-append}
use Rattle.std.proofs.lemmas.List.Elements.{filter-append}
use Rattle.shard_disk.specs.Directory.{Directory, HasFile}
use Rattle.gate_log.specs.Damage.{IsLog}
use Rattle.gate_log.specs.Records.{spelled}
use Rattle.gate_log.proofs.Unique.{one_log}
use Rattle.point_model.specs.Histories.{after, after_entry}
use Rattle.point_model.specs.Points.{Points, no_points}
use Rattle.point_model.specs.declared.entry.Entry.{Entry}
use Rattle.wal_store.specs.Reading.{entries_past}
use Rattle.wal_store.specs.Replay.{AreRecords, HasSegments, IsSegment, Logged, joined, past}
use Rattle.wal_store.specs.Segments.{SpellsRecord}
use Rattle.wal_store.proofs.RecordLemmas.{same_record}
use Rattle.wal_store.proofs.ReplayLemmas.{is_past}
use Rattle.shard_state.specs.Meaning.{AreTaken, IsTaken}
use Rattle.shard_recover.specs.Damage.{IsRefused, RefusesAt, StandsAt}
use Rattle.shard_recover.proofs.CutLemmas.{two_cuts}
use Rattle.shard_recover.proofs.OpeningLemmas.{both, segments_once}
use Rattle.shard_recover.proofs.WrongLemmas.{cut, joined_cut}

-- ---- what may stand among entries

taken_at : (series : List (List ℕ)) (points : Points) (before : List Entry) (entry : Entry) (behind : List Entry) → AreTaken series points (before ++ entry ∷ behind) → IsTaken series (after points before) entry
taken_at series points [] entry behind all = all.0
taken_at series points (e ∷ before) entry behind all = taken_at series (after_entry points e) before entry behind all.1

pub past_at : (floor : ℕ) (before : List Logged) (logged : Logged) (behind : List Logged) → floor < logged.number → entries_past floor (before ++ logged ∷ behind) ≡ entries_past floor before ++ logged.entry ∷ entries_past floor behind
past_at floor before logged behind high =
    ap (λ (p : List Logged). map (λ (l : Logged). l.entry) p) (filter-append (λ (l : Logged). nat_lt floor l.number) before (logged ∷ behind)
    ∙ ap (λ (p : List Logged). past floor before ++ p) (filter-append (λ (l : Logged). nat_lt floor l.number) (logged ∷ []) behind ∙ ap (λ (p : List Logged). p ++ past floor behind) (is_past floor logged high)))
    ∙ map-append (λ (l : Logged). l.entry) (past floor before) (logged ∷ past floor behind)

-- one that is refused is none of those that may stand
pub refused_among : (series : List (List ℕ)) (floor : ℕ) (before : List Logged) (logged : Logged) (behind all : List Logged) → IsRefused series floor before logged → all ≡ before ++ logged ∷ behind → AreTaken series no_points (entries_past floor all) → ⊥
refused_among series floor before logged behind all r is taken =
    r.refused (taken_at series no_points (entries_past floor before) logged.entry (entries_past floor behind)
    (subst (AreTaken series no_points) (ap (entries_past floor) is ∙ past_at floor before logged behind r.past_floor) taken))

-- ---- where an entry stands

pub one_logged : (a b : Logged) (body : List ℕ) → SpellsRecord a.number a.entry body → SpellsRecord b.number b.entry body → a ≡ b
one_logged a b body x y = let same = same_record a.number b.number a.entry b.entry body x y in λ i. record { number = same.0 i; entry = same.1 i }

-- the entries of records go on by those of more
pub goes_on : (here : List Logged) (records : List (List ℕ)) (logged : Logged) (body : List ℕ) (behind : List (List ℕ)) (all : List Logged) → AreRecords here records → SpellsRecord logged.number logged.entry body → AreRecords all (records ++ body ∷ behind)
    → (more : List Logged) × (all ≡ here ++ logged ∷ more)
goes_on [] [] logged body behind [] are spells every = absurd every
goes_on [] [] logged body behind (x ∷ all) are spells every = (all, (λ i. one_logged x logged body every.0 spells i ∷ all))
goes_on [] (r ∷ records) logged body behind all are spells every = absurd are
goes_on (l ∷ here) [] logged body behind all are spells every = absurd are
goes_on (l ∷ here) (r ∷ records) logged body behind [] are spells every = absurd every
goes_on (l ∷ here) (r ∷ records) logged body behind (x ∷ all) are spells every =
    let rest = goes_on here records logged body behind all are.1 spells every.1 in
    (rest.0, (λ i. one_logged x l r every.0 are.0 i ∷ rest.1 i))

-- a whole segment has the entry behind those before it
segment_goes_on : (files : Directory) (file : ℕ) (here : List Logged) (records : List (List ℕ)) (logged : Logged) (body : List ℕ) (behind : List (List ℕ)) (all : List Logged) → AreRecords here records → SpellsRecord logged.number logged.entry body
    → HasFile files file (IsLog (records ++ body ∷ behind)) → HasFile files file (IsSegment all) → (more : List Logged) × (all ≡ here ++ logged ∷ more)
segment_goes_on files file here records logged body behind all are spells log segment =
    both (IsLog (records ++ body ∷ behind)) (IsSegment all) files file log segment
    (λ bytes l s. goes_on here records logged body behind all are spells (subst (AreRecords all) (one_log s.0 (records ++ body ∷ behind) bytes (s.2, s.3) l) s.1))

-- what stands behind the first entries of a segment
behind_here : (joined_earlier here : List Logged) (logged : Logged) (more later : List Logged) → (joined_earlier ++ (here ++ logged ∷ more)) ++ later ≡ (joined_earlier ++ here) ++ logged ∷ (more ++ later)
behind_here earlier here logged more later =
    ap (λ (l : List Logged). l ++ later) (sym (append_assoc earlier here (logged ∷ more))) ∙ append_assoc (earlier ++ here) (logged ∷ more) later

-- the entry is one of those that the segments have
pub stands_in : (files : Directory) (segments : List ℕ) (file offset : ℕ) (before : List Logged) (logged : Logged) (all : List (List Logged)) → StandsAt files segments file offset before logged → HasSegments files segments all
    → (more : List Logged) × (joined all ≡ before ++ logged ∷ more)
stands_in files segments file offset before logged all st have =
    let c = cut files st.earlier file st.later all (subst (λ (s : List ℕ). HasSegments files s all) st.parts have) in
    let whole : c.earlier ≡ st.whole = segments_once files st.earlier c.earlier st.whole c.have st.have in
    let more = segment_goes_on files file st.here st.records logged st.body st.behind c.here st.are st.spells st.log c.is in (
      more.0 ++ joined c.later,
      ap joined c.parts ∙ joined_cut c.earlier c.here c.later ∙ (λ i. (joined (whole i) ++ more.1 i) ++ joined c.later)
          ∙ behind_here (joined st.whole) st.here logged more.0 (joined c.later) ∙ ap (λ (l : List Logged). l ++ logged ∷ (more.0 ++ joined c.later)) (sym st.all),
    )

-- ---- one place

abbrev IsOne : ℕ → ℕ → ℕ → ℕ → Type 0
IsOne file offset other_file other_offset = (file ≡ other_file) × (offset ≡ other_offset)

module _ (series : List (List ℕ)) (floor : ℕ) (files : Directory) (segments : List ℕ) where
  -- the second stands in a later segment
  later_segment : (file offset other_file other_offset : ℕ) (a : RefusesAt series floor files segments file offset) (b : RefusesAt series floor files segments other_file other_offset) (more : List ℕ) → b.stands.earlier ≡ a.stands.earlier ++ file ∷ more → ⊥
  later_segment file offset other_file other_offset a b more is =
      let st = a.stands in
      let within : StandsAt files b.stands.earlier file offset a.before a.logged = record { earlier = st.earlier; later = more; parts = is; whole = st.whole; have = st.have; here = st.here; records = st.records; are = st.are; body = st.body; spells = st.spells; behind = st.behind; log = st.log; all = st.all; gate = st.gate } in
      let there = stands_in files b.stands.earlier file offset a.before a.logged b.stands.whole within b.stands.have in
      refused_among series floor a.before a.logged (there.0 ++ b.stands.here) b.before a.is
      (b.stands.all ∙ ap (λ (l : List Logged). l ++ b.stands.here) there.1 ∙ append_assoc a.before (a.logged ∷ there.0) b.stands.here) b.is.taken

  -- the second stands later in the same segment
  later_record : (file offset other_file other_offset : ℕ) (a : RefusesAt series floor files segments file offset) (b : RefusesAt series floor files segments other_file other_offset) (more : List (List ℕ)) → a.stands.whole ≡ b.stands.whole
      → b.stands.records ≡ a.stands.records ++ a.stands.body ∷ more → ⊥
  later_record file offset other_file other_offset a b more whole is =
      let there = goes_on a.stands.here a.stands.records a.logged a.stands.body more b.stands.here a.stands.are a.stands.spells (subst (AreRecords b.stands.here) is b.stands.are) in
      refused_among series floor a.before a.logged there.0 b.before a.is
      (b.stands.all ∙ (λ i. joined (sym whole i) ++ there.1 i) ∙ sym (append_assoc (joined a.stands.whole) a.stands.here (a.logged ∷ there.0)) ∙ ap (λ (l : List Logged). l ++ a.logged ∷ there.0) (sym a.stands.all)) b.is.taken

  same_segment : (file offset other_file other_offset : ℕ) (a : RefusesAt series floor files segments file offset) (b : RefusesAt series floor files segments other_file other_offset) → a.stands.earlier ≡ b.stands.earlier → file ≡ other_file → IsOne file offset other_file other_offset
  same_segment file offset other_file other_offset a b earlier same =
      let whole : a.stands.whole ≡ b.stands.whole = segments_once files b.stands.earlier a.stands.whole b.stands.whole (subst (λ (s : List ℕ). HasSegments files s a.stands.whole) earlier a.stands.have) b.stands.have in
      let records : a.stands.records ++ a.stands.body ∷ a.stands.behind ≡ b.stands.records ++ b.stands.body ∷ b.stands.behind =
      both (IsLog (a.stands.records ++ a.stands.body ∷ a.stands.behind)) (IsLog (b.stands.records ++ b.stands.body ∷ b.stands.behind)) files other_file
      (subst (λ (n : ℕ). HasFile files n (IsLog (a.stands.records ++ a.stands.body ∷ a.stands.behind))) same a.stands.log) b.stands.log
      (λ bytes x y. one_log (a.stands.records ++ a.stands.body ∷ a.stands.behind) (b.stands.records ++ b.stands.body ∷ b.stands.behind) bytes x y) in
      ⊎_elim
      (λ one. (same, a.stands.gate ∙ ap (λ (r : List (List ℕ)). length (spelled r)) one.0 ∙ sym b.stands.gate))
      (λ apart. absurd (⊎_elim
      (λ first. later_record file offset other_file other_offset a b first.0 whole first.1)
      (λ second. later_record other_file other_offset file offset b a second.0 (sym whole) second.1)
      apart))
      (two_cuts a.stands.records a.stands.body a.stands.behind b.stands.records b.stands.body b.stands.behind records)

  pub one_place : (file offset other_file other_offset : ℕ) → RefusesAt series floor files segments file offset → RefusesAt series floor files segments other_file other_offset → IsOne file offset other_file other_offset
  one_place file offset other_file other_offset a b = ⊎_elim
      (λ one. same_segment file offset other_file other_offset a b one.0 one.1)
      (λ apart. absurd (⊎_elim
      (λ first. later_segment file offset other_file other_offset a b first.0 first.1)
      (λ second. later_segment other_file other_offset file offset b a second.0 second.1)
      apart))
      (two_cuts a.stands.earlier file a.stands.later b.stands.earlier other_file b.stands.later (sym a.stands.parts ∙ b.stands.parts))
