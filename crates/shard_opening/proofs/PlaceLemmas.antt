-- Where an entry stands that was refused.
use Rattle.std.proofs.Common.{◌≡◌, ⊎_elim, ℕ, ◌+◌, ◌<◌, List, [], ◌∷◌, ◌++◌, length, refl, sym, ap, ◌∙◌, subst, arith, append_assoc}
use Rattle.std.proofs.lemmas.List.{length-append}
use Rattle.shard_disk.specs.Crash.{Crashes}
use Rattle.shard_disk.specs.Directory.{Directory, HasFile}
use Rattle.shard_disk.proofs.Everywhere.{file_weaker}
use Rattle.gate_log.specs.Damage.{IsLog}
use Rattle.gate_log.specs.Log.{FoundBy}
use Rattle.gate_log.specs.Records.{Spells, framed, spelled}
use Rattle.gate_log.proofs.Unique.{found_log}
use Rattle.point_model.specs.Histories.{after}
use Rattle.point_model.specs.Points.{Points, no_points}
use Rattle.point_model.specs.declared.entry.Entry.{Entry}
use Rattle.wal_store.specs.Reading.{AreRead, GoesOn, HasRead, Replaying, entries_past}
use Rattle.wal_store.specs.Replay.{AreRecords, Logged, joined, past}
use Rattle.wal_store.specs.Segments.{Segments, SpellsRecord}
use Rattle.wal_store.specs.declared.replay.Place.{Place}
use Rattle.wal_store.proofs.ReplayLemmas.{length_map}
use Rattle.shard_state.specs.Meaning.{AreTaken, IsTaken}
use Rattle.shard_recover.specs.Damage.{RefusesAt}
use Rattle.shard_recover.proofs.CutLemmas.{two_cuts}
use Rattle.shard_recover.proofs.RefusedLemmas.{one_logged, past_at}
use Rattle.shard_opening.specs.Filling.{RefusesIn}
use Rattle.shard_opening.proofs.FillLemmas.{after_both, taken_both}

spelled_both : (some more : List (List ℕ)) → spelled (some ++ more) ≡ spelled some ++ spelled more
spelled_both [] more = refl
spelled_both (x ∷ some) more = ap (λ (l : List ℕ). 1 ∷ (framed x ++ l)) (spelled_both some more) ∙ ap (λ (l : List ℕ). 1 ∷ l) (sym (append_assoc (framed x) (spelled some) (spelled more)))

spelled_length : (some more : List (List ℕ)) → length (spelled (some ++ more)) ≡ length (spelled some) + length (spelled more)
spelled_length some more = ap length (spelled_both some more) ∙ length-append (spelled some) (spelled more)

-- the last of records, and the entries of those before it
record EndsBy (all : List Logged) (records : List (List ℕ)) (body : List ℕ) : Type 0 where
  here : List Logged
  logged : Logged
  parts : all ≡ here ++ logged ∷ []
  are : AreRecords here records
  spells : SpellsRecord logged.number logged.entry body

ends_by : (all : List Logged) (records : List (List ℕ)) (body : List ℕ) → AreRecords all (records ++ body ∷ []) → EndsBy all records body
ends_by [] [] body are = absurd are
ends_by (l ∷ []) [] body are = record { here = []; logged = l; parts = refl; are = tt; spells = are.0 }
ends_by (l ∷ (m ∷ all)) [] body are = absurd are.1
ends_by [] (r ∷ records) body are = absurd are
ends_by (l ∷ all) (r ∷ records) body are =
    let rest = ends_by all records body are.1 in
    record { here = l ∷ rest.here; logged = rest.logged; parts = ap (λ (x : List Logged). l ∷ x) rest.parts; are = (are.0, rest.are); spells = rest.spells }

-- one entry behind each of two lists
same_front : (xs ys : List Entry) (x y : Entry) → xs ++ x ∷ [] ≡ ys ++ y ∷ [] → xs ≡ ys
same_front xs ys x y is =
    let long : length xs + 1 ≡ length ys + 1 = sym (length-append xs (x ∷ [])) ∙ ap length is ∙ length-append ys (y ∷ []) in
    ⊎_elim
    (λ one. one.0)
    (λ apart. absurd (⊎_elim
    (λ first. omega (arith, long, ap length first.1 ∙ length-append xs (x ∷ first.0)))
    (λ second. omega (arith, long, ap length second.1 ∙ length-append ys (y ∷ second.0)))
    apart))
    (two_cuts xs x [] ys y [] is)

module _ (tells : Type 0) (told : tells) (series : List (List ℕ)) (floor : ℕ) (first : Replaying) (earlier : List (List Logged)) (files : Directory) (crashes crashes' : Crashes) (are : AreRead tells first earlier [] files crashes crashes') (same : first.floor ≡ floor)
    (points : Points) (so_far : AreTaken series no_points (entries_past floor (joined earlier ++ []))) (left : points ≡ after no_points (entries_past floor (joined earlier ++ []))) (place : Place) (r : RefusesIn series points place first) where
  abbrev before : List Logged
  before = joined earlier

  abbrev records : List (List ℕ)
  records = (are.records ++ r.read) ++ r.gives.passed

  abbrev passed : List (List ℕ)
  passed = r.gives.passed

  one : GoesOn first r.before before [] are.records r.read r.given
  one = r.reads.on before [] are.records are.has

  two : GoesOn r.before r.behind before ([] ++ one.more) (are.records ++ r.read) (passed ++ r.gives.body ∷ []) (r.entry ∷ [])
  two = r.gives.reads.on before ([] ++ one.more) (are.records ++ r.read) one.has

  abbrev all : List Logged
  all = ([] ++ one.more) ++ two.more

  has : HasRead r.behind before all (records ++ r.gives.body ∷ [])
  has = subst (HasRead r.behind before all) (sym (append_assoc (are.records ++ r.read) passed (r.gives.body ∷ []))) two.has

  last : EndsBy all records r.gives.body
  last = ends_by all records r.gives.body has.are

  abbrev here : List Logged
  here = last.here

  abbrev logged : Logged
  logged = last.logged

  is_one : logged ≡ record { number = r.behind.wal.last; entry = r.entry }
  is_one = one_logged logged (record { number = r.behind.wal.last; entry = r.entry }) r.gives.body last.spells r.gives.spells

  floor_before : r.before.floor ≡ floor
  floor_before = r.reads.floor ∙ same

  floor_behind : r.behind.floor ≡ floor
  floor_behind = r.gives.reads.floor ∙ floor_before

  -- the entries past the floor, with the last one
  past_all : entries_past floor (before ++ all) ≡ entries_past floor (before ++ ([] ++ one.more)) ++ r.entry ∷ []
  past_all = (λ i. entries_past (sym floor_behind i) (before ++ all)) ∙ two.past_floor ∙ (λ i. entries_past (floor_before i) (before ++ ([] ++ one.more)) ++ r.entry ∷ [])

  past_one : entries_past floor (before ++ ([] ++ one.more)) ≡ entries_past floor (before ++ []) ++ r.given
  past_one = (λ i. entries_past (sym floor_before i) (before ++ ([] ++ one.more))) ∙ one.past_floor ∙ (λ i. entries_past (same i) (before ++ []) ++ r.given)

  high : floor < logged.number
  high =
      let many : length (entries_past floor (before ++ all)) ≡ length (entries_past floor (before ++ ([] ++ one.more))) + 1 = ap length past_all ∙ length-append (entries_past floor (before ++ ([] ++ one.more))) (r.entry ∷ []) in
      let count : length (entries_past floor (before ++ all)) ≡ length (past floor (before ++ all)) = length_map (λ (l : Logged). l.entry) (past floor (before ++ all)) in
      let number : logged.number ≡ floor + length (past floor (before ++ all)) = ap (λ (l : Logged). l.number) is_one ∙ has.last ∙ (λ i. floor_behind i + length (past (floor_behind i) (before ++ all))) in
      omega (arith, many, count, number)

  -- those before it
  past_here : entries_past floor (before ++ here) ≡ entries_past floor (before ++ []) ++ r.given
  past_here =
      same_front (entries_past floor (before ++ here)) (entries_past floor (before ++ ([] ++ one.more))) logged.entry r.entry
      (sym (past_at floor (before ++ here) logged [] high) ∙ ap (entries_past floor) (append_assoc before here (logged ∷ []) ∙ ap (λ (l : List Logged). before ++ l) (sym last.parts)) ∙ past_all)
      ∙ past_one

  points_here : after no_points (entries_past floor (before ++ here)) ≡ after points r.given
  points_here = ap (after no_points) past_here ∙ after_both no_points (entries_past floor (before ++ [])) r.given ∙ ap (λ (p : Points). after p r.given) (sym left)

  -- the records of the segment
  whole : are.records ++ first.left ≡ records ++ r.gives.body ∷ r.behind.left
  whole =
      ap (λ (l : List (List ℕ)). are.records ++ l) (r.reads.parts ∙ ap (λ (l : List (List ℕ)). r.read ++ l) (r.gives.reads.parts ∙ append_assoc passed (r.gives.body ∷ []) r.behind.left))
      ∙ sym (append_assoc are.records r.read (passed ++ r.gives.body ∷ r.behind.left)) ∙ sym (append_assoc (are.records ++ r.read) passed (r.gives.body ∷ r.behind.left))

  file : place.file ≡ are.file
  file = r.gives.file ∙ ap (λ (w : Segments). w.log.file) r.reads.same ∙ are.log.file

  log : HasFile files are.file (IsLog (records ++ r.gives.body ∷ r.behind.left))
  log = subst (λ (l : List (List ℕ)). HasFile files are.file (IsLog l)) whole
      (file_weaker are.file (Spells (are.records ++ first.left) (FoundBy first.wal.log.gate)) (IsLog (are.records ++ first.left))
      (λ bytes spells. found_log first.wal.log.gate (are.records ++ first.left) bytes are.log.fit spells) files (are.log.found told))

  -- the refused entry stands at its place, whatever segments are behind
  pub refuses_at : (others : List ℕ) → RefusesAt series floor files (first.wal.files ++ others) place.file place.offset
  refuses_at others = record {
    before = before ++ here;
    logged = logged;
    stands = record {
      earlier = are.before;
      later = others;
      parts = ap (λ (l : List ℕ). l ++ others) are.parts ∙ append_assoc are.before (are.file ∷ []) others ∙ ap (λ (n : ℕ). are.before ++ n ∷ others) (sym file);
      whole = earlier;
      have = are.have told;
      here = here;
      records = records;
      are = last.are;
      body = r.gives.body;
      spells = last.spells;
      behind = r.behind.left;
      log = subst (λ (n : ℕ). HasFile files n (IsLog (records ++ r.gives.body ∷ r.behind.left))) (sym file) log;
      all = refl;
      gate = r.gives.offset ∙ ap (λ (n : ℕ). n + length (spelled passed)) one.has.gate ∙ sym (spelled_length (are.records ++ r.read) passed);
    };
    is = record {
      past_floor = high;
      taken = subst (AreTaken series no_points) (sym past_here) (taken_both series no_points (entries_past floor (before ++ [])) r.given so_far (subst (λ (p : Points). AreTaken series p r.given) left r.taken));
      refused = λ taken. r.refused (subst (λ (p : Points). IsTaken series p r.entry) points_here (subst (λ (e : Entry). IsTaken series (after no_points (entries_past floor (before ++ here))) e) (ap (λ (l : Logged). l.entry) is_one) taken));
    };
  }
