-- Segments that are read into memory, one behind the other.
use Rattle.std.proofs.Common.{◌≡◌, ◌⊎◌, ⊎_elim, inl, inr, ℕ, ◌≤◌, List, [], ◌∷◌, ◌++◌, refl, sym, ap, ◌∙◌, subst, append_assoc, None, Some}
use Rattle.std.proofs.lemmas.List.{append-nil}
use Rattle.shard_disk.specs.Crash.{Crashes, Leaves, Same}
use Rattle.shard_disk.specs.Directory.{Directory, HasFile}
use Rattle.shard_disk.proofs.Everywhere.{file_weaker}
use Rattle.shard_disk.specs.declared.damage.Damage.{Damage}
use Rattle.gate_log.specs.Calls.Read.{Reads as ReadsLog}
use Rattle.gate_log.specs.Damage.{TellsOf}
use Rattle.gate_log.specs.declared.fault.LogFault.TheVariants.{Damaged}
use Rattle.point_model.specs.Histories.{after}
use Rattle.point_model.specs.Points.{Points, no_points}
use Rattle.point_model.specs.declared.entry.Entry.{Entry}
use Rattle.wal_store.specs.Reading.{AreRead, Reads, Replaying, TakesAll, entries_past}
use Rattle.wal_store.specs.Replay.{AreCounted, HasSegments, IsWrong, IsWrongSegment, Logged, Replays, joined}
use Rattle.wal_store.specs.Segments.{Segments, last_number, one_segment, with_segment}
use Rattle.wal_store.specs.declared.replay.Place.{Place}
use Rattle.wal_store.proofs.SegmentLemmas.{AreWhole, first_open, first_whole, more_whole, next_entries, next_open, whole_replays}
use Rattle.shard_state.specs.Meaning.{AreTaken}
use Rattle.shard_recover.specs.Damage.{IsMissing, IsWrongLog, RefusesAt}
use Rattle.shard_recover.proofs.OpeningLemmas.{replays_have, replays_hold}
use Rattle.shard_opening.specs.Filling.{Fills, FillsAll, IsBadFile}
use Rattle.shard_opening.specs.declared.filling.Filling.{Filling}
use Rattle.shard_opening.proofs.FillLemmas.{after_both, taken_both}
use Rattle.shard_opening.proofs.PlaceLemmas.{refuses_at}

-- these segments are read to their ends, and their entries are in memory but for those from a refused one on
pub record AreFilled (tells : Type 0) (series : List (List ℕ)) (floor : ℕ) (segments : List ℕ) (replay : Replaying) (filling : Filling) (files : Directory) (crashes crashes' : Crashes) : Type 0 where
  pub entries : List Entry
  pub all : AreWhole tells floor segments replay entries files crashes crashes'
  pub taken : filling.refused ≡ None → AreTaken series no_points entries × (filling.live.points ≡ after no_points entries)
  pub refuses : tells → (place : Place) → filling.refused ≡ Some place → RefusesAt series floor files segments place.file place.offset

pub fills_all : (tells : Type 0) (series : List (List ℕ)) (floor : ℕ) (segments : List ℕ) (replay : Replaying) (filling : Filling) (files : Directory) (crashes crashes' : Crashes) → AreFilled tells series floor segments replay filling files crashes crashes'
    → FillsAll tells series floor segments replay.wal filling files crashes crashes'
fills_all tells series floor segments replay filling files crashes crashes' f = record {
  entries = f.entries;
  replays = whole_replays tells floor segments replay f.entries files crashes crashes' f.all;
  taken = f.taken;
  refuses = f.refuses;
}

takes_all : (series : List (List ℕ)) (first now : Replaying) (old new : Filling) (entries : List Entry) → (f : Fills series first now first.left old new) → now.left ≡ [] → TakesAll first now entries (entries ++ f.given)
takes_all series first now old new entries f none = record { given = f.given; reads = f.reads; none = none; behind = refl }

-- ---- the first segment

pub first_filled : (tells : Type 0) (series : List (List ℕ)) (floor file : ℕ) (open_ closed : Replaying) (old new : Filling) (files : Directory) (crashes crashes' : Crashes) → floor ≤ last_number → old.refused ≡ None → old.live.points ≡ no_points
    → open_ ≡ record { floor = floor; wal = one_segment open_.wal.log floor; left = open_.left; gate = 0 } → ReadsLog tells file open_.wal.log open_.left files crashes crashes' → Fills series open_ closed open_.left old new → closed.left ≡ []
    → AreFilled tells series floor (file ∷ []) closed new files crashes crashes'
first_filled tells series floor file open_ closed old new files crashes crashes' most unrefused empty is log f none =
    let are = first_open tells floor file open_ files crashes crashes' most is log in
    let own : open_.wal.files ≡ file ∷ [] = ap (λ (r : Replaying). r.wal.files) is ∙ ap (λ (n : ℕ). n ∷ []) log.file in
    record {
      entries = [] ++ f.given;
      all = first_whole tells floor file open_ closed [] ([] ++ f.given) files crashes crashes' most refl is log (takes_all series open_ closed old new [] f none);
      taken = λ all. let t = f.taken all in (subst (λ (p : Points). AreTaken series p f.given) empty t.1, t.2 ∙ ap (λ (p : Points). after p f.given) empty);
      refuses = λ told place refused. ⊎_elim
          (λ had. absurd (cc (unrefused, had)))
          (λ here. subst (λ (l : List ℕ). RefusesAt series floor files l place.file place.offset) (append-nil open_.wal.files ∙ own)
          (refuses_at tells told series floor open_ [] files crashes crashes' are (ap (λ (r : Replaying). r.floor) is) old.live.points tt empty place here.1 []))
          (f.refuses place refused);
    }

-- ---- a segment more

-- what stood in some segments stands in them with more behind
more_refuses : (series : List (List ℕ)) (floor : ℕ) (files files' : Directory) (segments : List ℕ) (more : List ℕ) (file offset : ℕ) → files' ≡ files → RefusesAt series floor files segments file offset → RefusesAt series floor files' (segments ++ more) file offset
more_refuses series floor files files' segments more file offset same r =
    subst (λ (f : Directory). RefusesAt series floor f (segments ++ more) file offset) (sym same) (record {
      before = r.before;
      logged = r.logged;
      stands = record {
        earlier = r.stands.earlier;
        later = r.stands.later ++ more;
        parts = ap (λ (l : List ℕ). l ++ more) r.stands.parts ∙ append_assoc r.stands.earlier (file ∷ r.stands.later) more;
        whole = r.stands.whole;
        have = r.stands.have;
        here = r.stands.here;
        records = r.stands.records;
        are = r.stands.are;
        body = r.stands.body;
        spells = r.stands.spells;
        behind = r.stands.behind;
        log = r.stands.log;
        all = r.stands.all;
        gate = r.stands.gate;
      };
      is = r.is;
    })

pub more_filled : (tells : Type 0) (series : List (List ℕ)) (floor file : ℕ) (segments : List ℕ) (old open_ closed : Replaying) (mid new : Filling) (files files' : Directory) (crashes middle crashes' : Crashes) → files' ≡ files → Leaves Same crashes middle → Leaves Same middle crashes'
    → open_ ≡ record { floor = old.floor; wal = with_segment old.wal open_.wal.log; left = open_.left; gate = 0 } → ReadsLog tells file open_.wal.log open_.left files' middle crashes' → Fills series open_ closed open_.left mid new → closed.left ≡ []
    → AreFilled tells series floor segments old mid files crashes middle → AreFilled tells series floor (segments ++ file ∷ []) closed new files' crashes crashes'
more_filled tells series floor file segments old open_ closed mid new files files' crashes middle crashes' same first second is log f none before =
    let b = before.all in
    let are = next_open tells file old open_ b.earlier b.here files files' crashes middle crashes' b.none same first second is log b.are in
    let from : open_.floor ≡ old.floor = ap (λ (r : Replaying). r.floor) is in
    let own : open_.wal.files ≡ segments ++ file ∷ [] = ap (λ (r : Replaying). r.wal.files) is ∙ (λ i. b.own i ++ log.file i ∷ []) in
    let so_far : before.entries ≡ entries_past floor (joined (b.earlier ++ b.here ∷ []) ++ []) =
    b.past_floor ∙ (λ i. entries_past (sym b.from i) (joined b.earlier ++ b.here)) ∙ sym (next_entries old open_ b.earlier b.here from) ∙ (λ i. entries_past ((from ∙ b.from) i) (joined (b.earlier ++ b.here ∷ []) ++ [])) in
    record {
      entries = before.entries ++ f.given;
      all = more_whole tells floor file segments old open_ closed before.entries (before.entries ++ f.given) files files' crashes middle crashes' same first second is log (takes_all series open_ closed mid new before.entries f none) b;
      taken = λ all.
          let t = f.taken all in
          let had = before.taken t.0 in (
            taken_both series no_points before.entries f.given had.0 (subst (λ (p : Points). AreTaken series p f.given) had.1 t.1),
            t.2 ∙ ap (λ (p : Points). after p f.given) had.1 ∙ sym (after_both no_points before.entries f.given),
          );
      refuses = λ told place refused. ⊎_elim
          (λ had. more_refuses series floor files files' segments (file ∷ []) place.file place.offset same (before.refuses told place had))
          (λ here.
          let had = before.taken here.0 in
          subst (λ (l : List ℕ). RefusesAt series floor files' l place.file place.offset) (append-nil open_.wal.files ∙ own)
          (refuses_at tells told series floor open_ (b.earlier ++ b.here ∷ []) files' crashes crashes' are (from ∙ b.from) mid.live.points
          (subst (AreTaken series no_points) so_far had.0) (had.1 ∙ ap (after no_points) so_far) place here.1 []))
          (f.refuses place refused);
    }

-- ---- what is wrong

-- a segment is wrong as its own crate names it
pub wrong_segment : (damage : Damage) (floor : ℕ) (files : Directory) (segments : List ℕ) → IsWrong damage floor files segments → IsWrongLog damage floor files segments
wrong_segment damage floor files segments w = record { sound = w.sound; wrong_file = w.wrong_file; others = w.others; parts = w.parts; logged = w.logged; have = w.have; counted = w.counted; wrong = inr w.wrong }

-- a file that is missing, or whose log is damaged, is wrong behind whatever entries
wrong_file : (damage : Damage) (files : Directory) (file floor : ℕ) (before : List Logged) → IsBadFile damage files file → IsMissing damage files file ⊎ HasFile files file (IsWrongSegment damage file floor before)
wrong_file damage files file floor before bad = ⊎_elim (λ gone. inl gone)
    (λ log. inr (file_weaker file (TellsOf (Damaged damage) file) (IsWrongSegment damage file floor before) (λ bytes is. inl is) files log)) bad

pub bad_first : (damage : Damage) (floor file : ℕ) (others : List ℕ) (files : Directory) → IsBadFile damage files file → IsWrongLog damage floor files (file ∷ others)
bad_first damage floor file others files bad = record { sound = []; wrong_file = file; others = others; parts = refl; logged = []; have = tt; counted = refl; wrong = wrong_file damage files file floor [] bad }

pub bad_next : (tells : Type 0) (told : tells) (damage : Damage) (floor file : ℕ) (segments others : List ℕ) (replay : Replaying) (entries : List Entry) (files : Directory) (crashes crashes' : Crashes) → IsBadFile damage files file
    → AreWhole tells floor segments replay entries files crashes crashes' → IsWrongLog damage floor files (segments ++ file ∷ others)
bad_next tells told damage floor file segments others replay entries files crashes crashes' bad all =
    let r : Replays tells floor segments replay.wal entries files crashes crashes' = whole_replays tells floor segments replay entries files crashes crashes' all in
    record {
      sound = segments;
      wrong_file = file;
      others = others;
      parts = refl;
      logged = r.earlier ++ r.latest ∷ [];
      have = replays_have tells told floor segments replay.wal entries files crashes crashes' r;
      counted = let holds = replays_hold tells floor segments replay.wal entries files crashes crashes' r in holds.counted;
      wrong = wrong_file damage files file floor (joined (r.earlier ++ r.latest ∷ [])) bad;
    }
