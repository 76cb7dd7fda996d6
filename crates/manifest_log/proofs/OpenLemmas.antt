-- What the file of a manifest is read as.
use Rattle.std.proofs.Common.{◌≡◌, ◌≢◌, ℕ, ◌≤◌, List, [], ◌∷◌, length, Bool, true, false, ◌&&◌, nat_le, refl, sym, subst, arith, inl, inr, Vec, None, Option, Some, if◌then◌else◌}
use Rattle.std.specs.Option.{option_and_then}
use Rattle.std.proofs.lemmas.Bool.Decides.{nat_tests}
use Rattle.std.specs.declared.alloc.Global.{Global}
use Rattle.shard_disk.specs.declared.damage.Damage.{Damage}
use Rattle.shard_disk.specs.Directory.{Directory as Files}
use Rattle.shard_disk.specs.Directory.{HasFile}
use Rattle.shard_disk.specs.Crash.{Crashes, Leaves, Same}
use Rattle.shard_disk.proofs.Everywhere.{file_weaker}
use Rattle.gate_log.specs.Damage.{IsLog, bodies}
use Rattle.gate_log.specs.Following as following
use Rattle.gate_log.specs.Records.{Spells, AllFit}
use Rattle.gate_log.specs.Log.{FoundBy}
use Rattle.gate_log.specs.declared.log.Gate.{Gate}
use Rattle.gate_log.specs.declared.log.Log.{Log}
use Rattle.gate_log.specs.Calls.Read.{Reads}
use Rattle.gate_log.proofs.FollowingLemmas.{strange_read}
use Rattle.gate_log.proofs.Reading.{reads_since}
use Rattle.gate_log.proofs.Unique.{found_log}
use Rattle.shard_disk.specs.declared.damage.Why.TheVariants.{Body}
use Rattle.manifest_log.specs.declared.change.Change.{Change}
use Rattle.manifest_log.specs.declared.change.Change.TheVariants.{AddSegment, ForgetSegment, AddFile, RemoveFile, NameTombs, SetFloor, NameSeries, NameIndex}
use Rattle.manifest_log.specs.declared.directory.Directory.{Directory}
use Rattle.manifest_log.specs.Edits.{IsSound, Leave, all_changed, changed, empty, has_file, has_segment, last_number}
use Rattle.manifest_log.specs.Reading.{IsWrong, StandsBehind, Lead, bodies_of, manifest_grammar}

-- the same reading, of files and crashes that were so before
pub reads_from : (tells : Type 0) (log : Log) (records records' : List (List ℕ)) (files files' : Files) (old mid new : Crashes) → files' ≡ files → records ≡ records' → Leaves Same old mid → Reads tells 0 log records files' mid new → Reads tells 0 log records' files old new
reads_from tells log records records' files files' old mid new same are run reads =
    let here : Reads tells 0 log records' files mid new = subst (λ (r : List (List ℕ)). Reads tells 0 log r files mid new) are (subst (λ (f : Files). Reads tells 0 log records f mid new) same reads) in
    reads_since tells 0 log records' files old mid new run here

-- ---- what is wrong with a file that was read

pub strange_file : (damage : Damage) (gate : Gate) (records : List (List ℕ)) (files : Files) → AllFit records → HasFile files 0 (Spells records (FoundBy gate)) → StandsBehind damage records → HasFile files 0 (IsWrong damage)
strange_file damage gate records files fit found strange =
    file_weaker 0 (following.IsWrong manifest_grammar empty damage 0) (IsWrong damage) (λ bytes wrong. inl wrong) files (strange_read manifest_grammar empty damage 0 gate records files fit strange found)

pub segment_file : (damage : Damage) (gate : Gate) (records : List (List ℕ)) (files : Files) (edits : List (List Change)) (directory : Directory) → AllFit records → HasFile files 0 (Spells records (FoundBy gate))
    → records ≡ bodies_of edits → edits ≢ [] → Lead edits directory → directory.segments ≡ [] → damage ≡ record { file = 0; offset = 0; why = Body } → HasFile files 0 (IsWrong damage)
segment_file damage gate records files edits directory fit found are some lead none named =
    file_weaker 0 (Spells records (FoundBy gate)) (IsWrong damage)
    (λ bytes here. inr (record {
      edits = edits;
      directory = directory;
      some = some;
      log = subst (λ (r : List (List ℕ)). IsLog r bytes) are (found_log gate records bytes fit here);
      lead = lead;
      none = none;
      named = named;
    }))
    files found

pub some_edits : (records : List (Vec ℕ Global)) (edits : List (List Change)) → (length records ≡ 0 → ⊥) → bodies records ≡ bodies_of edits → edits ≢ []
some_edits [] edits some are none = some refl
some_edits (r ∷ records) [] some are none = cc are
some_edits (r ∷ records) (e ∷ edits) some are none = cc none

-- ---- what edits leave

pub lead_sound : (edits : List (List Change)) (old new : Directory) → edits ≢ [] → Leave old edits new → IsSound new
lead_sound [] old new some leave = absurd (some refl)
lead_sound (edit ∷ []) old new some leave = subst IsSound (sym leave.2) leave.1.sound
lead_sound (edit ∷ other ∷ edits) old new some leave = lead_sound (other ∷ edits) leave.0 new (λ none. cc none) leave.2

-- a choice that is made
chosen : (b : Bool) (x y : Directory) → (if b then Some x else None) ≡ Some y → (x ≡ y) × (b ≡ true)
chosen true x y is = (cc is, refl)
chosen false x y is = cc is

kept : (b : Bool) (x y : Directory) → x.floor ≤ last_number → (if b then Some x else None) ≡ Some y → y.floor ≤ last_number
kept b x y low is = subst (λ (d : Directory). d.floor ≤ last_number) (chosen b x y is).0 low

both_true : (a b : Bool) → a && b ≡ true → b ≡ true
both_true true b is = is
both_true false b is = cc is

-- no change leaves a floor above the last number
floor_changed : (change : Change) (old new : Directory) → old.floor ≤ last_number → changed old change ≡ Some new → new.floor ≤ last_number
floor_changed (AddSegment number) old new low is = kept true _ new low is
floor_changed (ForgetSegment number) old new low is = kept (has_segment number old) _ new low is
floor_changed (AddFile number generation sequence level points most_entries tomb) old new low is = kept (nat_le 1 level && (nat_le level 4 && nat_le generation last_number)) _ new low is
floor_changed (RemoveFile number) old new low is = kept (has_file number old) _ new low is
floor_changed (NameTombs number tomb) old new low is = kept (has_file number old) _ new low is
floor_changed (SetFloor number) old new low is =
    let set = chosen (nat_le old.floor number && nat_le number last_number) (record old { floor = number }) new is in
    let most : nat_le number last_number ≡ true = both_true (nat_le old.floor number) (nat_le number last_number) set.1 in
    subst (λ (d : Directory). d.floor ≤ last_number) set.0 (grind (arith, nat_tests, most))
floor_changed (NameSeries number) old new low is = kept true _ new low is
floor_changed (NameIndex log file) old new low is = kept true _ new low is

floor_all : (changes : List Change) (old new : Directory) → old.floor ≤ last_number → all_changed old changes ≡ Some new → new.floor ≤ last_number
floor_all [] old new low is = let same : old ≡ new = cc is in subst (λ (d : Directory). d.floor ≤ last_number) same low
floor_all (change ∷ changes) old new low is = step (changed old change) refl is (λ mid below made. floor_all changes mid new below made)
  where
    step : (next : Option Directory) → changed old change ≡ next → option_and_then (λ mid. all_changed mid changes) next ≡ Some new
        → ((mid : Directory) → mid.floor ≤ last_number → all_changed mid changes ≡ Some new → new.floor ≤ last_number) → new.floor ≤ last_number
    step None made is further = cc is
    step (Some mid) made is further = further mid (floor_changed change old mid low made) is

pub lead_floor : (edits : List (List Change)) (old new : Directory) → old.floor ≤ last_number → Leave old edits new → new.floor ≤ last_number
lead_floor [] old new low leave = subst (λ (d : Directory). d.floor ≤ last_number) (sym leave) low
lead_floor (edit ∷ edits) old new low leave = lead_floor edits leave.0 new (floor_all edit old leave.0 low leave.1.made) leave.2
