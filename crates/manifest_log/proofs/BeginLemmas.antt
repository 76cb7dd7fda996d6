-- What is left where a manifest was begun, or wasn't.
use Rattle.std.proofs.Common.{◌≡◌, ◌≢◌, ◌⊎◌, inl, inr, ⊎_elim, ℕ, List, [], ◌∷◌, refl, sym, ap, ◌∙◌, subst, arith, length, Option, Vec, Result, Ok, Err, OnErr}
use Rattle.std.specs.Prelude.{IsSomeAnd}
use Rattle.std.specs.declared.option.Option.TheVariants.{None, Some}
use Rattle.std.specs.declared.alloc.Global.{Global}
use Rattle.std.specs.FinMap.{get, keys}
use Rattle.shard_disk.specs.Crash.{Crashes, Leaves, Same}
use Rattle.shard_disk.specs.Directory.{HasFile, IsPresent}
use Rattle.shard_disk.specs.Directory.{Directory as Files}
use Rattle.shard_disk.specs.HandedOut.{HandedOut, SkipsNumbers}
use Rattle.gate_log.specs.Calls.Make.{MakesNone}
use Rattle.shard_disk.specs.declared.damage.Damage.{Damage}
use Rattle.gate_log.specs.declared.log.Gate.{Gate}
use Rattle.gate_log.specs.Damage.{IsDamaged, IsLog, bodies}
use Rattle.gate_log.specs.Log.{EndsBy, FoundBy, HasGate, IsPlaced, Stands}
use Rattle.gate_log.specs.declared.log.Gate.TheVariants.{Shut, Missing, InDoubt}
use Rattle.shard_disk.proofs.Everywhere.{file_weaker}
use Rattle.gate_log.specs.Records.{AllFit, IsClosed, Spells}
use Rattle.gate_log.proofs.Images.{shut_has}
use Rattle.gate_log.proofs.Unique.{found_log, one_log, undamaged}
use Rattle.manifest_log.specs.declared.change.Change.{Change}
use Rattle.manifest_log.specs.declared.directory.Directory.{Directory}
use Rattle.manifest_log.specs.declared.manifest.Manifest.{Manifest}
use Rattle.manifest_log.specs.Calls.{Begins, CanFollow}
use Rattle.manifest_log.specs.Edits.{Follows as FollowsIn, empty}
use Rattle.manifest_log.specs.Reading.{manifest}
use Rattle.manifest_log.proofs.LookLemmas.{none_there, same_then}

skips_none : (old new : HandedOut) → new ≡ old → SkipsNumbers old new
skips_none old new same = subst (SkipsNumbers old) (sym same) (record { no_lower = omega arith; readers = refl; adopted = refl })

-- nothing was done
pub makes_none_same : (memory : Type 0) (files files' : Files) (crashes crashes' : Crashes) (handed handed' : HandedOut) → files' ≡ files → Leaves Same crashes crashes' → handed' ≡ handed
    → MakesNone memory files files' crashes crashes' handed handed'
makes_none_same memory files files' crashes crashes' handed handed' same run numbers = record {
  same = same;
  skips = skips_none handed handed' numbers;
  never = λ had. record { crash = run; handed_out = numbers };
}

-- ---- a log without a record

both_ways : (P Q : List ℕ → Type 0) {R : Type 0} → ((bytes : List ℕ) → P bytes → Q bytes → R) → (file : Option (List ℕ)) → IsSomeAnd file P → IsSomeAnd file Q → R
both_ways P Q leads None p q = absurd p
both_ways P Q leads (Some bytes) p q = leads bytes p q

pub log_undamaged : (files : Files) (damage : Damage) → HasFile files 0 (IsLog []) → HasFile files 0 (IsDamaged damage 0) → ⊥
log_undamaged files damage log bad = both_ways (IsLog []) (IsDamaged damage 0) (λ bytes is damaged. undamaged [] bytes damage 0 is damaged) (get files 0) log bad

pub no_records : (files : Files) (gate : Gate) (records : List (List ℕ)) → AllFit records → HasFile files 0 (IsLog []) → HasFile files 0 (Spells records (FoundBy gate)) → records ≡ []
no_records files gate records fit log found = both_ways (IsLog []) (Spells records (FoundBy gate)) (λ bytes is read. one_log records [] bytes (found_log gate records bytes fit read) is) (get files 0) log found

pub no_bodies : (records : List (Vec ℕ Global)) → bodies records ≡ [] → length records ≡ 0
no_bodies [] none = refl
no_bodies (r ∷ records) none = cc none

-- ---- the manifest was looked for first

pub on_err_map : {T E P Q : Type 0} (r : Result T E) → (P → Q) → OnErr r P → OnErr r Q
on_err_map (Ok x) f p = tt
on_err_map (Err e) f p = f p

pub makes_none_then : (memory : Type 0) (files mid files' : Files) (crashes between crashes' : Crashes) (handed looked handed' : HandedOut) → mid ≡ files → Leaves Same crashes between → looked ≡ handed
    → MakesNone memory mid files' between crashes' looked handed' → MakesNone memory files files' crashes crashes' handed handed'
makes_none_then memory files mid files' crashes between crashes' handed looked handed' same run numbers none =
    let from : MakesNone memory files files' between crashes' handed handed' =
    subst (λ (h : HandedOut). MakesNone memory files files' between crashes' h handed') numbers (subst (λ (f : Files). MakesNone memory f files' between crashes' looked handed') same none) in
    record {
      same = from.same;
      skips = from.skips;
      never = λ had. let n = from.never had in record { crash = same_then crashes between crashes' run n.crash; handed_out = n.handed_out };
    }

-- ---- what a manifest that was begun gives to its first edit

found_ends : (gate : Gate) (records : List (List ℕ)) (bytes : List ℕ) → Spells records (FoundBy gate) bytes → Spells records (EndsBy gate None) bytes
found_ends Shut records bytes found = found
found_ends Missing records bytes found = record { rest = found.rest; spelling = found.spelling; ending = let none : length found.rest ≡ 0 = ap length found.ending in omega (arith, none) }
found_ends InDoubt records bytes found = absurd found.ending

module _ (tells : Type 0) (told : tells) (begun : Manifest) (files files' : Files) (crashes crashes' : Crashes) (handed handed' : HandedOut) (begins : Begins tells begun files files' crashes crashes' handed handed') where
  pub begun_file : begun.log.file ≡ manifest
  begun_file = ⊎_elim (λ as_it_is. as_it_is.log.file) (λ new. new.file) begins

  pub begun_placed : IsPlaced files' begun.log
  begun_placed = ⊎_elim (λ as_it_is. as_it_is.log.placed told) (λ new. new.log.placed told) begins

  -- no edit and none in doubt, where the directory was empty or every crash had left file 0
  pub begun_stands : (keys files ≡ []) ⊎ ((image : Files) → crashes.now image → IsPresent image manifest) → Stands files' crashes' begun.log [] None
  begun_stands had = ⊎_elim
      (λ as_it_is. as_it_is.log.stands told (⊎_elim (λ none. absurd (none_there files none (as_it_is.there told))) (λ each. each) had))
      (λ new. new.log.stands told)
      begins

  -- a gate, where the directory was empty or file 0 was closed
  pub begun_gate : (keys files ≡ []) ⊎ HasFile files manifest IsClosed → HasGate begun.log
  begun_gate had = ⊎_elim
      (λ as_it_is. as_it_is.log.gated told (subst (λ (f : Files). HasFile f manifest IsClosed) (sym as_it_is.same) (⊎_elim (λ none. absurd (none_there files none (as_it_is.there told))) (λ closed. closed) had)))
      (λ new. shut_has begun.log new.log.shut)
      begins

  -- it has no edit, as its file reads
  begun_reads : (begun.log.end ≡ 0) × HasFile files' begun.log.file (Spells [] (EndsBy begun.log.gate None))
  begun_reads = ⊎_elim
      (λ as_it_is. (
        as_it_is.log.place,
        subst (λ (n : ℕ). HasFile files' n (Spells [] (EndsBy begun.log.gate None))) (sym as_it_is.log.file)
            (file_weaker manifest (Spells [] (FoundBy begun.log.gate)) (Spells [] (EndsBy begun.log.gate None)) (λ bytes is. found_ends begun.log.gate [] bytes is) files' (as_it_is.log.found told)),
      ))
      (λ new. let stands = new.log.stands told in (stands.place, stands.file.read))
      begins

  -- changes that may be made of a directory that names nothing are its first edit
  pub first_follows : (changes : List Change) (next : Directory) → FollowsIn empty changes next → next.segments ≢ [] → CanFollow changes begun files'
  first_follows changes next follows segment = record {
    edits = [];
    doubt = None;
    directory = empty;
    next = next;
    lead = record { written = tt; leave = refl };
    place = begun_reads.0;
    reads = begun_reads.1;
    follows = follows;
    segment = segment;
  }
