-- What reading a log tells of it.
use Rattle.std.proofs.Common.{◌≡◌, ◌≢◌, ◌⊎◌, ⊎_elim, ℕ, ◌≤◌, List, ◌++◌, length, drop, sym, ◌∙◌, ap, subst, arith, length-drop, Option}
use Rattle.std.proofs.lemmas.List.{take_all, drop_all}
use Rattle.std.specs.Prelude.{IsSome, IsSomeAnd}
use Rattle.std.specs.declared.option.Option.TheVariants.{None, Some}
use Rattle.std.specs.FinMap.{get}
use Rattle.std.proofs.lemmas.Bool.{false≢true}
use Rattle.shard_disk.specs.Directory.{Directory, HasFile, IsPresent, bytes_at}
use Rattle.shard_disk.specs.Crash.{Crashes, Leaves, Same, IsDurable}
use Rattle.shard_disk.proofs.Everywhere.{everywhere_durable, file_weaker}
use Rattle.gate_log.specs.Damage.{IsEnd}
use Rattle.gate_log.specs.declared.log.Gate.{Gate}
use Rattle.gate_log.specs.declared.log.Gate.TheVariants.{Shut, Missing, InDoubt}
use Rattle.gate_log.specs.declared.log.Log.{Log}
use Rattle.gate_log.specs.Records.{AllFit, spelled, IsClosed, Spells}
use Rattle.gate_log.specs.Calls.Read.{Reads}
use Rattle.gate_log.proofs.Unique.{closed_goes_on}
use Rattle.gate_log.specs.Log.{EndsBy, FoundBy, HasGate, Stands}

both_ways : (P Q R : List ℕ → Type 0) → ((bytes : List ℕ) → P bytes → Q bytes → R bytes) → (file : Option (List ℕ)) → IsSomeAnd file P → IsSomeAnd file Q → IsSomeAnd file R
both_ways P Q R leads None p q = p
both_ways P Q R leads (Some bytes) p q = leads bytes p q

-- all the bytes of the file were read
pub file_is : (files : Directory) (number len : ℕ) (out bytes : List ℕ) → HasFile files number (λ file. len ≡ length file) → HasFile files number (λ file. out ≡ bytes_at file 0 len) → bytes ≡ out → HasFile files number (λ file. bytes ≡ file)
file_is files number len out bytes long read is =
    both_ways (λ file. len ≡ length file) (λ file. out ≡ bytes_at file 0 len) (λ file. bytes ≡ file) (λ file size whole. is ∙ whole ∙ take_all len file (omega (arith, size))) (get files number) long read

pub file_so : (files : Directory) (number : ℕ) (bytes : List ℕ) (P : List ℕ → Type 0) → HasFile files number (λ file. bytes ≡ file) → P bytes → HasFile files number P
file_so files number bytes P is so = file_weaker number (λ file. bytes ≡ file) P (λ file same. subst P same so) files is

present_so : (file : Option (List ℕ)) → IsSome file → IsSomeAnd file (λ _. Unit {0})
present_so None is = absurd (false≢true is)
present_so (Some bytes) is = tt

-- how the bytes end, as the gate tells
ends_by : (gate : Gate) (bytes : List ℕ) (end : ℕ) → IsEnd (drop end bytes) → (gate ≡ Missing) × (end ≡ length bytes) ⊎ (gate ≡ Shut) × (end ≢ length bytes) → end ≤ length bytes → EndsBy gate None (drop end bytes)
ends_by gate bytes end ends chosen within =
    ⊎_elim
    (λ missing. subst (λ (g : Gate). EndsBy g None (drop end bytes)) (sym missing.0) (let size = length-drop end bytes in omega (arith, size, missing.1)))
    (λ shut. subst (λ (g : Gate). EndsBy g None (drop end bytes)) (sym shut.0) (⊎_elim
    (λ nothing. absurd (shut.1 (let size = length-drop end bytes in let none : length (drop end bytes) ≡ 0 = ap length nothing in omega (arith, size, none, within))))
    (λ closed. closed) ends))
    chosen

pub spells : (gate : Gate) (records : List (List ℕ)) (bytes : List ℕ) (end : ℕ) → bytes ≡ spelled records ++ drop end bytes → IsEnd (drop end bytes) → (gate ≡ Missing) × (end ≡ length bytes) ⊎ (gate ≡ Shut) × (end ≢ length bytes) → end ≤ length bytes → Spells records (EndsBy gate None) bytes
spells gate records bytes end spelling ends chosen within = record { rest = drop end bytes; spelling = spelling; ending = ends_by gate bytes end ends chosen within }

pub stands_read : (log : Log) (files : Directory) (old new : Crashes) (records : List (List ℕ)) → ((image : Directory) → old.now image → IsPresent image log.file) → Leaves Same old new → IsDurable files new log.file
    → log.end ≡ length (spelled records) → HasFile files log.file (Spells records (EndsBy log.gate None)) → Stands files new log records None
stands_read log files old new records present run durable place so = record {
  place = place;
  file = everywhere_durable log.file (λ _. Unit {0}) (Spells records (EndsBy log.gate None)) files new so
      (record {
        read = file_weaker log.file (Spells records (EndsBy log.gate None)) (λ _. Unit {0}) (λ bytes is. tt) files so;
        left = λ c now.
            let from = run.now c now in present_so (get c log.file) (subst (λ (d : Directory). IsPresent d log.file) (sym from.2) (present from.0 from.1));
      })
      durable;
}

-- how the bytes end, exactly
found_by : (gate : Gate) (bytes : List ℕ) (end : ℕ) → IsEnd (drop end bytes) → (gate ≡ Missing) × (end ≡ length bytes) ⊎ (gate ≡ Shut) × (end ≢ length bytes) → end ≤ length bytes → FoundBy gate (drop end bytes)
found_by gate bytes end ends chosen within =
    ⊎_elim
    (λ missing. subst (λ (g : Gate). FoundBy g (drop end bytes)) (sym missing.0) (drop_all end bytes (omega (arith, missing.1))))
    (λ shut. subst (λ (g : Gate). FoundBy g (drop end bytes)) (sym shut.0) (⊎_elim
    (λ nothing. absurd (shut.1 (let size = length-drop end bytes in let none : length (drop end bytes) ≡ 0 = ap length nothing in omega (arith, size, none, within))))
    (λ closed. closed) ends))
    chosen

pub found : (gate : Gate) (records : List (List ℕ)) (bytes : List ℕ) (end : ℕ) → bytes ≡ spelled records ++ drop end bytes → IsEnd (drop end bytes) → (gate ≡ Missing) × (end ≡ length bytes) ⊎ (gate ≡ Shut) × (end ≢ length bytes) → end ≤ length bytes → Spells records (FoundBy gate) bytes
found gate records bytes end spelling ends chosen within = record { rest = drop end bytes; spelling = spelling; ending = found_by gate bytes end ends chosen within }

has_gate : (gate : Gate) (records : List (List ℕ)) (bytes : List ℕ) → AllFit records → Spells records (FoundBy gate) bytes → IsClosed bytes → gate ≢ Missing
has_gate Shut records bytes fit found closed is = cc
has_gate Missing records bytes fit found closed is = closed_goes_on records bytes found.rest fit found.spelling found.ending closed
has_gate InDoubt records bytes fit found closed is = absurd found.ending

pub closed_has : (files : Directory) (log : Log) (records : List (List ℕ)) → AllFit records → HasFile files log.file (Spells records (FoundBy log.gate)) → HasFile files log.file IsClosed → HasGate log
closed_has files log records fit found closed is =
    somewhere (get files log.file) (both_ways (Spells records (FoundBy log.gate)) IsClosed (λ bytes. ⊥) (λ bytes f g. has_gate log.gate records bytes fit f g is) (get files log.file) found closed)
  where
    somewhere : (file : Option (List ℕ)) → IsSomeAnd file (λ bytes. ⊥) → ⊥
    somewhere None h = h
    somewhere (Some bytes) h = h

-- ---- a log that was read, where nothing was added before or behind

durable_then : (files : Directory) (old new : Crashes) (number : ℕ) → Leaves Same old new → IsDurable files old number → IsDurable files new number
durable_then files old new number run durable c now =
    let from = run.now c now in
    subst (λ (d : Directory). (get d number ≡ None) ⊎ (get d number ≡ get files number)) (sym from.2) (durable from.0 from.1)

pub stands_then : (files : Directory) (old new : Crashes) (log : Log) (records : List (List ℕ)) (doubt : Option (List ℕ)) → Leaves Same old new → Stands files old log records doubt → Stands files new log records doubt
stands_then files old new log records doubt run stands = record {
  place = stands.place;
  file = record {
    read = stands.file.read;
    left = λ c now. let from = run.now c now in subst (λ (d : Directory). HasFile d log.file (Spells records (EndsBy log.gate doubt))) (sym from.2) (stands.file.left from.0 from.1);
  };
}

pub reads_since : (tells : Type 0) (number : ℕ) (log : Log) (records : List (List ℕ)) (files : Directory) (first old new : Crashes) → Leaves Same first old → Reads tells number log records files old new → Reads tells number log records files first new
reads_since tells number log records files first old new run reads = record {
  found = reads.found;
  fit = reads.fit;
  place = reads.place;
  durable = reads.durable;
  stands = λ told present. reads.stands told (λ c now. let from = run.now c now in subst (λ (d : Directory). IsPresent d number) (sym from.2) (present from.0 from.1));
  gated = reads.gated;
  placed = reads.placed;
  file = reads.file;
  sure = reads.sure;
}

pub reads_then : (tells : Type 0) (number : ℕ) (log : Log) (records : List (List ℕ)) (files : Directory) (old mid new : Crashes) → Leaves Same mid new → Reads tells number log records files old mid → Reads tells number log records files old new
reads_then tells number log records files old mid new run reads = record {
  found = reads.found;
  fit = reads.fit;
  place = reads.place;
  durable = durable_then files mid new number run reads.durable;
  stands = λ told present. stands_then files mid new log records None run (reads.stands told present);
  gated = reads.gated;
  placed = reads.placed;
  file = reads.file;
  sure = reads.sure;
}
