-- Where the bytes of a log are wrong.
use Rattle.std.specs.Prelude.{◌≡◌, ◌≢◌, ◌⊎◌, ℕ, ◌+◌, ◌^◌, ◌<◌, List, [], ◌∷◌, ◌++◌, length, take, map, Vec}
use Rattle.std.specs.Int.{w32, to_be_bytes, from_be_bytes}
use Rattle.std.specs.declared.alloc.Global.{Global}
use Rattle.gate_log.specs.Records.{AllFit, Spells, spelled, IsShut}
use Rattle.gate_log.specs.Sum.{checksum_of}
use Rattle.shard_disk.specs.declared.damage.Damage.{Damage}
use Rattle.shard_disk.specs.declared.damage.Why.{Why}
use Rattle.shard_disk.specs.declared.damage.Why.TheVariants as why
use Rattle.gate_log.specs.declared.fault.LogFault.{LogFault}
use Rattle.gate_log.specs.declared.fault.LogFault.TheVariants as fault
use Rattle.gate_log.specs.declared.decode.Flaw.{Flaw}
use Rattle.gate_log.specs.declared.decode.Flaw.TheVariants.{Cut, WrongSum}

-- behind a gate: too few bytes for a record
abbrev pub IsCut : List ℕ → Type 0
IsCut behind = (length behind < 8) ⊎ (length behind < 8 + from_be_bytes w32 (take 4 behind))

-- behind a gate: a whole record, with another checksum of 32 bits than its body has
pub record HasWrongSum (stored computed : ℕ) (behind : List ℕ) : Type 0 where
  pub body : List ℕ
  pub rest : List ℕ
  pub bytes : behind ≡ to_be_bytes w32 (length body) ++ to_be_bytes w32 stored ++ body ++ rest
  pub fits : length body < 2 ^ 32
  pub sum : computed ≡ checksum_of body
  pub sizes : (stored < 2 ^ 32) × (computed < 2 ^ 32)
  pub wrong : stored ≢ computed

-- what the flaw says of the bytes behind an open gate
abbrev pub IsFlaw : Flaw → List ℕ → Type 0
IsFlaw Cut behind = IsCut behind
IsFlaw (WrongSum stored computed) behind = HasWrongSum stored computed behind

-- bytes of vectors
abbrev pub bodies : List (Vec ℕ Global) → List (List ℕ)
bodies records = map (λ body. body.items) records

-- why a record is damaged, and where that is named: at its gate, or at its checksum
abbrev pub IsNamed : Why → ℕ → List (List ℕ) → List ℕ → Type 0
IsNamed why.Body at records behind = (at ≡ length (spelled records)) × IsCut behind
IsNamed (why.Sum stored computed) at records behind = (at ≡ length (spelled records) + 5) × HasWrongSum stored computed behind
IsNamed other at records behind = ⊥

-- behind whole records, as many as there are, stands an open gate, and behind it no whole record with its checksum
pub record IsDamaged (damage : Damage) (number : ℕ) (bytes : List ℕ) : Type 0 where
  pub file : damage.file ≡ number
  pub records : List (List ℕ)
  pub fit : AllFit records
  pub behind : List ℕ
  pub spelling : bytes ≡ spelled records ++ 1 ∷ behind
  pub named : IsNamed damage.why damage.offset records behind

-- what a refusal says of the file's bytes
abbrev pub TellsOf : LogFault → ℕ → List ℕ → Type 0
TellsOf (fault.Damaged damage) number bytes = IsDamaged damage number bytes
TellsOf fault.Fault number bytes = Unit {0}
TellsOf fault.Memory number bytes = Unit {0}

-- no record more stands here: nothing does, or a gate that isn't open
abbrev pub IsEnd : List ℕ → Type 0
IsEnd rest = (rest ≡ []) ⊎ IsShut rest

-- the bytes are a log of these records, whose lengths fit, and then of none more
abbrev pub IsLog : List (List ℕ) → List ℕ → Type 0
IsLog records bytes = AllFit records × Spells records IsEnd bytes
