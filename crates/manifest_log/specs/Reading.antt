-- What is the manifest of a disk read as, and what is wrong with another?
use Rattle.std.specs.Prelude.{◌≡◌, ◌≢◌, ◌⊎◌, ℕ, List, [], map, Option, None, Some, Result, Ok, Err}
use Rattle.std.specs.FinMap.{keys}
use Rattle.std.specs.List.{AllByRecursion}
use Rattle.shard_disk.specs.Directory.{HasFile}
use Rattle.shard_disk.specs.Directory.{Directory as Files}
use Rattle.shard_disk.specs.declared.damage.Damage.{Damage}
use Rattle.shard_disk.specs.declared.damage.Why.TheVariants.{NoManifest, Body}
use Rattle.gate_log.specs.Damage.{IsLog}
use Rattle.gate_log.specs.Following.{Grammar, plain_grammar}
use Rattle.gate_log.specs.Following as following
use Rattle.manifest_log.specs.declared.change.Change.{Change}
use Rattle.manifest_log.specs.declared.directory.Directory.{Directory}
use Rattle.manifest_log.specs.Found.{HasNoManifest}
use Rattle.manifest_log.specs.Format.{edit_bytes, IsWritable}
use Rattle.manifest_log.specs.Edits.{Follows, Leave, empty}

-- the file of the manifest
abbrev pub manifest : ℕ
manifest = 0

-- the bytes of edits, one record each
abbrev pub bodies_of : List (List Change) → List (List ℕ)
bodies_of edits = map edit_bytes edits

-- edits that can be written and leave this directory of an empty one
pub record Lead (edits : List (List Change)) (directory : Directory) : Type 0 where
  pub written : AllByRecursion IsWritable edits
  pub leave : Leave empty edits directory

-- the records of the file are edits, one at least, which leave this directory, and it names a segment
pub record IsManifest (directory : Directory) (bytes : List ℕ) : Type 0 where
  pub edits : List (List Change)
  pub some : edits ≢ []
  pub log : IsLog (bodies_of edits) bytes
  pub lead : Lead edits directory
  pub segment : directory.segments ≢ []

-- the body is of an edit that makes this directory of the one before
pub record Takes (before : Directory) (body : List ℕ) (next : Directory) : Type 0 where
  pub changes : List Change
  pub written : IsWritable changes
  pub are : body ≡ edit_bytes changes
  pub follows : Follows before changes next

-- how the records of a manifest are read
abbrev pub manifest_grammar : Grammar Directory
manifest_grammar = plain_grammar Takes

-- the body is of no edit that may follow
abbrev pub MayNotFollow : Directory → List ℕ → Type 0
MayNotFollow directory body = (next : Directory) → Takes directory body next → ⊥

-- among the records one stands behind edits, and is of none that may follow: it is named at its gate
abbrev pub StandsBehind : Damage → List (List ℕ) → Type 0
StandsBehind damage records = following.StandsBehind manifest_grammar empty damage manifest records

-- the records are edits, one at least, which leave a directory without a segment: it is named at the file's beginning
pub record HasNoSegment (damage : Damage) (bytes : List ℕ) : Type 0 where
  pub edits : List (List Change)
  pub directory : Directory
  pub some : edits ≢ []
  pub log : IsLog (bodies_of edits) bytes
  pub lead : Lead edits directory
  pub none : directory.segments ≡ []
  pub named : damage ≡ record { file = manifest; offset = 0; why = Body }

-- what a manifest's file is wrong by: its log or a record, or that it names no segment
abbrev pub IsWrong : Damage → List ℕ → Type 0
IsWrong damage bytes = following.IsWrong manifest_grammar empty damage manifest bytes ⊎ HasNoSegment damage bytes

-- no file is there, or file 0 is a log without a record
abbrev pub IsFresh : Files → Type 0
IsFresh files = (keys files ≡ []) ⊎ HasFile files manifest (IsLog [])

-- What a disk's manifest is read as: nothing yet, a directory, or the damage.
abbrev pub Reads : Files → Result (Option Directory) Damage → Type 0
Reads files (Ok None) = IsFresh files
Reads files (Ok (Some directory)) = HasFile files manifest (IsManifest directory)
Reads files (Err damage) =
    (HasNoManifest files × (damage ≡ record { file = manifest; offset = 0; why = NoManifest })) ⊎ HasFile files manifest (IsWrong damage)
