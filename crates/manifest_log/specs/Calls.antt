-- What are a manifest's log and its edits?
use Rattle.std.specs.Prelude.{◌≡◌, ◌≢◌, ◌⊎◌, ℕ, ◌≤◌, List, [], length, Option}
use Rattle.std.specs.FinMap.{keys}
use Rattle.shard_disk.specs.Crash.{Crashes}
use Rattle.shard_disk.specs.Directory.{HasFile, IsPresent}
use Rattle.shard_disk.specs.Directory.{Directory as Files}
use Rattle.shard_disk.specs.HandedOut.{HandedOut}
use Rattle.gate_log.specs.Calls.Make.{Makes}
use Rattle.gate_log.specs.Calls.Read.{Reads}
use Rattle.gate_log.specs.Log.{EndsBy}
use Rattle.gate_log.specs.Records.{Spells, spelled}
use Rattle.manifest_log.specs.declared.change.Change.{Change}
use Rattle.manifest_log.specs.declared.directory.Directory.{Directory}
use Rattle.manifest_log.specs.declared.manifest.Manifest.{Manifest}
use Rattle.manifest_log.specs.Format.{edit_bytes, IsWritable}
use Rattle.manifest_log.specs.Edits.{Follows, IsSound, last_number}
use Rattle.manifest_log.specs.Reading.{bodies_of, Lead, manifest}

-- The log of file 0 has these edits, one at least, which leave the directory; it names a segment, no file twice, and its floor is
-- the number of an entry.
pub record Finds (tells : Type 0) (found : Manifest) (directory : Directory) (files : Files) (crashes crashes' : Crashes) : Type 0 where
  pub edits : List (List Change)
  pub some : edits ≢ []
  pub log : Reads tells manifest found.log (bodies_of edits) files crashes crashes'
  pub lead : Lead edits directory
  pub segment : directory.segments ≢ []
  pub sound : IsSound directory
  pub floor : directory.floor ≤ last_number

-- no reader of a file is out
abbrev pub HasNoReader : HandedOut → Type 0
HasNoReader handed = (number : ℕ) → handed.readers number ≡ 0

-- file 0 as it is: a log without a record
pub record GoesOn (tells : Type 0) (begun : Manifest) (files files' : Files) (crashes crashes' : Crashes) (handed handed' : HandedOut) : Type 0 where
  pub there : tells → IsPresent files manifest
  pub log : Reads tells manifest begun.log [] files' crashes crashes'
  pub same : files' ≡ files
  pub handed_out : handed' ≡ handed

-- file 0 is new: the first file of the directory
pub record IsNew (tells : Type 0) (begun : Manifest) (files files' : Files) (crashes' : Crashes) (handed handed' : HandedOut) : Type 0 where
  pub none : tells → keys files ≡ []
  pub file : begun.log.file ≡ manifest
  pub log : Makes tells begun.log files files' crashes' handed handed'

-- a manifest without an edit
abbrev pub Begins : Type 0 → Manifest → Files → Files → Crashes → Crashes → HandedOut → HandedOut → Type 0
Begins tells begun files files' crashes crashes' handed handed' = GoesOn tells begun files files' crashes crashes' handed handed' ⊎ IsNew tells begun files files' crashes' handed handed'

-- the log has some edits, as its file reads, which leave a directory that these changes may follow, and then it names a segment
pub record CanFollow (changes : List Change) (old : Manifest) (files : Files) : Type 0 where
  pub edits : List (List Change)
  pub doubt : Option (List ℕ)
  pub directory : Directory
  pub next : Directory
  pub lead : Lead edits directory
  pub place : old.log.end ≡ length (spelled (bodies_of edits))
  pub reads : HasFile files old.log.file (Spells (bodies_of edits) (EndsBy old.log.gate doubt))
  pub follows : Follows directory changes next
  pub segment : next.segments ≢ []

-- the body is of an edit that can be written and may be made
pub record MayFollow (tells : Type 0) (body : List ℕ) (old : Manifest) (files : Files) : Type 0 where
  pub changes : List Change
  pub written : IsWritable changes
  pub are : body ≡ edit_bytes changes
  pub follows : tells → CanFollow changes old files
