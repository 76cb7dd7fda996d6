-- Which files does a disk have?
use Rattle.std.specs.Prelude.{◌≡◌, ◌≢◌, []}
use Rattle.std.specs.FinMap.{keys}
use Rattle.shard_disk.specs.Directory.{Directory, IsPresent}
use Rattle.manifest_log.specs.declared.look.Found.{Found}
use Rattle.manifest_log.specs.declared.look.Found.TheVariants.{Nothing, Manifest, Others}

-- there is a file, and file 0 isn't there
pub record HasNoManifest (files : Directory) : Type 0 where
  pub some : keys files ≢ []
  pub none : IsPresent files 0 → ⊥

-- what was found of the files
abbrev pub IsFound : Found → Directory → Type 0
IsFound Nothing files = keys files ≡ []
IsFound Manifest files = IsPresent files 0
IsFound Others files = HasNoManifest files
