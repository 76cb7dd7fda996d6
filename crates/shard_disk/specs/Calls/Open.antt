-- What a reader is, as it is handed out.
use Rattle.std.specs.Prelude.{◌≡◌, ℕ, ◌<◌, List, Some}
use Rattle.std.specs.FinMap.{get}
use Rattle.shard_disk.specs.Directory.{Directory}
use Rattle.shard_disk.specs.HandedOut.{HandedOut}

-- It is one of the file with this number, which was given to a file, and has its bytes.
pub record Opens (tells : Type 0) (number : ℕ) (files : Directory) (handed : HandedOut) (opened : ℕ) (content : List ℕ) : Type 0 where
  pub reads : tells → get files number ≡ Some content
  pub known : number < handed.next_number
  pub file : opened ≡ number
