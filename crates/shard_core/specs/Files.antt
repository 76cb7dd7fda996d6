-- What do files and merges have, one by one?
use Rattle.std.specs.Prelude.{ℕ, List, map}
use Rattle.std.specs.Option.{option_to_list}
use Rattle.point_model.specs.Contents.{Content}
use Rattle.shard_core.specs.State.{File, Merge, StoredFile}

-- the generation of a file as the disk has it
abbrev pub generation_in : StoredFile → ℕ
generation_in file = file.generation

-- what is live in it
abbrev pub content_in : StoredFile → Content
content_in file = file.content

-- a file as the disk has it
abbrev pub stored_of : File → StoredFile
stored_of file = file.stored

-- its number
abbrev pub file_number : File → ℕ
file_number file = file.stored.no

-- its generation
abbrev pub generation_of : File → ℕ
generation_of file = file.stored.generation

-- its tombstone file, where it has one
abbrev pub tombs_of_file : File → List ℕ
tombs_of_file file = option_to_list file.stored.tomb

-- what is live in it now
abbrev pub now_of : File → Content
now_of file = file.now

-- what is live in it as the disk has its tombstones
abbrev pub on_disk : File → Content
on_disk file = file.stored.content

-- the numbers of a merge's sources
abbrev pub source_numbers : Merge → List ℕ
source_numbers merge = map file_number merge.sources
