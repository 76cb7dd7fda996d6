-- What do edits make of a directory?
use Rattle.std.specs.Prelude.{◌≡◌, ℕ, ◌≤◌, ◌==◌, Bool, not, ◌&&◌, nat_le, nat_eq, List, [], ◌∷◌, ◌++◌, filter, Option, None, Some, if◌then◌else◌}
use Rattle.std.specs.Option.{option_to_list, option_and_then}
use Rattle.std.specs.List.{flat_map, list_any, IsDistinct, AllByRecursion}
use Rattle.file_table.specs.declared.row.FileRow.{FileRow}
use Rattle.file_table.specs.Calls.{rows_with_tomb}
use Rattle.file_table.specs.Files.{files_of, generations_of}
use Rattle.manifest_log.specs.declared.change.Change.{Change}
use Rattle.manifest_log.specs.declared.change.Change.TheVariants.{AddSegment, ForgetSegment, AddFile, RemoveFile, NameTombs, SetFloor, NameSeries, NameIndex}
use Rattle.manifest_log.specs.declared.directory.Directory.{Directory}

-- nothing is named, and no entry is in files
abbrev pub empty : Directory
empty = record { segments = []; files = []; floor = 0; series = None; index_log = None; index_file = None }

-- the greatest number of an entry
abbrev pub last_number : ℕ
last_number = 9223372036854775807

-- a segment has this number
abbrev pub has_segment : ℕ → Directory → Bool
has_segment number directory = list_any (λ segment. segment == number) directory.segments

-- a TSM file has this number
abbrev pub has_file : ℕ → Directory → Bool
has_file number directory = list_any (λ (row : FileRow). row.no == number) directory.files

-- What a change makes of a directory, where it names what is there and its numbers are such: a level of 1 to 4, a generation
-- that is the number of an entry, and a floor that is one and doesn't fall.
abbrev pub changed : Directory → Change → Option Directory
changed directory (AddSegment number) = Some (record directory { segments = directory.segments ++ number ∷ [] })
changed directory (ForgetSegment number) =
    if has_segment number directory then Some (record directory { segments = filter (λ segment. not (segment == number)) directory.segments }) else None
changed directory (AddFile number generation sequence level points most_entries tomb) =
    if nat_le 1 level && (nat_le level 4 && nat_le generation last_number) then Some (record directory {
      files = directory.files ++ record { no = number; generation = generation; sequence = sequence; level = level; points = points; most_entries = most_entries; tomb = tomb; holds = 0; busy = Bool.false } ∷ [];
    }) else None
changed directory (RemoveFile number) =
    if has_file number directory then Some (record directory { files = filter (λ (row : FileRow). not (row.no == number)) directory.files }) else None
changed directory (NameTombs number tomb) =
    if has_file number directory then Some (record directory { files = rows_with_tomb number (Some tomb) directory.files }) else None
changed directory (SetFloor number) = if nat_le directory.floor number && nat_le number last_number then Some (record directory { floor = number }) else None
changed directory (NameSeries number) = Some (record directory { series = Some number })
changed directory (NameIndex log file) = Some (record directory { index_log = Some log; index_file = file })

-- one change after another
abbrev pub all_changed : Directory → List Change → Option Directory
all_changed directory [] = Some directory
all_changed directory (change ∷ changes) = option_and_then (λ next. all_changed next changes) (changed directory change)

-- every file that a directory names
abbrev pub names : Directory → List ℕ
names directory =
    directory.segments ++ (flat_map files_of directory.files ++ (option_to_list directory.series ++ (option_to_list directory.index_log ++ option_to_list directory.index_file)))

-- No file stands in two places, and the manifest, which is file 0, in none. No generation stands twice, or above the floor.
pub record IsSound (directory : Directory) : Type 0 where
  pub once : IsDistinct nat_eq (0 ∷ names directory)
  pub ages : IsDistinct nat_eq (generations_of directory.files)
  pub below : AllByRecursion (λ (row : FileRow). row.generation ≤ directory.floor) directory.files

-- An edit may follow where its changes can be made in order and what they leave is sound.
pub record Follows (old : Directory) (changes : List Change) (new : Directory) : Type 0 where
  pub made : all_changed old changes ≡ Some new
  pub sound : IsSound new

-- edits, each following what those before it left
abbrev pub Leave : Directory → List (List Change) → Directory → Type 0
Leave old [] new = new ≡ old
Leave old (edit ∷ edits) new = (next : Directory) × Follows old edit next × Leave next edits new
