-- What holds of an engine over all moments since its start?
use Rattle.std.specs.Prelude.{◌≡◌, ℕ, ◌+◌, ◌≤◌, List, [], ◌∷◌, length, map, take, Contains, Option}
use Rattle.std.specs.List.{AllByRecursion}
use Rattle.std.specs.Option.{option_to_list}
use Rattle.shard_disk.specs.Crash.{Crashes}
use Rattle.shard_disk.specs.Directory.{Directory}
use Rattle.shard_disk.specs.declared.disk.Disk.{Ghosts}
use Rattle.point_model.specs.Histories.{State, state_after}
use Rattle.point_model.specs.declared.entry.Entry.{Entry}
use Rattle.shard_state.specs.declared.logs.Logs.{Logs}
use Rattle.shard_state.specs.Books.{Books, state_in}
use Rattle.shard_state.specs.Engine.{Holds}
use Rattle.shard_state.specs.Meaning.{Stands}

-- an entry, and the moment at which the step that logged it ended
pub record Made : Type 0 where
  pub entry : Entry
  pub moment : ℕ

abbrev pub entries_of : List Made → List Entry
entries_of made = map (λ (m : Made). m.entry) made

-- an entry that was refused, behind the number of the last entry then
abbrev pub Attempt : Type 0
Attempt = ℕ × Entry

-- the entry was refused behind exactly the entries up to this number
abbrev pub WasRefused : List Attempt → ℕ → Entry → Type 0
WasRefused refused number entry = Contains refused (number, entry)

-- The directory stands for a prefix of the entries that has so many at least, or for that and one entry more, which was refused behind
-- exactly that prefix.
pub record StandsForPrefix (start : State) (entries : List Entry) (refused : List Attempt) (least : ℕ) (files : Directory) : Type 0 where
  pub count : ℕ
  pub at_least : least ≤ count
  pub at_most : count ≤ length entries
  pub further : List Entry
  pub one : length further ≤ 1
  pub asked : AllByRecursion (WasRefused refused (start.number + count)) further
  pub stands : Stands files (state_after (state_after start (take count entries)) further)

-- each image since the moment of an entry has that entry
abbrev pub AreKept : Crashes → State → List Entry → List Attempt → ℕ → List Made → Type 0
AreKept crashes start entries refused count [] = Unit {0}
AreKept crashes start entries refused count (m ∷ made) =
    (m.moment ≤ crashes.moment) × ((c : Directory) → crashes.since m.moment c → StandsForPrefix start entries refused (count + 1) c) × AreKept crashes start entries refused (count + 1) made

-- Each image of any moment since the start's stands for a prefix of the entries, with at most one entry more, which was refused behind
-- that prefix, and each since an entry's moment has that entry.
pub record Survives (crashes : Crashes) (start : State) (since : ℕ) (made : List Made) (refused : List Attempt) : Type 0 where
  pub later : since ≤ crashes.moment
  pub each : (c : Directory) → crashes.since since c → StandsForPrefix start (entries_of made) refused 0 c
  pub kept : AreKept crashes start (entries_of made) refused 0 made

-- The logs stand for the entries behind the start, with one in doubt or none, which was refused behind all of them; and every crash
-- since the start leaves a prefix of them.
pub record Ran {D R W : Type 0} (g : Ghosts D R W) (logs : Logs D) (start : State) (since : ℕ) (made : List Made) (refused : List Attempt) (doubt : Option Entry) : Type 0 where
  pub books : Books
  pub holds : Holds g logs books doubt
  pub is : state_in books ≡ state_after start (entries_of made)
  pub asked : AllByRecursion (WasRefused refused (start.number + length (entries_of made))) (option_to_list doubt)
  pub survives : Survives (g.crashes logs.disk) start since made refused
