-- How does a cache hold its runs, and a batch that is to come?
use Rattle.std.specs.Prelude.{◌≡◌, ◌≢◌, ℕ, ℤ, false, List, [], ◌∷◌, ◌⊎◌, map, length, sum_by, slice_get, nat_eq, Option, Some, if◌then◌else◌, ⊤}
use Rattle.std.specs.List.{AllByRecursion}
use Rattle.std.specs.Cmp.Lexicographic.{pointwise}
use Rattle.std.specs.declared.vec.Vec.{Vec}
use Rattle.std.specs.declared.alloc.Global.{Global}
use Rattle.point_model.specs.Rows.{Row}
use Rattle.tsdb_types.specs.declared.value.Value.{Value}
use Rattle.point_cache.specs.declared.key_points.KeyRun.{KeyRun}
use Rattle.point_cache.specs.Cached.{AreAscending, latest}

-- the points of a key, and those that it has once what is staged is committed
pub record Staged : Type 0 where
  pub live : List Row
  pub next : List Row

-- no points, and none staged
abbrev pub no_rows : Staged
no_rows = record { live = []; next = [] }

-- a key with its points
abbrev pub Entry : Type 0
Entry = List ℕ × Staged

-- as the map holds it
abbrev pub Slot : Type 0
Slot = Vec ℕ Global × Staged

abbrev pub entries_of : List Slot → List Entry
entries_of slots = map (λ slot. (slot.0.items, slot.1)) slots

-- the entry of a key, an empty one where there is none
abbrev pub staged_at : List Entry → List ℕ → Staged
staged_at [] key = no_rows
staged_at (entry ∷ entries) key = if pointwise nat_eq key entry.0 then entry.1 else staged_at entries key

-- the points that are committed
abbrev pub lives : List Entry → List KeyRun
lives entries = map (λ entry. record { key = entry.0; points = entry.1.live }) entries

-- what they become
abbrev pub nexts : List Entry → List KeyRun
nexts entries = map (λ entry. record { key = entry.0; points = entry.1.next }) entries

-- entries with these points and nothing staged
abbrev pub plain : List KeyRun → List Entry
plain runs = map (λ run. (run.key, record { live = run.points; next = run.points })) runs

-- no key stands twice
abbrev pub KeysApart : List Entry → Type 0
KeysApart [] = ⊤
KeysApart (entry ∷ entries) = AllByRecursion (λ other. pointwise nat_eq entry.0 other.0 ≡ false) entries × KeysApart entries

-- the place is one of these
abbrev pub Among : List ℕ → ℕ → Type 0
Among [] place = ⊥
Among (other ∷ places) place = (other ≡ place) ⊎ Among places place

-- What a contract sees of the runs: their entries, and the places that a batch touches.
pub record Staging : Type 0 where
  pub entries : List Entry
  pub touched : List ℕ

-- an entry's points ascend, and where some are staged its place is touched
pub record IsCovered (touched : List ℕ) (place : ℕ) (entry : Entry) : Type 0 where
  pub ascending : AreAscending entry.1.live
  pub covered : (entry.1.next ≡ entry.1.live) ⊎ Among touched place

abbrev pub AreCovered : List ℕ → List Entry → Type 0
AreCovered touched entries = (place : ℕ) (entry : Entry) → slice_get entries place ≡ Some entry → IsCovered touched place entry

-- What holds of runs: how many points they have, and how many they will.
pub record IsStaging (entries : List Entry) (touched : List ℕ) (points next_points : ℕ) : Type 0 where
  pub each : AreCovered touched entries
  pub counted : points ≡ sum_by (λ entry. length entry.1.live) entries
  pub next_counted : next_points ≡ sum_by (λ entry. length entry.1.next) entries

-- how many points there will be
abbrev pub next_count : List Entry → ℕ
next_count entries = sum_by (λ entry. length entry.1.next) entries

-- nothing is staged
abbrev pub IsUnstaged : List Entry → Type 0
IsUnstaged entries = AllByRecursion (λ entry. entry.1.next ≡ entry.1.live) entries

-- each key has a point
abbrev pub HavePoints : List Entry → Type 0
HavePoints entries = AllByRecursion (λ entry. entry.1.live ≢ []) entries

-- each key will have a point
abbrev pub WillHave : List Entry → Type 0
WillHave entries = AllByRecursion (λ entry. entry.1.next ≢ []) entries

-- what is staged is in the order of time
abbrev pub AreSettled : List Entry → Type 0
AreSettled entries = AllByRecursion (λ entry. AreAscending entry.1.next) entries

-- the value that a key will have at a time
abbrev pub next_value : List Entry → List ℕ → ℤ → Option Value
next_value entries key time = latest (staged_at entries key).next time
