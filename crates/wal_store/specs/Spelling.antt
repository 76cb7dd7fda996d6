-- Which bytes stand for which entry?
use Rattle.std.specs.Prelude.{◌≡◌, ℕ, ◌+◌, ◌^◌, ◌<◌, ◌≤◌, List, ◌∷◌, ◌++◌, length}
use Rattle.fixed_width.specs.Fields.{bytes_of_u32, bytes_of_i64}
use Rattle.tsdb_types.specs.Moments.{IsMoment}
use Rattle.tsdb_types.specs.declared.point.Point.{Point}
use Rattle.point_model.specs.declared.deletion.Deletion.{Deletion}
use Rattle.point_model.specs.declared.entry.Entry.{Entry}
use Rattle.point_model.specs.declared.entry.Entry.TheVariants.{Write, Delete}
use Rattle.wal_store.specs.Conditions.{condition_bytes, IsCondition}
use Rattle.wal_store.specs.Form.{Group, AreGroups, IsNameText, groups_bytes, points_of, text_bytes}

-- The bytes are groups of these points, in any grouping that keeps their order.
pub record SpellsPoints (points : List Point) (bytes : List ℕ) : Type 0 where
  pub groups : List Group
  pub are : AreGroups groups
  pub all : points ≡ points_of groups
  pub spelling : bytes ≡ groups_bytes groups

-- the measurement, the condition, and the first and the last time in eight bytes each
abbrev pub deletion_bytes : Deletion → List ℕ
deletion_bytes deletion =
    text_bytes deletion.measurement ++ (condition_bytes deletion.tags ++ (bytes_of_i64 deletion.from ++ bytes_of_i64 deletion.to))

-- the most nested condition of a log
abbrev pub most_nested : ℕ
most_nested = 65536

-- a deletion that can be written
pub record IsDeletion (deletion : Deletion) : Type 0 where
  pub measurement : IsNameText deletion.measurement
  pub tags : IsCondition most_nested deletion.tags
  pub from : IsMoment deletion.from
  pub to : IsMoment deletion.to

-- the bytes are this deletion
pub record SpellsDeletion (deletion : Deletion) (bytes : List ℕ) : Type 0 where
  pub is : IsDeletion deletion
  pub spelling : bytes ≡ deletion_bytes deletion

-- Behind the client stand 1 and a write, or 2 and a deletion.
abbrev pub SpellsBehind : Entry → List ℕ → Type 0
SpellsBehind (Write client points) bytes = (body : List ℕ) × (bytes ≡ bytes_of_u32 client ++ (1 ∷ body)) × (client < 2 ^ 32) × SpellsPoints points body
SpellsBehind (Delete client deletion) bytes =
    (body : List ℕ) × (bytes ≡ bytes_of_u32 client ++ (2 ∷ body)) × (client < 2 ^ 32) × SpellsDeletion deletion body

-- The bytes stand for the entry: the client in four bytes, and what was accepted. With a number of eight bytes before them
-- they have at most 2 ^ 30.
pub record Spells (entry : Entry) (bytes : List ℕ) : Type 0 where
  pub short : 8 + length bytes ≤ 2 ^ 30
  pub body : SpellsBehind entry bytes
