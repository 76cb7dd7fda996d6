-- Which points a cursor gives, and in which order.
use Rattle.std.specs.Prelude.{◌≡◌, ℕ, ℤ, ◌≤ℤ◌, Bool, List, [], ◌∷◌, ◌++◌, reverse, if◌then◌else◌, Option, Some, None, Result, Ok, Err, ◌⊎◌}
use Rattle.shard_disk.specs.declared.damage.Damage.{Damage}
use Rattle.tsdb_types.specs.declared.value.Kind.{Kind}
use Rattle.tombstones.specs.Covered.{Tomb, Hides}
use Rattle.tsm_format.specs.declared.entry.Entry.{Entry}
use Rattle.tsm_format.specs.declared.row.KeyRow.{KeyRow}
use Rattle.point_model.specs.Rows.{Row}
use Rattle.point_model.specs.declared.fault.CursorFault.{CursorFault}
use Rattle.point_model.specs.declared.fault.CursorFault.TheVariants.{Fault, Damaged, Memory}
use Rattle.tsm_file.specs.ReadIndex.{Index, HasKey, LacksKey}
use Rattle.tsm_file.specs.ReadBlocks.{IsBlockOf, IsWrong, held_at}

-- what a cursor is asked for: the points of a key from one time to another, both included
pub record Asked : Type 0 where
  pub key : List ℕ
  pub from : ℤ
  pub to : ℤ
  pub descending : Bool

-- A cursor: the blocks that aren't read yet, in the order in which they are read, and the points that were read and
-- aren't given yet, in the order in which they are given. The blocks are of this kind.
pub record Cursor : Type 0 where
  pub file : ℕ
  pub kind : Kind
  pub asked : Asked
  pub blocks : List Entry
  pub points : List Row

-- the second list has the items of the first for which the fact holds, in their order
abbrev pub Picks : {X : Type 0} → (X → Type 0) → List X → List X → Type 0
Picks P [] picked = picked ≡ []
Picks {X} P (x ∷ xs) picked = ((rest : List X) × P x × Picks P xs rest × (picked ≡ x ∷ rest)) ⊎ ((¬ P x) × Picks P xs picked)

-- ascending, or descending where asked
abbrev pub directed : {X : Type 0} → Bool → List X → List X
directed descending xs = if descending then reverse xs else xs

-- the time lies within the bounds, and no tombstone of the key hides it
pub record IsLiveAt (tombs : List Tomb) (key : List ℕ) (from to : ℤ) (time : ℤ) : Type 0 where
  pub from_is : from ≤ℤ time
  pub to_is : time ≤ℤ to
  pub bare : ¬ Hides tombs key time

-- the point is one that is asked for and not hidden
abbrev pub IsLive : List Tomb → Asked → Row → Type 0
IsLive tombs asked point = IsLiveAt tombs asked.key asked.from asked.to point.0

-- the point lies within the bounds, both included
abbrev pub IsBetween : ℤ → ℤ → Row → Type 0
IsBetween from to point = (from ≤ℤ point.0) × (point.0 ≤ℤ to)

-- the block may have a point within the bounds
pub record Meets (from to : ℤ) (entry : Entry) : Type 0 where
  pub some : from ≤ℤ to
  pub behind : from ≤ℤ entry.max
  pub before : entry.min ≤ℤ to

-- the live points of these blocks, block after block
abbrev pub BlocksGive : List ℕ → List Tomb → Kind → Asked → List Entry → List Row → Type 0
BlocksGive bytes tombs kind asked [] given = given ≡ []
BlocksGive bytes tombs kind asked (entry ∷ entries) given =
    (points : List Row) × (live : List Row) × (rest : List Row) × IsBlockOf kind entry (held_at bytes entry) points
    × Picks (IsLive tombs asked) points live × BlocksGive bytes tombs kind asked entries rest × (given ≡ directed asked.descending live ++ rest)

-- what the cursor gives from now on, over a file of these bytes and under these tombstones
abbrev pub Gives : List ℕ → List Tomb → Cursor → List Row → Type 0
Gives bytes tombs cursor given =
    (rest : List Row) × BlocksGive bytes tombs cursor.kind cursor.asked cursor.blocks rest × (given ≡ cursor.points ++ rest)

-- the blocks of the key that meet the bounds, and the kind of their values; none where the file lacks the key
abbrev pub MeetBounds : List KeyRow → List ℕ → ℤ → ℤ → Kind → List Entry → Type 0
MeetBounds rows key from to kind entries =
    ((row : KeyRow) × HasKey rows key row × (kind ≡ row.kind) × Picks (Meets from to) row.entries entries) ⊎ (LacksKey rows key × (entries ≡ []))

-- a new cursor: nothing is read yet, and of the blocks of the key those are to be read that meet the bounds
pub record Begins (index : Index) (asked : Asked) (cursor : Cursor) : Type 0 where
  pub file : cursor.file ≡ index.file
  pub asks : cursor.asked ≡ asked
  pub entries : List Entry
  pub meet : MeetBounds index.rows asked.key asked.from asked.to cursor.kind entries
  pub blocks : cursor.blocks ≡ directed asked.descending entries
  pub points : cursor.points ≡ []

-- the point that a call gave, if any
abbrev pub given_by : Result (Option Row) CursorFault → List Row
given_by (Ok (Some point)) = point ∷ []
given_by (Ok None) = []
given_by (Err refusal) = []

-- A call read the first of the blocks that were left, and took these points: what was ready and the live points of
-- the blocks that it read are the points taken and those that are ready now.
pub record Takes (bytes : List ℕ) (tombs : List Tomb) (old : Cursor) (taken : List Row) (new : Cursor) : Type 0 where
  pub file : new.file ≡ old.file
  pub kind : new.kind ≡ old.kind
  pub asked : new.asked ≡ old.asked
  pub read : List Entry
  pub front : old.blocks ≡ read ++ new.blocks
  pub live : List Row
  pub gives : BlocksGive bytes tombs old.kind old.asked read live
  pub all : old.points ++ live ≡ taken ++ new.points

-- the next block that is to be read is damaged so
pub record IsNextWrong (bytes : List ℕ) (cursor : Cursor) (damage : Damage) : Type 0 where
  pub entry : Entry
  pub rest : List Entry
  pub next : cursor.blocks ≡ entry ∷ rest
  pub wrong : IsWrong cursor.file cursor.kind entry (held_at bytes entry) damage

-- a call that reads ahead leaves what the cursor gives, unless it is refused for damage, and damage is none
abbrev pub Stays : List ℕ → List Tomb → List Row → Result (Unit {0}) CursorFault → Cursor → Type 0
Stays bytes tombs given (Ok done) new = Gives bytes tombs new given
Stays bytes tombs given (Err (Damaged damage)) new = ⊥
Stays bytes tombs given (Err Fault) new = Gives bytes tombs new given
Stays bytes tombs given (Err Memory) new = Gives bytes tombs new given

-- Of a cursor that gives these points a call gave the first, or none where there is none. A refusal leaves all of
-- them, and damage is none.
abbrev pub Steps : List ℕ → List Tomb → List Row → Result (Option Row) CursorFault → Cursor → Type 0
Steps bytes tombs given (Ok (Some point)) new = (rest : List Row) × (given ≡ point ∷ rest) × Gives bytes tombs new rest
Steps bytes tombs given (Ok None) new = (given ≡ []) × Gives bytes tombs new []
Steps bytes tombs given (Err (Damaged damage)) new = ⊥
Steps bytes tombs given (Err Fault) new = Gives bytes tombs new given
Steps bytes tombs given (Err Memory) new = Gives bytes tombs new given
