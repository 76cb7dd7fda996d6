-- What is live at each cell, and what do layers show together, of which a newer one hides the older ones?
use Rattle.std.specs.Prelude.{Bool, List, [], ◌∷◌, Option, None, if◌then◌else◌}
use Rattle.std.specs.Option.{option_or}
use Rattle.tsdb_types.specs.declared.point.Cell.{Cell}
use Rattle.tsdb_types.specs.declared.value.Value.{Value}
use Rattle.point_model.specs.declared.deletion.Deletion.{Deletion}
use Rattle.point_model.specs.declared.entry.Entry.{Entry}
use Rattle.point_model.specs.Deletions.{is_deleted}
use Rattle.point_model.specs.Effects.{applied, effect}
use Rattle.point_model.specs.Points.{Points, value_at}

-- the value of each cell that is live
abbrev pub Content : Type 0
Content = Cell → Option Value

-- the live cells of a layer: those with a point that no tombstone covers
abbrev pub live : Points → (Cell → Bool) → Content
live points covers cell = if covers cell then None else value_at points cell

-- the value of a cell in the newest layer that has it live; the oldest stands first
abbrev pub overlay : List Content → Content
overlay [] cell = None
overlay (content ∷ newer) cell = option_or (overlay newer cell) (content cell)

-- what a deletion spares: each cell that it doesn't take away
abbrev pub spared : Deletion → Content → Content
spared deletion content cell = if is_deleted deletion cell then None else content cell

-- what an entry leaves of a content
abbrev pub acted : Entry → Content → Content
acted entry content cell = applied (effect entry cell) (content cell)
