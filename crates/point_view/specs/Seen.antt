-- What does a view see of a key in each of its contents, and in all of them?
use Rattle.std.specs.Prelude.{◌≡◌, ℤ, int_le, Bool, ◌&&◌, List, [], ◌∷◌, None, ⊤, if◌then◌else◌}
use Rattle.point_model.specs.declared.need.Need.{Need}
use Rattle.point_model.specs.Contents.{Content}
use Rattle.point_model.specs.Cursors.{Key, cell_at}
use Rattle.point_model.specs.Rows.{Row}
use Rattle.merge_cursor.specs.Overlays.{AreInOrder, value_of}

-- the time is one of those that the need asks for, both bounds included
abbrev pub is_asked : Need → ℤ → Bool
is_asked need time = int_le need.from time && int_le time need.to

-- The rows that a need asks of a key in a content: in its order, each time once, with what is live there between its bounds.
pub record AreRowsUnder (need : Need) (key : Key) (content : Content) (rows : List Row) : Type 0 where
  pub ordered : AreInOrder need.descending rows
  pub values : (time : ℤ) → value_of rows time ≡ (if is_asked need time then content (cell_at key time) else None)

-- each source has the rows of its content; the newest stands first
abbrev pub AreSourcesOf : Need → Key → List Content → List (List Row) → Type 0
AreSourcesOf need key [] [] = ⊤
AreSourcesOf need key [] (rows ∷ sources) = ⊥
AreSourcesOf need key (content ∷ older) [] = ⊥
AreSourcesOf need key (content ∷ older) (rows ∷ sources) = AreRowsUnder need key content rows × AreSourcesOf need key older sources
