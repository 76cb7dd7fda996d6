-- Laws of overlays and of steps.
use Rattle.std.specs.Prelude.{◌≡◌, ◌↔◌, ℕ, ℤ, Bool, true, false, List, [], ◌∷◌, ◌++◌, map, filter, reverse, All, IsNone}
use Rattle.tsdb_types.specs.declared.value.Value.{Value}
use Rattle.point_model.specs.Rows.{Row}
use Rattle.merge_cursor.specs.Overlays.{AreInOrder, IsOverlay, overlay}
use Rattle.merge_cursor.specs.Steps.{IsNext, heads_of, advanced}

-- Sources have one overlay. A test of times lets the same rows of it through that it lets through of the sources; and the
-- overlay of sources in ascending order, each turned round, is theirs turned round.
pub record OneOverlay : Type 0 where
  pub is : (descending : Bool) (sources : List (List Row)) → IsOverlay descending sources (overlay descending sources)
  pub one : (descending : Bool) (sources : List (List Row)) (rows : List Row) → IsOverlay descending sources rows → rows ≡ overlay descending sources
  pub tested : (descending : Bool) (sources : List (List Row)) (test : ℤ → Bool)
      → overlay descending (map (filter (λ (row : Row). test row.0)) sources) ≡ filter (λ (row : Row). test row.0) (overlay descending sources)
  pub turned : (sources : List (List Row)) → All (AreInOrder false) sources → overlay true (map reverse sources) ≡ reverse (overlay false sources)

-- Of sources in order, no source has a row exactly where their overlay is empty; else its first row is the next one, and the
-- others are the overlay of what is left, which is in order again.
pub record StepsGiveOverlay : Type 0 where
  pub none : (descending : Bool) (sources : List (List Row)) → All IsNone (heads_of sources) ↔ (overlay descending sources ≡ [])
  pub next : (descending : Bool) (sources : List (List Row)) (source : ℕ) (time : ℤ) (value : Value) → All (AreInOrder descending) sources
      → IsNext descending (heads_of sources) source time value → overlay descending sources ≡ (time, value) ∷ overlay descending (advanced time sources)
  pub left : (descending : Bool) (sources : List (List Row)) (time : ℤ) → All (AreInOrder descending) sources → All (AreInOrder descending) (advanced time sources)

-- Sources that stand in a row may give place to their overlay.
abbrev pub OverlaysNest : Type 0
OverlaysNest =
    (descending : Bool) (newer some older : List (List Row)) → overlay descending (newer ++ (some ++ older)) ≡ overlay descending (newer ++ (overlay descending some ∷ older))
