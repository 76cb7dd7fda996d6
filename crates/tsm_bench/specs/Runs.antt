-- Which points may be pushed one after the other under one key, and what is known of a writer to which they were.
use Rattle.std.specs.Prelude.{◌≡◌, ◌<ℤ◌, List, [], ◌∷◌, Option, Some, IfSome, ⊤}
use Rattle.tsdb_types.specs.Values.{kind_of}
use Rattle.point_model.specs.Rows.{Row}

-- each point is later than the one before and of its kind; a first one may stand before them all
abbrev pub Run : Option Row → List Row → Type 0
Run before [] = ⊤
Run before (point ∷ points) =
    IfSome before (λ earlier. (earlier.0 <ℤ point.0) × (kind_of earlier.1 ≡ kind_of point.1)) × Run (Some point) points
