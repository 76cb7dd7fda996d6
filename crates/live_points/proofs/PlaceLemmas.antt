-- The kind of a point's column is found at its place.
use Rattle.std.proofs.Common.{◌≡◌, ◌∙◌, ap, sym, refl, ℕ, zero, suc, ◌+◌, ◌<◌, List, [], ◌∷◌, map, drop, length, Option, Some, None, option_map, slice_get, slice_index_or, arith}
use Rattle.std.proofs.lemmas.Option.{slice_get-map}
use Rattle.tsdb_types.specs.Columns.{column_of}
use Rattle.tsdb_types.specs.Values.{kind_of}
use Rattle.tsdb_types.specs.declared.column.Column.{Column}
use Rattle.tsdb_types.specs.declared.point.Point.{Point}
use Rattle.tsdb_types.specs.declared.value.Kind.{Kind}
use Rattle.point_model.specs.Acceptance.{Conflict, conflict_before}
use Rattle.point_model.proofs.StoredLemmas.{none_some, some_values}
use Rattle.point_cache.specs.declared.key_points.KeyRun.{KeyRun}
use Rattle.live_points.specs.Known.{Samples, conflict_in, kind_of_column, unlike}

pub point_at : (points : List Point) (i : ℕ) → i < length points → (point : Point) × (slice_get points i ≡ Some point)
point_at [] i l = absurd (omega (arith, l))
point_at (point ∷ points) zero l = (point, refl)
point_at (point ∷ points) (suc i) l = point_at points i (omega (arith, l))

-- the column at the place of a point is the point's
pub place_is : (columns : List Column) (points : List Point) (places : List ℕ) → map (slice_get columns) places ≡ map (λ point. Some (column_of point)) points
    → (i : ℕ) (point : Point) → slice_get points i ≡ Some point → slice_get columns (slice_index_or places i 0) ≡ Some (column_of point)
place_is columns [] places e i point at = absurd (none_some point at)
place_is columns (first ∷ points) [] e i point at = absurd cc
place_is columns (first ∷ points) (place ∷ places) e zero point at =
    let same : slice_get columns place ≡ Some (column_of first) = cc in
    same ∙ ap (λ (p : Point). Some (column_of p)) (some_values first point at)
place_is columns (first ∷ points) (place ∷ places) e (suc i) point at =
    let behind : map (slice_get columns) places ≡ map (λ p. Some (column_of p)) points = cc in
    place_is columns points places behind i point at

-- what stands at a place of the kinds is the kind of the column there
pub kind_at_place : (of : Column → Option Kind) (columns : List Column) (kinds : List (Option Kind)) (place : ℕ) (column : Column) (held : Option Kind)
    → kinds ≡ map of columns → slice_get columns place ≡ Some column → slice_get kinds place ≡ Some held → held ≡ of column
kind_at_place of columns kinds place column held are at is =
    some_values held (of column)
    (sym is ∙ ap (λ (ks : List (Option Kind)). slice_get ks place) are ∙ slice_get-map of columns place ∙ ap (λ (o : Option Column). option_map of o) at)

drop_at : (points : List Point) (i : ℕ) (point : Point) → slice_get points i ≡ Some point → drop i points ≡ point ∷ drop (i + 1) points
drop_at [] i point e = absurd (none_some point e)
drop_at (first ∷ points) zero point e = ap (λ (p : Point). p ∷ points) (some_values first point e)
drop_at (first ∷ points) (suc i) point e =
    let more : suc (i + 1) ≡ suc i + 1 = omega arith in
    drop_at points i point e ∙ ap (λ (n : ℕ). point ∷ drop n (first ∷ points)) more

-- one point more is looked at
pub conflict_step : (runs : List KeyRun) (samples : Samples) (points : List Point) (i : ℕ) (point : Point) (other : Option Kind) → slice_get points i ≡ Some point
    → other ≡ unlike (kind_of point.value) (kind_of_column runs samples (column_of point))
    → conflict_in runs samples (drop i points) ≡ conflict_before point other (conflict_in runs samples (drop (i + 1) points))
conflict_step runs samples points i point other at is =
    ap (λ (ps : List Point). conflict_in runs samples ps) (drop_at points i point at)
    ∙ ap (λ (o : Option Kind). conflict_before point o (conflict_in runs samples (drop (i + 1) points))) (sym is)

pub some_conflict : (runs : List KeyRun) (samples : Samples) (batch points : List Point) (i : ℕ) (point : Point) (other : Option Kind) (held : Kind) (field : List ℕ) → points ≡ batch → slice_get points i ≡ Some point
    → other ≡ unlike (kind_of point.value) (kind_of_column runs samples (column_of point))
    → conflict_in runs samples batch ≡ conflict_in runs samples (drop i batch)
    → other ≡ Some held → field ≡ point.cell.field
    → (let conflict : Conflict = record { field = field; held = held } in Some conflict ≡ conflict_in runs samples batch)
some_conflict runs samples batch points i point other held field same at is before some named =
    ap (λ (f : List ℕ). let conflict : Conflict = record { field = f; held = held } in Some conflict) named
    ∙ sym (before
    ∙ conflict_step runs samples batch i point other (ap (λ (ps : List Point). slice_get ps i) (sym same) ∙ at) is
    ∙ ap (λ (o : Option Kind). conflict_before point o (conflict_in runs samples (drop (i + 1) batch))) some)

none_where : (o : Option Kind) → ((kind : Kind) → o ≡ Some kind → ⊥) → o ≡ None
none_where None never = refl
none_where (Some kind) never = absurd (never kind refl)

pub no_conflict : (runs : List KeyRun) (samples : Samples) (batch points : List Point) (i : ℕ) (point : Point) (other : Option Kind) → points ≡ batch → slice_get points i ≡ Some point
    → other ≡ unlike (kind_of point.value) (kind_of_column runs samples (column_of point))
    → conflict_in runs samples batch ≡ conflict_in runs samples (drop i batch)
    → ((kind : Kind) → other ≡ Some kind → ⊥)
    → conflict_in runs samples batch ≡ conflict_in runs samples (drop (i + 1) batch)
no_conflict runs samples batch points i point other same at is before never =
    before
    ∙ conflict_step runs samples batch i point other (ap (λ (ps : List Point). slice_get ps i) (sym same) ∙ at) is
    ∙ ap (λ (o : Option Kind). conflict_before point o (conflict_in runs samples (drop (i + 1) batch))) (none_where other never)
