use Rattle.std.proofs.Common.{◌≡◌, ℕ, List, Some, length, slice_get, refl, sym, ap, subst, ◌∙◌}
use Rattle.std.proofs.lemmas.Option.{slice_get_read}
use Rattle.std.proofs.lemmas.Slice.Eq.{bytes_eq-Decides}
use Rattle.tsdb_types.specs.declared.column.Column.{Column}
use Rattle.line_protocol.specs.Known.{KnownHead}
use Rattle.line_protocol.proofs.points.is_column.Goals as goal

abbrev column : List ℕ → List ℕ → Column
column series field = record { series = series; field = field }

pub returns-then-is_spelled-clause-column : goal.returns-then-is_spelled-clause-column
returns-then-is_spelled-clause-column c = λ t.
    let known = c.args.known.now in
    let found = c.in-Some.column.now in
    let at : slice_get c.columns.result.now c.args.place ≡ Some found =
    let look = c.in-Some.ensures.lookup in
    slice_get_read c.columns.result.now (length c.columns.result.now) c.args.place found refl look.3.0 look.1
    in
    let series = (bytes_eq-Decides found.series c.known.inside.series).0 (sym c.eq.ensures ∙ t) ∙ ap (λ (k : KnownHead). k.series) c.known.view_is in
    subst (λ (l : List Column). slice_get l c.args.place ≡ Some found) c.columns.ensures at
    ∙ ap (λ (s : List ℕ). Some (column s found.field)) series
    ∙ ap (λ (f : List ℕ). Some (column known.series f)) (c.is_spelled.ensures.name c.if-is_spelled.true)
