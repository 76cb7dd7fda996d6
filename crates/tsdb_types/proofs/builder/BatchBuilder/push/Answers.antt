use Rattle.std.proofs.Common.{rules, ◌≡◌, ◌++◌, ◌∷◌, [], List, ℕ, Some, slice_get, sym, ap, subst, ◌∙◌}
use Rattle.indexmap.specs.IndexSet.{insert_key}
use Rattle.tsdb_types.specs.Columns.{column_of, columns_of, is_same_column, ArePlaces}
use Rattle.tsdb_types.specs.declared.column.Column.{Column}
use Rattle.tsdb_types.specs.declared.point.Point.{Point}
use Rattle.tsdb_types.proofs.ColumnLemmas.{column, columns-push, places-push, same-equal, below-most}
use Rattle.tsdb_types.proofs.builder.BatchBuilder.push.Goals as goal

pub overflow_cast-index : goal.overflow_cast-index
overflow_cast-index c = search (rules, below-most c.in_ok-index._new c.in_ok-index.ensures.within c.in_ok-index.ensures.len c.len.ensures.len c.if-len-ge-MOST_COLUMNS.false)

pub overflow_cast-result : goal.overflow_cast-result
overflow_cast-result c = search (rules, below-most c.in_ok-index._new c.in_ok-index.ensures.within c.in_ok-index.ensures.len c.len.ensures.len c.if-len-ge-MOST_COLUMNS.false)

items : (c : goal.After-push_reserved-2) → c.push_reserved.new.self.items ≡ c.self.inside.points.items ++ c.args.point ∷ []
items c = c.push_reserved.ensures.items ∙ ap (λ (l : List Point). l ++ c.args.point ∷ []) c.in_ok-reserve.ensures.items

value : (c : goal.After-push_reserved-2) → column c.in_ok-carry.field-0 c.in_ok-carry-2.field-0 ≡ column_of c.args.point
value c =
    ap (λ (s : List ℕ). column s c.in_ok-carry-2.field-0) c.in_ok-carry.ensures
    ∙ ap (λ (f : List ℕ). column c.args.point.cell.series f) c.in_ok-carry-2.ensures

columns : (c : goal.After-push_reserved-2) → c.insert_full.new.self.keys ≡ columns_of c.push_reserved.new.self.items
columns c =
    c.in_ok-index.ensures.keys
    ∙ ap (λ (v : Column). insert_key is_same_column c.self.inside.columns.keys v) (value c)
    ∙ ap (λ (ks : List Column). insert_key is_same_column ks (column_of c.args.point)) c.self.invariant.0
    ∙ sym (columns-push c.self.inside.points.items c.args.point)
    ∙ ap columns_of (sym (items c))

pub returns-clause-place : goal.returns-clause-place
returns-clause-place c =
    let stored = c.in_ok-index.ensures.stored in
    subst (λ (l : List Column). slice_get l c.in_ok-index.index ≡ Some (column_of c.args.point)) (columns c)
    (stored.1 ∙ ap (λ (k : Column). Some k) (sym (same-equal (column c.in_ok-carry.field-0 c.in_ok-carry-2.field-0) stored.0 stored.2) ∙ value c))

pub invariant_of-self-2 : goal.invariant_of-self-2
invariant_of-self-2 c =
    let point = c.args.point in
    let points = c.self.inside.points.items in
    let index = c.in_ok-index.index in
    let at = subst (λ (l : List Point). slice_get (columns_of l) index ≡ Some (column_of point)) (items c) (returns-clause-place c) in
    let places = c.push_reserved-2.ensures.items ∙ ap (λ (l : List ℕ). l ++ index ∷ []) c.in_ok-reserve-2.ensures.items in (
      columns c,
      subst (λ (l : List Point). ArePlaces l c.push_reserved-2.new.self.items) (sym (items c))
          (subst (λ (l : List ℕ). ArePlaces (points ++ point ∷ []) l) (sym places)
          (places-push points point c.self.inside.places.items index c.self.invariant.1 at)),
    )
