use Rattle.std.proofs.Common.{◌≡◌, ◌<◌, ◌++◌, ◌∷◌, [], List, ℕ, Some, slice_get, get_or, length, refl, sym, ap, subst, ◌∙◌}
use Rattle.std.proofs.lemmas.Option.{slice_get_read}
use Rattle.tsdb_types.specs.Columns.{column_of, columns_of, ArePlaces}
use Rattle.tsdb_types.specs.declared.column.Column.{Column}
use Rattle.tsdb_types.specs.declared.point.Point.{Point}
use Rattle.tsdb_types.proofs.ColumnLemmas.{column, columns-further, places-push}
use Rattle.tsdb_types.proofs.builder.BatchBuilder.push_at.Goals as goal

abbrev points : goal.After-push_reserved-2 → List Point
points c = c.self.inside.points.items

abbrev point_at : goal.After-push_reserved-2 → Column → Point
point_at c k = record { cell = record { time = c.args.time; series = k.series; field = k.field }; value = c.args.value }

abbrev pushed : goal.After-push_reserved-2 → Point
pushed c = point_at c (column c.in_ok-carry.field-0 c.in_ok-carry-2.field-0)

items : (c : goal.After-push_reserved-2) → c.push_reserved.new.self.items ≡ points c ++ pushed c ∷ []
items c = c.push_reserved.ensures.items ∙ ap (λ (l : List Point). l ++ pushed c ∷ []) c.in_ok-reserve.ensures.items

found : (c : goal.After-push_reserved-2) → slice_get (columns_of (points c)) c.args.place ≡ Some c.index-as_slice-place.result
found c =
    let x = c.index-as_slice-place.result in
    slice_get_read (columns_of (points c)) (length (columns_of (points c))) c.args.place x refl
    (subst (λ (l : List Point). c.args.place < length (columns_of l)) (sym c.self.view_is) c.requires)
    (c.index-as_slice-place.is ∙ ap (λ (l : List Column). get_or l c.args.place x) (c.as_slice.ensures.keys ∙ c.self.invariant.0))

same : (c : goal.After-push_reserved-2) → column c.in_ok-carry.field-0 c.in_ok-carry-2.field-0 ≡ c.index-as_slice-place.result
same c =
    ap (λ (s : List ℕ). column s c.in_ok-carry-2.field-0) c.in_ok-carry.ensures
    ∙ ap (λ (f : List ℕ). column c.index-as_slice-place.result.series f) c.in_ok-carry-2.ensures

some-equal : {x y : Column} → Some x ≡ Some y → x ≡ y
some-equal e = cc

pub invariant_of-self-2 : goal.invariant_of-self-2
invariant_of-self-2 c =
    let place = c.args.place in
    let at = found c ∙ ap (λ (k : Column). Some k) (sym (same c)) in
    let further = columns-further (points c) (pushed c) place at in
    let behind = subst (λ (l : List Column). slice_get l place ≡ Some (column_of (pushed c))) (sym further) at in
    let places = c.push_reserved-2.ensures.items ∙ ap (λ (l : List ℕ). l ++ place ∷ []) c.in_ok-reserve-2.ensures.items in (
      c.self.invariant.0 ∙ sym further ∙ ap columns_of (sym (items c)),
      subst (λ (l : List Point). ArePlaces l c.push_reserved-2.new.self.items) (sym (items c))
          (subst (λ (l : List ℕ). ArePlaces (points c ++ pushed c ∷ []) l) (sym places)
          (places-push (points c) (pushed c) c.self.inside.places.items place c.self.invariant.1 behind)),
    )

pub returns-clause-ok : goal.returns-clause-ok
returns-clause-ok c k at =
    let now = subst (λ (l : List Point). slice_get (columns_of l) c.args.place ≡ Some k) (sym c.self.view_is) at in
    let is : c.index-as_slice-place.result ≡ k = some-equal (sym (found c) ∙ now) in
    items c
    ∙ ap (λ (x : Column). points c ++ point_at c x ∷ []) (same c ∙ is)
    ∙ ap (λ (l : List Point). l ++ point_at c k ∷ []) c.self.view_is
