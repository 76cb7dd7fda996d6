-- Kinds that are noted of the fields of points.
use Rattle.std.proofs.Common.{◌≡◌, ◌⊎◌, ⊎_elim, inl, inr, ℕ, Bool, true, false, List, [], ◌∷◌, ◌++◌, take, drop, take-append-drop, arith, refl, sym, ap, ◌∙◌, subst, None, Some, Ordering, Less, Equal, Greater, ◌&&◌}
use Rattle.std.specs.Prelude.{IsTrue, Contains, nat_eq}
use Rattle.std.specs.BTreeMap.{BTreeMap, IsEmpty, Updates, get, is_at}
use Rattle.std.specs.Map.{lookup}
use Rattle.std.specs.Cmp.Lexicographic.{pointwise, slice_cmp}
use Rattle.std.specs.Ordering.{nat_cmp, ordering_then}
use Rattle.std.proofs.lemmas.Bool.{cases_Bool, false≢true}
use Rattle.std.proofs.lemmas.Map.Lookups.{CmpEqualImpliesEq, exact_bytes}
use Rattle.std.proofs.lemmas.Map.Views.{tells_apart}
use Rattle.std.proofs.lemmas.Slice.Eq.{bytes_eq-Decides}
use Rattle.std.proofs.lemmas.List.Elements.{Contains-push, Contains-append_left, Contains-push_cases}
use Rattle.tsdb_types.specs.Values.{kind_of}
use Rattle.tsdb_types.specs.declared.point.Point.{Point}
use Rattle.tsdb_types.specs.declared.value.Kind.{Kind}
use Rattle.point_model.specs.Acceptance.{HasOneKind}
use Rattle.point_model.specs.Cursors.{Key, key_cmp}
use Rattle.point_model.specs.Measurements.{is_same_field, measurement_head}
use Rattle.shard_opening.specs.Kinds.{Notes, field_of}

equal_first : (a b : Ordering) → ordering_then a b ≡ Equal → a ≡ Equal
equal_first Less b e = e
equal_first Equal b e = refl
equal_first Greater b e = e

equal_second : (a b : Ordering) → ordering_then a b ≡ Equal → b ≡ Equal
equal_second Less b e = absurd (cc)
equal_second Equal b e = e
equal_second Greater b e = absurd (cc)

key_exact : CmpEqualImpliesEq key_cmp
key_exact a b e =
    let series = exact_bytes a.0 b.0 (equal_first (slice_cmp nat_cmp a.0 b.0) (slice_cmp nat_cmp a.1 b.1) e) in
    let fields = exact_bytes a.1 b.1 (equal_second (slice_cmp nat_cmp a.0 b.0) (slice_cmp nat_cmp a.1 b.1) e) in
    λ i. (series i, fields i)

-- one key more
pub others_stay : (key : Key) (kind : Kind) (old new : BTreeMap Key Kind) → get key_cmp old key ≡ None → Updates key_cmp old new key (Some kind)
    → (other : Key) → (get key_cmp new other ≡ get key_cmp old other) ⊎ ((other ≡ key) × (get key_cmp old other ≡ None))
others_stay key kind old new none updates other = ⊎_elim
    (λ (same : is_at (key_cmp key) other ≡ true). let is : key ≡ other = tells_apart key_exact key other same in inr (sym is, subst (λ (k : Key). get key_cmp old k ≡ None) is none))
    (λ (differs : is_at (key_cmp key) other ≡ false). inl (updates.2 other differs))
    (cases_Bool (is_at (key_cmp key) other))

both_true : (a b : Bool) → (a && b) ≡ true → (a ≡ true) × (b ≡ true)
both_true true b e = (refl, e)
both_true false b e = absurd (false≢true e)

-- points are of one field exactly where they have one measurement and one name of it
pub one_field : (a b : Point) → IsTrue (is_same_field a.cell b.cell) → field_of a ≡ field_of b
one_field a b same =
    let both = both_true (pointwise nat_eq (measurement_head a.cell.series) (measurement_head b.cell.series)) (pointwise nat_eq a.cell.field b.cell.field) same in
    let heads = (bytes_eq-Decides (measurement_head a.cell.series) (measurement_head b.cell.series)).0 both.0 in
    let fields = (bytes_eq-Decides a.cell.field b.cell.field).0 both.1 in
    λ i. (heads i, fields i)

pub same_field : (a b : Point) → field_of a ≡ field_of b → IsTrue (is_same_field a.cell b.cell)
same_field a b is =
    let heads : pointwise nat_eq (measurement_head a.cell.series) (measurement_head b.cell.series) ≡ true = (bytes_eq-Decides (measurement_head a.cell.series) (measurement_head b.cell.series)).1 (ap (λ (k : Key). k.0) is) in
    let fields : pointwise nat_eq a.cell.field b.cell.field ≡ true = (bytes_eq-Decides a.cell.field b.cell.field).1 (ap (λ (k : Key). k.1) is) in
    ap (λ (t : Bool). t && pointwise nat_eq a.cell.field b.cell.field) heads ∙ fields

-- Each of the points has its kind noted, and each kind that is noted is one of theirs.
pub record AreNoted (points : List Point) (kinds : BTreeMap Key Kind) : Type 0 where
  pub each : (point : Point) → Contains points point → get key_cmp kinds (field_of point) ≡ Some (kind_of point.value)
  pub from : (key : Key) (kind : Kind) → get key_cmp kinds key ≡ Some kind → (point : Point) × Contains points point × (field_of point ≡ key) × (kind_of point.value ≡ kind)

some_one : {X : Type 0} (a b : X) → Some a ≡ Some b → a ≡ b
some_one a b is = cc is

pub one_kind : (points : List Point) (kinds : BTreeMap Key Kind) → AreNoted points kinds → HasOneKind points
one_kind points kinds noted a b in_a in_b same =
    some_one _ _ (sym (noted.each a in_a) ∙ ap (get key_cmp kinds) (one_field a b same) ∙ noted.each b in_b)

pub noted_more : (points : List Point) (point : Point) (old new : BTreeMap Key Kind) → AreNoted points old → Notes point true old new → AreNoted (points ++ point ∷ []) new
noted_more points point old new noted notes = record {
  each = λ other within. ⊎_elim
      (λ before. ⊎_elim
      (λ stays. stays ∙ noted.each other before)
      (λ taken. absurd (cc (sym (noted.each other before) ∙ taken.1)))
      (notes.others refl (field_of other)))
      (λ last. subst (λ (p : Point). get key_cmp new (field_of p) ≡ Some (kind_of p.value)) last (notes.has refl))
      (Contains-push_cases points point other within);
  from = λ key kind has. ⊎_elim
      (λ stays. let was = noted.from key kind (sym stays ∙ has) in (was.0, Contains-append_left points (point ∷ []) was.0 was.1, was.2, was.3))
      (λ taken. (point, Contains-push points point, sym taken.0, some_one _ _ (sym (notes.has refl) ∙ ap (get key_cmp new) (sym taken.0) ∙ has)))
      (notes.others refl key);
}

pub several : (points : List Point) (point : Point) (all : List Point) (old new : BTreeMap Key Kind) → AreNoted points old → Notes point false old new
    → ((p : Point) → Contains points p → Contains all p) → Contains all point → HasOneKind all → ⊥
several points point all old new noted notes within here one =
    let other = notes.had refl in
    let was = noted.from (field_of point) other.0 other.1 in
    other.2 (sym was.3 ∙ one was.0 point (within was.0 was.1) here (same_field was.0 point was.2))

no_kind : (kind : Kind) → None ≡ Some kind → ⊥
no_kind kind is = cc is

pub none_noted : (kinds : BTreeMap Key Kind) → IsEmpty kinds → AreNoted [] kinds
none_noted kinds empty = record {
  each = λ point within. absurd (omega (arith, within.1));
  from = λ key kind has. absurd (no_kind kind (sym (ap (λ (es : List (Key × Kind)). lookup (is_at (key_cmp key)) es) empty) ∙ has));
}

-- what is in a front is in the whole
pub front_within : (i : ℕ) (points : List Point) (point : Point) → Contains (take i points) point → Contains points point
front_within i points point within = subst (λ (l : List Point). Contains l point) (take-append-drop i points) (Contains-append_left (take i points) (drop i points) point within)
