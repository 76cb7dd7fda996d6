-- When two cells are of one field, and when two kinds are the same.
use Rattle.std.proofs.Common.{◌≡◌, ◌∙◌, sym, subst, refl, Bool, true, false, not, ◌&&◌, IsTrue, List, ℕ}
use Rattle.std.specs.Cmp.Lexicographic.{pointwise, nat_list_eq_equiv, texts_ties}
use Rattle.std.specs.Prelude.{nat_eq}
use Rattle.std.proofs.lemmas.Bool.{false≢true}
use Rattle.std.proofs.lemmas.Map.Lookups.{exact_bytes}
use Rattle.std.proofs.lemmas.Map.Views.{tells_apart}
use Rattle.tsdb_types.specs.declared.point.Cell.{Cell}
use Rattle.tsdb_types.specs.declared.value.Kind.{Kind}
use Rattle.tsdb_types.specs.declared.value.Kind.TheVariants.{Integer, Unsigned, Boolean}
use Rattle.point_model.specs.Acceptance.{is_same_kind}
use Rattle.point_model.specs.Laws.{FieldsAreClasses}
use Rattle.point_model.specs.Measurements.{measurement_head, is_same_field}

pub and_first : (a b : Bool) → (a && b) ≡ true → a ≡ true
and_first true b e = refl
and_first false b e = e

pub and_second : (a b : Bool) → (a && b) ≡ true → b ≡ true
and_second true b e = e
and_second false b e = absurd (false≢true e)

pub and_both : (a b : Bool) → a ≡ true → b ≡ true → (a && b) ≡ true
and_both true b p q = q
and_both false b p q = p

-- texts that are told equal are the same, and the other way round
pub text_same : (a b : List ℕ) → pointwise nat_eq a b ≡ true → a ≡ b
text_same a b e = tells_apart exact_bytes a b (sym (texts_ties a b) ∙ e)

pub text_itself : (a b : List ℕ) → a ≡ b → pointwise nat_eq a b ≡ true
text_itself a b e = subst (λ (t : List ℕ). pointwise nat_eq a t ≡ true) e (let laws = nat_list_eq_equiv in laws.refl a)

-- Two cells are of one field.
pub record OneField (a b : Cell) : Type 0 where
  pub measurement : measurement_head a.series ≡ measurement_head b.series
  pub field : a.field ≡ b.field

pub one_field : (a b : Cell) → IsTrue (is_same_field a b) → OneField a b
one_field a b e = record {
  measurement = text_same (measurement_head a.series) (measurement_head b.series) (and_first _ (pointwise nat_eq a.field b.field) e);
  field = text_same a.field b.field (and_second (pointwise nat_eq (measurement_head a.series) (measurement_head b.series)) _ e);
}

pub same_field : (a b : Cell) → measurement_head a.series ≡ measurement_head b.series → a.field ≡ b.field → IsTrue (is_same_field a b)
same_field a b m f = and_both _ _ (text_itself _ _ m) (text_itself a.field b.field f)

pub same_field-sym : (a b : Cell) → IsTrue (is_same_field a b) → IsTrue (is_same_field b a)
same_field-sym a b e = let o = one_field a b e in same_field b a (sym o.measurement) (sym o.field)

pub same_field-trans : (a b c : Cell) → IsTrue (is_same_field a b) → IsTrue (is_same_field b c) → IsTrue (is_same_field a c)
same_field-trans a b c e f =
    let o = one_field a b e in
    let p = one_field b c f in
    same_field a c (o.measurement ∙ p.measurement) (o.field ∙ p.field)

pub classes : FieldsAreClasses
classes = record { itself = λ cell. same_field cell cell refl refl; turned = same_field-sym; through = same_field-trans }

pub kind_itself : (a b : Kind) → a ≡ b → is_same_kind a b ≡ true
kind_itself a b e = subst (λ (k : Kind). is_same_kind a k ≡ true) e (itself a)
  where
    itself : (k : Kind) → is_same_kind k k ≡ true
    itself Integer = refl
    itself Unsigned = refl
    itself Boolean = refl

pub kind_same : (a b : Kind) → is_same_kind a b ≡ true → a ≡ b
kind_same Integer Integer e = refl
kind_same Integer Unsigned e = absurd (false≢true e)
kind_same Integer Boolean e = absurd (false≢true e)
kind_same Unsigned Integer e = absurd (false≢true e)
kind_same Unsigned Unsigned e = refl
kind_same Unsigned Boolean e = absurd (false≢true e)
kind_same Boolean Integer e = absurd (false≢true e)
kind_same Boolean Unsigned e = absurd (false≢true e)
kind_same Boolean Boolean e = refl
