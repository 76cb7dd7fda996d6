-- The test of what tombstones hide.
use Rattle.std.proofs.Common.{◌≡◌, Bool, true, false, T, true≢false, ℕ, ℤ, List, [], ◌∷◌, ◌⊎◌, inl, inr, refl, sym, subst}
use Rattle.std.specs.Prelude.{◌&&◌, ◌||◌, ◌↔◌, nat_eq}
use Rattle.std.specs.Cmp.Lexicographic.{pointwise, bytes_decides}
use Rattle.std.specs.Int.Signed.{le_z, le_z_yes}
use Rattle.tsdb_types.specs.Moments.{IsMoment}
use Rattle.tombstones.specs.declared.range.TombRange.{TombRange}
use Rattle.tombstones.specs.Ranges.{Spans}
use Rattle.tombstones.specs.Covered.{Tomb, Hides, HideSame, HidesAlso, hides, is_hidden_by}
use Rattle.tombstones.specs.Laws.{HidingIsTested}

pub from_both : (a b : Bool) → (a ≡ true → b ≡ true) → (b ≡ true → a ≡ true) → a ≡ b
from_both true true f g = refl
from_both false false f g = refl
from_both true false f g = sym (f refl)
from_both false true f g = g refl

or_true : (a b : Bool) → (a || b) ≡ true → (a ≡ true) ⊎ (b ≡ true)
or_true true b h = inl refl
or_true false b h = inr h

true_or : (a b : Bool) → (a ≡ true) ⊎ (b ≡ true) → (a || b) ≡ true
true_or true b h = refl
true_or false b (inl h) = absurd (true≢false (sym h))
true_or false b (inr h) = h

and_true : (a b : Bool) → (a && b) ≡ true → (a ≡ true) × (b ≡ true)
and_true true b h = (refl, h)
and_true false b h = absurd (true≢false (sym h))

true_and : (a b : Bool) → a ≡ true → b ≡ true → (a && b) ≡ true
true_and true b h g = g
true_and false b h g = h

of_t : (b : Bool) → T b → b ≡ true
of_t true t = refl
of_t false t = absurd t

to_t : (b : Bool) → b ≡ true → T b
to_t true h = tt
to_t false h = absurd (true≢false (sym h))

hidden_by : (tomb : Tomb) (key : List ℕ) (time : ℤ) → (tomb.key ≡ key) × Spans tomb.range time → is_hidden_by tomb key time ≡ true
hidden_by tomb key time h =
    let from = of_t (le_z tomb.range.from time) h.1.0.le in
    let to = of_t (le_z time tomb.range.to) h.1.1.le in
    true_and (pointwise nat_eq tomb.key key) (le_z tomb.range.from time && le_z time tomb.range.to) ((bytes_decides tomb.key key).1 h.0)
    (true_and (le_z tomb.range.from time) (le_z time tomb.range.to) from to)

by_hidden : (tomb : Tomb) (key : List ℕ) (time : ℤ) → is_hidden_by tomb key time ≡ true → (tomb.key ≡ key) × Spans tomb.range time
by_hidden tomb key time h =
    let parts = and_true (pointwise nat_eq tomb.key key) (le_z tomb.range.from time && le_z time tomb.range.to) h in
    let ends = and_true (le_z tomb.range.from time) (le_z time tomb.range.to) parts.1 in
    ((bytes_decides tomb.key key).0 parts.0, (le_z_yes (to_t (le_z tomb.range.from time) ends.0), le_z_yes (to_t (le_z time tomb.range.to) ends.1)))

pub hides_true : (tombs : List Tomb) (key : List ℕ) (time : ℤ) → Hides tombs key time → hides tombs key time ≡ true
hides_true [] key time h = absurd h
hides_true (tomb ∷ tombs) key time (inl h) = true_or (is_hidden_by tomb key time) (hides tombs key time) (inl (hidden_by tomb key time h))
hides_true (tomb ∷ tombs) key time (inr h) = true_or (is_hidden_by tomb key time) (hides tombs key time) (inr (hides_true tombs key time h))

pub true_hides : (tombs : List Tomb) (key : List ℕ) (time : ℤ) → hides tombs key time ≡ true → Hides tombs key time
true_hides [] key time h = absurd (true≢false (sym h))
true_hides (tomb ∷ tombs) key time h = elim (or_true (is_hidden_by tomb key time) (hides tombs key time) h) [
  | inl own ↦ inl (by_hidden tomb key time own)
  | inr other ↦ inr (true_hides tombs key time other)
]

hides_also : (old new : List Tomb) (key : List ℕ) (range : TombRange) → HidesAlso old key range new
    → (other : List ℕ) (time : ℤ) → hides new other time ≡ (hides old other time || is_hidden_by (record { key = key; range = range }) other time)
hides_also old new key range also other time =
    let tomb : Tomb = record { key = key; range = range } in
    from_both (hides new other time) (hides old other time || is_hidden_by tomb other time)
    (λ h. elim (also.no_other other time (true_hides new other time h)) [
      | inl before ↦ true_or (hides old other time) (is_hidden_by tomb other time) (inl (hides_true old other time before))
      | inr own ↦ true_or (hides old other time) (is_hidden_by tomb other time) (inr (hidden_by tomb other time own))
    ])
    (λ h. elim (or_true (hides old other time) (is_hidden_by tomb other time) h) [
      | inl before ↦ hides_true new other time (also.kept other time (true_hides old other time before))
      | inr own ↦ let by = by_hidden tomb other time own in
          hides_true new other time (subst (λ (k : List ℕ). Hides new k time) by.0 (also.added time by.1))
    ])

hides_same : (some others : List Tomb) → HideSame some others → (key : List ℕ) (time : ℤ) → IsMoment time → hides some key time ≡ hides others key time
hides_same some others same key time moment =
    from_both (hides some key time) (hides others key time)
    (λ h. hides_true others key time ((same key time moment).0 (true_hides some key time h)))
    (λ h. hides_true some key time ((same key time moment).1 (true_hides others key time h)))

pub hiding_is_tested : HidingIsTested
hiding_is_tested = record {
  exact = λ tombs key time. (hides_true tombs key time, true_hides tombs key time);
  also = hides_also;
  same = hides_same;
}

-- a test that holds exactly where the points are hidden answers as the test does
pub test_is : (answer : Bool) (tombs : List Tomb) (key : List ℕ) (time : ℤ) → ((answer ≡ true) ↔ Hides tombs key time) → answer ≡ hides tombs key time
test_is answer tombs key time is = from_both answer (hides tombs key time) (λ h. hides_true tombs key time (is.0 h)) (λ h. is.1 (true_hides tombs key time h))
