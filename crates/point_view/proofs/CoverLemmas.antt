-- The test of times that ranges have.
use Rattle.std.proofs.Common.{◌≡◌, Bool, true, false, T, true≢false, ℕ, ℤ, List, [], ◌∷◌, ◌⊎◌, inl, inr, refl, sym}
use Rattle.std.specs.Prelude.{◌&&◌, ◌||◌, ◌↔◌}
use Rattle.std.specs.Int.Signed.{le_z, le_z_yes}
use Rattle.tombstones.specs.declared.range.TombRange.{TombRange}
use Rattle.tombstones.specs.Ranges.{Covers, Spans}
use Rattle.tombstones.specs.Covered.{Tomb, Hides, hides}
use Rattle.tombstones.proofs.HidingLemmas.{from_both, hides_true, true_hides}
use Rattle.point_view.specs.Sources.{is_covered}

or_true : (a b : Bool) → (a || b) ≡ true → (a ≡ true) ⊎ (b ≡ true)
or_true true b h = inl refl
or_true false b h = inr h

true_or : (a b : Bool) → (a ≡ true) ⊎ (b ≡ true) → (a || b) ≡ true
true_or true b h = refl
true_or false b (inl h) = absurd (true≢false (sym h))
true_or false b (inr h) = h

and_true : (a b : Bool) → (a && b) ≡ true → (a ≡ true) × (b ≡ true)
and_true true b h = (refl, h)
and_true false b h = absurd (true≢false (sym h))

true_and : (a b : Bool) → a ≡ true → b ≡ true → (a && b) ≡ true
true_and true b h g = g
true_and false b h g = h

of_t : (b : Bool) → T b → b ≡ true
of_t true t = refl
of_t false t = absurd t

to_t : (b : Bool) → b ≡ true → T b
to_t true h = tt
to_t false h = absurd (true≢false (sym h))

spanned : (range : TombRange) (time : ℤ) → Spans range time → (le_z range.from time && le_z time range.to) ≡ true
spanned range time h = true_and (le_z range.from time) (le_z time range.to) (of_t (le_z range.from time) h.0.le) (of_t (le_z time range.to) h.1.le)

spans : (range : TombRange) (time : ℤ) → (le_z range.from time && le_z time range.to) ≡ true → Spans range time
spans range time h =
    let ends = and_true (le_z range.from time) (le_z time range.to) h in
    (le_z_yes (to_t (le_z range.from time) ends.0), le_z_yes (to_t (le_z time range.to) ends.1))

pub covers_true : (ranges : List TombRange) (time : ℤ) → Covers ranges time → is_covered ranges time ≡ true
covers_true [] time h = absurd h
covers_true (range ∷ ranges) time (inl h) = true_or (le_z range.from time && le_z time range.to) (is_covered ranges time) (inl (spanned range time h))
covers_true (range ∷ ranges) time (inr h) = true_or (le_z range.from time && le_z time range.to) (is_covered ranges time) (inr (covers_true ranges time h))

pub true_covers : (ranges : List TombRange) (time : ℤ) → is_covered ranges time ≡ true → Covers ranges time
true_covers [] time h = absurd (true≢false (sym h))
true_covers (range ∷ ranges) time h = elim (or_true (le_z range.from time && le_z time range.to) (is_covered ranges time) h) [
  | inl own ↦ inl (spans range time own)
  | inr other ↦ inr (true_covers ranges time other)
]

-- a test that holds exactly at the times that the ranges have
pub covered_is : (answer : Bool) (ranges : List TombRange) (time : ℤ) → ((answer ≡ true) ↔ Covers ranges time) → answer ≡ is_covered ranges time
covered_is answer ranges time is = from_both answer (is_covered ranges time) (λ h. covers_true ranges time (is.0 h)) (λ h. is.1 (true_covers ranges time h))

-- ranges that have the times that tombstones hide of a key
pub covered_hidden : (ranges : List TombRange) (tombs : List Tomb) (key : List ℕ) (time : ℤ) → (Covers ranges time ↔ Hides tombs key time) → is_covered ranges time ≡ hides tombs key time
covered_hidden ranges tombs key time same =
    from_both (is_covered ranges time) (hides tombs key time)
    (λ h. hides_true tombs key time (same.0 (true_covers ranges time h)))
    (λ h. covers_true ranges time (same.1 (true_hides tombs key time h)))
