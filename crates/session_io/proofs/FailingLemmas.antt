-- What one more call does to the failing calls that are still to come.
use Rattle.std.proofs.Common.{◌≡◌, ℕ, ◌+◌, ◌-◌, ◌^◌, ◌<◌, inl, inr, min, Bool, true, false, nat_lt, ◌==◌, List, [], ◌∷◌, refl, sym, ◌∙◌, ap, arith}
use Rattle.std.specs.List.{list_any}
use Rattle.std.proofs.lemmas.Bool.{or_parts, or_cases, eqb-true, eqb-false, lt-ltb, le-ltb, cases_lt, false≢true, and_left, and_right}
use Rattle.shard_disk.specs.Health.{Health, Ages, Failed}
use Rattle.session_io.specs.Failing.{none_to_come}

-- a call that doesn't fail leaves each of the others on its side
same_side : (place calls : ℕ) → (place == calls) ≡ false → nat_lt place (calls + 1) ≡ nat_lt place calls
same_side place calls ne = elim (cases_lt place calls) [
  | inl below ↦ lt-ltb place (calls + 1) (omega arith) ∙ sym (lt-ltb place calls below)
  | inr above ↦ (let no = eqb-false place calls ne in le-ltb place (calls + 1) (omega arith) ∙ sym (le-ltb place calls above))
]

-- a call that doesn't fail leaves as many to come
pub works : (places : List ℕ) (calls : ℕ) → list_any (λ place. place == calls) places ≡ false → none_to_come places (calls + 1) ≡ none_to_come places calls
works [] calls none = refl
works (place ∷ places) calls none =
    let parts = or_parts (place == calls) (list_any (λ p. p == calls) places) none in
    let here = same_side place calls parts.0 in
    let behind = works places calls parts.1 in cc (here, behind)

-- a call that fails was still to come
pub fails : (places : List ℕ) (calls : ℕ) → list_any (λ place. place == calls) places ≡ true → none_to_come places calls ≡ false
fails [] calls some = absurd (false≢true some)
fails (place ∷ places) calls some = elim (or_cases (place == calls) (list_any (λ p. p == calls) places) some) [
  | inl here ↦ (let is = eqb-true place calls here in and_left (nat_lt place calls) (none_to_come places calls) (le-ltb place calls (omega arith)))
  | inr behind ↦ and_right (nat_lt place calls) (none_to_come places calls) (fails places calls behind)
]

-- the same of a count of calls that stays at its last value
pub works_capped : (places : List ℕ) (calls next : ℕ) → list_any (λ place. place == calls) places ≡ false → calls < 2 ^ 64 → next ≡ min (calls + 1) (2 ^ 64 - 1) → none_to_come places next ≡ none_to_come places calls
works_capped places calls next none fits is = elim (cases_lt calls (2 ^ 64 - 1)) [
  | inl below ↦ (let one : next ≡ calls + 1 = omega arith in ap (none_to_come places) one ∙ works places calls none)
  | inr above ↦ (let same : next ≡ calls = omega arith in ap (none_to_come places) same)
]

-- the health of a device in memory after so many calls and faults
abbrev pub health_after : List ℕ → ℕ → ℕ → Health
health_after places calls faults = record { faults = faults; is_steady = none_to_come places calls }

-- a call that doesn't fail leaves it
pub health_works : (places : List ℕ) (calls next faults : ℕ) → list_any (λ place. place == calls) places ≡ false → calls < 2 ^ 64 → next ≡ min (calls + 1) (2 ^ 64 - 1) → health_after places next faults ≡ health_after places calls faults
health_works places calls next faults none fits is =
    ap (λ (b : Bool). let h : Health = record { faults = faults; is_steady = b } in h) (works_capped places calls next none fits is)

-- a call that fails raises the count of faults, and was to come
pub health_fails : (places : List ℕ) (calls next faults more : ℕ) → list_any (λ place. place == calls) places ≡ true → more ≡ min (faults + 1) (2 ^ 64 - 1) → Failed (health_after places calls faults) (health_after places next more)
health_fails places calls next faults more some is = record { rose = omega (arith, is); unsteady = fails places calls some }

pub failed_ages : (old new : Health) → old.faults < 2 ^ 64 → Failed old new → Ages old new
failed_ages old new fits failed = record {
  later = omega (arith, failed.rose, fits);
  steady = λ steady. absurd (false≢true (sym failed.unsteady ∙ steady));
}
