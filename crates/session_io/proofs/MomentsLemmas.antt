-- One more moment that a clock in memory tells.
use Rattle.std.proofs.Common.{◌≡◌, ℕ, ◌+◌, ◌-◌, ◌^◌, ◌<◌, inl, inr, min, Bool, true, false, nat_lt, ℤ, pos, List, [], ◌∷◌, ◌++◌, length, take, get_or, suc, refl, sym, ◌∙◌, ap, subst, arith, append_assoc, Some, None}
use Rattle.std.specs.Prelude.{if◌then◌else◌}
use Rattle.std.proofs.Math.ListN.{replicate}
use Rattle.std.proofs.Math.Seq.{take-suc}
use Rattle.std.proofs.lemmas.List.{take_all, replicate_more, append-nil}
use Rattle.std.proofs.lemmas.Bool.{ltb-true, lt-ltb, cases_lt, false≢true}
use Rattle.session_io.specs.Moments.{moment_at, told_moments, moments_told}
use Rattle.session_io.specs.Streams.{Grows}

-- one call more tells the moment at its place
pub told_more : (moments : List ℤ) (calls : ℕ) → told_moments moments (calls + 1) ≡ told_moments moments calls ++ moment_at moments calls ∷ []
told_more moments calls =
    let last : ℤ = moment_at moments (length moments) in
    let made : ℕ → List ℤ = λ n. replicate n last in
    elim (cases_lt calls (length moments)) [
      | inl within ↦
          (let none : calls + 1 - length moments ≡ 0 = omega arith in
          let no_more : calls - length moments ≡ 0 = omega arith in
          let here : calls ≡ min calls (length moments - 1) = omega arith in
          let one : take (calls + 1) moments ≡ take calls moments ++ get_or moments calls (pos 0) ∷ [] = ap (λ n. take n moments) (let e : calls + 1 ≡ suc calls = omega arith in e) ∙ take-suc moments calls (pos 0) within in
          ap (λ n. take (calls + 1) moments ++ made n) none ∙ append-nil (take (calls + 1) moments) ∙ one
          ∙ ap (λ n. take calls moments ++ get_or moments n (pos 0) ∷ []) here
          ∙ ap (λ front. front ++ moment_at moments calls ∷ []) (sym (ap (λ n. take calls moments ++ made n) no_more ∙ append-nil (take calls moments))))
      | inr behind ↦
          (let more : calls + 1 - length moments ≡ (calls - length moments) + 1 = omega arith in
          let here : min (length moments) (length moments - 1) ≡ min calls (length moments - 1) = omega arith in
          ap (λ front. front ++ made (calls + 1 - length moments)) (take_all (calls + 1) moments (omega arith) ∙ sym (take_all calls moments behind))
          ∙ ap (λ n. take calls moments ++ made n) more ∙ ap (λ rest. take calls moments ++ rest) (sym (replicate_more (calls - length moments) last))
          ∙ sym (append_assoc (take calls moments) (made (calls - length moments)) (last ∷ []))
          ∙ ap (λ n. (take calls moments ++ made (calls - length moments)) ++ get_or moments n (pos 0) ∷ []) here)
    ]

grows_while : (b c : Bool) (old new more : List ℤ) → (c ≡ true → b ≡ true) → new ≡ old ++ more → Grows (if b then Some old else None) (if c then Some new else None) more
grows_while true true old new more falls is = is
grows_while true false old new more falls is = tt
grows_while false true old new more falls is = absurd (false≢true (falls refl))
grows_while false false old new more falls is = refl

-- the same of a count of calls that stays at its last value
pub told_capped : (moments : List ℤ) (calls next : ℕ) → calls < 2 ^ 64 → next ≡ min (calls + 1) (2 ^ 64 - 1) → Grows (moments_told moments calls) (moments_told moments next) (moment_at moments calls ∷ [])
told_capped moments calls next fits is = elim (cases_lt (calls + 1) (2 ^ 64)) [
  | inl below ↦ (let one : next ≡ calls + 1 = omega arith in
      subst (λ (n : ℕ). Grows (moments_told moments calls) (moments_told moments n) (moment_at moments calls ∷ [])) (sym one)
      (grows_while (nat_lt calls (2 ^ 64 - 1)) (nat_lt (calls + 1) (2 ^ 64 - 1)) (told_moments moments calls) (told_moments moments (calls + 1)) (moment_at moments calls ∷ [])
      (λ t. let lt = ltb-true (calls + 1) (2 ^ 64 - 1) t in lt-ltb calls (2 ^ 64 - 1) (omega arith)) (told_more moments calls)))
  | inr at_end ↦ (let stays : next ≡ 2 ^ 64 - 1 = omega arith in let stood : calls ≡ 2 ^ 64 - 1 = omega arith in
      subst (λ (n : ℕ). Grows (moments_told moments n) (moments_told moments next) (moment_at moments calls ∷ [])) (sym stood)
      (subst (λ (n : ℕ). Grows (moments_told moments (2 ^ 64 - 1)) (moments_told moments n) (moment_at moments calls ∷ [])) (sym stays) refl))
]
