use Rattle.std.proofs.Common.{◌≡◌, ◌/◌, ◌%◌, ◌^◌, ℕ, not, eqb, ltb, ⊎_elim, arith, sym, ◌∙◌, ap}
use Rattle.std.proofs.lemmas.Bool.{cases_lt, lt-ltb, le-ltb, eq-eqb, ne_eqb}
use Rattle.std.proofs.lemmas.Nat.{and_mask, pow_pos, le-div}
use Rattle.std.proofs.Math.Nat.{div-eq_of_lt}
use Rattle.simple8b.proofs.Tables.{used_most}
use Rattle.simple8b.proofs.Spelling.{selector_low}
use Rattle.simple8b.proofs.decoder.has_loose_bits.Goals as goal

pub overflow_shr-result : goal.overflow_shr-result
overflow_shr-result c = omega (arith, c.used.ensures, used_most (c.args.word / 2 ^ 60) (selector_low c.args.word c.ranges.word.fits))

-- no bit from the place on is a number below the power
none_above : (n used : ℕ) → eqb (n / 2 ^ used) 0 ≡ ltb n (2 ^ used)
none_above n used =
    ⊎_elim
    (λ below. eq-eqb (n / 2 ^ used) 0 (div-eq_of_lt below) ∙ sym (lt-ltb n (2 ^ used) below))
    (λ above. ne_eqb (n / 2 ^ used) 0 (λ none. omega (arith, none, le-div 1 n (2 ^ used) (pow_pos used) (omega arith))) ∙ sym (le-ltb n (2 ^ used) above))
    (cases_lt n (2 ^ used))

pub returns : goal.returns
returns c =
    ap (λ (n : ℕ). not (eqb (n / 2 ^ c.used.result) 0)) (and_mask c.args.word 60)
    ∙ ap not (none_above (c.args.word % 2 ^ 60) c.used.result)
    ∙ ap (λ (used : ℕ). not (ltb (c.args.word % 2 ^ 60) (2 ^ used))) c.used.ensures
