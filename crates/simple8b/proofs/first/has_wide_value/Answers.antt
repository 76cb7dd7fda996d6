use Rattle.std.proofs.Common.{◌≡◌, ℕ, true, eqb, not, bit_and, ⊎_elim, ap, sym, ◌∙◌}
use Rattle.std.proofs.lemmas.Bool.{not-true, eq-eqb, eqb-true, false≢true, cases_Bool, cases_lt}
use Rattle.std.specs.Int.Bits.{and_zero_r}
use Rattle.simple8b.specs.Unpacked.{selector_in}
use Rattle.simple8b.proofs.Spelling.{selector_low}
use Rattle.simple8b.proofs.Wide.{wide_by, wide_none, wide_values}
use Rattle.simple8b.proofs.first.has_wide_value.Goals as goal

pub returns : goal.returns
returns c =
    let word = c.args.word in
    let bits : ℕ = bit_and word (wide_by (selector_in word)) in
    let h = selector_low word c.ranges.word.fits in
    let some : not (eqb bits 0) ≡ true → bits ≡ 0 → ⊥ = λ is none. false≢true (sym (not-true (eqb bits 0) is) ∙ eq-eqb bits 0 none) in (
      λ is. ⊎_elim
          (λ low. absurd (some is (ap (bit_and word) (wide_none (selector_in word) low) ∙ and_zero_r word)))
          (λ high. (high, λ all. some is ((wide_values word high h).1 all)))
          (cases_lt (selector_in word) 3),
      λ wide. ⊎_elim
          (λ none. absurd (wide.1 ((wide_values word wide.0 h).0 (eqb-true bits 0 none))))
          (λ some. ap not some)
          (cases_Bool (eqb bits 0)),
    )
