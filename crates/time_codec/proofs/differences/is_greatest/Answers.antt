use Rattle.std.proofs.Common.{not, inl, inr, ⊎_elim, ap, sym, ◌∙◌, refl, arith}
use Rattle.std.proofs.lemmas.Bool.{not-true, cases_Bool}
use Rattle.time_codec.specs.Times.{divides_all}
use Rattle.time_codec.proofs.ScaleLemmas.{exponent_own, exponent_tens}
use Rattle.time_codec.proofs.differences.is_greatest.Goals as goal

pub returns-then-exponent-eq-GREATEST : goal.returns-then-exponent-eq-GREATEST
returns-then-exponent-eq-GREATEST c = (λ _. exponent_own c.args.exponent c.args.steps.now c.requires (inl (omega arith)), λ _. refl)

pub returns : goal.returns
returns c =
    let all = divides_all 1 c.args.steps.now in (
      λ is. exponent_own c.args.exponent c.args.steps.now c.requires (inr (sym c.is_divisor.ensures ∙ not-true _ is)),
      λ own. ⊎_elim
          (λ yes. absurd (exponent_tens c.args.exponent c.args.steps.now (omega arith) yes own))
          (λ no. ap not (c.is_divisor.ensures ∙ no))
          (cases_Bool all),
    )
