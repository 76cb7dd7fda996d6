-- A numeral that is short enough.
use Rattle.std.proofs.Common.{◌<◌, ◌^◌, ℕ, sym, ap, ◌∙◌, subst, arith, Some}
use Rattle.session_loop.proofs.NumberLemmas.{number_some, number_none, digits_below}
use Rattle.session_loop.proofs.PieceLemmas.{match_option_map}
use Rattle.session_loop.proofs.words.number.Goals as goal

pub returns-then-digits-most-clause-value : goal.returns-then-digits-most-clause-value
returns-then-digits-most-clause-value c = number_none c.args.most c.args.digits.now (λ numeral short. omega (arith, c.if-digits-most.true))

pub returns-clause-value : goal.returns-clause-value
returns-clause-value c = match_option_map c.natural.result _ _ _ _
    (λ never. number_none c.args.most c.args.digits.now (λ numeral short. never numeral))
    (λ sum h. number_some c.args.most c.args.digits.now h.0 (omega (arith, c.if-digits-most.false)) ∙ ap Some (sym h.1)) c.natural.ensures

pub returns-clause-small : goal.returns-clause-small
returns-clause-small c = match_option_map c.natural.result _ _ _ _ (λ never. tt)
    (λ sum h. subst (λ (n : ℕ). n < 10 ^ c.args.most) (sym h.1) (digits_below c.args.most c.args.digits.now h.0.1 (omega (arith, c.if-digits-most.false)))) c.natural.ensures
