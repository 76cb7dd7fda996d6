-- At the first place that the search found, or nowhere.
use Rattle.std.proofs.Common.{◌≡◌, ℕ, List, take, drop, subst, sym, ap, ◌∙◌, arith}
use Rattle.session_loop.specs.Cuts.{CutsAt}
use Rattle.session_loop.proofs.PieceLemmas.{lacks_nowhere, cut_found}
use Rattle.session_loop.proofs.pieces.cut.Goals as goal

pub returns-in_default : goal.returns-in_default
returns-in_default c = lacks_nowhere c.args.byte c.args.text.now (λ k below is. c.in_default.ensures k (omega arith) below is)

pub returns : goal.returns
returns c =
    let found = cut_found c.args.byte c.in-Some.at c.args.text.now c.in-Some.ensures.0.high c.in-Some.ensures.1 (λ k below is. c.in-Some.ensures.0.before k (omega arith) below is) in
    let rest : c.split_at-2.result.1.now ≡ drop 1 (drop c.in-Some.at c.args.text.now) = c.split_at-2.ensures.back ∙ ap (drop 1) c.split_at.ensures.back in
    subst (λ (l : List ℕ). CutsAt c.args.byte c.args.text.now l c.split_at-2.result.1.now) (sym c.split_at.ensures.front)
    (subst (λ (l : List ℕ). CutsAt c.args.byte c.args.text.now (take c.in-Some.at c.args.text.now) l) (sym rest) found)
