use Rattle.std.proofs.Common.{◌≡◌, ℕ, false, List, [], ◌∷◌, ◌++◌, eqb, sym, ap, ◌∙◌, arith}
use Rattle.std.proofs.lemmas.Bool.Decides.{nat_tests}
use Rattle.line_protocol.specs.Parts.{unspaced_end}
use Rattle.line_protocol.proofs.PartLemmas.{end-space, end-kept, end-escaped}
use Rattle.line_protocol.proofs.cut.without_last_space.Goals as goal

pub returns-then-last-ne32-clause-none : goal.returns-then-last-ne32-clause-none
returns-then-last-ne32-clause-none c =
    let other : eqb c.in-Some.last.now 32 ≡ false = grind (arith, nat_tests) in
    let e = c.in-Some.ensures.cases.0 in
    ap (λ (t : List ℕ). unspaced_end false t) e ∙ end-kept false c.in-Some.rest.now c.in-Some.last.now other ∙ sym e

pub returns-then-ends_with_slash-clause-none : goal.returns-then-ends_with_slash-clause-none
returns-then-ends_with_slash-clause-none c =
    let space : c.in-Some.last.now ≡ 32 = omega arith in
    let e : c.args.text.now ≡ c.in-Some.rest.now ++ 32 ∷ [] = c.in-Some.ensures.cases.0 ∙ ap (λ (b : ℕ). c.in-Some.rest.now ++ b ∷ []) space in
    ap (λ (t : List ℕ). unspaced_end false t) e ∙ end-escaped false c.in-Some.rest.now (sym c.ends_with_slash.ensures ∙ c.if-ends_with_slash.true) ∙ sym e

pub returns-else-ends_with_slash-clause-some : goal.returns-else-ends_with_slash-clause-some
returns-else-ends_with_slash-clause-some c =
    let space : c.in-Some.last.now ≡ 32 = omega arith in
    let e : c.args.text.now ≡ c.in-Some.rest.now ++ 32 ∷ [] = c.in-Some.ensures.cases.0 ∙ ap (λ (b : ℕ). c.in-Some.rest.now ++ b ∷ []) space in
    (ap (λ (t : List ℕ). unspaced_end false t) e ∙ end-space false c.in-Some.rest.now (sym c.ends_with_slash.ensures ∙ c.if-ends_with_slash.false), omega (arith, c.in-Some.ensures.cases.1))
