use Rattle.std.proofs.Common.{ℕ, List, ap, ◌∙◌}
use Rattle.influxql_parser.specs.GrammarWords.{without_escapes}
use Rattle.influxql_parser.proofs.WordLemmas.{with_front, with_front-all, front-next}
use Rattle.influxql_parser.proofs.word.unescaped.Goals as goal

pub loop-first-init : goal.loop-first-init
loop-first-init c = ap (λ (t : List ℕ). with_front t (without_escapes c.args.raw.now)) c.in_ok-text.ensures.items ∙ with_front-all (without_escapes c.args.raw.now)

pub loop-first-preserved : goal.loop-first-preserved
loop-first-preserved c =
    front-next c.loop-first.text.items c.loop-first.left.now c.in-Some.behind.now c.in-Some-byte_at.rest.now c.push.new.self.items c.in-Some.first.now c.in-Some-byte_at.byte (without_escapes c.args.raw.now)
    c.loop-first.invariant c.in-Some.ensures.cases.0 c.in-Some-byte_at.ensures.found c.in_ok-push-in-Some-byte_at.ensures.items
