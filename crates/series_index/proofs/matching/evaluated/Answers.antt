use Rattle.std.proofs.Common.{◌≡◌, [], ◌∷◌, ◌++◌, drop, arith, rules}
use Rattle.series_index.specs.Evaluation.{conditions_in}
use Rattle.series_index.proofs.StackLemmas.{at_end, last_list, some_list}
use Rattle.series_index.proofs.matching.evaluated.Goals as goal

pub take_part-requires-clause-lists : goal.take_part-requires-clause-lists
take_part-requires-clause-lists c = (conditions_in (drop c.loop-place.place c.parts-parts.result.now), c.loop-place.invariant.1)

pub returns-in-Some : goal.returns-in-Some
returns-in-Some c series_of told =
    let zero : c.loop-place.place ≡ 0 = omega (arith, c.loop-place-test.false) in
    let popped : c.loop-place.waiting.items ≡ c.pop.new.self.items ++ c.in-Some.ids ∷ [] = search rules in
    last_list series_of c.args.all.now (conditions_in (drop c.loop-place.place c.parts-parts.result.now)) c.args.tags.now c.loop-place.waiting.items c.pop.new.self.items c.in-Some.ids
    (at_end c.parts-parts.result.now c.args.tags.now c.loop-place.place zero c.parts-parts.ensures) (c.loop-place.invariant.1 series_of told) popped

pub returns : goal.returns
returns c series_of told =
    let zero : c.loop-place.place ≡ 0 = omega (arith, c.loop-place-test.false) in
    let none : c.loop-place.waiting.items ≡ [] = search rules in
    absurd
    (some_list series_of c.args.all.now (conditions_in (drop c.loop-place.place c.parts-parts.result.now)) c.args.tags.now c.loop-place.waiting.items
    (at_end c.parts-parts.result.now c.args.tags.now c.loop-place.place zero c.parts-parts.ensures) (c.loop-place.invariant.1 series_of told) none)
