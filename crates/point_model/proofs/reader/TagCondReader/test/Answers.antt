use Rattle.std.proofs.Common.{◌≡◌, ◌∙◌, ap, sym, List, Option, Some}
use Rattle.point_model.specs.Conditions.{Condition}
use Rattle.point_model.specs.Flat.{Reading, Side, closed, condition_of}
use Rattle.point_model.proofs.FlatLemmas.{held-parts, reading-test, test-part, test-read, test-whole, told-parts}
use Rattle.point_model.proofs.reader.TagCondReader.test.Goals as goal

pub invariant_of-result : goal.invariant_of-result
invariant_of-result c =
    let whole = test-whole c.args.test c.self.inside.parts.items c.push.new.self.items c.self.inside.waiting.items c.close.new.waiting.items c.self.inside.next c.self.invariant
    c.in_ok-push.ensures.items c.in_ok-close.ensures.left c.in_ok-close.field-0 c.in_ok-close.ensures.begun c.in-None.is
    in
    held-parts whole.0 c.push.new.self.items whole.2

pub invariant_of-result-in-Some : goal.invariant_of-result-in-Some
invariant_of-result-in-Some c =
    reading-test c.args.test c.self.inside.parts.items c.push.new.self.items c.self.inside.waiting.items c.close.new.waiting.items c.self.inside.next c.self.invariant
    c.in_ok-push.ensures.items c.in_ok-close.ensures.left c.in-Some.join c.in_ok-close.field-0 c.in_ok-close.ensures.begun c.in-Some.is

pub returns-in-None : goal.returns-in-None
returns-in-None c =
    let whole = test-whole c.args.test c.self.inside.parts.items c.push.new.self.items c.self.inside.waiting.items c.close.new.waiting.items c.self.inside.next c.self.invariant
    c.in_ok-push.ensures.items c.in_ok-close.ensures.left c.in_ok-close.field-0 c.in_ok-close.ensures.begun c.in-None.is
    in
    ap (λ (sides : List Side). (closed (condition_of c.args.test) sides).whole) (sym c.self.view_is)
    ∙ ap (λ (r : Reading). r.whole) whole.1
    ∙ ap (λ (x : Condition). Some x) (sym (told-parts whole.0 c.push.new.self.items whole.2))

pub returns-in-Some : goal.returns-in-Some
returns-in-Some c = (
  ap (λ (sides : List Side). (closed (condition_of c.args.test) sides).whole) (sym c.self.view_is)
      ∙ test-part c.args.test c.self.inside.parts.items c.push.new.self.items c.self.inside.waiting.items c.close.new.waiting.items c.self.inside.next c.self.invariant
      c.in_ok-push.ensures.items c.in_ok-close.ensures.left c.in-Some.join c.in_ok-close.field-0 c.in_ok-close.ensures.begun c.in-Some.is,
  ap (λ (sides : List Side). (closed (condition_of c.args.test) sides).sides) (sym c.self.view_is)
      ∙ ap (λ (r : Reading). r.sides)
      (sym
      (test-read c.args.test c.self.inside.parts.items c.push.new.self.items c.self.inside.waiting.items c.close.new.waiting.items c.self.inside.next c.self.invariant
      c.in_ok-push.ensures.items c.in_ok-close.ensures.left)),
)
