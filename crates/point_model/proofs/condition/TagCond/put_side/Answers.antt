use Rattle.std.proofs.Common.{◌≡◌, ◌∙◌, ◌++◌, ap, sym, None}
use Rattle.point_model.specs.Conditions.{Condition}
use Rattle.point_model.specs.Flat.{parts_of}
use Rattle.point_model.proofs.FlatLemmas.{Parts, parts-placed, placed}
use Rattle.point_model.proofs.condition.TagCond.put_side.Goals as goal

pub loop-own-init : goal.loop-own-init
loop-own-init c =
    let given : c.into_iter-own-iterator.result.rest.items ≡ c.self.inside.parts.items = c.into_iter-own-iterator.ensures.into_iter_gives.0 in
    ap (λ (ps : Parts). c.args.out.now.items ++ placed c.args.of ps) (given ∙ sym c.self.invariant ∙ ap (λ (x : Condition). parts_of None x) c.self.view_is)
    ∙ ap (λ (ps : Parts). c.args.out.now.items ++ ps) (parts-placed c.args.of c.args.self)
