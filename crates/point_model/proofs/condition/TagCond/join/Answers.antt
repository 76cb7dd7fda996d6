use Rattle.std.proofs.Common.{◌≡◌, ◌∙◌, None}
use Rattle.point_model.specs.Flat.{joined, parts_of}
use Rattle.point_model.proofs.FlatLemmas.{held-parts, put-sides, told-parts}
use Rattle.point_model.proofs.condition.TagCond.join.Goals as goal

pub invariant_of-result : goal.invariant_of-result
invariant_of-result c =
    held-parts (joined c.args.join c.args.first c.args.second) c.put_side-2.new.out.items
    (put-sides c.args.join c.args.first c.args.second c.reserve.new.self.items c.push.new.self.items c.put_side.new.out.items c.put_side-2.new.out.items (c.in_ok-reserve.ensures.items ∙ c.new-parts.ensures.items)
    c.in_ok-push.ensures.items c.in_ok-put_side.ensures c.in_ok-put_side-2.ensures)

pub returns : goal.returns
returns c =
    told-parts (joined c.args.join c.args.first c.args.second) c.put_side-2.new.out.items
    (put-sides c.args.join c.args.first c.args.second c.reserve.new.self.items c.push.new.self.items c.put_side.new.out.items c.put_side-2.new.out.items (c.in_ok-reserve.ensures.items ∙ c.new-parts.ensures.items)
    c.in_ok-push.ensures.items c.in_ok-put_side.ensures c.in_ok-put_side-2.ensures)
