use Rattle.std.proofs.Common.{◌≡◌, ◌∙◌, ap, sym}
use Rattle.query_model.specs.Conditions.{Condition}
use Rattle.query_model.specs.Flat.{joined, parts_of}
use Rattle.query_model.proofs.FlatLemmas.{held-parts, put-sides, told-parts}
use Rattle.query_model.proofs.condition.Cond.join.Goals as goal

-- the parts are those of the join
are-parts : (c : goal.In_ok-push) → c.push.new.self.items ≡ parts_of (joined c.args.join c.args.first c.args.second)
are-parts c =
    put-sides c.args.join c.args.first c.args.second c.first.inside.parts.items c.second.inside.parts.items c.put.new.out.items c.push.new.self.items
    (sym (ap (λ (x : Condition). parts_of x) c.first.view_is) ∙ c.first.invariant)
    (sym (ap (λ (x : Condition). parts_of x) c.second.view_is) ∙ c.second.invariant)
    c.in_ok-put.ensures
    c.in_ok-push.ensures.items

pub invariant_of-result : goal.invariant_of-result
invariant_of-result c = held-parts (joined c.args.join c.args.first c.args.second) c.push.new.self.items (are-parts c)

pub returns : goal.returns
returns c = told-parts (joined c.args.join c.args.first c.args.second) c.push.new.self.items (are-parts c)
