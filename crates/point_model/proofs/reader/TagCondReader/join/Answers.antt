use Rattle.std.proofs.Common.{◌≡◌, ◌∙◌, ap, List, ◌∷◌}
use Rattle.point_model.specs.Flat.{First, Reading, Side}
use Rattle.point_model.specs.declared.part.Part.TheVariants as part
use Rattle.point_model.proofs.FlatLemmas.{read-next, reading-join}
use Rattle.point_model.proofs.reader.TagCondReader.join.Goals as goal

pub invariant_of-result : goal.invariant_of-result
invariant_of-result c =
    reading-join c.args.join c.self.inside.parts.items c.push.new.self.items c.self.inside.waiting.items c.push-2.new.self.items c.self.inside.next c.self.invariant
    c.in_ok-push.ensures.items c.in_ok-push-2.ensures.items

pub returns : goal.returns
returns c =
    ap (λ (r : Reading). r.sides) (read-next c.self.inside.parts.items c.push.new.self.items (c.self.inside.next, part.Join c.args.join) c.in_ok-push.ensures.items)
    ∙ ap (λ (sides : List Side). First c.args.join ∷ sides) c.self.view_is
