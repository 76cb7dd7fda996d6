use Rattle.std.proofs.Common.{ap, ◌∙◌}
use Rattle.line_protocol.proofs.PlaceLemmas.{kind_of_names, place-kept}
use Rattle.line_protocol.proofs.kinds.Kinds.keep.Goals as goal

pub returns : goal.returns
returns c = λ at.
    ap (λ entries. kind_of_names entries at) c.in_ok-insert.ensures.entries
    ∙ place-kept c.args.self.now.kinds.entries c.args.place.now c.args.kind at c.requires
