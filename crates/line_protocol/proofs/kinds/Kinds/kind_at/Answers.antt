use Rattle.std.proofs.Common.{◌∙◌}
use Rattle.line_protocol.proofs.PlaceLemmas.{place-found}
use Rattle.line_protocol.proofs.kinds.Kinds.kind_at.Goals as goal

pub returns : goal.returns
returns c = c.copied.ensures ∙ c.get.ensures.value ∙ place-found c.args.self.now.kinds.entries c.args.place.now
