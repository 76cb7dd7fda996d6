use Rattle.std.proofs.Common.{ℕ, List, ◌<◌, length, subst}
use Rattle.index_file.proofs.TextLemmas.{short_u16}
use Rattle.index_file.proofs.rest.Rest.take_u16.Goals as goal

pub returns-in-None : goal.returns-in-None
returns-in-None c = short_u16 c.args.self.now (subst (λ (l : List ℕ). length l < 2) c.self.view_is c.in-None.ensures.cut)
