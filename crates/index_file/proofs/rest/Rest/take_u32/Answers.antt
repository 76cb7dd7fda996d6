use Rattle.std.proofs.Common.{ℕ, List, ◌<◌, length, subst}
use Rattle.index_file.proofs.TextLemmas.{short_u32}
use Rattle.index_file.proofs.rest.Rest.take_u32.Goals as goal

pub returns-in-None : goal.returns-in-None
returns-in-None c = short_u32 c.args.self.now (subst (λ (l : List ℕ). length l < 4) c.self.view_is c.in-None.ensures.cut)
