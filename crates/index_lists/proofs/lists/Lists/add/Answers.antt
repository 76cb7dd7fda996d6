use Rattle.std.proofs.Common.{ℕ, List, sym, subst}
use Rattle.index_lists.specs.Making.{Adds}
use Rattle.index_lists.specs.Steps.{HaveRoom}
use Rattle.index_lists.proofs.MakingLemmas.{adds_none, no_places}
use Rattle.index_lists.proofs.lists.Lists.add.Goals as goal

pub returns-in-None : goal.returns-in-None
returns-in-None c = adds_none c.args.id c.args.places.now c.args.self.now (no_places c.args.places.now c.in-None.ensures.cases)

pub add_at-requires-clause-places : goal.add_at-requires-clause-places
add_at-requires-clause-places c = subst (λ (ps : List ℕ). HaveRoom ps c.args.self.now.lists) c.in-Some.ensures.cases.0 c.requires.places

pub returns-in-Some : goal.returns-in-Some
returns-in-Some c = subst (λ (ps : List ℕ). Adds c.args.id ps c.args.self.now c.add_at.new.self) (sym c.in-Some.ensures.cases.0) c.add_at.ensures
