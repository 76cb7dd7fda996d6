use Rattle.std.proofs.Common.{true, ℕ, List, sym, subst}
use Rattle.index_lists.specs.Making.{IsThere, Removes}
use Rattle.index_lists.proofs.MakingLemmas.{removes_none, no_places}
use Rattle.index_lists.proofs.lists.Lists.remove.Goals as goal

pub returns-in-None : goal.returns-in-None
returns-in-None c = removes_none c.args.id c.args.places.now c.args.self.now (no_places c.args.places.now c.in-None.ensures.cases)

pub remove_at-requires-clause-some : goal.remove_at-requires-clause-some
remove_at-requires-clause-some c there = c.requires.some (subst (λ (ps : List ℕ). IsThere c.args.id ps c.args.self.now.lists true) (sym c.in-Some.ensures.cases.0) there)

pub returns-in-Some : goal.returns-in-Some
returns-in-Some c = subst (λ (ps : List ℕ). Removes c.args.id ps c.args.self.now c.remove_at.new.self) (sym c.in-Some.ensures.cases.0) c.remove_at.ensures
