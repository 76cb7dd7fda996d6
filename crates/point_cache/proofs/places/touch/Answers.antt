use Rattle.std.proofs.Common.{ℕ, List, sym, subst}
use Rattle.point_cache.specs.Staged.{Among}
use Rattle.point_cache.proofs.EntryLemmas.{among-last, among-push}
use Rattle.point_cache.proofs.places.touch.Goals as goal

pub returns-clause-touched : goal.returns-clause-touched
returns-clause-touched c = subst (λ (l : List ℕ). Among l c.args.place) (sym c.in_ok-push.ensures.items) (among-last c.args.touched.now.items c.args.place)

pub returns-clause-kept : goal.returns-clause-kept
returns-clause-kept c = among-push c.args.touched.now.items c.push.new.self.items c.args.place c.in_ok-push.ensures.items
