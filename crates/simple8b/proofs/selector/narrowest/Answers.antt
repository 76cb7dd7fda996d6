use Rattle.simple8b.proofs.Narrowest.{size_of, narrowest_least, narrowest_most, narrowest_wide, narrowest_first}
use Rattle.simple8b.proofs.selector.narrowest.Goals as goal

pub bounds-value : goal.bounds-value
bounds-value c = (size_of c.args.value c.requires).most

pub returns-clause-least : goal.returns-clause-least
returns-clause-least c = narrowest_least _ (size_of c.args.value c.requires).most

pub returns-clause-most : goal.returns-clause-most
returns-clause-most c = narrowest_most _ (size_of c.args.value c.requires).most

pub returns-clause-wide : goal.returns-clause-wide
returns-clause-wide c = narrowest_wide c.args.value _ (size_of c.args.value c.requires)

pub returns-clause-narrower : goal.returns-clause-narrower
returns-clause-narrower c = narrowest_first c.args.value _ (size_of c.args.value c.requires)
