use Rattle.std.proofs.Common.{refl, ap}
use Rattle.std.specs.Map.{keys_of}
use Rattle.index_lists.proofs.StepLemmas.{Entry}
use Rattle.std.proofs.Common.{List}
use Rattle.index_lists.proofs.ReadyLemmas.{holds_none, ready_none}
use Rattle.index_lists.proofs.lists.Lists.new.Goals as goal

pub returns-clause-holds : goal.returns-clause-holds
returns-clause-holds c = holds_none _ (ap (λ (es : List Entry). keys_of es) c.with_hasher.ensures.empty) c.new.ensures.items refl

pub returns-clause-ready : goal.returns-clause-ready
returns-clause-ready c = ready_none _
