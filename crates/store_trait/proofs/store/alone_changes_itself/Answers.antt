-- By the lengths of history and own numbers.
use Rattle.store_trait.proofs.AloneLemmas.{refused_makes_none, accepted_makes_one}
use Rattle.store_trait.proofs.store.alone_changes_itself.Goals as goal

pub returns : goal.returns
returns c = record { refused = refused_makes_none; accepted = accepted_makes_one }
