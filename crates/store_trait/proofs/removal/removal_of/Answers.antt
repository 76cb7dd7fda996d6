-- The samples are those of cells that the deletion spares.
use Rattle.store_trait.proofs.RemovalLemmas.{is_removal}
use Rattle.store_trait.proofs.removal.removal_of.Goals as goal

pub returns : goal.returns
returns c =
    is_removal c.args.deletion.now c.args.slots.now _ c.heading_of.ensures.name c.in_ok-heading.ensures.heading
    c.in_ok-samples.ensures.ordered c.in_ok-samples.ensures.all_ordered c.in_ok-samples.ensures.samples
