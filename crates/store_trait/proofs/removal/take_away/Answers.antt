-- The slots that the deletion meets are gone in each series.
use Rattle.std.proofs.Common.{◌≡◌, ◌∙◌, sym, rules, of_calls, ℕ, false, ◌&&◌, cond, None, List}
use Rattle.std.proofs.lemmas.Map.Lookups.{exact_bytes}
use Rattle.store_trait.specs.Removals.{is_met, is_within}
use Rattle.store_trait.specs.Slots.{Fields, slot_in}
use Rattle.store_trait.proofs.RetainLemmas.{retained}
use Rattle.store_trait.proofs.removal.take_away.Goals as goal

pub returns : goal.returns
returns c = λ q.
    let deletion = c.args.deletion.now in
    retained exact_bytes _ (λ (fields : Fields). slot_in fields q.field q.time) (λ (series : List ℕ). is_met deletion series && is_within deletion.from deletion.to q.time)
    _
    (λ k v b w s' called.
    let taken : slot_in w q.field q.time ≡ cond (is_met c.args.deletion.now k && is_within c.args.deletion.now.from c.args.deletion.now.to q.time) None (slot_in v q.field q.time) = search (rules, of_calls) in
    let left : b ≡ false → slot_in w q.field q.time ≡ None = λ is. search (rules, of_calls) in
    let same : s' ≡ _ = search (rules, of_calls) in
    ((λ is. taken), (λ is. sym taken ∙ left is), same))
    c.args.slots.now.entries c.retain.new.self.entries c.retain.ensures.was_ordered c.retain.ensures.filtered q.series
