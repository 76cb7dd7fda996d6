-- The rows between the times are gone in each column.
use Rattle.std.proofs.Common.{◌≡◌, ◌∙◌, ap, sym, rules, of_calls, ℕ, Bool, true, false, not, cond, Option, None, refl, List, option_and_then}
use Rattle.std.proofs.lemmas.Bool.{false≢true}
use Rattle.std.proofs.lemmas.Map.Lookups.{exact_bytes}
use Rattle.store_trait.specs.Removals.{is_within}
use Rattle.store_trait.specs.Slots.{Rows, slot_of, text_cmp}
use Rattle.store_trait.proofs.MapLemmas.{nothing_in}
use Rattle.store_trait.proofs.ListLemmas.{no_length}
use Rattle.store_trait.proofs.RetainLemmas.{retained}
use Rattle.store_trait.proofs.removal.take_fields.Goals as goal

pub returns-clause-taken : goal.returns-clause-taken
returns-clause-taken c = λ f t.
    retained exact_bytes _ (λ (rows : Rows). slot_of rows t) (λ (name : List ℕ). is_within c.args.from c.args.to t)
    _
    (λ k v b w s' called.
    let taken : slot_of w t ≡ cond (is_within c.args.from c.args.to t) None (slot_of v t) = search (rules, of_calls) in
    let left : b ≡ false → slot_of w t ≡ None = λ is. search (rules, of_calls) in
    let same : s' ≡ _ = search (rules, of_calls) in
    ((λ is. taken), (λ is. sym taken ∙ left is), same))
    c.args.fields.now.entries c.retain.new.self.entries c.retain.ensures.was_ordered c.retain.ensures.filtered f

pub returns-clause-left : goal.returns-clause-left
returns-clause-left c = λ none f t.
    ap (λ (o : Option Rows). option_and_then (λ (rows : Rows). slot_of rows t) o)
    (nothing_in text_cmp c.retain.new.self (no_length c.retain.new.self.entries (c.is_empty.ensures.0 (emptied c.is_empty.result none))) f)
  where
    emptied : (b : Bool) → not b ≡ false → b ≡ true
    emptied true e = refl
    emptied false e = absurd (false≢true (sym e))
