-- The rows between the times are gone.
use Rattle.std.proofs.Common.{◌≡◌, ◌∙◌, ap, sym, rules, of_calls, ℤ, Bool, true, false, not, cond, Option, Some, None, refl}
use Rattle.std.specs.Ordering.{int_cmp}
use Rattle.std.proofs.lemmas.Bool.{false≢true}
use Rattle.std.proofs.lemmas.Map.Lookups.{exact_signed}
use Rattle.tsdb_types.specs.declared.value.Value.{Value}
use Rattle.store_trait.specs.Removals.{is_within}
use Rattle.store_trait.specs.Slots.{slot_of}
use Rattle.store_trait.proofs.MapLemmas.{nothing_in}
use Rattle.store_trait.proofs.ListLemmas.{no_length}
use Rattle.store_trait.proofs.RetainLemmas.{retained, and_some}
use Rattle.store_trait.proofs.removal.take_rows.Goals as goal

kept : (b within : Bool) (v w : Option Value) → b ≡ not within → w ≡ v → b ≡ true → Some w ≡ cond within None (Some v)
kept b true v w e same t = absurd (false≢true (sym e ∙ t))
kept b false v w e same t = ap Some same

taken : (b within : Bool) (v : Option Value) → b ≡ not within → b ≡ false → cond within None (Some v) ≡ None
taken b true v e f = refl
taken b false v e f = absurd (false≢true (sym f ∙ e))

pub returns-clause-taken : goal.returns-clause-taken
returns-clause-taken c = λ t.
    sym (and_some (slot_of c.retain.new.self t))
    ∙ retained exact_signed _ (λ (v : Option Value). Some v) (λ (t : ℤ). is_within c.args.from c.args.to t)
    _
    (λ k v b w f' called.
    let tested : b ≡ not (is_within c.args.from c.args.to k) = search (rules, of_calls) in
    let left : w ≡ v = search (rules, of_calls) in
    let same : f' ≡ _ = search (rules, of_calls) in
    (kept b (is_within c.args.from c.args.to k) v w tested left, taken b (is_within c.args.from c.args.to k) v tested, same))
    c.args.rows.now.entries c.retain.new.self.entries c.retain.ensures.was_ordered c.retain.ensures.filtered t
    ∙ ap (λ (o : Option (Option Value)). cond (is_within c.args.from c.args.to t) None o) (and_some (slot_of c.args.rows.now t))

pub returns-clause-left : goal.returns-clause-left
returns-clause-left c = λ none. nothing_in int_cmp c.retain.new.self (no_length c.retain.new.self.entries (c.is_empty.ensures.0 (emptied c.is_empty.result none)))
  where
    emptied : (b : Bool) → not b ≡ false → b ≡ true
    emptied true e = refl
    emptied false e = absurd (false≢true (sym e))
