-- The field has a sample, or takes this one.
use Rattle.std.proofs.Common.{◌∙◌, ap, cond, sym, List, ℕ, Some}
use Rattle.std.specs.BTreeMap.{get, is_at}
use Rattle.store_trait.specs.Slots.{text_cmp}
use Rattle.store_trait.proofs.MapLemmas.{none_there}
use Rattle.live_points.proofs.TakingLemmas.{kept_sample, new_sample}
use Rattle.live_points.proofs.removal.offer.Goals as goal

pub returns-then-contains_key : goal.returns-then-contains_key
returns-then-contains_key c = kept_sample c.args.samples.now c.args.field.now c.args.series.now (sym c.contains_key.ensures ∙ c.if-contains_key.true)

pub returns : goal.returns
returns c = λ f.
    let old = c.args.samples.now in
    c.in_ok-insert.ensures.updates.0 f
    ∙ ap (λ (k : List ℕ). cond (is_at (text_cmp k) f) (Some c.in_ok-carry-2.field-0) (get text_cmp old f)) c.in_ok-carry.ensures
    ∙ ap (λ (s : List ℕ). cond (is_at (text_cmp c.args.field.now) f) (Some s) (get text_cmp old f)) c.in_ok-carry-2.ensures
    ∙ new_sample old c.args.field.now c.args.series.now (none_there _ (sym c.contains_key.ensures ∙ c.if-contains_key.false)) f
