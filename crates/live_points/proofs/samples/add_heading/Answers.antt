-- The new measurement has no sample.
use Rattle.std.proofs.Common.{◌∙◌, ap, List, ℕ, sym}
use Rattle.std.specs.BTreeMap.{get}
use Rattle.std.proofs.lemmas.Map.Lookups.{exact_bytes}
use Rattle.store_trait.specs.Slots.{text_cmp}
use Rattle.store_trait.proofs.MapLemmas.{level_new, nothing_in, none_there}
use Rattle.live_points.proofs.samples.add_heading.Goals as goal

pub returns-clause-kept : goal.returns-clause-kept
returns-clause-kept c = λ m f.
    level_new exact_bytes c.args.samples.now c.insert.new.self c.in_ok-carry.field-0 c.new.result c.in_ok-insert.ensures.updates.0
    (ap (λ (k : List ℕ). get text_cmp c.args.samples.now k) c.in_ok-carry.ensures ∙ none_there _ (sym c.contains_key.ensures ∙ c.if-contains_key.false))
    (λ fields. get text_cmp fields f) (nothing_in text_cmp c.new.result c.new.ensures.empty f) m
