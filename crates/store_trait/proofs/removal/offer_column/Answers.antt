-- The field has a sample, or takes the first cell that the column keeps.
use Rattle.std.proofs.Common.{◌∙◌, ap, cond, sym, ℤ, Option, None, option_map}
use Rattle.std.specs.BTreeMap.{get, is_at}
use Rattle.std.specs.Option.{option_or}
use Rattle.tsdb_types.specs.declared.point.Cell.{Cell}
use Rattle.store_trait.specs.Slots.{text_cmp}
use Rattle.store_trait.proofs.MapLemmas.{none_there}
use Rattle.store_trait.proofs.OfferLemmas.{kept_sample, new_sample}
use Rattle.store_trait.proofs.ResultLemmas.{on_ok_map}
use Rattle.store_trait.proofs.removal.offer_column.Goals as goal

pub returns-then-contains_key-clause-samples : goal.returns-then-contains_key-clause-samples
returns-then-contains_key-clause-samples c = kept_sample c.args.samples.now c.args.field.now _ (sym c.contains_key.ensures ∙ c.if-contains_key.true)

pub returns-in-Some-clause-samples : goal.returns-in-Some-clause-samples
returns-in-Some-clause-samples c =
    on_ok_map c.put_kept.result
    (λ set f.
    set f
    ∙ new_sample c.args.samples.now c.args.field.now (made c.in-Some.time) (none_there _ (sym c.contains_key.ensures ∙ c.if-contains_key.false)) f
    ∙ ap (λ (o : Option ℤ). option_or (get text_cmp c.args.samples.now f) (cond (is_at (text_cmp c.args.field.now) f) (option_map made o) None))
    (sym c.in-Some.is ∙ c.first_kept.ensures))
    c.put_kept.ensures
  where
    made : ℤ → Cell
    made time = record { time = time; series = c.args.series.now; field = c.args.field.now }
