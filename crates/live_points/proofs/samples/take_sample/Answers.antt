-- The sample is put where there was none with points.
use Rattle.std.proofs.Common.{◌∙◌, sym, inr}
use Rattle.store_trait.proofs.MapLemmas.{none_there}
use Rattle.store_trait.proofs.ResultLemmas.{on_ok_map}
use Rattle.live_points.proofs.SampleLemmas.{samples_one, sample_put}
use Rattle.live_points.proofs.samples.take_sample.Goals as goal

pub returns-clause-kept : goal.returns-clause-kept
returns-clause-kept c =
    samples_one c.args.cache.now.runs c.args.column.now c.args.samples.now c.put_sample.new.samples c.args.heading.now c.put_sample.result c.requires
    (sym c.in_ok-kind.ensures ∙ none_there _ (sym c.is_some.ensures ∙ c.if-is_some.false)) c.put_sample.ensures.ok c.put_sample.ensures.err

pub returns-clause-ok : goal.returns-clause-ok
returns-clause-ok c =
    on_ok_map c.put_sample.result
    (λ set. inr (sample_put c.args.column.now c.args.samples.now c.put_sample.new.samples c.args.heading.now set)) c.put_sample.ensures.ok
