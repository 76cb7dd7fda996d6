use Rattle.std.proofs.Common.{rules, ◌≡◌, ◌∙◌}
use Rattle.store_trait.specs.Gathered.{fields_listed, listed, whole}
use Rattle.store_trait.proofs.TagLemmas.{within_next}
use Rattle.store_trait.proofs.tags.all_tag_keys.Goals as goal

pub loop-series-preserved-in-Continue-1 : goal.loop-series-preserved-in-Continue-1
loop-series-preserved-in-Continue-1 c = record {
  keys = within_next c.loop-series.found.items c.add_series_keys.new.found.items (fields_listed c.in-Some.series.now c.in-Some.fields.now.entries) (listed (whole c.args.need.now) c.next.new.self) c.in_ok-add_series_keys.ensures.keys ∙ search rules;
  series = search rules;
  ordered = search rules;
}
