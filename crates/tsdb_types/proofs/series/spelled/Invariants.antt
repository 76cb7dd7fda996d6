use Rattle.std.proofs.Common.{◌≡◌, ◌++◌, drop}
use Rattle.std.specs.List.{AllWithin}
use Rattle.std.specs.Str.{IsUtf8}
use Rattle.tsdb_types.specs.Names.{IsName}
use Rattle.tsdb_types.specs.Series.{tags_text, series_text}
use Rattle.tsdb_types.proofs.series.spelled.Given as goal

abbrev pub invariant-loop-tag : goal.invariant-loop-tag
invariant-loop-tag l = record {
  written : l.text.items ++ tags_text (drop l.tag-index l.tags) ≡ series_text l.measurement l.tags;
  utf8 : IsUtf8 l.text.items;
  named : AllWithin (λ tag. IsName tag.key × IsName tag.value) l.tags 0 l.tag-index;
}
