use Rattle.std.proofs.Common.{List, ℕ, sym, ap, ◌∙◌}
use Rattle.tsdb_types.specs.Keys.{key_of}
use Rattle.point_cache.proofs.EntryLemmas.{key_parts, same_key}
use Rattle.point_cache.proofs.places.is_key_of.Goals as goal

pub returns : goal.returns
returns c = λ is.
    let own = c.args.cell.now.field in
    let field = same_key c.in-Some-strip_prefix.field.now c.as_bytes-2.result.now (sym c.eq.ensures ∙ is) ∙ c.as_bytes-2.ensures.value ∙ c.as_str.ensures.text in
    key_parts c.args.key.now c.as_bytes.result.now c.in-Some.behind.now c.in-Some-strip_prefix.field.now own
    c.in-Some.ensures.cases.0 c.in-Some.ensures.cases.1 c.in-Some-strip_prefix.ensures.cases.0 c.in-Some-strip_prefix.ensures.cases.1 field
    ∙ ap (λ (series : List ℕ). key_of series own) (c.as_bytes.ensures.value ∙ c.text.ensures.text)
