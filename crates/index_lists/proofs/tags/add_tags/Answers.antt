use Rattle.std.proofs.Common.{ℕ, List, ◌++◌, length, map, false, sym, ap, ◌∙◌, append_assoc, arith}
use Rattle.point_model.specs.Tags.{parts_behind, tag_of}
use Rattle.point_model.proofs.TagLemmas.{parts-step, rest-le}
use Rattle.index_lists.specs.declared.term.Term.{Term}
use Rattle.index_lists.specs.Terms.{tag_terms, tags_terms}
use Rattle.index_lists.proofs.tags.add_tags.Goals as goal

pub tags-smaller : goal.tags-smaller
tags-smaller c = omega (arith, ap (λ (t : List ℕ). length t) c.cut-in-Some.ensures.rest, rest-le 44 false c.in-Some.behind.now, c.in-Some.ensures.cases.1)

pub tags-preserved : goal.tags-preserved
tags-preserved c =
    let m = c.args.measurement.now in
    let old = c.tags.found.items in
    let part = c.cut-in-Some.result.0.now in
    let more = tags_terms m (map tag_of (parts_behind 44 c.cut-in-Some.result.1.now)) in
    let step = parts-step c.tags.left.now _ c.in-Some.behind.now part c.cut-in-Some.result.1.now c.in-Some.ensures.cases.0 c.cut-in-Some.ensures.front c.cut-in-Some.ensures.rest in
    ap (λ (ts : List Term). ts ++ more) c.in_ok-add_tag.ensures
    ∙ append_assoc old (tag_terms m (tag_of part)) more
    ∙ ap (λ (ps : List (List ℕ)). old ++ tags_terms m (map tag_of ps)) (sym step)
    ∙ c.tags.invariant
