use Rattle.std.proofs.Common.{ℕ, Bool, false, cond, List, length, map, sym, ap, ◌∙◌, arith}
use Rattle.tsdb_types.specs.Series.{tag_ends_at}
use Rattle.tsdb_types.specs.Spelled.{unescaped}
use Rattle.point_model.specs.Tags.{behind, rest, tag_of, text_of, parts_behind}
use Rattle.point_model.proofs.TagLemmas.{rest-le, text-step}
use Rattle.point_model.proofs.tags.tag_value.Goals as goal

pub returns-then-spells : goal.returns-then-spells
returns-then-spells c =
    let part = c.cut-in-Some.result.0.now in
    let others = text_of c.args.key.now (map tag_of (parts_behind 44 c.cut-in-Some.result.1.now)) in
    let step = text-step c.args.key.now c.tags.left.now _ c.in-Some.behind.now part c.cut-in-Some.result.1.now c.cut-in-Some-2.result.0.now c.spells.result c.in-Some.ensures.cases.0 c.cut-in-Some.ensures.front c.cut-in-Some.ensures.rest c.cut-in-Some-2.ensures.front c.spells.ensures in
    ap (λ (v : List ℕ). unescaped tag_ends_at v) (c.behind_first.ensures ∙ ap (λ (v : List ℕ). behind v) c.cut-in-Some-2.ensures.rest)
    ∙ sym (ap (λ (b : Bool). cond b (unescaped tag_ends_at (behind (rest 61 false part))) others) c.if-spells.true)
    ∙ sym step
    ∙ c.tags.invariant

pub tags-smaller : goal.tags-smaller
tags-smaller c = omega (arith, ap (λ (t : List ℕ). length t) c.cut-in-Some.ensures.rest, rest-le 44 false c.in-Some.behind.now, c.in-Some.ensures.cases.1)

pub tags-preserved : goal.tags-preserved
tags-preserved c =
    let part = c.cut-in-Some.result.0.now in
    let others = text_of c.args.key.now (map tag_of (parts_behind 44 c.cut-in-Some.result.1.now)) in
    let step = text-step c.args.key.now c.tags.left.now _ c.in-Some.behind.now part c.cut-in-Some.result.1.now c.cut-in-Some-2.result.0.now c.spells.result c.in-Some.ensures.cases.0 c.cut-in-Some.ensures.front c.cut-in-Some.ensures.rest c.cut-in-Some-2.ensures.front c.spells.ensures in
    sym (ap (λ (b : Bool). cond b (unescaped tag_ends_at (behind (rest 61 false part))) others) c.if-spells.false)
    ∙ sym step
    ∙ c.tags.invariant
