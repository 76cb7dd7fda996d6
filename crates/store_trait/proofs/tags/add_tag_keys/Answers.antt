use Rattle.std.proofs.Common.{◌≡◌, ℕ, List, [], ◌∷◌, ◌++◌, length, map, false, sym, ap, ◌∙◌, append_assoc, arith}
use Rattle.tsdb_types.specs.Series.{tag_ends_at}
use Rattle.tsdb_types.specs.Spelled.{unescaped}
use Rattle.point_model.specs.Tags.{parts_behind}
use Rattle.store_trait.specs.Tags.{tag_key}
use Rattle.point_model.proofs.TagLemmas.{parts-step, rest-le}
use Rattle.store_trait.proofs.tags.add_tag_keys.Goals as goal

pub tags-smaller : goal.tags-smaller
tags-smaller c = omega (arith, ap (λ (t : List ℕ). length t) c.cut-in-Some.ensures.rest, rest-le 44 false c.in-Some.behind.now, c.in-Some.ensures.cases.1)

pub tags-preserved : goal.tags-preserved
tags-preserved c =
    let old = c.tags.found.items in
    let part = c.cut-in-Some.result.0.now in
    let more = map tag_key (parts_behind 44 c.cut-in-Some.result.1.now) in
    let step = parts-step c.tags.left.now _ c.in-Some.behind.now part c.cut-in-Some.result.1.now c.in-Some.ensures.cases.0 c.cut-in-Some.ensures.front c.cut-in-Some.ensures.rest in
    let name : c.in_ok-name_of.field-0 ≡ tag_key part = c.in_ok-name_of.ensures ∙ ap (λ (t : List ℕ). unescaped tag_ends_at t) c.cut-in-Some-2.ensures.front in
    let pushed : c.push.new.self.items ≡ old ++ tag_key part ∷ [] = c.in_ok-push.ensures.items ∙ ap (λ (k : List ℕ). old ++ k ∷ []) name in
    ap (λ (ks : List (List ℕ)). ks ++ more) pushed
    ∙ append_assoc old (tag_key part ∷ []) more
    ∙ ap (λ (ps : List (List ℕ)). old ++ map tag_key ps) (sym step)
    ∙ c.tags.invariant
