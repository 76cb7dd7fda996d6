use Rattle.std.proofs.Common.{◌≡◌, List, ◌++◌, ap, ◌∙◌, rules}
use Rattle.std.proofs.lemmas.List.Sorted.{answers_always}
use Rattle.point_model.specs.Rows.{Row}
use Rattle.point_cache.specs.Cached.{latest}
use Rattle.point_cache.specs.Sorted.{first_at}
use Rattle.point_cache.proofs.LatestLemmas.{first_at-sorted, first_at-reverse, rising-sorted}
use Rattle.point_cache.proofs.rows.gather.Goals as goal

pub returns-clause-sorted : goal.returns-clause-sorted
returns-clause-sorted c = rising-sorted c.sort_by_key.new.self.items (c.in_ok-sort_by_key.ensures.sorted (λ (r : Row). r.0) (answers_always _ _ _ (λ f a r g h. search rules)))

pub returns-clause-firsts : goal.returns-clause-firsts
returns-clause-firsts c = λ t.
    let all : c.extend_from_slice.new.self.items ≡ c.args.points.now = c.in_ok-extend_from_slice.ensures.items ∙ ap (λ (l : List Row). l ++ c.args.points.now) c.clear.ensures.items in
    first_at-sorted _ c.sort_by_key.new.self.items (c.sort_by_key.ensures.stable (λ (r : Row). r.0) (answers_always _ _ _ (λ f a r g h. search rules))) t
    ∙ ap (λ (l : List Row). first_at l t) c.turn_round.ensures ∙ first_at-reverse c.extend_from_slice.new.self.items t ∙ ap (λ (l : List Row). latest l t) all
