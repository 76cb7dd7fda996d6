use Rattle.std.proofs.Common.{◌≡◌, List, [], sym, ap, ◌∙◌, subst, arith}
use Rattle.std.specs.List.{AllByRecursion}
use Rattle.point_model.specs.Rows.{Row}
use Rattle.point_cache.specs.Cached.{IsRun, count, points_at}
use Rattle.point_cache.specs.Leaving.{points_without}
use Rattle.point_cache.specs.Staged.{Staging, IsUnstaged, entries_of, lives}
use Rattle.point_cache.proofs.EntryLemmas.{place_has, staged_found, staged_or}
use Rattle.point_cache.proofs.PlainLemmas.{count_lives, have_of, runs_of, up_of, points_lives, staging_unstaged, unstaged_plain, up_covered}
use Rattle.point_cache.proofs.StepLemmas.{plain_lives}
use Rattle.point_cache.proofs.TakeLemmas.{none_of, without_none}
use Rattle.point_cache.proofs.runs.Runs.remove.Goals as goal

pub remove_at-taken-requires : goal.remove_at-taken-requires
remove_at-taken-requires c = place_has c.self.inside.map.entries c.args.key.now c.in-Some.place (sym c.in-Some.ensures.index)

pub overflow_sub-self : goal.overflow_sub-self
overflow_sub-self c = let counted = c.remove_at-taken.ensures.counted in let was = c.self.invariant.counted in omega (arith, counted, was)

pub invariant_of-self : goal.invariant_of-self
invariant_of-self c =
    let es = entries_of c.self.inside.map.entries in
    let new = entries_of c.remove_at-taken.new.map.entries in
    let unstaged : IsUnstaged es = subst IsUnstaged (sym (ap (λ (s : Staging). s.entries) c.self.view_is ∙ ap (λ (s : Staging). s.entries) c.requires)) (unstaged_plain (lives c.args.self.now.entries)) in
    let counted = c.remove_at-taken.ensures.counted in
    let was = c.self.invariant.counted in
    let removes = c.remove_at-taken.ensures.removes in
    staging_unstaged new c.self.inside.touched.items _ (removes.unstaged unstaged) (removes.ascending (up_covered es c.self.inside.touched.items c.self.invariant.each)) (omega (arith, counted, was))

pub returns-in-Some-clause-plain : goal.returns-in-Some-clause-plain
returns-in-Some-clause-plain c =
    let es = entries_of c.self.inside.map.entries in
    let new = entries_of c.remove_at-taken.new.map.entries in
    let unstaged : IsUnstaged es = subst IsUnstaged (sym (ap (λ (s : Staging). s.entries) c.self.view_is ∙ ap (λ (s : Staging). s.entries) c.requires)) (unstaged_plain (lives c.args.self.now.entries)) in
    let touched : c.self.inside.touched.items ≡ [] = ap (λ (s : Staging). s.touched) c.self.view_is ∙ ap (λ (s : Staging). s.touched) c.requires in
    let plainly = sym (plain_lives new (c.remove_at-taken.ensures.removes.unstaged unstaged)) in
    λ i. record { entries = plainly i; touched = touched i }

pub returns-in-Some-clause-points : goal.returns-in-Some-clause-points
returns-in-Some-clause-points c = λ other.
    let es = entries_of c.self.inside.map.entries in
    let new = entries_of c.remove_at-taken.new.map.entries in
    points_lives new other ∙ c.remove_at-taken.ensures.removes.points other
    ∙ ap (λ (rows : List Row). points_without c.args.key.now c.args.from c.args.to other rows) (sym (points_lives es other) ∙ ap (λ (s : Staging). points_at (lives s.entries) other) c.self.view_is)

pub returns-in-Some-clause-each : goal.returns-in-Some-clause-each
returns-in-Some-clause-each c = λ each.
    let es = entries_of c.self.inside.map.entries in
    let new = entries_of c.remove_at-taken.new.map.entries in
    let runs = subst (λ (s : Staging). AllByRecursion IsRun (lives s.entries)) (sym c.self.view_is) each in
    let removes = c.remove_at-taken.ensures.removes in
    runs_of new (removes.some (have_of es runs)) (removes.ascending (up_of es runs))

pub returns-in-Some-clause-fewer : goal.returns-in-Some-clause-fewer
returns-in-Some-clause-fewer c =
    let es = entries_of c.self.inside.map.entries in
    let new = entries_of c.remove_at-taken.new.map.entries in
    let counted = c.remove_at-taken.ensures.counted in
    let one = count_lives new in
    let two = count_lives es in
    let was = ap (λ (s : Staging). count (lives s.entries)) c.self.view_is in
    omega (arith, counted, one, two, was)

pub returns-in_default-clause-points : goal.returns-in_default-clause-points
returns-in_default-clause-points c = λ other.
    let es = entries_of c.self.inside.map.entries in
    let none = none_of _ (sym c.in_default.ensures.found) in
    let found = staged_found c.self.inside.map.entries c.args.key.now ∙ ap staged_or none in
    without_none c.args.key.now c.args.from c.args.to other (points_at (lives c.args.self.now.entries))
    (ap (λ (s : Staging). points_at (lives s.entries) c.args.key.now) (sym c.self.view_is) ∙ points_lives es c.args.key.now ∙ ap (λ s. s.live) found)
