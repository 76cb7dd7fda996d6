-- The first range that doesn't end before the time is the only one that may have it.
use Rattle.std.proofs.Common.{◌≡◌, ℤ, ◌≤ℤ◌, ◌<ℤ◌, take, drop, ◌∙◌, subst, arith, rules, FitsSigned, w64, to_z, of_z, false}
use Rattle.std.specs.List.{AllByRecursion}
use Rattle.std.proofs.lemmas.Bool.{false≢true}
use Rattle.std.proofs.lemmas.Int.{to_z-of_z}
use Rattle.std.proofs.lemmas.List.{take_all}
use Rattle.tombstones.proofs.CoverLemmas.{covers_at, none_ended}
use Rattle.point_view.proofs.CoverLemmas.{covered_is}
use Rattle.point_view.proofs.hidden.is_hidden.Goals as goal

pub returns-then-place-ranges : goal.returns-then-place-ranges
returns-then-place-ranges c =
    let ranges = c.args.ranges.now in
    let place = c.ended_before-place.result in
    let fits : FitsSigned w64 c.get.result = search rules in
    let same : to_z w64 (of_z w64 c.get.result) ≡ c.args.time = to_z-of_z w64 c.get.result fits ∙ c.get.ensures.value in
    let ended = subst (λ (t : ℤ). AllByRecursion (λ r. r.to <ℤ t) (take place ranges)) same c.ended_before-place.ensures.ended in
    let all : take place ranges ≡ ranges = take_all place ranges (omega arith) in
    covered_is false ranges c.args.time (
      λ is. absurd (false≢true is),
      λ covered. absurd (none_ended ranges c.args.time (subst (λ ys. AllByRecursion (λ r. r.to <ℤ c.args.time) ys) all ended) covered),
    )

pub returns : goal.returns
returns c =
    let ranges = c.args.ranges.now in
    let place = c.ended_before-place.result in
    let fits : FitsSigned w64 c.get.result = search rules in
    let same : to_z w64 (of_z w64 c.get.result) ≡ c.args.time = to_z-of_z w64 c.get.result fits ∙ c.get.ensures.value in
    let ended = subst (λ (t : ℤ). AllByRecursion (λ r. r.to <ℤ t) (take place ranges)) same c.ended_before-place.ensures.ended in
    let others = subst (λ (t : ℤ). AllByRecursion (λ r. t ≤ℤ r.to) (drop place ranges)) same c.ended_before-place.ensures.others in
    let at = covers_at ranges c.args.time place c.index-ranges-place.result c.requires ended others c.if-place-ranges.false c.index-ranges-place.is in
    covered_is c.begins_by.result ranges c.args.time (λ is. at.0 (c.begins_by.ensures.0 is), λ covered. c.begins_by.ensures.1 (at.1 covered))
