use Rattle.std.proofs.Common.{◌*◌, ◌≤◌, length, map, ◌∙◌, arith}
use Rattle.std.proofs.lemmas.Bool.{iff_false}
use Rattle.std.proofs.lemmas.List.{length-map}
use Rattle.time_codec.proofs.FollowingLemmas.{begin_behind, lead_only, times_only}
use Rattle.time_codec.proofs.following.times_from.Goals as goal

pub returns-then-not-lead_on-clause-only : goal.returns-then-not-lead_on-clause-only
returns-then-not-lead_on-clause-only c = λ later are apart.
    iff_false c.lead_on.ensures c.if-not-lead_on.true (lead_only c.args.first later (map (λ step. step * c.args.unit) c.args.steps.now) are apart)

pub returns-clause-found : goal.returns-clause-found
returns-clause-found c =
    let gaps = map (λ step. step * c.args.unit) c.args.steps.now in
    let few : length gaps ≤ 999 = omega (arith, length-map c.args.steps.now (λ step. step * c.args.unit), c.requires.few) in
    begin_behind c.args.first gaps c.follow.new.times.items c.requires.moment few (c.lead_on.ensures.0 c.if-not-lead_on.false) c.follow.ensures

pub returns-clause-only : goal.returns-clause-only
returns-clause-only c = λ later are apart.
    c.follow.ensures ∙ times_only c.args.first later (map (λ step. step * c.args.unit) c.args.steps.now) are apart
