use Rattle.std.proofs.Common.{◌≡◌, ◌*◌, ◌∷◌, length, map, replicate, ap, sym, subst, ◌∙◌, arith}
use Rattle.std.proofs.lemmas.Bool.{iff_false}
use Rattle.std.proofs.lemmas.List.{length-replicate}
use Rattle.time_codec.specs.Reading.{Lead, times_behind}
use Rattle.time_codec.proofs.FollowingLemmas.{begin_behind, lead_only, times_only, map-replicate, gap_fits, even_some}
use Rattle.time_codec.proofs.following.times_evenly.Goals as goal

pub returns-then-not-lead_evenly-clause-only : goal.returns-then-not-lead_evenly-clause-only
returns-then-not-lead_evenly-clause-only c = λ others are apart.
    iff_false c.lead_evenly.ensures c.if-not-lead_evenly.true (lead_only c.args.first others (map (λ step. step * c.args.unit) (replicate c.args.later c.args.step)) are apart)

pub overflow_mul-step : goal.overflow_mul-step
overflow_mul-step c =
    let gap = c.args.step * c.args.unit in
    let lead = subst (Lead c.args.first) (map-replicate c.args.later c.args.step c.args.unit) (c.lead_evenly.ensures.0 c.if-not-lead_evenly.false) in
    let here = subst (Lead c.args.first) (even_some c.args.later gap c.requires.more) lead in
    omega (arith, gap_fits c.args.first gap c.requires.moment here.1)

pub even_times-requires-clause-on : goal.even_times-requires-clause-on
even_times-requires-clause-on c =
    subst (Lead c.args.first) (map-replicate c.args.later c.args.step c.args.unit) (c.lead_evenly.ensures.0 c.if-not-lead_evenly.false)

pub returns-clause-found : goal.returns-clause-found
returns-clause-found c =
    let gaps = map (λ step. step * c.args.unit) (replicate c.args.later c.args.step) in
    let same = map-replicate c.args.later c.args.step c.args.unit in
    let few : length gaps ≡ c.args.later = ap length same ∙ length-replicate c.args.later (c.args.step * c.args.unit) in
    let new = c.in_ok-times.ensures ∙ ap (λ gs. c.args.first ∷ times_behind c.args.first gs) (sym same) in
    begin_behind c.args.first gaps c.in_ok-times.times.items c.requires.moment (omega (arith, few, c.requires.few)) (c.lead_evenly.ensures.0 c.if-not-lead_evenly.false) new

pub returns-clause-only : goal.returns-clause-only
returns-clause-only c = λ others are apart.
    let gaps = map (λ step. step * c.args.unit) (replicate c.args.later c.args.step) in
    let same = map-replicate c.args.later c.args.step c.args.unit in
    c.in_ok-times.ensures ∙ ap (λ gs. c.args.first ∷ times_behind c.args.first gs) (sym same) ∙ times_only c.args.first others gaps are apart
