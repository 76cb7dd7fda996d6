use Rattle.std.proofs.Common.{◌≡◌, ◌-◌, ◌∷◌, ℕ, List, length, map, rules, sym, ◌∙◌, ap, arith}
use Rattle.value_codec.specs.Steps.{steps_from, coded_steps}
use Rattle.value_codec.specs.Coding.{number_of}
use Rattle.value_codec.proofs.StepLemmas.{steps_from-fit}
use Rattle.value_codec.proofs.OfKinds.{length-steps, coded_numbers-is}
use Rattle.value_codec.proofs.points.number_points.Goals as goal

pub returns-in_err-first-clause-bad_block : goal.returns-in_err-first-clause-bad_block
returns-in_err-first-clause-bad_block c = λ bad values spelled.
    c.in_err-first.ensures.bad_block (search rules) (steps_from 0 (map number_of values)) (steps_from-fit 0 (map number_of values)) (omega (arith, length-steps values, spelled.size, c.requires.some))
    (sym (coded_numbers-is c.args.kind values c.requires.numbers) ∙ spelled.spelled)

pub points_with-requires-clause-size : goal.points_with-requires-clause-size
points_with-requires-clause-size c =
    let behind : length c.as_slice.result.now ≡ length c.args.times.now - 1 = ap length c.as_slice.ensures.value ∙ c.in_ok-first.ensures.size in
    omega (arith, behind, c.requires.some)

pub returns-clause-found : goal.returns-clause-found
returns-clause-found c =
    let values = map (λ point. point.1) c.in_ok-points.points.items in
    let behind : length c.as_slice.result.now ≡ length c.args.times.now - 1 = ap length c.as_slice.ensures.value ∙ c.in_ok-first.ensures.size in
    record {
      alike = c.in_ok-points.ensures.kind;
      size = omega (arith, sym (length-steps values) ∙ ap length c.in_ok-points.ensures.steps, behind, c.requires.some);
      some = c.requires.some;
      most = c.requires.most;
      spelled = coded_numbers-is c.args.kind values c.requires.numbers ∙ ap coded_steps c.in_ok-points.ensures.steps ∙ ap (λ (xs : List ℕ). coded_steps (c.in_ok-first.first ∷ xs)) c.as_slice.ensures.value ∙ c.in_ok-first.ensures.found;
    }
