use Rattle.std.proofs.Common.{◌<◌, length, get_or, subst, arith, inl, refl}
use Rattle.std.proofs.lemmas.Option.{slice_get-get_or}
use Rattle.point_cache.specs.Steps.{HasKey}
use Rattle.point_cache.proofs.runs.Runs.place_at.Goals as goal

pub returns-then-goes_on-clause-found : goal.returns-then-goes_on-clause-found
returns-then-goes_on-clause-found c = λ point at.
    let points = c.args.points.now in
    let on = c.goes_on.ensures c.if-goes_on.true in
    let k = on.0 in
    let before : k < length points = omega (arith, on.1, c.requires.within) in
    let there = slice_get-get_or points k point before in
    let was = c.requires.before k on.1 (get_or points k point) there in
    (inl (refl, subst (HasKey c.args.self.now.entries c.args.place) (on.2 (get_or points k point) point there at) was.0), was.1)
