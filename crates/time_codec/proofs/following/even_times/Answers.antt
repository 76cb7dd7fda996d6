use Rattle.std.proofs.Common.{◌≡◌, ◌∷◌, replicate, sym, subst}
use Rattle.std.specs.Prelude.{ℤ, IfOk}
use Rattle.time_codec.specs.Reading.{times_behind}
use Rattle.time_codec.proofs.following.even_times.Goals as goal

pub returns-in-Some : goal.returns-in-Some
returns-in-Some c =
    let gaps = replicate c.args.later c.args.distance in
    subst (λ (t : ℤ). IfOk c.early_times.result (λ times. times.items ≡ t ∷ times_behind t gaps)) (sym c.in-Some.ensures.0) c.early_times.ensures
