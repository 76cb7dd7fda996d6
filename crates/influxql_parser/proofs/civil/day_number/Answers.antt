use Rattle.std.proofs.Common.{◌≡◌, Bool, ℤ, pos, cond, Option, Some, None, w8, w16, w32, arith, sym, ap, ◌∙◌}
use Rattle.std.proofs.lemmas.Int.{to_z-of_z, to_z_pos}
use Rattle.jiff_core.specs.Calendar.{days_from_civil}
use Rattle.influxql_parser.proofs.CivilLemmas.{day-known}
use Rattle.influxql_parser.proofs.civil.day_number.Goals as goal

pub returns-in-Ok : goal.returns-in-Ok
returns-in-Ok c =
    let years : c.in-Ok.date.year ≡ pos c.args.year = c.in-Ok.ensures.value.0 ∙ to_z_pos w16 c.args.year (omega (arith, c.requires.year)) in
    let months : pos c.in-Ok.date.month ≡ pos c.args.month = c.in-Ok.ensures.value.1 ∙ to_z_pos w8 c.args.month (omega (arith, c.requires.month)) in
    let days : pos c.in-Ok.date.day ≡ pos c.args.day = c.in-Ok.ensures.value.2 ∙ to_z_pos w8 c.args.day (omega (arith, c.requires.day)) in
    let known = day-known c.in-Ok.date.year c.in-Ok.date.month c.in-Ok.date.day c.args.year c.args.month c.args.day c.in-Ok.date.month_in c.in-Ok.date.day_in years months days in
    ap (λ (z : ℤ). Some z) (to_z-of_z w32 c.to_unix_epoch_day.result (record { sfits = c.to_unix_epoch_day.type_inv }) ∙ c.to_unix_epoch_day.ensures.value ∙ known.1)
    ∙ sym (ap (λ (b : Bool). cond b (Some (days_from_civil (pos c.args.year) c.args.month c.args.day)) None) known.0)
