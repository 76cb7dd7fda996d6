-- Which times pass comparisons of time?
use Rattle.std.specs.Prelude.{ℤ, pos, ◌+ℤ◌, ◌-ℤ◌, int_le, Option, Some, None, List, [], ◌∷◌, unwrap_or, if◌then◌else◌}
use Rattle.query_model.specs.declared.condition.Op.{Op}
use Rattle.query_model.specs.declared.condition.Op.TheVariants.{Eq, Lt, Le, Gt, Ge}
use Rattle.query_model.specs.Selected.{first_moment, last_moment}
use Rattle.influxql_parser.specs.declared.piece.Test.{Test}
use Rattle.influxql_parser.specs.declared.piece.Test.TheVariants as test

-- the least time that passes a comparison of time by itself, where it gives one
abbrev pub least_passing : Op → ℤ → Option ℤ
least_passing Eq moment = Some moment
least_passing Ge moment = Some moment
least_passing Gt moment = Some (moment +ℤ pos 1)
least_passing other moment = None

-- the greatest
abbrev pub greatest_passing : Op → ℤ → Option ℤ
greatest_passing Eq moment = Some moment
greatest_passing Le moment = Some moment
greatest_passing Lt moment = Some (moment -ℤ pos 1)
greatest_passing other moment = None

abbrev pub lower_bound_of : Test → Option ℤ
lower_bound_of (test.Time op (Some moment)) = least_passing op moment
lower_bound_of other = None

abbrev pub upper_bound_of : Test → Option ℤ
upper_bound_of (test.Time op (Some moment)) = greatest_passing op moment
upper_bound_of other = None

abbrev pub greater_of : Option ℤ → Option ℤ → Option ℤ
greater_of None bound = bound
greater_of (Some a) None = Some a
greater_of (Some a) (Some b) = if int_le a b then Some b else Some a

abbrev pub less_of : Option ℤ → Option ℤ → Option ℤ
less_of None bound = bound
less_of (Some a) None = Some a
less_of (Some a) (Some b) = if int_le a b then Some a else Some b

-- the greatest lower bound that comparisons give
abbrev pub lower_bound : List Test → Option ℤ
lower_bound [] = None
lower_bound (test ∷ tests) = greater_of (lower_bound_of test) (lower_bound tests)

-- the least upper one
abbrev pub upper_bound : List Test → Option ℤ
upper_bound [] = None
upper_bound (test ∷ tests) = less_of (upper_bound_of test) (upper_bound tests)

-- The first and the last time between two bounds; a bound that isn't given is the first or the last moment. Where no time
-- is between them, the last moment and the first.
abbrev pub times_between : Option ℤ → Option ℤ → ℤ × ℤ
times_between lower upper =
    by (unwrap_or (greater_of lower (Some first_moment)) first_moment) (unwrap_or (less_of upper (Some last_moment)) last_moment)
  where
    by : ℤ → ℤ → ℤ × ℤ
    by from to = if int_le from to then (from, to) else (last_moment, first_moment)
