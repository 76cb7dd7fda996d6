-- Some selects over small sets of points, with what they answer: the meaning walked by hand.
use Rattle.std.specs.Prelude.{◌≡◌, ℕ, ℤ, pos, negsuc, true, false, List, [], ◌∷◌, codes, Some, None}
use Rattle.tsdb_types.specs.declared.value.Value.TheVariants as value
use Rattle.tsdb_types.specs.declared.point.Cell.{Cell}
use Rattle.point_model.specs.Points.{Points}
use Rattle.query_model.specs.declared.condition.Literal.TheVariants as literal
use Rattle.query_model.specs.declared.condition.Op.TheVariants as op
use Rattle.query_model.specs.declared.items.Agg.{Agg}
use Rattle.query_model.specs.declared.items.Agg.TheVariants as agg
use Rattle.query_model.specs.declared.items.AggItem.{AggItem}
use Rattle.query_model.specs.declared.items.Items.{Items}
use Rattle.query_model.specs.declared.items.Items.TheVariants as items
use Rattle.query_model.specs.declared.items.RawItem.{RawItem}
use Rattle.query_model.specs.declared.items.Trans.TheVariants as trans
use Rattle.query_model.specs.declared.lists.HeadedList.{HeadedList}
use Rattle.query_model.specs.declared.select.Fill.TheVariants as fill
use Rattle.query_model.specs.declared.select.Select.{Select}
use Rattle.query_model.specs.declared.show.Show.TheVariants as show
use Rattle.query_model.specs.declared.tables.Row.{Row}
use Rattle.query_model.specs.declared.tables.Shown.{Shown}
use Rattle.query_model.specs.declared.tables.Shown.TheVariants as shown
use Rattle.query_model.specs.declared.tables.Table.{Table}
use Rattle.query_model.specs.declared.tables.TagText.{TagText}
use Rattle.query_model.specs.Answers.{rows, tables, refused}
use Rattle.query_model.specs.Conditions.{True, Compare, Or}
use Rattle.query_model.specs.Lists.{show_lists}
use Rattle.query_model.specs.Refusals.{bad_argument, sum_range}

abbrev pub cell : List ℕ → List ℕ → ℤ → Cell
cell series field time = record { time = time; series = series; field = field }

-- `cpu,host=a v=1i 10`, `cpu,host=b v=2i 20`, `cpu,host=a v=4i 30`
abbrev pub three_points : Points
three_points =
    (cell (codes "cpu,host=a") (codes "v") (pos 10), value.Int (pos 1))
    ∷ (cell (codes "cpu,host=b") (codes "v") (pos 20), value.Int (pos 2))
    ∷ (cell (codes "cpu,host=a") (codes "v") (pos 30), value.Int (pos 4)) ∷ []

-- `SELECT` of these items `FROM cpu`
abbrev pub select_of : Items → Select
select_of items = record {
  items = items;
  measurement = codes "cpu";
  cond = True;
  lower = None;
  upper = None;
  moment = pos 1000;
  all_tags = false;
  tags = [];
  windows = None;
  fill = fill.Null;
  descending = false;
  limit = 0;
  offset = 0;
  slimit = 0;
  soffset = 0;
}

abbrev pub raw : List ℕ → RawItem
raw name = record { name = name; alias = None }

abbrev pub call_of : Agg → List ℕ → AggItem
call_of call field = record { call = call; field = field; alias = None }

abbrev pub table : List TagText → List (List ℕ) → List Row → Table
table tags columns rows = record { measurement = codes "cpu"; tags = tags; columns = columns; rows = rows }

abbrev pub row : ℤ → List Shown → Row
row time cells = record { time = time; cells = cells }

abbrev pub integer : ℤ → Shown
integer number = shown.Value (value.Int number)

-- `SELECT v, host FROM cpu WHERE v > 1 ORDER BY time DESC LIMIT 1`
abbrev pub last_row : Select
last_row = record (select_of (items.Raw (raw (codes "v") ∷ raw (codes "host") ∷ []))) {
  cond = Compare (codes "v") op.Gt (literal.Int (pos 1));
  descending = true;
  limit = 1;
}

-- `SELECT v FROM cpu WHERE host = ''`
abbrev pub without_host : Select
without_host = record (select_of (items.Raw (raw (codes "v") ∷ []))) { cond = Compare (codes "host") op.Eq (literal.Text []) }

-- `SELECT difference(v) FROM cpu GROUP BY host`
abbrev pub difference_by_host : Select
difference_by_host = record (select_of (items.Trans (record { call = trans.Difference; field = codes "v"; alias = None }))) { tags = codes "host" ∷ [] }

-- `SELECT first(v), max(v) FROM cpu WHERE time >= 10`
abbrev pub first_and_max : Select
first_and_max = record (select_of (items.Agg (call_of agg.First (codes "v") ∷ call_of agg.Max (codes "v") ∷ []))) { lower = Some (pos 10) }

-- `SELECT max(v), max(v) FROM cpu`
abbrev pub max_twice : Select
max_twice = select_of (items.Agg (call_of agg.Max (codes "v") ∷ call_of agg.Max (codes "v") ∷ []))

-- `SELECT sum(v) FROM cpu WHERE host = 'a' AND time >= 0 AND time < 60 GROUP BY time(10ns) FILL(previous)`
abbrev pub sums_of_a : Select
sums_of_a = record (select_of (items.Agg (call_of agg.Sum (codes "v") ∷ []))) {
  cond = Compare (codes "host") op.Eq (literal.Text (codes "a"));
  lower = Some (pos 0);
  upper = Some (pos 59);
  windows = Some (pos 10, pos 0);
  fill = fill.Previous;
}

-- `cpu v=1i -15`, `cpu v=4i 14`
abbrev pub two_points : Points
two_points = (cell (codes "cpu") (codes "v") (negsuc 14), value.Int (pos 1)) ∷ (cell (codes "cpu") (codes "v") (pos 14), value.Int (pos 4)) ∷ []

-- `SELECT sum(v), count(v) FROM cpu WHERE time >= -15 AND time <= 14 GROUP BY time(10ns)`
abbrev pub windows_round_zero : Select
windows_round_zero = record (select_of (items.Agg (call_of agg.Sum (codes "v") ∷ call_of agg.Count (codes "v") ∷ []))) {
  lower = Some (negsuc 14);
  upper = Some (pos 14);
  windows = Some (pos 10, pos 0);
}

-- `cpu,h=a v=9223372036854775807i 1`, `cpu,h=b v=1i 2`
abbrev pub great_points : Points
great_points =
    (cell (codes "cpu,h=a") (codes "v") (pos 1), value.Int (pos 9223372036854775807))
    ∷ (cell (codes "cpu,h=b") (codes "v") (pos 2), value.Int (pos 1)) ∷ []

abbrev pub one_call : Agg → Select
one_call call = select_of (items.Agg (call_of call (codes "v") ∷ []))

-- `cpu v=5i 10`, `cpu v=5i 20`
abbrev pub equal_points : Points
equal_points = (cell (codes "cpu") (codes "v") (pos 10), value.Int (pos 5)) ∷ (cell (codes "cpu") (codes "v") (pos 20), value.Int (pos 5)) ∷ []

-- `cpu,host=- on=true 1`, `mem v=1u 2`
abbrev pub other_points : Points
other_points =
    (cell (codes "cpu,host=-") (codes "on") (pos 1), value.Bool true) ∷ (cell (codes "mem") (codes "v") (pos 2), value.Uint 1) ∷ []

-- `SELECT sum(on) FROM cpu`
abbrev pub sum_of_truths : Select
sum_of_truths = select_of (items.Agg (call_of agg.Sum (codes "on") ∷ []))

abbrev pub list : List (List ℕ) → List (List ℕ) → HeadedList
list head lines = record { head = head; lines = lines }

-- `SELECT * FROM cpu GROUP BY *`
abbrev pub all_by_all : Select
all_by_all = record (select_of items.Star) { all_tags = true }

-- `SELECT v FROM cpu GROUP BY host OFFSET 1 SLIMIT 1`
abbrev pub second_rows : Select
second_rows = record (select_of (items.Raw (raw (codes "v") ∷ []))) { tags = codes "host" ∷ []; offset = 1; slimit = 1 }

-- `SELECT count(v), last(v) FROM cpu WHERE time >= 10 AND time <= 30 GROUP BY time(20ns, 15ns) FILL(none)`
abbrev pub moved_windows : Select
moved_windows = record (select_of (items.Agg (call_of agg.Count (codes "v") ∷ call_of agg.Last (codes "v") ∷ []))) {
  lower = Some (pos 10);
  upper = Some (pos 30);
  windows = Some (pos 20, pos 15);
  fill = fill.None;
}

-- `SELECT count(v), min(v) FROM cpu WHERE time >= 0 AND time <= 25 GROUP BY time(10ns) FILL(7)`
abbrev pub sevens : Select
sevens = record (select_of (items.Agg (call_of agg.Count (codes "v") ∷ call_of agg.Min (codes "v") ∷ []))) {
  lower = Some (pos 0);
  upper = Some (pos 25);
  windows = Some (pos 10, pos 0);
  fill = fill.Number (pos 7);
}

-- `SELECT cumulative_sum(v) FROM cpu`
abbrev pub sums_up_to : Select
sums_up_to = select_of (items.Trans (record { call = trans.CumulativeSum; field = codes "v"; alias = None }))

-- `SELECT elapsed(v, 3ns) FROM cpu`
abbrev pub times_between : Select
times_between = select_of (items.Trans (record { call = trans.Elapsed (pos 3); field = codes "v"; alias = None }))

-- `SELECT spread(v), count(v) FROM cpu WHERE host = 'a' OR v = 2`
abbrev pub spread_of_both : Select
spread_of_both = record (select_of (items.Agg (call_of agg.Spread (codes "v") ∷ call_of agg.Count (codes "v") ∷ []))) {
  cond = Or (Compare (codes "host") op.Eq (literal.Text (codes "a"))) (Compare (codes "v") op.Eq (literal.Int (pos 2)));
}

-- `SELECT v FROM mem WHERE v > -1`
abbrev pub above_a_negative : Select
above_a_negative = record (select_of (items.Raw (raw (codes "v") ∷ []))) {
  measurement = codes "mem";
  cond = Compare (codes "v") op.Gt (literal.Int (negsuc 0));
}

-- what each of them answers
pub record WorkedRows : Type 0 where
  pub last_row : rows three_points last_row ≡ tables (table [] (codes "v" ∷ codes "host" ∷ []) (row (pos 30) (integer (pos 4) ∷ shown.Tag (codes "a") ∷ []) ∷ []) ∷ [])
  pub without_host : rows three_points without_host ≡ tables []
  pub difference : rows three_points difference_by_host ≡ tables (table (record { key = codes "host"; value = codes "a" } ∷ []) (codes "difference" ∷ []) (row (pos 30) (integer (pos 3) ∷ []) ∷ []) ∷ [])
  pub first_and_max : rows three_points first_and_max ≡ tables (table [] (codes "first" ∷ codes "max" ∷ []) (row (pos 10) (integer (pos 1) ∷ integer (pos 4) ∷ []) ∷ []) ∷ [])
  pub max_twice : rows three_points max_twice ≡ tables (table [] (codes "max" ∷ codes "max_1" ∷ []) (row (pos 0) (integer (pos 4) ∷ integer (pos 4) ∷ []) ∷ []) ∷ [])
  pub previous : rows three_points sums_of_a ≡ tables (table [] (codes "sum" ∷ [])
      (row (pos 0) (shown.Absent ∷ []) ∷ row (pos 10) (integer (pos 1) ∷ []) ∷ row (pos 20) (integer (pos 1) ∷ []) ∷ row (pos 30) (integer (pos 4) ∷ [])
      ∷ row (pos 40) (integer (pos 4) ∷ []) ∷ row (pos 50) (integer (pos 4) ∷ []) ∷ []) ∷ [])
  pub round_zero : rows two_points windows_round_zero ≡ tables (table [] (codes "sum" ∷ codes "count" ∷ [])
      (row (negsuc 19) (integer (pos 1) ∷ integer (pos 1) ∷ []) ∷ row (negsuc 9) (shown.Absent ∷ integer (pos 0) ∷ [])
      ∷ row (pos 0) (shown.Absent ∷ integer (pos 0) ∷ []) ∷ row (pos 10) (integer (pos 4) ∷ integer (pos 1) ∷ []) ∷ []) ∷ [])
  pub sum_out_of_range : rows great_points (one_call agg.Sum) ≡ refused sum_range
  pub max_in_range : rows great_points (one_call agg.Max) ≡ tables (table [] (codes "max" ∷ []) (row (pos 1) (integer (pos 9223372036854775807) ∷ []) ∷ []) ∷ [])
  pub earlier_of_equal : rows equal_points (one_call agg.Max) ≡ tables (table [] (codes "max" ∷ []) (row (pos 10) (integer (pos 5) ∷ []) ∷ []) ∷ [])
  pub truths_have_no_sum : rows other_points sum_of_truths ≡ refused bad_argument
  pub tag_values : show_lists three_points (show.TagValues None (codes "host"))
      ≡ list (codes "name: cpu" ∷ codes "key value" ∷ []) (codes "host a" ∷ codes "host b" ∷ []) ∷ []
  pub dash_is_told_apart : show_lists other_points (show.TagValues None (codes "host"))
      ≡ list (codes "name: cpu" ∷ codes "key value" ∷ []) (codes "host \\-" ∷ []) ∷ []
  pub field_keys : show_lists other_points (show.FieldKeys None)
      ≡ list (codes "name: cpu" ∷ codes "fieldKey fieldType" ∷ []) (codes "on boolean" ∷ [])
      ∷ list (codes "name: mem" ∷ codes "fieldKey fieldType" ∷ []) (codes "v unsigned" ∷ []) ∷ []
  pub series_of_none : show_lists three_points (show.Series (Some (codes "mem"))) ≡ []
  pub star : rows three_points all_by_all ≡ tables
      (table (record { key = codes "host"; value = codes "a" } ∷ []) (codes "v" ∷ [])
      (row (pos 10) (integer (pos 1) ∷ []) ∷ row (pos 30) (integer (pos 4) ∷ []) ∷ [])
      ∷ table (record { key = codes "host"; value = codes "b" } ∷ []) (codes "v" ∷ []) (row (pos 20) (integer (pos 2) ∷ []) ∷ []) ∷ [])
  pub offset : rows three_points second_rows ≡ tables
      (table (record { key = codes "host"; value = codes "a" } ∷ []) (codes "v" ∷ []) (row (pos 30) (integer (pos 4) ∷ []) ∷ []) ∷ [])
  pub moved : rows three_points moved_windows ≡ tables (table [] (codes "count" ∷ codes "last" ∷ [])
      (row (negsuc 4) (integer (pos 1) ∷ integer (pos 1) ∷ []) ∷ row (pos 15) (integer (pos 2) ∷ integer (pos 4) ∷ []) ∷ []) ∷ [])
  pub number : rows three_points sevens ≡ tables (table [] (codes "count" ∷ codes "min" ∷ [])
      (row (pos 0) (integer (pos 7) ∷ integer (pos 7) ∷ []) ∷ row (pos 10) (integer (pos 1) ∷ integer (pos 1) ∷ [])
      ∷ row (pos 20) (integer (pos 1) ∷ integer (pos 2) ∷ []) ∷ []) ∷ [])
  pub turned_when_filled : rows three_points (record sums_of_a { descending = true; limit = 2 }) ≡ tables (table [] (codes "sum" ∷ [])
      (row (pos 50) (integer (pos 4) ∷ []) ∷ row (pos 40) (integer (pos 4) ∷ []) ∷ []) ∷ [])
  pub cumulative_sum : rows three_points sums_up_to ≡ tables (table [] (codes "cumulative_sum" ∷ [])
      (row (pos 10) (integer (pos 1) ∷ []) ∷ row (pos 20) (integer (pos 3) ∷ []) ∷ row (pos 30) (integer (pos 7) ∷ []) ∷ []) ∷ [])
  pub elapsed : rows three_points times_between ≡ tables (table [] (codes "elapsed" ∷ [])
      (row (pos 20) (integer (pos 3) ∷ []) ∷ row (pos 30) (integer (pos 3) ∷ []) ∷ []) ∷ [])
  pub spread : rows three_points spread_of_both ≡ tables (table [] (codes "spread" ∷ codes "count" ∷ [])
      (row (pos 0) (integer (pos 3) ∷ integer (pos 3) ∷ []) ∷ []) ∷ [])
  pub unsigned : rows other_points above_a_negative ≡ tables
      (record (table [] (codes "v" ∷ []) (row (pos 2) (shown.Value (value.Uint 1) ∷ []) ∷ [])) { measurement = codes "mem" } ∷ [])
