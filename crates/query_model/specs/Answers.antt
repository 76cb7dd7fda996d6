-- What does a SELECT answer over the points?
use Rattle.std.specs.Prelude.{ℕ, zero, suc, Bool, true, false, List, map, filter, take, drop, reverse, Option, Some, None}
use Rattle.point_model.specs.Points.{Points}
use Rattle.query_model.specs.declared.select.Select.{Select}
use Rattle.query_model.specs.declared.tables.Table.{Table}
use Rattle.query_model.specs.Refusals.{Refusal, select_refusal}
use Rattle.query_model.specs.Tables.{all_tables, has_row}

-- so many of a list; 0 is no limit
abbrev pub at_most : {X : Type 0} → ℕ → List X → List X
at_most zero xs = xs
at_most (suc limit) xs = take (suc limit) xs

-- some left out at the beginning, and at most so many of the others
abbrev pub shown_part : {X : Type 0} → ℕ → ℕ → List X → List X
shown_part offset limit xs = at_most limit (drop offset xs)

abbrev pub turned : {X : Type 0} → Bool → List X → List X
turned false xs = xs
turned true xs = reverse xs

abbrev pub limited : Select → Table → Table
limited select table =
    record {
      measurement = table.measurement;
      tags = table.tags;
      columns = table.columns;
      rows = shown_part select.offset select.limit (turned select.descending table.rows);
    }

-- The tables with their rows turned where that is asked for, then cut by the limits of rows; tables without a row then are
-- left out, and the others cut by the limits of tables.
abbrev pub select_tables : Select → Points → List Table
select_tables select points = shown_part select.soffset select.slimit (filter has_row (map (limited select) (all_tables select points)))

-- tables, or why there are none
pub data SelectAnswer : Type 0 where
  tables : List Table → SelectAnswer
  refused : Refusal → SelectAnswer

abbrev pub answer_of : Select → Points → Option Refusal → SelectAnswer
answer_of select points None = tables (select_tables select points)
answer_of select points (Some refusal) = refused refusal

abbrev pub rows : Points → Select → SelectAnswer
rows points select = answer_of select points (select_refusal select points)
