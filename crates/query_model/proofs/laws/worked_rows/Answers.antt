use Rattle.std.proofs.Common.{ℕ, pos, List, [], ◌∷◌, ◌++◌, codes, refl, ap, arith}
use Rattle.std.proofs.lemmas.Fmt.{decimal_digit}
use Rattle.query_model.specs.Answers.{tables}
use Rattle.query_model.specs.Worked.{integer, row, table}
use Rattle.query_model.proofs.laws.worked_rows.Goals as goal

pub returns : goal.returns
returns c = record {
  last_row = refl;
  without_host = refl;
  difference = refl;
  first_and_max = refl;
  max_twice =
      ap (λ (number : List ℕ). tables (table [] (codes "max" ∷ (codes "max" ++ codes "_" ++ number) ∷ []) (row (pos 0) (integer (pos 4) ∷ integer (pos 4) ∷ []) ∷ []) ∷ []))
      (decimal_digit 1 (omega arith));
  previous = refl;
  round_zero = refl;
  sum_out_of_range = refl;
  max_in_range = refl;
  earlier_of_equal = refl;
  truths_have_no_sum = refl;
  tag_values = refl;
  dash_is_told_apart = refl;
  field_keys = refl;
  series_of_none = refl;
  star = refl;
  offset = refl;
  moved = refl;
  number = refl;
  turned_when_filled = refl;
  cumulative_sum = refl;
  elapsed = refl;
  spread = refl;
  unsigned = refl;
}
