use Rattle.std.proofs.Common.{◌≡◌, ◌++◌, false, take, drop}
use Rattle.tsdb_types.specs.Series.{is_one_of}
use Rattle.tsdb_types.specs.Spelled.{name_front, name_rest}
use Rattle.tsdb_types.proofs.spelled.cut_name.Given as goal

abbrev pub invariant-loop-at : goal.invariant-loop-at
invariant-loop-at l = record {
  before : take l.at l.text ++ name_front (is_one_of l.ends) l.slash (drop l.at l.text) ≡ name_front (is_one_of l.ends) false l.text;
  behind : name_rest (is_one_of l.ends) l.slash (drop l.at l.text) ≡ name_rest (is_one_of l.ends) false l.text;
}
