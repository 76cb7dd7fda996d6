use Rattle.std.proofs.Common.{◌≡◌, ◌++◌, false, take, drop}
use Rattle.point_model.specs.Tags.{front, rest}
use Rattle.index_lists.proofs.tags.cut.Given as goal

abbrev pub invariant-loop-at : goal.invariant-loop-at
invariant-loop-at l = record {
  before : take l.at l.text ++ front l.mark l.slash (drop l.at l.text) ≡ front l.mark false l.text;
  behind : rest l.mark l.slash (drop l.at l.text) ≡ rest l.mark false l.text;
}
