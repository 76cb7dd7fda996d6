use Rattle.std.proofs.Common.{arith}
use Rattle.file_table.proofs.OrderLemmas.{differ, none_there}
use Rattle.file_table.proofs.order.place_of.Goals as goal

pub returns-then-at-files-clause-none : goal.returns-then-at-files-clause-none
returns-then-at-files-clause-none c = λ k d h. differ _ _ (λ is. omega (arith, c.lower_than-at.ensures.lower k d (omega arith) (omega (arith, h, c.if-at-files.true)), is))

pub returns-then-files-at-clause-none : goal.returns-then-files-at-clause-none
returns-then-files-at-clause-none c =
    none_there (λ f. f.no) c.args.files.now c.args.no c.lower_than-at.result _ c.requires c.if-at-files.false c.lower_than-at.ensures.lower c.lower_than-at.ensures.others c.if-files-at.true
