use Rattle.std.proofs.Common.{IfOk, sym, subst}
use Rattle.point_model.specs.declared.part.Join.{Join}
use Rattle.series_index.proofs.StackLemmas.{Joins, and_of, or_of}
use Rattle.series_index.proofs.matching.joined_ids.Goals as goal

pub returns-in-And : goal.returns-in-And
returns-in-And c = subst (λ (j : Join). IfOk c.both.result (Joins j c.args.first.now c.args.second.now)) (sym c.in-And.is) (and_of c.both.result c.args.first.now c.args.second.now c.both.ensures)

pub returns-in-Or : goal.returns-in-Or
returns-in-Or c = subst (λ (j : Join). IfOk c.either.result (Joins j c.args.first.now c.args.second.now)) (sym c.in-Or.is) (or_of c.either.result c.args.first.now c.args.second.now c.either.ensures)
