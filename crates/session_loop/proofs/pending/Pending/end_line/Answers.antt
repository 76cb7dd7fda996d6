-- The BATCH takes one more line.
use Rattle.std.proofs.Common.{ℕ, List, [], ◌∷◌, ◌++◌, sym, subst, arith, Option, length-append}
use Rattle.session_model.specs.Lines.{Open, next_line}
use Rattle.session_loop.specs.LineAsItComes.{StandsFor}
use Rattle.session_loop.specs.Pendings.{HasEnded, HoldsBatch}
use Rattle.session_loop.proofs.KeepingLemmas.{stands_for}
use Rattle.session_loop.proofs.PendingLemmas.{the_batch}
use Rattle.session_loop.proofs.pending.Pending.end_line.Goals as goal

pub returns-then-self-clause-ended : goal.returns-then-self-clause-ended
returns-then-self-clause-ended c = λ before batch last pends.
    let one = the_batch c.args.self.now batch c.if-self.true pends.gathered in
    let stands = subst (λ (l : List ℕ). StandsFor 65537 l last) (sym c.kept.ensures) (stands_for last c.args.self.now.line.kept.items pends.line.kept) in
    subst (λ (b : Option Open). HasEnded c.settle.result c.settle.new.self before (next_line before b last).requests) (sym one.is)
    (c.settle.ensures.ended before one.open_one.count (one.open_one.lines ++ last ∷ []) (c.add_line.ensures one.open_one.count one.open_one.lines last one.room one.gathers stands))

pub returns-then-self-clause-left : goal.returns-then-self-clause-left
returns-then-self-clause-left c = λ before batch last pends.
    let one = the_batch c.args.self.now batch c.if-self.true pends.gathered in
    let stands = subst (λ (l : List ℕ). StandsFor 65537 l last) (sym c.kept.ensures) (stands_for last c.args.self.now.line.kept.items pends.line.kept) in
    let longer = length-append one.open_one.lines (last ∷ []) in
    let room = one.room in
    subst (λ (b : Option Open). HoldsBatch c.settle.new.self (next_line before b last).open_batch) (sym one.is)
    (c.settle.ensures.left before one.open_one.count (one.open_one.lines ++ last ∷ []) (c.add_line.ensures one.open_one.count one.open_one.lines last one.room one.gathers stands) (omega arith))
