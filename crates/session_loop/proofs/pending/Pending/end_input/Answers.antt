-- The BATCH that is open, the one that the last line begins, or the last line.
use Rattle.std.proofs.Common.{ℕ, List, [], ◌∷◌, ◌++◌, sym, ap, ◌∙◌, subst, Option}
use Rattle.session_model.specs.Lines.{Request, Open, begin, closed, last_line}
use Rattle.session_model.specs.Lines.Request.{Batch}
use Rattle.session_loop.specs.LineAsItComes.{StandsFor}
use Rattle.session_loop.specs.Pendings.{HasEnded}
use Rattle.session_loop.proofs.KeepingLemmas.{stands_for}
use Rattle.session_loop.proofs.PendingLemmas.{the_batch, no_batch, stands_of, begin_open}
use Rattle.session_loop.proofs.pending.Pending.end_input.Goals as goal

pub returns-then-self : goal.returns-then-self
returns-then-self c = λ before batch last pends.
    let one = the_batch c.args.self.now batch c.if-self.true pends.gathered in
    let stands = subst (λ (l : List ℕ). StandsFor 65537 l last) (sym c.kept.ensures) (stands_for last c.args.self.now.line.kept.items pends.line.kept) in (
      one.open_one.count,
      one.open_one.lines,
      last,
      c.add_rest.ensures one.open_one.count one.open_one.lines last one.room one.gathers stands,
      ap (λ (b : Option Open). last_line before b last) one.is,
    )

pub returns-then-self-2 : goal.returns-then-self-2
returns-then-self-2 c = λ before batch last pends.
    let none = no_batch c.args.self.now batch c.if-self.false pends.gathered in
    let stands = stands_of c.args.self.now.line last pends.line in
    let one = the_batch c.begin-ended.new.self (begin before last).open_batch c.if-self-2.true (c.begin-ended.ensures.left before last stands c.if-self.false) in (
      one.open_one.count,
      one.open_one.lines,
      [],
      one.gathers,
      ap (λ (b : Option Open). last_line before b last) none
          ∙ ap (λ (b : Option Open). closed (begin before last).requests b []) one.is
          ∙ ap (λ (l : List Request). l ++ Batch one.open_one.count one.open_one.lines [] ∷ []) (begin_open before last one.open_one one.is),
    )

pub returns : goal.returns
returns c = λ before batch last pends.
    let none = no_batch c.args.self.now batch c.if-self.false pends.gathered in
    let stands = stands_of c.args.self.now.line last pends.line in
    let left = no_batch c.begin-ended.new.self (begin before last).open_batch c.if-self-2.false (c.begin-ended.ensures.left before last stands c.if-self.false) in
    subst (λ (l : List Request). HasEnded c.begin-ended.result c.begin-ended.new.self before l)
    (sym (ap (λ (b : Option Open). last_line before b last) none ∙ ap (λ (b : Option Open). closed (begin before last).requests b []) left))
    (c.begin-ended.ensures.ended before last stands c.if-self.false)
