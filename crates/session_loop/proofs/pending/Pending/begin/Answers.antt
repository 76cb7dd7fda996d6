-- A blank line, a BATCH, or a line of its own.
use Rattle.std.proofs.Common.{sym, ap, ◌∙◌, subst, arith, Some, None}
use Rattle.session_model.specs.Lines.{Cut}
use Rattle.session_model.specs.Words.{batch_count as named}
use Rattle.session_loop.specs.Pendings.{HasEnded, HoldsBatch}
use Rattle.session_loop.proofs.PendingLemmas.{begin_blank, begin_some, counts_same, whole_batch}
use Rattle.session_loop.proofs.pending.Pending.begin.Goals as goal

pub returns-then-is_blank-clause-ended : goal.returns-then-is_blank-clause-ended
returns-then-is_blank-clause-ended c = λ before text stands none.
    ap (λ (cut : Cut). cut.requests) (begin_blank before text (sym (c.is_blank.ensures text stands) ∙ c.if-is_blank.true))

pub returns-then-is_blank-clause-left : goal.returns-then-is_blank-clause-left
returns-then-is_blank-clause-left c = λ before text stands none.
    subst (λ (cut : Cut). HoldsBatch c.args.self.now cut.open_batch) (sym (begin_blank before text (sym (c.is_blank.ensures text stands) ∙ c.if-is_blank.true))) none

pub returns-in-None-clause-ended : goal.returns-in-None-clause-ended
returns-in-None-clause-ended c = λ before text stands none.
    let count = sym (counts_same c.args.self.now.line.kept.items text stands.kept) ∙ sym (ap named c.kept.ensures) ∙ c.in-None.ensures in (
      text,
      stands.kept,
      ap (λ (cut : Cut). cut.requests) (begin_some before text None (sym (c.is_blank.ensures text stands) ∙ c.if-is_blank.false) count),
    )

pub returns-in-None-clause-left : goal.returns-in-None-clause-left
returns-in-None-clause-left c = λ before text stands none.
    let count = sym (counts_same c.args.self.now.line.kept.items text stands.kept) ∙ sym (ap named c.kept.ensures) ∙ c.in-None.ensures in
    subst (λ (cut : Cut). HoldsBatch c.args.self.now cut.open_batch) (sym (begin_some before text None (sym (c.is_blank.ensures text stands) ∙ c.if-is_blank.false) count)) none

pub returns-in-Some-clause-ended : goal.returns-in-Some-clause-ended
returns-in-Some-clause-ended c = λ before text stands none.
    let count = whole_batch c.args.self.now.line.kept.items text c.in-Some.count stands.kept (sym (ap named c.kept.ensures) ∙ c.in-Some.ensures) in
    subst (λ (cut : Cut). HasEnded c.settle.result c.settle.new.self before cut.requests) (sym (begin_some before text (Some c.in-Some.count) (sym (c.is_blank.ensures text stands) ∙ c.if-is_blank.false) count))
    (c.settle.ensures.ended before c.in-Some.count _ c.begin.ensures)

pub returns-in-Some-clause-left : goal.returns-in-Some-clause-left
returns-in-Some-clause-left c = λ before text stands none.
    let count = whole_batch c.args.self.now.line.kept.items text c.in-Some.count stands.kept (sym (ap named c.kept.ensures) ∙ c.in-Some.ensures) in
    subst (λ (cut : Cut). HoldsBatch c.settle.new.self cut.open_batch) (sym (begin_some before text (Some c.in-Some.count) (sym (c.is_blank.ensures text stands) ∙ c.if-is_blank.false) count))
    (c.settle.ensures.left before c.in-Some.count _ c.begin.ensures (omega arith))
