use Rattle.std.proofs.Common.{inl, inr, Ok, sym, subst, ◌∙◌}
use Rattle.line_protocol.specs.declared.fault.LineCode.TheVariants.{NoPoints}
use Rattle.line_protocol.specs.Batches.{TextIs, BatchIs, Lines}
use Rattle.line_protocol.proofs.BatchLemmas.{same, same-at, at-of, fault-told}
use Rattle.line_protocol.proofs.OnceLemmas.{never_both, told-only, read-found, batch-fault, batch-points, first-found, first-only, none-fault}
use Rattle.line_protocol.proofs.WritableLemmas.{lines-writable}
use Rattle.line_protocol.proofs.batch.read_batch.Goals as goal

pub returns-in-Err-clause-refused : goal.returns-in-Err-clause-refused
returns-in-Err-clause-refused c = λ code line e.
    batch-fault c.args.bytes.now c.args.moment (same code line) (fault-told c.in-Err.fault code line (BatchIs c.args.bytes.now c.args.moment) (cc) c.in-Err.ensures)

pub returns-in-Err-clause-found_only : goal.returns-in-Err-clause-found_only
returns-in-Err-clause-found_only c = first-found c.args.bytes.now c.args.moment c.in-Err.fault c.in-Err.ensures

pub returns-in-Err-clause-refused_only : goal.returns-in-Err-clause-refused_only
returns-in-Err-clause-refused_only c = first-only c.args.bytes.now c.args.moment c.in-Err.fault c.in-Err.ensures

pub returns-in-Some-clause-ok : goal.returns-in-Some-clause-ok
returns-in-Some-clause-ok c =
    let read = batch-points c.args.bytes.now c.args.moment c.in-Ok.points c.in-Ok.ensures in
    record {
      fits = read.0;
      read = subst (λ ps. TextIs c.args.bytes.now c.args.moment (Ok ps)) (sym c.in-Some.ensures.some) read.1;
      some = λ none. let is = c.in-Some.ensures.none.1 (sym c.in-Some.ensures.some ∙ none) in cc;
    }

pub returns-in-Some-clause-writable : goal.returns-in-Some-clause-writable
returns-in-Some-clause-writable c =
    let read = batch-points c.args.bytes.now c.args.moment c.in-Ok.points c.in-Ok.ensures in
    lines-writable c.args.bytes.now c.args.moment c.in-Some.batch (record {
      fits = read.0;
      read = subst (λ ps. TextIs c.args.bytes.now c.args.moment (Ok ps)) (sym c.in-Some.ensures.some) read.1;
      some = λ none. let is = c.in-Some.ensures.none.1 (sym c.in-Some.ensures.some ∙ none) in cc;
    })

pub returns-in-Some-clause-found_only : goal.returns-in-Some-clause-found_only
returns-in-Some-clause-found_only c = λ points is.
    let read = batch-points c.args.bytes.now c.args.moment c.in-Ok.points c.in-Ok.ensures in
    inl (read-found c.args.bytes.now c.args.moment c.in-Some.batch points (subst (λ ps. TextIs c.args.bytes.now c.args.moment (Ok ps)) (sym c.in-Some.ensures.some) read.1) is)

pub returns-in-Some-clause-refused_only : goal.returns-in-Some-clause-refused_only
returns-in-Some-clause-refused_only c = λ code line fault.
    let read = batch-points c.args.bytes.now c.args.moment c.in-Ok.points c.in-Ok.ensures in
    let is : Lines c.args.bytes.now c.args.moment c.in-Some.batch = record {
      fits = read.0;
      read = subst (λ ps. TextIs c.args.bytes.now c.args.moment (Ok ps)) (sym c.in-Some.ensures.some) read.1;
      some = λ none. let is = c.in-Some.ensures.none.1 (sym c.in-Some.ensures.some ∙ none) in cc;
    } in
    absurd (never_both c.args.bytes.now c.args.moment c.in-Some.batch (same code line) is fault)

pub returns-in-None-clause-refused : goal.returns-in-None-clause-refused
returns-in-None-clause-refused c = λ code line e.
    let both = same-at NoPoints code 0 line cc in
    let read = batch-points c.args.bytes.now c.args.moment c.in-Ok.points c.in-Ok.ensures in
    inr (inr (
      read.0,
      subst (λ ps. TextIs c.args.bytes.now c.args.moment (Ok ps)) (c.in-None.ensures.none.0 cc) read.1,
      sym (at-of NoPoints code 0 line both.0 both.1),
    ))

pub returns-in-None-clause-found_only : goal.returns-in-None-clause-found_only
returns-in-None-clause-found_only c = λ points is.
    let read = batch-points c.args.bytes.now c.args.moment c.in-Ok.points c.in-Ok.ensures in
    absurd (never_both c.args.bytes.now c.args.moment points (same NoPoints 0) is (none-fault c.args.bytes.now c.args.moment read.0
    (subst (λ ps. TextIs c.args.bytes.now c.args.moment (Ok ps)) (c.in-None.ensures.none.0 cc) read.1)))

pub returns-in-None-clause-refused_only : goal.returns-in-None-clause-refused_only
returns-in-None-clause-refused_only c = λ code line that.
    let read = batch-points c.args.bytes.now c.args.moment c.in-Ok.points c.in-Ok.ensures in
    inl (told-only c.args.bytes.now c.args.moment NoPoints 0 (none-fault c.args.bytes.now c.args.moment read.0
    (subst (λ ps. TextIs c.args.bytes.now c.args.moment (Ok ps)) (c.in-None.ensures.none.0 cc) read.1)) code line that)
