-- The words are those of a run, or aren't.
use Rattle.std.proofs.Common.{sym, ◌∙◌, arith}
use Rattle.std.proofs.lemmas.Bool.{false≢true}
use Rattle.tsm_server.proofs.WordsLemmas.{run_count, run_plain}
use Rattle.tsm_server.proofs.words.run_names.Goals as goal
use Rattle.tsm_server.proofs.words.run_names.Goals.{else-is_count-via-then-is_count+else-are_plain, else-is_count-via-else-is_count}

pub returns-else-is_count : goal.returns-else-is_count
returns-else-is_count c = λ run.
    let count = run_count c.args.words.now c.in-Some.name.now c.in-Some.path.now c.in-Some.names.now c.in-Some.ensures run.0 run.1 run.2 in
    elim c.else-is_count.branch [
      | else-is_count-via-then-is_count+else-are_plain w ↦ absurd (false≢true (sym w.if-are_plain.false ∙ w.are_plain.ensures.1 (run_plain c.args.words.now c.in-Some.name.now c.in-Some.path.now c.in-Some.names.now c.in-Some.ensures run.0 run.1 run.2)))
      | else-is_count-via-else-is_count w ↦ absurd (false≢true (sym w.if-is_count.false ∙ c.is_count.ensures.1 (omega (arith, count), omega (arith, count, run.2.some), omega (arith, count, run.2.few))))
    ]
