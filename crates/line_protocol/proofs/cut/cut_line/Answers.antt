use Rattle.std.proofs.Common.{◌∙◌, arith}
use Rattle.std.proofs.Math.Seq.{take-length}
use Rattle.std.proofs.lemmas.List.{drop_all}
use Rattle.line_protocol.proofs.PartLemmas.{line-at, line-whole}
use Rattle.line_protocol.proofs.cut.cut_line.Goals as goal

pub returns-in-Some : goal.returns-in-Some
returns-in-Some c =
    let found = c.in-Some.ensures in
    let cut = line-at c.args.text.now c.in-Some.at found.0.high (λ k l. found.0.before k (omega arith) l) found.1 in
    record { front = c.split_at.ensures.front ∙ cut.0; rest = c.split_at.ensures.back ∙ cut.1 }

pub returns-in-None : goal.returns-in-None
returns-in-None c =
    let text = c.args.text.now in
    let whole = line-whole text (λ k l. c.in-None.ensures k (omega arith) l) in
    record {
      front = c.split_at-in-None.ensures.front ∙ take-length text ∙ whole.0;
      rest = c.split_at-in-None.ensures.back ∙ drop_all _ text (omega arith) ∙ whole.1;
    }
