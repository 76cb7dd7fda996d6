use Rattle.std.proofs.Common.{◌≡◌, ℕ, ◌<◌, ◌^◌, List, length, subst, rules}
use Rattle.std.proofs.lemmas.Result.{IfOk-weaker}
use Rattle.tsm_file.proofs.IndexLemmas.{index_answers}
use Rattle.tsm_file.proofs.index.TsmIndex.read.Goals as goal

pub returns-clause-only : goal.returns-clause-only
returns-clause-only g c = λ tells.
    let bytes : List ℕ = g.R.Reader.content c.args.reader.now in
    let len : c.len-len.result ≡ length bytes = c.len-len.ensures tells in
    let fits : c.len-len.result < 2 ^ 64 = search rules in
    index_answers c.args.file bytes c.read_file.result (subst (λ (n : ℕ). n < 2 ^ 64) len fits)
    (IfOk-weaker c.read_file.result _ _ (λ index found. found tells) c.read_file.ensures.found)
    (λ damage is. c.read_file.ensures.damaged damage is tells)
