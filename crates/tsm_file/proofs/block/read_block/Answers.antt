use Rattle.std.proofs.Common.{◌≡◌, ℕ, List, ◌∙◌, subst, rules}
use Rattle.tsm_file.specs.ReadBlocks.{IsWrong, held_at}
use Rattle.tsm_file.proofs.IndexLemmas.{same_damage}
use Rattle.tsm_file.proofs.block.read_block.Goals as goal

pub returns-in-Err-Damaged-clause-damaged : goal.returns-in-Err-Damaged-clause-damaged
returns-in-Err-Damaged-clause-damaged g c = λ damage same tells.
    let own = c.in-Err-Damaged.damage in
    let held : c.deref.result.now ≡ held_at (g.R.Reader.content c.args.reader.now) c.args.entry.now = c.deref.ensures.value ∙ c.in_ok-held.ensures.read tells in
    let wrong = subst (λ (l : List ℕ). IsWrong c.args.file c.args.kind c.args.entry.now l own) held (c.in-Err-Damaged.ensures.damaged own (search rules)) in
    subst (IsWrong c.args.file c.args.kind c.args.entry.now (held_at (g.R.Reader.content c.args.reader.now) c.args.entry.now)) (same_damage own damage same) wrong
