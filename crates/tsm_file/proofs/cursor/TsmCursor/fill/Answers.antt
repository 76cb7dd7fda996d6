use Rattle.std.proofs.Common.{ℕ, List, [], All, Err, sym, ◌∙◌, subst}
use Rattle.std.proofs.lemmas.Result.{err_from_is_err_and}
use Rattle.shard_disk.proofs.HealthLemmas.{ages_then}
use Rattle.tsm_file.specs.ReadBlocks.{IsWithin}
use Rattle.tsm_file.specs.ReadPoints.{Gives, Stays, Takes}
use Rattle.tsm_file.proofs.CursorLemmas.{all_behind, stays-told, takes-then}
use Rattle.tsm_file.proofs.cursor.TsmCursor.fill.Goals as goal

pub loop-self-preserved : goal.loop-self-preserved
loop-self-preserved g c =
    let bytes = g.R.Reader.content c.args.reader.now in
    let tombs = c.args.tombs.now in
    let now = c.loop-self.self in
    let new = c.read_next.new.self in
    let at = c.loop-self.invariant in
    let kept = at.content in
    record {
      takes = λ tells. takes-then bytes tombs c.args.self.now now new (at.takes tells)
          (subst (λ (l : List ℕ). Takes l tombs now [] new) kept (c.in_ok-read_next.ensures.ok tells));
      stays = λ tells given gives.
          let so_far = at.stays tells given gives in
          subst (λ (l : List ℕ). Gives l tombs new given) kept (c.in_ok-read_next.ensures.stays tells given (subst (λ (l : List ℕ). Gives l tombs now given) (sym kept) so_far));
      within = λ tells.
          let takes = c.in_ok-read_next.ensures.ok tells in
          let behind = all_behind (IsWithin (g.R.Reader.content c.loop-self.reader)) now.blocks takes.read new.blocks takes.front (at.within tells) in
          subst (λ (l : List ℕ). All (IsWithin l) new.blocks) (sym c.in_ok-read_next.ensures.content) behind;
      content = c.in_ok-read_next.ensures.content ∙ kept;
      file = c.in_ok-read_next.ensures.file ∙ at.file;
      ages = ages_then _ _ _ at.ages c.in_ok-read_next.ensures.ages;
    }

pub returns-in_err-read_next-clause-stays : goal.returns-in_err-read_next-clause-stays
returns-in_err-read_next-clause-stays g c = λ tells given gives.
    let bytes = g.R.Reader.content c.args.reader.now in
    let tombs = c.args.tombs.now in
    let now = c.loop-self.self in
    let new = c.read_next.new.self in
    let at = c.loop-self.invariant in
    let kept = at.content in
    let so_far = at.stays tells given gives in
    let stays = subst (λ (l : List ℕ). Stays l tombs given (Err c.in_err-read_next.field-0.0) new) kept
    (c.in_err-read_next.ensures.stays tells given (subst (λ (l : List ℕ). Gives l tombs now given) (sym kept) so_far)) in
    let told = err_from_is_err_and c.from_residual.result c.from_residual.ensures.1 in
    stays-told bytes tombs given new c.from_residual.result told.0 c.in_err-read_next.field-0.0 told.1 told.2 stays
