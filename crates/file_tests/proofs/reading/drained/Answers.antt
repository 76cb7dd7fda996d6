use Rattle.std.proofs.Common.{ℕ, List, All, refl, sym, subst}
use Rattle.tsm_file.specs.ReadBlocks.{IsWithin}
use Rattle.tsm_file.proofs.CursorLemmas.{all_behind}
use Rattle.file_tests.proofs.reading.drained.Goals as goal

pub loop-preserved : goal.loop-preserved
loop-preserved c =
    let takes = c.in_ok-time.ensures.takes refl in
    let behind = all_behind (IsWithin c.loop.reader.bytes.items) c.loop.cursor.blocks takes.read c.next.new.self.blocks takes.front c.loop.invariant in
    subst (λ (l : List ℕ). All (IsWithin l) c.next.new.self.blocks) (sym c.in_ok-time.ensures.content) behind
