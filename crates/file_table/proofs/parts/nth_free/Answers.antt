use Rattle.std.proofs.Common.{refl, arith}
use Rattle.file_table.proofs.PartLemmas.{none_free}
use Rattle.file_table.proofs.parts.nth_free.Goals as goal

pub returns : goal.returns
returns c = absurd (none_free c.args.files.now c.loop-file.file-index c.loop-file.left _ c.args.k (omega (arith, c.loop-file-test.false)) refl c.loop-file.invariant c.requires)
