use Rattle.std.proofs.Common.{◌<◌, ◌^◌, None, length, subst, sym}
use Rattle.std.specs.Prelude.{All}
use Rattle.tsm_format.specs.declared.row.KeyRow.{KeyRow}
use Rattle.tsm_format.specs.Rows.{first_block}
use Rattle.tsm_file.proofs.WritingLemmas.{rows_are_short}
use Rattle.tsm_file.proofs.writer.TsmWriter.into_facts.Goals as goal

pub most_blocks-most_entries-requires : goal.most_blocks-most_entries-requires
most_blocks-most_entries-requires g c =
    subst (All (λ (row : KeyRow). length row.entries < 2 ^ 16)) (sym c.deref.ensures.value) (rows_are_short None first_block c.args.self.rows.items c.requires.good)
