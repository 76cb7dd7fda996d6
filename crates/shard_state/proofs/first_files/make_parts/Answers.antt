use Rattle.std.proofs.Common.{◌∙◌}
use Rattle.shard_state.proofs.Creating.{Empty}
use Rattle.shard_state.proofs.Leaving.{leaves_then}
use Rattle.shard_state.proofs.Naming.{if_ok_then}
use Rattle.shard_state.proofs.first_files.make_parts.Goals as goal

pub returns-clause-opened : goal.returns-clause-opened
returns-clause-opened g c = if_ok_then c.name_files.result _ _ (λ parts opened. λ told blank alloc. opened told (c.in_ok-files.ensures.new told blank) alloc) c.name_files.ensures.opened

pub returns-clause-crash : goal.returns-clause-crash
returns-clause-crash g c = λ told blank images. leaves_then Empty _ _ _ (c.make_files.ensures.crash told blank images) (c.name_files.ensures.crash told (c.in_ok-files.ensures.new told blank))

pub returns-clause-readers : goal.returns-clause-readers
returns-clause-readers g c = c.name_files.ensures.readers ∙ c.make_files.ensures.readers
