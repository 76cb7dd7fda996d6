use Rattle.std.proofs.Common.{sym, ◌∙◌}
use Rattle.std.specs.Prelude.{is_none}
use Rattle.mem_disk.specs.Calls.{is_quiet}
use Rattle.mem_disk.proofs.CallsLemmas.{named_quiet, and_false}
use Rattle.mem_disk.proofs.calls.is_to_fail.Goals as goal

pub returns-then-names_call-clause-fails : goal.returns-then-names_call-clause-fails
returns-then-names_call-clause-fails c =
    λ is. and_false (is_none c.args.stop) (is_quiet c.args.failing.now c.args.place) (named_quiet c.args.failing.now c.args.place (sym c.names_call.ensures ∙ c.if-names_call.true))
