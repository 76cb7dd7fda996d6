-- The status follows from why the program ended.
use Rattle.std.proofs.Common.{◌≡◌, ℕ, sym, subst, ◌∙◌}
use Rattle.std.specs.Prelude.{◌↔◌}
use Rattle.tsm_server.specs.Words.{IsCommand}
use Rattle.tsm_server.proofs.Causes.{no_command, nothing_closed}
use Rattle.tsm_server.proofs.program.tsmd.Goals as goal

pub returns-clause-no_command : goal.returns-clause-no_command
returns-clause-no_command g c =
    subst (λ (n : ℕ). (n ≡ 1) ↔ (¬ (IsCommand c.args.words.now))) (sym c.end.ensures.code) (no_command _ _ _ _ _ c.perform-status.result c.perform-status.ensures.cause)

pub returns-clause-refused : goal.returns-clause-refused
returns-clause-refused g c = λ is. nothing_closed _ _ _ _ _ c.perform-status.result c.perform-status.ensures.cause (sym c.end.ensures.code ∙ is)
