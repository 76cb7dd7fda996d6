-- What became of the client, from the path on.
use Rattle.std.proofs.Common.{inr}
use Rattle.tsm_server.proofs.directory.serve_shell.Goals as goal

pub returns-in-Ok-clause-cause : goal.returns-in-Ok-clause-cause
returns-in-Ok-clause-cause g c =
    let opened = c.in-Ok.ensures.opened in
    inr (opened.0, _, opened.1, c.serve_standard.ensures.cause opened.0 opened.2)
