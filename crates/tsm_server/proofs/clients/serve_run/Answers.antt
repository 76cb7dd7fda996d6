-- What became of the clients, from the path on.
use Rattle.std.proofs.Common.{inr}
use Rattle.tsm_server.proofs.clients.serve_run.Goals as goal

pub returns-in-Ok-clause-cause : goal.returns-in-Ok-clause-cause
returns-in-Ok-clause-cause g c =
    let opened = c.in-Ok.ensures.opened in
    inr (opened.0, _, opened.1, c.serve_names.ensures.cause opened.0 opened.2)
