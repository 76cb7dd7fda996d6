-- A disk that was refused is closed as it was handed back.
use Rattle.engine_session.proofs.ShellLemmas.{opens_none}
use Rattle.tsm_server.proofs.directory.open_disk.Goals as goal

pub returns-in-Err-clause-refused : goal.returns-in-Err-clause-refused
returns-in-Err-clause-refused g c = record {
  why = c.in-Err.fault;
  left = c.in-Err.disk;
  refuses = opens_none _ c.args.disk (c.in-Err.disk, c.in-Err.fault) c.in-Err.ensures.fault c.in-Err.ensures.refused c.in-Err.ensures.answers c.in-Err.ensures.kept;
  closes = record { closed = c.close_dir.ensures.closed; held = c.close_dir.ensures.clients.0; dirs = c.close_dir.ensures.dirs; health = c.close_dir.ensures.health };
  status = c.status_of_opening.ensures;
}
