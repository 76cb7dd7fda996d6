-- The engine was closed, and the disk behind it.
use Rattle.std.proofs.Common.{[]}
use Rattle.tsm_server.proofs.DirectoriesLemmas.{serves_clients}
use Rattle.tsm_server.proofs.directory.serve_nobody.Goals as goal

pub returns-clause-nobody : goal.returns-clause-nobody
returns-clause-nobody g c = λ disk opened. record {
  settings = c.args.shard.settings;
  usual = opened.usual;
  left = c.close_unserved-disk.result.0;
  number = c.close_unserved-disk.result.1;
  closing = c.close_unserved-disk.result.2;
  serves = serves_clients _ _ disk c.args.shard opened _ _ _ [] [] [] tt c.close_unserved-disk.ensures.serves;
  closes = record { closed = c.close_dir.ensures.closed; held = c.close_dir.ensures.clients.0; dirs = c.close_dir.ensures.dirs; health = c.close_dir.ensures.health };
  status = cc (c.graver.ensures, c.status_of_trouble.ensures, c.status_of_closing.ensures);
}
