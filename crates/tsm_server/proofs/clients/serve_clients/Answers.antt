-- The clients came back, and were closed, and the disk behind them.
use Rattle.std.proofs.Common.{◌∙◌, ap}
use Rattle.tsm_server.specs.Directories.{graver}
use Rattle.tsm_server.specs.declared.status.Status.TheVariants as status
use Rattle.tsm_server.proofs.ServingLemmas.{same_length, served_or_left}
use Rattle.tsm_server.proofs.clients.serve_clients.Goals as goal

pub returns-clause-serves : goal.returns-clause-serves
returns-clause-serves g c = λ disk opened.
    served_or_left g.K.Disk.Disk _ c.args.shard c.args.clients.items c.serve-disk.new.clients.items c.serve-disk.result disk opened c.requires.new _ _ _ _ c.close_clients.ensures.closes
    (record { closed = c.close_dir.ensures.closed; held = c.close_dir.ensures.clients.0; dirs = c.close_dir.ensures.dirs; health = c.close_dir.ensures.health }) c.serve-disk.result.served c.serve-disk.ensures.serves
    (λ is. c.status_of_all-status.ensures.served is ∙ cc (c.status_of_closing.ensures, c.deref.ensures.value))
    (λ is. c.status_of_all-status.ensures.unserved is ∙ ap (graver status.NoMemory) c.status_of_closing.ensures)
