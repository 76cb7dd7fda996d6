-- The client and the disk came back, and were closed.
use Rattle.std.proofs.Common.{[], ◌∷◌}
use Rattle.session_io.specs.declared.client.Client.{Client}
use Rattle.tsm_server.proofs.DirectoriesLemmas.{closes_more, serves_one}
use Rattle.tsm_server.proofs.directory.serve_alone.Goals as goal

pub returns-clause-serves : goal.returns-clause-serves
returns-clause-serves g c = λ disk opened.
    let finished : Client g.row.K-Source.Denot g.row.K-Sink.Denot g.row.K-Clock.Denot = record { source = c.serve-disk.new.source; sink = c.serve-disk.new.sink; clock = c.serve-disk.new.clock } in
    record {
      settings = c.args.shard.settings;
      usual = opened.usual;
      finished = record { client = finished; report = c.serve-disk.result.report } ∷ [];
      left = c.serve-disk.result.disk;
      number = c.serve-disk.result.number;
      closing = c.serve-disk.result.closed;
      serves = serves_one _ _ disk c.args.shard opened _ _ _ c.args.client finished c.serve-disk.result.report c.serve-disk.ensures.ends c.serve-disk.ensures.serves;
      closes = closes_more (_ ∷ []) (_ ∷ []) _ _ _
          (record { closed = c.close_client.ensures.closed; held = c.close_client.ensures.held; dirs = c.close_client.ensures.dirs.0; health = c.close_client.ensures.health })
          (record { closed = c.close_dir.ensures.closed; held = c.close_dir.ensures.clients.0; dirs = c.close_dir.ensures.dirs; health = c.close_dir.ensures.health });
      status = cc (c.graver.ensures, c.status_of_closing.ensures, c.status_of.ensures);
    }
