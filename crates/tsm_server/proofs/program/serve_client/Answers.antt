-- The client was served by its session and closed with the report.
use Rattle.std.proofs.Common.{refl}
use Rattle.tsm_server.specs.Outcomes.{closed_by}
use Rattle.engine_session.specs.Devices.{devices}
use Rattle.tsm_server.proofs.Closing.{told_fresh, rose_from_none, none_from_none, has_ended}
use Rattle.tsm_server.proofs.program.serve_client.Goals as goal

pub returns-clause-closes : goal.returns-clause-closes
returns-clause-closes g c =
    let session = c.mem-report.ensures.explained in (
      c.mem-report.result.end,
      c.status_of.ensures,
      record {
        finished = record { source = c.mem-report.new.source; sink = c.mem-report.new.sink; clock = c.mem-report.new.clock };
        report = c.mem-report.result;
        ended_by = refl;
        session = session;
        last = c.close_client.ensures.closed;
        tells = record {
          read = told_fresh _ _ _ c.requires.fresh.unread session.read;
          ended = session.ended;
          moments = told_fresh _ _ _ c.requires.fresh.not_asked session.moments;
          written = told_fresh _ _ _ c.requires.fresh.unwritten session.written;
        };
        cause = has_ended (closed_by (devices g.K.Source.Source.given g.K.Source.Source.left g.K.Source.Source.ended g.K.Source.Source.health g.K.Sink.Sink.written g.K.Sink.Sink.health g.K.Clock.Clock.moments)
            (record { source = c.mem-report.new.source; sink = c.mem-report.new.sink; clock = c.mem-report.new.clock }) c.mem-report.result) c.mem-report.result.end c.mem-report.ensures.ended
            (λ is. rose_from_none (g.K.Source.Source.health c.args.client.source) (g.K.Source.Source.health c.mem-report.new.source) c.requires.fresh.no_source_fault (c.mem-report.ensures.source_fault is))
            (λ is. rose_from_none (g.K.Sink.Sink.health c.args.client.sink) (g.K.Sink.Sink.health c.mem-report.new.sink) c.requires.fresh.no_sink_fault (c.mem-report.ensures.sink_fault is))
            (λ other. none_from_none (g.K.Source.Source.health c.args.client.source) (g.K.Source.Source.health c.mem-report.new.source) c.requires.fresh.no_source_fault (c.mem-report.ensures.quiet.source other))
            (λ other. none_from_none (g.K.Sink.Sink.health c.args.client.sink) (g.K.Sink.Sink.health c.mem-report.new.sink) c.requires.fresh.no_sink_fault (c.mem-report.ensures.quiet.sink other));
      },
    )
