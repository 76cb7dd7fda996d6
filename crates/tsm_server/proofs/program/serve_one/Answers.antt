-- The client that was handed out was served and closed.
use Rattle.std.proofs.Common.{◌∙◌, ap, refl, List, sym, subst}
use Rattle.shard_disk.specs.Health.{Health}
use Rattle.session_io.specs.Clients.{HandsOut}
use Rattle.session_io.specs.Directories.{Left}
use Rattle.tsm_server.specs.Outcomes.{ClosesOne, HasCause}
use Rattle.engine_session.specs.Devices.{devices}
use Rattle.tsm_server.proofs.Causes.{caused}
use Rattle.tsm_server.proofs.program.serve_one.Goals as goal

pub returns-in-Ok-clause-cause : goal.returns-in-Ok-clause-cause
returns-in-Ok-clause-cause g c = λ words asked.
    let members = devices g.K.Source.Source.given g.K.Source.Source.left g.K.Source.Source.ended g.K.Source.Source.health g.K.Sink.Sink.written g.K.Sink.Sink.health g.K.Clock.Clock.moments in
    let now : List (Left g.row.K-Disk.Denot) = g.K.Desk.closed c.serve_client.new.desk in
    let served = c.serve_client.ensures.closes in
    let closes : ClosesOne members c.in-Ok.client (g.K.Desk.closed c.args.desk.now) now served.0 =
    subst (λ (before : List (Left g.row.K-Disk.Denot)). ClosesOne members c.in-Ok.client before now served.0) c.in-Ok.ensures.closed served.2 in
    let handed = subst (HandsOut c.args.input.now c.args.output.now c.in-Ok.client (g.K.Desk.held c.args.desk.now)) (sym c.serve_client.ensures.held) c.in-Ok.ensures.held in
    subst (HasCause members words (g.K.Desk.health c.args.desk.now) (g.K.Desk.health c.serve_client.new.desk) (g.K.Desk.held c.args.desk.now)
    (g.K.Desk.held c.serve_client.new.desk) (g.K.Desk.closed c.args.desk.now) now) (sym served.1)
    (caused members words (g.K.Desk.health c.args.desk.now) (g.K.Desk.health c.serve_client.new.desk) (g.K.Desk.held c.args.desk.now)
    (g.K.Desk.held c.serve_client.new.desk) (g.K.Desk.closed c.args.desk.now) now c.args.input.now c.args.output.now asked c.in-Ok.client handed
    (ap (λ (h : Health). h.faults) c.serve_client.ensures.health ∙ c.in-Ok.ensures.fault.ok refl) served.0 closes)
