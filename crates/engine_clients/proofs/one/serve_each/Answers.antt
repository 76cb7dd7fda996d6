-- What each call left, by its place.
use Rattle.std.proofs.Common.{subst, slice_index_or}
use Rattle.std.proofs.alloc.Global.TheSendSync as heap
use denote.Param.Send.{param_sync, sendable}
use Rattle.history_turn.proofs.pass.Pass.TheSendSync as pass
use Rattle.history_turn.proofs.turn.Turn.TheSendSync as turn
use Rattle.shard_steps.proofs.facts.Facts.TheSendSync as facts
use Rattle.shard_shared.proofs.SendLemmas.{engine_send}
use Rattle.engine_session.specs.Devices.{devices}
use Rattle.engine_clients.specs.Seats.{Served, ServesOne}
use Rattle.engine_clients.proofs.client.Seated.TheSendSync as seated
use Rattle.engine_clients.proofs.one.serve_each.Lts.{arg-1-2 as captures}
use Rattle.engine_clients.proofs.one.serve_each.Goals as goal

pub for_each_mut-requires-send-T : goal.for_each_mut-requires-send-T
for_each_mut-requires-send-T g c κs within = search (sendable, pass.the_send, seated.the_send, engine_send, facts.the_send) depth 12

-- the closure's captures, which the search doesn't see through its parameter
pub for_each_mut-requires-sync-F : goal.for_each_mut-requires-sync-F
for_each_mut-requires-sync-F g c κs within = param_sync 2
    (captures g.row.D g.row.S g.row.K g.row.C g.row.G g.row.R g.row.D-Reader g.row.D-Writer g.D.laws g.S.laws g.K.laws g.C.laws g.G.laws g.R.laws g.D.Reader.laws g.D.Writer.laws g.D.EngineDisk g.D.EngineDisk-dict
    g.D.Disk g.D.Disk-dict g.D.Reader.Reader g.D.Reader.Reader-dict g.D.Writer.Writer g.D.Writer.Writer-dict g.S.Source g.S.Source-dict g.K.Sink g.K.Sink-dict g.C.Clock g.C.Clock-dict
    g.G.Gate g.G.Gate-dict g.R.Threads g.R.Threads-dict g.R.Wait g.R.Wait-dict κs)
    (search (sendable, turn.the_sync, engine_send, heap.the_sync) depth 12)

pub returns-clause-each : goal.returns-clause-each
returns-clause-each g c = λ k d below.
    let members = devices g.S.Source.given g.S.Source.left g.S.Source.ended g.S.Source.health g.K.Sink.written g.K.Sink.health g.C.Clock.moments in
    let at = (c.for_each_mut.ensures k d below).1 in
    subst (λ (s : Served g.row.D.Denot g.row.S.Denot g.row.K.Denot g.row.C.Denot). ServesOne g.D.Disk members k s (slice_index_or c.for_each_mut.new.s k d)) at.argument_is
    (subst (λ (s : Served g.row.D.Denot g.row.S.Denot g.row.K.Denot g.row.C.Denot). ServesOne g.D.Disk members k at.argument.now s) at.left at.call)
