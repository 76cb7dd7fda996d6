-- All passes came from the first one and went into it again.
use Rattle.std.proofs.Common.{ℕ, List, [], refl, sym, ap, ◌∙◌, subst, arith, All, Some}
use Rattle.history_turn.specs.Passes.{fresh}
use Rattle.history_turn.specs.Views.{newcomer, part_of}
use Rattle.shard_steps.specs.declared.shard.Shard.{Shard}
use Rattle.std.specs.declared.snapshot.Snapshot.{Snapshot}
use Rattle.shard_shared.specs.Entries.{AreFew, refusals_in, tried_in}
use Rattle.shard_shared.specs.Reaching.{ComesTo, RanFrom}
use Rattle.shard_shared.specs.declared.engine.Refusal.{Refusal}
use Rattle.engine_session.specs.Devices.{devices}
use Rattle.engine_clients.specs.Seats.{Served, Seat, IsSeated}
use Rattle.engine_clients.specs.Served.{ServesTogether}
use Rattle.engine_clients.proofs.PassLemmas.{parts_all, turns_all, seated_all}
use Rattle.engine_clients.proofs.WholeLemmas.{comes_to_none, runs_to_none, served_together}
use Rattle.engine_clients.proofs.whole.serve_together.Goals as goal

pub new-requires-2-clause-stands : goal.new-requires-2-clause-stands
new-requires-2-clause-stands g c = (
  subst (λ (l : List (Snapshot Refusal)). ComesTo g.D.Disk c.new.result.shard c.new.result.faults (tried_in (refusals_in l)) [] c.new.result.shard) (sym c.new.ensures.found)
      (subst (λ (n : ℕ). ComesTo g.D.Disk c.new.result.shard n [] [] c.new.result.shard) (sym c.new.ensures.faults)
      (subst (λ (s : Shard g.row.D.Denot). ComesTo g.D.Disk s 0 [] [] s) (sym c.new.ensures.shard) (comes_to_none g.D.Disk c.args.shard c.requires.ready))),
  subst (λ (l : List (Snapshot Refusal)). AreFew (refusals_in l) c.new.result.shard.logs.series.keys) (sym c.new.ensures.found) tt,
  subst (λ (l : List (Snapshot Refusal)). RanFrom g.D.Disk (Some c.new.result.shard) (tried_in (refusals_in l)) [] c.new.result.shard) (sym c.new.ensures.found) (runs_to_none g.D.Disk c.new.result.shard),
)

pub serve_each-requires-clause-seated : goal.serve_each-requires-clause-seated
serve_each-requires-clause-seated g c = λ κs live.
    let first : Seat g.row.D.Denot = c.in-Ok.first in
    let seat : Seat g.row.D.Denot = fresh first (part_of first.view 1) in
    let made = c.in-Ok.ensures.ok in
    subst (λ (l : List (Served g.row.D.Denot g.row.S.Denot g.row.K.Denot g.row.C.Denot)). All (λ s. IsSeated c.in-Ok.turn s.pass) l) (sym c.seat_all.ensures.clients)
    (seated_all seat c.in-Ok.turn c.args.clients.now (ap (λ (s : Seat g.row.D.Denot). s.turn) made) refl refl)

pub join_all-requires-clause-seated : goal.join_all-requires-clause-seated
join_all-requires-clause-seated g c = λ κs live.
    let members = devices g.S.Source.given g.S.Source.left g.S.Source.ended g.S.Source.health g.K.Sink.written g.K.Sink.health g.C.Clock.moments in
    let first : Seat g.row.D.Denot = c.in-Ok.first in
    let made = c.in-Ok.ensures.ok in
    turns_all g.D.Disk members (fresh first (part_of first.view 1)) c.in-Ok.turn c.args.clients.now c.seat_all.new.clients c.serve_each.new.clients
    c.seat_all.ensures.clients c.serve_each.ensures.len c.serve_each.ensures.each (ap (λ (s : Seat g.row.D.Denot). s.turn) made)

pub close-requires-clause-whole : goal.close-requires-clause-whole
close-requires-clause-whole g c =
    let members = devices g.S.Source.given g.S.Source.left g.S.Source.ended g.S.Source.health g.K.Sink.written g.K.Sink.health g.C.Clock.moments in
    let first : Seat g.row.D.Denot = c.in-Ok.first in
    let made = c.in-Ok.ensures.ok in
    let all = parts_all g.D.Disk members (fresh first (part_of first.view 1)) c.args.clients.now c.seat_all.new.clients c.serve_each.new.clients
    c.seat_all.ensures.clients c.serve_each.ensures.len c.serve_each.ensures.each refl in
    let begun = ap (λ (s : Seat g.row.D.Denot). s.view.parts) made in
    let cut_off = ap (λ (s : Seat g.row.D.Denot). s.view.parts) c.seat_all.ensures.first in
    let joined = c.join_all.ensures.first.parts in
    omega (arith, all, begun, cut_off, joined, c.requires.few)

pub returns-in-Ok-clause-ok : goal.returns-in-Ok-clause-ok
returns-in-Ok-clause-ok g c =
    let members = devices g.S.Source.given g.S.Source.left g.S.Source.ended g.S.Source.health g.K.Sink.written g.K.Sink.health g.C.Clock.moments in
    let first : Seat g.row.D.Denot = c.in-Ok.first in
    let made = c.in-Ok.ensures.ok in
    subst (λ (s : Shard g.row.D.Denot). ServesTogether g.D.Disk members c.args.shard s c.args.clients.now c.join_all.new.clients) (sym c.into_shard.ensures)
    (served_together g.D.Disk members c.args.shard first c.seat_all.new.first c.join_all.new.first c.args.clients.now c.seat_all.new.clients c.serve_each.new.clients c.join_all.new.clients
    c.close.result (record {
      newly = ap (λ (s : Seat g.row.D.Denot). s.view) made ∙ ap (λ (s : Shard g.row.D.Denot). newcomer (Some s)) c.new.ensures.shard;
      cut_is = c.seat_all.ensures.first;
      starts_are = c.seat_all.ensures.clients;
      long = c.serve_each.ensures.len;
      each = c.serve_each.ensures.each;
      joins = c.join_all.ensures.first;
      news_are = c.join_all.ensures.clients;
      closes = c.close.ensures;
    }))
