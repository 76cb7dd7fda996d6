-- The lines so far, and one more.
use Rattle.std.proofs.Common.{◌≡◌, ◌++◌, ℕ, List, [], ◌∷◌, length, length-append, refl, sym, ap, ◌∙◌, subst, append_assoc, arith}
use Rattle.shard_disk.proofs.HealthLemmas.{ages_still, ages_then}
use Rattle.session_loop.specs.Progress.{HoldsLast, Takes, moment}
use Rattle.session_loop.proofs.GoingLemmas.{takes_nothing, takes_more, takes_rest, takes_then_stops, stops_in, on_err}
use Rattle.session_loop.proofs.client.feed.Goals as goal

pub lines-init : goal.lines-init
lines-init g c = record {
  front = [];
  whole = refl;
  taken = λ before held. takes_nothing (moment g.S.Store.told g.S.Store.health g.K.Sink.written g.C.Clock.moments c.args.session.now c.args.store.now c.args.sink.now c.args.clock.now) c.args.pending.now before held;
  still = refl;
  ages = ages_still (g.K.Sink.health c.args.sink.now);
  none_out = c.requires.none_out;
}

-- the line and its newline stand behind the front
line_behind : (piece front rest line behind : List ℕ) → piece ≡ front ++ rest → rest ≡ line ++ 10 ∷ behind → piece ≡ (front ++ (line ++ 10 ∷ [])) ++ behind
line_behind piece front rest line behind whole cut =
    whole ∙ ap (λ (l : List ℕ). front ++ l) (cut ∙ sym (append_assoc line (10 ∷ []) behind)) ∙ sym (append_assoc front (line ++ 10 ∷ []) behind)

pub lines-preserved : goal.lines-preserved
lines-preserved g c =
    let front : List ℕ = c.lines.invariant.front in
    let line : List ℕ = c.in-Some.end.now in
    record {
      front = front ++ (line ++ 10 ∷ []);
      whole = line_behind c.args.piece.now front c.lines.rest.now line c.in-Some.behind.now c.lines.invariant.whole c.in-Some.ensures.whole;
      taken = λ before held.
          let first = c.lines.invariant.taken before held in
          takes_more (moment g.S.Store.told g.S.Store.health g.K.Sink.written g.C.Clock.moments c.args.session.now c.args.store.now c.args.sink.now c.args.clock.now)
          (moment g.S.Store.told g.S.Store.health g.K.Sink.written g.C.Clock.moments c.lines.session c.lines.store c.lines.sink c.lines.clock)
          (moment g.S.Store.told g.S.Store.health g.K.Sink.written g.C.Clock.moments c.end_line.new.session c.end_line.new.store c.end_line.new.sink c.end_line.new.clock) c.lines.pending c.end_line.new.pending before
          front (line ++ 10 ∷ []) first (c.in_ok-end_line.ensures.ok (before ++ front) first.holds);
      still = c.in_ok-end_line.ensures.fault.quiet (λ wrong. cc wrong) ∙ c.lines.invariant.still;
      ages = ages_then (g.K.Sink.health c.args.sink.now) (g.K.Sink.health c.lines.sink) (g.K.Sink.health c.end_line.new.sink) c.lines.invariant.ages c.end_line.ensures.fault.ages;
      none_out = c.end_line.ensures.none_out;
    }

pub lines-smaller : goal.lines-smaller
lines-smaller g c = omega (arith, simp length-append at (ap length c.in-Some.ensures.whole))

pub returns-in_err-end_line-clause-err : goal.returns-in_err-end_line-clause-err
returns-in_err-end_line-clause-err g c = on_err c.from_residual.result _ (λ (before : List ℕ) (held : HoldsLast c.args.pending.now before).
    let first = c.lines.invariant.taken before held in
    let front : List ℕ = c.lines.invariant.front in
    let line : List ℕ = c.in-Some.end.now in
    stops_in (moment g.S.Store.told g.S.Store.health g.K.Sink.written g.C.Clock.moments c.args.session.now c.args.store.now c.args.sink.now c.args.clock.now)
    (moment g.S.Store.told g.S.Store.health g.K.Sink.written g.C.Clock.moments c.end_line.new.session c.end_line.new.store c.end_line.new.sink c.end_line.new.clock) before
    (front ++ (line ++ 10 ∷ [])) c.in-Some.behind.now c.args.piece.now
    (line_behind c.args.piece.now front c.lines.rest.now line c.in-Some.behind.now c.lines.invariant.whole c.in-Some.ensures.whole)
    (takes_then_stops (moment g.S.Store.told g.S.Store.health g.K.Sink.written g.C.Clock.moments c.args.session.now c.args.store.now c.args.sink.now c.args.clock.now)
    (moment g.S.Store.told g.S.Store.health g.K.Sink.written g.C.Clock.moments c.lines.session c.lines.store c.lines.sink c.lines.clock)
    (moment g.S.Store.told g.S.Store.health g.K.Sink.written g.C.Clock.moments c.end_line.new.session c.end_line.new.store c.end_line.new.sink c.end_line.new.clock) c.lines.pending before
    front (line ++ 10 ∷ []) first (c.in_err-end_line.ensures.err (before ++ front) first.holds)))

pub returns-clause-ok : goal.returns-clause-ok
returns-clause-ok g c = λ before held.
    let first = c.lines.invariant.taken before held in
    let front : List ℕ = c.lines.invariant.front in
    let now = moment g.S.Store.told g.S.Store.health g.K.Sink.written g.C.Clock.moments c.lines.session c.lines.store c.lines.sink c.lines.clock in
    subst (λ (p : List ℕ). Takes (moment g.S.Store.told g.S.Store.health g.K.Sink.written g.C.Clock.moments c.args.session.now c.args.store.now c.args.sink.now c.args.clock.now) now c.extend.new.self before p) (sym c.lines.invariant.whole)
    (takes_more (moment g.S.Store.told g.S.Store.health g.K.Sink.written g.C.Clock.moments c.args.session.now c.args.store.now c.args.sink.now c.args.clock.now) now now c.lines.pending c.extend.new.self before front c.lines.rest.now first
    (takes_rest now c.lines.pending c.extend.new.self (before ++ front) c.lines.rest.now c.in_default.ensures c.extend.ensures first.holds))
