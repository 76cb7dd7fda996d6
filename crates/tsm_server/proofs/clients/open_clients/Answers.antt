-- One client more is open, or none could be.
use Rattle.std.proofs.Common.{◌≡◌, ◌++◌, ◌∷◌, [], List, length, map, All, sym, ap, ◌∙◌, subst, refl, arith, append_assoc, length-append}
use Rattle.std.proofs.lemmas.List.{map-append}
use Rattle.std.proofs.lemmas.List.Elements.{All-append, All-cons, All-nil}
use Rattle.session_io.specs.declared.client.Client.{Client}
use Rattle.engine_session.specs.Devices.{devices}
use Rattle.engine_clients.specs.Served.{client_of}
use Rattle.tsm_server.specs.Directories.{OpensClients, seen}
use Rattle.tsm_server.specs.Seats.{IsNew}
use Rattle.tsm_server.specs.Words.{Names, names_in}
use Rattle.tsm_server.proofs.DirectoriesLemmas.{opens_more}
use Rattle.tsm_server.proofs.clients.open_clients.Goals as goal

pub loop-input-init : goal.loop-input-init
loop-input-init g c =
    let none = c.reserve.ensures.items ∙ c.requires.none in
    let at = seen g.K.Desk.health g.K.Desk.dirs g.K.Desk.held g.K.Desk.closed c.args.desk.now in
    let out = ap length none in
    let ok = c.in-Ok.ensures.ok in
    let len = c.in-Ok.ensures.len in
    record {
      front = [];
      whole = refl;
      opens = subst (λ (l : List (Client g.row.K-Source.Denot g.row.K-Sink.Denot g.row.K-Clock.Denot)). OpensClients (devices g.K.Source.Source.given g.K.Source.Source.left g.K.Source.Source.ended g.K.Source.Source.health g.K.Sink.Sink.written g.K.Sink.Sink.health g.K.Clock.Clock.moments) [] l at at)
          (sym (ap (map client_of) none)) refl;
      new = subst (All IsNew) (sym none) (All-nil IsNew);
      room = omega (arith, ok, len);
      out = omega (arith, out);
      dirs_out = refl;
    }

pub returns-in_default-clause-err : goal.returns-in_default-clause-err
returns-in_default-clause-err g c =
    let none = c.reserve.ensures.items ∙ c.requires.none in
    let at = seen g.K.Desk.health g.K.Desk.dirs g.K.Desk.held g.K.Desk.closed c.args.desk.now in
    record {
      front = [];
      behind = names_in c.args.names.now;
      whole = refl;
      between = at;
      opens = subst (λ (l : List (Client g.row.K-Source.Denot g.row.K-Sink.Denot g.row.K-Clock.Denot)). OpensClients (devices g.K.Source.Source.given g.K.Source.Source.left g.K.Source.Source.ended g.K.Source.Source.health g.K.Sink.Sink.written g.K.Sink.Sink.health g.K.Clock.Clock.moments) [] l at at)
          (sym (ap (map client_of) none)) refl;
      failed = record { held = refl; dirs = refl; closed = refl; cause = refl };
    }

pub loop-input-preserved : goal.loop-input-preserved
loop-input-preserved g c =
    let was = c.loop-input.invariant in
    let client = c.in_ok-client.client in
    let at = seen g.K.Desk.health g.K.Desk.dirs g.K.Desk.held g.K.Desk.closed c.args.desk.now in
    let middle = seen g.K.Desk.health g.K.Desk.dirs g.K.Desk.held g.K.Desk.closed c.loop-input.desk in
    let new = seen g.K.Desk.health g.K.Desk.dirs g.K.Desk.held g.K.Desk.closed c.open_client.new.self in
    let name : Names = record { input = c.in-Some.input.now; output = c.in-Some.output.now } in
    let before = was.room in
    let shorter = c.in-Some.ensures.1 in
    let one = c.seat.ensures.len in
    let room = c.seat.ensures.room in
    let items = ap length c.seat.ensures.items ∙ length-append c.loop-input.clients.items (_ ∷ []) in
    let out = c.in_ok-client.ensures.out in
    let outs = was.out in
    record {
      front = was.front ++ name ∷ [];
      whole = was.whole ∙ ap (λ (l : List Names). was.front ++ l) c.in-Some.ensures.0 ∙ sym (append_assoc was.front (name ∷ []) (names_in c.in-Some.behind.now));
      opens = subst (λ (l : List (Client g.row.K-Source.Denot g.row.K-Sink.Denot g.row.K-Clock.Denot)). OpensClients (devices g.K.Source.Source.given g.K.Source.Source.left g.K.Source.Source.ended g.K.Source.Source.health g.K.Sink.Sink.written g.K.Sink.Sink.health g.K.Clock.Clock.moments) (was.front ++ name ∷ []) l at new)
          (sym (ap (map client_of) c.seat.ensures.items ∙ map-append client_of c.loop-input.clients.items (_ ∷ [])))
          (opens_more (devices g.K.Source.Source.given g.K.Source.Source.left g.K.Source.Source.ended g.K.Source.Source.health g.K.Sink.Sink.written g.K.Sink.Sink.health g.K.Clock.Clock.moments) was.front (map client_of c.loop-input.clients.items) name client at middle new was.opens
          (record { fresh = c.in_ok-client.ensures.fresh; handed = c.in_ok-client.ensures.held; dirs = c.in_ok-client.ensures.dirs.0; closed = c.in_ok-client.ensures.closed; quiet = c.in_ok-client.ensures.fault.ok refl }));
      new = subst (All IsNew) (sym c.seat.ensures.items) (All-append IsNew c.loop-input.clients.items (_ ∷ []) was.new (All-cons IsNew _ [] (record { unserved = refl; unseated = refl }) (All-nil IsNew)));
      room = omega (arith, before, shorter, one, room);
      out = omega (arith, out, outs, items);
      dirs_out = c.in_ok-client.ensures.dirs.1 ∙ was.dirs_out;
    }
