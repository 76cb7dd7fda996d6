-- All were opened and served, or those that were opened are closed unserved.
use Rattle.std.proofs.Common.{List, subst, inr, map, arith}
use Rattle.std.proofs.lemmas.List.{length-map}
use Rattle.session_io.specs.Directories.{Left}
use Rattle.engine_session.specs.Devices.{devices}
use Rattle.engine_clients.specs.Served.{client_of}
use Rattle.tsm_server.specs.Directories.{Closes, seen}
use Rattle.tsm_server.proofs.DirectoriesLemmas.{opens_all}
use Rattle.tsm_server.proofs.SeatsLemmas.{left_unserved}
use Rattle.tsm_server.proofs.ServingLemmas.{all_opened}
use Rattle.tsm_server.proofs.clients.serve_names.Goals as goal

pub serve_clients-requires-clause-few : goal.serve_clients-requires-clause-few
serve_clients-requires-clause-few g c =
    let all = opens_all _ _ _ _ _ c.in-Ok.ensures.ok in
    let long = length-map c.open_clients.new.clients.items client_of in
    let few = c.requires.few in
    omega (arith, all, long, few)

pub returns-in-Ok-clause-cause : goal.returns-in-Ok-clause-cause
returns-in-Ok-clause-cause g c = λ disk opened.
    all_opened _ _ disk _ (map client_of c.open_clients.new.clients.items) _ _ _ _ c.in-Ok.ensures.ok (c.serve_clients.ensures.serves disk opened)

pub returns-in-Err-clause-cause : goal.returns-in-Err-clause-cause
returns-in-Err-clause-cause g c = λ disk opened.
    inr (record {
      why = c.in-Err.trouble;
      opened = map client_of c.open_clients.new.clients.items;
      middle = seen g.K.Desk.health g.K.Desk.dirs g.K.Desk.held g.K.Desk.closed c.open_clients.new.desk;
      opens = c.in-Err.ensures.err;
      later = seen g.K.Desk.health g.K.Desk.dirs g.K.Desk.held g.K.Desk.closed c.close_clients.new.desk;
      closes = subst (λ (l : List (Left g.row.K-Disk.Denot)). Closes l (seen g.K.Desk.health g.K.Desk.dirs g.K.Desk.held g.K.Desk.closed c.open_clients.new.desk) (seen g.K.Desk.health g.K.Desk.dirs g.K.Desk.held g.K.Desk.closed c.close_clients.new.desk))
          (left_unserved (devices g.K.Source.Source.given g.K.Source.Source.left g.K.Source.Source.ended g.K.Source.Source.health g.K.Sink.Sink.written g.K.Sink.Sink.health g.K.Clock.Clock.moments) c.open_clients.new.clients.items c.open_clients.ensures.new) c.close_clients.ensures.closes;
      nobody = c.serve_nobody.ensures.nobody disk opened;
    })
