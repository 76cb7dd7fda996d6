-- An engine that served clients is closed, and the clients are handed back.
use Rattle.std.proofs.Common.{◌≡◌, ℕ, List, [], length, map, ◌∷◌, All, refl, sym, ap, ◌∙◌, subst, arith, None}
use Rattle.std.specs.Prelude.{Result}
use Rattle.shard_disk.specs.declared.disk.Disk.{Ghosts}
use Rattle.shard_disk.specs.declared.trouble.Trouble.{Trouble}
use Rattle.std.proofs.lemmas.List.Elements.{All-cons, All-nil}
use Rattle.session_io.specs.declared.client.Client.{Client}
use Rattle.point_model.specs.Histories.{State}
use Rattle.shard_state.specs.Calls.{Closes}
use Rattle.shard_steps.specs.Shards.{state_of}
use Rattle.shard_steps.specs.declared.shard.Shard.{Shard}
use Rattle.engine_session.specs.Devices.{Devices}
use Rattle.engine_session.specs.Clients.{AreSessions, Finished}
use Rattle.engine_session.specs.Serving.{ClientSession, Serves}
use Rattle.engine_session.proofs.ServedLemmas.{lasts, stored}
use Rattle.engine_clients.specs.Seats.{Served}
use Rattle.engine_clients.specs.Served.{ServesTogether, client_of, left_by}

module _ {D R W S K C : Type 0} (g : Ghosts D R W) (members : Devices S K C) (start left : Shard D) (old new : List (Served D S K C)) (together : ServesTogether g members start left old new) where
  pub serves_closed : (disk : D) (number : ℕ) (closed : Result (Unit {0}) Trouble) → Closes g left.logs disk closed → number ≡ (state_of left).number → Serves g together.sessions start disk number closed
  serves_closed disk number closed closes is = record {
    history = together.history;
    tried = together.tried;
    held = left.logs.series.keys;
    holds = together.holds;
    middle = g.health left.logs.disk;
    served = together.served;
    counted = is ∙ ap (λ (s : State). s.number) together.state;
    lasts = λ told since run. lasts g (state_of start) since together.history together.tried left disk closed closes told (together.ran told since run);
    stored = λ told since run. stored g (state_of start) since together.history together.tried left disk closed closes told (together.ran told since run);
    closing = closes.fault;
    handed_out = closes.handed_out ∙ together.same;
  }

-- ---- the clients that are handed back

module _ {D S K C : Type 0} where
  pub none_seated : (finished : List (Finished S K C)) → All (λ (served : Served D S K C). served.pass ≡ None) (map left_by finished)
  none_seated [] = All-nil (λ (served : Served D S K C). served.pass ≡ None)
  none_seated (one ∷ finished) = All-cons (λ (served : Served D S K C). served.pass ≡ None) (left_by one) (map left_by finished) refl (none_seated finished)

  pub as_many_clients : (clients : List (Served D S K C)) → length (map client_of clients) ≡ length clients
  as_many_clients [] = refl
  as_many_clients (one ∷ clients) = let more = as_many_clients clients in omega (arith, more)

as_many_left : (D : Type 0) {S K C : Type 0} (finished : List (Finished S K C)) → length (map (left_by {D = D}) finished) ≡ length finished
as_many_left D [] = refl
as_many_left D (one ∷ finished) = let more = as_many_left D finished in omega (arith, more)

as_many_sessions : {S K C : Type 0} (members : Devices S K C) (clients : List (Client S K C)) (finished : List (Finished S K C)) (sessions : List ClientSession) → AreSessions members clients finished sessions → length finished ≡ length clients
as_many_sessions members [] [] [] are = refl
as_many_sessions members (client ∷ clients) (one ∷ finished) (session ∷ sessions) are = let more = as_many_sessions members clients finished sessions are.1 in omega (arith, more)
as_many_sessions members [] [] (session ∷ sessions) are = absurd are
as_many_sessions members [] (one ∷ finished) sessions are = absurd are
as_many_sessions members (client ∷ clients) [] sessions are = absurd are
as_many_sessions members (client ∷ clients) (one ∷ finished) [] are = absurd are

module _ {D R W S K C : Type 0} (g : Ghosts D R W) (members : Devices S K C) (start left : Shard D) (old new : List (Served D S K C)) (together : ServesTogether g members start left old new) where
  pub unseated_left : All (λ (served : Served D S K C). served.pass ≡ None) new
  unseated_left = subst (λ (l : List (Served D S K C)). All (λ (served : Served D S K C). served.pass ≡ None) l) (sym together.left_are) (none_seated together.finished)

  pub long_left : length new ≡ length old
  long_left = ap (λ (l : List (Served D S K C)). length l) together.left_are ∙ as_many_left D together.finished
      ∙ as_many_sessions members (map client_of old) together.finished together.sessions together.are ∙ as_many_clients old
