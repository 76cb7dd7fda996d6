-- What clients that are served together come to, from the disk on.
use Rattle.std.proofs.Common.{◌≡◌, ℕ, suc, Bool, true, false, List, [], ◌∷◌, ◌++◌, length, refl, sym, ap, ◌∙◌, subst, map, All, inl, inr, ◌⊎◌, ⊎_elim, append-nil}
use Rattle.std.proofs.lemmas.List.{length-map}
use Rattle.shard_disk.specs.declared.disk.Disk.{Ghosts}
use Rattle.shard_disk.specs.declared.trouble.Trouble.TheVariants as trouble
use Rattle.session_io.specs.declared.client.Client.{Client}
use Rattle.session_io.specs.declared.report.End.{End}
use Rattle.session_io.specs.Directories.{Left, OfDir}
use Rattle.shard_steps.specs.declared.shard.Shard.{Shard}
use Rattle.engine_session.specs.Clients.{AreSessions, Finished}
use Rattle.engine_session.specs.Devices.{Devices}
use Rattle.engine_session.specs.Serving.{ClientSession}
use Rattle.engine_clients.specs.Seats.{Served}
use Rattle.engine_clients.specs.Served.{ServesEngineBy, client_of, left_by as seated_by}
use Rattle.engine_clients.specs.declared.serving.Ended.{Ended}
use Rattle.tsm_server.specs.Directories.{ClientsCause, Closes, OpensClients, Seen, ServesAll, ServesNobody, ServesOrLeaves, graver, gravest, status_by_closing, unserved}
use Rattle.tsm_server.specs.Engines.{IsOpened}
use Rattle.tsm_server.specs.Seats.{IsNew, ends_of, left_by}
use Rattle.tsm_server.specs.Words.{Names}
use Rattle.tsm_server.specs.declared.status.Status.{Status}
use Rattle.tsm_server.specs.declared.status.Status.TheVariants as status
use Rattle.tsm_server.proofs.DirectoriesLemmas.{closes_more, serves_clients}
use Rattle.tsm_server.proofs.SeatsLemmas.{ends_served, left_served, left_unserved}

module _ {S K C : Type 0} (members : Devices S K C) where
  sessions_length : (clients : List (Client S K C)) (finished : List (Finished S K C)) (sessions : List ClientSession) → AreSessions members clients finished sessions → length finished ≡ length clients
  sessions_length [] [] [] are = refl
  sessions_length (client ∷ clients) (one ∷ finished) (session ∷ sessions) are = ap suc (sessions_length clients finished sessions are.1)
  sessions_length [] [] (session ∷ sessions) are = absurd are
  sessions_length [] (one ∷ finished) sessions are = absurd are
  sessions_length (client ∷ clients) [] sessions are = absurd are
  sessions_length (client ∷ clients) (one ∷ finished) [] are = absurd are

module _ {D R W S K C : Type 0} (g : Ghosts D R W) (members : Devices S K C) (engine : Shard D) (old new : List (Served D S K C)) (ended : Ended D) where
  -- as many clients come back
  pub same_length : (served : Bool) → ServesEngineBy g members engine old new ended served → length new ≡ length old
  same_length true serves = ap length serves.1 ∙ length-map serves.0 _ ∙ sessions_length members (map client_of old) serves.0 serves.2 serves.3 ∙ length-map old _
  same_length false serves = ap length serves.0

  module _ (disk : D) (opened : IsOpened g disk engine) (are : All IsNew old) (before later now : Seen D S K C) (s : Status) (clients_closed : Closes (map (left_by members) new) before later)
      (disk_closed : Closes (OfDir ended.disk ∷ []) later now) where
    pub served_or_left : (served : Bool) → ServesEngineBy g members engine old new ended served → (served ≡ true → s ≡ gravest (status_by_closing ended.closed) (ends_of new))
        → (served ≡ false → s ≡ graver status.NoMemory (status_by_closing ended.closed)) → ServesOrLeaves g members disk (map client_of old) before now s
    served_or_left true serves by_all by_none = inl (record {
      settings = engine.settings;
      usual = opened.usual;
      finished = serves.0;
      left = ended.disk;
      number = ended.number;
      closing = ended.closed;
      serves = serves_clients g members disk engine opened ended.disk ended.number ended.closed (map client_of old) serves.0 serves.2 serves.3 serves.4;
      closes = closes_more _ _ before later now
          (subst (λ (l : List (Left D)). Closes l before later) (ap (map (left_by members)) serves.1 ∙ left_served members seated_by (λ f. refl) serves.0) clients_closed) disk_closed;
      status = by_all refl ∙ ap (gravest (status_by_closing ended.closed)) (ap ends_of serves.1 ∙ ends_served seated_by (λ f. refl) serves.0);
    })
    served_or_left false serves by_all by_none = inr (
      later,
      subst (λ (l : List (Left D)). Closes l before later) (ap (map (left_by members)) serves.0 ∙ left_unserved members old are) clients_closed,
      record {
        settings = engine.settings;
        usual = opened.usual;
        left = ended.disk;
        number = ended.number;
        closing = ended.closed;
        serves = serves_clients g members disk engine opened ended.disk ended.number ended.closed [] [] [] tt serves.1;
        closes = disk_closed;
        status = by_none refl;
      },
    )

module _ {D R W S K C : Type 0} (g : Ghosts D R W) (members : Devices S K C) (disk : D) (names : List Names) (clients : List (Client S K C)) (old between new : Seen D S K C) (s : Status) where
  -- all clients were opened, and then served, or there was no memory to begin
  pub all_opened : OpensClients members names clients old between → ServesOrLeaves g members disk clients between new s → ClientsCause g members disk names old new s
  all_opened opens cause = ⊎_elim
      (λ (all : ServesAll g members disk clients between new s). inl (clients, between, opens, all))
      (λ (none : (later : Seen D S K C) × Closes (map (unserved members) clients) between later × ServesNobody g members disk trouble.Memory later new s). inr (record {
        why = trouble.Memory;
        opened = clients;
        middle = between;
        opens = record {
          front = names;
          behind = [];
          whole = sym (append-nil names);
          between = between;
          opens = opens;
          failed = record { held = refl; dirs = refl; closed = refl; cause = refl };
        };
        later = none.0;
        closes = none.1;
        nobody = none.2;
      }))
      cause
