-- Clients that are served together, before and behind.
use Rattle.std.proofs.Common.{◌≡◌, List, [], ◌∷◌, ◌++◌, refl, sym, ap, ◌∙◌, subst, map, reverse, append_assoc, All, None, Some}
use Rattle.std.proofs.lemmas.List.{map-append, reverse-append}
use Rattle.std.proofs.lemmas.List.Elements.{All-head, All-tail}
use Rattle.session_io.specs.Directories.{Left}
use Rattle.session_io.specs.declared.report.End.{End}
use Rattle.engine_session.specs.Clients.{Finished}
use Rattle.engine_session.specs.Devices.{Devices}
use Rattle.engine_clients.specs.declared.client.Seated.{Seated}
use Rattle.tsm_server.specs.Directories.{Closes, Seen, gravest, left_of, unserved}
use Rattle.tsm_server.specs.Seats.{IsNew, ends_of, left_by}
use Rattle.tsm_server.specs.declared.status.Status.{Status}
use Rattle.tsm_server.proofs.DirectoriesLemmas.{closes_more}

-- the gravest of two lists one after another
pub gravest_both : (first : Status) (ends more : List End) → gravest first (ends ++ more) ≡ gravest (gravest first ends) more
gravest_both first [] more = refl
gravest_both first (end ∷ ends) more = gravest_both _ ends more

-- how each of them ended
module _ {S K C P : Type 0} where
  pub ends_served : (seat : Finished S K C → Seated S K C P) → ((f : Finished S K C) → seat f ≡ record { client = f.client; report = Some f.report; pass = None }) → (finished : List (Finished S K C))
      → ends_of (map seat finished) ≡ map (λ (f : Finished S K C). f.report.end) finished
  ends_served seat is [] = refl
  ends_served seat is (one ∷ more) = cc (is one, ends_served seat is more)

module _ {D S K C P : Type 0} (members : Devices S K C) where
  -- none of them was served
  pub left_unserved : (clients : List (Seated S K C P)) → All IsNew clients → map (left_by {D = D} members) clients ≡ map (unserved {D = D} members) (map (λ (c : Seated S K C P). c.client) clients)
  left_unserved [] new = refl
  left_unserved (client ∷ clients) new = cc ((All-head IsNew client clients new).unserved, left_unserved clients (All-tail IsNew client clients new))

  -- each of them was served
  pub left_served : (seat : Finished S K C → Seated S K C P) → ((f : Finished S K C) → seat f ≡ record { client = f.client; report = Some f.report; pass = None }) → (finished : List (Finished S K C))
      → map (left_by {D = D} members) (map seat finished) ≡ map (left_of {D = D} members) finished
  left_served seat is [] = refl
  left_served seat is (one ∷ more) = cc (is one, left_served seat is more)

  -- one client more was closed
  pub left_more : (done : List (Seated S K C P)) (one : Seated S K C P) (old mid new : Seen D S K C) → Closes (map (left_by members) done) old mid → Closes (left_by members one ∷ []) mid new
      → Closes (map (left_by members) (done ++ one ∷ [])) old new
  left_more done one old mid new a b = subst (λ (l : List (Left D)). Closes l old new) (sym (map-append (left_by members) done (one ∷ []))) (closes_more (map (left_by members) done) (left_by members one ∷ []) old mid new a b)

-- the last of those that wait in reverse is the next
pub waits_more : {X : Type 0} (all done waiting left : List X) (one : X) → all ≡ done ++ reverse waiting → waiting ≡ left ++ one ∷ [] → all ≡ (done ++ one ∷ []) ++ reverse left
waits_more all done waiting left one whole is = whole ∙ ap (λ l. done ++ reverse l) is ∙ ap (λ l. done ++ l) (reverse-append left (one ∷ [])) ∙ sym (append_assoc done (one ∷ []) (reverse left))
