-- Passes are given to clients one by one, and taken from them one by one.
use Rattle.std.proofs.Common.{◌≡◌, ℕ, zero, suc, ◌+◌, ◌-◌, ◌<◌, ◌≤◌, List, [], ◌∷◌, ◌++◌, length, map, take, drop, set, get_or, Option, Some, None, false, refl, sym, ap, ◌∙◌, subst, arith, append_assoc, append-nil}
use Rattle.std.specs.List.{flat_map}
use Rattle.std.specs.Option.{option_map_or}
use Rattle.std.proofs.lemmas.List.{take_all}
use Rattle.std.proofs.lemmas.List.Elements.{All-push, All-weaker, All-nil}
use Rattle.history_turn.specs.Histories.{StartsWith}
use Rattle.history_turn.specs.Views.{cut, part_of, joined, looking}
use Rattle.history_turn.specs.Passes.{viewing, fresh}
use Rattle.history_turn.specs.Calls.{Joined}
use Rattle.history_turn.proofs.OwnedLemmas.{weigh-append}
use Rattle.history_turn.proofs.HistoriesLemmas.{starts_trans}
use Rattle.shard_shared.specs.Told.{EngineView, number_at}
use Rattle.shard_shared.specs.declared.engine.Entered.{Entered}
use Rattle.shard_shared.specs.declared.engine.Lent.{Lent}
use Rattle.atomic_table.specs.Seated.{TableId}
use Rattle.std.specs.Prelude.{IsSome}
use Rattle.engine_clients.specs.Seats.{Served, Seat, IsOfTurn, JoinsAll, own_of, loans_of, parts_of, seen_of}

module _ {A : Type 0} where
  -- the first k items are changed
  abbrev pub changed : (A → A) → ℕ → List A → List A
  changed f zero xs = xs
  changed f (suc k) [] = []
  changed f (suc k) (x ∷ xs) = f x ∷ changed f k xs

  pub length-changed : (f : A → A) (k : ℕ) (xs : List A) → length (changed f k xs) ≡ length xs
  length-changed f zero xs = refl
  length-changed f (suc k) [] = refl
  length-changed f (suc k) (x ∷ xs) = let more = length-changed f k xs in omega arith

  -- the next one is as it was
  pub changed_next : (f : A → A) (k : ℕ) (xs : List A) (d : A) → get_or (changed f k xs) k d ≡ get_or xs k d
  changed_next f zero xs d = refl
  changed_next f (suc k) [] d = refl
  changed_next f (suc k) (x ∷ xs) d = changed_next f k xs d

  pub changed_more : (f : A → A) (k : ℕ) (xs : List A) (d : A) → k < length xs → set (changed f k xs) k (f (get_or xs k d)) ≡ changed f (k + 1) xs
  changed_more f k [] d below = absurd (omega arith)
  changed_more f zero (x ∷ xs) d below = refl
  changed_more f (suc k) (x ∷ xs) d below =
      let next : suc (k + 1) ≡ suc k + 1 = omega arith in
      ap (λ (l : List A). f x ∷ l) (changed_more f k xs d (omega arith)) ∙ ap (λ (n : ℕ). changed f n (x ∷ xs)) next

  pub changed_all : (f : A → A) (xs : List A) → changed f (length xs) xs ≡ map f xs
  changed_all f [] = refl
  changed_all f (x ∷ xs) = ap (λ (l : List A). f x ∷ l) (changed_all f xs)

  pub take_next : (k : ℕ) (xs : List A) (d : A) → k < length xs → take (k + 1) xs ≡ take k xs ++ get_or xs k d ∷ []
  take_next k [] d below = absurd (omega arith)
  take_next zero (x ∷ xs) d below = refl
  take_next (suc k) (x ∷ xs) d below =
      let next : suc k + 1 ≡ suc (k + 1) = omega arith in
      ap (λ (n : ℕ). take n (x ∷ xs)) next ∙ ap (λ (l : List A). x ∷ l) (take_next k xs d (omega arith))

  pub flat_map-push : {B : Type 0} (g : A → List B) (xs : List A) (x : A) → flat_map g (xs ++ x ∷ []) ≡ flat_map g xs ++ g x
  flat_map-push g [] x = append-nil (g x)
  flat_map-push g (y ∷ xs) x = ap (λ l. g y ++ l) (flat_map-push g xs x) ∙ sym (append_assoc (g y) (flat_map g xs) (g x))

-- one part more was split off
pub cut_once_more : {D : Type 0} (first now next : Seat D) (k : ℕ) → now ≡ viewing first (cut first.view k) → next ≡ viewing now (cut now.view 1) → next ≡ viewing first (cut first.view (k + 1))
cut_once_more {D} first now next k was is =
    let less : first.view.parts - k - 1 ≡ first.view.parts - (k + 1) = omega arith in
    is ∙ ap (λ (s : Seat D). viewing s (cut s.view 1)) was ∙ ap (λ (n : ℕ). viewing first (record first.view { parts = n })) less

-- and is as each part before
pub part_once_more : {D : Type 0} (first now : Seat D) (k : ℕ) → now ≡ viewing first (cut first.view k) → fresh now (part_of now.view 1) ≡ fresh first (part_of first.view 1)
part_once_more {D} first now k was = ap (λ (s : Seat D). fresh s (part_of s.view 1)) was

module _ {D S K C : Type 0} where
  pub joins_none : (first : Seat D) → first.view.has_turn ≡ false → JoinsAll {D = D} {S = S} {K = K} {C = C} first [] first
  joins_none first without = record {
    turn = refl;
    without_turn = without;
    start = refl;
    parts = omega arith;
    own = sym (append-nil first.view.own);
    loans = sym (append-nil first.view.loans);
    seen = All-nil (λ (s : Served D S K C). StartsWith first.view.seen (seen_of s));
  }

  pub joins_more : (first : Seat D) (sessions : List (Served D S K C)) (session : Served D S K C) (now other next : Seat D)
      → JoinsAll first sessions now → session.pass ≡ Some other → Joined number_at now other next → JoinsAll first (sessions ++ session ∷ []) next
  joins_more first sessions session now other next done has joins =
      let view : next.view ≡ looking (joined now.view other.view) joins.entries = ap (λ (s : Seat D). s.view) joins.now in
      let own_here : own_of session ≡ other.view.own = ap (λ (o : Option (Seat D)). option_map_or (λ (s : Seat D). s.view.own) o []) has in
      let loans_here : loans_of session ≡ other.view.loans = ap (λ (o : Option (Seat D)). option_map_or (λ (s : Seat D). s.view.loans) o []) has in
      let parts_here : parts_of session ≡ other.view.parts = ap (λ (o : Option (Seat D)). option_map_or (λ (s : Seat D). s.view.parts) o 0) has in
      let seen_here : seen_of session ≡ other.view.seen = ap (λ (o : Option (Seat D)). option_map_or (λ (s : Seat D). s.view.seen) o []) has in
      let seen_all : next.view.seen ≡ joins.entries = ap (λ (v : EngineView D). v.seen) view in
      let since : StartsWith next.view.seen now.view.seen = subst (λ (l : List Entered). StartsWith l now.view.seen) (sym seen_all) joins.seen in
      let told : StartsWith next.view.seen (seen_of session) =
      subst (λ (l : List Entered). StartsWith next.view.seen l) (sym seen_here) (subst (λ (l : List Entered). StartsWith l other.view.seen) (sym seen_all) joins.told) in
      record {
        turn = ap (λ (s : Seat D). s.turn) joins.now ∙ done.turn;
        without_turn = ap (λ (v : EngineView D). v.has_turn) view ∙ done.without_turn;
        start = ap (λ (v : EngineView D). v.start) view ∙ done.start;
        parts = (
            let sum = weigh-append (parts_of {D = D} {S = S} {K = K} {C = C}) sessions (session ∷ []) in
            let here = ap (λ (v : EngineView D). v.parts) view in
            let was = done.parts in
            omega arith
            );
        own = ap (λ (v : EngineView D). v.own) view ∙ ap (λ (l : List ℕ). l ++ other.view.own) done.own
            ∙ append_assoc first.view.own (flat_map own_of sessions) other.view.own
            ∙ ap (λ (l : List ℕ). first.view.own ++ (flat_map own_of sessions ++ l)) (sym own_here)
            ∙ ap (λ (l : List ℕ). first.view.own ++ l) (sym (flat_map-push own_of sessions session));
        loans = ap (λ (v : EngineView D). v.loans) view ∙ ap (λ (l : List Lent). l ++ other.view.loans) done.loans
            ∙ append_assoc first.view.loans (flat_map loans_of sessions) other.view.loans
            ∙ ap (λ (l : List Lent). first.view.loans ++ (flat_map loans_of sessions ++ l)) (sym loans_here)
            ∙ ap (λ (l : List Lent). first.view.loans ++ l) (sym (flat_map-push loans_of sessions session));
        seen = All-push (λ (s : Served D S K C). StartsWith next.view.seen (seen_of s)) sessions session
            (All-weaker (λ (s : Served D S K C). StartsWith now.view.seen (seen_of s)) (λ (s : Served D S K C). StartsWith next.view.seen (seen_of s))
            (λ s known. starts_trans next.view.seen now.view.seen (seen_of s) since known) sessions done.seen) told;
      }

pub some_of : {D : Type 0} (turn : TableId) (pass : Option (Seat D)) → IsOfTurn turn pass → IsSome pass
some_of turn None of_turn = absurd of_turn
some_of turn (Some seat) of_turn = refl

none_behind : {A : Type 0} (n : ℕ) (xs : List A) → length xs ≤ n → drop n xs ≡ []
none_behind zero [] few = refl
none_behind (suc n) [] few = refl
none_behind zero (x ∷ xs) few = absurd (omega arith)
none_behind (suc n) (x ∷ xs) few = none_behind n xs (omega arith)

-- what a slice of a whole vector leaves of it
pub whole_slice : {A : Type 0} (news olds : List A) (n : ℕ) → length news ≡ length olds → n ≡ length olds → take n (news ++ drop (length news) olds) ≡ news
whole_slice news olds n long is =
    let none = none_behind (length news) olds (omega arith) in
    ap (λ l. take n (news ++ l)) none ∙ ap (take n) (append-nil news) ∙ take_all n news (omega arith)
