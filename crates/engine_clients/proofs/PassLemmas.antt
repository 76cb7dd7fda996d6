-- The passes of clients that were served are of the same turn, and have the parts that they had.
use Rattle.std.proofs.Common.{◌≡◌, ℕ, ◌+◌, ◌<◌, slice_index_or, List, [], ◌∷◌, length, map, All, Option, Some, false, refl, sym, ap, ◌∙◌, subst, arith}
use Rattle.std.specs.Option.{option_map_or}
use Rattle.std.proofs.lemmas.List.Elements.{All-nil, All-cons}
use Rattle.atomic_table.specs.Seated.{TableId}
use Rattle.history_turn.specs.Owned.{weigh}
use Rattle.shard_disk.specs.declared.disk.Disk.{Ghosts}
use Rattle.engine_session.specs.Devices.{Devices}
use Rattle.engine_clients.specs.Seats.{Served, Seat, ServesOne, IsOfTurn, IsSeated, seated_with, parts_of}
use Rattle.engine_clients.proofs.EachLemmas.{ServeEach, each_of_places}

some_is : {X : Type 0} (x y : X) → Some x ≡ Some y → x ≡ y
some_is x y e = cc

module _ {D R W S K C : Type 0} (g : Ghosts D R W) (members : Devices S K C) (seat : Seat D) where
  pub parts_each : (client : ℕ) (olds mids : List (Served D S K C)) → seat.view.parts ≡ 1 → ServeEach g members client (map (seated_with seat) olds) mids
      → weigh parts_of mids ≡ length olds
  parts_each client [] [] one each = refl
  parts_each client (old ∷ olds) [] one each = absurd each
  parts_each client [] (mid ∷ mids) one each = absurd each
  parts_each client (old ∷ olds) (mid ∷ mids) one each =
      let begun : each.0.before ≡ seat = sym (some_is seat each.0.before each.0.had) in
      let here : parts_of mid ≡ each.0.now.view.parts = ap (λ (o : Option (Seat D)). option_map_or (λ (s : Seat D). s.view.parts) o 0) each.0.has in
      let same = each.0.parts in
      let was = ap (λ (s : Seat D). s.view.parts) begun in
      let more = parts_each (client + 1) olds mids one each.1 in
      omega arith

  pub turns_each : (turn : TableId) (client : ℕ) (olds mids : List (Served D S K C)) → seat.turn ≡ turn → ServeEach g members client (map (seated_with seat) olds) mids
      → All (λ mid. IsOfTurn turn mid.pass) mids
  turns_each turn client [] [] is each = All-nil (λ (mid : Served D S K C). IsOfTurn turn mid.pass)
  turns_each turn client (old ∷ olds) [] is each = absurd each
  turns_each turn client [] (mid ∷ mids) is each = absurd each
  turns_each turn client (old ∷ olds) (mid ∷ mids) is each =
      let begun : each.0.before ≡ seat = sym (some_is seat each.0.before each.0.had) in
      All-cons (λ (m : Served D S K C). IsOfTurn turn m.pass) mid mids
      (subst (λ (o : Option (Seat D)). IsOfTurn turn o) (sym each.0.has) (each.0.turn ∙ ap (λ (s : Seat D). s.turn) begun ∙ is, each.0.without_turn))
      (turns_each turn (client + 1) olds mids is each.1)

  each_here : (olds starts mids : List (Served D S K C)) → starts ≡ map (seated_with seat) olds → length mids ≡ length starts
      → ((k : ℕ) (d : Served D S K C) → k < length starts → ServesOne g members k (slice_index_or starts k d) (slice_index_or mids k d))
      → ServeEach g members 0 (map (seated_with seat) olds) mids
  each_here olds starts mids is long each =
      subst (λ (l : List (Served D S K C)). ServeEach g members 0 l mids) is
      (each_of_places g members 0 starts mids long (λ k d below. subst (λ (n : ℕ). ServesOne g members n (slice_index_or starts k d) (slice_index_or mids k d)) (omega arith) (each k d below)))

  pub parts_all : (olds starts mids : List (Served D S K C)) → starts ≡ map (seated_with seat) olds → length mids ≡ length starts
      → ((k : ℕ) (d : Served D S K C) → k < length starts → ServesOne g members k (slice_index_or starts k d) (slice_index_or mids k d))
      → seat.view.parts ≡ 1 → weigh parts_of mids ≡ length olds
  parts_all olds starts mids is long each one = parts_each 0 olds mids one (each_here olds starts mids is long each)

  pub turns_all : (turn : TableId) (olds starts mids : List (Served D S K C)) → starts ≡ map (seated_with seat) olds → length mids ≡ length starts
      → ((k : ℕ) (d : Served D S K C) → k < length starts → ServesOne g members k (slice_index_or starts k d) (slice_index_or mids k d))
      → seat.turn ≡ turn → All (λ mid. IsOfTurn turn mid.pass) mids
  turns_all turn olds starts mids is long each of_turn = turns_each turn 0 olds mids of_turn (each_here olds starts mids is long each)

module _ {D S K C : Type 0} (seat : Seat D) where
  pub seated_all : (turn : TableId) (olds : List (Served D S K C)) → seat.turn ≡ turn → seat.view.has_turn ≡ false → seat.view.loans ≡ []
      → All (λ old. IsSeated turn old.pass) (map (seated_with seat) olds)
  seated_all turn [] is without no_loan = All-nil (λ (old : Served D S K C). IsSeated turn old.pass)
  seated_all turn (old ∷ olds) is without no_loan =
      All-cons (λ (o : Served D S K C). IsSeated turn o.pass) (seated_with seat old) (map (seated_with seat) olds) (is, without, no_loan)
      (seated_all turn olds is without no_loan)
