-- What holds of each client by its place holds of all, one by one.
use Rattle.std.proofs.Common.{◌≡◌, ℕ, suc, ◌+◌, ◌<◌, List, [], ◌∷◌, length, slice_index_or, subst, arith}
use Rattle.shard_disk.specs.declared.disk.Disk.{Ghosts}
use Rattle.engine_session.specs.Devices.{Devices}
use Rattle.engine_clients.specs.Seats.{Served, ServesOne}

module _ {D R W S K C : Type 0} (g : Ghosts D R W) (members : Devices S K C) where
  -- each client was served, and they are numbered from this one on
  abbrev pub ServeEach : ℕ → List (Served D S K C) → List (Served D S K C) → Type 0
  ServeEach client [] [] = Unit {0}
  ServeEach client (old ∷ olds) (new ∷ news) = ServesOne g members client old new × ServeEach (client + 1) olds news
  ServeEach client (old ∷ olds) [] = ⊥
  ServeEach client [] (new ∷ news) = ⊥

  pub each_of_places : (client : ℕ) (olds news : List (Served D S K C)) → length news ≡ length olds
      → ((k : ℕ) (d : Served D S K C) → k < length olds → ServesOne g members (client + k) (slice_index_or olds k d) (slice_index_or news k d))
      → ServeEach client olds news
  each_of_places client [] [] long each = tt
  each_of_places client (old ∷ olds) [] long each = absurd (omega arith)
  each_of_places client [] (new ∷ news) long each = absurd (omega arith)
  each_of_places client (old ∷ olds) (new ∷ news) long each = (
    subst (λ (n : ℕ). ServesOne g members n old new) (omega arith) (each 0 old (omega arith)),
    each_of_places (client + 1) olds news (omega arith) (λ k d below.
        subst (λ (n : ℕ). ServesOne g members n (slice_index_or olds k d) (slice_index_or news k d)) (omega arith) (each (suc k) d (omega arith))),
  )
