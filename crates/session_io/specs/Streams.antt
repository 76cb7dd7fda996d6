-- What does a read, a write or a look at the clock add to what an object tells of itself?
use Rattle.std.specs.Prelude.{◌≡◌, ℕ, ◌<◌, ◌≤◌, Bool, false, ◌&&◌, nat_lt, ◌==◌, List, [], ◌++◌, length, take, Option, Some, None, ⊤, Result, Ok, Err, IfOk, IfSome, IsErrOf}
use Rattle.shard_disk.specs.Health.{Rose}
use Rattle.shard_disk.specs.declared.trouble.Trouble.{Trouble}
use Rattle.shard_disk.specs.declared.trouble.Trouble.TheVariants as trouble

-- What is told grows by these at its end. An object may stop telling, and one that doesn't tell never will.
abbrev pub Grows : {X : Type 0} → Option (List X) → Option (List X) → List X → Type 0
Grows None new more = new ≡ None
Grows (Some old) None more = ⊤
Grows (Some old) (Some new) more = new ≡ old ++ more

-- What is told loses these at its front. An object may stop telling, and one that doesn't tell never will.
abbrev pub Shrinks : {X : Type 0} → Option (List X) → Option (List X) → List X → Type 0
Shrinks None new front = new ≡ None
Shrinks (Some old) None front = ⊤
Shrinks (Some old) (Some new) front = old ≡ front ++ new

-- where it is told, it is this
abbrev pub IsTold : {X : Type 0} → Option X → X → Type 0
IsTold told x = IfSome told (λ y. y ≡ x)

-- the bytes that a call moved: the front of the buffer, or none where it was refused
abbrev pub moved : {E : Type 0} → Result ℕ E → List ℕ → List ℕ
moved (Ok count) buffer = take count buffer
moved (Err e) buffer = []

-- the answer to a read that had room says that the input has ended
abbrev pub tells_end : {E : Type 0} → Result ℕ E → List ℕ → Bool
tells_end (Ok count) buffer = (count == 0) && nat_lt 0 (length buffer)
tells_end (Err e) buffer = false

-- A read that gave bytes has taken from the bound on such reads, and none adds to it.
pub record SpendsReads {E : Type 0} (before now : ℕ) (result : Result ℕ E) : Type 0 where
  pub never_rises : now ≤ before
  pub falls : IfOk result (λ count. 0 < count → now < before)

-- Want of memory is counted, and nothing else is.
pub record CountsWants {T : Type 0} (result : Result T Trouble) (before now : ℕ) : Type 0 where
  pub memory : IsErrOf result trouble.Memory → Rose before now
  pub other : ¬ (IsErrOf result trouble.Memory) → now ≡ before
