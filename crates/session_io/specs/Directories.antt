-- What does a desk know of its directories, and what has it closed?
use Rattle.std.specs.Prelude.{◌≡◌, ℕ, List, Any, Option, IfSome}
use Rattle.shard_disk.specs.HandedOut.{HandedOut}
use Rattle.session_io.specs.declared.client.Client.{Client}
use Rattle.session_io.specs.declared.closed.Closed as code
use Rattle.session_io.specs.declared.closed.Closed.TheVariants as variant
use Rattle.session_io.specs.declared.report.Report.{Report}
use Rattle.session_io.specs.Clients.{Closed}
use Rattle.session_io.specs.Taking.{TakesFirst, Told}

-- a directory that waits to be opened, under its path
pub record HeldDir (D : Type 0) : Type 0 where
  pub path : List ℕ
  pub disk : D

-- the directory is held under this path
abbrev pub IsAt : {D : Type 0} → List ℕ → HeldDir D → Type 0
IsAt path held = held.path ≡ path

-- the desk holds a directory of this path, or doesn't tell what it holds
abbrev pub IsHeldDir : {D : Type 0} → List ℕ → Option (List (HeldDir D)) → Type 0
IsHeldDir path held = IfSome held (Any (IsAt path))

-- the first directory of this path, as it was held, is taken out of those that are held
abbrev pub HandsOutDir : {D : Type 0} → List ℕ → D → Option (List (HeldDir D)) → Option (List (HeldDir D)) → Type 0
HandsOutDir path disk old new = Told (TakesFirst (IsAt path) (record { path = path; disk = disk })) old new

-- no reader of the disk is out
abbrev pub HasNoReader : HandedOut → Type 0
HasNoReader handed = (n : ℕ) → handed.readers n ≡ 0

-- what was closed: a client, by what was left of it, or a directory, by its disk
pub data Left (D : Type 0) : Type 0 where
  OfClient : Closed → Left D
  OfDir : D → Left D

-- what is left of what a desk has closed
abbrev pub left_by : {D S K C : Type 0} → (Client S K C → Option Report → Closed) → code.Closed D S K C → Left D
left_by closed (variant.Dir disk) = OfDir disk
left_by closed (variant.Client client report) = OfClient (closed client report)
