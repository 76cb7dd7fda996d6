-- What does a desk in memory hold, and what has it closed?
use Rattle.std.specs.Prelude.{ℕ, ◌<◌, ℤ, Bool, ◌&&◌, List, length, take, slice_get, All, Option, Some, IsSomeAnd, String}
use Rattle.std.specs.declared.alloc.Global.{Global}
use Rattle.std.specs.List.{list_all}
use Rattle.std.specs.String.{string_bytes}
use Rattle.shard_disk.specs.Health.{Health}
use Rattle.session_io.specs.declared.client.Client.{Client}
use Rattle.session_io.specs.declared.mem_source.MemSource.{MemSource}
use Rattle.session_io.specs.declared.mem_sink.MemSink.{MemSink}
use Rattle.session_io.specs.declared.mem_clock.MemClock.{MemClock}
use Rattle.session_io.specs.declared.closed.Closed.{Closed}
use Rattle.session_io.specs.Moments.{moments_told}
use Rattle.session_io.specs.Clients.{Held, IsFresh, IsNamed, closed_client, is_steady}
use Rattle.session_io.specs.Directories.{HasNoReader, HeldDir, IsAt, Left, left_by}
use Rattle.shard_disk.specs.HandedOut.{HandedOut}

abbrev pub MemClient : Type 0
MemClient = Client MemSource MemSink MemClock

-- two names and the client that is held under them
abbrev pub Entry : Type 0
Entry = String Global × String Global × MemClient

abbrev pub held_of : Entry → Held MemSource MemSink MemClock
held_of entry = record { input = string_bytes entry.0; output = string_bytes entry.1; client = entry.2 }

-- what its source has given, and the like of its sink and its clock
abbrev pub given : MemSource → Option (List ℕ)
given source = Some (take source.at source.bytes.items)

abbrev pub ended : MemSource → Bool
ended source = source.ended

abbrev pub source_health : MemSource → Health
source_health source = source.failures

abbrev pub written : MemSink → Option (List ℕ)
written sink = Some sink.bytes.items

abbrev pub sink_health : MemSink → Health
sink_health sink = sink.failures

abbrev pub moments : MemClock → Option (List ℤ)
moments clock = moments_told clock.moments.items clock.calls

abbrev pub IsFreshEntry : Entry → Type 0
IsFreshEntry entry = IsFresh given ended source_health written sink_health moments entry.2

abbrev pub is_steady_entry : Entry → Bool
is_steady_entry entry = is_steady source_health sink_health entry.2

-- a path and the disk that is held under it
abbrev pub Dir : Type 0 → Type 0
Dir D = String Global × D

abbrev pub held_dir : {D : Type 0} → Dir D → HeldDir D
held_dir dir = record { path = string_bytes dir.0; disk = dir.1 }

-- no reader of the disk is out
abbrev pub IsFreeDir : {D : Type 0} → (D → HandedOut) → Dir D → Type 0
IsFreeDir handed_out dir = HasNoReader (handed_out dir.1)

-- what is left of what was closed
abbrev pub left_of : {D : Type 0} → Closed D MemSource MemSink MemClock → Left D
left_of = left_by (closed_client given ended source_health written sink_health moments)

-- a desk whose own calls fail so, and that holds these clients and directories
abbrev pub health_with : {D : Type 0} → (D → Health) → Health → List Entry → List (Dir D) → Health
health_with {D} disk_health own held dirs = record {
  faults = own.faults;
  is_steady = own.is_steady && (list_all is_steady_entry held && list_all (λ (dir : Dir D). (disk_health dir.1).is_steady) dirs);
}

-- none of the entries is so
abbrev pub IsNone : {E : Type 0} → (E → Type 0) → List E → Type 0
IsNone Is entries = All (λ entry. ¬ (Is entry)) entries

-- the entry at this place is so, and none before it
pub record IsFirst {E : Type 0} (Is : E → Type 0) (entries : List E) (place : ℕ) : Type 0 where
  pub within : place < length entries
  pub here : IsSomeAnd (slice_get entries place) Is
  pub first : IsNone Is (take place entries)

-- the entry is held under these names
abbrev pub HasNames : List ℕ → List ℕ → Entry → Type 0
HasNames input output entry = IsNamed input output (held_of entry)

-- the directory is held under this path
abbrev pub HasPath : {D : Type 0} → List ℕ → Dir D → Type 0
HasPath path dir = IsAt path (held_dir dir)
