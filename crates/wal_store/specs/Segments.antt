-- What a log in segments is, and what its calls make of it.
use Rattle.std.specs.Prelude.{◌≡◌, ℕ, ◌+◌, ◌≤◌, nat_le, Bool, true, false, List, [], ◌∷◌, ◌++◌, length, slice_get, take_while, drop, Some, if◌then◌else◌}
use Rattle.fixed_width.specs.Fields.{bytes_of_u64}
use Rattle.point_model.specs.declared.entry.Entry.{Entry}
use Rattle.gate_log.specs.declared.log.Log.{Log}
use Rattle.wal_store.specs.Runs.{entry_bytes}
use Rattle.wal_store.specs.Spelling.{Spells}

-- The files of the segments, the oldest first; of each but the last the greatest number of an entry in it, or 0, and that of the
-- last; the log of the last; the number of the last entry, or the floor where there is none past it; whether there is room for a
-- segment more.
pub record Segments : Type 0 where
  pub files : List ℕ
  pub newest : List ℕ
  pub newest_here : ℕ
  pub log : Log
  pub last : ℕ
  pub has_room : Bool

-- each segment but the last has its greatest number, and the log is that of the last
pub record AreSegments (wal : Segments) : Type 0 where
  pub each : length wal.files ≡ length wal.newest + 1
  pub here : slice_get wal.files (length wal.newest) ≡ Some wal.log.file

-- the lists have these capacities, and room where it was made
pub record IsKept (files newest : ℕ) (wal : Segments) : Type 0 where
  pub sound : AreSegments wal
  pub for_files : wal.has_room ≡ true → length wal.files + 1 ≤ files
  pub for_newest : wal.has_room ≡ true → length wal.newest + 1 ≤ newest

-- one segment without an entry, which goes on from this number
abbrev pub one_segment : Log → ℕ → Segments
one_segment log last = record { files = log.file ∷ []; newest = []; newest_here = 0; log = log; last = last; has_room = false }

-- a further segment, without an entry
abbrev pub with_segment : Segments → Log → Segments
with_segment wal log = record {
  files = wal.files ++ log.file ∷ [];
  newest = wal.newest ++ wal.newest_here ∷ [];
  newest_here = 0;
  log = log;
  last = wal.last;
  has_room = false;
}

abbrev pub greater : ℕ → ℕ → ℕ
greater a b = if nat_le a b then b else a

-- an entry of this number is the last, in the last segment
abbrev pub with_number : Segments → Log → ℕ → Segments
with_number wal log number = record wal { newest_here = greater wal.newest_here number; log = log; last = number }

-- how many segments at the front hold no entry past this number, the last aside
abbrev pub settled_segments : ℕ → Segments → ℕ
settled_segments number wal = length (take_while (λ newest. nat_le newest number) wal.newest)

-- without so many segments at the front
abbrev pub without_segments : ℕ → Segments → Segments
without_segments count wal = record wal { files = drop count wal.files; newest = drop count wal.newest }

-- the greatest number of an entry
abbrev pub last_number : ℕ
last_number = 9223372036854775807

-- a number of an entry that may come next: one more than that of the last entry, or than the floor
pub record MayFollow (wal : Segments) (number : ℕ) : Type 0 where
  pub most : number ≤ last_number
  pub next : number ≡ wal.last + 1

-- the number of an entry, and the body of its record
pub record Recorded : Type 0 where
  pub number : ℕ
  pub body : List ℕ

-- a record: the number in eight bytes, and the entry
abbrev pub record_bytes : ℕ → Entry → List ℕ
record_bytes number entry = bytes_of_u64 number ++ entry_bytes entry

-- the bytes of a record stand for this entry with this number
pub record SpellsRecord (number : ℕ) (entry : Entry) (bytes : List ℕ) : Type 0 where
  pub most : number ≤ last_number
  pub body : List ℕ
  pub whole : bytes ≡ bytes_of_u64 number ++ body
  pub spells : Spells entry body

-- the record of an entry with this number
abbrev pub record_of : ℕ → Entry → Recorded
record_of number entry = record { number = number; body = record_bytes number entry }
