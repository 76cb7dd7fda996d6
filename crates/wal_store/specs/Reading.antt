-- Segments that are read record by record.
use Rattle.std.specs.Prelude.{◌≡◌, ℕ, ◌+◌, ◌<◌, ◌≤◌, max, false, List, [], ◌∷◌, ◌++◌, length, map}
use Rattle.std.specs.List.{AllByRecursion}
use Rattle.shard_disk.specs.Crash.{Crashes, IsDurable}
use Rattle.shard_disk.specs.Directory.{Directory}
use Rattle.shard_disk.specs.declared.damage.Damage.{Damage}
use Rattle.shard_disk.specs.declared.damage.Why.{Why}
use Rattle.gate_log.specs.Calls.Read.{Reads as ReadsLog}
use Rattle.gate_log.specs.Records.{spelled}
use Rattle.point_model.specs.declared.entry.Entry.{Entry}
use Rattle.wal_store.specs.declared.replay.Place.{Place}
use Rattle.wal_store.specs.Replay.{AreCounted, AreRecords, HasSegments, IsStrange, Logged, joined, newest_of, past}
use Rattle.wal_store.specs.Segments.{Segments, SpellsRecord, last_number}

-- The segments as far as they are read, the last of which is open; the records of that one that aren't read yet, and where the
-- first of these stands.
pub record Replaying : Type 0 where
  pub floor : ℕ
  pub wal : Segments
  pub left : List (List ℕ)
  pub gate : ℕ

-- one record was read: of this number, with a body of so many bytes
abbrev pub with_record : Replaying → ℕ → ℕ → Replaying
with_record replay number size = record {
  floor = replay.floor;
  wal = record replay.wal { newest_here = max replay.wal.newest_here number; last = max replay.wal.last number };
  left = replay.left;
  gate = replay.gate + (9 + size);
}

-- Of the open segment these records are read. They are of these entries, counted behind those of the segments before.
pub record HasRead (replay : Replaying) (before here : List Logged) (records : List (List ℕ)) : Type 0 where
  pub are : AreRecords here records
  pub counted : AreCounted replay.floor (before ++ here)
  pub last : replay.wal.last ≡ replay.floor + length (past replay.floor (before ++ here))
  pub most : replay.wal.last ≤ last_number
  pub newest : replay.wal.newest_here ≡ newest_of here
  pub gate : replay.gate ≡ length (spelled records)

-- the entries past the floor
abbrev pub entries_past : ℕ → List Logged → List Entry
entries_past floor logged = map (λ (l : Logged). l.entry) (past floor logged)

-- Behind those, these records were read, and these are the entries past the floor among theirs.
pub record GoesOn (old new : Replaying) (before here : List Logged) (records read : List (List ℕ)) (entries : List Entry) : Type 0 where
  pub more : List Logged
  pub has : HasRead new before (here ++ more) (records ++ read)
  pub past_floor : entries_past new.floor (before ++ (here ++ more)) ≡ entries_past old.floor (before ++ here) ++ entries

-- These records were read, and no segment was opened meanwhile.
pub record Reads (old new : Replaying) (read : List (List ℕ)) (entries : List Entry) : Type 0 where
  pub parts : old.left ≡ read ++ new.left
  pub on : (before here : List Logged) (records : List (List ℕ)) → HasRead old before here records → GoesOn old new before here records read entries
  pub floor : new.floor ≡ old.floor
  pub same : new.wal ≡ record old.wal { newest_here = new.wal.newest_here; last = new.wal.last }

-- Some records were read, none of which is past the floor, and the next one stands behind them.
pub record Passes (old new : Replaying) : Type 0 where
  pub passed : List (List ℕ)
  pub reads : Reads old new passed []
  pub gate : new.gate ≡ old.gate + length (spelled passed)

-- The records up to that of this entry were read, which is past the floor as none before it. Its record stands at this place.
pub record Gives (old new : Replaying) (place : Place) (entry : Entry) : Type 0 where
  pub passed : List (List ℕ)
  pub body : List ℕ
  pub reads : Reads old new (passed ++ body ∷ []) (entry ∷ [])
  pub spells : SpellsRecord new.wal.last entry body
  pub file : place.file ≡ old.wal.log.file
  pub offset : place.offset ≡ old.gate + length (spelled passed)

-- No record is left: those up to the end of the segment were read, and none is past the floor.
pub record Ends (old new : Replaying) : Type 0 where
  pub reads : Reads old new old.left []
  pub none : new.left ≡ []

-- The open segment is read to its end, and its entries past the floor stand behind others.
pub record TakesAll (old new : Replaying) (entries entries' : List Entry) : Type 0 where
  pub given : List Entry
  pub reads : Reads old new old.left given
  pub none : new.left ≡ []
  pub behind : entries' ≡ entries ++ given

-- The next record was read: it is of this entry, whose number is the next one where it is past the floor.
pub record Follows (old new : Replaying) (number : ℕ) (entry : Entry) : Type 0 where
  pub body : List ℕ
  pub rest : List (List ℕ)
  pub parts : old.left ≡ body ∷ rest
  pub spells : SpellsRecord number entry body
  pub next : old.floor < number → number ≡ old.wal.last + 1
  pub is : new ≡ with_record (record { floor = old.floor; wal = old.wal; left = rest; gate = old.gate }) number (length body)

-- The next record isn't one that may stand behind those that were read, and is named at its gate.
pub record NextIsStrange (damage : Damage) (replay : Replaying) : Type 0 where
  pub body : List ℕ
  pub rest : List (List ℕ)
  pub parts : replay.left ≡ body ∷ rest
  pub why : Why
  pub is : damage ≡ record { file = replay.wal.log.file; offset = replay.gate; why = why }
  pub strange : (before here : List Logged) (records : List (List ℕ)) → HasRead replay before here records → IsStrange why replay.floor (before ++ here) body

-- So far the segments are read: those before the open one whole, which have these entries, and of the open one records of these.
-- A crash leaves each file as it reads.
pub record AreRead (tells : Type 0) (replay : Replaying) (earlier : List (List Logged)) (here : List Logged) (files : Directory) (crashes crashes' : Crashes) : Type 0 where
  pub before : List ℕ
  pub file : ℕ
  pub parts : replay.wal.files ≡ before ++ file ∷ []
  pub many : length before ≡ length earlier
  pub have : tells → HasSegments files before earlier
  pub newest : replay.wal.newest ≡ map newest_of earlier
  pub durable : AllByRecursion (IsDurable files crashes') before
  pub records : List (List ℕ)
  pub log : ReadsLog tells file replay.wal.log (records ++ replay.left) files crashes crashes'
  pub has : HasRead replay (joined earlier) here records
  pub room : replay.wal.has_room ≡ false
