-- What are the segments of a log read as, and what is wrong with others?
use Rattle.std.specs.Prelude.{◌≡◌, ◌≢◌, ℕ, ◌+◌, ◌<◌, ◌≤◌, nat_lt, max, List, [], ◌∷◌, ◌++◌, length, filter, map, false}
use Rattle.std.specs.List.{flat_map, range_with_len, AllByRecursion}
use Rattle.shard_disk.specs.Crash.{Crashes, IsDurable}
use Rattle.shard_disk.specs.Directory.{Directory, HasFile}
use Rattle.shard_disk.specs.declared.damage.Damage.{Damage}
use Rattle.shard_disk.specs.declared.damage.Why.{Why}
use Rattle.shard_disk.specs.declared.damage.Why.TheVariants.{Body, Number}
use Rattle.gate_log.specs.Calls.Read.{Reads}
use Rattle.gate_log.specs.Damage.{IsEnd}
use Rattle.gate_log.specs.Following.{Grammar}
use Rattle.gate_log.specs.Following as following
use Rattle.gate_log.specs.Records.{AllFit, Spells}
use Rattle.point_model.specs.declared.entry.Entry.{Entry}
use Rattle.wal_store.specs.Segments.{Segments, SpellsRecord, last_number}

-- an entry with its number
pub record Logged : Type 0 where
  pub number : ℕ
  pub entry : Entry

-- these are the bodies of the records of these entries, in order
abbrev pub AreRecords : List Logged → List (List ℕ) → Type 0
AreRecords [] [] = Unit {0}
AreRecords [] (body ∷ bodies) = ⊥
AreRecords (logged ∷ others) [] = ⊥
AreRecords (logged ∷ others) (body ∷ bodies) = SpellsRecord logged.number logged.entry body × AreRecords others bodies

-- the entries of all segments, in order
abbrev pub joined : List (List Logged) → List Logged
joined segments = flat_map (λ (l : List Logged). l) segments

-- the entries past the floor, with their numbers
abbrev pub past : ℕ → List Logged → List Logged
past floor logged = filter (λ (l : Logged). nat_lt floor l.number) logged

-- they are numbered floor + 1, floor + 2, and so on
abbrev pub AreCounted : ℕ → List Logged → Type 0
AreCounted floor logged = map (λ (l : Logged). l.number) (past floor logged) ≡ range_with_len (floor + 1) (length (past floor logged))

-- the greatest number of an entry, at or below the floor too, and 0 where there is none
abbrev pub newest_of : List Logged → ℕ
newest_of [] = 0
newest_of (logged ∷ others) = max logged.number (newest_of others)

-- the number of the last of these entries, which are counted from the floor on, or the floor where there is none
abbrev pub last_past : ℕ → List Entry → ℕ
last_past floor entries = floor + length entries

-- the entries are counted, and those past the floor are these
pub record Holds (floor : ℕ) (logged : List Logged) (entries : List Entry) : Type 0 where
  pub counted : AreCounted floor logged
  pub past_floor : entries ≡ map (λ (l : Logged). l.entry) (past floor logged)
  pub most : floor + length entries ≤ last_number

-- the file is a log of the records of these entries
abbrev pub IsSegment : List Logged → List ℕ → Type 0
IsSegment logged bytes = (records : List (List ℕ)) × AreRecords logged records × AllFit records × Spells records IsEnd bytes

-- each file is a segment of these entries
abbrev pub HasSegments : Directory → List ℕ → List (List Logged) → Type 0
HasSegments files [] [] = Unit {0}
HasSegments files [] (logged ∷ others) = ⊥
HasSegments files (file ∷ segments) [] = ⊥
HasSegments files (file ∷ segments) (logged ∷ others) = HasFile files file (IsSegment logged) × HasSegments files segments others

-- The segments have these entries, counted over all of them, and those past the floor are the answer. The log is that of the last
-- segment, as reading it gives it. Each segment has the greatest number of its entries, and a crash leaves each file as it reads.
pub record Replays (tells : Type 0) (floor : ℕ) (segments : List ℕ) (wal : Segments) (entries : List Entry) (files : Directory) (crashes crashes' : Crashes) : Type 0 where
  pub before : List ℕ
  pub file : ℕ
  pub parts : segments ≡ before ++ file ∷ []
  pub earlier : List (List Logged)
  pub latest : List Logged
  pub many : length before ≡ length earlier
  pub have : tells → HasSegments files before earlier
  pub records : List (List ℕ)
  pub are : AreRecords latest records
  pub log : Reads tells file wal.log records files crashes crashes'
  pub holds : Holds floor (joined earlier ++ latest) entries
  pub durable : AllByRecursion (IsDurable files crashes') before
  pub wal_is : wal ≡ record { files = segments; newest = map newest_of earlier; newest_here = newest_of latest; log = wal.log; last = last_past floor entries; has_room = false }

-- Behind these entries the body is that of no record, or its number is past the floor and not the next one.
abbrev pub IsStrange : Why → ℕ → List Logged → List ℕ → Type 0
IsStrange Body floor before body = (number : ℕ) (entry : Entry) → SpellsRecord number entry body → ⊥
IsStrange Number floor before body =
    (number : ℕ) × (entry : Entry) × SpellsRecord number entry body × (floor < number) × (number ≢ floor + 1 + length (past floor before))
IsStrange other floor before body = ⊥

-- Behind these entries a body is the record of one, which counts as the next where it is past the floor.
pub record Makes (floor : ℕ) (before : List Logged) (body : List ℕ) (after : List Logged) : Type 0 where
  pub logged : Logged
  pub spells : SpellsRecord logged.number logged.entry body
  pub next : floor < logged.number → logged.number ≡ floor + 1 + length (past floor before)
  pub behind : after ≡ before ++ logged ∷ []

-- how the bodies of segments are read, one behind the other
abbrev pub segment_grammar : ℕ → Grammar (List Logged)
segment_grammar floor = record { makes = Makes floor; strange = λ why before body. IsStrange why floor before body }

-- among the records of a segment behind these entries stands such a one, behind others that aren't so: it is named at its gate
abbrev pub StandsStrange : Damage → ℕ → ℕ → List Logged → List (List ℕ) → Type 0
StandsStrange damage file floor before records = following.StandsBehind (segment_grammar floor) before damage file records

-- what a segment behind these entries is wrong by: its log, or a record
abbrev pub IsWrongSegment : Damage → ℕ → ℕ → List Logged → List ℕ → Type 0
IsWrongSegment damage file floor before bytes = following.IsWrong (segment_grammar floor) before damage file bytes

-- The first segments are sound and their entries counted, and the next one is wrong.
pub record IsWrong (damage : Damage) (floor : ℕ) (files : Directory) (segments : List ℕ) : Type 0 where
  pub sound : List ℕ
  pub wrong_file : ℕ
  pub others : List ℕ
  pub parts : segments ≡ sound ++ wrong_file ∷ others
  pub logged : List (List Logged)
  pub have : HasSegments files sound logged
  pub counted : AreCounted floor (joined logged)
  pub wrong : HasFile files wrong_file (IsWrongSegment damage wrong_file floor (joined logged))
