-- Segments that are read one behind the other.
use Rattle.std.proofs.Common.{◌≡◌, ℕ, zero, suc, ◌+◌, ◌<◌, ◌≤◌, ◌^◌, false, List, [], ◌∷◌, ◌++◌, length, map, get_or, take, drop, refl, sym, ap, subst, ◌∙◌, arith, inl, inr, ⊎_elim}
use Rattle.std.specs.List.{AllByRecursion}
use Rattle.std.specs.FinMap.{get}
use Rattle.std.proofs.Math.Seq.{split_at}
use Rattle.std.proofs.lemmas.List.{append_assoc, append-nil, length-append, map-append, take_more}
use Rattle.std.proofs.lemmas.Grind.{flat_map-append}
use Rattle.fixed_width.specs.Fields.{bytes_of_u64}
use Rattle.fixed_width.proofs.Fronts.{length-u64}
use Rattle.gate_log.specs.Calls.Read.{Reads as ReadsLog}
use Rattle.gate_log.specs.Damage.{TellsOf}
use Rattle.gate_log.specs.Log.{FoundBy}
use Rattle.gate_log.specs.Records.{AllFit, IsGated, Spells}
use Rattle.gate_log.specs.declared.fault.LogFault.TheVariants.{Damaged}
use Rattle.gate_log.specs.declared.log.Gate.{Gate}
use Rattle.gate_log.specs.declared.log.Log.{Log}
use Rattle.gate_log.proofs.FollowingLemmas.{strange_read}
use Rattle.gate_log.proofs.Reading.{reads_since}
use Rattle.gate_log.proofs.Unique.{found_log, gated_log}
use Rattle.point_model.specs.declared.entry.Entry.{Entry}
use Rattle.shard_disk.specs.Crash.{Crashes, IsDurable, Leaves, Same}
use Rattle.shard_disk.specs.Directory.{Directory, HasFile}
use Rattle.shard_disk.specs.declared.damage.Damage.{Damage}
use Rattle.shard_disk.proofs.Everywhere.{file_weaker}
use Rattle.shard_disk.proofs.Runs.{joins}
use Rattle.wal_store.specs.Segments.{Segments, SpellsRecord, last_number, one_segment, with_segment}
use Rattle.wal_store.specs.Replay.{AreCounted, AreRecords, HasSegments, IsSegment, IsWrong, IsWrongSegment, Logged, Replays, StandsStrange, joined, last_past, newest_of, past, segment_grammar}
use Rattle.wal_store.specs.Reading.{AreRead, HasRead, Reads, Replaying, TakesAll, entries_past}
use Rattle.wal_store.proofs.ListLemmas.{all_push}
use Rattle.wal_store.proofs.ReplayLemmas.{counted_front, length_map}

-- runs that add nothing, one after the other
pub same_then : (old mid new : Crashes) → Leaves Same old mid → Leaves Same mid new → Leaves Same old new
same_then old mid new first second = joins Same Same Same old mid new (λ d c same. same) (λ d c e one two. two ∙ one) first second

-- ---- files behind the first

all_at : (P : ℕ → Type 0) (segments : List ℕ) (k d : ℕ) → k < length segments → AllByRecursion P segments → P (get_or segments k d)
all_at P [] k d within all = absurd (omega (arith, within))
all_at P (x ∷ xs) zero d within all = all.0
all_at P (x ∷ xs) (suc k) d within all = all_at P xs k d (omega (arith, within)) all.1

pub so_behind : (P : ℕ → Type 0) (first : ℕ) (segments others : List ℕ) (k d : ℕ) → segments ≡ first ∷ others → k < length others → AllByRecursion P segments → P (get_or others k d)
so_behind P first segments others k d parts within all = all_at P others k d within (subst (AllByRecursion P) parts all).1

pub cut_behind : (first : ℕ) (segments others : List ℕ) (k d : ℕ) → segments ≡ first ∷ others → k < length others → (first ∷ take k others) ++ get_or others k d ∷ drop (suc k) others ≡ segments
cut_behind first segments others k d parts within = sym (parts ∙ ap (λ (l : List ℕ). first ∷ l) (split_at others k d within))

pub more_behind : (first : ℕ) (others : List ℕ) (k d : ℕ) → k < length others → (first ∷ take k others) ++ get_or others k d ∷ [] ≡ first ∷ take (k + 1) others
more_behind first others k d within = sym (ap (λ (l : List ℕ). first ∷ l) (take_more others k d within))

-- ---- one segment

-- a record has room in a log
record_fits : (number : ℕ) (entry : Entry) (body : List ℕ) → SpellsRecord number entry body → length body < 2 ^ 32
record_fits number entry body spells = omega (arith, ap length spells.whole, length-append (bytes_of_u64 number) spells.body, length-u64 number, spells.spells.short)

pub records_fit : (logged : List Logged) (records : List (List ℕ)) → AreRecords logged records → AllFit records
records_fit [] [] are = tt
records_fit [] (body ∷ records) are = absurd are
records_fit (l ∷ logged) [] are = absurd are
records_fit (l ∷ logged) (body ∷ records) are = (record_fits l.number l.entry body are.0, records_fit logged records are.1)

-- records behind open gates, and a closed one, are a segment
pub is_segment : (logged : List Logged) (records : List (List ℕ)) (bytes : List ℕ) → AreRecords logged records → IsGated records bytes → IsSegment logged bytes
is_segment logged records bytes are gated = let log = gated_log records bytes (records_fit logged records are) gated in (records, are, log.0, log.1)

-- so is what was read
found_segment : (file : ℕ) (gate : Gate) (logged : List Logged) (records : List (List ℕ)) (files : Directory) → AreRecords logged records → AllFit records → HasFile files file (Spells records (FoundBy gate)) → HasFile files file (IsSegment logged)
found_segment file gate logged records files are fit found =
    file_weaker file (Spells records (FoundBy gate)) (IsSegment logged) (λ bytes here. (records, are, fit, (found_log gate records bytes fit here).1)) files found

strange_segment : (damage : Damage) (file floor : ℕ) (before : List Logged) (gate : Gate) (records : List (List ℕ)) (files : Directory) → AllFit records → HasFile files file (Spells records (FoundBy gate)) → StandsStrange damage file floor before records
    → HasFile files file (IsWrongSegment damage file floor before)
strange_segment damage file floor before gate records files fit found strange =
    strange_read (segment_grammar floor) before damage file gate records files fit strange found

damaged_segment : (damage : Damage) (file floor : ℕ) (before : List Logged) (files : Directory) → HasFile files file (TellsOf (Damaged damage) file) → HasFile files file (IsWrongSegment damage file floor before)
damaged_segment damage file floor before files bad =
    file_weaker file (TellsOf (Damaged damage) file) (IsWrongSegment damage file floor before) (λ bytes here. inl here) files bad

-- ---- a segment more

durable_on : (files files' : Directory) (old new : Crashes) → files' ≡ files → Leaves Same old new → (number : ℕ) → IsDurable files old number → IsDurable files' new number
durable_on files files' old new same run number durable = λ c now.
    let from = run.now c now in
    ⊎_elim
    (λ gone. inl (ap (λ (d : Directory). get d number) from.2 ∙ gone))
    (λ is. inr (ap (λ (d : Directory). get d number) from.2 ∙ is ∙ ap (λ (d : Directory). get d number) (sym same)))
    (durable from.0 from.1)

all_on : (P Q : ℕ → Type 0) → ((n : ℕ) → P n → Q n) → (numbers : List ℕ) → AllByRecursion P numbers → AllByRecursion Q numbers
all_on P Q leads [] all = tt
all_on P Q leads (n ∷ numbers) all = (leads n all.0, all_on P Q leads numbers all.1)

all_durable_on : (files files' : Directory) (old new : Crashes) → files' ≡ files → Leaves Same old new → (numbers : List ℕ) → AllByRecursion (IsDurable files old) numbers → AllByRecursion (IsDurable files' new) numbers
all_durable_on files files' old new same run numbers all = all_on (IsDurable files old) (IsDurable files' new) (durable_on files files' old new same run) numbers all

pub has_more : (files : Directory) (segments : List ℕ) (logged : List (List Logged)) (file : ℕ) (more : List Logged) → HasSegments files segments logged → HasFile files file (IsSegment more) → HasSegments files (segments ++ file ∷ []) (logged ++ more ∷ [])
has_more files [] [] file more have is = (is, tt)
has_more files [] (l ∷ logged) file more have is = absurd have
has_more files (s ∷ segments) [] file more have is = absurd have
has_more files (s ∷ segments) (l ∷ logged) file more have is = (have.0, has_more files segments logged file more have.1 is)

pub joined_more : (logged : List (List Logged)) (more : List Logged) → joined (logged ++ more ∷ []) ≡ joined logged ++ more
joined_more logged more = flat_map-append (λ (l : List Logged). l) logged (more ∷ []) ∙ ap (λ (l : List Logged). joined logged ++ l) (append-nil more)

-- ---- reading them

-- the first is open, and nothing of it is read
pub first_open : (tells : Type 0) (floor file : ℕ) (replay : Replaying) (files : Directory) (crashes crashes' : Crashes) → floor ≤ last_number
    → replay ≡ record { floor = floor; wal = one_segment replay.wal.log floor; left = replay.left; gate = 0 } → ReadsLog tells file replay.wal.log replay.left files crashes crashes'
    → AreRead tells replay [] [] files crashes crashes'
first_open tells floor file replay files crashes crashes' most is log = record {
  before = [];
  file = file;
  parts = ap (λ (r : Replaying). r.wal.files) is ∙ ap (λ (n : ℕ). n ∷ []) log.file;
  many = refl;
  have = λ told. tt;
  newest = ap (λ (r : Replaying). r.wal.newest) is;
  durable = tt;
  records = [];
  log = log;
  has = record {
    are = tt;
    counted = refl;
    last = ap (λ (r : Replaying). r.wal.last) is ∙ (let same : floor ≡ floor + 0 = omega arith in same) ∙ ap (λ (r : Replaying). r.floor + 0) (sym is);
    most = omega (arith, most, ap (λ (r : Replaying). r.wal.last) is);
    newest = ap (λ (r : Replaying). r.wal.newest_here) is;
    gate = ap (λ (r : Replaying). r.gate) is;
  };
  room = ap (λ (r : Replaying). r.wal.has_room) is;
}

-- More records of the open one are read, with these entries past the floor.
pub record ReadOn (tells : Type 0) (old new : Replaying) (earlier : List (List Logged)) (here : List Logged) (entries : List Entry) (files : Directory) (crashes crashes' : Crashes) : Type 0 where
  pub more : List Logged
  pub are : AreRead tells new earlier (here ++ more) files crashes crashes'
  pub past_floor : entries_past new.floor (joined earlier ++ (here ++ more)) ≡ entries_past old.floor (joined earlier ++ here) ++ entries

pub read_on : (tells : Type 0) (old new : Replaying) (earlier : List (List Logged)) (here : List Logged) (read : List (List ℕ)) (entries : List Entry) (files : Directory) (crashes crashes' : Crashes) → Reads old new read entries
    → AreRead tells old earlier here files crashes crashes' → ReadOn tells old new earlier here entries files crashes crashes'
read_on tells old new earlier here read entries files crashes crashes' reads are =
    let on = reads.on (joined earlier) here are.records are.has in
    let log = ap (λ (w : Segments). w.log) reads.same in
    let all : are.records ++ old.left ≡ (are.records ++ read) ++ new.left = ap (λ (l : List (List ℕ)). are.records ++ l) reads.parts ∙ sym (append_assoc are.records read new.left) in
    record {
      more = on.more;
      are = record {
        before = are.before;
        file = are.file;
        parts = ap (λ (w : Segments). w.files) reads.same ∙ are.parts;
        many = are.many;
        have = are.have;
        newest = ap (λ (w : Segments). w.newest) reads.same ∙ are.newest;
        durable = are.durable;
        records = are.records ++ read;
        log = subst (λ (l : Log). ReadsLog tells are.file l ((are.records ++ read) ++ new.left) files crashes crashes') (sym log)
            (subst (λ (r : List (List ℕ)). ReadsLog tells are.file old.wal.log r files crashes crashes') all are.log);
        has = on.has;
        room = ap (λ (w : Segments). w.has_room) reads.same ∙ are.room;
      };
      past_floor = on.past_floor;
    }

-- the open one is read to its end: its records are those of these entries
end_records : (tells : Type 0) (replay : Replaying) (earlier : List (List Logged)) (here : List Logged) (files : Directory) (crashes crashes' : Crashes) → replay.left ≡ [] → (are : AreRead tells replay earlier here files crashes crashes')
    → ReadsLog tells are.file replay.wal.log are.records files crashes crashes'
end_records tells replay earlier here files crashes crashes' none are =
    subst (λ (r : List (List ℕ)). ReadsLog tells are.file replay.wal.log r files crashes crashes') (ap (λ (l : List (List ℕ)). are.records ++ l) none ∙ append-nil are.records) are.log

end_segment : (tells : Type 0) (replay : Replaying) (earlier : List (List Logged)) (here : List Logged) (files : Directory) (crashes crashes' : Crashes) → replay.left ≡ [] → (are : AreRead tells replay earlier here files crashes crashes')
    → tells → HasFile files are.file (IsSegment here)
end_segment tells replay earlier here files crashes crashes' none are told =
    let log = end_records tells replay earlier here files crashes crashes' none are in
    found_segment are.file replay.wal.log.gate here are.records files are.has.are log.fit (log.found told)

behind_joined : (earlier : List (List Logged)) (here : List Logged) → joined (earlier ++ here ∷ []) ++ [] ≡ joined earlier ++ here
behind_joined earlier here = append-nil (joined (earlier ++ here ∷ [])) ∙ joined_more earlier here

-- the next one is open
pub next_open : (tells : Type 0) (file : ℕ) (old new : Replaying) (earlier : List (List Logged)) (here : List Logged) (files files' : Directory) (crashes mid crashes' : Crashes) → old.left ≡ [] → files' ≡ files → Leaves Same crashes mid → Leaves Same mid crashes'
    → new ≡ record { floor = old.floor; wal = with_segment old.wal new.wal.log; left = new.left; gate = 0 } → ReadsLog tells file new.wal.log new.left files' mid crashes'
    → AreRead tells old earlier here files crashes mid → AreRead tells new (earlier ++ here ∷ []) [] files' crashes crashes'
next_open tells file old new earlier here files files' crashes mid crashes' none same first second is log are = record {
  before = old.wal.files;
  file = file;
  parts = ap (λ (r : Replaying). r.wal.files) is ∙ ap (λ (n : ℕ). old.wal.files ++ n ∷ []) log.file;
  many = ap length are.parts ∙ length-append are.before (are.file ∷ []) ∙ ap (λ (n : ℕ). n + 1) are.many ∙ sym (length-append earlier (here ∷ []));
  have = λ told.
      subst (λ (f : Directory). HasSegments f old.wal.files (earlier ++ here ∷ [])) (sym same)
      (subst (λ (segments : List ℕ). HasSegments files segments (earlier ++ here ∷ [])) (sym are.parts)
      (has_more files are.before earlier are.file here (are.have told) (end_segment tells old earlier here files crashes mid none are told)));
  newest = ap (λ (r : Replaying). r.wal.newest) is ∙ (λ i. are.newest i ++ are.has.newest i ∷ []) ∙ sym (map-append newest_of earlier (here ∷ []));
  durable = subst (AllByRecursion (IsDurable files' crashes')) (sym are.parts)
      (all_push ℕ (IsDurable files' crashes') are.before are.file (all_durable_on files files' mid crashes' same second are.before are.durable) (durable_on files files' mid crashes' same second are.file are.log.durable));
  records = [];
  log = reads_since tells file new.wal.log new.left files' crashes mid crashes' first log;
  has =
      let floor = ap (λ (r : Replaying). r.floor) is in
      let last = ap (λ (r : Replaying). r.wal.last) is in
      let behind = behind_joined earlier here in
      record {
        are = tt;
        counted = subst (λ (f : ℕ). AreCounted f (joined (earlier ++ here ∷ []) ++ [])) (sym floor) (subst (AreCounted old.floor) (sym behind) are.has.counted);
        last = last ∙ are.has.last ∙ (λ i. sym floor i + length (past (sym floor i) (sym behind i)));
        most = omega (arith, last, are.has.most);
        newest = ap (λ (r : Replaying). r.wal.newest_here) is;
        gate = ap (λ (r : Replaying). r.gate) is;
      };
  room = ap (λ (r : Replaying). r.wal.has_room) is;
}

-- and no entry was added by that
pub next_entries : (old new : Replaying) (earlier : List (List Logged)) (here : List Logged) → new.floor ≡ old.floor → entries_past new.floor (joined (earlier ++ here ∷ []) ++ []) ≡ entries_past old.floor (joined earlier ++ here)
next_entries old new earlier here floor = λ i. entries_past (floor i) (behind_joined earlier here i)

same_wal : (tells : Type 0) (replay : Replaying) (earlier : List (List Logged)) (here : List Logged) (files : Directory) (crashes crashes' : Crashes) (are : AreRead tells replay earlier here files crashes crashes') → (last : ℕ) → replay.wal.last ≡ last
    → replay.wal ≡ record { files = replay.wal.files; newest = map newest_of earlier; newest_here = newest_of here; log = replay.wal.log; last = last; has_room = false }
same_wal tells replay earlier here files crashes crashes' are last is =
    λ i. record { files = replay.wal.files; newest = are.newest i; newest_here = are.has.newest i; log = replay.wal.log; last = is i; has_room = are.room i }

-- all of them are read to their ends
pub whole : (tells : Type 0) (replay : Replaying) (earlier : List (List Logged)) (here : List Logged) (files : Directory) (crashes crashes' : Crashes) → replay.left ≡ [] → AreRead tells replay earlier here files crashes crashes'
    → Replays tells replay.floor replay.wal.files replay.wal (entries_past replay.floor (joined earlier ++ here)) files crashes crashes'
whole tells replay earlier here files crashes crashes' none are =
    let many : length (entries_past replay.floor (joined earlier ++ here)) ≡ length (past replay.floor (joined earlier ++ here)) = length_map (λ (l : Logged). l.entry) (past replay.floor (joined earlier ++ here)) in
    let last : replay.wal.last ≡ last_past replay.floor (entries_past replay.floor (joined earlier ++ here)) = are.has.last ∙ ap (λ (n : ℕ). replay.floor + n) (sym many) in
    record {
      before = are.before;
      file = are.file;
      parts = are.parts;
      earlier = earlier;
      latest = here;
      many = are.many;
      have = are.have;
      records = are.records;
      are = are.has.are;
      log = end_records tells replay earlier here files crashes crashes' none are;
      holds = record { counted = are.has.counted; past_floor = refl; most = omega (arith, last, are.has.most) };
      durable = are.durable;
      wal_is = same_wal tells replay earlier here files crashes crashes' are (last_past replay.floor (entries_past replay.floor (joined earlier ++ here))) last;
    }

-- ---- what is wrong

-- the log of the first of these files
pub wrong_first : (damage : Damage) (floor file : ℕ) (others : List ℕ) (files : Directory) → HasFile files file (TellsOf (Damaged damage) file) → IsWrong damage floor files (file ∷ others)
wrong_first damage floor file others files bad = record {
  sound = [];
  wrong_file = file;
  others = others;
  parts = refl;
  logged = [];
  have = tt;
  counted = refl;
  wrong = damaged_segment damage file floor [] files bad;
}

-- a record of the open one
pub wrong_here : (tells : Type 0) (told : tells) (damage : Damage) (replay : Replaying) (earlier : List (List Logged)) (here : List Logged) (files : Directory) (crashes crashes' : Crashes) (others : List ℕ)
    → ((before logged : List Logged) (records : List (List ℕ)) → HasRead replay before logged records → StandsStrange damage replay.wal.log.file replay.floor before (records ++ replay.left))
    → AreRead tells replay earlier here files crashes crashes' → IsWrong damage replay.floor files (replay.wal.files ++ others)
wrong_here tells told damage replay earlier here files crashes crashes' others strange are = record {
  sound = are.before;
  wrong_file = are.file;
  others = others;
  parts = ap (λ (l : List ℕ). l ++ others) are.parts ∙ append_assoc are.before (are.file ∷ []) others;
  logged = earlier;
  have = are.have told;
  counted = counted_front replay.floor (joined earlier) here are.has.counted;
  wrong = strange_segment damage are.file replay.floor (joined earlier) replay.wal.log.gate (are.records ++ replay.left) files are.log.fit (are.log.found told)
      (subst (λ (n : ℕ). StandsStrange damage n replay.floor (joined earlier) (are.records ++ replay.left)) are.log.file (strange (joined earlier) here are.records are.has));
}

-- the log of the next one
pub wrong_next : (tells : Type 0) (told : tells) (damage : Damage) (file : ℕ) (replay : Replaying) (earlier : List (List Logged)) (here : List Logged) (files : Directory) (crashes crashes' : Crashes) (others : List ℕ) → replay.left ≡ []
    → HasFile files file (TellsOf (Damaged damage) file) → AreRead tells replay earlier here files crashes crashes' → IsWrong damage replay.floor files (replay.wal.files ++ file ∷ others)
wrong_next tells told damage file replay earlier here files crashes crashes' others none bad are = record {
  sound = replay.wal.files;
  wrong_file = file;
  others = others;
  parts = refl;
  logged = earlier ++ here ∷ [];
  have = subst (λ (segments : List ℕ). HasSegments files segments (earlier ++ here ∷ [])) (sym are.parts)
      (has_more files are.before earlier are.file here (are.have told) (end_segment tells replay earlier here files crashes crashes' none are told));
  counted = subst (AreCounted replay.floor) (sym (joined_more earlier here)) are.has.counted;
  wrong = damaged_segment damage file replay.floor (joined (earlier ++ here ∷ [])) files bad;
}

-- ---- each to its end

-- these segments are read to their ends, and these are the entries past the floor
pub record AreWhole (tells : Type 0) (floor : ℕ) (segments : List ℕ) (replay : Replaying) (entries : List Entry) (files : Directory) (crashes crashes' : Crashes) : Type 0 where
  pub earlier : List (List Logged)
  pub here : List Logged
  pub are : AreRead tells replay earlier here files crashes crashes'
  pub none : replay.left ≡ []
  pub past_floor : entries ≡ entries_past floor (joined earlier ++ here)
  pub from : replay.floor ≡ floor
  pub own : replay.wal.files ≡ segments

-- the open segment is read to its end
end_of : (tells : Type 0) (floor : ℕ) (segments : List ℕ) (open_ closed : Replaying) (earlier : List (List Logged)) (entries entries' : List Entry) (files : Directory) (crashes crashes' : Crashes) → AreRead tells open_ earlier [] files crashes crashes'
    → entries ≡ entries_past open_.floor (joined earlier ++ []) → open_.floor ≡ floor → open_.wal.files ≡ segments → TakesAll open_ closed entries entries' → AreWhole tells floor segments closed entries' files crashes crashes'
end_of tells floor segments open_ closed earlier entries entries' files crashes crashes' are so_far from own all =
    let on = read_on tells open_ closed earlier [] open_.left all.given files crashes crashes' all.reads are in
    let same = all.reads.floor ∙ from in
    record {
      earlier = earlier;
      here = on.more;
      are = on.are;
      none = all.none;
      past_floor = all.behind ∙ ap (λ (es : List Entry). es ++ all.given) so_far ∙ sym on.past_floor ∙ ap (λ (f : ℕ). entries_past f (joined earlier ++ on.more)) same;
      from = same;
      own = ap (λ (w : Segments). w.files) all.reads.same ∙ own;
    }

pub first_whole : (tells : Type 0) (floor file : ℕ) (open_ closed : Replaying) (entries entries' : List Entry) (files : Directory) (crashes crashes' : Crashes) → floor ≤ last_number → entries ≡ []
    → open_ ≡ record { floor = floor; wal = one_segment open_.wal.log floor; left = open_.left; gate = 0 } → ReadsLog tells file open_.wal.log open_.left files crashes crashes' → TakesAll open_ closed entries entries'
    → AreWhole tells floor (file ∷ []) closed entries' files crashes crashes'
first_whole tells floor file open_ closed entries entries' files crashes crashes' most none is log all =
    end_of tells floor (file ∷ []) open_ closed [] entries entries' files crashes crashes' (first_open tells floor file open_ files crashes crashes' most is log) none
    (ap (λ (r : Replaying). r.floor) is) (ap (λ (r : Replaying). r.wal.files) is ∙ ap (λ (n : ℕ). n ∷ []) log.file) all

pub more_whole : (tells : Type 0) (floor file : ℕ) (segments : List ℕ) (old open_ closed : Replaying) (entries entries' : List Entry) (files files' : Directory) (crashes mid crashes' : Crashes) → files' ≡ files → Leaves Same crashes mid → Leaves Same mid crashes'
    → open_ ≡ record { floor = old.floor; wal = with_segment old.wal open_.wal.log; left = open_.left; gate = 0 } → ReadsLog tells file open_.wal.log open_.left files' mid crashes' → TakesAll open_ closed entries entries'
    → AreWhole tells floor segments old entries files crashes mid → AreWhole tells floor (segments ++ file ∷ []) closed entries' files' crashes crashes'
more_whole tells floor file segments old open_ closed entries entries' files files' crashes mid crashes' same first second is log all old_whole =
    let from = ap (λ (r : Replaying). r.floor) is in
    end_of tells floor (segments ++ file ∷ []) open_ closed (old_whole.earlier ++ old_whole.here ∷ []) entries entries' files' crashes crashes'
    (next_open tells file old open_ old_whole.earlier old_whole.here files files' crashes mid crashes' old_whole.none same first second is log old_whole.are)
    (old_whole.past_floor ∙ ap (λ (f : ℕ). entries_past f (joined old_whole.earlier ++ old_whole.here)) (sym old_whole.from) ∙ sym (next_entries old open_ old_whole.earlier old_whole.here from))
    (from ∙ old_whole.from) (ap (λ (r : Replaying). r.wal.files) is ∙ (λ i. old_whole.own i ++ log.file i ∷ [])) all

pub whole_replays : (tells : Type 0) (floor : ℕ) (segments : List ℕ) (replay : Replaying) (entries : List Entry) (files : Directory) (crashes crashes' : Crashes) → AreWhole tells floor segments replay entries files crashes crashes'
    → Replays tells floor segments replay.wal entries files crashes crashes'
whole_replays tells floor segments replay entries files crashes crashes' all =
    subst (λ (es : List Entry). Replays tells floor segments replay.wal es files crashes crashes') (sym all.past_floor)
    (subst (λ (s : List ℕ). Replays tells floor s replay.wal (entries_past floor (joined all.earlier ++ all.here)) files crashes crashes') all.own
    (subst (λ (f : ℕ). Replays tells f replay.wal.files replay.wal (entries_past f (joined all.earlier ++ all.here)) files crashes crashes') all.from
    (whole tells replay all.earlier all.here files crashes crashes' all.none all.are)))

-- the log of the next one is wrong, or a record of it
pub wrong_log : (tells : Type 0) (told : tells) (damage : Damage) (floor file : ℕ) (segments others : List ℕ) (replay : Replaying) (entries : List Entry) (files : Directory) (crashes crashes' : Crashes) → HasFile files file (TellsOf (Damaged damage) file)
    → AreWhole tells floor segments replay entries files crashes crashes' → IsWrong damage floor files (segments ++ file ∷ others)
wrong_log tells told damage floor file segments others replay entries files crashes crashes' bad all =
    subst (λ (s : List ℕ). IsWrong damage floor files (s ++ file ∷ others)) all.own
    (subst (λ (f : ℕ). IsWrong damage f files (replay.wal.files ++ file ∷ others)) all.from (wrong_next tells told damage file replay all.earlier all.here files crashes crashes' others all.none bad all.are))

wrong_record : (tells : Type 0) (told : tells) (damage : Damage) (floor : ℕ) (segments others : List ℕ) (open_ : Replaying) (earlier : List (List Logged)) (files : Directory) (crashes crashes' : Crashes) → open_.floor ≡ floor → open_.wal.files ≡ segments
    → ((before here : List Logged) (records : List (List ℕ)) → HasRead open_ before here records → StandsStrange damage open_.wal.log.file open_.floor before (records ++ open_.left))
    → AreRead tells open_ earlier [] files crashes crashes' → IsWrong damage floor files (segments ++ others)
wrong_record tells told damage floor segments others open_ earlier files crashes crashes' from own strange are =
    subst (λ (s : List ℕ). IsWrong damage floor files (s ++ others)) own
    (subst (λ (f : ℕ). IsWrong damage f files (open_.wal.files ++ others)) from (wrong_here tells told damage open_ earlier [] files crashes crashes' others strange are))

pub wrong_in_first : (tells : Type 0) (told : tells) (damage : Damage) (floor file : ℕ) (others : List ℕ) (open_ : Replaying) (files : Directory) (crashes crashes' : Crashes) → floor ≤ last_number
    → open_ ≡ record { floor = floor; wal = one_segment open_.wal.log floor; left = open_.left; gate = 0 } → ReadsLog tells file open_.wal.log open_.left files crashes crashes'
    → ((before here : List Logged) (records : List (List ℕ)) → HasRead open_ before here records → StandsStrange damage open_.wal.log.file open_.floor before (records ++ open_.left)) → IsWrong damage floor files (file ∷ others)
wrong_in_first tells told damage floor file others open_ files crashes crashes' most is log strange =
    wrong_record tells told damage floor (file ∷ []) others open_ [] files crashes crashes' (ap (λ (r : Replaying). r.floor) is) (ap (λ (r : Replaying). r.wal.files) is ∙ ap (λ (n : ℕ). n ∷ []) log.file) strange
    (first_open tells floor file open_ files crashes crashes' most is log)

pub wrong_in_next : (tells : Type 0) (told : tells) (damage : Damage) (floor file : ℕ) (segments others : List ℕ) (old open_ : Replaying) (entries : List Entry) (files files' : Directory) (crashes mid crashes' : Crashes) → files' ≡ files → Leaves Same crashes mid → Leaves Same mid crashes'
    → open_ ≡ record { floor = old.floor; wal = with_segment old.wal open_.wal.log; left = open_.left; gate = 0 } → ReadsLog tells file open_.wal.log open_.left files' mid crashes'
    → ((before here : List Logged) (records : List (List ℕ)) → HasRead open_ before here records → StandsStrange damage open_.wal.log.file open_.floor before (records ++ open_.left)) → AreWhole tells floor segments old entries files crashes mid
    → IsWrong damage floor files' (segments ++ file ∷ others)
wrong_in_next tells told damage floor file segments others old open_ entries files files' crashes mid crashes' same first second is log strange all =
    subst (IsWrong damage floor files') (append_assoc segments (file ∷ []) others)
    (wrong_record tells told damage floor (segments ++ file ∷ []) others open_ (all.earlier ++ all.here ∷ []) files' crashes crashes' (ap (λ (r : Replaying). r.floor) is ∙ all.from)
    (ap (λ (r : Replaying). r.wal.files) is ∙ (λ i. all.own i ++ log.file i ∷ [])) strange
    (next_open tells file old open_ all.earlier all.here files files' crashes mid crashes' all.none same first second is log all.are))
