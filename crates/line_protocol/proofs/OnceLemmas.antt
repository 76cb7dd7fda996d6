-- Each line, each list of lines and each text has one reading.
use Rattle.std.proofs.Common.{◌≡◌, ℕ, ◌+◌, Bool, true, false, ◌⊎◌, inl, inr, Option, Some, None, Result, Ok, Err, List, [], ◌∷◌, ℤ, refl, sym, ap, subst, ◌∙◌}
use Rattle.std.specs.Bool.{MatchBool}
use Rattle.std.specs.Option.{MatchOption}
use Rattle.tsdb_types.specs.declared.point.Point.{Point}
use Rattle.line_protocol.specs.declared.fault.LineCode.{LineCode}
use Rattle.line_protocol.specs.declared.fault.LineCode.TheVariants.{NoPoints, BatchTooLong}
use Rattle.line_protocol.specs.declared.fault.LineFault.{LineFault}
use Rattle.line_protocol.specs.declared.fault.LineFault.TheVariants.{Line, Memory}
use Rattle.line_protocol.specs.Batches.{At, Points, IsTooLong, FaultGives, lines_of, points_before, Follows, LinesAre, TextIs, BatchIs, Lines, IsFault}
use Rattle.line_protocol.specs.Heads.{head_code, measurement_of, tags_of, has_time_tag}
use Rattle.line_protocol.specs.Kinds.{Seen, nothing_seen}
use Rattle.line_protocol.specs.Lines.{Read, rest_of, head_of, fields_text, time_text, is_skipped, FieldsAre, TagsAre, LineIs, AnyLineIs}
use Rattle.line_protocol.specs.Once.{OneBatch, OneFault, NeverBoth}
use Rattle.line_protocol.specs.Parts.{trimmed}
use Rattle.line_protocol.proofs.BatchLemmas.{same}
use Rattle.line_protocol.proofs.OrderLemmas.{one_key}

abbrev Reading : Type 0
Reading = Result Read LineCode

fields_once : (seen : Seen) (moment : ℤ) (line : List ℕ) (read other : Reading) → FieldsAre seen moment line read → FieldsAre seen moment line other → read ≡ other
fields_once seen moment line read other (inl none) (inl none') = none.1 ∙ sym none'.1
fields_once seen moment line read other (inl none) (inr some) = absurd (some.0 none.0)
fields_once seen moment line read other (inr some) (inl none) = absurd (some.0 none.0)
fields_once seen moment line read other (inr some) (inr some') =
    let head = head_of line in
    let key = one_key (measurement_of head) (tags_of head) some.1 some'.1 some.2 some'.2 in
    some.3 ∙ ap (λ (k : List ℕ). rest_of seen moment (measurement_of head) (has_time_tag (tags_of head)) k (fields_text line) (time_text line)) key ∙ sym some'.3

tags_once : (seen : Seen) (moment : ℤ) (line : List ℕ) (read other : Reading) → TagsAre seen moment line read → TagsAre seen moment line other → read ≡ other
tags_once seen moment line read other (inl twice) (inl twice') = twice.1 ∙ sym twice'.1
tags_once seen moment line read other (inl twice) (inr differ) = absurd (twice.0 differ.0)
tags_once seen moment line read other (inr differ) (inl twice) = absurd (twice.0 differ.0)
tags_once seen moment line read other (inr differ) (inr differ') = fields_once seen moment line read other differ.1 differ'.1

head_once : (code : Option LineCode) (seen : Seen) (moment : ℤ) (line : List ℕ) (read other : Reading)
    → MatchOption code (TagsAre seen moment line read) (λ c. read ≡ Err c) → MatchOption code (TagsAre seen moment line other) (λ c. other ≡ Err c) → read ≡ other
head_once None seen moment line read other is that = tags_once seen moment line read other is that
head_once (Some code) seen moment line read other is that = is ∙ sym that

line_once : (seen : Seen) (moment : ℤ) (line : List ℕ) (read other : Reading) → LineIs seen moment line read → LineIs seen moment line other → read ≡ other
line_once seen moment line read other is that = head_once (head_code (head_of line)) seen moment line read other is that

skipped_once : (skipped : Bool) (seen : Seen) (moment : ℤ) (line : List ℕ) (read other : Reading)
    → MatchBool skipped (read ≡ Ok (record { points = []; seen = seen })) (LineIs seen moment line read)
    → MatchBool skipped (other ≡ Ok (record { points = []; seen = seen })) (LineIs seen moment line other)
    → read ≡ other
skipped_once true seen moment line read other is that = is ∙ sym that
skipped_once false seen moment line read other is that = line_once seen moment line read other is that

-- a line has one reading
pub any_line_once : (seen : Seen) (moment : ℤ) (line : List ℕ) (read other : Reading) → AnyLineIs seen moment line read → AnyLineIs seen moment line other → read ≡ other
any_line_once seen moment line read other is that = skipped_once (is_skipped line) seen moment line read other is that

follows_once : (number : ℕ) (read : Reading) (Others : Seen → Points → Type 0) (result other : Points)
    → ((seen : Seen) (left right : Points) → Others seen left → Others seen right → left ≡ right)
    → Follows number read Others result → Follows number read Others other → result ≡ other
follows_once number (Ok first) Others result other once is that =
    is.2 ∙ ap (λ (others : Points). points_before first.points others) (once first.seen is.0 that.0 is.1 that.1) ∙ sym that.2
follows_once number (Err code) Others result other once is that = is ∙ sym that

-- lines have one reading
pub lines_once : (moment : ℤ) (lines : List (List ℕ)) (number : ℕ) (seen : Seen) (result other : Points) → LinesAre moment lines number seen result → LinesAre moment lines number seen other → result ≡ other
lines_once moment [] number seen result other is that = is ∙ sym that
lines_once moment (line ∷ lines) number seen result other is that =
    let same = any_line_once seen moment (trimmed line) is.0 that.0 is.1 that.1 in
    let Others : Seen → Points → Type 0 = λ s r. LinesAre moment lines (number + 1) s r in
    follows_once number that.0 Others result other (λ s left right l r. lines_once moment lines (number + 1) s left right l r)
    (subst (λ (read : Reading). Follows number read Others result) same is.2) that.2

-- a text has one reading
pub text_once : (text : List ℕ) (moment : ℤ) (result other : Points) → TextIs text moment result → TextIs text moment other → result ≡ other
text_once text moment result other is that = lines_once moment (lines_of text) 1 nothing_seen result other is that

abbrev read_to : List Point → Points
read_to points = Ok points

abbrev refused_at : At → Points
refused_at at = Err at

ok-same : (points others : List Point) → read_to points ≡ read_to others → points ≡ others
ok-same points others e = cc

err-same : (at other : At) → refused_at at ≡ refused_at other → at ≡ other
err-same at other e = cc

ok-err : (points : List Point) (at : At) → read_to points ≡ refused_at at → ⊥
ok-err points at e = cc

-- a text is one batch at most
pub batch_once : OneBatch
batch_once text moment points others is that = ok-same points others (text_once text moment (Ok points) (Ok others) is.read that.read)

-- a text has one fault at most
pub fault_once : OneFault
fault_once text moment at other (inl long) (inl long') = long.1 ∙ sym long'.1
fault_once text moment at other (inl long) (inr (inl first)) = absurd (first.0 long.0)
fault_once text moment at other (inl long) (inr (inr none)) = absurd (none.0 long.0)
fault_once text moment at other (inr (inl first)) (inl long) = absurd (first.0 long.0)
fault_once text moment at other (inr (inl first)) (inr (inl first')) = err-same at other (text_once text moment (Err at) (Err other) first.1 first'.1)
fault_once text moment at other (inr (inl first)) (inr (inr none)) = absurd (ok-err [] at (text_once text moment (Ok []) (Err at) none.1 first.1))
fault_once text moment at other (inr (inr none)) (inl long) = absurd (none.0 long.0)
fault_once text moment at other (inr (inr none)) (inr (inl first)) = absurd (ok-err [] other (text_once text moment (Ok []) (Err other) none.1 first.1))
fault_once text moment at other (inr (inr none)) (inr (inr none')) = none.2 ∙ sym none'.2

-- no text is a batch and has a fault
pub never_both : NeverBoth
never_both text moment points at is (inl long) = is.fits long.0
never_both text moment points at is (inr (inl first)) = ok-err points at (text_once text moment (Ok points) (Err at) is.read first.1)
never_both text moment points at is (inr (inr none)) = is.some (ok-same points [] (text_once text moment (Ok points) (Ok []) is.read none.1))

abbrev Answer : Type 0
Answer = Result (List Point) LineFault

abbrev told : LineCode → ℕ → Answer
told code line = Err (Line code line)

-- the fault that was told is the one that there is
pub told-only : (text : List ℕ) (moment : ℤ) (code : LineCode) (line : ℕ) → IsFault text moment (same code line)
    → (other : LineCode) (number : ℕ) → IsFault text moment (same other number) → told code line ≡ told other number
told-only text moment code line is other number that =
    ap (λ (at : At). told at.code at.line) (fault_once text moment (same code line) (same other number) is that)

-- the batch that was read is the one that there is
pub read-found : (text : List ℕ) (moment : ℤ) (read points : List Point) → TextIs text moment (Ok read) → Lines text moment points
    → let answer : Answer = Ok read in answer ≡ Ok points
read-found text moment read points is that =
    ap (λ (ps : List Point). let answer : Answer = Ok ps in answer) (ok-same read points (text_once text moment (Ok read) (Ok points) is that.read))

-- a text of lines without a point has that fault
pub none-fault : (text : List ℕ) (moment : ℤ) → ¬ (IsTooLong text) → TextIs text moment (Ok []) → IsFault text moment (same NoPoints 0)
none-fault text moment fits is = inr (inr (fits, is, refl))

-- a fault of what the text is read to is one of the text
pub batch-fault : (text : List ℕ) (moment : ℤ) (at : At) → BatchIs text moment (Err at) → IsFault text moment at
batch-fault text moment at (inl long) = inl (long.0, err-same at (same BatchTooLong 0) long.1)
batch-fault text moment at (inr first) = inr (inl first)

-- points that the text is read to are those of its lines
pub batch-points : (text : List ℕ) (moment : ℤ) (points : List Point) → BatchIs text moment (Ok points) → ¬ (IsTooLong text) × TextIs text moment (Ok points)
batch-points text moment points (inl long) = absurd (ok-err points (same BatchTooLong 0) long.1)
batch-points text moment points (inr read) = read

-- where the first fault was told, or memory was wanting, no batch is left unread
pub first-found : (text : List ℕ) (moment : ℤ) (fault : LineFault) → FaultGives fault (BatchIs text moment)
    → (points : List Point) → Lines text moment points → let answer : Answer = Err fault in (answer ≡ Ok points) ⊎ (answer ≡ Err Memory)
first-found text moment (Line code line) is points that = absurd (never_both text moment points (same code line) that (batch-fault text moment (same code line) is))
first-found text moment Memory is points that = inr refl

-- and no other fault
pub first-only : (text : List ℕ) (moment : ℤ) (fault : LineFault) → FaultGives fault (BatchIs text moment)
    → (code : LineCode) (line : ℕ) → IsFault text moment (same code line) → let answer : Answer = Err fault in (answer ≡ Err (Line code line)) ⊎ (answer ≡ Err Memory)
first-only text moment (Line code line) is other number that = inl (told-only text moment code line (batch-fault text moment (same code line) is) other number that)
first-only text moment Memory is other number that = inr refl
