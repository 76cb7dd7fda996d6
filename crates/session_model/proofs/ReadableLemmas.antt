-- A reply is told from the beginning of its text.
use Rattle.std.proofs.Common.{◌≡◌, ◌<◌, ◌+◌, ◌^◌, ℕ, Bool, true, false, not, ◌&&◌, ◌||◌, List, [], ◌∷◌, ◌++◌, length, refl, ap, sym, subst, ◌∙◌, arith, All, append_assoc, codes, get_or, ◌==◌, ◌⊎◌, inl, inr, if◌then◌else◌}
use Rattle.std.specs.List.{flat_map}
use Rattle.std.specs.Fmt.{decimal}
use Rattle.std.proofs.lemmas.List.{append-nil, append_cancel_left}
use Rattle.std.proofs.lemmas.Bool.Decides.{eqb_tells}
use Rattle.tsdb_types.specs.Series.{tag_ends_at}
use Rattle.tsdb_types.specs.declared.value.Kind.{Kind}
use Rattle.tsdb_types.specs.declared.value.Kind.TheVariants.{Integer, Unsigned, Boolean}
use Rattle.line_protocol.specs.declared.fault.LineCode.{LineCode}
use Rattle.line_protocol.specs.declared.fault.LineCode.TheVariants as code
use Rattle.session_model.specs.declared.statement.Refusal.{Refusal}
use Rattle.session_model.specs.declared.statement.Refusal.TheVariants.{Protocol, LineTooLong, BatchCut, NotText, Syntax, TimeInOr, NumberRange}
use Rattle.session_model.specs.Replies.{Table, Reply, name_text, kind_text, code_text, place_text, refusal_text, first_line, more_lines, text}
use Rattle.session_model.specs.Replies.Reply.{Accepted, Found, Reached, NotReached, NotBuilt, Refused, TypeConflict, HistoryFull, OutOfMemory, DeviceFault, Damaged, CacheFull, SeriesFull}
use Rattle.session_model.specs.Readable.{Lacks, IsReadable, IsReadableRefusal}
use Rattle.session_model.proofs.TextLemmas.{cut_at, cut_last, lacks_other, lacks-append, begins_number, decimal_one, decimal_has_digits}
use Rattle.session_model.proofs.NameLemmas.{one_name, name_text_lacks}
use Rattle.session_model.proofs.TableLemmas.{all_head, all_tail, onto, ended_onto, from_tables, tables_spelled, tables_one}

digits_lack : (n : ℕ) → n < 2 ^ 64 → Lacks 10 (decimal n)
unfolding begins_number
digits_lack n small = lacks_other begins_number 10 refl (decimal n) (decimal_has_digits n (omega arith)).each

spaceless : (n : ℕ) → n < 2 ^ 64 → Lacks 32 (decimal n)
unfolding begins_number
spaceless n small = lacks_other begins_number 32 refl (decimal n) (decimal_has_digits n (omega arith)).each

one_number : (m n : ℕ) → m < 2 ^ 64 → n < 2 ^ 64 → decimal m ≡ decimal n → m ≡ n
one_number m n first second same = decimal_one m n (omega arith) (omega arith) same

-- a number behind the same words
one_behind : (words : List ℕ) (m n : ℕ) → m < 2 ^ 64 → n < 2 ^ 64 → words ++ decimal m ≡ words ++ decimal n → m ≡ n
one_behind words m n first second same = one_number m n first second (append_cancel_left words (decimal m) (decimal n) same)

-- Kinds, codes and refusals.

kind_line : (kind : Kind) → Lacks 10 (kind_text kind)
kind_line Integer = refl
kind_line Unsigned = refl
kind_line Boolean = refl

kind_word : (kind : Kind) → Lacks 32 (kind_text kind)
kind_word Integer = refl
kind_word Unsigned = refl
kind_word Boolean = refl

-- the kind whose text begins with this byte
abbrev kind_from : ℕ → Kind
kind_from first = if first == 105 then Integer else if first == 117 then Unsigned else Boolean

kind_read : (kind : Kind) → kind_from (get_or (kind_text kind) 0 0) ≡ kind
kind_read Integer = refl
kind_read Unsigned = refl
kind_read Boolean = refl

one_kind : (kind other : Kind) → kind_text kind ≡ kind_text other → kind ≡ other
one_kind kind other same = sym (kind_read kind) ∙ ap (λ (l : List ℕ). kind_from (get_or l 0 0)) same ∙ kind_read other

code_lacks : (code : LineCode) → Lacks 10 (code_text code)
unfolding code_text
code_lacks code.NoMeasurement = refl
code_lacks code.BadTag = refl
code_lacks code.DuplicateTag = refl
code_lacks code.NoField = refl
code_lacks code.BadField = refl
code_lacks code.FloatValue = refl
code_lacks code.StringValue = refl
code_lacks code.NumberRange = refl
code_lacks code.BadTime = refl
code_lacks code.TimeRange = refl
code_lacks code.KeyTooLong = refl
code_lacks code.MarkInKey = refl
code_lacks code.ReservedName = refl
code_lacks code.KindInBatch = refl
code_lacks code.NoPoints = refl
code_lacks code.BatchTooLong = refl

-- the code whose text has these bytes behind its first
abbrev code_from : ℕ → ℕ → LineCode
code_from first second =
    if first == 49 then (
    if second == 32 then code.NoMeasurement else if second == 48 then code.TimeRange else if second == 49 then code.KeyTooLong
    else if second == 50 then code.MarkInKey else if second == 51 then code.ReservedName else if second == 52 then code.KindInBatch
    else if second == 53 then code.NoPoints else code.BatchTooLong
    ) else if first == 50 then code.BadTag else if first == 51 then code.DuplicateTag else if first == 52 then code.NoField
    else if first == 53 then code.BadField else if first == 54 then code.FloatValue else if first == 55 then code.StringValue
    else if first == 56 then code.NumberRange else code.BadTime

code_read : (code : LineCode) (behind : List ℕ) → code_from (get_or (code_text code ++ behind) 1 0) (get_or (code_text code ++ behind) 2 0) ≡ code
unfolding code_text
code_read code.NoMeasurement behind = refl
code_read code.BadTag behind = refl
code_read code.DuplicateTag behind = refl
code_read code.NoField behind = refl
code_read code.BadField behind = refl
code_read code.FloatValue behind = refl
code_read code.StringValue behind = refl
code_read code.NumberRange behind = refl
code_read code.BadTime behind = refl
code_read code.TimeRange behind = refl
code_read code.KeyTooLong behind = refl
code_read code.MarkInKey behind = refl
code_read code.ReservedName behind = refl
code_read code.KindInBatch behind = refl
code_read code.NoPoints behind = refl
code_read code.BatchTooLong behind = refl

one_code : (code other : LineCode) (u v : List ℕ) → code_text code ++ u ≡ code_text other ++ v → (code ≡ other) × (u ≡ v)
one_code code other u v same =
    let is : code ≡ other = sym (code_read code u) ∙ ap (λ (l : List ℕ). code_from (get_or l 1 0) (get_or l 2 0)) same ∙ code_read other v in
    (is, append_cancel_left (code_text code) u v (same ∙ ap (λ (c : LineCode). code_text c ++ v) (sym is)))

abbrev place_if : Bool → ℕ → List ℕ
place_if none line = if none then [] else codes " line " ++ decimal line

place_if_lacks : (none : Bool) (line : ℕ) → line < 2 ^ 64 → Lacks 10 (place_if none line)
place_if_lacks true line small = refl
place_if_lacks false line small = lacks-append 10 (codes " line ") (decimal line) refl (digits_lack line small)

place_if_one : (none nowhere : Bool) (line other : ℕ) → line < 2 ^ 64 → other < 2 ^ 64 → (none ≡ true → line ≡ 0) → (nowhere ≡ true → other ≡ 0)
    → place_if none line ≡ place_if nowhere other → line ≡ other
place_if_one true true line other first second is that same = is refl ∙ sym (that refl)
place_if_one true false line other first second is that same = cc same
place_if_one false true line other first second is that same = cc same
place_if_one false false line other first second is that same = one_behind (codes " line ") line other first second same

is_zero : (line : ℕ) → (line == 0) ≡ true → line ≡ 0
is_zero line test = elim (eqb_tells line 0) [ inl same ↦ same.1 | inr apart ↦ (let no = apart.0 in cc (test, no)) ]

one_place : (line other : ℕ) → line < 2 ^ 64 → other < 2 ^ 64 → place_text line ≡ place_text other → line ≡ other
one_place line other first second same = place_if_one (line == 0) (other == 0) line other first second (is_zero line) (is_zero other) same

refusal_lacks : (refusal : Refusal) → IsReadableRefusal refusal → Lacks 10 (refusal_text refusal)
refusal_lacks (Protocol code line) readable = lacks-append 10 (code_text code) (place_text line) (code_lacks code) (place_if_lacks (line == 0) line readable)
refusal_lacks LineTooLong readable = refl
refusal_lacks BatchCut readable = refl
refusal_lacks NotText readable = refl
refusal_lacks Syntax readable = refl
refusal_lacks TimeInOr readable = refl
refusal_lacks NumberRange readable = refl

-- which refusal it is, by the first two bytes
abbrev refusal_kind : List ℕ → ℕ
refusal_kind line = if get_or line 0 0 == 76 then 0 else if get_or line 0 0 == 81 then 10 + get_or line 1 0 else get_or line 1 0

protocol_kind : (code : LineCode) (behind : List ℕ) → refusal_kind (code_text code ++ behind) ≡ 0
unfolding code_text
protocol_kind code.NoMeasurement behind = refl
protocol_kind code.BadTag behind = refl
protocol_kind code.DuplicateTag behind = refl
protocol_kind code.NoField behind = refl
protocol_kind code.BadField behind = refl
protocol_kind code.FloatValue behind = refl
protocol_kind code.StringValue behind = refl
protocol_kind code.NumberRange behind = refl
protocol_kind code.BadTime behind = refl
protocol_kind code.TimeRange behind = refl
protocol_kind code.KeyTooLong behind = refl
protocol_kind code.MarkInKey behind = refl
protocol_kind code.ReservedName behind = refl
protocol_kind code.KindInBatch behind = refl
protocol_kind code.NoPoints behind = refl
protocol_kind code.BatchTooLong behind = refl

abbrev rank_of_refusal : Refusal → ℕ
rank_of_refusal (Protocol code line) = 0
rank_of_refusal LineTooLong = 49
rank_of_refusal BatchCut = 50
rank_of_refusal NotText = 51
rank_of_refusal Syntax = 59
rank_of_refusal TimeInOr = 60
rank_of_refusal NumberRange = 61

refusal_ranked : (refusal : Refusal) → refusal_kind (refusal_text refusal) ≡ rank_of_refusal refusal
refusal_ranked (Protocol code line) = protocol_kind code (place_text line)
refusal_ranked LineTooLong = refl
refusal_ranked BatchCut = refl
refusal_ranked NotText = refl
refusal_ranked Syntax = refl
refusal_ranked TimeInOr = refl
refusal_ranked NumberRange = refl

-- numbers that a test tells apart
unequal : (m n : ℕ) → (m == n) ≡ false → m ≡ n → ⊥
unequal m n test same = elim (eqb_tells m n) [ inl equal ↦ (let is = equal.0 in cc (is, test)) | inr apart ↦ apart.1 same ]

refusals_apart : (a b : Refusal) → (rank_of_refusal a == rank_of_refusal b) ≡ false → refusal_text a ≡ refusal_text b → ⊥
refusals_apart a b test same = unequal (rank_of_refusal a) (rank_of_refusal b) test (sym (refusal_ranked a) ∙ ap refusal_kind same ∙ refusal_ranked b)

one_refusal : (a b : Refusal) → IsReadableRefusal a → IsReadableRefusal b → refusal_text a ≡ refusal_text b → a ≡ b
one_refusal (Protocol code line) (Protocol code' line') first second same =
    let parts = one_code code code' (place_text line) (place_text line') same in
    ap (λ (c : LineCode). Protocol c line) parts.0 ∙ ap (λ (l : ℕ). Protocol code' l) (one_place line line' first second parts.1)
one_refusal LineTooLong LineTooLong first second same = refl
one_refusal BatchCut BatchCut first second same = refl
one_refusal NotText NotText first second same = refl
one_refusal Syntax Syntax first second same = refl
one_refusal TimeInOr TimeInOr first second same = refl
one_refusal NumberRange NumberRange first second same = refl
one_refusal a b first second same = absurd (refusals_apart a b refl same)

-- The first line of a reply.

conflict_lacks : (field : List ℕ) (held : Kind) (number : ℕ) → Lacks 10 field → number < 2 ^ 64
    → Lacks 10 (codes "error T1 TypeConflict " ++ name_text field ++ codes " " ++ kind_text held ++ codes " at " ++ decimal number)
conflict_lacks field held number lacks small =
    lacks-append 10 (codes "error T1 TypeConflict " ++ name_text field ++ codes " " ++ kind_text held ++ codes " at ") (decimal number)
    (lacks-append 10 (codes "error T1 TypeConflict " ++ name_text field ++ codes " " ++ kind_text held) (codes " at ")
    (lacks-append 10 (codes "error T1 TypeConflict " ++ name_text field ++ codes " ") (kind_text held)
    (lacks-append 10 (codes "error T1 TypeConflict " ++ name_text field) (codes " ")
    (lacks-append 10 (codes "error T1 TypeConflict ") (name_text field) refl (name_text_lacks tag_ends_at 10 field refl lacks)) refl)
    (kind_line held)) refl)
    (digits_lack number small)

damage_lacks : (file offset : ℕ) → file < 2 ^ 64 → offset < 2 ^ 64 → Lacks 10 (codes "error E3 Damaged " ++ decimal file ++ codes " " ++ decimal offset)
damage_lacks file offset first second =
    lacks-append 10 (codes "error E3 Damaged " ++ decimal file ++ codes " ") (decimal offset)
    (lacks-append 10 (codes "error E3 Damaged " ++ decimal file) (codes " ")
    (lacks-append 10 (codes "error E3 Damaged ") (decimal file) refl (digits_lack file first)) refl)
    (digits_lack offset second)

first_lacks : (a : Reply) → IsReadable a → Lacks 10 (first_line a)
unfolding first_line
first_lacks (Accepted number) readable = lacks-append 10 (codes "ok ") (decimal number) refl (digits_lack number readable)
first_lacks (Found number tables) readable = lacks-append 10 (codes "at ") (decimal number) refl (digits_lack number readable.0)
first_lacks (Reached number) readable = lacks-append 10 (codes "at ") (decimal number) refl (digits_lack number readable)
first_lacks (NotReached number) readable = lacks-append 10 (codes "notyet ") (decimal number) refl (digits_lack number readable)
first_lacks NotBuilt readable = refl
first_lacks (Refused refusal) readable = lacks-append 10 (codes "error ") (refusal_text refusal) refl (refusal_lacks refusal readable)
first_lacks (TypeConflict field held number) readable = conflict_lacks field held number readable.0 readable.1
first_lacks HistoryFull readable = refl
first_lacks OutOfMemory readable = refl
first_lacks DeviceFault readable = refl
first_lacks (Damaged file offset) readable = damage_lacks file offset readable.0 readable.1
first_lacks (CacheFull held) readable = lacks-append 10 (codes "error E1 CacheFull ") (decimal held) refl (digits_lack held readable)
first_lacks (SeriesFull held) readable = lacks-append 10 (codes "error E6 SeriesFull ") (decimal held) refl (digits_lack held readable)

-- which reply it is, by the bytes of its first line; the letters of refusals are one
abbrev error_kind : ℕ → ℕ → ℕ
error_kind letter digit = if letter == 69 then digit else if (letter == 83) || (letter == 81) then 76 else letter

abbrev reply_kind : List ℕ → ℕ
reply_kind line = if get_or line 0 0 == 101 then error_kind (get_or line 6 0) (get_or line 7 0) else get_or line 0 0

refused_kind : (code : LineCode) (behind : List ℕ) → reply_kind (codes "error " ++ (code_text code ++ behind)) ≡ 76
unfolding code_text
refused_kind code.NoMeasurement behind = refl
refused_kind code.BadTag behind = refl
refused_kind code.DuplicateTag behind = refl
refused_kind code.NoField behind = refl
refused_kind code.BadField behind = refl
refused_kind code.FloatValue behind = refl
refused_kind code.StringValue behind = refl
refused_kind code.NumberRange behind = refl
refused_kind code.BadTime behind = refl
refused_kind code.TimeRange behind = refl
refused_kind code.KeyTooLong behind = refl
refused_kind code.MarkInKey behind = refl
refused_kind code.ReservedName behind = refl
refused_kind code.KindInBatch behind = refl
refused_kind code.NoPoints behind = refl
refused_kind code.BatchTooLong behind = refl

refusal_kinds : (refusal : Refusal) → reply_kind (codes "error " ++ refusal_text refusal) ≡ 76
refusal_kinds (Protocol code line) = refused_kind code (place_text line)
refusal_kinds LineTooLong = refl
refusal_kinds BatchCut = refl
refusal_kinds NotText = refl
refusal_kinds Syntax = refl
refusal_kinds TimeInOr = refl
refusal_kinds NumberRange = refl

abbrev rank : Reply → ℕ
rank (Accepted number) = 111
rank (Found number tables) = 97
rank (Reached number) = 97
rank (NotReached number) = 110
rank NotBuilt = 66
rank (Refused refusal) = 76
rank (TypeConflict field held number) = 84
rank HistoryFull = 53
rank OutOfMemory = 52
rank DeviceFault = 50
rank (Damaged file offset) = 51
rank (CacheFull held) = 49
rank (SeriesFull held) = 54

ranked : (a : Reply) → reply_kind (first_line a) ≡ rank a
unfolding first_line
ranked (Accepted number) = refl
ranked (Found number tables) = refl
ranked (Reached number) = refl
ranked (NotReached number) = refl
ranked NotBuilt = refl
ranked (Refused refusal) = refusal_kinds refusal
ranked (TypeConflict field held number) = refl
ranked HistoryFull = refl
ranked OutOfMemory = refl
ranked DeviceFault = refl
ranked (Damaged file offset) = refl
ranked (CacheFull held) = refl
ranked (SeriesFull held) = refl

replies_apart : (a b : Reply) → (rank a == rank b) ≡ false → first_line a ≡ first_line b → ⊥
replies_apart a b test same = unequal (rank a) (rank b) test (sym (ranked a) ∙ ap reply_kind same ∙ ranked b)

-- What is written behind a whole reply, which begins with no line of tables: its second byte is neither that of `name`
-- nor the newline behind a dot.
unfoldable pub goes_on : List ℕ → Bool
goes_on behind = not (get_or behind 1 0 == 97) && not (get_or behind 1 0 == 10)

tables_go_on : (tables : List Table) (behind : List ℕ) → goes_on (from_tables tables behind) ≡ false
unfolding goes_on
tables_go_on [] behind = refl
tables_go_on (table ∷ tables) behind = refl

-- the first reply is the first line of the second, whose further lines stand behind it
pub record IsFront (a b : Reply) (u v : List ℕ) : Type 0 where
  pub number : ℕ
  pub tables : List Table
  pub short : a ≡ Reached number
  pub long : b ≡ Found number tables
  pub behind : u ≡ from_tables tables v

-- tables are written by some bytes
pub tables_written : (tables : List Table) (behind : List ℕ) → [] ≡ from_tables tables behind → ⊥
tables_written [] behind same = cc same
tables_written (table ∷ tables) behind same = cc same

no_front : (a b : Reply) (u v : List ℕ) → goes_on u ≡ true → IsFront a b u v → ⊥
no_front a b u v goes front =
    let is = tables_go_on front.tables v in
    let same = front.behind in
    cc (is, ap goes_on same, goes)

one_conflict : (field other : List ℕ) (held kept : Kind) (m n : ℕ) → m < 2 ^ 64 → n < 2 ^ 64
    → codes "error T1 TypeConflict " ++ name_text field ++ codes " " ++ kind_text held ++ codes " at " ++ decimal m
    ≡ codes "error T1 TypeConflict " ++ name_text other ++ codes " " ++ kind_text kept ++ codes " at " ++ decimal n
    → (field ≡ other) × (held ≡ kept) × (m ≡ n)
one_conflict field other held kept m n first second same =
    let words = codes "error T1 TypeConflict " in
    let before : List ℕ → Kind → List ℕ = λ f k. words ++ name_text f ++ codes " " ++ kind_text k in
    let number = cut_last 32 (before field held ++ codes " at") (before other kept ++ codes " at") (decimal m) (decimal n) (spaceless m first) (spaceless n second)
    (at_last (before field held) (decimal m) ∙ same ∙ sym (at_last (before other kept) (decimal n))) in
    let at = cut_last 32 (before field held) (before other kept) (codes "at") (codes "at") refl refl number.0 in
    let kind = cut_last 32 (words ++ name_text field) (words ++ name_text other) (kind_text held) (kind_text kept) (kind_word held) (kind_word kept)
    (sym (append_assoc (words ++ name_text field) (codes " ") (kind_text held)) ∙ at.0 ∙ append_assoc (words ++ name_text other) (codes " ") (kind_text kept)) in (
      one_name tag_ends_at field other refl (append_cancel_left words (name_text field) (name_text other) kind.0),
      one_kind held kept kind.1,
      one_number m n first second number.1,
    )
  where
    at_last : (front digits : List ℕ) → (front ++ codes " at") ++ 32 ∷ digits ≡ front ++ codes " at " ++ digits
    at_last front digits = append_assoc front (codes " at") (32 ∷ digits) ∙ sym (append_assoc front (codes " at ") digits)

one_damage : (file file' offset offset' : ℕ) → file < 2 ^ 64 → file' < 2 ^ 64 → offset < 2 ^ 64 → offset' < 2 ^ 64
    → codes "error E3 Damaged " ++ decimal file ++ codes " " ++ decimal offset ≡ codes "error E3 Damaged " ++ decimal file' ++ codes " " ++ decimal offset'
    → (file ≡ file') × (offset ≡ offset')
one_damage file file' offset offset' a a' b b' same =
    let words = codes "error E3 Damaged " in
    let parts = cut_last 32 (words ++ decimal file) (words ++ decimal file') (decimal offset) (decimal offset') (spaceless offset b) (spaceless offset' b')
    (sym (append_assoc (words ++ decimal file) (codes " ") (decimal offset)) ∙ same ∙ append_assoc (words ++ decimal file') (codes " ") (decimal offset')) in
    (one_behind words file file' a a' parts.0, one_number offset offset' b b' parts.1)

-- Two replies by their first lines and what stands behind: they are one, or one is a front of the other.
lines_meet : (a b : Reply) (u v : List ℕ) → IsReadable a → IsReadable b
    → first_line a ≡ first_line b → onto (more_lines a) u ≡ onto (more_lines b) v → ((a ≡ b) × (u ≡ v)) ⊎ IsFront a b u v ⊎ IsFront b a v u
unfolding first_line
lines_meet (Accepted m) (Accepted n) u v first second line more = inl (ap Accepted (one_behind (codes "ok ") m n first second line), more)
lines_meet (Found m ts) (Found n us) u v first second line more =
    let rest = tables_one ts us u v first.1 second.1 (sym (tables_spelled ts u) ∙ more ∙ tables_spelled us v) in
    inl (ap (λ (k : ℕ). Found k ts) (one_behind (codes "at ") m n first.0 second.0 line) ∙ ap (Found n) rest.0, rest.1)
lines_meet (Found m ts) (Reached n) u v first second line more =
    inr (inr (record {
      number = m;
      tables = ts;
      short = ap Reached (one_behind (codes "at ") n m second first.0 (sym line));
      long = refl;
      behind = sym more ∙ tables_spelled ts u;
    }))
lines_meet (Reached m) (Found n us) u v first second line more =
    inr (inl (record {
      number = n;
      tables = us;
      short = ap Reached (one_behind (codes "at ") m n first second.0 line);
      long = refl;
      behind = more ∙ tables_spelled us v;
    }))
lines_meet (Reached m) (Reached n) u v first second line more = inl (ap Reached (one_behind (codes "at ") m n first second line), more)
lines_meet (NotReached m) (NotReached n) u v first second line more = inl (ap NotReached (one_behind (codes "notyet ") m n first second line), more)
lines_meet NotBuilt NotBuilt u v first second line more = inl (refl, more)
lines_meet (Refused r) (Refused s) u v first second line more =
    inl (ap Refused (one_refusal r s first second (append_cancel_left (codes "error ") (refusal_text r) (refusal_text s) line)), more)
lines_meet (TypeConflict field held m) (TypeConflict other kept n) u v first second line more =
    let parts = one_conflict field other held kept m n first.1 second.1 line in inl (
      ap (λ (f : List ℕ). TypeConflict f held m) parts.0 ∙ ap (λ (k : Kind). TypeConflict other k m) parts.1 ∙ ap (TypeConflict other kept) parts.2,
      more,
    )
lines_meet HistoryFull HistoryFull u v first second line more = inl (refl, more)
lines_meet OutOfMemory OutOfMemory u v first second line more = inl (refl, more)
lines_meet DeviceFault DeviceFault u v first second line more = inl (refl, more)
lines_meet (Damaged file offset) (Damaged file' offset') u v first second line more =
    let parts = one_damage file file' offset offset' first.0 second.0 first.1 second.1 line in
    inl (ap (λ (f : ℕ). Damaged f offset) parts.0 ∙ ap (Damaged file') parts.1, more)
lines_meet (CacheFull m) (CacheFull n) u v first second line more = inl (ap CacheFull (one_behind (codes "error E1 CacheFull ") m n first second line), more)
lines_meet (SeriesFull m) (SeriesFull n) u v first second line more = inl (ap SeriesFull (one_behind (codes "error E6 SeriesFull ") m n first second line), more)
lines_meet a b u v first second line more = absurd (replies_apart a b refl line)

pub text_onto : (a : Reply) (u : List ℕ) → text a ++ u ≡ first_line a ++ 10 ∷ onto (more_lines a) u
text_onto a u = ended_onto (first_line a ∷ more_lines a) u

-- two replies with texts that go on the same
pub replies_meet : (a b : Reply) (u v : List ℕ) → IsReadable a → IsReadable b → text a ++ u ≡ text b ++ v
    → ((a ≡ b) × (u ≡ v)) ⊎ IsFront a b u v ⊎ IsFront b a v u
replies_meet a b u v first second same =
    let cut = cut_at 10 (first_line a) (first_line b) (onto (more_lines a) u) (onto (more_lines b) v) (first_lacks a first) (first_lacks b second)
    (sym (text_onto a u) ∙ same ∙ text_onto b v) in
    lines_meet a b u v first second cut.0 cut.1

-- they are one where no lines of tables stand behind them
pub reply_one : (a b : Reply) (u v : List ℕ) → IsReadable a → IsReadable b → goes_on u ≡ true → goes_on v ≡ true
    → text a ++ u ≡ text b ++ v → (a ≡ b) × (u ≡ v)
reply_one a b u v first second goes on same =
    elim (replies_meet a b u v first second same) [
      | inl one ↦ one
      | inr (inl front) ↦ absurd (no_front a b u v goes front)
      | inr (inr front) ↦ absurd (no_front b a v u on front)
    ]

-- each reply may stand behind another
pub reply_goes_on : (a : Reply) (behind : List ℕ) → goes_on (text a ++ behind) ≡ true
unfolding goes_on first_line
reply_goes_on (Accepted number) behind = refl
reply_goes_on (Found number tables) behind = refl
reply_goes_on (Reached number) behind = refl
reply_goes_on (NotReached number) behind = refl
reply_goes_on NotBuilt behind = refl
reply_goes_on (Refused refusal) behind = refl
reply_goes_on (TypeConflict field held number) behind = refl
reply_goes_on HistoryFull behind = refl
reply_goes_on OutOfMemory behind = refl
reply_goes_on DeviceFault behind = refl
reply_goes_on (Damaged file offset) behind = refl
reply_goes_on (CacheFull held) behind = refl
reply_goes_on (SeriesFull held) behind = refl

pub nothing_goes_on : goes_on [] ≡ true
unfolding goes_on
nothing_goes_on = refl

-- so may a front of one
pub front_goes_on : (part rest : List ℕ) → goes_on (part ++ rest) ≡ true → goes_on part ≡ true
unfolding goes_on
front_goes_on [] rest h = refl
front_goes_on (x ∷ []) rest h = refl
front_goes_on (x ∷ y ∷ part) rest h = h

pub replies_go_on : (replies : List Reply) (part : List ℕ) → goes_on part ≡ true → goes_on (flat_map text replies ++ part) ≡ true
replies_go_on [] part goes = goes
replies_go_on (a ∷ more) part goes =
    subst (λ (t : List ℕ). goes_on t ≡ true) (sym (append_assoc (text a) (flat_map text more) part)) (reply_goes_on a (flat_map text more ++ part))

no_end : (line behind : List ℕ) → [] ≡ line ++ 10 ∷ behind → ⊥
no_end [] behind same = cc
no_end (x ∷ line) behind same = cc

pub no_text : (a : Reply) (behind : List ℕ) → [] ≡ text a ++ behind → ⊥
no_text a behind same = no_end (first_line a) (onto (more_lines a) behind) (same ∙ text_onto a behind)

-- the first replies of two lists, and what is behind them
pub first_one : (x y : Reply) (xs ys : List Reply) (p q : List ℕ) → IsReadable x → IsReadable y → goes_on p ≡ true → goes_on q ≡ true
    → flat_map text (x ∷ xs) ++ p ≡ flat_map text (y ∷ ys) ++ q → (x ≡ y) × (flat_map text xs ++ p ≡ flat_map text ys ++ q)
first_one x y xs ys p q first second part other same =
    reply_one x y (flat_map text xs ++ p) (flat_map text ys ++ q) first second (replies_go_on xs p part) (replies_go_on ys q other)
    (sym (append_assoc (text x) (flat_map text xs) p) ∙ same ∙ append_assoc (text y) (flat_map text ys) q)

-- as many whole replies, and parts behind them
pub replies_one : (xs ys : List Reply) (p q : List ℕ) → All IsReadable xs → All IsReadable ys → goes_on p ≡ true → goes_on q ≡ true
    → length xs ≡ length ys → flat_map text xs ++ p ≡ flat_map text ys ++ q → (xs ≡ ys) × (p ≡ q)
replies_one [] [] p q first second part other count same = (refl, same)
replies_one [] (y ∷ ys) p q first second part other count same = absurd (omega (arith, count))
replies_one (x ∷ xs) [] p q first second part other count same = absurd (omega (arith, count))
replies_one (x ∷ xs) (y ∷ ys) p q first second part other count same =
    let here = first_one x y xs ys p q (all_head IsReadable x xs first) (all_head IsReadable y ys second) part other same in
    let rest = replies_one xs ys p q (all_tail IsReadable x xs first) (all_tail IsReadable y ys second) part other (omega (arith, count)) here.1 in
    let head = here.0 in
    let tail = rest.0 in
    (cc (head, tail), rest.1)

-- whole replies alone tell how many they are
lists_from : (xs ys : List Reply) → All IsReadable xs → All IsReadable ys → flat_map text xs ++ [] ≡ flat_map text ys ++ [] → xs ≡ ys
lists_from [] [] first second same = refl
lists_from [] (y ∷ ys) first second same = absurd (no_text y (flat_map text ys ++ []) (same ∙ append_assoc (text y) (flat_map text ys) []))
lists_from (x ∷ xs) [] first second same = absurd (no_text x (flat_map text xs ++ []) (sym same ∙ append_assoc (text x) (flat_map text xs) []))
lists_from (x ∷ xs) (y ∷ ys) first second same =
    let here = first_one x y xs ys [] [] (all_head IsReadable x xs first) (all_head IsReadable y ys second) nothing_goes_on nothing_goes_on same in
    let head = here.0 in
    let tail = lists_from xs ys (all_tail IsReadable x xs first) (all_tail IsReadable y ys second) here.1 in
    cc (head, tail)

pub lists_one : (xs ys : List Reply) → All IsReadable xs → All IsReadable ys → flat_map text xs ≡ flat_map text ys → xs ≡ ys
lists_one xs ys first second same = lists_from xs ys first second (append-nil (flat_map text xs) ∙ same ∙ sym (append-nil (flat_map text ys)))
