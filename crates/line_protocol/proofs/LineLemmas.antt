use Rattle.std.proofs.Common.{◌≡◌, ◌↔◌, ℕ, zero, suc, ◌+◌, ◌<◌, ◌≤◌, ◌^◌, Bool, true, false, cond, ◌&&◌, ◌||◌, eqb, ltb, ◌⊎◌, inl, inr, ⊎_elim, Option, Some, None, Result, Ok, Err, List, [], ◌∷◌, ◌++◌, length, get_or, take, drop, ℤ, refl, sym, ap, subst, ◌∙◌, append_assoc, append-nil, arith}
use Rattle.std.specs.Bool.{MatchBool}
use Rattle.std.specs.Option.{MatchOption}
use Rattle.std.proofs.lemmas.Bool.{false≢true, cases_lt, eqb-true}
use Rattle.std.proofs.lemmas.Result.{on_ok_weaker, IfErr-weaker}
use Rattle.std.specs.Result.{OnOk, IfErr}
use Rattle.std.proofs.lemmas.Bool.Decides.{Decides-ltb}
use Rattle.std.proofs.lemmas.List.{at_drop_more}
use Rattle.std.proofs.lemmas.Slice.Eq.{bytes_eq-Decides}
use Rattle.std.specs.Str.{bytes_eq}
use Rattle.tsdb_types.specs.Keys.{mark, key_of, MarkAt, IsFirstMark, IsTooLong, IsCutShort}
use Rattle.tsdb_types.specs.Series.{KeysDiffer, IsKeyOf}
use Rattle.tsdb_types.specs.Values.{kind_of}
use Rattle.tsdb_types.specs.declared.point.Point.{Point}
use Rattle.tsdb_types.specs.declared.key.KeyFault.{KeyFault}
use Rattle.tsdb_types.specs.declared.key.KeyFault.TheVariants as fault
use Rattle.line_protocol.specs.declared.fault.LineCode.{LineCode}
use Rattle.line_protocol.specs.declared.fault.LineCode.TheVariants.{KeyTooLong, MarkInKey, DuplicateTag, NoField, ReservedName}
use Rattle.line_protocol.specs.declared.fault.Refusal.{Refusal}
use Rattle.line_protocol.specs.declared.fault.Refusal.TheVariants.{Code, Memory}
use Rattle.line_protocol.specs.declared.field.Field.{Field}
use Rattle.line_protocol.specs.declared.spelled_field.SpelledField.{SpelledField}
use Rattle.line_protocol.specs.Fields.{fields_of, field_spelled, fields_spelled}
use Rattle.line_protocol.specs.Parts.{front, parts, unspaced}
use Rattle.tsdb_types.proofs.TagLemmas.{differ_from_ascend}
use Rattle.line_protocol.specs.Heads.{head_code, measurement_of, tags_of, time_word, has_time_tag}
use Rattle.line_protocol.specs.Kinds.{Seen, place_of, note, note_all}
use Rattle.line_protocol.specs.Lines.{Read, time_of, has_time_field, points_of, with_points, is_cut_short, key_step, keys_step, refusal_of, rest_of, head_of, fields_text, time_text, is_skipped, TagsAre, LineIs, AnyLineIs}
use Rattle.line_protocol.specs.Readings.{IsRefusal, Refuses, ◌>>=◌, unless}
use Rattle.line_protocol.proofs.PartLemmas.{decided}
use Rattle.line_protocol.proofs.ReadingLemmas.{refused-weaker, refused-from}

or-right : (a : Bool) → (a || true) ≡ true
or-right true = refl
or-right false = refl

pub cut-at : (series field : List ℕ) (at : ℕ) → at < length series → MarkAt (key_of series field) at → is_cut_short series field ≡ true
cut-at [] field at l m = absurd (omega arith)
cut-at (byte ∷ series) field zero l m =
    ap (λ (t : Bool). t || is_cut_short series field) ((bytes_eq-Decides (take 4 (key_of (byte ∷ series) field)) mark).1 m)
cut-at (byte ∷ series) field (suc at) l m =
    ap (λ (t : Bool). bytes_eq (take 4 (key_of (byte ∷ series) field)) mark || t) (cut-at series field at (omega arith) m)
    ∙ or-right (bytes_eq (take 4 (key_of (byte ∷ series) field)) mark)

pub cut-none : (series field : List ℕ) → ((at : ℕ) → at < length series → MarkAt (key_of series field) at → ⊥) → is_cut_short series field ≡ false
cut-none [] field h = refl
cut-none (byte ∷ series) field h =
    let test = bytes_eq (take 4 (key_of (byte ∷ series) field)) mark in
    let rest : is_cut_short series field ≡ false = cut-none series field (λ at l m. h (suc at) (omega arith) m) in
    ⊎_elim
    (λ (e : test ≡ true). absurd (h 0 (omega arith) ((bytes_eq-Decides (take 4 (key_of (byte ∷ series) field)) mark).0 e)))
    (λ (e : test ≡ false). ap (λ (t : Bool). t || is_cut_short series field) e ∙ rest)
    (decided test)

abbrev Step : Type 0
Step = Result Bool LineCode

short : (key : List ℕ) → length key ≤ 65535 → ltb 65535 (length key) ≡ false
short key l =
    ⊎_elim
    (λ (e : ltb 65535 (length key) ≡ true). absurd (omega (arith, (Decides-ltb 65535 (length key)).0 e)))
    (λ (e : ltb 65535 (length key) ≡ false). e)
    (decided (ltb 65535 (length key)))

key_step-short : (series field : List ℕ) → length (key_of series field) ≤ 65535 → key_step series field ≡ unless (is_cut_short series field) MarkInKey
key_step-short series field l =
    ap (λ (t : Bool). let s : Step = cond t (Err KeyTooLong) (unless (is_cut_short series field) MarkInKey) in s) (short (key_of series field) l)

pub key_step-long : (series field : List ℕ) (len : ℕ) → IsTooLong (key_of series field) len → key_step series field ≡ Err KeyTooLong
key_step-long series field len long =
    ap (λ (t : Bool). let s : Step = cond t (Err KeyTooLong) (unless (is_cut_short series field) MarkInKey) in s)
    ((Decides-ltb 65535 (length (key_of series field))).1 (omega (arith, long.counted, long.above)))

pub key_step-cut : (series field : List ℕ) (at : ℕ) → IsCutShort series field at → key_step series field ≡ Err MarkInKey
key_step-cut series field at cut =
    key_step-short series field cut.fits
    ∙ ap (λ (t : Bool). unless t MarkInKey) (cut-at series field at cut.within cut.cut.stands)

-- a key that isn't too long, and whose first mark is the one behind its series
pub key_step-fine : (series field : List ℕ) → ((len : ℕ) → IsTooLong (key_of series field) len → ⊥) → (2 ^ 64 ≤ length (key_of series field) → ⊥) → IsFirstMark (key_of series field) (length series) → key_step series field ≡ Ok true
key_step-fine series field long memory first =
    let n = length (key_of series field) in
    let fits : n ≤ 65535 =
    ⊎_elim
    (λ (l : 65535 < n).
    absurd (⊎_elim
    (λ (small : n < 2 ^ 64). long n (record { counted = refl; above = l; holds = small }))
    (λ (large : 2 ^ 64 ≤ n). memory large)
    (cases_lt n (2 ^ 64))))
    (λ (l : n ≤ 65535). l)
    (cases_lt 65535 n)
    in
    key_step-short series field fits ∙ ap (λ (t : Bool). unless t MarkInKey) (cut-none series field first.first)

-- the steps over the head decide where one has a fault
pub head-faulty : (seen : Seen) (moment : ℤ) (line : List ℕ) (code : LineCode) → Some code ≡ head_code (head_of line) → LineIs seen moment line (Err code)
head-faulty seen moment line code e =
    let read : Result Read LineCode = Err code in
    subst (λ (o : Option LineCode). MatchOption o (TagsAre seen moment line read) (λ c. read ≡ Err c)) e refl

pub head-fine : (seen : Seen) (moment : ℤ) (line : List ℕ) (read : Result Read LineCode) → None ≡ head_code (head_of line) → TagsAre seen moment line read → LineIs seen moment line read
head-fine seen moment line read e are =
    subst (λ (o : Option LineCode). MatchOption o (TagsAre seen moment line read) (λ c. read ≡ Err c)) e are

pub line-skipped : (seen : Seen) (moment : ℤ) (line : List ℕ) → is_skipped line ≡ true → AnyLineIs seen moment line (Ok (record { points = []; seen = seen }))
line-skipped seen moment line e =
    let read : Result Read LineCode = Ok (record { points = []; seen = seen }) in
    subst (λ (b : Bool). MatchBool b (read ≡ read) (LineIs seen moment line read)) (sym e) refl

pub line-read : (seen : Seen) (moment : ℤ) (line : List ℕ) (read : Result Read LineCode) → is_skipped line ≡ false → LineIs seen moment line read → AnyLineIs seen moment line read
line-read seen moment line read e is =
    subst (λ (b : Bool). MatchBool b (read ≡ Ok (record { points = []; seen = seen })) (LineIs seen moment line read)) (sym e) is

-- a key with a fault is refused for it
pub key_step-fault : (series field : List ℕ) (found : KeyFault)
    → ((len : ℕ) → (Some found ≡ Some (fault.KeyTooLong len)) ↔ IsTooLong (key_of series field) len)
    → ((at : ℕ) → (Some found ≡ Some (fault.MarkInKey at)) ↔ IsCutShort series field at)
    → Refuses (refusal_of found) (key_step series field)
key_step-fault series field (fault.KeyTooLong len) long cut = key_step-long series field len ((long len).0 refl)
key_step-fault series field (fault.MarkInKey at) long cut = key_step-cut series field at ((cut at).0 refl)
key_step-fault series field fault.Memory long cut = tt

-- one field of a loop over them, and those behind it
pub time-at : (fields : List SpelledField) (i : ℕ) (item : SpelledField) → i < length fields → item ≡ get_or fields i item
    → has_time_field (fields_spelled (drop i fields)) ≡ (bytes_eq (field_spelled item).name time_word || has_time_field (fields_spelled (drop (i + 1) fields)))
time-at fields i item l is =
    at_drop_more (λ (fs : List SpelledField). has_time_field (fields_spelled fs)) fields i item l
    ∙ ap (λ (f : SpelledField). bytes_eq (field_spelled f).name time_word || has_time_field (fields_spelled (drop (i + 1) fields))) (sym is)

pub note_all-at : (seen : Seen) (measurement : List ℕ) (fields : List SpelledField) (i : ℕ) (item : SpelledField) → i < length fields → item ≡ get_or fields i item
    → note_all seen measurement (fields_spelled (drop i fields)) ≡ (note seen (place_of measurement (field_spelled item).name) (kind_of item.value) >>= λ after. note_all after measurement (fields_spelled (drop (i + 1) fields)))
note_all-at seen measurement fields i item l is =
    at_drop_more (λ (fs : List SpelledField). note_all seen measurement (fields_spelled fs)) fields i item l
    ∙ ap (λ (f : SpelledField). note seen (place_of measurement (field_spelled f).name) (kind_of f.value) >>= λ after. note_all after measurement (fields_spelled (drop (i + 1) fields))) (sym is)

pub points-at : (points : List Point) (time : ℤ) (series : List ℕ) (fields : List SpelledField) (i : ℕ) (item : SpelledField) → i < length fields → item ≡ get_or fields i item
    → with_points points time series (fields_spelled (drop i fields)) ≡ with_points points time series (field_spelled item ∷ fields_spelled (drop (i + 1) fields))
points-at points time series fields i item l is =
    at_drop_more (λ (fs : List SpelledField). with_points points time series (fields_spelled fs)) fields i item l
    ∙ ap (λ (f : SpelledField). with_points points time series (field_spelled f ∷ fields_spelled (drop (i + 1) fields))) (sym is)

-- the points of a list of fields: those of the first, and then the others
points-step : (step : Result Bool LineCode) (points : List Point) (time : ℤ) (series : List ℕ) (field : Field) (fields : List Field)
    → ((step >>= λ fits. keys_step series fields) >>= λ fits. let r : Result (List Point) LineCode = Ok (points ++ points_of time series (field ∷ fields)) in r)
    ≡ ((step >>= λ fits. let r : Result Bool LineCode = Ok true in r) >>= λ fits. with_points (points ++ points_of time series (field ∷ [])) time series fields)
points-step (Ok fits) points time series field fields =
    ap (λ (ps : List Point). keys_step series fields >>= λ fits. let r : Result (List Point) LineCode = Ok ps in r) (sym (append_assoc points (points_of time series (field ∷ [])) (points_of time series fields)))
points-step (Err code) points time series field fields = refl

points-bind : (step : Result Bool LineCode) (one : List Point) (next : List Point → Result (List Point) LineCode)
    → (step >>= λ fits. next one) ≡ ((step >>= λ fits. let r : Result (List Point) LineCode = Ok one in r) >>= next)
points-bind (Ok fits) one next = refl
points-bind (Err code) one next = refl

pub points-first : (points : List Point) (time : ℤ) (series : List ℕ) (field : Field) (fields : List Field)
    → with_points points time series (field ∷ fields) ≡ (with_points points time series (field ∷ []) >>= λ more. with_points more time series fields)
points-first points time series field fields =
    points-step (key_step series field.name) points time series field fields
    ∙ points-bind (key_step series field.name >>= λ fits. Ok true) (points ++ points_of time series (field ∷ [])) (λ more. with_points more time series fields)

bind-assoc : {X Y Z : Type 0} (step : Result X LineCode) (next : X → Result Y LineCode) (last : Y → Result Z LineCode) → ((step >>= next) >>= last) ≡ (step >>= λ x. next x >>= last)
bind-assoc (Ok value) next last = refl
bind-assoc (Err code) next last = refl

pub points-none : (points : List Point) (time : ℤ) (series : List ℕ) → with_points points time series [] ≡ Ok points
points-none points time series = ap (λ (ps : List Point). let r : Result (List Point) LineCode = Ok ps in r) (append-nil points)

-- the same: those of some fields, and then the others
pub points-both : (points : List Point) (time : ℤ) (series : List ℕ) (fields others : List Field)
    → with_points points time series (fields ++ others) ≡ (with_points points time series fields >>= λ more. with_points more time series others)
points-both points time series [] others = ap (λ (r : Result (List Point) LineCode). r >>= λ more. with_points more time series others) (sym (points-none points time series))
points-both points time series (field ∷ fields) others =
    let Read : Type 0 = Result (List Point) LineCode in
    points-first points time series field (fields ++ others)
    ∙ ap (λ (next : List Point → Result (List Point) LineCode). with_points points time series (field ∷ []) >>= next) (λ i more. points-both more time series fields others i)
    ∙ sym (bind-assoc (with_points points time series (field ∷ [])) (λ more. with_points more time series fields) (λ more. with_points more time series others))
    ∙ ap (λ (r : Result (List Point) LineCode). r >>= λ more. with_points more time series others) (sym (points-first points time series field fields))

-- a line without fields
pub line-unfilled : (seen : Seen) (moment : ℤ) (line head fields : List ℕ) (refusal : Refusal)
    → None ≡ head_code head → head ≡ head_of line → fields ≡ fields_text line → fields ≡ []
    → IsRefusal refusal (λ code. ((code ≡ DuplicateTag) × ¬ (KeysDiffer (tags_of head))) ⊎ ((code ≡ NoField) × KeysDiffer (tags_of head)))
    → IsRefusal refusal (λ code. LineIs seen moment line (Err code))
line-unfilled seen moment line head fields refusal fine is text none told =
    let whole = fine ∙ ap head_code is in
    refused-weaker refusal (λ code. ((code ≡ DuplicateTag) × ¬ (KeysDiffer (tags_of head))) ⊎ ((code ≡ NoField) × KeysDiffer (tags_of head))) (λ code. LineIs seen moment line (Err code))
    (λ code one.
    let err : LineCode → Result Read LineCode = λ c. Err c in
    head-fine seen moment line (Err code) whole
    (⊎_elim
    (λ (twice : (code ≡ DuplicateTag) × ¬ (KeysDiffer (tags_of head))). inl (subst (λ (h : List ℕ). ¬ (KeysDiffer (tags_of h))) is twice.1, ap err twice.0))
    (λ (differ : (code ≡ NoField) × KeysDiffer (tags_of head)). inr (subst (λ (h : List ℕ). KeysDiffer (tags_of h)) is differ.1, inl (sym text ∙ none, ap err differ.0)))
    one))
    told

-- a head with equal keys
pub line-twice : (seen : Seen) (moment : ℤ) (line head : List ℕ) (refusal : Refusal)
    → None ≡ head_code head → head ≡ head_of line
    → IsRefusal refusal (λ code. (code ≡ DuplicateTag) × ¬ (KeysDiffer (tags_of head)))
    → IsRefusal refusal (λ code. LineIs seen moment line (Err code))
line-twice seen moment line head refusal fine is told =
    refused-weaker refusal (λ code. (code ≡ DuplicateTag) × ¬ (KeysDiffer (tags_of head))) (λ code. LineIs seen moment line (Err code))
    (λ code twice.
    let err : LineCode → Result Read LineCode = λ c. Err c in
    head-fine seen moment line (Err code) (fine ∙ ap head_code is) (inl (subst (λ (h : List ℕ). ¬ (KeysDiffer (tags_of h))) is twice.1, ap err twice.0)))
    told

-- what is told of a head
pub record Told (head measurement : List ℕ) (reserved : Bool) (series : List ℕ) : Type 0 where
  pub measurement_is : measurement ≡ measurement_of head
  pub reserved_is : reserved ≡ has_time_tag (tags_of head)
  pub key : IsKeyOf (measurement_of head) (tags_of head) series

-- a line with fields behind a head that was read
pub line-filled : (seen : Seen) (moment : ℤ) (line head fields time measurement : List ℕ) (reserved : Bool) (series : List ℕ) (read : Result Read LineCode)
    → None ≡ head_code head → head ≡ head_of line → fields ≡ fields_text line → (fields ≡ [] → ⊥) → time ≡ time_text line
    → Told head measurement reserved series
    → rest_of seen moment measurement reserved series fields time ≡ read
    → LineIs seen moment line read
line-filled seen moment line head fields time measurement reserved series read fine is text some at told result =
    let named : measurement ≡ measurement_of (head_of line) = told.measurement_is ∙ ap measurement_of is in
    let kept : reserved ≡ has_time_tag (tags_of (head_of line)) = told.reserved_is ∙ ap (λ (h : List ℕ). has_time_tag (tags_of h)) is in
    let key = subst (λ (h : List ℕ). IsKeyOf (measurement_of h) (tags_of h) series) is told.key in
    let differ = differ_from_ascend (tags_of (head_of line)) key.sorted key.same key.ascend in
    let whole : read ≡ rest_of seen moment (measurement_of (head_of line)) (has_time_tag (tags_of (head_of line))) series (fields_text line) (time_text line) =
    sym result
    ∙ ap (λ (m : List ℕ). rest_of seen moment m reserved series fields time) named
    ∙ ap (λ (r : Bool). rest_of seen moment (measurement_of (head_of line)) r series fields time) kept
    ∙ ap (λ (f : List ℕ). rest_of seen moment (measurement_of (head_of line)) (has_time_tag (tags_of (head_of line))) series f time) text
    ∙ ap (λ (t : List ℕ). rest_of seen moment (measurement_of (head_of line)) (has_time_tag (tags_of (head_of line))) series (fields_text line) t) at
    in
    head-fine seen moment line read (fine ∙ ap head_code is) (inr (differ, inr (λ none. some (text ∙ none), series, key, whole)))

-- what a call that read a line left, and what it refused: the same of a line that may hold no point
abbrev pub Added : Seen → Seen → List Point → List Point → (Result Read LineCode → Type 0) → Type 0
Added seen after old new Holds = (added : List Point) × (new ≡ old ++ added) × Holds (Ok (record { points = added; seen = after }))

pub any-ok : (result : Result (Unit {0}) Refusal) (seen after : Seen) (moment : ℤ) (line : List ℕ) (old new : List Point) → is_skipped line ≡ false
    → OnOk result (Added seen after old new (LineIs seen moment line)) → OnOk result (Added seen after old new (AnyLineIs seen moment line))
any-ok result seen after moment line old new e is =
    on_ok_weaker result (λ (one : Added seen after old new (LineIs seen moment line)). (one.0, one.1, line-read seen moment line (Ok (record { points = one.0; seen = after })) e one.2)) is

pub any-refused : (result : Result (Unit {0}) Refusal) (seen : Seen) (moment : ℤ) (line : List ℕ) → is_skipped line ≡ false
    → IfErr result (λ refusal. IsRefusal refusal (λ code. LineIs seen moment line (Err code)))
    → IfErr result (λ refusal. IsRefusal refusal (λ code. AnyLineIs seen moment line (Err code)))
any-refused result seen moment line e is =
    IfErr-weaker result (λ refusal. IsRefusal refusal (λ code. LineIs seen moment line (Err code))) (λ refusal. IsRefusal refusal (λ code. AnyLineIs seen moment line (Err code)))
    (λ refusal told. refused-weaker refusal (λ code. LineIs seen moment line (Err code)) (λ code. AnyLineIs seen moment line (Err code)) (λ code one. line-read seen moment line (Err code) e one) told) is

pub filled-none : (text : List ℕ) → eqb (length text) 0 ≡ true → text ≡ []
filled-none [] e = refl
filled-none (byte ∷ text) e = absurd (omega (arith, eqb-true (length (byte ∷ text)) 0 e))

pub filled-some : (text : List ℕ) → eqb (length text) 0 ≡ false → text ≡ [] → ⊥
filled-some text e none = false≢true (sym e ∙ ap (λ (t : List ℕ). eqb (length t) 0) none)

-- text that begins with no space has something before its first space
unspaced-front : (text : List ℕ) → front 32 false (unspaced text) ≡ [] → unspaced text ≡ []
unspaced-front [] e = refl
unspaced-front (byte ∷ text) e =
    ⊎_elim
    (λ (space : eqb byte 32 ≡ true).
    let on : unspaced (byte ∷ text) ≡ unspaced text = ap (λ (t : Bool). cond t (unspaced text) (byte ∷ text)) space in
    on ∙ unspaced-front text (sym (ap (λ (t : List ℕ). front 32 false t) on) ∙ e))
    (λ (other : eqb byte 32 ≡ false).
    let on : unspaced (byte ∷ text) ≡ byte ∷ text = ap (λ (t : Bool). cond t (unspaced text) (byte ∷ text)) other in
    let goes : front 32 false (byte ∷ text) ≡ byte ∷ front 32 (eqb byte 92) text = ap (λ (t : Bool). cond (t && true) [] (byte ∷ front 32 (eqb byte 92) text)) other in
    absurd (omega (arith, ap (λ (t : List ℕ). length t) (sym goes ∙ sym (ap (λ (t : List ℕ). front 32 false t) on) ∙ e))))
    (decided (eqb byte 32))

pub unspaced-some : (behind text : List ℕ) → text ≡ unspaced behind → eqb (length text) 0 ≡ false → front 32 false text ≡ [] → ⊥
unspaced-some behind text is some none =
    filled-some text some (is ∙ unspaced-front behind (sym (ap (λ (t : List ℕ). front 32 false t) is) ∙ none))

pub filled-ok : (result : Result (Unit {0}) Refusal) (seen after : Seen) (moment : ℤ) (line head fields time measurement : List ℕ) (reserved : Bool) (series : List ℕ) (old new : List Point)
    → None ≡ head_code head → head ≡ head_of line → fields ≡ fields_text line → (fields ≡ [] → ⊥) → time ≡ time_text line
    → Told head measurement reserved series
    → OnOk result ((added : List Point) × (new ≡ old ++ added) × (rest_of seen moment measurement reserved series fields time ≡ Ok (record { points = added; seen = after })))
    → OnOk result (Added seen after old new (LineIs seen moment line))
filled-ok result seen after moment line head fields time measurement reserved series old new fine is text some at told given =
    on_ok_weaker result
    (λ (one : (added : List Point) × (new ≡ old ++ added) × (rest_of seen moment measurement reserved series fields time ≡ Ok (record { points = added; seen = after }))).
    (one.0, one.1, line-filled seen moment line head fields time measurement reserved series (Ok (record { points = one.0; seen = after })) fine is text some at told one.2))
    given

pub filled-refused : (result : Result (Unit {0}) Refusal) (seen : Seen) (moment : ℤ) (line head fields time measurement : List ℕ) (reserved : Bool) (series : List ℕ)
    → None ≡ head_code head → head ≡ head_of line → fields ≡ fields_text line → (fields ≡ [] → ⊥) → time ≡ time_text line
    → Told head measurement reserved series
    → IfErr result (λ refusal. Refuses refusal (rest_of seen moment measurement reserved series fields time))
    → IfErr result (λ refusal. IsRefusal refusal (λ code. LineIs seen moment line (Err code)))
filled-refused result seen moment line head fields time measurement reserved series fine is text some at told given =
    let reading = rest_of seen moment measurement reserved series fields time in
    IfErr-weaker result (λ refusal. Refuses refusal reading) (λ refusal. IsRefusal refusal (λ code. LineIs seen moment line (Err code)))
    (λ refusal refused. refused-from refusal reading (λ code. LineIs seen moment line (Err code)) (λ code one. line-filled seen moment line head fields time measurement reserved series (Err code) fine is text some at told one) refused)
    given

-- the points that were added to others, where the keys of their fields were let through
added-by : (step : Result Bool LineCode) (all more : List Point) → (step >>= λ fits. let r : Result (List Point) LineCode = Ok all in r) ≡ Ok more → (fits : Bool) × (step ≡ Ok fits) × (more ≡ all)
added-by (Ok fits) all more e = (fits, refl, cc)
added-by (Err code) all more e = absurd (cc)

-- the steps behind the head, where each has a value
pub rest-ok : (seen after : Seen) (moment : ℤ) (measurement : List ℕ) (reserved : Bool) (series fields time : List ℕ) (found : List Field) (at : ℤ) (points more : List Point)
    → fields_of (parts 44 false fields) ≡ Ok found → time_of moment time ≡ Ok at → unless (reserved || has_time_field found) ReservedName ≡ Ok true
    → with_points points at series found ≡ Ok more → note_all seen measurement found ≡ Ok after
    → (added : List Point) × (more ≡ points ++ added) × (rest_of seen moment measurement reserved series fields time ≡ Ok (record { points = added; seen = after }))
unfolding rest_of
rest-ok seen after moment measurement reserved series fields time found at points more e1 e2 e3 e4 e5 =
    let keyed = added-by (keys_step series found) (points ++ points_of at series found) more e4 in
    (points_of at series found, keyed.2, rw (e1, e2, e3, keyed.1, e5) refl)

-- the same, up to each step that refuses
pub rest-fields : (refusal : Refusal) (seen : Seen) (moment : ℤ) (measurement : List ℕ) (reserved : Bool) (series fields time : List ℕ)
    → Refuses refusal (fields_of (parts 44 false fields)) → Refuses refusal (rest_of seen moment measurement reserved series fields time)
unfolding rest_of
rest-fields (Code code) seen moment measurement reserved series fields time e1 = rw (e1) refl
rest-fields Memory seen moment measurement reserved series fields time e1 = tt

pub rest-time : (refusal : Refusal) (seen : Seen) (moment : ℤ) (measurement : List ℕ) (reserved : Bool) (series fields time : List ℕ) (found : List Field)
    → fields_of (parts 44 false fields) ≡ Ok found → Refuses refusal (time_of moment time) → Refuses refusal (rest_of seen moment measurement reserved series fields time)
unfolding rest_of
rest-time (Code code) seen moment measurement reserved series fields time found e1 e2 = rw (e1, e2) refl
rest-time Memory seen moment measurement reserved series fields time found e1 e2 = tt

pub rest-names : (refusal : Refusal) (seen : Seen) (moment : ℤ) (measurement : List ℕ) (reserved : Bool) (series fields time : List ℕ) (found : List Field) (at : ℤ)
    → fields_of (parts 44 false fields) ≡ Ok found → time_of moment time ≡ Ok at → Refuses refusal (unless (reserved || has_time_field found) ReservedName)
    → Refuses refusal (rest_of seen moment measurement reserved series fields time)
unfolding rest_of
rest-names (Code code) seen moment measurement reserved series fields time found at e1 e2 e3 = rw (e1, e2, e3) refl
rest-names Memory seen moment measurement reserved series fields time found at e1 e2 e3 = tt

refused-by : (step : Result Bool LineCode) (all : List Point) (code : LineCode) → (step >>= λ fits. let r : Result (List Point) LineCode = Ok all in r) ≡ Err code → step ≡ Err code
refused-by (Ok fits) all code e = absurd (cc)
refused-by (Err other) all code e = cc

pub rest-keys : (refusal : Refusal) (seen : Seen) (moment : ℤ) (measurement : List ℕ) (reserved : Bool) (series fields time : List ℕ) (found : List Field) (at : ℤ) (points : List Point)
    → fields_of (parts 44 false fields) ≡ Ok found → time_of moment time ≡ Ok at → unless (reserved || has_time_field found) ReservedName ≡ Ok true
    → Refuses refusal (with_points points at series found)
    → Refuses refusal (rest_of seen moment measurement reserved series fields time)
unfolding rest_of
rest-keys (Code code) seen moment measurement reserved series fields time found at points e1 e2 e3 e4 = rw (e1, e2, e3, refused-by (keys_step series found) (points ++ points_of at series found) code e4) refl
rest-keys Memory seen moment measurement reserved series fields time found at points e1 e2 e3 e4 = tt

pub rest-kinds : (refusal : Refusal) (seen : Seen) (moment : ℤ) (measurement : List ℕ) (reserved : Bool) (series fields time : List ℕ) (found : List Field) (at : ℤ) (points more : List Point)
    → fields_of (parts 44 false fields) ≡ Ok found → time_of moment time ≡ Ok at → unless (reserved || has_time_field found) ReservedName ≡ Ok true
    → with_points points at series found ≡ Ok more → Refuses refusal (note_all seen measurement found)
    → Refuses refusal (rest_of seen moment measurement reserved series fields time)
unfolding rest_of
rest-kinds (Code code) seen moment measurement reserved series fields time found at points more e1 e2 e3 e4 e5 =
    let keyed = added-by (keys_step series found) (points ++ points_of at series found) more e4 in
    rw (e1, e2, e3, keyed.1, e5) refl
rest-kinds Memory seen moment measurement reserved series fields time found at points more e1 e2 e3 e4 e5 = tt
