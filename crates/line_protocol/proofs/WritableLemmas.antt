-- A batch that is read may be handed to a store: each field of a measurement has one kind in it, its keys are keys, and its record fits a log.
use Rattle.std.proofs.Common.{◌≡◌, ℕ, zero, suc, ◌+◌, ◌*◌, ◌<◌, ◌≤◌, Bool, true, false, cond, ◌&&◌, ◌||◌, ltb, inl, inr, ⊎_elim, Option, Some, None, Result, Ok, Err, List, [], ◌∷◌, ◌++◌, length, get_or, take, drop, ℤ, refl, sym, ap, subst, ◌∙◌, IsTrue, nat_eq, arith}
use Rattle.std.specs.Bool.{MatchBool}
use Rattle.std.specs.Option.{MatchOption}
use Rattle.std.specs.Cmp.Lexicographic.{pointwise}
use Rattle.std.specs.List.{All}
use Rattle.std.specs.Map.{update}
use Rattle.std.specs.Str.{bytes_eq}
use Rattle.std.proofs.lemmas.Bool.{false≢true, cases_lt}
use Rattle.std.proofs.lemmas.Bool.Decides.{Decides-ltb}
use Rattle.std.proofs.lemmas.List.Elements.{All-contains}
use Rattle.std.proofs.lemmas.Map.{update_same, update_other}
use Rattle.std.proofs.lemmas.Slice.Eq.{bytes_eq-Decides}
use Rattle.tsdb_types.specs.Keys.{mark, key_of, IsFirstMark}
use Rattle.tsdb_types.specs.Series.{measurement_ends_at}
use Rattle.tsdb_types.specs.Values.{kind_of}
use Rattle.tsdb_types.specs.declared.point.Point.{Point}
use Rattle.tsdb_types.specs.declared.value.Kind.{Kind}
use Rattle.tsdb_types.specs.declared.value.Kind.TheVariants.{Integer, Unsigned, Boolean}
use Rattle.point_model.specs.Acceptance.{IsKeyed, IsWritable}
use Rattle.point_model.specs.Sizes.{runs_length, write_length, most_bytes}
use Rattle.point_model.specs.Measurements.{measurement_head, is_same_field}
use Rattle.line_protocol.specs.declared.fault.LineCode.{LineCode}
use Rattle.line_protocol.specs.declared.fault.LineCode.TheVariants.{DuplicateTag, NoField, KeyTooLong, MarkInKey, ReservedName, KindInBatch}
use Rattle.line_protocol.specs.declared.field.Field.{Field}
use Rattle.line_protocol.specs.Batches.{Points, lines_of, points_before, Follows, LinesAre, Lines, IsTooLong, line_count}
use Rattle.line_protocol.specs.Fields.{fields_of}
use Rattle.line_protocol.specs.Heads.{head_code, measurement_of, tags_of, has_time_tag}
use Rattle.line_protocol.specs.Kinds.{Seen, nothing_seen, place_of, is_same, note_behind, note, note_all}
use Rattle.line_protocol.specs.Lines.{Read, time_of, has_time_field, points_of, is_cut_short, key_step, keys_step, rest_of, head_of, fields_text, time_text, is_skipped, FieldsAre, TagsAre, LineIs, AnyLineIs}
use Rattle.line_protocol.specs.Names.{unescaped}
use Rattle.line_protocol.specs.Parts.{parts, trimmed}
use Rattle.line_protocol.specs.Readings.{◌>>=◌, unless}
use Rattle.line_protocol.proofs.ClosedLemmas.{measurement-closed, key-measurement}
use Rattle.line_protocol.proofs.LineLemmas.{cut-at}
use Rattle.line_protocol.proofs.PartLemmas.{decided}
use Rattle.line_protocol.proofs.SizeLemmas.{total, runs-both, line-size, trimmed-le, lines-total, lines-counted}

-- the fact holds of each of these
abbrev Each : {X : Type 0} → (X → Type 0) → List X → Type 0
Each P [] = Unit {0}
Each P (x ∷ xs) = P x × Each P xs

each-both : {X : Type 0} (P : X → Type 0) (xs ys : List X) → Each P xs → Each P ys → Each P (xs ++ ys)
each-both P [] ys h k = k
each-both P (x ∷ xs) ys h k = (h.0, each-both P xs ys h.1 k)

each-weaker : {X : Type 0} (P Q : X → Type 0) → ((x : X) → P x → Q x) → (xs : List X) → Each P xs → Each Q xs
each-weaker P Q f [] h = tt
each-weaker P Q f (x ∷ xs) h = (f x h.0, each-weaker P Q f xs h.1)

each-at : {X : Type 0} (P : X → Type 0) (x : X) (xs : List X) → Each P (x ∷ xs) → (k : ℕ) (d : X) → k < length (x ∷ xs) → P (get_or (x ∷ xs) k d)
each-at P x xs h zero d l = h.0
each-at P x [] h (suc k) d l = absurd (omega arith)
each-at P x (y ∷ xs) h (suc k) d l = each-at P y xs h.1 k d (omega arith)

each-all : {X : Type 0} (P : X → Type 0) (xs : List X) → Each P xs → All P xs
each-all P [] h = λ k d l. absurd (omega arith)
each-all P (x ∷ xs) h = λ k d l. each-at P x xs h k d l

-- a step that has a value, and what follows it
bind-ok : {X Y : Type 0} (step : Result X LineCode) (next : X → Result Y LineCode) (y : Y) → (step >>= next) ≡ Ok y → (x : X) × (step ≡ Ok x) × (next x ≡ Ok y)
bind-ok (Ok x) next y e = (x, refl, e)
bind-ok (Err code) next y e = absurd (cc)

unless-ok : (fault : Bool) (code : LineCode) (t : Bool) → unless fault code ≡ Ok t → fault ≡ false
unless-ok true code t e = absurd (cc)
unless-ok false code t e = refl

same-kind : (kind other : Kind) → is_same kind other ≡ true → kind ≡ other
same-kind Integer Integer e = refl
same-kind Integer Unsigned e = absurd (false≢true e)
same-kind Integer Boolean e = absurd (false≢true e)
same-kind Unsigned Integer e = absurd (false≢true e)
same-kind Unsigned Unsigned e = refl
same-kind Unsigned Boolean e = absurd (false≢true e)
same-kind Boolean Integer e = absurd (false≢true e)
same-kind Boolean Unsigned e = absurd (false≢true e)
same-kind Boolean Boolean e = refl

-- whatever kind a place had it has still
abbrev Keeps : Seen → Seen → Type 0
Keeps seen after = (at : List ℕ) (kind : Kind) → seen at ≡ Some kind → after at ≡ Some kind

abbrev to_seen : Seen → Result Seen LineCode
to_seen seen = Ok seen

seen-of : (seen after : Seen) → to_seen seen ≡ to_seen after → seen ≡ after
seen-of seen after e = cc

none≢some : (kind : Kind) → let none : Option Kind = None in none ≡ Some kind → ⊥
none≢some kind e = cc

note-kept : (before : Option Kind) (seen after : Seen) (place : List ℕ) (kind : Kind) → seen place ≡ before → note_behind before seen place kind ≡ Ok after
    → (after place ≡ Some kind) × Keeps seen after
note-kept None seen after place kind is e =
    let new : Seen = update bytes_eq seen place (Some kind) in
    let same : new ≡ after = seen-of new after e in (
      ap (λ (s : Seen). s place) (sym same) ∙ update_same bytes_eq seen place (Some kind) place ((bytes_eq-Decides place place).1 refl),
      λ at held h.
          ap (λ (s : Seen). s at) (sym same)
          ∙ ⊎_elim
          (λ (t : bytes_eq place at ≡ true). absurd (none≢some held (sym is ∙ ap seen ((bytes_eq-Decides place at).0 t) ∙ h)))
          (λ (f : bytes_eq place at ≡ false). update_other bytes_eq seen place (Some kind) at f ∙ h)
          (decided (bytes_eq place at)),
    )
note-kept (Some before) seen after place kind is e =
    ⊎_elim
    (λ (t : is_same before kind ≡ true).
    let same : seen ≡ after = seen-of seen after (sym (ap (λ (b : Bool). let r : Result Seen LineCode = cond b (Ok seen) (Err KindInBatch) in r) t) ∙ e) in
    let holds : (seen place ≡ Some kind) × Keeps seen seen = (is ∙ ap (λ (k : Kind). Some k) (same-kind before kind t), λ at held h. h) in
    subst (λ (s : Seen). (s place ≡ Some kind) × Keeps seen s) same holds)
    (λ (f : is_same before kind ≡ false).
    let wrong : to_seen after ≡ Err KindInBatch = sym e ∙ ap (λ (b : Bool). let r : Result Seen LineCode = cond b (Ok seen) (Err KindInBatch) in r) f in
    absurd (cc))
    (decided (is_same before kind))

-- the field's kind is noted at its place
abbrev IsNoted : Seen → List ℕ → Field → Type 0
IsNoted seen measurement field = seen (place_of measurement field.name) ≡ Some (kind_of field.value)

noted-kept : (measurement : List ℕ) (fields : List Field) (seen after : Seen) → note_all seen measurement fields ≡ Ok after
    → Each (IsNoted after measurement) fields × Keeps seen after
noted-kept measurement [] seen after e = (tt, subst (λ (s : Seen). Keeps seen s) (seen-of seen after e) (λ at kind h. h))
noted-kept measurement (field ∷ fields) seen after e =
    let place = place_of measurement field.name in
    let step = bind-ok (note seen place (kind_of field.value)) (λ (s : Seen). note_all s measurement fields) after e in
    let first = note-kept (seen place) seen step.0 place (kind_of field.value) refl step.1 in
    let rest = noted-kept measurement fields step.0 after step.2 in
    ((rest.1 place (kind_of field.value) first.0, rest.0), λ at kind h. rest.1 at kind (first.1 at kind h))

-- the key of a series and a field that the steps let through
abbrev IsKey : List ℕ → List ℕ → Type 0
IsKey series field = (length (key_of series field) ≤ 65535) × IsFirstMark (key_of series field) (length series)

drop-front : (front behind : List ℕ) → drop (length front) (front ++ behind) ≡ behind
drop-front [] behind = refl
drop-front (byte ∷ front) behind = drop-front front behind

step-key : (series field : List ℕ) (t : Bool) → key_step series field ≡ Ok t → IsKey series field
step-key series field t e =
    let n = length (key_of series field) in
    let Step : Type 0 = Result Bool LineCode in
    let cut = is_cut_short series field in
    ⊎_elim
    (λ (long : ltb 65535 n ≡ true).
    let wrong : key_step series field ≡ Err KeyTooLong = ap (λ (b : Bool). let s : Result Bool LineCode = cond b (Err KeyTooLong) (unless cut MarkInKey) in s) long in
    let both : key_step series field ≡ Ok t = e in
    absurd (cc))
    (λ (short : ltb 65535 n ≡ false).
    let rest : unless cut MarkInKey ≡ Ok t = sym (ap (λ (b : Bool). let s : Result Bool LineCode = cond b (Err KeyTooLong) (unless cut MarkInKey) in s) short) ∙ e in
    let whole = unless-ok cut MarkInKey t rest in
    let fits : n ≤ 65535 =
    ⊎_elim
    (λ (l : 65535 < n). absurd (false≢true (sym short ∙ (Decides-ltb 65535 n).1 l)))
    (λ (l : n ≤ 65535). l)
    (cases_lt 65535 n)
    in (
      fits,
      record {
        stands = ap (λ (b : List ℕ). take 4 b) (drop-front series (mark ++ field));
        first = λ before l m. false≢true (sym whole ∙ cut-at series field before l m);
      },
    ))
    (decided (ltb 65535 n))

steps-keys : (series : List ℕ) (fields : List Field) (t : Bool) → keys_step series fields ≡ Ok t → Each (λ field. IsKey series field.name) fields
steps-keys series [] t e = tt
steps-keys series (field ∷ fields) t e =
    let step = bind-ok (key_step series field.name) (λ (fits : Bool). keys_step series fields) t e in
    (step-key series field.name step.0 step.1, steps-keys series fields t step.2)

-- what the steps behind the head leave where each has a value
record RestRead (text : List ℕ) (seen : Seen) (measurement series : List ℕ) (read : Read) : Type 0 where
  fields : List Field
  at : ℤ
  is : read.points ≡ points_of at series fields
  spelled : fields_of (parts 44 false text) ≡ Ok fields
  keys : Each (λ field. IsKey series field.name) fields
  noted : Each (IsNoted read.seen measurement) fields
  kept : Keeps seen read.seen

abbrev to_read : List Point → Seen → Read
to_read points seen = record { points = points; seen = seen }

abbrev read_ok : Read → Result Read LineCode
read_ok read = Ok read

read-of : (read other : Read) → read_ok read ≡ read_ok other → read ≡ other
read-of read other e = cc

rest-read : (seen : Seen) (moment : ℤ) (measurement : List ℕ) (reserved : Bool) (series fields time : List ℕ) (read : Read)
    → rest_of seen moment measurement reserved series fields time ≡ Ok read → RestRead fields seen measurement series read
unfolding rest_of
rest-read seen moment measurement reserved series fields time read e =
    let one = bind-ok (fields_of (parts 44 false fields))
    (λ (found : List Field). time_of moment time >>= λ at. unless (reserved || has_time_field found) ReservedName >>= λ unreserved. keys_step series found >>= λ keyed. note_all seen measurement found >>= λ after. Ok (to_read (points_of at series found) after))
    read e in
    let found = one.0 in
    let two = bind-ok (time_of moment time)
    (λ (at : ℤ). unless (reserved || has_time_field found) ReservedName >>= λ unreserved. keys_step series found >>= λ keyed. note_all seen measurement found >>= λ after. Ok (to_read (points_of at series found) after))
    read one.2 in
    let at = two.0 in
    let three = bind-ok (unless (reserved || has_time_field found) ReservedName)
    (λ (unreserved : Bool). keys_step series found >>= λ keyed. note_all seen measurement found >>= λ after. Ok (to_read (points_of at series found) after))
    read two.2 in
    let four = bind-ok (keys_step series found) (λ (keyed : Bool). note_all seen measurement found >>= λ after. Ok (to_read (points_of at series found) after)) read three.2 in
    let five = bind-ok (note_all seen measurement found) (λ (after : Seen). Ok (to_read (points_of at series found) after)) read four.2 in
    let same : to_read (points_of at series found) five.0 ≡ read = read-of (to_read (points_of at series found) five.0) read five.2 in
    let noted = noted-kept measurement found seen five.0 five.1 in
    let here : RestRead fields seen measurement series (to_read (points_of at series found) five.0) = record {
      fields = found;
      at = at;
      is = refl;
      spelled = one.1;
      keys = steps-keys series found four.0 four.1;
      noted = noted.0;
      kept = noted.1;
    } in
    subst (λ (r : Read). RestRead fields seen measurement series r) same here

-- where the point's field is noted, by what the point alone tells
abbrev place_at : Point → List ℕ
place_at point = place_of (unescaped measurement_ends_at (measurement_head point.cell.series)) point.cell.field

-- the point's key is one, and its kind is noted
abbrev IsGood : Seen → Point → Type 0
IsGood seen point = IsKeyed point × (seen (place_at point) ≡ Some (kind_of point.value))

fields-good : (seen : Seen) (measurement series : List ℕ) (at : ℤ) → unescaped measurement_ends_at (measurement_head series) ≡ measurement
    → (fields : List Field) → Each (λ field. IsKey series field.name) fields → Each (IsNoted seen measurement) fields → Each (IsGood seen) (points_of at series fields)
fields-good seen measurement series at is [] keys noted = tt
fields-good seen measurement series at is (field ∷ fields) keys noted = (
  (record { fits = keys.0.0; marked = keys.0.1 }, ap (λ (m : List ℕ). seen (place_of m field.name)) is ∙ noted.0),
  fields-good seen measurement series at is fields keys.1 noted.1,
)

first-key : (series : List ℕ) (fields : List Field) (field : Field) (others : List Field) → fields ≡ field ∷ others → Each (λ field. IsKey series field.name) fields → length (key_of series field.name) ≤ 65535
first-key series fields field others are keys =
    let first : Each (λ field. IsKey series field.name) (field ∷ others) = subst (λ (fs : List Field). Each (λ field. IsKey series field.name) fs) are keys in
    first.0.0

-- what a line that is read leaves
record LineRead (seen : Seen) (line : List ℕ) (read : Read) : Type 0 where
  good : Each (IsGood read.seen) read.points
  kept : Keeps seen read.seen
  sized : runs_length read.points ≤ 65541 + 20 * length line

filled-read : (seen : Seen) (moment : ℤ) (line : List ℕ) (read : Read) → FieldsAre seen moment line (Ok read) → LineRead seen line read
filled-read seen moment line read (inl none) = let e : read_ok read ≡ Err NoField = none.1 in absurd (cc)
filled-read seen moment line read (inr some) =
    let head = head_of line in
    let measurement = measurement_of head in
    let series = some.1 in
    let rest = rest-read seen moment measurement (has_time_tag (tags_of head)) series (fields_text line) (time_text line) read (sym some.3) in
    let first = key-measurement measurement (tags_of head) series (measurement-closed line some.0) some.2 in
    record {
      good = subst (λ (ps : List Point). Each (IsGood read.seen) ps) (sym rest.is) (fields-good read.seen measurement series rest.at first rest.fields rest.keys rest.noted);
      kept = rest.kept;
      sized = subst (λ (ps : List Point). runs_length ps ≤ 65541 + 20 * length line) (sym rest.is)
          (line-size rest.at line series rest.fields rest.spelled (λ field others are. first-key series rest.fields field others are rest.keys));
    }

tags-read : (seen : Seen) (moment : ℤ) (line : List ℕ) (read : Read) → TagsAre seen moment line (Ok read) → LineRead seen line read
tags-read seen moment line read (inl twice) = let e : read_ok read ≡ Err DuplicateTag = twice.1 in absurd (cc)
tags-read seen moment line read (inr differ) = filled-read seen moment line read differ.1

head-read : (code : Option LineCode) (seen : Seen) (moment : ℤ) (line : List ℕ) (read : Read)
    → MatchOption code (TagsAre seen moment line (Ok read)) (λ c. read_ok read ≡ Err c) → LineRead seen line read
head-read None seen moment line read is = tags-read seen moment line read is
head-read (Some code) seen moment line read is = absurd (cc)

any-read : (skipped : Bool) (seen : Seen) (moment : ℤ) (line : List ℕ) (read : Read)
    → MatchBool skipped (read_ok read ≡ read_ok (to_read [] seen)) (LineIs seen moment line (Ok read)) → LineRead seen line read
any-read true seen moment line read is =
    let nothing : LineRead seen line (to_read [] seen) = record { good = tt; kept = λ at kind h. h; sized = omega arith } in
    subst (λ (r : Read). LineRead seen line r) (sym (read-of read (to_read [] seen) is)) nothing
any-read false seen moment line read is = head-read (head_code (head_of line)) seen moment line read is

-- what lines that are read leave
record LinesRead (lines : List (List ℕ)) (seen : Seen) (points : List Point) : Type 0 where
  after : Seen
  good : Each (IsGood after) points
  kept : Keeps seen after
  sized : runs_length points ≤ 65541 * length lines + 20 * total lines

abbrev points_ok : List Point → Points
points_ok points = Ok points

points-of : (points others : List Point) → points_ok points ≡ points_ok others → points ≡ others
points-of points others e = cc

before-ok : (first : List Point) (others : Points) (points : List Point) → points_ok points ≡ points_before first others → (more : List Point) × (others ≡ Ok more) × (points ≡ first ++ more)
before-ok first (Ok more) points e = (more, refl, points-of points (first ++ more) e)
before-ok first (Err at) points e = absurd (cc)

lines-after : (line : List ℕ) (lines : List (List ℕ)) (number : ℕ) (read : Result Read LineCode) (seen : Seen) (Others : Seen → Points → Type 0) (points : List Point)
    → ((r : Read) → read ≡ Ok r → LineRead seen (trimmed line) r)
    → ((s : Seen) (more : List Point) → Others s (Ok more) → LinesRead lines s more)
    → Follows number read Others (Ok points) → LinesRead (line ∷ lines) seen points
lines-after line lines number (Ok first) seen Others points read behind_read is =
    let cut = before-ok first.points is.0 points is.2 in
    let here = read first refl in
    let behind = behind_read first.seen cut.0 (subst (λ (r : Points). Others first.seen r) cut.1 is.1) in
    let good = each-weaker (IsGood first.seen) (IsGood behind.after) (λ p g. (g.0, behind.kept (place_at p) (kind_of p.value) g.1)) first.points here.good in
    record {
      after = behind.after;
      good = subst (λ (ps : List Point). Each (IsGood behind.after) ps) (sym cut.2) (each-both (IsGood behind.after) first.points cut.0 good behind.good);
      kept = λ at kind h. behind.kept at kind (here.kept at kind h);
      sized = subst (λ (ps : List Point). runs_length ps ≤ 65541 * length (line ∷ lines) + 20 * total (line ∷ lines)) (sym cut.2)
          (omega (arith, runs-both first.points cut.0, here.sized, behind.sized, trimmed-le line));
    }
lines-after line lines number (Err code) seen Others points read behind_read is = absurd (cc)

lines-read : (moment : ℤ) (lines : List (List ℕ)) (number : ℕ) (seen : Seen) (points : List Point) → LinesAre moment lines number seen (Ok points) → LinesRead lines seen points
lines-read moment [] number seen points is =
    let nothing : LinesRead [] seen [] = record { after = seen; good = tt; kept = λ at kind h. h; sized = omega arith } in
    subst (λ (ps : List Point). LinesRead [] seen ps) (sym (points-of points [] is)) nothing
lines-read moment (line ∷ lines) number seen points is =
    lines-after line lines number is.0 seen (λ s r. LinesAre moment lines (number + 1) s r) points
    (λ r e. any-read (is_skipped (trimmed line)) seen moment (trimmed line) r (subst (λ (read : Result Read LineCode). AnyLineIs seen moment (trimmed line) read) e is.1))
    (λ s more are. lines-read moment lines (number + 1) s more are)
    is.2

some-of : (kind other : Kind) → let one : Option Kind = Some kind in one ≡ Some other → kind ≡ other
some-of kind other e = cc

pointwise-same : (xs ys : List ℕ) → pointwise nat_eq xs ys ≡ true → xs ≡ ys
pointwise-same xs ys e = (bytes_eq-Decides xs ys).0 e

both-first : (a b : Bool) → (a && b) ≡ true → a ≡ true
both-first true b e = refl
both-first false b e = absurd (false≢true e)

both-second : (a b : Bool) → (a && b) ≡ true → b ≡ true
both-second true b e = e
both-second false b e = absurd (false≢true e)

-- points of one field have one place
same-place : (a b : Point) → IsTrue (is_same_field a.cell b.cell) → place_at a ≡ place_at b
same-place a b is =
    let heads = pointwise nat_eq (measurement_head a.cell.series) (measurement_head b.cell.series) in
    let fields = pointwise nat_eq a.cell.field b.cell.field in
    ap (λ (h : List ℕ). place_of (unescaped measurement_ends_at h) a.cell.field) (pointwise-same (measurement_head a.cell.series) (measurement_head b.cell.series) (both-first heads fields is))
    ∙ ap (λ (f : List ℕ). place_of (unescaped measurement_ends_at (measurement_head b.cell.series)) f) (pointwise-same a.cell.field b.cell.field (both-second heads fields is))

-- the record of the batch isn't too long: 5,001 heads of at most 65,541 bytes, and twenty bytes for each of the text
writes-fit : (text : List ℕ) (points : List Point) → ¬ (IsTooLong text) → runs_length points ≤ 65541 * length (lines_of text) + 20 * total (lines_of text) → write_length points ≤ most_bytes
writes-fit text points short sized =
    let bytes : length text ≤ 16777216 = ⊎_elim
    (λ (long : 16777216 < length text). absurd (short (inl long)))
    (λ (fits : length text ≤ 16777216). fits)
    (cases_lt 16777216 (length text)) in
    let many : line_count text ≤ 5000 = ⊎_elim
    (λ (long : 5000 < line_count text). absurd (short (inr long)))
    (λ (fits : line_count text ≤ 5000). fits)
    (cases_lt 5000 (line_count text)) in
    let heads : length (lines_of text) ≤ 5001 = omega (arith, many, lines-counted text) in
    omega (arith, sized, heads, bytes, lines-total text)

-- a batch may be handed to a store
pub lines-writable : (text : List ℕ) (moment : ℤ) (points : List Point) → Lines text moment points → IsWritable points
lines-writable text moment points is =
    let read = lines-read moment (lines_of text) 1 nothing_seen points is.read in
    let all = each-all (IsGood read.after) points read.good in
    record {
      one_kind = λ a b in_a in_b same.
          let good_a = All-contains (IsGood read.after) points a all in_a in
          let good_b = All-contains (IsGood read.after) points b all in_b in
          some-of (kind_of a.value) (kind_of b.value) (sym good_a.1 ∙ ap read.after (same-place a b same) ∙ good_b.1);
      keyed = λ k d l. (all k d l).0;
      fits = writes-fit text points is.fits read.sized;
    }
