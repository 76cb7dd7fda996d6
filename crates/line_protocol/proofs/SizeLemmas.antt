-- What the points of a batch take in a log's record, by the bytes of its lines.
use Rattle.std.proofs.Common.{◌≡◌, ℕ, zero, suc, ◌+◌, ◌*◌, ◌-◌, ◌<◌, ◌≤◌, Bool, true, false, cond, not, ◌&&◌, eqb, ⊎_elim, Result, Ok, Err, List, [], ◌∷◌, ◌++◌, length, take, ℤ, refl, sym, ap, subst, ◌∙◌, slice_index, count_by, arith}
use Rattle.std.specs.List.{onto_first, slice_split}
use Rattle.std.specs.Str.{bytes_eq}
use Rattle.std.proofs.lemmas.List.{length-append}
use Rattle.std.proofs.lemmas.List.Sums.{sum_by-cons}
use Rattle.std.proofs.lemmas.Slice.Eq.{bytes_eq-Decides}
use Rattle.tsdb_types.specs.Keys.{mark, key_of}
use Rattle.tsdb_types.specs.Series.{tag_ends_at}
use Rattle.tsdb_types.specs.declared.point.Point.{Point}
use Rattle.tsdb_types.specs.declared.value.Value.{Value}
use Rattle.point_model.specs.Sizes.{runs_length, point_length, head_length, goes_on}
use Rattle.line_protocol.specs.declared.fault.LineCode.{LineCode}
use Rattle.line_protocol.specs.declared.fault.LineCode.TheVariants.{BadField}
use Rattle.line_protocol.specs.Batches.{lines_of}
use Rattle.line_protocol.specs.declared.field.Field.{Field}
use Rattle.line_protocol.specs.Fields.{Fields, fields_of, field_of, field_with, first_before, prefixed}
use Rattle.line_protocol.specs.Lines.{points_of, fields_text, behind_head}
use Rattle.line_protocol.specs.Names.{unescaped, begins_with, key_part, value_part}
use Rattle.line_protocol.specs.Parts.{front, rest, parts, unspaced, unspaced_end, is_blank, trimmed, without_return}
use Rattle.line_protocol.specs.Values.{value_of}
use Rattle.line_protocol.proofs.PartLemmas.{decided}

-- the bytes of texts
abbrev pub total : List (List ℕ) → ℕ
total [] = 0
total (text ∷ texts) = length text + total texts

-- what the fields take
abbrev pub weight : List Field → ℕ
weight [] = 0
weight (field ∷ fields) = length field.name + 19 + weight fields

either-le : (b : Bool) (one other : List ℕ) (n : ℕ) → length one ≤ n → length other ≤ n → length (cond b one other) ≤ n
either-le true one other n l r = l
either-le false one other n l r = r

either-total : (b : Bool) (one other : List (List ℕ)) (n : ℕ) → total one ≤ n → total other ≤ n → total (cond b one other) ≤ n
either-total true one other n l r = l
either-total false one other n l r = r

front-le : (mark : ℕ) (slash : Bool) (text : List ℕ) → length (front mark slash text) ≤ length text
front-le mark slash [] = omega arith
front-le mark slash (byte ∷ text) =
    either-le (eqb byte mark && not slash) [] (byte ∷ front mark (eqb byte 92) text) (length (byte ∷ text)) (omega arith) (omega (arith, front-le mark (eqb byte 92) text))

rest-le : (mark : ℕ) (slash : Bool) (text : List ℕ) → length (rest mark slash text) ≤ length text
rest-le mark slash [] = omega arith
rest-le mark slash (byte ∷ text) =
    either-le (eqb byte mark && not slash) (byte ∷ text) (rest mark (eqb byte 92) text) (length (byte ∷ text)) (omega arith) (omega (arith, rest-le mark (eqb byte 92) text))

unspaced-le : (text : List ℕ) → length (unspaced text) ≤ length text
unspaced-le [] = omega arith
unspaced-le (byte ∷ text) =
    either-le (eqb byte 32) (unspaced text) (byte ∷ text) (length (byte ∷ text)) (omega (arith, unspaced-le text)) (omega arith)

fields-text-le : (line : List ℕ) → length (fields_text line) ≤ length line
fields-text-le line = omega (arith, front-le 32 false (behind_head line), unspaced-le (rest 32 false line), rest-le 32 false line)

unescaped-le : (picks : ℕ → Bool) (part : List ℕ) → length (unescaped picks part) ≤ length part
unescaped-le picks [] = omega arith
unescaped-le picks (byte ∷ part) =
    either-le (eqb byte 92 && begins_with picks part) (unescaped picks part) (byte ∷ unescaped picks part) (length (byte ∷ part)) (omega (arith, unescaped-le picks part)) (omega (arith, unescaped-le picks part))

onto-total : (byte : ℕ) (texts : List (List ℕ)) → total (onto_first byte texts) ≤ 1 + total texts
onto-total byte [] = omega arith
onto-total byte (text ∷ texts) = omega arith

parts-total : (mark : ℕ) (slash : Bool) (text : List ℕ) → total (parts mark slash text) ≤ length text
parts-total mark slash [] = omega arith
parts-total mark slash (byte ∷ text) =
    either-total (eqb byte mark && not slash) ([] ∷ parts mark false text) (onto_first byte (parts mark (eqb byte 92) text)) (length (byte ∷ text))
    (omega (arith, parts-total mark false text)) (omega (arith, onto-total byte (parts mark (eqb byte 92) text), parts-total mark (eqb byte 92) text))

some-length : (n : ℕ) → eqb n 0 ≡ false → 1 ≤ n
some-length zero some = absurd (cc)
some-length (suc n) some = omega arith

abbrev field_ok : Field → Result Field LineCode
field_ok field = Ok field

field-of : (field other : Field) → field_ok field ≡ field_ok other → field ≡ other
field-of field other e = cc

abbrev fields_ok : List Field → Fields
fields_ok fields = Ok fields

fields-same : (fields others : List Field) → fields_ok fields ≡ fields_ok others → fields ≡ others
fields-same fields others e = cc

field-told : (key : List ℕ) (v : Result Value LineCode) (field : Field) → field_with key v ≡ field_ok field → length field.name ≡ length (unescaped tag_ends_at key)
field-told key (Ok value) field e = ap (λ (f : Field). length f.name) (sym (field-of (record { name = unescaped tag_ends_at key; value = value }) field e))
field-told key (Err code) field e = absurd (cc)

-- a field is no longer than its part, which isn't empty
field-fits : (part : List ℕ) (field : Field) → field_of part ≡ field_ok field → length field.name + 19 ≤ 20 * length part
field-fits part field e = ⊎_elim
    (λ (is : eqb (length (key_part part)) 0 ≡ true).
    let wrong = sym (ap (λ (b : Bool). let r : Result Field LineCode = cond b (Err BadField) (field_with (key_part part) (value_of (value_part part))) in r) is) ∙ e in
    absurd (cc))
    (λ (is : eqb (length (key_part part)) 0 ≡ false).
    let right = sym (ap (λ (b : Bool). let r : Result Field LineCode = cond b (Err BadField) (field_with (key_part part) (value_of (value_part part))) in r) is) ∙ e in
    let told = field-told (key_part part) (value_of (value_part part)) field right in
    omega (arith, told, unescaped-le tag_ends_at (key_part part), front-le 61 false part, some-length (length (key_part part)) is))
    (decided (eqb (length (key_part part)) 0))

before-fits : (r : Result Field LineCode) (s : Fields) (fields : List Field) (size sizes : ℕ) → first_before r s ≡ fields_ok fields
    → ((field : Field) → r ≡ field_ok field → length field.name + 19 ≤ size)
    → ((others : List Field) → s ≡ fields_ok others → weight others ≤ sizes)
    → weight fields ≤ size + sizes
before-fits (Ok field) (Ok others) fields size sizes e one more =
    let same = fields-same (field ∷ others) fields e in
    omega (arith, ap weight same, one field refl, more others refl)
before-fits (Ok field) (Err code) fields size sizes e one more = absurd (cc)
before-fits (Err code) s fields size sizes e one more = absurd (cc)

-- fields are no longer than their parts
fields-fit : (texts : List (List ℕ)) (fields : List Field) → fields_of texts ≡ fields_ok fields → weight fields ≤ 20 * total texts
fields-fit [] fields e = omega (arith, ap weight (fields-same [] fields e))
fields-fit (part ∷ texts) fields e =
    let both = before-fits (field_of part) (fields_of texts) fields (20 * length part) (20 * total texts) e (λ field is. field-fits part field is) (λ others are. fields-fit texts others are) in
    omega (arith, both)

one-run : (at : ℤ) (series : List ℕ) (fields : List Field) → runs_length (points_of at series fields) ≤ length series + 6 + weight fields
one-run at series [] = omega arith
one-run at series (field ∷ []) = omega arith
one-run at series (field ∷ next ∷ fields) =
    let goes : cond (bytes_eq series series) 0 (length series + 6) ≡ 0 = ap (λ (b : Bool). cond b 0 (length series + 6)) ((bytes_eq-Decides series series).1 refl) in
    let step : runs_length (points_of at series (field ∷ next ∷ fields)) ≡ length field.name + 19 + cond (bytes_eq series series) 0 (length series + 6) + runs_length (points_of at series (next ∷ fields)) = refl in
    omega (arith, goes, step, one-run at series (next ∷ fields))

head-le : (b : Bool) (n : ℕ) → cond b 0 n ≤ n
head-le true n = omega arith
head-le false n = omega arith

-- points behind others add at most what they take alone
pub runs-both : (points others : List Point) → runs_length (points ++ others) ≤ runs_length points + runs_length others
runs-both [] others = omega arith
runs-both (point ∷ []) others =
    let step : runs_length (point ∷ others) ≡ point_length point + cond (goes_on point others) 0 (head_length point) + runs_length others = refl in
    let one : runs_length (point ∷ []) ≡ point_length point + head_length point + 0 = refl in
    omega (arith, step, one, head-le (goes_on point others) (head_length point))
runs-both (point ∷ next ∷ points) others =
    let h = cond (bytes_eq point.cell.series next.cell.series) 0 (head_length point) in
    let step : runs_length (point ∷ next ∷ (points ++ others)) ≡ point_length point + h + runs_length (next ∷ (points ++ others)) = refl in
    let one : runs_length (point ∷ next ∷ points) ≡ point_length point + h + runs_length (next ∷ points) = refl in
    omega (arith, step, one, runs-both (next ∷ points) others)

series-le : (series behind : List ℕ) → length series ≤ length (series ++ behind)
series-le series behind = omega (arith, length-append series behind)

-- the points of a line, by the line: its series is short where a field's key is
pub line-size : (at : ℤ) (line series : List ℕ) (fields : List Field) → fields_of (parts 44 false (fields_text line)) ≡ fields_ok fields
    → ((field : Field) (others : List Field) → fields ≡ field ∷ others → length (key_of series field.name) ≤ 65535)
    → runs_length (points_of at series fields) ≤ 65541 + 20 * length line
line-size at line series [] found keys = omega arith
line-size at line series (field ∷ fields) found keys =
    let key = keys field fields refl in
    omega (arith, key, series-le series (mark ++ field.name), one-run at series (field ∷ fields), fields-fit (parts 44 false (fields_text line)) (field ∷ fields) found, parts-total 44 false (fields_text line), fields-text-le line)

unspaced-end-le : (slash : Bool) (text : List ℕ) → length (unspaced_end slash text) ≤ length text
unspaced-end-le slash [] = omega arith
unspaced-end-le slash (byte ∷ text) =
    either-le (is_blank (byte ∷ text) && not slash) [] (byte ∷ unspaced_end (eqb byte 92) text) (length (byte ∷ text)) (omega arith) (omega (arith, unspaced-end-le (eqb byte 92) text))

take-le : (n : ℕ) (text : List ℕ) → length (take n text) ≤ length text
take-le zero text = omega arith
take-le (suc n) [] = omega arith
take-le (suc n) (byte ∷ text) = omega (arith, take-le n text)

return-le : (line : List ℕ) → length (without_return line) ≤ length line
return-le line = by (eqb (slice_index line (length line - 1)) 13)
  where
    by : (b : Bool) → length (cond b (take (length line - 1) line) line) ≤ length line
    by true = take-le (length line - 1) line
    by false = omega arith

pub trimmed-le : (line : List ℕ) → length (trimmed line) ≤ length line
trimmed-le line = omega (arith, unspaced-end-le false (unspaced (without_return line)), unspaced-le (without_return line), return-le line)

onto-length : (byte : ℕ) (texts : List (List ℕ)) (n : ℕ) → length texts ≡ suc n → length (onto_first byte texts) ≡ suc n
onto-length byte [] n e = absurd (omega (arith, e))
onto-length byte (text ∷ texts) n e = e

one-counted : (b : Bool) (byte : ℕ) (texts : List (List ℕ)) (n : ℕ) → length texts ≡ suc n → length (cond b ([] ∷ texts) (onto_first byte texts)) ≡ suc (cond b 1 0 + n)
one-counted true byte texts n e = omega (arith, e)
one-counted false byte texts n e = omega (arith, onto-length byte texts n e)

-- the lines of a text have no more bytes than it, and there is one more than newlines
pub lines-total : (text : List ℕ) → total (lines_of text) ≤ length text
lines-total [] = omega arith
lines-total (byte ∷ text) =
    either-total (eqb byte 10) ([] ∷ lines_of text) (onto_first byte (lines_of text)) (length (byte ∷ text))
    (omega (arith, lines-total text)) (omega (arith, onto-total byte (lines_of text), lines-total text))

pub lines-counted : (text : List ℕ) → length (lines_of text) ≡ suc (count_by (λ byte. eqb byte 10) text)
lines-counted [] = refl
lines-counted (byte ∷ text) =
    one-counted (eqb byte 10) byte (lines_of text) (count_by (λ byte. eqb byte 10) text) (lines-counted text)
    ∙ ap (λ (n : ℕ). suc n) (sym (sum_by-cons (λ byte. cond (eqb byte 10) 1 0) byte text))
