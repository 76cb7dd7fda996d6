-- The parts of a line are texts, and those that are to be names spell names.
use Rattle.std.proofs.Common.{◌≡◌, ◌≢◌, ℕ, zero, suc, ◌-◌, ◌<◌, Bool, true, false, cond, not, ◌&&◌, eqb, ⊎_elim, Result, Ok, Err, List, [], ◌∷◌, ◌++◌, length, get_or, take, drop, refl, sym, ap, subst, ◌∙◌, lit<, arith, length-append}
use Rattle.std.proofs.lemmas.Bool.{false≢true, eqb-true, eq-eqb}
use Rattle.std.proofs.lemmas.List.{append-nil, append_assoc, take-append-drop}
use Rattle.std.proofs.lemmas.Str.{IsUtf8-append, IsUtf8-nil, IsUtf8-take, IsUtf8-drop, IsCharBoundary-before_ascii, IsCharBoundary-after_ascii}
use Rattle.std.proofs.Math.Seq.{drop-append_seam, drop-cons}
use Rattle.std.specs.List.{All}
use Rattle.std.specs.Str.{IsUtf8}
use Rattle.tsdb_types.specs.Names.{IsName}
use Rattle.tsdb_types.specs.Series.{escaped, measurement_ends_at, tag_ends_at}
use Rattle.tsdb_types.specs.declared.value.Value.{Value}
use Rattle.line_protocol.specs.declared.fault.LineCode.{LineCode}
use Rattle.line_protocol.specs.declared.fault.LineCode.TheVariants.{BadField}
use Rattle.line_protocol.specs.Heads.{measurement_part, measurement_of}
use Rattle.line_protocol.specs.Lines.{behind_head, fields_text}
use Rattle.line_protocol.specs.Values.{value_of}
use Rattle.line_protocol.specs.Names.{begins_with, unescaped, behind_first, key_part, value_part}
use Rattle.line_protocol.specs.Parts.{front, rest, line_front, line_rest, unspaced, is_blank, unspaced_end, without_return, trimmed, slashed}
use Rattle.line_protocol.specs.Texts.{IsOneLine, IsClosed, SpellsName, IsSpelling, StartsAscii}
use Rattle.line_protocol.specs.Tokens.{IsNamed}
use Rattle.line_protocol.proofs.ClosedLemmas.{front-rest, name-closed, marked-front}
use Rattle.line_protocol.proofs.PartLemmas.{decided, rest-stops, rest-goes}

get-seam : (xs : List ℕ) (b : ℕ) (ys : List ℕ) → get_or (xs ++ b ∷ ys) (length xs) 0 ≡ b
get-seam [] b ys = refl
get-seam (x ∷ xs) b ys = get-seam xs b ys

take-seam : (xs ys : List ℕ) → take (length xs) (xs ++ ys) ≡ xs
take-seam [] ys = refl
take-seam (x ∷ xs) ys = ap (λ (t : List ℕ). x ∷ t) (take-seam xs ys)

-- a text that is cut before a byte below 128
cut-utf8 : (xs ys : List ℕ) → StartsAscii ys → IsUtf8 (xs ++ ys) → IsUtf8 xs × IsUtf8 ys
cut-utf8 xs [] start u = (subst (λ (t : List ℕ). IsUtf8 t) (append-nil xs) u, IsUtf8-nil)
cut-utf8 xs (b ∷ ys) start u =
    let whole = xs ++ b ∷ ys in
    let n = length xs in
    let within : n < length whole = omega (arith, length-append xs (b ∷ ys)) in
    let low : get_or whole n 0 < 128 = subst (λ (c : ℕ). c < 128) (sym (get-seam xs b ys)) start in
    let at = IsCharBoundary-before_ascii whole n within low in (
      subst (λ (t : List ℕ). IsUtf8 t) (take-seam xs (b ∷ ys)) (IsUtf8-take whole n u at),
      subst (λ (t : List ℕ). IsUtf8 t) (drop-append_seam xs (b ∷ ys)) (IsUtf8-drop whole n u at),
    )

-- a text without its first byte, which is below 128
behind-utf8 : (b : ℕ) (text : List ℕ) → b < 128 → IsUtf8 (b ∷ text) → IsUtf8 text
behind-utf8 b text low u =
    IsUtf8-drop (b ∷ text) 1 u (IsCharBoundary-after_ascii (b ∷ text) 0 u (omega arith) low)

-- a text behind one byte below 128
joined-utf8 : (b : ℕ) (text : List ℕ) → b < 128 → IsUtf8 (b ∷ []) → IsUtf8 text → IsUtf8 (b ∷ text)
joined-utf8 b text low one u = IsUtf8-append (b ∷ []) text one u

abbrev Unbroken : List ℕ → Type 0
Unbroken text = All (λ byte. byte ≢ 10) text

unbroken-behind : (x : ℕ) (xs : List ℕ) → Unbroken (x ∷ xs) → Unbroken xs
unbroken-behind x xs h = λ k d l. h (suc k) d (omega arith)

unbroken-at : (x : ℕ) (xs : List ℕ) → x ≢ 10 → Unbroken xs → (k d : ℕ) → k < length (x ∷ xs) → get_or (x ∷ xs) k d ≢ 10
unbroken-at x xs n h zero d l = n
unbroken-at x xs n h (suc k) d l = h k d (omega arith)

unbroken-cons : (x : ℕ) (xs : List ℕ) → x ≢ 10 → Unbroken xs → Unbroken (x ∷ xs)
unbroken-cons x xs n h = λ k d l. unbroken-at x xs n h k d l

unbroken-nil : Unbroken []
unbroken-nil = λ k d l. absurd (omega arith)

unbroken-front : (xs ys : List ℕ) → Unbroken (xs ++ ys) → Unbroken xs
unbroken-front [] ys h = unbroken-nil
unbroken-front (x ∷ xs) ys h = unbroken-cons x xs (h 0 x (omega arith)) (unbroken-front xs ys (unbroken-behind x (xs ++ ys) h))

unbroken-rest : (xs ys : List ℕ) → Unbroken (xs ++ ys) → Unbroken ys
unbroken-rest [] ys h = h
unbroken-rest (x ∷ xs) ys h = unbroken-rest xs ys (unbroken-behind x (xs ++ ys) h)

-- one line that is cut before a byte below 128
pub cut-line : (xs ys : List ℕ) → StartsAscii ys → IsOneLine (xs ++ ys) → IsOneLine xs × IsOneLine ys
cut-line xs ys start is =
    let texts = cut-utf8 xs ys start is.utf8 in
    (record { utf8 = texts.0; unbroken = unbroken-front xs ys is.unbroken }, record { utf8 = texts.1; unbroken = unbroken-rest xs ys is.unbroken })

pub behind-line : (b : ℕ) (text : List ℕ) → b < 128 → IsOneLine (b ∷ text) → IsOneLine text
behind-line b text low is = record { utf8 = behind-utf8 b text low is.utf8; unbroken = unbroken-behind b text is.unbroken }

mark-eq : (byte mark : ℕ) (more : Bool) → (eqb byte mark && more) ≡ true → byte ≡ mark
mark-eq byte mark more e =
    ⊎_elim
    (λ (t : eqb byte mark ≡ true). eqb-true byte mark t)
    (λ (f : eqb byte mark ≡ false). absurd (false≢true (sym (ap (λ (t : Bool). t && more) f) ∙ e)))
    (decided (eqb byte mark))

pub rest-starts : (mark : ℕ) (slash : Bool) (text : List ℕ) → mark < 128 → StartsAscii (rest mark slash text)
rest-starts mark slash [] low = tt
rest-starts mark slash (byte ∷ text) low =
    ⊎_elim
    (λ (e : (eqb byte mark && not slash) ≡ true).
    subst (λ (t : List ℕ). StartsAscii t) (sym (rest-stops mark slash byte text e)) (subst (λ (c : ℕ). c < 128) (sym (mark-eq byte mark (not slash) e)) low))
    (λ (e : (eqb byte mark && not slash) ≡ false).
    subst (λ (t : List ℕ). StartsAscii t) (sym (rest-goes mark slash byte text e)) (rest-starts mark (eqb byte 92) text low))
    (decided (eqb byte mark && not slash))

-- the front of a line up to a mark, and the rest from the mark on
pub parts-line : (mark : ℕ) (text : List ℕ) → mark < 128 → IsOneLine text → IsOneLine (front mark false text) × IsOneLine (rest mark false text)
parts-line mark text low is =
    cut-line (front mark false text) (rest mark false text) (rest-starts mark false text low)
    (subst (λ (t : List ℕ). IsOneLine t) (sym (front-rest mark false text)) is)

-- what stands behind the mark
pub behind-mark : (mark : ℕ) (text : List ℕ) (first : ℕ) (behind : List ℕ) → mark < 128 → IsOneLine text → rest mark false text ≡ first ∷ behind → IsOneLine behind
behind-mark mark text first behind low is e =
    let start : first < 128 = subst (λ (t : List ℕ). StartsAscii t) e (rest-starts mark false text low) in
    behind-line first behind start (subst (λ (t : List ℕ). IsOneLine t) e (parts-line mark text low is).1)

pub unspaced-line : (text : List ℕ) → IsOneLine text → IsOneLine (unspaced text)
unspaced-line [] is = is
unspaced-line (byte ∷ text) is =
    ⊎_elim
    (λ (e : eqb byte 32 ≡ true).
    let low : byte < 128 = subst (λ (c : ℕ). c < 128) (sym (eqb-true byte 32 e)) (lit< tt) in
    subst (λ (t : Bool). IsOneLine (cond t (unspaced text) (byte ∷ text))) (sym e) (unspaced-line text (behind-line byte text low is)))
    (λ (e : eqb byte 32 ≡ false). subst (λ (t : Bool). IsOneLine (cond t (unspaced text) (byte ∷ text))) (sym e) is)
    (decided (eqb byte 32))

-- the first line of a text, and the lines behind its newline
line_rest-starts : (text : List ℕ) → StartsAscii (line_rest text)
line_rest-starts [] = tt
line_rest-starts (byte ∷ text) =
    ⊎_elim
    (λ (e : eqb byte 10 ≡ true).
    let low : byte < 128 = subst (λ (c : ℕ). c < 128) (sym (eqb-true byte 10 e)) (lit< tt) in
    subst (λ (t : Bool). StartsAscii (cond t (byte ∷ text) (line_rest text))) (sym e) low)
    (λ (e : eqb byte 10 ≡ false). subst (λ (t : Bool). StartsAscii (cond t (byte ∷ text) (line_rest text))) (sym e) (line_rest-starts text))
    (decided (eqb byte 10))

line-whole : (text : List ℕ) → line_front text ++ line_rest text ≡ text
line-whole [] = refl
line-whole (byte ∷ text) =
    ⊎_elim
    (λ (e : eqb byte 10 ≡ true). ap (λ (t : Bool). cond t [] (byte ∷ line_front text) ++ cond t (byte ∷ text) (line_rest text)) e)
    (λ (e : eqb byte 10 ≡ false).
    ap (λ (t : Bool). cond t [] (byte ∷ line_front text) ++ cond t (byte ∷ text) (line_rest text)) e ∙ ap (λ (t : List ℕ). byte ∷ t) (line-whole text))
    (decided (eqb byte 10))

not-newline : (byte : ℕ) → eqb byte 10 ≡ false → byte ≢ 10
not-newline byte e is = false≢true (sym e ∙ eq-eqb byte 10 is)

line-unbroken : (text : List ℕ) → Unbroken (line_front text)
line-unbroken [] = unbroken-nil
line-unbroken (byte ∷ text) =
    ⊎_elim
    (λ (e : eqb byte 10 ≡ true). subst (λ (t : Bool). Unbroken (cond t [] (byte ∷ line_front text))) (sym e) unbroken-nil)
    (λ (e : eqb byte 10 ≡ false). subst (λ (t : Bool). Unbroken (cond t [] (byte ∷ line_front text))) (sym e) (unbroken-cons byte (line_front text) (not-newline byte e) (line-unbroken text)))
    (decided (eqb byte 10))

lines-utf8 : (text : List ℕ) → IsUtf8 text → IsUtf8 (line_front text) × IsUtf8 (line_rest text)
lines-utf8 text u = cut-utf8 (line_front text) (line_rest text) (line_rest-starts text) (subst (λ (t : List ℕ). IsUtf8 t) (sym (line-whole text)) u)

pub next-lines : (text : List ℕ) (first : ℕ) (behind : List ℕ) → IsUtf8 text → line_rest text ≡ first ∷ behind → IsUtf8 behind
next-lines text first behind u e =
    let start : first < 128 = subst (λ (t : List ℕ). StartsAscii t) e (line_rest-starts text) in
    behind-utf8 first behind start (subst (λ (t : List ℕ). IsUtf8 t) e (lines-utf8 text u).1)

-- a line without the carriage return at its end
return-line : (line : List ℕ) → IsOneLine line → IsOneLine (without_return line)
return-line [] is = is
return-line (byte ∷ text) is =
    let line = byte ∷ text in
    let n = length line - 1 in
    let last = get_or line n 0 in
    ⊎_elim
    (λ (e : eqb last 13 ≡ true).
    let within : n < length line = omega arith in
    let low : last < 128 = subst (λ (c : ℕ). c < 128) (sym (eqb-true last 13 e)) (lit< tt) in
    let start : StartsAscii (drop n line) = subst (λ (t : List ℕ). StartsAscii t) (sym (drop-cons line n 0 within)) low in
    let cut = cut-line (take n line) (drop n line) start (subst (λ (t : List ℕ). IsOneLine t) (sym (take-append-drop n line)) is) in
    subst (λ (t : Bool). IsOneLine (cond t (take n line) line)) (sym e) cut.0)
    (λ (e : eqb last 13 ≡ false). subst (λ (t : Bool). IsOneLine (cond t (take n line) line)) (sym e) is)
    (decided (eqb last 13))

blank-first : (byte : ℕ) (more slash : Bool) → ((eqb byte 32 && more) && not slash) ≡ true → byte ≡ 32
blank-first byte more slash e =
    ⊎_elim
    (λ (t : eqb byte 32 ≡ true). eqb-true byte 32 t)
    (λ (f : eqb byte 32 ≡ false). absurd (false≢true (sym (ap (λ (t : Bool). (t && more) && not slash) f) ∙ e)))
    (decided (eqb byte 32))

-- a text is what stays of it before the spaces at its end
record EndSplit (slash : Bool) (text : List ℕ) : Type 0 where
  blank : List ℕ
  whole : unspaced_end slash text ++ blank ≡ text
  start : StartsAscii blank

end-split : (slash : Bool) (text : List ℕ) → EndSplit slash text
end-split slash [] = record { blank = []; whole = refl; start = tt }
end-split slash (byte ∷ text) =
    let behind = end-split (eqb byte 92) text in
    ⊎_elim
    (λ (e : (is_blank (byte ∷ text) && not slash) ≡ true).
    let low : byte < 128 = subst (λ (c : ℕ). c < 128) (sym (blank-first byte (is_blank text) slash e)) (lit< tt) in
    record {
      blank = byte ∷ text;
      whole = ap (λ (t : Bool). cond t [] (byte ∷ unspaced_end (eqb byte 92) text) ++ byte ∷ text) e;
      start = low;
    })
    (λ (e : (is_blank (byte ∷ text) && not slash) ≡ false). record {
      blank = behind.blank;
      whole = ap (λ (t : Bool). cond t [] (byte ∷ unspaced_end (eqb byte 92) text) ++ behind.blank) e ∙ ap (λ (t : List ℕ). byte ∷ t) behind.whole;
      start = behind.start;
    })
    (decided (is_blank (byte ∷ text) && not slash))

end-line : (text : List ℕ) → IsOneLine text → IsOneLine (unspaced_end false text)
end-line text is =
    let split = end-split false text in
    (cut-line (unspaced_end false text) split.blank split.start (subst (λ (t : List ℕ). IsOneLine t) (sym split.whole) is)).0

-- what is read of the first line of a text
pub line-read : (text : List ℕ) → IsUtf8 text → IsOneLine (trimmed (line_front text))
line-read text u =
    let first : IsOneLine (line_front text) = record { utf8 = (lines-utf8 text u).0; unbroken = line-unbroken text } in
    end-line (unspaced (without_return (line_front text))) (unspaced-line (without_return (line_front text)) (return-line (line_front text) first))

-- a text without its escapes is one
spelled-utf8 : (picks : ℕ → Bool) (before text : List ℕ) → IsUtf8 (before ++ text) → IsUtf8 (before ++ unescaped picks text)
spelled-utf8 picks before [] u = u
spelled-utf8 picks before (byte ∷ text) u =
    let more = begins_with picks text in
    ⊎_elim
    (λ (e : (eqb byte 92 && more) ≡ true).
    let low : byte < 128 = subst (λ (c : ℕ). c < 128) (sym (mark-eq byte 92 more e)) (lit< tt) in
    let cut = cut-utf8 before (byte ∷ text) low u in
    let without = IsUtf8-append before text cut.0 (behind-utf8 byte text low cut.1) in
    subst (λ (t : Bool). IsUtf8 (before ++ cond t (unescaped picks text) (byte ∷ unescaped picks text))) (sym e) (spelled-utf8 picks before text without))
    (λ (e : (eqb byte 92 && more) ≡ false).
    let moved : IsUtf8 ((before ++ byte ∷ []) ++ text) = subst (λ (t : List ℕ). IsUtf8 t) (sym (append_assoc before (byte ∷ []) text)) u in
    let behind = spelled-utf8 picks (before ++ byte ∷ []) text moved in
    subst (λ (t : Bool). IsUtf8 (before ++ cond t (unescaped picks text) (byte ∷ unescaped picks text))) (sym e)
    (subst (λ (t : List ℕ). IsUtf8 t) (append_assoc before (byte ∷ []) (unescaped picks text)) behind))
    (decided (eqb byte 92 && more))

pub name-utf8 : (picks : ℕ → Bool) (part : List ℕ) → IsUtf8 part → IsUtf8 (unescaped picks part)
name-utf8 picks part u = spelled-utf8 picks [] part u

spelled-unbroken : (picks : ℕ → Bool) (text : List ℕ) → Unbroken text → Unbroken (unescaped picks text)
spelled-unbroken picks [] h = h
spelled-unbroken picks (byte ∷ text) h =
    let rest = spelled-unbroken picks text (unbroken-behind byte text h) in
    ⊎_elim
    (λ (e : (eqb byte 92 && begins_with picks text) ≡ true). subst (λ (t : Bool). Unbroken (cond t (unescaped picks text) (byte ∷ unescaped picks text))) (sym e) rest)
    (λ (e : (eqb byte 92 && begins_with picks text) ≡ false).
    subst (λ (t : Bool). Unbroken (cond t (unescaped picks text) (byte ∷ unescaped picks text))) (sym e) (unbroken-cons byte (unescaped picks text) (h 0 byte (omega arith)) rest))
    (decided (eqb byte 92 && begins_with picks text))

and-no : (b : Bool) → (b && false) ≡ false
and-no true = refl
and-no false = refl

spelled-some : (picks : ℕ → Bool) (byte : ℕ) (text : List ℕ) → 0 < length (unescaped picks (byte ∷ text))
spelled-some picks byte [] =
    subst (λ (t : Bool). 0 < length (cond t (unescaped picks []) (byte ∷ []))) (sym (and-no (eqb byte 92))) (lit< tt)
spelled-some picks byte (next ∷ text) =
    let rest = unescaped picks (next ∷ text) in
    let behind : 0 < length rest = spelled-some picks next text in
    ⊎_elim
    (λ (e : (eqb byte 92 && picks next) ≡ true). subst (λ (t : Bool). 0 < length (cond t rest (byte ∷ rest))) (sym e) behind)
    (λ (e : (eqb byte 92 && picks next) ≡ false). subst (λ (t : Bool). 0 < length (cond t rest (byte ∷ rest))) (sym e) (omega arith))
    (decided (eqb byte 92 && picks next))

last-closed : (slash : Bool) (byte : ℕ) (text : List ℕ) → slashed slash (byte ∷ text) ≡ false → get_or (byte ∷ text) (length text) 0 ≢ 92
last-closed slash byte [] closed = λ is. false≢true (sym closed ∙ eq-eqb byte 92 is)
last-closed slash byte (next ∷ text) closed = last-closed (eqb byte 92) next text closed

pub closed-end : (text : List ℕ) → 0 < length text → IsClosed text → get_or text (length text - 1) 0 ≢ 92
closed-end [] some closed = absurd (omega arith)
closed-end (byte ∷ text) some closed =
    let e : length text ≡ length (byte ∷ text) - 1 = omega arith in
    subst (λ (n : ℕ). get_or (byte ∷ text) n 0 ≢ 92) e (last-closed false byte text closed)

-- a part of a line that isn't empty and ends with no backslash spells a name
pub spells : (picks : ℕ → Bool) (part : List ℕ) → IsOneLine part → part ≢ [] → IsClosed part → SpellsName picks part
spells picks [] is some closed = absurd (some refl)
spells picks (byte ∷ text) is some closed =
    let name = unescaped picks (byte ∷ text) in
    let filled = spelled-some picks byte text in
    record {
      utf8 = is.utf8;
      name = record {
        not_empty = filled;
        one_line = spelled-unbroken picks (byte ∷ text) is.unbroken;
        closed = closed-end name filled (name-closed picks (byte ∷ text) closed);
      };
    }

-- the key before an equals sign, where something stands behind that
pub key-spells : (part : List ℕ) → IsOneLine part → key_part part ≢ [] → value_part part ≢ [] → SpellsName tag_ends_at (key_part part)
key-spells part is key value =
    spells tag_ends_at (key_part part) (parts-line 61 part (lit< tt) is).0 key
    (marked-front 61 part (λ none. value (ap (λ (t : List ℕ). behind_first t) none)))

-- the fields of a line are one line
pub line-fields : (line fields : List ℕ) → IsOneLine line → fields ≡ fields_text line → IsOneLine fields
line-fields line fields is e =
    let behind = unspaced-line (rest 32 false line) (parts-line 32 line (lit< tt) is).1 in
    subst (λ (t : List ℕ). IsOneLine t) (sym e) (parts-line 32 (behind_head line) (lit< tt) behind).0

-- the key of a field with a value
field-key : (part : List ℕ) → IsOneLine part → eqb (length (key_part part)) 0 ≡ false → value_part part ≢ [] → SpellsName tag_ends_at (key_part part)
field-key part is some value = key-spells part is (λ none. false≢true (sym some ∙ ap (λ (t : List ℕ). eqb (length t) 0) none)) value

abbrev as_value : Value → Result Value LineCode
as_value value = Ok value

-- no value is read of an empty text
pub value-some : (text : List ℕ) (value : Value) → Ok value ≡ value_of text → text ≢ []
value-some text value e none =
    let empty : as_value value ≡ Err BadField = e ∙ ap value_of none in
    cc

pub field-key-spells : (part key : List ℕ) (value : List ℕ) (read : Value) → IsOneLine part → key ≡ key_part part → value ≡ value_part part → eqb (length key) 0 ≡ false → Ok read ≡ value_of value → SpellsName tag_ends_at key
field-key-spells part key value read is k v some e =
    subst (λ (t : List ℕ). SpellsName tag_ends_at t) (sym k)
    (field-key part is (ap (λ (t : List ℕ). eqb (length t) 0) (sym k) ∙ some) (λ none. value-some value read e (v ∙ none)))

-- the head of a line is one line
pub head-line : (line head : List ℕ) → IsOneLine line → head ≡ front 32 false line → IsOneLine head
head-line line head is h = subst (λ (t : List ℕ). IsOneLine t) (sym h) (parts-line 32 line (lit< tt) is).0

-- the measurement of a line is spelled as it stands
pub measurement-spelling : (line head measurement : List ℕ) (ascend : Bool) → IsOneLine line → head ≡ front 32 false line → measurement ≡ measurement_part head → IsNamed head measurement ascend
    → IsSpelling measurement_ends_at measurement
measurement-spelling line head measurement ascend is h m named =
    let name : measurement_of head ≡ unescaped measurement_ends_at measurement = ap (λ (t : List ℕ). unescaped measurement_ends_at t) (sym m) in
    record {
      spells = record {
        utf8 = subst (λ (t : List ℕ). IsUtf8 t) (sym m) (parts-line 44 head (lit< tt) (head-line line head is h)).0.utf8;
        name = subst IsName name named.measurement_named;
      };
      escapes = named.measured ∙ ap (λ (t : List ℕ). escaped measurement_ends_at t) name;
    }
