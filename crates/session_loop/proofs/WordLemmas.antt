-- Words are names, in ASCII, and hold neither a space nor an equals sign.
use Rattle.std.proofs.Common.{◌≡◌, ◌<◌, ◌-◌, ℕ, zero, suc, Bool, true, false, List, [], ◌∷◌, length, take, drop, slice_index, get_or, refl, sym, ap, ◌∙◌, subst, arith, ◌≤◌, codes, Some, None, if◌then◌else◌}
use Rattle.std.specs.List.{list_all}
use Rattle.std.specs.Str.{IsUtf8, str_eq_ignore_ascii_case, str_to_ascii_lowercase}
use Rattle.std.specs.Char.{to_ascii_lowercase}
use Rattle.std.proofs.lemmas.Str.{IsUtf8-from_ascii, IsUtf8-drop, IsCharBoundary-after_ascii}
use Rattle.std.proofs.lemmas.List.{length-take, length-map}
use Rattle.std.proofs.lemmas.Bool.Decides.{nat_tests}
use Rattle.std.proofs.lemmas.List.Sums.{AllPass-from_list_all}
use Rattle.tsdb_types.specs.Names.{IsName}
use Rattle.tsdb_types.specs.Series.{measurement_text, measurement_ends_at}
use Rattle.session_model.specs.Readable.{Lacks}
use Rattle.session_model.specs.Words.{IsWord, is_letter, is_letter_or_digit, behind_word, inserted_line}
use Rattle.session_model.proofs.TextLemmas.{and_parts, lacks_other}
use Rattle.std.proofs.lemmas.Slice.Eq.{bytes_eq-Decides}

-- a word lacks each byte that no word has
pub word_lacks : (byte : ℕ) → is_letter_or_digit byte ≡ false → (text : List ℕ) → IsWord text → Lacks byte text
word_lacks byte fails text word = lacks_other is_letter_or_digit byte fails text word.each

letter_is_ascii : (b : ℕ) → is_letter_or_digit b ≡ true → b < 128
letter_is_ascii b passes = grind (arith, nat_tests)

ascii_bytes : (text : List ℕ) → list_all is_letter_or_digit text ≡ true → (i : ℕ) → get_or text i 0 < 128
ascii_bytes [] h zero = omega arith
ascii_bytes [] h (suc i) = omega arith
ascii_bytes (b ∷ bs) h zero = letter_is_ascii b (and_parts (is_letter_or_digit b) (list_all is_letter_or_digit bs) h).0
ascii_bytes (b ∷ bs) h (suc i) = ascii_bytes bs (and_parts (is_letter_or_digit b) (list_all is_letter_or_digit bs) h).1 i

pub word_is_utf8 : (text : List ℕ) → IsWord text → IsUtf8 text
word_is_utf8 text word = IsUtf8-from_ascii text (ascii_bytes text word.each)

has_byte : (text : List ℕ) → is_letter (slice_index text 0) ≡ true → 0 < length text
has_byte [] h = cc
has_byte (b ∷ bs) h = omega arith

-- no byte of a word is one that no word has
not_a_letter : (text : List ℕ) (byte : ℕ) → IsWord text → is_letter_or_digit byte ≡ false → (k d : ℕ) → k < length text → get_or text k d ≡ byte → ⊥
not_a_letter text byte word fails k d below same =
    let passes : is_letter_or_digit (get_or text k d) ≡ true = AllPass-from_list_all is_letter_or_digit text word.each k d below in
    cc (ap is_letter_or_digit same)

pub word_is_name : (text : List ℕ) → IsWord text → IsName text
word_is_name text word = record {
  not_empty = has_byte text word.first;
  one_line = λ k d below. λ newline. not_a_letter text 10 word refl k d below newline;
  closed = λ backslash. not_a_letter text 92 word refl (length text - 1) 0 (let some : 0 < length text = has_byte text word.first in omega arith) backslash;
}

no_end : (byte : ℕ) → is_letter_or_digit byte ≡ true → measurement_ends_at byte ≡ false
no_end byte passes = grind (arith, nat_tests)

plain_bytes : (text : List ℕ) → list_all is_letter_or_digit text ≡ true → measurement_text text ≡ text
plain_bytes [] h = refl
plain_bytes (b ∷ bs) h =
    let both = and_parts (is_letter_or_digit b) (list_all is_letter_or_digit bs) h in
    ap (λ (t : Bool). if t then 92 ∷ b ∷ measurement_text bs else b ∷ measurement_text bs) (no_end b both.0)
    ∙ ap (λ (l : List ℕ). b ∷ l) (plain_bytes bs both.1)

-- a word needs no escape
pub word_is_plain : (text : List ℕ) → IsWord text → measurement_text text ≡ text
word_is_plain text word = plain_bytes text word.each

pub ruleset word_laws = (word_is_utf8, word_is_name)

-- What stands behind a word and a space of a text is a text.

space_from_lower : (b : ℕ) → to_ascii_lowercase b ≡ 32 → b ≡ 32
space_from_lower b same = grind (arith, nat_tests)

lower_at : (l : List ℕ) (i : ℕ) → i < length l → get_or (str_to_ascii_lowercase l) i 0 ≡ to_ascii_lowercase (get_or l i 0)
lower_at [] i below = absurd (omega arith)
lower_at (b ∷ l) zero below = refl
lower_at (b ∷ l) (suc i) below = lower_at l i (omega arith)

some_then : (t : Bool) (back text : List ℕ) → (if t then Some back else None) ≡ Some text → (t ≡ true) × (back ≡ text)
some_then true back text same = (refl, cc)
some_then false back text same = cc

get_front : (n i : ℕ) (l : List ℕ) → i < n → get_or (take n l) i 0 ≡ get_or l i 0
get_front zero i l below = absurd (omega arith)
get_front (suc n) i [] below = refl
get_front (suc n) zero (b ∷ l) below = refl
get_front (suc n) (suc i) (b ∷ l) below = get_front n i l (omega arith)

pub behind_text : (line text : List ℕ) → IsUtf8 line → inserted_line line ≡ Some text → IsUtf8 text
unfolding behind_word
behind_text line text utf8 behind =
    let parts = some_then (str_eq_ignore_ascii_case (take 7 line) (codes "INSERT ")) (drop 7 line) text behind in
    let lower : str_to_ascii_lowercase (take 7 line) ≡ str_to_ascii_lowercase (codes "INSERT ") = (bytes_eq-Decides (str_to_ascii_lowercase (take 7 line)) (str_to_ascii_lowercase (codes "INSERT "))).0 parts.0 in
    let whole : length (take 7 line) ≡ 7 = sym (length-map (take 7 line) to_ascii_lowercase) ∙ ap length lower in
    let long : 7 ≤ length line = (let len = length-take 7 line in omega arith) in
    let space : get_or line 6 0 ≡ 32 = sym (get_front 7 6 line (omega arith))
    ∙ space_from_lower (get_or (take 7 line) 6 0) (sym (lower_at (take 7 line) 6 (omega arith)) ∙ ap (λ (l : List ℕ). get_or l 6 0) lower) in
    subst (λ (l : List ℕ). IsUtf8 l) parts.1 (IsUtf8-drop line 7 utf8 (IsCharBoundary-after_ascii line 6 utf8 (omega arith) (omega arith)))
