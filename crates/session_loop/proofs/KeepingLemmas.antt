-- What is kept of a line when bytes come.
use Rattle.std.proofs.Common.{◌≡◌, ◌<◌, ◌≤◌, ◌+◌, ◌-◌, ℕ, zero, suc, min, Bool, true, false, ◌&&◌, ◌==◌, List, [], ◌∷◌, ◌++◌, length, take, drop, slice_index, get_or, refl, sym, ap, ◌∙◌, arith, inl, inr, ◌⊎◌, length-append, append_assoc, if◌then◌else◌}
use Rattle.std.specs.Str.Lines.{strip_carriage_return}
use Rattle.std.proofs.lemmas.List.{take_all, take-append-le, length-take, append-nil}
use Rattle.std.proofs.Math.Seq.{take-append_seam}
use Rattle.std.proofs.lemmas.List.Folds.{list_all-append}
use Rattle.session_loop.specs.declared.shape.Shape.{Shape}
use Rattle.session_loop.specs.declared.shape.Shape.TheVariants.{Spaces, SpacesAndReturn, Words}
use Rattle.session_model.specs.Lines.{is_blank}
use Rattle.session_model.proofs.TextLemmas.{and_parts}
use Rattle.session_loop.specs.Shapes.{shape_of, shape_after, shape_behind, is_spaces, stripped_shape}
use Rattle.session_loop.specs.LineAsItComes.{most_kept, StandsFor}

le_or_lt : (m n : ℕ) → (m ≤ n) ⊎ (n < m)
le_or_lt zero n = inl (omega arith)
le_or_lt (suc m) zero = inr (omega arith)
le_or_lt (suc m) (suc n) = elim (le_or_lt m n) [ inl h ↦ inl (omega arith) | inr h ↦ inr (omega arith) ]

pub take_least : (n : ℕ) (l : List ℕ) → take (min n (length l)) l ≡ take n l
take_least n l = elim (le_or_lt n (length l)) [
  | inl short ↦ (let e : min n (length l) ≡ n = omega arith in ap (λ (k : ℕ). take k l) e)
  | inr long ↦ (let e : min n (length l) ≡ length l = omega arith in ap (λ (k : ℕ). take k l) e ∙ take_all (length l) l (omega arith) ∙ sym (take_all n l (omega arith)))
]

none_left : (n : ℕ) (l : List ℕ) → length l ≤ n → drop n l ≡ []
none_left zero [] short = refl
none_left zero (x ∷ l) short = absurd (omega arith)
none_left (suc n) [] short = refl
none_left (suc n) (x ∷ l) short = none_left n l (omega arith)

pub drop_least : (n : ℕ) (l : List ℕ) → drop (min n (length l)) l ≡ drop n l
drop_least n l = elim (le_or_lt n (length l)) [
  | inl short ↦ (let e : min n (length l) ≡ n = omega arith in ap (λ (k : ℕ). drop k l) e)
  | inr long ↦ (let e : min n (length l) ≡ length l = omega arith in ap (λ (k : ℕ). drop k l) e ∙ none_left (length l) l (omega arith) ∙ sym (none_left n l (omega arith)))
]

take_over : (n : ℕ) (a b : List ℕ) → length a ≤ n → take n (a ++ b) ≡ a ++ take (n - length a) b
take_over n [] b short = let e : n - 0 ≡ n = omega arith in ap (λ (k : ℕ). take k b) (sym e)
take_over zero (x ∷ a) b short = absurd (omega arith)
take_over (suc n) (x ∷ a) b short =
    let e : suc n - length (x ∷ a) ≡ n - length a = omega arith in
    ap (λ (l : List ℕ). x ∷ l) (take_over n a b (omega arith) ∙ ap (λ (k : ℕ). a ++ take k b) (sym e))

-- a front, and what there is room for behind it
pub kept_extended : (most : ℕ) (text kept more : List ℕ) → kept ≡ take most text → kept ++ take (min (most - length kept) (length more)) more ≡ take most (text ++ more)
kept_extended most text kept more is =
    let len : length kept ≡ min most (length text) = ap length is ∙ length-take most text in
    elim (le_or_lt (length text) most) [
      | inl short ↦
          (let whole : take most text ≡ text = take_all most text short in
          let same : length kept ≡ length text = ap length (is ∙ whole) in
          ap (λ (l : List ℕ). l ++ take (min (most - length kept) (length more)) more) (is ∙ whole)
          ∙ ap (λ (n : ℕ). text ++ take (min (most - n) (length more)) more) same
          ∙ ap (λ (l : List ℕ). text ++ l) (take_least (most - length text) more)
          ∙ sym (take_over most text more short))
      | inr long ↦
          (let none : min (most - length kept) (length more) ≡ 0 = omega arith in
          ap (λ (n : ℕ). kept ++ take n more) none ∙ append-nil kept ∙ is ∙ sym (take-append-le most text more (omega arith)))
    ]

get_seam : (text : List ℕ) (byte : ℕ) → get_or (text ++ byte ∷ []) (length text) 0 ≡ byte
get_seam [] byte = refl
get_seam (b ∷ text) byte = get_seam text byte

strip_seam : (text : List ℕ) (byte : ℕ) → strip_carriage_return (text ++ byte ∷ []) ≡ (if byte == 13 then text else text ++ byte ∷ [])
strip_seam text byte =
    let longer = length-append text (byte ∷ []) in
    let less : length (text ++ byte ∷ []) - 1 ≡ length text = omega arith in
    ap (λ (n : ℕ). if get_or (text ++ byte ∷ []) n 0 == 13 then take n (text ++ byte ∷ []) else text ++ byte ∷ []) less
    ∙ ap (λ (b : ℕ). if b == 13 then take (length text) (text ++ byte ∷ []) else text ++ byte ∷ []) (get_seam text byte)
    ∙ ap (λ (l : List ℕ). if byte == 13 then l else text ++ byte ∷ []) (take-append_seam text (byte ∷ []))

blank_seam : (text : List ℕ) (byte : ℕ) → is_blank (text ++ byte ∷ []) ≡ (is_blank text && ((byte == 32) && true))
blank_seam text byte = list_all-append (λ b. b == 32) text (byte ∷ [])

after_shape : (blank stripped : Bool) (byte : ℕ) → shape_after (if blank then Spaces else (if stripped then SpacesAndReturn else Words)) byte
    ≡ (if blank then (if byte == 32 then Spaces else (if byte == 13 then SpacesAndReturn else Words)) else Words)
after_shape true stripped byte = refl
after_shape false true byte = refl
after_shape false false byte = refl

shape_table : (blank space return : Bool) → (if (blank && (space && true)) then Spaces else (if (if return then blank else (blank && (space && true))) then SpacesAndReturn else Words))
    ≡ (if blank then (if space then Spaces else (if return then SpacesAndReturn else Words)) else Words)
shape_table true true return = refl
shape_table true false true = refl
shape_table true false false = refl
shape_table false space true = refl
shape_table false space false = refl

blank_choice : (t : Bool) (a b : List ℕ) → is_blank (if t then a else b) ≡ (if t then is_blank a else is_blank b)
blank_choice true a b = refl
blank_choice false a b = refl

pub shape_more : (text : List ℕ) (byte : ℕ) → shape_of (text ++ byte ∷ []) ≡ shape_after (shape_of text) byte
unfolding shape_of
shape_more text byte =
    ap (λ (t : Bool). if t then Spaces else (if is_blank (strip_carriage_return (text ++ byte ∷ [])) then SpacesAndReturn else Words)) (blank_seam text byte)
    ∙ ap (λ (t : Bool). if (is_blank text && ((byte == 32) && true)) then Spaces else (if t then SpacesAndReturn else Words))
    (ap is_blank (strip_seam text byte) ∙ blank_choice (byte == 13) text (text ++ byte ∷ [])
    ∙ ap (λ (t : Bool). if byte == 13 then is_blank text else t) (blank_seam text byte))
    ∙ shape_table (is_blank text) (byte == 32) (byte == 13)
    ∙ sym (after_shape (is_blank text) (is_blank (strip_carriage_return text)) byte)

-- the same of several bytes more
pub shape_extended : (text more : List ℕ) → shape_of (text ++ more) ≡ shape_behind (shape_of text) more
shape_extended text [] = ap shape_of (append-nil text)
shape_extended text (byte ∷ more) =
    ap shape_of (sym (append_assoc text (byte ∷ []) more)) ∙ shape_extended (text ++ byte ∷ []) more
    ∙ ap (λ (s : Shape). shape_behind s more) (shape_more text byte)

pub shape_nothing : shape_of [] ≡ Spaces
unfolding shape_of
shape_nothing = refl

stands_here : (most : ℕ) (text kept : List ℕ) → kept ≡ take most text → (kept ≡ text) ⊎ ((most ≤ length kept) × (most ≤ length text))
stands_here most text kept is =
    let len : length kept ≡ min most (length text) = ap length is ∙ length-take most text in
    elim (le_or_lt (length text) most) [
      | inl short ↦ inl (is ∙ take_all most text short)
      | inr long ↦ inr (omega arith, omega arith)
    ]

stripped_len : (t : Bool) (l : List ℕ) → length l ≤ length (if t then take (length l - 1) l else l) + 1
stripped_len true l = let len = length-take (length l - 1) l in omega arith
stripped_len false l = omega arith

pub strip_len : (l : List ℕ) → length l ≤ length (strip_carriage_return l) + 1
strip_len l = stripped_len (slice_index l (length l - 1) == 13) l

pub stands_for : (text kept : List ℕ) → kept ≡ take most_kept text → StandsFor 65537 kept text
unfolding most_kept
stands_for text kept is = elim (stands_here 65538 text kept is) [ inl same ↦ inl same | inr long ↦ inr (omega arith, omega arith) ]

pub stands_whole : (kept text : List ℕ) → StandsFor 65537 kept text → StandsFor 65536 kept text
stands_whole kept text stands = elim stands [ inl same ↦ inl same | inr long ↦ inr (omega arith, omega arith) ]

pub stands_stripped : (text kept : List ℕ) → kept ≡ take most_kept text → StandsFor 65536 (strip_carriage_return kept) (strip_carriage_return text)
unfolding most_kept
stands_stripped text kept is =
    let a = strip_len kept in let b = strip_len text in
    elim (stands_here 65538 text kept is) [ inl same ↦ inl (ap strip_carriage_return same) | inr long ↦ inr (omega arith, omega arith) ]

taken_either : (t : Bool) (l : List ℕ) → take (length (if t then take (length l - 1) l else l)) l ≡ (if t then take (length l - 1) l else l)
taken_either true l =
    let len = length-take (length l - 1) l in
    let short : length (take (length l - 1) l) ≡ length l - 1 = omega arith in
    ap (λ (n : ℕ). take n l) short
taken_either false l = take_all (length l) l (omega arith)

-- a line less its carriage return is a front of it
pub strip_taken : (l : List ℕ) → take (length (strip_carriage_return l)) l ≡ strip_carriage_return l
strip_taken l = taken_either (slice_index l (length l - 1) == 13) l

all_front : (n : ℕ) (text : List ℕ) → is_blank text ≡ true → is_blank (take n text) ≡ true
all_front zero text blank = refl
all_front (suc n) [] blank = refl
all_front (suc n) (b ∷ text) blank =
    let both = and_parts (b == 32) (is_blank text) blank in
    ap (λ (t : Bool). t && is_blank (take n text)) both.0 ∙ ap (λ (t : Bool). true && t) (all_front n text both.1)

blank_either : (t : Bool) (text : List ℕ) → is_blank text ≡ true → is_blank (if t then take (length text - 1) text else text) ≡ true
blank_either true text blank = all_front (length text - 1) text blank
blank_either false text blank = blank

pub blank_stripped : (text : List ℕ) → is_blank text ≡ true → is_blank (strip_carriage_return text) ≡ true
blank_stripped text blank = blank_either (slice_index text (length text - 1) == 13) text blank

whole_table : (blank stripped : Bool) → is_spaces (if blank then Spaces else (if stripped then SpacesAndReturn else Words)) ≡ blank
whole_table true stripped = refl
whole_table false true = refl
whole_table false false = refl

-- the shape tells whether the text is blank
pub whole_tells : (text : List ℕ) → is_spaces (shape_of text) ≡ is_blank text
unfolding shape_of
whole_tells text = whole_table (is_blank text) (is_blank (strip_carriage_return text))

stripped_table : (blank stripped : Bool) → (blank ≡ true → stripped ≡ true) → is_spaces (stripped_shape (if blank then Spaces else (if stripped then SpacesAndReturn else Words))) ≡ stripped
stripped_table true stripped h = sym (h refl)
stripped_table false true h = refl
stripped_table false false h = refl

-- and whether it is blank less one carriage return at its end
pub stripped_tells : (text : List ℕ) → is_spaces (stripped_shape (shape_of text)) ≡ is_blank (strip_carriage_return text)
unfolding shape_of
stripped_tells text = stripped_table (is_blank text) (is_blank (strip_carriage_return text)) (blank_stripped text)
