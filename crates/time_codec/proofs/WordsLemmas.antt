-- Words of eight bytes, and back.
use Rattle.std.proofs.Common.{◌≡◌, ℕ, zero, suc, ◌+◌, ◌*◌, ◌^◌, ◌<◌, ◌≤◌, List, [], ◌∷◌, ◌++◌, length, take, drop, get_or, inl, inr, refl, sym, ◌∙◌, ap, subst, arith, append_assoc, length-append, length-drop}
use Rattle.std.specs.Prelude.{All}
use Rattle.std.specs.List.{flat_map}
use Rattle.std.specs.Int.{to_be_bytes, from_be_bytes, w64}
use Rattle.std.proofs.lemmas.Nat.{be_bytes_8, from_be_bytes-to_be_bytes_8}
use Rattle.std.proofs.lemmas.List.{take_at, drop_at, take-append-drop, length-take-le, length-take, append-nil, get_or-take, get_or-append-add, get_or_past}
use Rattle.std.proofs.lemmas.Bool.{cases_lt}
use Rattle.std.proofs.lemmas.List.Concat.{flat_map-append}
use Rattle.std.proofs.lemmas.List.Elements.{All-head, All-tail, All-nil, All-cons, All-drop}
use Rattle.simple8b.specs.Words.{words_of, word_of, count_of, selector_of}
use Rattle.simple8b.proofs.Tables.{count_some}
use Rattle.simple8b.proofs.Spelling.{words_of-nil, words_of-step, word_of-is, first_held, payload_low}

-- each word has 64 bits
abbrev pub AreWords : List ℕ → Type 0
AreWords [] = Unit {0}
AreWords (word ∷ words) = (word < 2 ^ 64) × AreWords words

pub words_from_all : (words : List ℕ) → All (λ word. word < 2 ^ 64) words → AreWords words
words_from_all [] all = tt
words_from_all (word ∷ words) all = (All-head (λ w. w < 2 ^ 64) word words all, words_from_all words (All-tail (λ w. w < 2 ^ 64) word words all))

pub all_from_words : (words : List ℕ) → AreWords words → All (λ word. word < 2 ^ 64) words
all_from_words [] fit = All-nil (λ w. w < 2 ^ 64)
all_from_words (word ∷ words) fit = All-cons (λ w. w < 2 ^ 64) word words fit.0 (all_from_words words fit.1)

pub words_from_index : (words : List ℕ) → ((i : ℕ) → get_or words i 0 < 2 ^ 64) → AreWords words
words_from_index [] small = tt
words_from_index (word ∷ words) small = (small 0, words_from_index words (λ i. small (suc i)))

pub words_push : (words : List ℕ) (word : ℕ) → AreWords words → word < 2 ^ 64 → AreWords (words ++ word ∷ [])
words_push [] word all small = (small, tt)
words_push (first ∷ words) word all small = (all.0, words_push words word all.1 small)

pub length-words : (words : List ℕ) → length (flat_map (to_be_bytes w64) words) ≡ 8 * length words
length-words [] = refl
length-words (word ∷ words) = omega (arith, length-words words)

same_front : (a b r s : List ℕ) → length a ≡ length b → a ++ r ≡ b ++ s → (a ≡ b) × (r ≡ s)
same_front a b r s same e = (
  sym (take_at a r (length a) refl) ∙ ap (take (length a)) e ∙ take_at b s (length a) (sym same),
  sym (drop_at a r (length a) refl) ∙ ap (drop (length a)) e ∙ drop_at b s (length a) (sym same),
)

-- the first time and what stands behind it are told apart
pub same_word : (a b : ℕ) (r s : List ℕ) → a < 2 ^ 64 → b < 2 ^ 64 → to_be_bytes w64 a ++ r ≡ to_be_bytes w64 b ++ s → (a ≡ b) × (r ≡ s)
same_word a b r s p q e =
    let parts = same_front (to_be_bytes w64 a) (to_be_bytes w64 b) r s refl e in
    (sym (from_be_bytes-to_be_bytes_8 a p) ∙ ap (from_be_bytes w64) parts.0 ∙ from_be_bytes-to_be_bytes_8 b q, parts.1)

-- no two lists of words have the same bytes
pub words_apart : (words others : List ℕ) → AreWords words → AreWords others → flat_map (to_be_bytes w64) words ≡ flat_map (to_be_bytes w64) others → words ≡ others
words_apart [] [] p q e = refl
words_apart [] (other ∷ others) p q e = absurd (omega (arith, ap length e))
words_apart (word ∷ words) [] p q e = absurd (omega (arith, ap length e))
words_apart (word ∷ words) (other ∷ others) p q e =
    let parts = same_word word other (flat_map (to_be_bytes w64) words) (flat_map (to_be_bytes w64) others) p.0 q.0 e in
    ap (λ w. w ∷ words) parts.0 ∙ ap (λ ws. other ∷ ws) (words_apart words others p.1 q.1 parts.1)

-- the next eight bytes are bytes
pub next_bytes : (front rest bytes : List ℕ) → front ++ rest ≡ bytes → ((i : ℕ) → get_or bytes i 0 < 256) → (i : ℕ) → get_or (take 8 rest) i 0 < 256
next_bytes front rest bytes is small i = elim (cases_lt i 8) [
  | inl near ↦ omega (arith, get_or-take 8 rest i 0 near, get_or-append-add front rest i 0, ap (λ xs. get_or xs (length front + i) 0) is, small (length front + i))
  | inr far ↦ omega (arith, get_or_past (take 8 rest) i 0 (omega (arith, length-take 8 rest, far)))
]

-- one more word is read
pub word_more : (words rest bytes : List ℕ) (word : ℕ) → 8 ≤ length rest → ((i : ℕ) → get_or (take 8 rest) i 0 < 256) → word ≡ from_be_bytes w64 (take 8 rest)
    → flat_map (to_be_bytes w64) words ++ rest ≡ bytes → flat_map (to_be_bytes w64) (words ++ word ∷ []) ++ drop 8 rest ≡ bytes
word_more words rest bytes word more small is before =
    let eight : to_be_bytes w64 word ≡ take 8 rest = be_bytes_8 (take 8 rest) word (length-take-le 8 rest more) small is in
    ap (λ front. front ++ drop 8 rest) (flat_map-append (to_be_bytes w64) words (word ∷ []))
    ∙ append_assoc (flat_map (to_be_bytes w64) words) (to_be_bytes w64 word ++ []) (drop 8 rest)
    ∙ ap (λ front. flat_map (to_be_bytes w64) words ++ (front ++ drop 8 rest)) eight
    ∙ ap (λ back. flat_map (to_be_bytes w64) words ++ back) (take-append-drop 8 rest)
    ∙ before

-- bytes that are left, fewer than eight, belong to no words
pub none_left : (words others rest bytes : List ℕ) → flat_map (to_be_bytes w64) words ++ rest ≡ bytes → bytes ≡ flat_map (to_be_bytes w64) others → length rest < 8 → 0 < length rest → ⊥
none_left words others rest bytes before is few some =
    omega (arith, ap length (before ∙ is), length-append (flat_map (to_be_bytes w64) words) rest, length-words words, length-words others)

pub all_read : (words others rest bytes : List ℕ) → flat_map (to_be_bytes w64) words ++ rest ≡ bytes → bytes ≡ flat_map (to_be_bytes w64) others → rest ≡ [] → AreWords words → AreWords others → words ≡ others
all_read words others rest bytes before is none p q =
    words_apart words others p q (sym (append-nil (flat_map (to_be_bytes w64) words)) ∙ ap (λ back. flat_map (to_be_bytes w64) words ++ back) (sym none) ∙ before ∙ is)

-- the words of values have 64 bits, and are no more than the values
pub record AreFew (values words : List ℕ) : Type 0 where
  pub fit : AreWords words
  pub few : length words ≤ length values

few_within : (fuel : ℕ) (values : List ℕ) → length values ≤ fuel → All (λ value. value < 2 ^ 60) values → AreFew values (words_of values)
few_within fuel [] le narrow = subst (AreFew []) (sym words_of-nil) (record { fit = tt; few = omega arith })
few_within zero (value ∷ values) le narrow = absurd (omega arith)
few_within (suc fuel) (value ∷ values) le narrow =
    let all = value ∷ values in
    let held = first_held all (omega arith) narrow in
    let count = count_of (selector_of all) in
    let some = count_some (selector_of all) held.below in
    let rest = few_within fuel (drop count all) (omega (arith, length-drop count all, some)) (All-drop (λ v. v < 2 ^ 60) count all narrow) in
    let low = payload_low (selector_of all) (take count all) held in
    let word : word_of all < 2 ^ 64 = omega (arith, word_of-is all, low, held.below) in
    subst (AreFew all) (sym (words_of-step all (omega arith) some))
    (record { fit = (word, rest.fit); few = omega (arith, rest.few, length-drop count all, some) })

pub few_words : (values : List ℕ) → All (λ value. value < 2 ^ 60) values → AreFew values (words_of values)
few_words values narrow = few_within (length values) values (omega arith) narrow
