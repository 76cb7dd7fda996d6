-- Words that are read from the last to the first.
use Rattle.std.specs.Prelude.{All}
use Rattle.std.proofs.Common.{◌≡◌, ℕ, suc, zero, ◌+◌, ◌-◌, ◌*◌, ◌^◌, ◌<◌, ◌≤◌, List, [], ◌∷◌, ◌++◌, length, take, drop, get_or, sym, ◌∙◌, ap, subst, refl, arith, append_assoc, length-append}
use Rattle.std.proofs.lemmas.List.{length-take-le, length-drop, take-append-drop, drop_at, drop_more}
use Rattle.simple8b.specs.Words.{count_of, bits_of, selector_of, words_of, word_of}
use Rattle.simple8b.specs.Unpacked.{selector_in, unpacked, values_in, values_of}
use Rattle.simple8b.proofs.Tables.{count_some, count_most, count_last, bits_last}
use Rattle.simple8b.proofs.Wide.{wide_first}
use Rattle.simple8b.proofs.Spelling.{AreNarrow, IsRead, selector_low, read_at, read_behind, read_some, rest_step, rest_spelled, word_selector, values_of-cons, values_of-nil, values_of-words_of, length-values_in, values_in_packed, read_front}

-- the last values were read already, and so were those of the word before
pub written : (old new : List ℕ) (word start count : ℕ) (behind : List ℕ) → count ≤ start → start ≤ length old → take (start - count + count) new ≡ take (start - count) old ++ values_in word → drop (start - count + count) new ≡ drop (start - count + count) old
    → drop start old ≡ values_of behind → drop (start - count) new ≡ values_of (word ∷ behind)
written old new word start count behind room within front back says =
    let at = start - count in
    let same : at + count ≡ start = omega arith in
    let whole : new ≡ take at old ++ (values_in word ++ drop start old) =
    sym (take-append-drop (at + count) new)
    ∙ ap (λ ns. ns ++ drop (at + count) new) front
    ∙ append_assoc (take at old) (values_in word) (drop (at + count) new)
    ∙ ap (λ ns. take at old ++ (values_in word ++ ns)) (back ∙ ap (λ (n : ℕ). drop n old) same) in
    ap (drop at) whole
    ∙ drop_at (take at old) (values_in word ++ drop start old) at (length-take-le at old (omega arith))
    ∙ ap (λ ns. values_in word ++ ns) says
    ∙ sym (values_of-cons word behind)

-- the encoder's words of a list, each with those behind it, are those of what they say
pub last_words : (at : ℕ) (words : List ℕ) → ((k : ℕ) → get_or words k 0 < 2 ^ 64) → words_of (values_of words) ≡ words → words_of (values_of (drop at words)) ≡ drop at words
last_words zero words fit spelled = spelled
last_words (suc at) [] fit spelled = spelled
last_words (suc at) (word ∷ words) fit spelled =
    let all = values_of (word ∷ words) in
    let read : IsRead all word words = read_at all (word ∷ words) 0 (omega arith) fit refl in
    let step : words_of all ≡ word_of all ∷ words_of (drop (count_of (selector_of all)) all) = rest_step all word words read in
    let some : 0 < length all = omega (arith, read_some all word words read, count_some (selector_in word) read.selector) in
    let same : word_of all ≡ word = cc (step, spelled) in
    let first : selector_of all ≡ selector_in word = sym (word_selector all some read.narrow) ∙ ap selector_in same in
    let left : words_of (drop (count_of (selector_of all)) all) ≡ words = cc (step, spelled) in
    let behind : drop (count_of (selector_of all)) all ≡ values_of words = ap (λ (s : ℕ). drop (count_of s) all) first ∙ read_behind all word words read in
    last_words at words (λ k. fit (suc k)) (ap words_of (sym behind) ∙ left)

-- no last words say more than all of them
pub says_less : (at : ℕ) (words : List ℕ) → length (values_of (drop at words)) ≤ length (values_of words)
says_less zero words = omega arith
says_less (suc at) [] = omega arith
says_less (suc at) (word ∷ words) = omega (arith, says_less at words, ap length (values_of-cons word words), length-append (values_in word) (values_of words))

-- a list with these words is what they say
pub said : (others words : List ℕ) → AreNarrow others → words_of others ≡ words → (others ≡ values_of words) × (words_of (values_of words) ≡ words)
said others words narrow spelled =
    let is : values_of words ≡ others = ap values_of (sym spelled) ∙ values_of-words_of others narrow in
    (sym is, ap words_of is ∙ spelled)

pub word_before : (words : List ℕ) (at : ℕ) → 0 < at → at ≤ length words → drop (at - 1) words ≡ get_or words (at - 1) 0 ∷ drop at words
word_before words at some within =
    drop_more words (at - 1) 0 (omega arith) ∙ ap (λ (n : ℕ). get_or words (at - 1) 0 ∷ drop n words) (let same : at - 1 + 1 ≡ at = omega arith in same)

-- the word before a place was read, in front of those from the place on
pub read_before : (words old new rest : List ℕ) (at start count : ℕ) → ((k : ℕ) → get_or words k 0 < 2 ^ 64) → 0 < at → at ≤ length words
    → count ≡ count_of (selector_in (get_or words (at - 1) 0)) → count ≤ start → start ≤ length old
    → take (start - count + count_of (selector_in (get_or words (at - 1) 0))) new ≡ take (start - count) old ++ values_in (get_or words (at - 1) 0)
    → drop (start - count + count_of (selector_in (get_or words (at - 1) 0))) new ≡ drop (start - count + count_of (selector_in (get_or words (at - 1) 0))) old
    → drop start old ≡ values_of (drop at words) → rest ≡ drop (start - count) new → IsRead rest (get_or words (at - 1) 0) (drop at words)
read_before words old new rest at start count fit some within count-is room long front back says rest-is =
    let word = get_or words (at - 1) 0 in
    let whole : drop (start - count) new ≡ values_of (word ∷ drop at words) =
    written old new word start count (drop at words) room long (ap (λ (n : ℕ). take (start - count + n) new) count-is ∙ front)
    (ap (λ (n : ℕ). drop (start - count + n) new) count-is ∙ back ∙ ap (λ (n : ℕ). drop (start - count + n) old) (sym count-is)) says in
    let read : IsRead rest word (drop (at - 1 + 1) words) =
    read_at rest words (at - 1) (omega arith) fit (rest-is ∙ whole ∙ ap values_of (sym (word_before words at some within))) in
    subst (λ (n : ℕ). IsRead rest word (drop n words)) (let same : at - 1 + 1 ≡ at = omega arith in same) read

-- where the words are the encoder's, those of the rest are the last ones
pub rest_words : (words others rest : List ℕ) (at : ℕ) → ((k : ℕ) → get_or words k 0 < 2 ^ 64) → 0 < at → at ≤ length words → AreNarrow others → words_of others ≡ words → rest ≡ values_of (get_or words (at - 1) 0 ∷ drop at words)
    → words_of rest ≡ get_or words (at - 1) 0 ∷ drop at words
rest_words words others rest at fit some within narrow spelled says =
    let before = word_before words at some within in
    ap words_of (says ∙ ap values_of (sym before)) ∙ last_words (at - 1) words fit ((said others words narrow spelled).1) ∙ before

-- a word says 240 values at most
pub says_most : (words : List ℕ) → ((k : ℕ) → get_or words k 0 < 2 ^ 64) → length (values_of words) ≤ length words * 240
says_most [] fit = omega (arith, ap length values_of-nil)
says_most (word ∷ words) fit =
    omega (
      arith,
      says_most words (λ k. fit (suc k)),
      ap length (values_of-cons word words),
      length-append (values_in word) (values_of words),
      length-values_in word,
      count_most (selector_in word) (selector_low word (fit 0)),
    )

-- where the words are the encoder's, there is room for the values of each
pub no_room : (words others old : List ℕ) (at start : ℕ) → ((k : ℕ) → get_or words k 0 < 2 ^ 64) → 0 < at → at ≤ length words → AreNarrow others → words_of others ≡ words → length others ≡ length old → start ≤ length old
    → drop start old ≡ values_of (drop at words) → start < count_of (selector_in (get_or words (at - 1) 0)) → ⊥
no_room words others old at start fit some within narrow spelled size long says few =
    let word : ℕ = get_or words (at - 1) 0 in
    omega (
      arith,
      size,
      ap length ((said others words narrow spelled).0),
      ap length says,
      length-drop start old,
      long,
      says_less (at - 1) words,
      ap (λ ws. length (values_of ws)) (word_before words at some within),
      ap length (values_of-cons word (drop at words)),
      length-append (values_in word) (values_of (drop at words)),
      length-values_in word,
      few,
    )

-- ---- a word of one value

pub lone_count : (word : ℕ) → selector_in word ≡ 15 → count_of (selector_in word) ≡ 1
lone_count word is = ap count_of is ∙ count_last

pub lone_says : (word : ℕ) → selector_in word ≡ 15 → values_in word ≡ unpacked 60 1 word
lone_says word is =
    values_in_packed word (omega (arith, is)) ∙ ap (λ (b : ℕ). unpacked b (count_of (selector_in word)) word) (ap bits_of is ∙ bits_last) ∙ ap (λ (n : ℕ). unpacked 60 n word) (lone_count word is)

pub lone_before : (words old new : List ℕ) (at start : ℕ) → ((k : ℕ) → get_or words k 0 < 2 ^ 64) → 0 < at → at ≤ length words → selector_in (get_or words (at - 1) 0) ≡ 15 → 0 < start → start ≤ length old
    → take (start - 1 + 1) new ≡ take (start - 1) old ++ unpacked 60 1 (get_or words (at - 1) 0) → drop (start - 1 + 1) new ≡ drop (start - 1 + 1) old → drop start old ≡ values_of (drop at words)
    → IsRead (drop (start - 1) new) (get_or words (at - 1) 0) (drop at words)
lone_before words old new at start fit some within is more long front back says =
    let word : ℕ = get_or words (at - 1) 0 in
    let count = lone_count word is in
    read_before words old new (drop (start - 1) new) at start 1 fit some within (sym count) more long
    (ap (λ (n : ℕ). take (start - 1 + n) new) count ∙ front ∙ ap (λ vs. take (start - 1) old ++ vs) (sym (lone_says word is)))
    (ap (λ (n : ℕ). drop (start - 1 + n) new) count ∙ back ∙ ap (λ (n : ℕ). drop (start - 1 + n) old) (sym count)) says refl

-- the encoder's words of the rest, where its first word holds one value that no other selector has room for
pub lone_spelled : (rest : List ℕ) (word : ℕ) (words : List ℕ) → IsRead rest word words → selector_in word ≡ 15 → (All (λ value. value < 2 ^ bits_of (selector_in word - 1)) (values_in word) → ⊥)
    → words_of rest ≡ word ∷ words_of (drop (count_of (selector_in word)) rest)
lone_spelled rest word words read is wide =
    let first = wide_first word rest (omega (arith, is)) read.selector (read_front rest word words read) wide in
    let used : bits_of (selector_in word) * count_of (selector_in word) ≡ 60 * 1 = ap (λ (b : ℕ). b * count_of (selector_in word)) (ap bits_of is ∙ bits_last) ∙ ap (λ (n : ℕ). 60 * n) (lone_count word is) in
    rest_spelled rest word words read first (omega (arith, ap (λ (e : ℕ). 2 ^ e) used))
