-- The words of a list tell the list.
use Rattle.std.proofs.Common.{◌≡◌, ℕ, suc, zero, ◌+◌, ◌-◌, ◌*◌, ◌%◌, ◌^◌, ◌<◌, ◌≤◌, ⊎_elim, true, ltb, List, [], ◌∷◌, ◌++◌, length, take, drop, get_or, replicate, All, sum_by, sym, ◌∙◌, ap, subst, refl, arith, length-append}
use Rattle.std.proofs.lemmas.Bool.{cases_lt, cond-true, cond-false, lt-ltb, le-ltb}
use Rattle.std.proofs.lemmas.List.{length-take-le, length-drop, length-replicate, take_at, drop_at, at_drop_more, get_or-drop, take-append-drop, same_lists, get_or-replicate}
use Rattle.std.proofs.lemmas.List.Elements.{All-drop, All-weaker, All-replicate, All-append, All-nil}
use Rattle.std.proofs.lemmas.List.Sums.{sum_by-cons}
use Rattle.std.proofs.lemmas.Nat.{pow_pos, pow-add, div-mul-add, mod-mul-add, shr_split}
use Rattle.std.proofs.Math.Nat.{mul_comm, mul_assoc, mod-eq_of_lt}
use Rattle.std.proofs.Math.Pow.{mod-mod-pow}
use Rattle.simple8b.specs.Words.{count_of, bits_of, fits, selector_of, packed, payload, word_of, words_behind, words_of}
use Rattle.simple8b.specs.Unpacked.{selector_in, unpacked, values_in, values_of}
use Rattle.simple8b.proofs.Tables.{count_some, used_most, bits_most, pow_le, ones_bits}
use Rattle.simple8b.proofs.Selecting.{selector_holds, long_from_holds, fit_from_holds, one_from_fits, narrow_from_fits}
use Rattle.simple8b.proofs.Packing.{packed-lt, unpacked-packed, packed-unpacked, length-unpacked, unpacked-narrow}

-- the values that are coded
abbrev pub AreNarrow : List ℕ → Type 0
AreNarrow values = All (λ value. value < 2 ^ 60) values

-- ---- the words of a list, one after another

words_behind-drop : (held : ℕ) (values : List ℕ) → words_behind held values ≡ words_of (drop held values)
unfolding words_behind words_of
words_behind-drop zero values = refl
words_behind-drop (suc held) [] = refl
words_behind-drop (suc held) (value ∷ values) = words_behind-drop held values

pub words_of-nil : words_of [] ≡ []
unfolding words_behind words_of
words_of-nil = refl

words_of-cons : (value : ℕ) (values : List ℕ) → words_of (value ∷ values) ≡ word_of (value ∷ values) ∷ words_of (drop (count_of (selector_of (value ∷ values)) - 1) values)
unfolding words_behind words_of
words_of-cons value values = ap (λ (ws : List ℕ). word_of (value ∷ values) ∷ ws) (words_behind-drop (count_of (selector_of (value ∷ values)) - 1) values)

drop_one_less : (n value : ℕ) (values : List ℕ) → 1 ≤ n → drop (n - 1) values ≡ drop n (value ∷ values)
drop_one_less zero value values some = absurd (omega arith)
drop_one_less (suc n) value values some = ap (λ (k : ℕ). drop k values) (let e : suc n - 1 ≡ n = omega arith in e)

-- the first word, and the words of what it doesn't hold
pub words_of-step : (values : List ℕ) → 0 < length values → 1 ≤ count_of (selector_of values) → words_of values ≡ word_of values ∷ words_of (drop (count_of (selector_of values)) values)
words_of-step [] some held = absurd (omega arith)
words_of-step (value ∷ values) some held =
    words_of-cons value values
    ∙ ap (λ (rest : List ℕ). word_of (value ∷ values) ∷ words_of rest) (drop_one_less (count_of (selector_of (value ∷ values))) value values held)

-- ---- what one word says

pub payload_ones : (selector : ℕ) (values : List ℕ) → selector < 2 → payload selector values ≡ 0
unfolding payload
payload_ones selector values low = cond-true (ltb selector 2) _ _ (lt-ltb selector 2 low)

pub payload_packed : (selector : ℕ) (values : List ℕ) → 2 ≤ selector → payload selector values ≡ packed (bits_of selector) values
unfolding payload
payload_packed selector values high = cond-false (ltb selector 2) _ _ (le-ltb selector 2 high)

pub values_in_ones : (word : ℕ) → selector_in word < 2 → values_in word ≡ replicate (count_of (selector_in word)) 1
unfolding values_in
values_in_ones word low = cond-true (ltb (selector_in word) 2) _ _ (lt-ltb (selector_in word) 2 low)

pub values_in_packed : (word : ℕ) → 2 ≤ selector_in word → values_in word ≡ unpacked (bits_of (selector_in word)) (count_of (selector_in word)) word
unfolding values_in
values_in_packed word high = cond-false (ltb (selector_in word) 2) _ _ (le-ltb (selector_in word) 2 high)

pub length-values_in : (word : ℕ) → length (values_in word) ≡ count_of (selector_in word)
length-values_in word =
    ⊎_elim
    (λ low. ap length (values_in_ones word low) ∙ length-replicate (count_of (selector_in word)) 1)
    (λ high. ap length (values_in_packed word high) ∙ length-unpacked _ _ word)
    (cases_lt (selector_in word) 2)

pub values_in_narrow : (word : ℕ) → selector_in word < 16 → AreNarrow (values_in word)
values_in_narrow word below =
    ⊎_elim
    (λ low. subst (λ (vs : List ℕ). AreNarrow vs) (sym (values_in_ones word low)) (All-replicate (λ value. value < 2 ^ 60) (count_of (selector_in word)) 1 (omega arith)))
    (λ high. subst (λ (vs : List ℕ). AreNarrow vs) (sym (values_in_packed word high))
    (All-weaker (λ value. value < 2 ^ bits_of (selector_in word)) (λ value. value < 2 ^ 60)
    (λ value h. omega (arith, h, pow_le (bits_of (selector_in word)) 60 (bits_most (selector_in word) below)))
    _ (unpacked-narrow (bits_of (selector_in word)) (count_of (selector_in word)) word)))
    (cases_lt (selector_in word) 2)

-- values that a selector holds
pub record AreHeld (selector : ℕ) (values : List ℕ) : Type 0 where
  pub below : selector < 16
  pub whole : length values ≡ count_of selector
  pub fitting : All (λ value. fits selector value ≡ true) values

pub held_narrow : (selector : ℕ) (values : List ℕ) → 2 ≤ selector → AreHeld selector values → All (λ value. value < 2 ^ bits_of selector) values
held_narrow selector values high held = All-weaker (λ value. fits selector value ≡ true) (λ value. value < 2 ^ bits_of selector) (λ value h. narrow_from_fits selector value high h) values held.fitting

pub payload-lt : (selector : ℕ) (values : List ℕ) → AreHeld selector values → payload selector values < 2 ^ (bits_of selector * count_of selector)
payload-lt selector values held =
    ⊎_elim
    (λ low. omega (arith, payload_ones selector values low, pow_pos (bits_of selector * count_of selector)))
    (λ high. omega (
      arith,
      payload_packed selector values high,
      packed-lt (bits_of selector) values (held_narrow selector values high held),
      ap (λ (n : ℕ). 2 ^ (bits_of selector * n)) held.whole,
    ))
    (cases_lt selector 2)

pub payload_low : (selector : ℕ) (values : List ℕ) → AreHeld selector values → payload selector values < 2 ^ 60
payload_low selector values held =
    omega (arith, payload-lt selector values held, pow_le (bits_of selector * count_of selector) 60 (used_most selector held.below))

selector_read : (selector : ℕ) (values : List ℕ) → AreHeld selector values → selector_in (selector * 2 ^ 60 + payload selector values) ≡ selector
selector_read selector values held = div-mul-add selector (2 ^ 60) (payload selector values) (payload_low selector values held)

-- a selector stands above the values that it holds
above_used : (selector used : ℕ) → used ≤ 60 → selector * 2 ^ 60 ≡ 2 ^ used * (2 ^ (60 - used) * selector)
above_used selector used within =
    let split : 2 ^ 60 ≡ 2 ^ used * 2 ^ (60 - used) = ap (λ (e : ℕ). 2 ^ e) (let e : 60 ≡ used + (60 - used) = omega arith in e) ∙ pow-add 2 used (60 - used) in
    ap (λ (p : ℕ). selector * p) split ∙ mul_comm selector _ ∙ mul_assoc (2 ^ used) (2 ^ (60 - used)) selector

values_read : (selector : ℕ) (values : List ℕ) → AreHeld selector values → values_in (selector * 2 ^ 60 + payload selector values) ≡ values
values_read selector values held =
    let word = selector * 2 ^ 60 + payload selector values in
    let is : selector_in word ≡ selector = selector_read selector values held in
    ⊎_elim
    (λ low. values_in_ones word (omega arith) ∙ ap (λ (s : ℕ). replicate (count_of s) 1) is
    ∙ same_lists (replicate (count_of selector) 1) values (length-replicate (count_of selector) 1 ∙ sym held.whole)
    (λ k d below. get_or-replicate (count_of selector) k 1 d (omega (arith, below, length-replicate {A = ℕ} (count_of selector) 1))
    ∙ sym (one_from_fits selector _ low (held.fitting k d (omega (arith, below, length-replicate {A = ℕ} (count_of selector) 1, held.whole))))))
    (λ high.
    let bits = bits_of selector in
    let used : bits * length values ≤ 60 = omega (arith, used_most selector held.below, ap (λ (n : ℕ). bits * n) held.whole) in
    let spelled : word ≡ packed bits values + 2 ^ (bits * length values) * (2 ^ (60 - bits * length values) * selector) =
    omega (arith, above_used selector (bits * length values) used, payload_packed selector values high) in
    values_in_packed word (omega arith)
    ∙ ap (λ (s : ℕ). unpacked (bits_of s) (count_of s) word) is
    ∙ ap (λ (n : ℕ). unpacked bits n word) (sym held.whole)
    ∙ ap (λ (w : ℕ). unpacked bits (length values) w) spelled
    ∙ unpacked-packed bits values (2 ^ (60 - bits * length values) * selector) (held_narrow selector values high held))
    (cases_lt selector 2)

-- ---- the first word of a list

pub first_held : (values : List ℕ) → 0 < length values → AreNarrow values → AreHeld (selector_of values) (take (count_of (selector_of values)) values)
first_held values some narrow =
    let first = selector_holds values some narrow in
    record {
      below = first.0;
      whole = length-take-le (count_of (selector_of values)) values (long_from_holds (selector_of values) values first.1);
      fitting = fit_from_holds (selector_of values) values first.1;
    }

pub word_of-is : (values : List ℕ) → word_of values ≡ selector_of values * 2 ^ 60 + payload (selector_of values) (take (count_of (selector_of values)) values)
unfolding word_of
word_of-is values = refl

pub word_selector : (values : List ℕ) → 0 < length values → AreNarrow values → selector_in (word_of values) ≡ selector_of values
word_selector values some narrow = ap selector_in (word_of-is values) ∙ selector_read (selector_of values) _ (first_held values some narrow)

pub word_values : (values : List ℕ) → 0 < length values → AreNarrow values → values_in (word_of values) ≡ take (count_of (selector_of values)) values
word_values values some narrow = ap values_in (word_of-is values) ∙ values_read (selector_of values) _ (first_held values some narrow)

pub word_tight : (values : List ℕ) → 0 < length values → AreNarrow values → word_of values % 2 ^ 60 < 2 ^ (bits_of (selector_of values) * count_of (selector_of values))
word_tight values some narrow =
    let held = first_held values some narrow in
    omega (
      arith,
      ap (λ (w : ℕ). w % 2 ^ 60) (word_of-is values),
      mod-mul-add (selector_of values) (2 ^ 60) (payload (selector_of values) (take (count_of (selector_of values)) values)) (payload_low (selector_of values) _ held),
      payload-lt (selector_of values) _ held,
    )

-- ---- whole lists

pub values_of-nil : values_of [] ≡ []
unfolding values_of
values_of-nil = refl

pub values_of-cons : (word : ℕ) (words : List ℕ) → values_of (word ∷ words) ≡ values_in word ++ values_of words
unfolding values_of
values_of-cons word words = refl

read_back : (fuel : ℕ) (values : List ℕ) → length values ≤ fuel → AreNarrow values → values_of (words_of values) ≡ values
read_back fuel [] within narrow = ap values_of words_of-nil ∙ values_of-nil
read_back zero (value ∷ values) within narrow = absurd (omega arith)
read_back (suc fuel) (value ∷ values) within narrow =
    let all = value ∷ values in
    let some : 0 < length all = omega arith in
    let held = first_held all some narrow in
    let count = count_of (selector_of all) in
    let step : 1 ≤ count = count_some (selector_of all) held.below in
    ap values_of (words_of-step all some step)
    ∙ values_of-cons (word_of all) (words_of (drop count all))
    ∙ ap (λ (front : List ℕ). front ++ values_of (words_of (drop count all))) (word_values all some narrow)
    ∙ ap (λ (back : List ℕ). take count all ++ back) (read_back fuel (drop count all) (omega (arith, length-drop count all)) (All-drop (λ v. v < 2 ^ 60) count all narrow))
    ∙ take-append-drop count all

-- the values of the words of a list are the list
pub values_of-words_of : (values : List ℕ) → AreNarrow values → values_of (words_of values) ≡ values
values_of-words_of values narrow = read_back (length values) values (omega arith) narrow

pub apart : (first second : List ℕ) → AreNarrow first → AreNarrow second → words_of first ≡ words_of second → first ≡ second
apart first second narrow also same = sym (values_of-words_of first narrow) ∙ ap values_of same ∙ values_of-words_of second also

pub length-values_of : (words : List ℕ) → length (values_of words) ≡ sum_by (λ word. count_of (selector_in word)) words
length-values_of [] = ap length values_of-nil
length-values_of (word ∷ words) =
    ap length (values_of-cons word words) ∙ length-append (values_in word) (values_of words)
    ∙ ap (λ (n : ℕ). n + length (values_of words)) (length-values_in word)
    ∙ ap (λ (n : ℕ). count_of (selector_in word) + n) (length-values_of words)
    ∙ sym (sum_by-cons (λ w. count_of (selector_in w)) word words)

pub counted : (values : List ℕ) → AreNarrow values → sum_by (λ word. count_of (selector_in word)) (words_of values) ≡ length values
counted values narrow = sym (length-values_of (words_of values)) ∙ ap length (values_of-words_of values narrow)

-- ---- words that were read back

pub selector_low : (word : ℕ) → word < 2 ^ 64 → selector_in word < 16
selector_low word fit = omega (arith, fit)

pub values_of-narrow : (words : List ℕ) → ((k : ℕ) → get_or words k 0 < 2 ^ 64) → AreNarrow (values_of words)
values_of-narrow [] fit = subst (λ (vs : List ℕ). AreNarrow vs) (sym values_of-nil) (All-nil (λ value. value < 2 ^ 60))
values_of-narrow (word ∷ words) fit =
    subst (λ (vs : List ℕ). AreNarrow vs) (sym (values_of-cons word words))
    (All-append (λ value. value < 2 ^ 60) (values_in word) (values_of words) (values_in_narrow word (selector_low word (fit 0))) (values_of-narrow words (λ k. fit (suc k))))

-- a word that was read, before others: `rest` is what they say together
pub record IsRead (rest : List ℕ) (word : ℕ) (words : List ℕ) : Type 0 where
  pub selector : selector_in word < 16
  pub says : rest ≡ values_of (word ∷ words)
  pub narrow : AreNarrow rest

pub read_some : (rest : List ℕ) (word : ℕ) (words : List ℕ) → IsRead rest word words → count_of (selector_in word) ≤ length rest
read_some rest word words read =
    omega (arith, ap length read.says, ap length (values_of-cons word words), length-append (values_in word) (values_of words), length-values_in word)

pub read_front : (rest : List ℕ) (word : ℕ) (words : List ℕ) → IsRead rest word words → take (count_of (selector_in word)) rest ≡ values_in word
read_front rest word words read =
    ap (take (count_of (selector_in word))) (read.says ∙ values_of-cons word words) ∙ take_at (values_in word) (values_of words) _ (length-values_in word)

pub read_behind : (rest : List ℕ) (word : ℕ) (words : List ℕ) → IsRead rest word words → drop (count_of (selector_in word)) rest ≡ values_of words
read_behind rest word words read =
    ap (drop (count_of (selector_in word))) (read.says ∙ values_of-cons word words) ∙ drop_at (values_in word) (values_of words) _ (length-values_in word)

nonempty : (rest : List ℕ) (word : ℕ) (words : List ℕ) → IsRead rest word words → 0 < length rest
nonempty rest word words read = omega (arith, read_some rest word words read, count_some (selector_in word) read.selector)

-- the words of the rest, from its first word on
pub rest_step : (rest : List ℕ) (word : ℕ) (words : List ℕ) → IsRead rest word words → words_of rest ≡ word_of rest ∷ words_of (drop (count_of (selector_of rest)) rest)
rest_step rest word words read =
    let some = nonempty rest word words read in
    words_of-step rest some (count_some (selector_of rest) ((first_held rest some read.narrow).below))

-- another selector than the encoder's
pub not_first : (rest : List ℕ) (word : ℕ) (words : List ℕ) → IsRead rest word words → (selector_of rest ≡ selector_in word → ⊥) → words_of rest ≡ word ∷ words → ⊥
not_first rest word words read other spelled =
    let same : word_of rest ≡ word = let step = rest_step rest word words read in cc in
    other (sym (word_selector rest (nonempty rest word words read) read.narrow) ∙ ap selector_in same)

-- a bit above the last value
pub not_tight : (rest : List ℕ) (word : ℕ) (words : List ℕ) → IsRead rest word words → selector_of rest ≡ selector_in word → 2 ^ (bits_of (selector_in word) * count_of (selector_in word)) ≤ word % 2 ^ 60 → words_of rest ≡ word ∷ words → ⊥
not_tight rest word words read first loose spelled =
    let same : word_of rest ≡ word = let step = rest_step rest word words read in cc in
    omega (
      arith,
      loose,
      word_tight rest (nonempty rest word words read) read.narrow,
      ap (λ (w : ℕ). w % 2 ^ 60) same,
      ap (λ (s : ℕ). 2 ^ (bits_of s * count_of s)) first,
    )

tight_payload : (word : ℕ) → word % 2 ^ 60 < 2 ^ (bits_of (selector_in word) * count_of (selector_in word)) → selector_in word < 16 → payload (selector_in word) (values_in word) ≡ word % 2 ^ 60
tight_payload word tight below =
    let selector = selector_in word in
    let used = bits_of selector * count_of selector in
    ⊎_elim
    (λ low. payload_ones selector (values_in word) low ∙ (let none : used ≡ 0 * count_of selector = ap (λ (b : ℕ). b * count_of selector) (ones_bits selector low) in
    let power : 2 ^ used ≡ 2 ^ 0 = ap (λ (e : ℕ). 2 ^ e) (let e : used ≡ 0 = omega (arith, none) in e) in omega (arith, tight, power)))
    (λ high. payload_packed selector (values_in word) high
    ∙ ap (packed (bits_of selector)) (values_in_packed word high)
    ∙ packed-unpacked (bits_of selector) (count_of selector) word
    ∙ sym (mod-mod-pow word (60 - used) used)
    ∙ ap (λ (e : ℕ). word % 2 ^ e % 2 ^ used) (let e : 60 - used + used ≡ 60 = omega (arith, used_most selector below) in e)
    ∙ mod-eq_of_lt tight)
    (cases_lt selector 2)

-- the word is the encoder's first of the rest
pub first_spelled : (rest : List ℕ) (word : ℕ) (words : List ℕ) → IsRead rest word words → selector_of rest ≡ selector_in word → word % 2 ^ 60 < 2 ^ (bits_of (selector_in word) * count_of (selector_in word)) → word_of rest ≡ word
first_spelled rest word words read first tight =
    word_of-is rest
    ∙ ap (λ (s : ℕ). s * 2 ^ 60 + payload s (take (count_of s) rest)) first
    ∙ ap (λ (vs : List ℕ). selector_in word * 2 ^ 60 + payload (selector_in word) vs) (read_front rest word words read)
    ∙ ap (λ (n : ℕ). selector_in word * 2 ^ 60 + n) (tight_payload word tight read.selector)
    ∙ shr_split word 60

-- the encoder's words of the rest, where the first is right
pub rest_spelled : (rest : List ℕ) (word : ℕ) (words : List ℕ) → IsRead rest word words → selector_of rest ≡ selector_in word → word % 2 ^ 60 < 2 ^ (bits_of (selector_in word) * count_of (selector_in word)) → words_of rest ≡ word ∷ words_of (drop (count_of (selector_in word)) rest)
rest_spelled rest word words read first tight =
    rest_step rest word words read
    ∙ ap (λ (w : ℕ). w ∷ words_of (drop (count_of (selector_of rest)) rest)) (first_spelled rest word words read first tight)
    ∙ ap (λ (s : ℕ). word ∷ words_of (drop (count_of s) rest)) first

-- the word at a place, and those behind it
pub read_at : (rest words : List ℕ) (index : ℕ) → index < length words → ((k : ℕ) → get_or words k 0 < 2 ^ 64) → rest ≡ values_of (drop index words) → IsRead rest (get_or words index 0) (drop (index + 1) words)
read_at rest words index below fit says = record {
  selector = selector_low (get_or words index 0) (fit index);
  says = says ∙ at_drop_more values_of words index 0 below;
  narrow = subst (λ (vs : List ℕ). AreNarrow vs) (sym says)
      (values_of-narrow (drop index words) (λ k. subst (λ (n : ℕ). n < 2 ^ 64) (sym (get_or-drop index words k 0)) (fit (index + k))));
}
