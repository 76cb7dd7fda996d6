-- The bytes behind the first step, and what steps they are of.
use Rattle.std.proofs.Common.{◌≡◌, ℕ, suc, zero, ◌+◌, ◌*◌, ◌^◌, ◌<◌, ◌≤◌, ⊎_elim, true, false, cond, eqb, ltb, ◌&&◌, List, [], ◌∷◌, ◌++◌, length, take, drop, get_or, replicate, All, sym, ◌∙◌, ap, subst, refl, arith, length-append}
use Rattle.std.specs.Int.{w64, to_be_bytes, from_be_bytes}
use Rattle.std.specs.List.{flat_map, list_all, AllPass}
use Rattle.std.proofs.lemmas.Bool.{cases_Bool, and_parts, ltb-true, eqb-true, cond-true, cond-false, false≢true}
use Rattle.std.proofs.lemmas.Nat.{be_bytes_8, from_be_bytes-to_be_bytes_8}
use Rattle.std.proofs.lemmas.List.{length-drop, length-replicate, take_at, drop_at, take-append-drop, get_or-replicate, same_lists, append-nil}
use Rattle.std.proofs.lemmas.List.Elements.{All-nil, All-cons, All-head, All-tail, All-drop, All-weaker, All-replicate}
use Rattle.std.proofs.lemmas.List.Sums.{AllPass-from_list_all}
use Rattle.word_codec.specs.Uvarint.{uvarint}
use Rattle.word_codec.proofs.UvarintLemmas.{apart as numbers_apart}
use Rattle.simple8b.specs.Words.{words_of, word_of, selector_of, count_of}
use Rattle.simple8b.proofs.Tables.{count_some}
use Rattle.simple8b.proofs.Spelling.{AreNarrow, first_held, words_of-step, words_of-nil, word_of-is, payload_low, apart as words_tell}
use Rattle.value_codec.specs.declared.form.Form.{Form}
use Rattle.value_codec.specs.declared.form.Form.TheVariants.{Raw, Packed, RunLength}
use Rattle.value_codec.specs.Steps.{big_endian, is_run, form_of, form_byte, tail_of, coded_steps, FitsForm, AreRead}

-- ---- eight bytes

pub big_endian-is : (number : ℕ) → big_endian number ≡ to_be_bytes w64 number
unfolding big_endian
big_endian-is number = refl

pub length-big_endian : (number : ℕ) → length (big_endian number) ≡ 8
unfolding big_endian
length-big_endian number = refl

pub big_endian_back : (number : ℕ) → number < 2 ^ 64 → from_be_bytes w64 (big_endian number) ≡ number
big_endian_back number fit = ap (from_be_bytes w64) (big_endian-is number) ∙ from_be_bytes-to_be_bytes_8 number fit

pub big_endian_from : (bytes : List ℕ) (number : ℕ) → length bytes ≡ 8 → ((i : ℕ) → get_or bytes i 0 < 256) → number ≡ from_be_bytes w64 bytes → big_endian number ≡ bytes
big_endian_from bytes number size fit is = big_endian-is number ∙ be_bytes_8 bytes number size fit is

pub big_endian_apart : (one two : ℕ) → one < 2 ^ 64 → two < 2 ^ 64 → big_endian one ≡ big_endian two → one ≡ two
big_endian_apart one two fit also same = sym (big_endian_back one fit) ∙ ap (from_be_bytes w64) same ∙ big_endian_back two also

-- ---- words of eight bytes

AreFit : List ℕ → Type 0
AreFit words = All (λ word. word < 2 ^ 64) words

pub words-cons : (word : ℕ) (words : List ℕ) → flat_map big_endian (word ∷ words) ≡ big_endian word ++ flat_map big_endian words
words-cons word words = refl

pub length-words : (words : List ℕ) → length (flat_map big_endian words) ≡ 8 * length words
length-words [] = refl
length-words (word ∷ words) = length-append (big_endian word) (flat_map big_endian words) ∙ omega (arith, length-big_endian word, length-words words)

pub words_apart : (one two : List ℕ) → All (λ word. word < 2 ^ 64) one → All (λ word. word < 2 ^ 64) two → flat_map big_endian one ≡ flat_map big_endian two → one ≡ two
words_apart [] [] fit also same = refl
words_apart [] (word ∷ words) fit also same = absurd (omega (arith, ap length same, length-words [], length-words (word ∷ words)))
words_apart (word ∷ words) [] fit also same = absurd (omega (arith, ap length same, length-words [], length-words (word ∷ words)))
words_apart (word ∷ words) (other ∷ others) fit also same =
    let front : big_endian word ≡ big_endian other =
    sym (take_at (big_endian word) (flat_map big_endian words) 8 (length-big_endian word)) ∙ ap (take 8) same ∙ take_at (big_endian other) (flat_map big_endian others) 8 (length-big_endian other) in
    let back : flat_map big_endian words ≡ flat_map big_endian others =
    sym (drop_at (big_endian word) (flat_map big_endian words) 8 (length-big_endian word)) ∙ ap (drop 8) same ∙ drop_at (big_endian other) (flat_map big_endian others) 8 (length-big_endian other) in
    let first = big_endian_apart word other (All-head (λ w. w < 2 ^ 64) word words fit) (All-head (λ w. w < 2 ^ 64) other others also) front in
    let rest = words_apart words others (All-tail (λ w. w < 2 ^ 64) word words fit) (All-tail (λ w. w < 2 ^ 64) other others also) back in
    ap (λ (w : ℕ). w ∷ words) first ∙ ap (λ (ws : List ℕ). other ∷ ws) rest

-- the words of a list have 64 bits
words_fit_by : (fuel : ℕ) (values : List ℕ) → length values ≤ fuel → AreNarrow values → All (λ word. word < 2 ^ 64) (words_of values)
words_fit_by fuel [] within narrow = subst (λ (ws : List ℕ). All (λ word. word < 2 ^ 64) ws) (sym words_of-nil) (All-nil (λ word. word < 2 ^ 64))
words_fit_by zero (value ∷ values) within narrow = absurd (omega arith)
words_fit_by (suc fuel) (value ∷ values) within narrow =
    let all = value ∷ values in
    let some : 0 < length all = omega arith in
    let held = first_held all some narrow in
    let count = count_of (selector_of all) in
    let step : 1 ≤ count = count_some (selector_of all) held.below in
    subst (λ (ws : List ℕ). All (λ word. word < 2 ^ 64) ws) (sym (words_of-step all some step))
    (All-cons (λ word. word < 2 ^ 64) (word_of all) (words_of (drop count all))
    (omega (arith, word_of-is all, payload_low (selector_of all) (take count all) held, held.below))
    (words_fit_by fuel (drop count all) (omega (arith, length-drop count all)) (All-drop (λ v. v < 2 ^ 60) count all narrow)))

pub words_fit : (values : List ℕ) → AreNarrow values → All (λ word. word < 2 ^ 64) (words_of values)
words_fit values narrow = words_fit_by (length values) values (omega arith) narrow

pub narrow_fit : (values : List ℕ) → AreNarrow values → All (λ value. value < 2 ^ 64) values
narrow_fit values narrow = All-weaker (λ value. value < 2 ^ 60) (λ value. value < 2 ^ 64) (λ value h. omega (arith, h)) values narrow

-- ---- forms

pub is_run-cons : (first : ℕ) (others : List ℕ) → is_run (first ∷ others) ≡ (ltb 0 (length others) && list_all (λ step. eqb step first) others)
unfolding is_run
is_run-cons first others = refl

pub is_run-nil : is_run [] ≡ false
unfolding is_run
is_run-nil = refl

pub tail_raw : (rest : List ℕ) → tail_of Raw rest ≡ flat_map big_endian rest
unfolding tail_of
tail_raw rest = refl

pub tail_packed : (rest : List ℕ) → tail_of Packed rest ≡ flat_map big_endian (words_of rest)
unfolding tail_of
tail_packed rest = refl

pub tail_run : (rest : List ℕ) → tail_of RunLength rest ≡ uvarint (get_or rest 0 0) ++ uvarint (length rest)
unfolding tail_of
tail_run rest = refl

pub coded_steps-cons : (first : ℕ) (rest : List ℕ) → coded_steps (first ∷ rest) ≡ (form_byte (form_of first rest) ∷ big_endian first) ++ tail_of (form_of first rest) rest
unfolding coded_steps
coded_steps-cons first rest = refl

pub form_of-is : (first : ℕ) (rest : List ℕ) → form_of first rest ≡ cond (is_run rest) RunLength (cond (ltb first (2 ^ 60) && list_all (λ step. ltb step (2 ^ 60)) rest) Packed Raw)
unfolding form_of
form_of-is first rest = refl

-- the form in which steps are written has room for them
pub form_fits : (first : ℕ) (rest : List ℕ) → All (λ step. step < 2 ^ 64) rest → FitsForm (form_of first rest) rest
form_fits first rest fit =
    ⊎_elim
    (λ run. subst (λ (f : Form). FitsForm f rest) (sym (form_of-is first rest ∙ cond-true (is_run rest) _ _ run)) (run, fit))
    (λ other. ⊎_elim
    (λ narrow. subst (λ (f : Form). FitsForm f rest) (sym (form_of-is first rest ∙ cond-false (is_run rest) _ _ other ∙ cond-true (ltb first (2 ^ 60) && list_all (λ step. ltb step (2 ^ 60)) rest) _ _ narrow))
    (let passed : AllPass (λ step. ltb step (2 ^ 60)) rest = AllPass-from_list_all (λ step. ltb step (2 ^ 60)) rest ((and_parts _ _ narrow).1) in
    λ k d below. ltb-true (get_or rest k d) (2 ^ 60) (passed k d below)))
    (λ wide. subst (λ (f : Form). FitsForm f rest) (sym (form_of-is first rest ∙ cond-false (is_run rest) _ _ other ∙ cond-false (ltb first (2 ^ 60) && list_all (λ step. ltb step (2 ^ 60)) rest) _ _ wide)) fit)
    (cases_Bool (ltb first (2 ^ 60) && list_all (λ step. ltb step (2 ^ 60)) rest)))
    (cases_Bool (is_run rest))

-- a run is its first step again and again
pub run_is : (rest : List ℕ) → is_run rest ≡ true → (rest ≡ replicate (length rest) (get_or rest 0 0)) × (2 ≤ length rest)
run_is [] run = absurd (false≢true (sym is_run-nil ∙ run))
run_is (first ∷ others) run =
    let parts = and_parts _ _ (sym (is_run-cons first others) ∙ run) in
    let more : 0 < length others = ltb-true 0 (length others) parts.0 in
    let same : AllPass (λ step. eqb step first) others = AllPass-from_list_all (λ step. eqb step first) others parts.1 in
    let rest : others ≡ replicate (length others) first =
    same_lists others (replicate (length others) first) (sym (length-replicate (length others) first))
    (λ k d below. eqb-true (get_or others k d) first (same k d below) ∙ sym (get_or-replicate (length others) k first d below)) in
    (ap (λ (xs : List ℕ). first ∷ xs) rest, omega arith)

-- ---- the bytes of each form

pub read_as_raw : (count : ℕ) (bytes rest : List ℕ) → length rest ≡ count → All (λ step. step < 2 ^ 64) rest → flat_map big_endian rest ≡ bytes → AreRead Raw count bytes rest
read_as_raw count bytes rest size fit spelled = record {
  size = size;
  fit = fit;
  spelled = tail_raw rest ∙ spelled;
  only = λ other also _ same. words_apart other rest also fit (sym (tail_raw other) ∙ same ∙ sym spelled);
}

pub read_as_packed : (count : ℕ) (bytes words rest : List ℕ) → length rest ≡ count → AreNarrow rest → words_of rest ≡ words → All (λ word. word < 2 ^ 64) words → flat_map big_endian words ≡ bytes → AreRead Packed count bytes rest
read_as_packed count bytes words rest size narrow is fit spelled = record {
  size = size;
  fit = narrow_fit rest narrow;
  spelled = tail_packed rest ∙ ap (flat_map big_endian) is ∙ spelled;
  only = λ other also _ same.
      words_tell other rest also narrow (packed_words other words bytes also fit (sym (tail_packed other) ∙ same) spelled ∙ sym is);
}
  where
    packed_words : (other words bytes : List ℕ) → AreNarrow other → All (λ word. word < 2 ^ 64) words → flat_map big_endian (words_of other) ≡ bytes → flat_map big_endian words ≡ bytes → words_of other ≡ words
    packed_words other words bytes also fit one two = words_apart (words_of other) words (words_fit other also) fit (one ∙ sym two)

-- words that are packed are those that were read
pub packed_words : (other words bytes : List ℕ) → AreNarrow other → All (λ word. word < 2 ^ 64) words → tail_of Packed other ≡ bytes → flat_map big_endian words ≡ bytes → words_of other ≡ words
packed_words other words bytes also fit one two = words_apart (words_of other) words (words_fit other also) fit (sym (tail_packed other) ∙ one ∙ sym two)

-- what a run's bytes tell
pub record Tells (other : List ℕ) (count step times : ℕ) (after : List ℕ) : Type 0 where
  pub first : get_or other 0 0 ≡ step
  pub often : times ≡ count
  pub none : after ≡ []
  pub some : 1 ≤ count

pub run_begins : (other bytes : List ℕ) → tail_of RunLength other ≡ bytes → bytes ≡ uvarint (get_or other 0 0) ++ uvarint (length other)
run_begins other bytes spelled = sym spelled ∙ tail_run other

pub run_first_fit : (other : List ℕ) → FitsForm RunLength other → get_or other 0 0 < 2 ^ 64
run_first_fit other fits = fits.1 0 0 (omega (arith, (run_is other fits.0).1))

pub run_goes_on : (other bytes behind : List ℕ) (step : ℕ) → bytes ≡ uvarint step ++ behind → tail_of RunLength other ≡ bytes → (get_or other 0 0 ≡ step) × (uvarint (length other) ≡ behind)
run_goes_on other bytes behind step front spelled = numbers_apart (get_or other 0 0) step (uvarint (length other)) behind (sym (run_begins other bytes spelled) ∙ front)

pub run_tells : (other bytes behind after : List ℕ) (count step times : ℕ) → bytes ≡ uvarint step ++ behind → behind ≡ uvarint times ++ after → FitsForm RunLength other → length other ≡ count → tail_of RunLength other ≡ bytes → Tells other count step times after
run_tells other bytes behind after count step times front back fits size spelled =
    let begins = run_goes_on other bytes behind step front spelled in
    let ends = numbers_apart (length other) times [] after (append-nil (uvarint (length other)) ∙ begins.1 ∙ back) in
    record { first = begins.0; often = sym ends.0 ∙ size; none = sym ends.1; some = omega (arith, size, (run_is other fits.0).1) }

pub read_as_run : (bytes behind after rest : List ℕ) (count step times : ℕ) → bytes ≡ uvarint step ++ behind → behind ≡ uvarint times ++ after → step < 2 ^ 64 → times ≡ count → 1 ≤ count → after ≡ [] → rest ≡ replicate count step → AreRead RunLength count bytes rest
read_as_run bytes behind after rest count step times front back fit often some none is =
    let size : length rest ≡ count = ap length is ∙ length-replicate count step in
    record {
      size = size;
      fit = subst (λ (xs : List ℕ). All (λ s. s < 2 ^ 64) xs) (sym is) (All-replicate (λ s. s < 2 ^ 64) count step fit);
      spelled = tail_run rest
          ∙ ap (λ (s : ℕ). uvarint s ++ uvarint (length rest)) (ap (λ (xs : List ℕ). get_or xs 0 0) is ∙ get_or-replicate count 0 step 0 (omega arith))
          ∙ ap (λ (n : ℕ). uvarint step ++ uvarint n) (size ∙ sym often)
          ∙ ap (λ (bs : List ℕ). uvarint step ++ bs) (sym (append-nil (uvarint times)) ∙ ap (λ (bs : List ℕ). uvarint times ++ bs) (sym none) ∙ sym back)
          ∙ sym front;
      only = λ other fits length-is same.
          let tells = run_tells other bytes behind after count step times front back fits length-is same in
          (run_is other fits.0).0 ∙ ap (λ (n : ℕ). replicate n (get_or other 0 0)) length-is ∙ ap (replicate count) tells.first ∙ sym is;
    }

-- ---- all bytes

pub form_byte_apart : (one two : Form) → form_byte one ≡ form_byte two → one ≡ two
form_byte_apart Raw Raw same = refl
form_byte_apart Raw Packed same = absurd (omega (arith, same))
form_byte_apart Raw RunLength same = absurd (omega (arith, same))
form_byte_apart Packed Raw same = absurd (omega (arith, same))
form_byte_apart Packed Packed same = refl
form_byte_apart Packed RunLength same = absurd (omega (arith, same))
form_byte_apart RunLength Raw same = absurd (omega (arith, same))
form_byte_apart RunLength Packed same = absurd (omega (arith, same))
form_byte_apart RunLength RunLength same = refl

-- the parts of the bytes of steps
pub record HasParts (first : ℕ) (rest : List ℕ) (head : ℕ) (behind : List ℕ) : Type 0 where
  pub form : form_byte (form_of first rest) ≡ head
  pub number : big_endian first ≡ take 8 behind
  pub tail : tail_of (form_of first rest) rest ≡ drop 8 behind
  pub room : 8 ≤ length behind

heads : (one two : ℕ) (front back : List ℕ) → one ∷ front ≡ two ∷ back → (one ≡ two) × (front ≡ back)
heads one two front back same = (cc, cc)

pub parts_of : (first : ℕ) (rest bytes : List ℕ) (head : ℕ) (behind : List ℕ) → coded_steps (first ∷ rest) ≡ bytes → bytes ≡ head ∷ behind → HasParts first rest head behind
parts_of first rest bytes head behind spelled front =
    let whole = heads (form_byte (form_of first rest)) head (big_endian first ++ tail_of (form_of first rest) rest) behind (sym (coded_steps-cons first rest) ∙ spelled ∙ front) in
    record {
      form = whole.0;
      number = sym (take_at (big_endian first) (tail_of (form_of first rest) rest) 8 (length-big_endian first)) ∙ ap (take 8) whole.1;
      tail = sym (drop_at (big_endian first) (tail_of (form_of first rest) rest) 8 (length-big_endian first)) ∙ ap (drop 8) whole.1;
      room = omega (arith, sym (ap length whole.1), length-append (big_endian first) (tail_of (form_of first rest) rest), length-big_endian first);
    }

-- one step more than none is a first step and others
pub by_first : (steps bytes : List ℕ) (count : ℕ) → All (λ step. step < 2 ^ 64) steps → length steps ≡ count + 1 → coded_steps steps ≡ bytes → ((first : ℕ) (rest : List ℕ) → first < 2 ^ 64 → All (λ step. step < 2 ^ 64) rest → length rest ≡ count → coded_steps (first ∷ rest) ≡ bytes → ⊥) → ⊥
by_first [] bytes count fit size spelled refuses = absurd (omega arith)
by_first (first ∷ rest) bytes count fit size spelled refuses =
    refuses first rest (All-head (λ s. s < 2 ^ 64) first rest fit) (All-tail (λ s. s < 2 ^ 64) first rest fit) (omega arith) spelled

-- bytes that were read part by part
pub joined : (form : Form) (first : ℕ) (rest bytes : List ℕ) (head : ℕ) (behind : List ℕ) → form_of first rest ≡ form → bytes ≡ head ∷ behind → form_byte form ≡ head → big_endian first ≡ take 8 behind → tail_of form rest ≡ drop 8 behind → coded_steps (first ∷ rest) ≡ bytes
joined form first rest bytes head behind is front byte number tail =
    coded_steps-cons first rest
    ∙ ap (λ (f : Form). (form_byte f ∷ big_endian first) ++ tail_of f rest) is
    ∙ ap (λ (b : ℕ). (b ∷ big_endian first) ++ tail_of form rest) byte
    ∙ ap (λ (bs : List ℕ). (head ∷ bs) ++ tail_of form rest) number
    ∙ ap (λ (bs : List ℕ). (head ∷ take 8 behind) ++ bs) tail
    ∙ ap (λ (bs : List ℕ). head ∷ bs) (take-append-drop 8 behind)
    ∙ sym front
