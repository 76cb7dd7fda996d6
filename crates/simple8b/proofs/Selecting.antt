-- Which selector is the first that holds the next values.
use Rattle.std.proofs.Common.{◌≡◌, ◌≢◌, ℕ, suc, zero, ◌+◌, ◌^◌, ◌<◌, ◌≤◌, ⊎_elim, Bool, true, false, leb, ltb, List, length, take, get_or, Option, Some, unwrap_or, All, sym, ◌∙◌, ap, subst, refl, arith}
use Rattle.std.specs.List.{find, range_with_len, AllPass}
use Rattle.std.proofs.lemmas.Bool.{cases_Bool, cases_lt, and_parts, and_from, and_left, and_right, leb-true, le-leb, lt-leb, lt-ltb, le-ltb, eq-eqb, ne_eqb, false≢true, cond-true, cond-false, ltb-true, eqb-true}
use Rattle.std.proofs.lemmas.List.{length-take-le, get_or-take, get_or_default}
use Rattle.std.proofs.lemmas.List.Folds.{list_all_at}
use Rattle.std.proofs.lemmas.List.Sums.{AllPass-from_list_all, list_all-from_AllPass}
use Rattle.simple8b.specs.Words.{count_of, bits_of, fits, holds, selector_of}
use Rattle.simple8b.proofs.Tables.{count_first, count_second, count_last, bits_last}

-- ---- whether a value fits

pub fits_one : (selector value : ℕ) → selector < 2 → value ≡ 1 → fits selector value ≡ true
unfolding fits
fits_one selector value low one = cond-true (ltb selector 2) _ _ (lt-ltb selector 2 low) ∙ eq-eqb value 1 one

pub fits_no_one : (selector value : ℕ) → selector < 2 → value ≢ 1 → fits selector value ≡ false
unfolding fits
fits_no_one selector value low other = cond-true (ltb selector 2) _ _ (lt-ltb selector 2 low) ∙ ne_eqb value 1 other

pub fits_narrow : (selector value : ℕ) → 2 ≤ selector → value < 2 ^ bits_of selector → fits selector value ≡ true
unfolding fits
fits_narrow selector value high narrow = cond-false (ltb selector 2) _ _ (le-ltb selector 2 high) ∙ lt-ltb value (2 ^ bits_of selector) narrow

pub fits_not_wide : (selector value : ℕ) → 2 ≤ selector → 2 ^ bits_of selector ≤ value → fits selector value ≡ false
unfolding fits
fits_not_wide selector value high wide = cond-false (ltb selector 2) _ _ (le-ltb selector 2 high) ∙ le-ltb value (2 ^ bits_of selector) wide

pub one_from_fits : (selector value : ℕ) → selector < 2 → fits selector value ≡ true → value ≡ 1
unfolding fits
one_from_fits selector value low fit = eqb-true value 1 (sym (cond-true (ltb selector 2) _ _ (lt-ltb selector 2 low)) ∙ fit)

pub narrow_from_fits : (selector value : ℕ) → 2 ≤ selector → fits selector value ≡ true → value < 2 ^ bits_of selector
unfolding fits
narrow_from_fits selector value high fit = ltb-true value (2 ^ bits_of selector) (sym (cond-false (ltb selector 2) _ _ (le-ltb selector 2 high)) ∙ fit)

-- ---- whether a selector holds the next values

pub holds_from : (selector : ℕ) (values : List ℕ) → count_of selector ≤ length values → ((k : ℕ) → k < count_of selector → fits selector (get_or values k 0) ≡ true) → holds selector values ≡ true
unfolding holds
holds_from selector values long fit =
    let front = take (count_of selector) values in
    let size : length front ≡ count_of selector = length-take-le _ values long in
    let each : AllPass (fits selector) front = λ k d below.
    subst (λ (x : ℕ). fits selector x ≡ true) (sym (get_or-take (count_of selector) values k d (omega arith)) ∙ refl)
    (subst (λ (x : ℕ). fits selector x ≡ true) (get_or_default values k 0 d (omega arith)) (fit k (omega arith))) in
    and_from _ _ (le-leb (count_of selector) (length values) long) (list_all-from_AllPass (fits selector) front each)

pub holds_not_short : (selector : ℕ) (values : List ℕ) → length values < count_of selector → holds selector values ≡ false
unfolding holds
holds_not_short selector values short = and_left _ _ (lt-leb (count_of selector) (length values) short)

pub holds_not_unfit : (selector : ℕ) (values : List ℕ) (k : ℕ) → k < count_of selector → k < length values → fits selector (get_or values k 0) ≡ false → holds selector values ≡ false
unfolding holds
holds_not_unfit selector values k within there unfit =
    ⊎_elim
    (λ long. and_right (leb (count_of selector) (length values)) _
    (list_all_at (fits selector) (take (count_of selector) values) k 0 (omega (arith, length-take-le (count_of selector) values (leb-true (count_of selector) (length values) long)))
    (ap (fits selector) (get_or-take (count_of selector) values k 0 within) ∙ unfit)))
    (λ short. and_left _ _ short)
    (cases_Bool (leb (count_of selector) (length values)))

pub long_from_holds : (selector : ℕ) (values : List ℕ) → holds selector values ≡ true → count_of selector ≤ length values
unfolding holds
long_from_holds selector values held = leb-true (count_of selector) (length values) ((and_parts _ _ held).0)

pub fit_from_holds : (selector : ℕ) (values : List ℕ) → holds selector values ≡ true → All (λ value. fits selector value ≡ true) (take (count_of selector) values)
unfolding holds
fit_from_holds selector values held = AllPass-from_list_all (fits selector) (take (count_of selector) values) ((and_parts _ _ held).1)

-- ---- the first selector

-- the first number of a range that meets a test
find_first : (test : ℕ → Bool) (first n found : ℕ) → first ≤ found → found < first + n → test found ≡ true → ((k : ℕ) → first ≤ k → k < found → test k ≡ false) → find test (range_with_len first n) ≡ Some found
find_first test first zero found low high met before = absurd (omega arith)
find_first test first (suc n) found low high met before =
    ⊎_elim
    (λ later. cond-false (test first) (Some first) _ (before first (omega arith) later)
    ∙ find_first test (first + 1) n found (omega arith) (omega arith) met (λ k above below. before k (omega arith) below))
    (λ now. let same : first ≡ found = omega arith in
    cond-true (test first) (Some first) _ (subst (λ (x : ℕ). test x ≡ true) (sym same) met) ∙ ap (λ (x : ℕ). Some x) same)
    (cases_lt first found)

-- where a number of a range meets a test, the first that is found does
find_meets : (test : ℕ → Bool) (first n last : ℕ) → first ≤ last → last < first + n → test last ≡ true → (found : ℕ) × (find test (range_with_len first n) ≡ Some found) × (found < first + n) × (test found ≡ true)
find_meets test first zero last low high met = absurd (omega arith)
find_meets test first (suc n) last low high met =
    ⊎_elim
    (λ yes. (first, cond-true (test first) (Some first) _ yes, omega arith, yes))
    (λ no. let later : first < last = ⊎_elim (λ later. later) (λ now. let same : last ≡ first = omega arith in absurd (false≢true (sym no ∙ subst (λ (x : ℕ). test x ≡ true) same met))) (cases_lt first last) in
    let rest = find_meets test (first + 1) n last (omega arith) (omega arith) met in
    (rest.0, cond-false (test first) (Some first) _ no ∙ rest.1, omega (arith, rest.2), rest.3))
    (cases_Bool (test first))

pub selector_is : (values : List ℕ) (selector : ℕ) → selector < 16 → holds selector values ≡ true → ((k : ℕ) → k < selector → holds k values ≡ false) → selector_of values ≡ selector
unfolding selector_of
selector_is values selector below held before =
    ap (λ (o : Option ℕ). unwrap_or o 15) (find_first (λ s. holds s values) 0 16 selector (omega arith) (omega arith) held (λ k _ h. before k h))

-- the last selector holds any first value
pub last_holds : (values : List ℕ) → 0 < length values → All (λ value. value < 2 ^ 60) values → holds 15 values ≡ true
last_holds values some narrow =
    holds_from 15 values (omega (arith, count_last)) (λ k below. let at : k ≡ 0 = omega (arith, count_last) in
    fits_narrow 15 (get_or values k 0) (omega arith) (subst (λ (b : ℕ). get_or values k 0 < 2 ^ b) (sym bits_last) (narrow k 0 (omega arith))))

pub selector_holds : (values : List ℕ) → 0 < length values → All (λ value. value < 2 ^ 60) values → (selector_of values < 16) × (holds (selector_of values) values ≡ true)
unfolding selector_of
selector_holds values some narrow =
    let found = find_meets (λ s. holds s values) 0 16 15 (omega arith) (omega arith) (last_holds values some narrow) in
    let is = ap (λ (o : Option ℕ). unwrap_or o 15) found.1 in
    (omega (arith, is, found.2), subst (λ (x : ℕ). holds x values ≡ true) (sym is) found.3)

-- ---- what a run of values says of a selector

-- a run of ones that ends before the count of a selector of ones
pub holds_not_ones : (selector : ℕ) (values : List ℕ) (ones : ℕ) → selector < 2 → ones < count_of selector → ones ≤ length values → (ones < length values → get_or values ones 0 ≢ 1) → holds selector values ≡ false
holds_not_ones selector values ones low short within ends =
    ⊎_elim
    (λ there. holds_not_unfit selector values ones short there (fits_no_one selector (get_or values ones 0) low (ends there)))
    (λ over. holds_not_short selector values (omega arith))
    (cases_lt ones (length values))

-- a run of values narrow enough that ends before the count
pub holds_not_run : (selector : ℕ) (values : List ℕ) (run limit : ℕ) → 2 ≤ selector → limit ≡ 2 ^ bits_of selector → run < count_of selector → (run < length values → limit ≤ get_or values run 0) → holds selector values ≡ false
holds_not_run selector values run limit high is short ends =
    ⊎_elim
    (λ there. holds_not_unfit selector values run short there (fits_not_wide selector (get_or values run 0) high (omega (arith, is, ends there))))
    (λ over. holds_not_short selector values (omega arith))
    (cases_lt run (length values))

pub holds_run : (selector : ℕ) (values : List ℕ) (run : ℕ) → 2 ≤ selector → count_of selector ≤ run → run ≤ length values → ((k : ℕ) → k < run → get_or values k 0 < 2 ^ bits_of selector) → holds selector values ≡ true
holds_run selector values run high long within narrow =
    holds_from selector values (omega arith) (λ k below. fits_narrow selector (get_or values k 0) high (narrow k (omega arith)))

pub holds_ones : (selector : ℕ) (values : List ℕ) (ones : ℕ) → selector < 2 → count_of selector ≤ ones → ones ≤ length values → ((k : ℕ) → k < ones → get_or values k 0 ≡ 1) → holds selector values ≡ true
holds_ones selector values ones low long within one =
    holds_from selector values (omega arith) (λ k below. fits_one selector (get_or values k 0) low (one k (omega arith)))

-- neither selector of ones holds values that begin with fewer ones than 120
pub holds_no_ones : (values : List ℕ) (ones k : ℕ) → k < 2 → ones < 120 → ones ≤ length values → (ones < length values → get_or values ones 0 ≢ 1) → holds k values ≡ false
holds_no_ones values ones k low few within ends =
    ⊎_elim
    (λ zeroth. let at : k ≡ 0 = omega arith in holds_not_ones k values ones low (omega (arith, count_first, ap count_of at)) within ends)
    (λ first. let at : k ≡ 1 = omega arith in holds_not_ones k values ones low (omega (arith, count_second, ap count_of at)) within ends)
    (cases_lt k 1)

-- a selector whose bits don't hold the first value
pub holds_not_first : (selector : ℕ) (values : List ℕ) → 2 ≤ selector → 1 ≤ count_of selector → 0 < length values → 2 ^ bits_of selector ≤ get_or values 0 0 → holds selector values ≡ false
holds_not_first selector values high some there wide = holds_not_unfit selector values 0 (omega arith) there (fits_not_wide selector (get_or values 0 0) high wide)

-- a run of narrow values that went on
pub run_narrow : (values : List ℕ) (bits limit from run k : ℕ) → limit ≡ 2 ^ bits → ((j : ℕ) → j < from → get_or values j 0 < 2 ^ bits) → ((j : ℕ) → from ≤ j → j < run → get_or values j 0 < limit) → k < run → get_or values k 0 < 2 ^ bits
run_narrow values bits limit from run k is before behind below =
    ⊎_elim (λ old. before k old) (λ new. omega (arith, is, behind k new below)) (cases_lt k from)
