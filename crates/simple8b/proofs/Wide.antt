-- Values of a word that the selector before its own has no room for.
use Rattle.std.proofs.Common.{◌≡◌, ℕ, suc, zero, ◌+◌, ◌-◌, ◌*◌, ◌/◌, ◌%◌, ◌^◌, ◌<◌, ◌≤◌, ⊎_elim, true, cond, eqb, ltb, List, [], ◌∷◌, length, take, get_or, slice_index, bit_and, All, sym, ◌∙◌, ap, subst, refl, arith}
use Rattle.std.proofs.lemmas.Bool.{agree_below_at, cases_Bool, cases_lt, cond-true, cond-false, lt-ltb, le-ltb, eqb-true}
use Rattle.std.proofs.lemmas.Nat.{pow_pos, and_block, div-add-mod'}
use Rattle.std.proofs.lemmas.Nat.Bits.{and_high_mask}
use Rattle.std.specs.Int.Bits.{and_zero_r}
use Rattle.std.proofs.lemmas.List.{get_or-take, length-take, take-take, get_or-replicate}
use Rattle.std.proofs.lemmas.List.Elements.{All-head, All-tail, All-nil, All-cons, All-weaker, All-take}
use Rattle.std.proofs.Math.Nat.{mod-eq_of_lt}
use Rattle.simple8b.specs.Words.{count_of, bits_of, fits, holds, selector_of}
use Rattle.simple8b.specs.Unpacked.{selector_in, unpacked, values_in}
use Rattle.simple8b.proofs.Tables.{pow_le, bits_some, bits_before, bits_least, count_falls}
use Rattle.simple8b.proofs.Selecting.{holds_from, fit_from_holds, fits_one, fits_narrow, one_from_fits, narrow_from_fits, selector_is}
use Rattle.simple8b.proofs.Packing.{length-unpacked, unpacked-narrow}
use Rattle.simple8b.proofs.Spelling.{length-values_in, values_in_ones, values_in_packed}

-- in each of so many numbers of so many bits, the bits above the lowest ones
abbrev pub upper_bits : ℕ → ℕ → ℕ → ℕ
upper_bits bits low zero = 0
upper_bits bits low (suc count) = upper_bits bits low count * 2 ^ bits + (2 ^ bits - 2 ^ low)

-- the table, by the selector
abbrev pub wide_by : ℕ → ℕ
wide_by selector = slice_index (0 ∷ 0 ∷ 0 ∷ 768614336404564650 ∷ 658812288346769700 ∷ 614891469123651720 ∷ 595056260442243600 ∷ 585610922974906400 ∷ 36312488334073920 ∷ 36170086419038336 ∷ 865536378825081600 ∷ 864902286239861760 ∷ 1008837103796121600 ∷ 1116893772740788224 ∷ 1151795605772697600 ∷ 1152921503533105152 ∷ []) selector

-- what stands in the table
upper_by : ℕ → ℕ
upper_by selector = cond (ltb selector 3) 0 (upper_bits (bits_of selector) (bits_of (selector - 1)) (count_of selector))

wide_is : (selector : ℕ) → selector < 16 → wide_by selector ≡ upper_by selector
unfolding bits_of count_of upper_by
wide_is selector h = eqb-true (wide_by selector) (upper_by selector) (agree_below_at (λ s. eqb (wide_by s) (upper_by s)) (λ _. true) 16 selector refl h)

pub wide_none : (selector : ℕ) → selector < 3 → wide_by selector ≡ 0
unfolding upper_by
wide_none selector low = wide_is selector (omega arith) ∙ cond-true (ltb selector 3) _ _ (lt-ltb selector 3 low)

pub wide_some : (selector : ℕ) → 3 ≤ selector → selector < 16 → wide_by selector ≡ upper_bits (bits_of selector) (bits_of (selector - 1)) (count_of selector)
unfolding upper_by
wide_some selector high h = wide_is selector h ∙ cond-false (ltb selector 3) _ _ (le-ltb selector 3 high)

-- a number has a bit above the lowest ones exactly where it is not below their power
no_upper : (bits low n : ℕ) → low ≤ bits → n < 2 ^ bits → (bit_and n (2 ^ bits - 2 ^ low) ≡ 0 → n < 2 ^ low) × (n < 2 ^ low → bit_and n (2 ^ bits - 2 ^ low) ≡ 0)
no_upper bits low n within small =
    let masked = and_high_mask bits low within n small in
    let some = pow_pos low in
    let whole = div-add-mod' n (2 ^ low) in
    let below : n % 2 ^ low < 2 ^ low = omega (arith, some) in (
      λ none. omega (arith, whole, below, sym masked ∙ none),
      λ narrow. masked ∙ omega (arith, whole, mod-eq_of_lt narrow),
    )

zero_sum : (a b m : ℕ) → 0 < m → a * m + b ≡ 0 → (a ≡ 0) × (b ≡ 0)
zero_sum zero b m some e = (refl, omega (arith, e))
zero_sum (suc a) b m some e = absurd (omega arith)

no_sum : (a b m : ℕ) → a ≡ 0 → b ≡ 0 → a * m + b ≡ 0
no_sum a b m none nor = ap (λ (n : ℕ). n * m + b) none ∙ omega (arith, nor)

-- a word has such a bit exactly where not all of its numbers are below the power
pub no_upper_bits : (bits low count word : ℕ) → low ≤ bits → (bit_and word (upper_bits bits low count) ≡ 0 → All (λ value. value < 2 ^ low) (unpacked bits count word)) × (All (λ value. value < 2 ^ low) (unpacked bits count word) → bit_and word (upper_bits bits low count) ≡ 0)
unfolding unpacked
no_upper_bits bits low zero word within = (λ _. All-nil (λ value. value < 2 ^ low), λ _. and_zero_r word)
no_upper_bits bits low (suc count) word within =
    let rest = no_upper_bits bits low count (word / 2 ^ bits) within in
    let some = pow_pos bits in
    let above = pow_pos low in
    let small : word % 2 ^ bits < 2 ^ bits = omega (arith, some) in
    let here = no_upper bits low (word % 2 ^ bits) within small in
    let split : bit_and word (upper_bits bits low (suc count)) ≡ bit_and (word / 2 ^ bits) (upper_bits bits low count) * 2 ^ bits + bit_and (word % 2 ^ bits) (2 ^ bits - 2 ^ low) =
    ap (λ (w : ℕ). bit_and w (upper_bits bits low (suc count))) (sym (div-add-mod' word (2 ^ bits)))
    ∙ and_block bits (word / 2 ^ bits) (upper_bits bits low count) (word % 2 ^ bits) (2 ^ bits - 2 ^ low) small (omega (arith, some, above)) in (
      λ none.
          let parts = zero_sum (bit_and (word / 2 ^ bits) (upper_bits bits low count)) (bit_and (word % 2 ^ bits) (2 ^ bits - 2 ^ low)) (2 ^ bits) some (sym split ∙ none) in
          All-cons (λ value. value < 2 ^ low) (word % 2 ^ bits) (unpacked bits count (word / 2 ^ bits)) (here.0 parts.1) (rest.0 parts.0),
      λ all.
          let first : bit_and (word % 2 ^ bits) (2 ^ bits - 2 ^ low) ≡ 0 = here.1 (All-head (λ value. value < 2 ^ low) (word % 2 ^ bits) (unpacked bits count (word / 2 ^ bits)) all) in
          let others : bit_and (word / 2 ^ bits) (upper_bits bits low count) ≡ 0 = rest.1 (All-tail (λ value. value < 2 ^ low) (word % 2 ^ bits) (unpacked bits count (word / 2 ^ bits)) all) in
          split ∙ no_sum (bit_and (word / 2 ^ bits) (upper_bits bits low count)) (bit_and (word % 2 ^ bits) (2 ^ bits - 2 ^ low)) (2 ^ bits) others first,
    )

-- the bits of the table, in a word of a selector above 2
pub wide_values : (word : ℕ) → 3 ≤ selector_in word → selector_in word < 16
    → (bit_and word (wide_by (selector_in word)) ≡ 0 → All (λ value. value < 2 ^ bits_of (selector_in word - 1)) (values_in word))
    × (All (λ value. value < 2 ^ bits_of (selector_in word - 1)) (values_in word) → bit_and word (wide_by (selector_in word)) ≡ 0)
wide_values word high h =
    let selector = selector_in word in
    let both = no_upper_bits (bits_of selector) (bits_of (selector - 1)) (count_of selector) word (bits_before selector (omega arith) h) in
    let table = wide_some selector high h in
    let same = values_in_packed word (omega arith) in (
      λ none. subst (λ (vs : List ℕ). All (λ value. value < 2 ^ bits_of (selector - 1)) vs) (sym same) (both.0 (ap (bit_and word) (sym table) ∙ none)),
      λ all. ap (bit_and word) table ∙ both.1 (subst (λ (vs : List ℕ). All (λ value. value < 2 ^ bits_of (selector - 1)) vs) same all),
    )

-- ---- the selector of the values that begin with those of a word

-- the word's own selector holds them
pub own_held : (word : ℕ) (values : List ℕ) → selector_in word < 16 → take (count_of (selector_in word)) values ≡ values_in word → holds (selector_in word) values ≡ true
own_held word values h own =
    let selector = selector_in word in
    let count = count_of selector in
    let size : length (take count values) ≡ count = ap length own ∙ length-values_in word in
    let long : count ≤ length values = omega (arith, size, length-take count values) in
    let at : (k : ℕ) → k < count → get_or values k 0 ≡ get_or (values_in word) k 0 = λ k below. sym (get_or-take count values k 0 below) ∙ ap (λ (vs : List ℕ). get_or vs k 0) own in
    ⊎_elim
    (λ low. holds_from selector values long (λ k below. fits_one selector (get_or values k 0) low
    (at k below ∙ ap (λ (vs : List ℕ). get_or vs k 0) (values_in_ones word low) ∙ get_or-replicate count k 1 0 below)))
    (λ high. holds_from selector values long (λ k below. fits_narrow selector (get_or values k 0) high
    (let value = at k below ∙ ap (λ (vs : List ℕ). get_or vs k 0) (values_in_packed word high) in
    let narrow = unpacked-narrow (bits_of selector) count word k 0 (omega (arith, length-unpacked (bits_of selector) count word)) in omega (arith, value, narrow))))
    (cases_lt selector 2)

-- a selector before the word's own would hold its values: they are narrow
lower_narrow : (word : ℕ) (values : List ℕ) (k : ℕ) → 3 ≤ selector_in word → selector_in word < 16 → k < selector_in word → take (count_of (selector_in word)) values ≡ values_in word → holds k values ≡ true
    → All (λ value. value < 2 ^ bits_of (selector_in word - 1)) (values_in word)
lower_narrow word values k high h below own held =
    let selector = selector_in word in
    let low = bits_of (selector - 1) in
    let fitting = fit_from_holds k values held in
    let fewer : count_of selector ≤ count_of k = count_falls k selector below h in
    let power = pow_le 1 low (bits_some (selector - 1) (omega arith) (omega arith)) in
    let each : (value : ℕ) → fits k value ≡ true → value < 2 ^ low = λ value fit.
    ⊎_elim
    (λ ones. let one : value ≡ 1 = one_from_fits k value ones fit in omega (arith, one, power))
    (λ packed. omega (arith, narrow_from_fits k value packed fit, pow_le (bits_of k) low (bits_least k (selector - 1) (omega arith) (omega arith))))
    (cases_lt k 2) in
    let all : All (λ value. value < 2 ^ low) (take (count_of k) values) = All-weaker (λ value. fits k value ≡ true) (λ value. value < 2 ^ low) each (take (count_of k) values) fitting in
    let fronts : take (count_of selector) (take (count_of k) values) ≡ take (count_of selector) values = take-take (count_of selector) (count_of k) values fewer in
    subst (λ (vs : List ℕ). All (λ value. value < 2 ^ low) vs) (fronts ∙ own) (All-take (λ value. value < 2 ^ low) (count_of selector) (take (count_of k) values) all)

-- where one of them has no room before, the word's own selector is the first
pub wide_first : (word : ℕ) (values : List ℕ) → 3 ≤ selector_in word → selector_in word < 16 → take (count_of (selector_in word)) values ≡ values_in word → (All (λ value. value < 2 ^ bits_of (selector_in word - 1)) (values_in word) → ⊥) → selector_of values ≡ selector_in word
wide_first word values high h own wide =
    selector_is values (selector_in word) h (own_held word values h own) (λ k below.
    ⊎_elim (λ held. absurd (wide (lower_narrow word values k high h below own held))) (λ none. none) (cases_Bool (holds k values)))

pub zero_first : (word : ℕ) (values : List ℕ) → selector_in word ≡ 0 → take (count_of (selector_in word)) values ≡ values_in word → selector_of values ≡ selector_in word
zero_first word values zeroth own = selector_is values (selector_in word) (omega arith) (own_held word values (omega arith) own) (λ k below. absurd (omega arith))
