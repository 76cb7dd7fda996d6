-- The coded times of a list, taken apart.
use Rattle.std.proofs.Common.{◌≡◌, ℕ, zero, suc, ◌+◌, ◌*◌, ◌/◌, ◌%◌, ◌^◌, ◌<◌, ◌≤◌, Bool, true, false, ◌&&◌, cond, eqb, ltb, List, [], ◌∷◌, ◌++◌, inl, inr, length, map, drop, get_or, refl, sym, ◌∙◌, ap, subst, arith, append_assoc, div-le_self}
use Rattle.std.specs.Prelude.{All, ℤ, pos, negsuc, ◌-ℤ◌, ◌<ℤ◌, unsigned_abs, slice_index}
use Rattle.std.specs.List.{flat_map, list_all}
use Rattle.std.proofs.lemmas.List.Folds.{list_all-map}
use Rattle.word_codec.specs.Uvarint.{uvarint}
use Rattle.simple8b.specs.Words.{words_of}
use Rattle.std.specs.Cmp.{first_so, second_so}
use Rattle.std.specs.Int.{to_be_bytes, cast_unsigned, w64}
use Rattle.std.proofs.lemmas.Bool.{eqb-true, ltb-true, lt-ltb, cond-true, cond-false, cases_Bool}
use Rattle.std.proofs.Math.Nat.{div-lt_iff_lt-mul}
use Rattle.std.specs.Cmp.{both_ways}
use Rattle.std.proofs.lemmas.List.{drop_more, drop_all, length-map, get_or-map}
use Rattle.std.proofs.lemmas.List.Elements.{All-head, All-tail, All-nil, All-cons}
use Rattle.std.proofs.lemmas.Int.{ints}
use Rattle.tsdb_types.specs.Moments.{IsMoment}
use Rattle.time_codec.specs.declared.form.Form.{Form}
use Rattle.time_codec.specs.declared.form.Form.TheVariants.{Raw, Packed, RunLength}
use Rattle.time_codec.specs.Reading.{Follow, Begin, AreRead}
use Rattle.time_codec.proofs.ScaleLemmas.{greatest_most, greatest_divides, one_divides, scaled_back, scaled_unscaled, unscaled_zero, same_unscaled, test_from_narrow}
use Rattle.time_codec.specs.Times.{AreTimes, Ascend, differences, divides_all, greatest_exponent, exponent_of, scaled, unscaled, all_same, form_of, exponent_in, number_of, body_of, spelled, coded_from, coded_times}

-- one more difference is taken
pub between_more : (found : List ℕ) (later : List ℤ) (index : ℕ) (before time : ℤ) (gap : ℕ) (all : List ℕ) → index < length later → time ≡ get_or later index time → gap ≡ unsigned_abs (time -ℤ before)
    → found ++ differences (before ∷ drop index later) ≡ all → (found ++ gap ∷ []) ++ differences (time ∷ drop (index + 1) later) ≡ all
between_more found later index before time gap all lt is gap_is so_far =
    append_assoc found (gap ∷ []) (differences (time ∷ drop (index + 1) later))
    ∙ ap (λ g. found ++ g ∷ differences (time ∷ drop (index + 1) later)) gap_is
    ∙ ap (λ rest. found ++ differences (before ∷ rest)) (ap (λ t. t ∷ drop (index + 1) later) is ∙ sym (drop_more later index time lt))
    ∙ so_far

-- one more difference is asked for
pub even_more : (even : Bool) (gap difference : ℕ) (later : List ℤ) (index : ℕ) (before time : ℤ) (all : Bool) → index < length later → time ≡ get_or later index time → gap ≡ unsigned_abs (time -ℤ before)
    → (even && list_all (λ other. eqb other difference) (differences (before ∷ drop index later))) ≡ all
    → ((even && eqb gap difference) && list_all (λ other. eqb other difference) (differences (time ∷ drop (index + 1) later))) ≡ all
even_more even gap difference later index before time all lt is gap_is so_far =
    together even (eqb gap difference) (list_all (λ other. eqb other difference) (differences (time ∷ drop (index + 1) later)))
    ∙ ap (λ g. even && (eqb g difference && list_all (λ other. eqb other difference) (differences (time ∷ drop (index + 1) later)))) gap_is
    ∙ ap (λ rest. even && list_all (λ other. eqb other difference) (differences (before ∷ rest))) (ap (λ t. t ∷ drop (index + 1) later) is ∙ sym (drop_more later index time lt))
    ∙ so_far
  where
    together : (a b c : Bool) → ((a && b) && c) ≡ (a && (b && c))
    together true b c = refl
    together false b c = refl

-- no time is left to ask for
pub even_all : (even : Bool) (difference : ℕ) (later : List ℤ) (index : ℕ) (before : ℤ) (all : Bool) → length later ≤ index
    → (even && list_all (λ other. eqb other difference) (differences (before ∷ drop index later))) ≡ all → even ≡ all
even_all even difference later index before all end so_far =
    sym (ap (λ rest. even && list_all (λ other. eqb other difference) (differences (before ∷ rest))) (drop_all index later end) ∙ whole even) ∙ so_far
  where
    whole : (b : Bool) → (b && true) ≡ b
    whole true = refl
    whole false = refl

-- ---- the form

pub length-differences : (first : ℤ) (later : List ℤ) → length (differences (first ∷ later)) ≡ length later
length-differences first [] = refl
length-differences first (second ∷ later) = ap (λ n. suc n) (length-differences second later)

apart_fits : (a b : ℤ) → IsMoment a → IsMoment b → a <ℤ b → unsigned_abs (b -ℤ a) < 2 ^ 64
apart_fits (pos a) (pos b) p q lt = omega (arith, ints, p.least, p.greatest, q.least, q.greatest, lt)
apart_fits (pos a) (negsuc b) p q lt = omega (arith, ints, p.least, p.greatest, q.least, q.greatest, lt)
apart_fits (negsuc a) (pos b) p q lt = omega (arith, ints, p.least, p.greatest, q.least, q.greatest, lt)
apart_fits (negsuc a) (negsuc b) p q lt = omega (arith, ints, p.least, p.greatest, q.least, q.greatest, lt)

differences_fit : (first : ℤ) (later : List ℤ) → All IsMoment (first ∷ later) → Ascend (first ∷ later) → All (λ difference. difference < 2 ^ 64) (differences (first ∷ later))
differences_fit first [] moments ascend = All-nil (λ difference. difference < 2 ^ 64)
differences_fit first (second ∷ later) moments ascend =
    let rest = All-tail IsMoment first (second ∷ later) moments in
    All-cons (λ difference. difference < 2 ^ 64) (unsigned_abs (second -ℤ first)) (differences (second ∷ later))
    (apart_fits first second (All-head IsMoment first (second ∷ later) moments) (All-head IsMoment second later rest) ascend.0)
    (differences_fit second later rest ascend.1)

scaled_fit : (exponent : ℕ) (steps : List ℕ) → All (λ step. step < 2 ^ 64) steps → All (λ step. step < 2 ^ 64) (scaled exponent steps)
scaled_fit exponent [] all = All-nil (λ step. step < 2 ^ 64)
scaled_fit exponent (step ∷ steps) all =
    All-cons (λ s. s < 2 ^ 64) (step / 10 ^ exponent) (scaled exponent steps)
    (omega (arith, All-head (λ s. s < 2 ^ 64) step steps all, div-le_self step (10 ^ exponent)))
    (scaled_fit exponent steps (All-tail (λ s. s < 2 ^ 64) step steps all))

narrow_from_test : (steps : List ℕ) → list_all (λ step. ltb step (2 ^ 60)) steps ≡ true → All (λ step. step < 2 ^ 60) steps
narrow_from_test [] all = All-nil (λ step. step < 2 ^ 60)
narrow_from_test (step ∷ steps) all =
    All-cons (λ s. s < 2 ^ 60) step steps
    (ltb-true step (2 ^ 60) (first_so (ltb step (2 ^ 60)) (list_all (λ s. ltb s (2 ^ 60)) steps) all))
    (narrow_from_test steps (second_so (ltb step (2 ^ 60)) (list_all (λ s. ltb s (2 ^ 60)) steps) all))

-- which form it is, with what was tested for it
pub data WhichForm (steps : List ℕ) (form : Form) : Type 0 where
  run_length : form ≡ RunLength → all_same steps ≡ true → WhichForm steps form
  packed : form ≡ Packed → all_same steps ≡ false → list_all (λ step. ltb step (2 ^ 60)) (scaled (exponent_of steps) steps) ≡ true → WhichForm steps form
  raw : form ≡ Raw → all_same steps ≡ false → list_all (λ step. ltb step (2 ^ 60)) (scaled (exponent_of steps) steps) ≡ false → WhichForm steps form

pub which : (steps : List ℕ) → WhichForm steps (form_of steps)
unfolding form_of
which steps = elim (cases_Bool (all_same steps)) [
  | inl same ↦ run_length (cond-true (all_same steps) _ _ same) same
  | inr other ↦ elim (cases_Bool (list_all (λ step. ltb step (2 ^ 60)) (scaled (exponent_of steps) steps))) [
    | inl narrow ↦ packed (cond-false (all_same steps) _ _ other ∙ cond-true (list_all (λ step. ltb step (2 ^ 60)) (scaled (exponent_of steps) steps)) _ _ narrow) other narrow
    | inr wide ↦ raw (cond-false (all_same steps) _ _ other ∙ cond-false (list_all (λ step. ltb step (2 ^ 60)) (scaled (exponent_of steps) steps)) _ _ wide) other wide
  ]
]

pub coded_as : (first : ℤ) (steps : List ℕ) (form : Form) → form_of steps ≡ form → coded_from first steps ≡ spelled form (exponent_in form steps) first steps
unfolding coded_from
coded_as first steps form is = ap (λ f. spelled f (exponent_in f steps) first steps) is

scaled_zero : (steps : List ℕ) → scaled 0 steps ≡ steps
scaled_zero [] = refl
scaled_zero (step ∷ steps) =
    let same : step / 1 ≡ step = omega arith in
    ap (λ s. s ∷ scaled 0 steps) same ∙ ap (λ ss. step ∷ ss) (scaled_zero steps)

pub some_same : (steps : List ℕ) → all_same steps ≡ true → 0 < length steps
some_same [] all = absurd (cc all)
some_same (step ∷ steps) all = omega arith

-- ---- what is written

pub run_is : (first : ℤ) (steps : List ℕ) → all_same steps ≡ true
    → (32 + exponent_of steps) ∷ (to_be_bytes w64 (cast_unsigned w64 first) ++ (uvarint (get_or steps 0 0 / 10 ^ exponent_of steps) ++ uvarint (length steps + 1))) ≡ coded_from first steps
run_is first steps same = run_by first steps (which steps) same
  where
    run_by : (first : ℤ) (steps : List ℕ) → WhichForm steps (form_of steps) → all_same steps ≡ true
        → (32 + exponent_of steps) ∷ (to_be_bytes w64 (cast_unsigned w64 first) ++ (uvarint (get_or steps 0 0 / 10 ^ exponent_of steps) ++ uvarint (length steps + 1))) ≡ coded_from first steps
    run_by first steps (run_length is _) same =
        let value : get_or steps 0 0 / 10 ^ exponent_of steps ≡ slice_index (scaled (exponent_of steps) steps) 0 =
        sym (get_or-map (λ d. d / 10 ^ exponent_of steps) steps 0 0 0 (some_same steps same)) in
        let size : length steps ≡ length (scaled (exponent_of steps) steps) = sym (length-map steps (λ d. d / 10 ^ exponent_of steps)) in
        ap (λ v. (32 + exponent_of steps) ∷ (to_be_bytes w64 (cast_unsigned w64 first) ++ (uvarint v ++ uvarint (length steps + 1)))) value
        ∙ ap (λ n. (32 + exponent_of steps) ∷ (to_be_bytes w64 (cast_unsigned w64 first) ++ (uvarint (slice_index (scaled (exponent_of steps) steps) 0) ++ uvarint (n + 1)))) size
        ∙ sym (coded_as first steps RunLength is)
    run_by first steps (packed is other _) same = absurd (cc (other, same))
    run_by first steps (raw is other _) same = absurd (cc (other, same))

pub packed_is : (first : ℤ) (steps : List ℕ) → all_same steps ≡ false → list_all (λ step. ltb (step / 10 ^ exponent_of steps) (2 ^ 60)) steps ≡ true
    → (16 + exponent_of steps) ∷ (to_be_bytes w64 (cast_unsigned w64 first) ++ flat_map (to_be_bytes w64) (words_of (scaled (exponent_of steps) steps))) ≡ coded_from first steps
packed_is first steps other narrow = packed_by first steps (which steps) other narrow
  where
    packed_by : (first : ℤ) (steps : List ℕ) → WhichForm steps (form_of steps) → all_same steps ≡ false → list_all (λ step. ltb (step / 10 ^ exponent_of steps) (2 ^ 60)) steps ≡ true
        → (16 + exponent_of steps) ∷ (to_be_bytes w64 (cast_unsigned w64 first) ++ flat_map (to_be_bytes w64) (words_of (scaled (exponent_of steps) steps))) ≡ coded_from first steps
    packed_by first steps (run_length is same) other narrow = absurd (cc (other, same))
    packed_by first steps (packed is _ _) other narrow = sym (coded_as first steps Packed is)
    packed_by first steps (raw is _ wide) other narrow =
        absurd (cc (list_all-map (λ step. ltb step (2 ^ 60)) (λ step. step / 10 ^ exponent_of steps) steps, wide, narrow))

pub raw_is : (first : ℤ) (steps : List ℕ) → all_same steps ≡ false → list_all (λ step. ltb (step / 10 ^ exponent_of steps) (2 ^ 60)) steps ≡ false
    → 0 ∷ (to_be_bytes w64 (cast_unsigned w64 first) ++ flat_map (to_be_bytes w64) steps) ≡ coded_from first steps
raw_is first steps other wide = raw_by first steps (which steps) other wide
  where
    raw_by : (first : ℤ) (steps : List ℕ) → WhichForm steps (form_of steps) → all_same steps ≡ false → list_all (λ step. ltb (step / 10 ^ exponent_of steps) (2 ^ 60)) steps ≡ false
        → 0 ∷ (to_be_bytes w64 (cast_unsigned w64 first) ++ flat_map (to_be_bytes w64) steps) ≡ coded_from first steps
    raw_by first steps (run_length is same) other wide = absurd (cc (other, same))
    raw_by first steps (packed is _ narrow) other wide =
        absurd (cc (list_all-map (λ step. ltb step (2 ^ 60)) (λ step. step / 10 ^ exponent_of steps) steps, wide, narrow))
    raw_by first steps (raw is _ _) other wide =
        ap (λ ss. 0 ∷ (to_be_bytes w64 (cast_unsigned w64 first) ++ flat_map (to_be_bytes w64) ss)) (sym (scaled_zero steps))
        ∙ sym (coded_as first steps Raw is)

same_divides : (exponent first : ℕ) (steps : List ℕ) → list_all (λ step. eqb step first) steps ≡ true → (eqb (first % 10 ^ exponent) 0 && divides_all exponent steps) ≡ eqb (first % 10 ^ exponent) 0
same_divides exponent first [] all = elim (cases_Bool (eqb (first % 10 ^ exponent) 0)) [ inl divides ↦ ap (λ b. b && true) divides ∙ sym divides | inr other ↦ ap (λ b. b && true) other ∙ sym other ]
same_divides exponent first (step ∷ steps) all =
    let here = eqb-true step first (first_so (eqb step first) (list_all (λ s. eqb s first) steps) all) in
    let rest = same_divides exponent first steps (second_so (eqb step first) (list_all (λ s. eqb s first) steps) all) in
    ap (λ s. eqb (first % 10 ^ exponent) 0 && (eqb (s % 10 ^ exponent) 0 && divides_all exponent steps)) here
    ∙ ap (λ b. eqb (first % 10 ^ exponent) 0 && b) rest
    ∙ twice (eqb (first % 10 ^ exponent) 0)
  where
    twice : (b : Bool) → (b && b) ≡ b
    twice true = refl
    twice false = refl

-- equal differences have the scale of one of them
same_greatest : (most first : ℕ) (steps : List ℕ) → list_all (λ step. eqb step first) steps ≡ true → greatest_exponent most (first ∷ steps) ≡ greatest_exponent most (first ∷ [])
unfolding greatest_exponent
same_greatest zero first steps all = refl
same_greatest (suc most) first steps all =
    ap (λ b. cond b (suc most) (greatest_exponent most (first ∷ steps))) (same_divides (suc most) first steps all ∙ sym (same_divides (suc most) first [] refl))
    ∙ ap (λ e. cond (divides_all (suc most) (first ∷ [])) (suc most) e) (same_greatest most first steps all)

pub same_exponent : (steps : List ℕ) → all_same steps ≡ true → exponent_of (get_or steps 0 0 ∷ []) ≡ exponent_of steps
same_exponent [] all = absurd (cc all)
same_exponent (first ∷ steps) all = sym (same_greatest 12 first steps all)

pub run_written : (first : ℤ) (steps : List ℕ) (count : ℕ) → count ≡ length steps + 1 → all_same steps ≡ true
    → (32 + exponent_of (get_or steps 0 0 ∷ [])) ∷ (to_be_bytes w64 (cast_unsigned w64 first) ++ (uvarint (get_or steps 0 0 / 10 ^ exponent_of (get_or steps 0 0 ∷ [])) ++ uvarint count)) ≡ coded_from first steps
run_written first steps count count_is same =
    ap (λ e. (32 + e) ∷ (to_be_bytes w64 (cast_unsigned w64 first) ++ (uvarint (get_or steps 0 0 / 10 ^ e) ++ uvarint count))) (same_exponent steps same)
    ∙ ap (λ n. (32 + exponent_of steps) ∷ (to_be_bytes w64 (cast_unsigned w64 first) ++ (uvarint (get_or steps 0 0 / 10 ^ exponent_of steps) ++ uvarint n))) count_is
    ∙ run_is first steps same

-- the test of each difference, and what it says of the scaled ones
pub test_scaled : (steps : List ℕ) (exponent unit : ℕ) (answer : Bool) → exponent ≡ exponent_of steps → unit ≡ 10 ^ exponent → answer ≡ list_all (λ step. ltb (step / unit) (2 ^ 60)) steps
    → list_all (λ step. ltb (step / 10 ^ exponent_of steps) (2 ^ 60)) steps ≡ answer
test_scaled steps exponent unit answer exponent_is unit_is test =
    sym (test ∙ ap (λ u. list_all (λ step. ltb (step / u) (2 ^ 60)) steps) (unit_is ∙ ap (λ e. 10 ^ e) exponent_is))

pub packed_written : (first : ℤ) (steps : List ℕ) (exponent unit : ℕ) (values : List ℕ) → exponent ≡ exponent_of steps → unit ≡ 10 ^ exponent → values ≡ map (λ step. step / unit) steps
    → all_same steps ≡ false → true ≡ list_all (λ step. ltb (step / unit) (2 ^ 60)) steps
    → (16 + exponent) ∷ (to_be_bytes w64 (cast_unsigned w64 first) ++ flat_map (to_be_bytes w64) (words_of values)) ≡ coded_from first steps
packed_written first steps exponent unit values exponent_is unit_is values_are other narrow =
    let values' : values ≡ scaled (exponent_of steps) steps = values_are ∙ ap (λ u. map (λ step. step / u) steps) (unit_is ∙ ap (λ e. 10 ^ e) exponent_is) in
    ap (λ e. (16 + e) ∷ (to_be_bytes w64 (cast_unsigned w64 first) ++ flat_map (to_be_bytes w64) (words_of values))) exponent_is
    ∙ ap (λ vs. (16 + exponent_of steps) ∷ (to_be_bytes w64 (cast_unsigned w64 first) ++ flat_map (to_be_bytes w64) (words_of vs))) values'
    ∙ packed_is first steps other (test_scaled steps exponent unit true exponent_is unit_is narrow)

below_units : (n unit limit : ℕ) → 0 < unit → limit ≡ unit * 2 ^ 60 → ltb n limit ≡ ltb (n / unit) (2 ^ 60)
below_units n unit limit some is =
    let iff = div-lt_iff_lt-mul {k = unit} {x = n} {y = 2 ^ 60} some in
    both_ways (ltb n limit) (ltb (n / unit) (2 ^ 60))
    (λ h. lt-ltb (n / unit) (2 ^ 60) (iff.1 (omega (arith, ltb-true n limit h, is))))
    (λ h. lt-ltb n limit (omega (arith, is, iff.0 (ltb-true (n / unit) (2 ^ 60) h))))

-- what is below 2^60 units is below so much
pub narrow_below : (unit limit : ℕ) (steps : List ℕ) → 0 < unit → limit ≡ unit * 2 ^ 60 → list_all (λ step. ltb step limit) steps ≡ list_all (λ step. ltb (step / unit) (2 ^ 60)) steps
narrow_below unit limit [] some is = refl
narrow_below unit limit (step ∷ steps) some is =
    ap (λ b. b && list_all (λ s. ltb s limit) steps) (below_units step unit limit some is)
    ∙ ap (λ b. ltb (step / unit) (2 ^ 60) && b) (narrow_below unit limit steps some is)

-- and where that is no number of 64 bits, everything is
pub narrow_all : (unit : ℕ) (steps : List ℕ) → 0 < unit → 2 ^ 64 ≤ unit * 2 ^ 60 → ((i : ℕ) → get_or steps i 0 < 2 ^ 64) → true ≡ list_all (λ step. ltb (step / unit) (2 ^ 60)) steps
narrow_all unit [] some large fit = refl
narrow_all unit (step ∷ steps) some large fit =
    narrow_all unit steps some large (λ i. fit (suc i))
    ∙ ap (λ b. b && list_all (λ s. ltb (s / unit) (2 ^ 60)) steps) (sym (sym (below_units step unit (unit * 2 ^ 60) some refl) ∙ lt-ltb step (unit * 2 ^ 60) (omega (arith, fit 0, large))))

-- by a power of ten or by the number that it is
pub in_units : (steps : List ℕ) (exponent unit : ℕ) (values : List ℕ) → unit ≡ 10 ^ exponent → values ≡ map (λ step. step / 10 ^ exponent) steps → values ≡ map (λ step. step / unit) steps
in_units steps exponent unit values is are = are ∙ ap (λ u. map (λ step. step / u) steps) (sym is)

pub narrow_values : (steps : List ℕ) (unit : ℕ) (values : List ℕ) → values ≡ map (λ step. step / unit) steps → true ≡ list_all (λ step. ltb (step / unit) (2 ^ 60)) steps → All (λ value. value < 2 ^ 60) values
narrow_values steps unit values are narrow =
    narrow_from_test values (ap (list_all (λ step. ltb step (2 ^ 60))) are ∙ list_all-map (λ step. ltb step (2 ^ 60)) (λ step. step / unit) steps ∙ sym narrow)

pub length_most : (first : ℤ) (later : List ℤ) (times : List ℤ) → AreTimes times → times ≡ first ∷ later → length (differences (first ∷ later)) ≤ 999
length_most first later times are is = omega (arith, length-differences first later, ap length is, are.most)

pub coded_whole : (first : ℤ) (later : List ℤ) (times : List ℤ) → times ≡ first ∷ later → coded_from first (differences (first ∷ later)) ≡ coded_times times
unfolding coded_times
coded_whole first later times is = ap coded_times (sym is)

-- the same for the times themselves
pub run_whole : (first : ℤ) (later times : List ℤ) (difference count : ℕ) → times ≡ first ∷ later → all_same (differences (first ∷ later)) ≡ true → get_or (differences (first ∷ later)) 0 0 ≡ difference → count ≡ length times
    → (32 + exponent_of (difference ∷ [])) ∷ (to_be_bytes w64 (cast_unsigned w64 first) ++ (uvarint (difference / 10 ^ exponent_of (difference ∷ [])) ++ uvarint count)) ≡ coded_times times
run_whole first later times difference count is same difference_is count_is =
    ap (λ (d : ℕ). (32 + exponent_of (d ∷ [])) ∷ (to_be_bytes w64 (cast_unsigned w64 first) ++ (uvarint (d / 10 ^ exponent_of (d ∷ [])) ++ uvarint count))) (sym difference_is)
    ∙ run_written first (differences (first ∷ later)) count (omega (arith, count_is, ap length is, length-differences first later)) same
    ∙ coded_whole first later times is

-- ---- the form that is read

form_run : (steps : List ℕ) → all_same steps ≡ true → form_of steps ≡ RunLength
unfolding form_of
form_run steps same = cond-true (all_same steps) _ _ same

form_packed : (steps : List ℕ) → all_same steps ≡ false → list_all (λ step. ltb step (2 ^ 60)) (scaled (exponent_of steps) steps) ≡ true → form_of steps ≡ Packed
unfolding form_of
form_packed steps other narrow = cond-false (all_same steps) _ _ other ∙ cond-true (list_all (λ step. ltb step (2 ^ 60)) (scaled (exponent_of steps) steps)) _ _ narrow

form_raw : (steps : List ℕ) → all_same steps ≡ false → list_all (λ step. ltb step (2 ^ 60)) (scaled (exponent_of steps) steps) ≡ false → form_of steps ≡ Raw
unfolding form_of
form_raw steps other wide = cond-false (all_same steps) _ _ other ∙ cond-false (list_all (λ step. ltb step (2 ^ 60)) (scaled (exponent_of steps) steps)) _ _ wide

-- times with these differences follow so
run_follows : (times : List ℤ) (exponent : ℕ) (rest steps : List ℕ) → differences times ≡ unscaled exponent steps → all_same steps ≡ true → exponent_of (unscaled exponent steps) ≡ exponent → rest ≡ body_of RunLength steps → Follow RunLength exponent rest times
run_follows times exponent rest steps apart same own is = record {
  chosen = form_run (differences times) (ap all_same apart ∙ same_unscaled exponent steps ∙ same);
  scale = ap exponent_of apart ∙ own;
  spelled = is ∙ ap (body_of RunLength) (sym (ap (scaled exponent) apart ∙ scaled_unscaled exponent steps));
}

packed_follows : (times : List ℤ) (exponent : ℕ) (rest steps : List ℕ) → differences times ≡ unscaled exponent steps → all_same steps ≡ false → All (λ step. step < 2 ^ 60) steps → exponent_of (unscaled exponent steps) ≡ exponent → rest ≡ body_of Packed steps → Follow Packed exponent rest times
packed_follows times exponent rest steps apart other narrow own is = record {
  chosen = form_packed (differences times) (ap all_same apart ∙ same_unscaled exponent steps ∙ other)
      (ap (λ ds. list_all (λ step. ltb step (2 ^ 60)) (scaled (exponent_of ds) ds)) apart
      ∙ ap (λ e. list_all (λ step. ltb step (2 ^ 60)) (scaled e (unscaled exponent steps))) own
      ∙ ap (list_all (λ step. ltb step (2 ^ 60))) (scaled_unscaled exponent steps)
      ∙ test_from_narrow steps narrow);
  scale = ap exponent_of apart ∙ own;
  spelled = is ∙ ap (body_of Packed) (sym (ap (scaled exponent) apart ∙ scaled_unscaled exponent steps));
}

raw_follows : (times : List ℤ) (rest steps : List ℕ) → differences times ≡ unscaled 0 steps → all_same steps ≡ false → list_all (λ step. ltb (step / 10 ^ exponent_of steps) (2 ^ 60)) steps ≡ false → rest ≡ body_of Raw steps → Follow Raw 0 rest times
raw_follows times rest steps apart other wide is =
    let these = apart ∙ unscaled_zero steps in
    record {
      chosen = form_raw (differences times) (ap all_same these ∙ other)
          (ap (λ ds. list_all (λ step. ltb step (2 ^ 60)) (scaled (exponent_of ds) ds)) these
          ∙ list_all-map (λ step. ltb step (2 ^ 60)) (λ step. step / 10 ^ exponent_of steps) steps
          ∙ wide);
      scale = refl;
      spelled = is ∙ ap (body_of Raw) (sym (ap (scaled 0) these ∙ scaled_zero steps));
    }

-- times that begin so, and follow so
pub are_read : (form : Form) (exponent : ℕ) (first : ℤ) (rest gaps : List ℕ) (times : List ℤ) → Begin first gaps times → (differences times ≡ gaps → Follow form exponent rest times) → AreRead form exponent first rest times
are_read form exponent first rest gaps times begin follow = record { later = begin.later; starts = begin.starts; are = begin.are; follow = follow begin.apart }

pub run_read : (exponent : ℕ) (first : ℤ) (rest steps : List ℕ) (times : List ℤ) → Begin first (unscaled exponent steps) times → all_same steps ≡ true → exponent_of (unscaled exponent steps) ≡ exponent → rest ≡ body_of RunLength steps → AreRead RunLength exponent first rest times
run_read exponent first rest steps times begin same own is = are_read RunLength exponent first rest (unscaled exponent steps) times begin (λ apart. run_follows times exponent rest steps apart same own is)

pub packed_read : (exponent : ℕ) (first : ℤ) (rest steps : List ℕ) (times : List ℤ) → Begin first (unscaled exponent steps) times → all_same steps ≡ false → All (λ step. step < 2 ^ 60) steps → exponent_of (unscaled exponent steps) ≡ exponent → rest ≡ body_of Packed steps → AreRead Packed exponent first rest times
packed_read exponent first rest steps times begin other narrow own is = are_read Packed exponent first rest (unscaled exponent steps) times begin (λ apart. packed_follows times exponent rest steps apart other narrow own is)

pub raw_read : (first : ℤ) (rest steps : List ℕ) (times : List ℤ) → Begin first (unscaled 0 steps) times → all_same steps ≡ false → list_all (λ step. ltb (step / 10 ^ exponent_of steps) (2 ^ 60)) steps ≡ false → rest ≡ body_of Raw steps → AreRead Raw 0 first rest times
raw_read first rest steps times begin other wide is = are_read Raw 0 first rest (unscaled 0 steps) times begin (λ apart. raw_follows times rest steps apart other wide is)

-- ---- the parts of a coding

-- the steps behind the first time, in units of the scale
pub record Parts (form : Form) (exponent : ℕ) (rest : List ℕ) (first : ℤ) (later : List ℤ) : Type 0 where
  pub steps : List ℕ
  pub back : differences (first ∷ later) ≡ unscaled exponent steps
  pub is : rest ≡ body_of form steps
  pub size : length steps ≡ length later
  pub few : length steps ≤ 999
  pub fit : All (λ step. step < 2 ^ 64) steps
  pub same : form ≡ RunLength → all_same steps ≡ true
  pub other : (form ≡ RunLength → ⊥) → all_same steps ≡ false
  pub narrow : form ≡ Packed → All (λ step. step < 2 ^ 60) steps
  pub wide : form ≡ Raw → list_all (λ step. ltb (step / 10 ^ exponent_of steps) (2 ^ 60)) steps ≡ false
  pub own : (form ≡ Raw → ⊥) → exponent_of (unscaled exponent steps) ≡ exponent
  pub unscaled_raw : form ≡ Raw → exponent ≡ 0

exponent_divides : (form : Form) (exponent : ℕ) (ds : List ℕ) → exponent_in form ds ≡ exponent → divides_all exponent ds ≡ true
exponent_divides RunLength exponent ds is = subst (λ (e : ℕ). divides_all e ds ≡ true) is (greatest_divides 12 ds)
exponent_divides Packed exponent ds is = subst (λ (e : ℕ). divides_all e ds ≡ true) is (greatest_divides 12 ds)
exponent_divides Raw exponent ds is = subst (λ (e : ℕ). divides_all e ds ≡ true) is (one_divides ds)

exponent_is : (form : Form) (exponent : ℕ) (ds : List ℕ) → (form ≡ Raw → ⊥) → exponent_in form ds ≡ exponent → exponent_of ds ≡ exponent
exponent_is RunLength exponent ds other is = is
exponent_is Packed exponent ds other is = is
exponent_is Raw exponent ds other is = absurd (other refl)

exponent_raw : (form : Form) (exponent : ℕ) (ds : List ℕ) → form ≡ Raw → exponent_in form ds ≡ exponent → exponent ≡ 0
exponent_raw RunLength exponent ds same is = absurd (cc same)
exponent_raw Packed exponent ds same is = absurd (cc same)
exponent_raw Raw exponent ds same is = sym is

form_same : (ds : List ℕ) (form : Form) → WhichForm ds form → (form ≡ RunLength → all_same ds ≡ true) × ((form ≡ RunLength → ⊥) → all_same ds ≡ false)
form_same ds form (run_length is same) = (λ _. same, λ no. absurd (no is))
form_same ds form (packed is other _) = (λ run. absurd (cc (is, run)), λ _. other)
form_same ds form (raw is other _) = (λ run. absurd (cc (is, run)), λ _. other)

form_narrow : (ds : List ℕ) (form : Form) → WhichForm ds form → (form ≡ Packed → list_all (λ step. ltb step (2 ^ 60)) (scaled (exponent_of ds) ds) ≡ true) × (form ≡ Raw → list_all (λ step. ltb step (2 ^ 60)) (scaled (exponent_of ds) ds) ≡ false)
form_narrow ds form (run_length is _) = (λ pack. absurd (cc (is, pack)), λ no. absurd (cc (is, no)))
form_narrow ds form (packed is _ narrow) = (λ _. narrow, λ no. absurd (cc (is, no)))
form_narrow ds form (raw is _ wide) = (λ pack. absurd (cc (is, pack)), λ _. wide)

pub parts : (form : Form) (exponent : ℕ) (rest : List ℕ) (first : ℤ) (later : List ℤ) → AreTimes (first ∷ later) → Follow form exponent rest (first ∷ later) → Parts form exponent rest first later
parts form exponent rest first later times follow =
    let ds = differences (first ∷ later) in
    let steps = scaled exponent ds in
    let which_one : WhichForm ds form = subst (WhichForm ds) follow.chosen (which ds) in
    let back : ds ≡ unscaled exponent steps = sym (scaled_back exponent ds (exponent_divides form exponent ds follow.scale)) in
    let alike : all_same steps ≡ all_same ds = sym (same_unscaled exponent steps) ∙ ap all_same (sym back) in
    let size : length steps ≡ length later = omega (arith, length-map ds (λ d. d / 10 ^ exponent), length-differences first later) in
    record {
      steps = steps;
      back = back;
      is = follow.spelled;
      size = size;
      few = omega (arith, size, times.most);
      fit = scaled_fit exponent ds (differences_fit first later times.moments times.ascend);
      same = λ run. alike ∙ (form_same ds form which_one).0 run;
      other = λ no. alike ∙ (form_same ds form which_one).1 no;
      narrow = λ pack. narrow_from_test steps (ap (λ e. list_all (λ step. ltb step (2 ^ 60)) (scaled e ds)) (sym (exponent_is form exponent ds (λ no. cc (pack, no)) follow.scale)) ∙ (form_narrow ds form which_one).0 pack);
      wide = λ raw.
          let same : steps ≡ ds = ap (λ e. scaled e ds) (exponent_raw form exponent ds raw follow.scale) ∙ scaled_zero ds in
          ap (λ ss. list_all (λ step. ltb (step / 10 ^ exponent_of ss) (2 ^ 60)) ss) same
          ∙ sym (list_all-map (λ step. ltb step (2 ^ 60)) (λ step. step / 10 ^ exponent_of ds) ds)
          ∙ (form_narrow ds form which_one).1 raw;
      own = λ no. ap exponent_of (sym back) ∙ exponent_is form exponent ds no follow.scale;
      unscaled_raw = λ raw. exponent_raw form exponent ds raw follow.scale;
    }

-- the bytes of times that follow so, and back
pub followed_coded : (bytes : List ℕ) (head : ℕ) (form : Form) (exponent : ℕ) (first : ℤ) (rest : List ℕ) (later : List ℤ) → head ≡ 16 * number_of form + exponent → bytes ≡ head ∷ (to_be_bytes w64 (cast_unsigned w64 first) ++ rest) → Follow form exponent rest (first ∷ later) → bytes ≡ coded_times (first ∷ later)
unfolding coded_times
followed_coded bytes head form exponent first rest later head_is is follow =
    let ds = differences (first ∷ later) in
    is
    ∙ ap (λ h. h ∷ (to_be_bytes w64 (cast_unsigned w64 first) ++ rest)) head_is
    ∙ ap (λ r. (16 * number_of form + exponent) ∷ (to_be_bytes w64 (cast_unsigned w64 first) ++ r)) follow.spelled
    ∙ ap (λ e. spelled form e first ds) (sym follow.scale)
    ∙ sym (coded_as first ds form follow.chosen)

-- the form, the exponent and the bytes behind the first of some times
pub record Coded (bytes : List ℕ) (first : ℤ) (later : List ℤ) : Type 0 where
  pub form : Form
  pub exponent : ℕ
  pub rest : List ℕ
  pub exponent_most : exponent ≤ 12
  pub is : bytes ≡ (16 * number_of form + exponent) ∷ (to_be_bytes w64 (cast_unsigned w64 first) ++ rest)
  pub follow : Follow form exponent rest (first ∷ later)

exponent_in_most : (form : Form) (ds : List ℕ) → exponent_in form ds ≤ 12
exponent_in_most RunLength ds = greatest_most 12 ds
exponent_in_most Packed ds = greatest_most 12 ds
exponent_in_most Raw ds = omega arith

pub taken_apart : (bytes : List ℕ) (first : ℤ) (later : List ℤ) → bytes ≡ coded_times (first ∷ later) → Coded bytes first later
unfolding coded_times coded_from
taken_apart bytes first later e =
    let ds = differences (first ∷ later) in
    record {
      form = form_of ds;
      exponent = exponent_in (form_of ds) ds;
      rest = body_of (form_of ds) (scaled (exponent_in (form_of ds) ds) ds);
      exponent_most = exponent_in_most (form_of ds) ds;
      is = e;
      follow = record { chosen = refl; scale = refl; spelled = refl };
    }
