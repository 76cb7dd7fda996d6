-- Times that are so far behind one another.
use Rattle.std.proofs.Common.{◌≡◌, ℕ, zero, suc, ◌+◌, ◌-◌, ◌*◌, ◌^◌, ◌<◌, ◌≤◌, List, [], ◌∷◌, ◌++◌, length, map, take, drop, get_or, set, replicate, refl, sym, ◌∙◌, ap, subst, arith, append_assoc}
use Rattle.std.specs.Prelude.{All, ℤ, pos, negsuc, ◌+ℤ◌, ◌-ℤ◌, ◌<ℤ◌, unsigned_abs, sum}
use Rattle.std.proofs.lemmas.List.{take_more_set, drop_more, drop_all, take_all, append-nil}
use Rattle.std.proofs.lemmas.List.Elements.{All-head, All-tail, All-nil, All-cons}
use Rattle.std.proofs.lemmas.List.Sums.{sum_by_from}
use Rattle.std.proofs.lemmas.Int.{ints}
use Rattle.std.proofs.Math.Nat.{add-mul, mul-suc}
use Rattle.tsdb_types.specs.Moments.{IsMoment}
use Rattle.time_codec.specs.Times.{AreTimes, Ascend, differences}
use Rattle.time_codec.specs.Reading.{Begin, Lead, times_behind}

-- ---- sums

pub sum_cons : (first : ℕ) (rest : List ℕ) → sum (first ∷ rest) ≡ first + sum rest
sum_cons first rest = sum_by_from (λ n. n) (0 + first) rest ∙ omega (arith, sum_by_from (λ n. n) 0 rest)

-- ---- one step

-- a moment before one that is further behind
pub between : (time : ℤ) (near far : ℕ) → IsMoment time → near ≤ far → IsMoment (time +ℤ pos far) → IsMoment (time +ℤ pos near)
between time near far moment within last = record { least = omega (arith, ints, moment.least); greatest = omega (arith, ints, last.greatest) }

pub further : (time : ℤ) (near far : ℕ) → (time +ℤ pos near) +ℤ pos far ≡ time +ℤ pos (near + far)
further time near far = omega (arith, ints)

pub gap_fits : (time : ℤ) (gap : ℕ) → IsMoment time → IsMoment (time +ℤ pos gap) → gap < 2 ^ 64
gap_fits time gap moment next = omega (arith, ints, moment.least, next.greatest)

next_later : (time : ℤ) (gap : ℕ) → 0 < gap → time <ℤ (time +ℤ pos gap)
next_later time gap some = omega (arith, ints)

next_apart : (time : ℤ) (gap : ℕ) → unsigned_abs ((time +ℤ pos gap) -ℤ time) ≡ gap
next_apart time gap = let same : (time +ℤ pos gap) -ℤ time ≡ pos gap = omega (arith, ints) in ap unsigned_abs same

-- what is so far behind and later
next_is : (time next : ℤ) (gap : ℕ) → time <ℤ next → unsigned_abs (next -ℤ time) ≡ gap → (0 < gap) × (time +ℤ pos gap ≡ next)
next_is time next gap later apart = of_difference (next -ℤ time) refl apart
  where
    of_difference : (d : ℤ) → next -ℤ time ≡ d → unsigned_abs d ≡ gap → (0 < gap) × (time +ℤ pos gap ≡ next)
    of_difference (pos n) is size = (omega (arith, ints, later, is, size), omega (arith, ints, is, size))
    of_difference (negsuc n) is size = absurd (omega (arith, ints, later, is))

-- ---- whether steps lead on

sum_units : (step : ℕ) (steps : List ℕ) (unit : ℕ) → sum (step ∷ steps) * unit ≡ step * unit + sum steps * unit
sum_units step steps unit = ap (λ (n : ℕ). n * unit) (sum_cons step steps) ∙ add-mul step (sum steps) unit

product_some : (a b : ℕ) → 0 < a → 0 < b → 0 < a * b
product_some zero b some also = absurd (omega arith)
product_some (suc a) b some also = omega (arith, also)

pub lead_from : (time : ℤ) (unit : ℕ) (steps : List ℕ) → IsMoment time → 0 < unit → All (λ step. 0 < step) steps → IsMoment (time +ℤ pos (sum steps * unit)) → Lead time (map (λ step. step * unit) steps)
lead_from time unit [] moment some positive last = tt
lead_from time unit (step ∷ steps) moment some positive last =
    let whole : sum (step ∷ steps) * unit ≡ step * unit + sum steps * unit = sum_units step steps unit in
    let next = between time (step * unit) (sum (step ∷ steps) * unit) moment (omega (arith, whole)) last in
    let same : (time +ℤ pos (step * unit)) +ℤ pos (sum steps * unit) ≡ time +ℤ pos (sum (step ∷ steps) * unit) =
    further time (step * unit) (sum steps * unit) ∙ ap (λ (n : ℕ). time +ℤ pos n) (sym whole) in (
      product_some step unit (All-head (λ s. 0 < s) step steps positive) some,
      next,
      lead_from (time +ℤ pos (step * unit)) unit steps next some (All-tail (λ s. 0 < s) step steps positive) (subst IsMoment (sym same) last),
    )

pub lead_last : (time : ℤ) (unit : ℕ) (steps : List ℕ) → IsMoment time → Lead time (map (λ step. step * unit) steps) → IsMoment (time +ℤ pos (sum steps * unit))
lead_last time unit [] moment lead = subst IsMoment (let same : time ≡ time +ℤ pos (0 * unit) = omega (arith, ints) in same) moment
lead_last time unit (step ∷ steps) moment lead =
    subst IsMoment (further time (step * unit) (sum steps * unit) ∙ ap (λ (n : ℕ). time +ℤ pos n) (sym (sum_units step steps unit)))
    (lead_last (time +ℤ pos (step * unit)) unit steps lead.1 lead.2)

factor_some : (a b : ℕ) → 0 < a * b → 0 < a
factor_some zero b some = absurd (omega arith)
factor_some (suc a) b some = omega arith

pub lead_positive : (time : ℤ) (unit : ℕ) (steps : List ℕ) → Lead time (map (λ step. step * unit) steps) → All (λ step. 0 < step) steps
lead_positive time unit [] lead = All-nil (λ step. 0 < step)
lead_positive time unit (step ∷ steps) lead = All-cons (λ s. 0 < s) step steps (factor_some step unit lead.0) (lead_positive (time +ℤ pos (step * unit)) unit steps lead.2)

-- more than 64 bits of steps lead to no moment
pub lead_small : (time : ℤ) (unit total : ℕ) → IsMoment time → 0 < unit → IsMoment (time +ℤ pos (total * unit)) → total < 2 ^ 64
lead_small time unit total moment some last = omega (arith, gap_fits time (total * unit) moment last, less total unit some)
  where
    less : (a b : ℕ) → 0 < b → a ≤ a * b
    less a zero p = absurd (omega arith)
    less zero (suc b) p = omega arith
    less (suc a) (suc b) p = omega (arith, less a (suc b) p)

pub sum-replicate : (count step : ℕ) → sum (replicate count step) ≡ step * count
sum-replicate zero step = omega arith
sum-replicate (suc count) step = sum_cons step (replicate count step) ∙ ap (λ (n : ℕ). step + n) (sum-replicate count step) ∙ (let more : step + step * count ≡ step * suc count = omega (arith, mul-suc step count) in more)

-- ---- the times behind

length-behind : (time : ℤ) (gaps : List ℕ) → length (times_behind time gaps) ≡ length gaps
length-behind time [] = refl
length-behind time (gap ∷ gaps) = ap suc (length-behind (time +ℤ pos gap) gaps)

behind_moments : (time : ℤ) (gaps : List ℕ) → IsMoment time → Lead time gaps → All IsMoment (time ∷ times_behind time gaps)
behind_moments time [] moment lead = All-cons IsMoment time [] moment (All-nil IsMoment)
behind_moments time (gap ∷ gaps) moment lead =
    All-cons IsMoment time (times_behind time (gap ∷ gaps)) moment (behind_moments (time +ℤ pos gap) gaps lead.1 lead.2)

behind_ascend : (time : ℤ) (gaps : List ℕ) → Lead time gaps → Ascend (time ∷ times_behind time gaps)
behind_ascend time [] lead = tt
behind_ascend time (gap ∷ gaps) lead = (next_later time gap lead.0, behind_ascend (time +ℤ pos gap) gaps lead.2)

behind_apart : (time : ℤ) (gaps : List ℕ) → differences (time ∷ times_behind time gaps) ≡ gaps
behind_apart time [] = refl
behind_apart time (gap ∷ gaps) =
    ap (λ g. g ∷ differences ((time +ℤ pos gap) ∷ times_behind (time +ℤ pos gap) gaps)) (next_apart time gap) ∙ ap (λ gs. gap ∷ gs) (behind_apart (time +ℤ pos gap) gaps)

-- they begin with the first, each so far from the one before
pub begin_behind : (first : ℤ) (gaps : List ℕ) (times : List ℤ) → IsMoment first → length gaps ≤ 999 → Lead first gaps → times ≡ first ∷ times_behind first gaps → Begin first gaps times
begin_behind first gaps times moment few lead is = record {
  later = times_behind first gaps;
  starts = is;
  apart = ap differences is ∙ behind_apart first gaps;
  are = subst AreTimes (sym is) (record {
    some = omega arith;
    most = omega (arith, length-behind first gaps);
    moments = behind_moments first gaps moment lead;
    ascend = behind_ascend first gaps lead;
  });
}

-- times with these differences are those, and the differences lead on
behind_only : (first : ℤ) (later : List ℤ) (gaps : List ℕ) → All IsMoment (first ∷ later) → Ascend (first ∷ later) → differences (first ∷ later) ≡ gaps → Lead first gaps × (times_behind first gaps ≡ later)
behind_only first [] [] moments ascend apart = (tt, refl)
behind_only first [] (gap ∷ gaps) moments ascend apart = absurd (cc apart)
behind_only first (second ∷ later) [] moments ascend apart = absurd (cc apart)
behind_only first (second ∷ later) (gap ∷ gaps) moments ascend apart =
    let next = next_is first second gap ascend.0 (cc apart) in
    let rest = All-tail IsMoment first (second ∷ later) moments in
    let behind = behind_only second later gaps rest ascend.1 (cc apart) in (
      (next.0, subst IsMoment (sym next.1) (All-head IsMoment second later rest), subst (λ (t : ℤ). Lead t gaps) (sym next.1) behind.0),
      ap (λ (t : ℤ). t ∷ times_behind t gaps) next.1 ∙ ap (λ ts. second ∷ ts) behind.1,
    )

pub lead_only : (first : ℤ) (later : List ℤ) (gaps : List ℕ) → AreTimes (first ∷ later) → differences (first ∷ later) ≡ gaps → Lead first gaps
lead_only first later gaps are apart = (behind_only first later gaps are.moments are.ascend apart).0

pub times_only : (first : ℤ) (later : List ℤ) (gaps : List ℕ) → AreTimes (first ∷ later) → differences (first ∷ later) ≡ gaps → first ∷ times_behind first gaps ≡ first ∷ later
times_only first later gaps are apart = ap (λ ts. first ∷ ts) ((behind_only first later gaps are.moments are.ascend apart).1)

-- ---- one more time is written

pub one_behind : (times : List ℤ) (all : List ℤ) (last next : ℤ) (gap at : ℕ) (gaps rest : List ℕ) → at < length times → gaps ≡ gap ∷ rest → next ≡ last +ℤ pos gap → take at times ++ times_behind last gaps ≡ all → take (at + 1) (set times at next) ++ times_behind next rest ≡ all
one_behind times all last next gap at gaps rest below are is done =
    ap (λ front. front ++ times_behind next rest) (take_more_set times at next below)
    ∙ append_assoc (take at times) (next ∷ []) (times_behind next rest)
    ∙ ap (λ (t : ℤ). take at times ++ (t ∷ times_behind t rest)) is
    ∙ ap (λ gs. take at times ++ times_behind last gs) (sym are)
    ∙ done

pub lead_next : (last next : ℤ) (gap : ℕ) (gaps rest : List ℕ) → gaps ≡ gap ∷ rest → next ≡ last +ℤ pos gap → Lead last gaps → IsMoment next × Lead next rest
lead_next last next gap gaps rest are is lead =
    let here : Lead last (gap ∷ rest) = subst (Lead last) are lead in
    (subst IsMoment (sym is) here.1, subst (λ (t : ℤ). Lead t rest) (sym is) here.2)

pub all_behind : (times all : List ℤ) (last : ℤ) (at : ℕ) (gaps : List ℕ) → length times ≤ at → gaps ≡ [] → take at times ++ times_behind last gaps ≡ all → times ≡ all
all_behind times all last at gaps end none done =
    sym (append-nil times ∙ refl)
    ∙ ap (λ ts. ts ++ []) (sym (take_all at times end))
    ∙ ap (λ gs. take at times ++ times_behind last gs) (sym none)
    ∙ done

-- what is no way behind
pub none_behind : (time : ℤ) → time +ℤ pos 0 ≡ time
none_behind time = omega (arith, ints)

pub begun_behind : (times : List ℤ) (first : ℤ) (gaps : List ℕ) → take 1 times ≡ first ∷ [] → take 1 times ++ times_behind (first +ℤ pos 0) gaps ≡ first ∷ times_behind first gaps
begun_behind times first gaps begun = ap (λ ts. ts ++ times_behind (first +ℤ pos 0) gaps) begun ∙ ap (λ (t : ℤ). first ∷ times_behind t gaps) (none_behind first)

pub lead_more : (first : ℤ) (total gap : ℕ) (gaps rest : List ℕ) → gaps ≡ gap ∷ rest → Lead (first +ℤ pos total) gaps → IsMoment (first +ℤ pos (total + gap)) × Lead (first +ℤ pos (total + gap)) rest
lead_more first total gap gaps rest are lead = lead_next (first +ℤ pos total) (first +ℤ pos (total + gap)) gap gaps rest are (sym (further first total gap)) lead

pub behind_more : (times all : List ℤ) (first next : ℤ) (total gap at : ℕ) (gaps rest : List ℕ) → at < length times → gaps ≡ gap ∷ rest → next ≡ first +ℤ pos (total + gap) → take at times ++ times_behind (first +ℤ pos total) gaps ≡ all → take (at + 1) (set times at next) ++ times_behind (first +ℤ pos (total + gap)) rest ≡ all
behind_more times all first next total gap at gaps rest below are is done =
    subst (λ (t : ℤ). take (at + 1) (set times at next) ++ times_behind t rest ≡ all) is
    (one_behind times all (first +ℤ pos total) next gap at gaps rest below are (is ∙ sym (further first total gap)) done)

-- one more time is appended
pub pushed_more : (times new all : List ℤ) (first next : ℤ) (total gap : ℕ) (gaps rest : List ℕ) → new ≡ times ++ next ∷ [] → gaps ≡ gap ∷ rest → next ≡ first +ℤ pos (total + gap) → times ++ times_behind (first +ℤ pos total) gaps ≡ all
    → new ++ times_behind (first +ℤ pos (total + gap)) rest ≡ all
pushed_more times new all first next total gap gaps rest pushed are is done =
    ap (λ ts. ts ++ times_behind (first +ℤ pos (total + gap)) rest) pushed
    ∙ append_assoc times (next ∷ []) (times_behind (first +ℤ pos (total + gap)) rest)
    ∙ ap (λ (t : ℤ). times ++ (t ∷ times_behind (first +ℤ pos (total + gap)) rest)) is
    ∙ ap (λ (t : ℤ). times ++ (t ∷ times_behind t rest)) (sym (further first total gap))
    ∙ ap (λ gs. times ++ times_behind (first +ℤ pos total) gs) (sym are)
    ∙ done

-- the steps from a place on
pub gaps_more : (unit : ℕ) (steps : List ℕ) (at : ℕ) → at < length steps → map (λ step. step * unit) (drop at steps) ≡ (get_or steps at 0 * unit) ∷ map (λ step. step * unit) (drop (at + 1) steps)
gaps_more unit steps at below = ap (map (λ step. step * unit)) (drop_more steps at 0 below)

pub gaps_none : (unit : ℕ) (steps : List ℕ) (at : ℕ) → length steps ≤ at → map (λ step. step * unit) (drop at steps) ≡ []
gaps_none unit steps at end = ap (map (λ step. step * unit)) (drop_all at steps end)

pub even_more : (size at gap : ℕ) → at < size → replicate (size - at) gap ≡ gap ∷ replicate (size - (at + 1)) gap
even_more size at gap below = let more : size - at ≡ suc (size - (at + 1)) = omega arith in ap (λ (n : ℕ). replicate n gap) more

pub even_none : (size at gap : ℕ) → size ≤ at → replicate (size - at) gap ≡ []
even_none size at gap end = let none : size - at ≡ 0 = omega arith in ap (λ (n : ℕ). replicate n gap) none

pub map-replicate : (count step unit : ℕ) → map (λ s. s * unit) (replicate count step) ≡ replicate count (step * unit)
map-replicate zero step unit = refl
map-replicate (suc count) step unit = ap (λ gs. (step * unit) ∷ gs) (map-replicate count step unit)

pub even_some : (size gap : ℕ) → 0 < size → replicate size gap ≡ gap ∷ replicate (size - 1) gap
even_some size gap some = let more : size ≡ suc (size - 1) = omega arith in ap (λ (n : ℕ). replicate n gap) more

-- ---- early times that are evenly apart

pub even_split : (left distance : ℕ) → 0 < left → left * distance ≡ distance + (left - 1) * distance
even_split zero distance some = absurd (omega arith)
even_split (suc left) distance some = let same : suc left - 1 ≡ left = omega arith in rw same (omega arith)

pub even_behind : (before distance left : ℕ) (next : ℤ) → 0 < left → next ≡ pos (before + distance)
    → times_behind (pos before) (replicate left distance) ≡ next ∷ times_behind (pos (before + distance)) (replicate (left - 1) distance)
even_behind before distance left next some is =
    ap (times_behind (pos before)) (even_some left distance some)
    ∙ ap (λ (t : ℤ). t ∷ times_behind (pos (before + distance)) (replicate (left - 1) distance)) (sym is)

-- a list that was written over one of its length
pub written_back : (len : ℕ) (first : ℤ) (gaps : List ℕ) (new old : List ℤ) → len ≡ length old → length old ≡ length gaps + 1 → new ≡ first ∷ times_behind first gaps → take len (new ++ drop (length new) old) ≡ new
written_back len first gaps new old len_is size is =
    let same : length new ≡ length old = omega (arith, ap length is, length-behind first gaps, size) in
    ap (λ back. take len (new ++ back)) (drop_all (length new) old (omega (arith, same)))
    ∙ ap (take len) (append-nil new)
    ∙ take_all len new (omega (arith, same, len_is))
