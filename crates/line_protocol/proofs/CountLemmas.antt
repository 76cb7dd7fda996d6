-- How the lines of a text are counted as they are read.
use Rattle.std.proofs.Common.{◌≡◌, ℕ, ◌+◌, ◌-◌, ◌<◌, ◌≤◌, Bool, true, false, cond, not, ◌&&◌, eqb, inl, inr, ⊎_elim, List, [], ◌∷◌, length, get_or, ℤ, refl, sym, ap, subst, ◌∙◌, arith}
use Rattle.std.proofs.lemmas.Bool.{false≢true, cases_lt, eqb-true}
use Rattle.std.proofs.lemmas.Bool.Decides.{nat_tests}
use Rattle.std.proofs.lemmas.List.Sums.{sum_by-cons}
use Rattle.std.specs.List.{count_by}
use Rattle.line_protocol.specs.declared.fault.LineCode.TheVariants.{BatchTooLong}
use Rattle.line_protocol.specs.declared.fault.LineFault.{LineFault}
use Rattle.line_protocol.specs.declared.fault.LineFault.TheVariants.{Line, Memory}
use Rattle.line_protocol.specs.Batches.{IsTooLong, FaultGives, is_open, line_count, TextIs, BatchIs}
use Rattle.line_protocol.specs.Parts.{line_rest}
use Rattle.line_protocol.proofs.PartLemmas.{decided}

abbrev newline : ℕ → Bool
newline byte = eqb byte 10

-- a text is open by its last byte
last-open : (b : ℕ) (text : List ℕ) → is_open (b ∷ text) ≡ not (eqb (get_or (b ∷ text) (length text) 0) 10)
last-open b text =
    let e : length (b ∷ text) - 1 ≡ length text = omega arith in
    let n : eqb (length (b ∷ text)) 0 ≡ false = grind (arith, nat_tests) in
    ap (λ (z : Bool). not z && not (eqb (get_or (b ∷ text) (length (b ∷ text) - 1) 0) 10)) n
    ∙ ap (λ (k : ℕ). not (eqb (get_or (b ∷ text) k 0) 10)) e

open-behind : (b c : ℕ) (text : List ℕ) → is_open (b ∷ c ∷ text) ≡ is_open (c ∷ text)
open-behind b c text = last-open b (c ∷ text) ∙ sym (last-open c text)

open-one : (b : ℕ) → is_open (b ∷ []) ≡ not (eqb b 10)
open-one b = last-open b []

count-newline : (b : ℕ) (text : List ℕ) → eqb b 10 ≡ true → count_by newline (b ∷ text) ≡ 1 + count_by newline text
count-newline b text e = sum_by-cons (λ byte. cond (newline byte) 1 0) b text ∙ ap (λ (t : Bool). cond t 1 0 + count_by newline text) e

count-other : (b : ℕ) (text : List ℕ) → eqb b 10 ≡ false → count_by newline (b ∷ text) ≡ count_by newline text
count-other b text e =
    let none : 0 + count_by newline text ≡ count_by newline text = omega arith in
    sum_by-cons (λ byte. cond (newline byte) 1 0) b text ∙ ap (λ (t : Bool). cond t 1 0 + count_by newline text) e ∙ none

abbrev end_of : Bool → ℕ
end_of open_end = cond open_end 1 0

-- behind a newline the others are counted
newline-first : (b : ℕ) (text : List ℕ) → eqb b 10 ≡ true → line_count (b ∷ text) ≡ 1 + line_count text
newline-first b [] e =
    let count = count-newline b [] e in
    let shut : end_of (is_open (b ∷ [])) ≡ 0 = ap (λ (t : Bool). end_of t) (open-one b ∙ ap (λ (t : Bool). not t) e) in
    omega (arith, count, shut)
newline-first b (c ∷ text) e =
    let count = count-newline b (c ∷ text) e in
    let same_end = ap (λ (t : Bool). end_of t) (open-behind b c text) in
    omega (arith, count, same_end)

other-one : (b : ℕ) → eqb b 10 ≡ false → line_count (b ∷ []) ≡ 1
other-one b e =
    let count = count-other b [] e in
    let ended : end_of (is_open (b ∷ [])) ≡ 1 = ap (λ (t : Bool). end_of t) (open-one b ∙ ap (λ (t : Bool). not t) e) in
    omega (arith, count, ended)

other-first : (b c : ℕ) (text : List ℕ) → eqb b 10 ≡ false → line_count (b ∷ c ∷ text) ≡ line_count (c ∷ text)
other-first b c text e =
    let count = count-other b (c ∷ text) e in
    let same_end = ap (λ (t : Bool). end_of t) (open-behind b c text) in
    omega (arith, count, same_end)

rest-newline : (b : ℕ) (text : List ℕ) → eqb b 10 ≡ true → line_rest (b ∷ text) ≡ b ∷ text
rest-newline b text e = ap (λ (t : Bool). cond t (b ∷ text) (line_rest text)) e

rest-other : (b : ℕ) (text : List ℕ) → eqb b 10 ≡ false → line_rest (b ∷ text) ≡ line_rest text
rest-other b text e = ap (λ (t : Bool). cond t (b ∷ text) (line_rest text)) e

some-cons : (b : ℕ) (text : List ℕ) → [] ≡ b ∷ text → ⊥
some-cons b text e = cc

tails : (b c : ℕ) (xs ys : List ℕ) → b ∷ xs ≡ c ∷ ys → xs ≡ ys
tails b c xs ys e = cc

-- a line with its newline, and the lines behind it
pub line_count-step : (text : List ℕ) (first : ℕ) (behind : List ℕ) → line_rest text ≡ first ∷ behind → line_count text ≡ 1 + line_count behind
line_count-step [] first behind e = absurd (some-cons first behind e)
line_count-step (b ∷ []) first behind e =
    ⊎_elim
    (λ (t : eqb b 10 ≡ true). newline-first b [] t ∙ ap (λ (text : List ℕ). 1 + line_count text) (tails b first [] behind (sym (rest-newline b [] t) ∙ e)))
    (λ (f : eqb b 10 ≡ false). absurd (some-cons first behind (sym (rest-other b [] f) ∙ e)))
    (decided (eqb b 10))
line_count-step (b ∷ c ∷ text) first behind e =
    ⊎_elim
    (λ (t : eqb b 10 ≡ true). newline-first b (c ∷ text) t ∙ ap (λ (text : List ℕ). 1 + line_count text) (tails b first (c ∷ text) behind (sym (rest-newline b (c ∷ text) t) ∙ e)))
    (λ (f : eqb b 10 ≡ false). other-first b c text f ∙ line_count-step (c ∷ text) first behind (sym (rest-other b (c ∷ text) f) ∙ e))
    (decided (eqb b 10))

-- the last line
pub line_count-last : (text : List ℕ) → line_rest text ≡ [] → line_count text ≤ 1
line_count-last [] e = omega arith
line_count-last (b ∷ []) e =
    ⊎_elim
    (λ (t : eqb b 10 ≡ true). absurd (some-cons b [] (sym e ∙ rest-newline b [] t)))
    (λ (f : eqb b 10 ≡ false). omega (arith, other-one b f))
    (decided (eqb b 10))
line_count-last (b ∷ c ∷ text) e =
    ⊎_elim
    (λ (t : eqb b 10 ≡ true). absurd (some-cons b (c ∷ text) (sym e ∙ rest-newline b (c ∷ text) t)))
    (λ (f : eqb b 10 ≡ false). omega (arith, other-first b c text f, line_count-last (c ∷ text) (sym (rest-other b (c ∷ text) f) ∙ e)))
    (decided (eqb b 10))

-- a text that isn't empty has a line
pub line_count-some : (b : ℕ) (text : List ℕ) → 1 ≤ line_count (b ∷ text)
line_count-some b [] =
    ⊎_elim
    (λ (t : eqb b 10 ≡ true). omega (arith, newline-first b [] t))
    (λ (f : eqb b 10 ≡ false). omega (arith, other-one b f))
    (decided (eqb b 10))
line_count-some b (c ∷ text) =
    ⊎_elim
    (λ (t : eqb b 10 ≡ true). omega (arith, newline-first b (c ∷ text) t))
    (λ (f : eqb b 10 ≡ false). omega (arith, other-first b c text f, line_count-some c text))
    (decided (eqb b 10))

-- a further line begins
pub one-more : (number : ℕ) (behind : List ℕ) → (eqb number 5000 && not (eqb (length behind) 0)) ≡ true → (number ≡ 5000) × (1 ≤ line_count behind)
one-more number [] e = ⊎_elim (λ (t : eqb number 5000 ≡ true). absurd (false≢true (sym (ap (λ (b : Bool). b && false) t) ∙ e))) (λ (f : eqb number 5000 ≡ false). absurd (false≢true (sym (ap (λ (b : Bool). b && false) f) ∙ e))) (decided (eqb number 5000))
one-more number (b ∷ behind) e =
    ⊎_elim
    (λ (t : eqb number 5000 ≡ true). (eqb-true number 5000 t, line_count-some b behind))
    (λ (f : eqb number 5000 ≡ false). absurd (false≢true (sym (ap (λ (t : Bool). t && not (eqb (length (b ∷ behind)) 0)) f) ∙ e)))
    (decided (eqb number 5000))

-- none does
pub none-more : (number : ℕ) (behind : List ℕ) → (eqb number 5000 && not (eqb (length behind) 0)) ≡ false → number ≡ 5000 → behind ≡ []
none-more number [] e is = refl
none-more number (b ∷ behind) e is =
    let n : eqb (length (b ∷ behind)) 0 ≡ false = grind (arith, nat_tests) in
    let t : eqb number 5000 ≡ true = grind (arith, nat_tests) in
    absurd (false≢true (sym e ∙ ap (λ (s : Bool). s && not (eqb (length (b ∷ behind)) 0)) t ∙ ap (λ (s : Bool). not s) n))

-- the last line that there may be has not been read where a newline stands
pub not-last : (number : ℕ) (left : List ℕ) (first : ℕ) (behind : List ℕ) → line_rest left ≡ first ∷ behind → (5000 < number → left ≡ []) → number ≤ 5000
not-last number left first behind e last =
    ⊎_elim
    (λ (late : 5000 < number). absurd (some-cons first behind (sym (ap line_rest (last late)) ∙ e)))
    (λ (low : number ≤ 5000). low)
    (cases_lt 5000 number)

-- how many lines there are at the end of the last one
pub lines-few : (number : ℕ) (left : List ℕ) (lines : ℕ) → number + line_count left ≡ 1 + lines → number ≤ 5001 → (5000 < number → left ≡ []) → line_count left ≤ 1 → lines ≤ 5000
lines-few number left lines counted most last one =
    ⊎_elim
    (λ (late : 5000 < number). let none : line_count left ≡ 0 = ap line_count (last late) in omega (arith, counted, most, none))
    (λ (low : number ≤ 5000). omega (arith, counted, low, one))
    (cases_lt 5000 number)

pub fits : (text : List ℕ) → length text ≤ 16777216 → line_count text ≤ 5000 → IsTooLong text → ⊥
fits text few lines (inl long) = omega (arith, few, long)
fits text few lines (inr long) = omega (arith, lines, long)

gives-batch : (told : LineFault) (text : List ℕ) (moment : ℤ) → (IsTooLong text → ⊥) → FaultGives told (TextIs text moment) → FaultGives told (BatchIs text moment)
gives-batch (Line code line) text moment short is = inr (short, is)
gives-batch Memory text moment short is = tt

-- a line that is refused, of a text that has so many lines
pub fault-counted : (fault : LineFault) (text : List ℕ) (moment : ℤ) (told : LineFault) (counted : ℕ)
    → (5001 < counted → fault ≡ Line BatchTooLong 0) → (counted ≤ 5001 → fault ≡ told) → counted ≡ 1 + line_count text → length text ≤ 16777216
    → FaultGives told (TextIs text moment) → FaultGives fault (BatchIs text moment)
fault-counted fault text moment told counted long short is few gives =
    ⊎_elim
    (λ (l : 5001 < counted). subst (λ (f : LineFault). FaultGives f (BatchIs text moment)) (sym (long l)) (inl (inr (omega (arith, l, is)), refl)))
    (λ (l : counted ≤ 5001). subst (λ (f : LineFault). FaultGives f (BatchIs text moment)) (sym (short l)) (gives-batch told text moment (fits text few (omega (arith, l, is))) gives))
    (cases_lt 5001 counted)
