-- The bytes of a list tell the list.
use Rattle.std.proofs.Common.{◌≡◌, ℕ, ℤ, zero, suc, pos, negsuc, ◌+◌, ◌-◌, ◌*◌, ◌/◌, ◌%◌, ◌^◌, ◌<◌, ◌≤◌, Bool, true, false, cond, List, [], ◌∷◌, ◌++◌, length, take, drop, get_or, map, replicate, All, sym, ◌∙◌, ap, subst, refl, arith}
use Rattle.std.specs.Int.{w64, cast_signed, cast_unsigned}
use mir.Val.{SFits}
use Rattle.std.proofs.lemmas.Int.{to_z-of_z, of_z-to_z}
use Rattle.std.proofs.lemmas.List.{take-append-drop, length-drop, length-take, length-map, append-nil, nil_from_length}
use Rattle.std.proofs.lemmas.List.Elements.{All-head, All-tail}
use Rattle.std.proofs.Math.Nat.{pow-succ'}
use Rattle.tsdb_types.specs.declared.value.Kind.{Kind}
use Rattle.tsdb_types.specs.declared.value.Kind.TheVariants.{Integer, Unsigned, Boolean}
use Rattle.tsdb_types.specs.declared.value.Value.{Value}
use Rattle.tsdb_types.specs.declared.value.Value.TheVariants.{Int, Uint, Bool as Truth}
use Rattle.tsdb_types.specs.Values.{kind_of}
use Rattle.word_codec.specs.Uvarint.{uvarint}
use Rattle.word_codec.specs.Zigzag.{zigzag_of}
use Rattle.word_codec.proofs.UvarintLemmas.{apart as numbers_apart}
use Rattle.simple8b.specs.Words.{words_of}
use Rattle.simple8b.proofs.Spelling.{apart as words_tell}
use Rattle.value_codec.specs.declared.form.Form.{Form}
use Rattle.value_codec.specs.declared.form.Form.TheVariants.{Raw, Packed, RunLength}
use Rattle.value_codec.specs.Steps.{big_endian, step_of, steps_from, form_of, form_byte, tail_of, coded_steps, FitsForm}
use Rattle.value_codec.specs.Booleans.{byte_of, bytes_behind, coded_booleans}
use Rattle.value_codec.specs.Coding.{number_of, truth_of, coded_as, AreOf, IsInRange}
use Rattle.value_codec.proofs.StepLemmas.{step_of-is, steps_from-nil, steps_from-cons, steps_from-fit}
use Rattle.value_codec.proofs.Tails.{big_endian_apart, words_apart, words_fit, tail_raw, tail_packed, tail_run, run_is, coded_steps-cons, form_fits, form_byte_apart, parts_of}
use Rattle.value_codec.proofs.BitLemmas.{byte_of-cons, byte_of-take, half_lt, bytes-step, coded-is, parts_of as boolean_parts}
use Rattle.value_codec.proofs.OfKinds.{coded_booleans-is, coded_numbers-is}

-- ---- steps

zigzag_apart : (one two : ℤ) → zigzag_of one ≡ zigzag_of two → one ≡ two
zigzag_apart (pos a) (pos b) same = ap (λ (n : ℕ). pos n) (let e : a ≡ b = omega (arith, same) in e)
zigzag_apart (pos a) (negsuc b) same = absurd (omega (arith, same))
zigzag_apart (negsuc a) (pos b) same = absurd (omega (arith, same))
zigzag_apart (negsuc a) (negsuc b) same = ap (λ (n : ℕ). negsuc n) (let e : a ≡ b = omega (arith, same) in e)

step_apart : (before one two : ℕ) → one < 2 ^ 64 → two < 2 ^ 64 → step_of before one ≡ step_of before two → one ≡ two
step_apart before one two fit also same =
    let wrapped : ℕ → ℕ = λ n. (n + (2 ^ 64 - before)) % 2 ^ 64 in
    let signed = zigzag_apart (cast_signed w64 (wrapped one)) (cast_signed w64 (wrapped two)) (sym (step_of-is before one) ∙ same ∙ step_of-is before two) in
    let low : wrapped one ≡ wrapped two =
    sym (of_z-to_z w64 (wrapped one) (omega arith)) ∙ ap (cast_unsigned w64) signed ∙ of_z-to_z w64 (wrapped two) (omega arith) in
    omega (arith, low)

heads : (one two : ℕ) (front back : List ℕ) → one ∷ front ≡ two ∷ back → (one ≡ two) × (front ≡ back)
heads one two front back same = (cc, cc)

steps_apart : (before : ℕ) (one two : List ℕ) → All (λ n. n < 2 ^ 64) one → All (λ n. n < 2 ^ 64) two → steps_from before one ≡ steps_from before two → one ≡ two
steps_apart before [] [] fit also same = refl
steps_apart before [] (b ∷ two) fit also same = let e : [] ≡ step_of before b ∷ steps_from b two = sym (steps_from-nil before) ∙ same ∙ steps_from-cons before b two in absurd (omega (arith, ap length e))
steps_apart before (a ∷ one) [] fit also same = let e : step_of before a ∷ steps_from a one ≡ [] = sym (steps_from-cons before a one) ∙ same ∙ steps_from-nil before in absurd (omega (arith, ap length e))
steps_apart before (a ∷ one) (b ∷ two) fit also same =
    let both = heads (step_of before a) (step_of before b) (steps_from a one) (steps_from b two) (sym (steps_from-cons before a one) ∙ same ∙ steps_from-cons before b two) in
    let first : a ≡ b = step_apart before a b (All-head (λ n. n < 2 ^ 64) a one fit) (All-head (λ n. n < 2 ^ 64) b two also) both.0 in
    let rest : one ≡ two = steps_apart b one two (All-tail (λ n. n < 2 ^ 64) a one fit) (All-tail (λ n. n < 2 ^ 64) b two also) (ap (λ (n : ℕ). steps_from n one) (sym first) ∙ both.1) in
    ap (λ (n : ℕ). n ∷ one) first ∙ ap (λ (ns : List ℕ). b ∷ ns) rest

-- ---- bytes of steps

tail_apart : (form : Form) (one two : List ℕ) → FitsForm form one → FitsForm form two → tail_of form one ≡ tail_of form two → one ≡ two
tail_apart Raw one two fit also same = words_apart one two fit also (sym (tail_raw one) ∙ same ∙ tail_raw two)
tail_apart Packed one two fit also same =
    words_tell one two fit also (words_apart (words_of one) (words_of two) (words_fit one fit) (words_fit two also) (sym (tail_packed one) ∙ same ∙ tail_packed two))
tail_apart RunLength one two fit also same =
    let first = numbers_apart (get_or one 0 0) (get_or two 0 0) (uvarint (length one)) (uvarint (length two)) (sym (tail_run one) ∙ same ∙ tail_run two) in
    let often = numbers_apart (length one) (length two) [] [] (append-nil (uvarint (length one)) ∙ first.1 ∙ sym (append-nil (uvarint (length two)))) in
    (run_is one fit.0).0 ∙ ap (λ (n : ℕ). replicate n (get_or one 0 0)) often.0 ∙ ap (replicate (length two)) first.0 ∙ sym (run_is two also.0).0

coded-nil : coded_steps [] ≡ []
unfolding coded_steps
coded-nil = refl

coded_apart : (one two : List ℕ) → All (λ n. n < 2 ^ 64) one → All (λ n. n < 2 ^ 64) two → coded_steps one ≡ coded_steps two → one ≡ two
coded_apart [] [] fit also same = refl
coded_apart [] (b ∷ two) fit also same = absurd (omega (arith, ap length (sym coded-nil ∙ same ∙ coded_steps-cons b two)))
coded_apart (a ∷ one) [] fit also same = absurd (omega (arith, ap length (sym (coded_steps-cons a one) ∙ same ∙ coded-nil)))
coded_apart (a ∷ one) (b ∷ two) fit also same =
    let behind = big_endian b ++ tail_of (form_of b two) two in
    let whole : coded_steps (b ∷ two) ≡ form_byte (form_of b two) ∷ behind = coded_steps-cons b two in
    let here = parts_of a one (coded_steps (b ∷ two)) (form_byte (form_of b two)) behind same whole in
    let there = parts_of b two (coded_steps (b ∷ two)) (form_byte (form_of b two)) behind refl whole in
    let form : form_of a one ≡ form_of b two = form_byte_apart _ _ here.form in
    let first : a ≡ b = big_endian_apart a b (All-head (λ n. n < 2 ^ 64) a one fit) (All-head (λ n. n < 2 ^ 64) b two also) (here.number ∙ sym there.number) in
    let one-fits : FitsForm (form_of b two) one = subst (λ (f : Form). FitsForm f one) form (form_fits a one (All-tail (λ n. n < 2 ^ 64) a one fit)) in
    let rest : one ≡ two = tail_apart (form_of b two) one two one-fits (form_fits b two (All-tail (λ n. n < 2 ^ 64) b two also))
    (ap (λ (f : Form). tail_of f one) (sym form) ∙ here.tail ∙ sym there.tail) in
    ap (λ (n : ℕ). n ∷ one) first ∙ ap (λ (ns : List ℕ). b ∷ ns) rest

-- ---- Booleans

byte_apart : (weight : ℕ) (one two : List Bool) → length one ≡ length two → 2 ^ length one ≤ 2 * weight + 1 → byte_of weight one ≡ byte_of weight two → one ≡ two
byte_apart weight [] [] size room same = refl
byte_apart weight [] (u ∷ two) size room same = absurd (omega arith)
byte_apart weight (t ∷ one) [] size room same = absurd (omega arith)
byte_apart weight (t ∷ one) (u ∷ two) size room same =
    let power : 2 ^ suc (length one) ≡ 2 * 2 ^ length one = pow-succ' 2 (length one) in
    let some : 1 ≤ weight = omega (arith, room, power, Rattle.std.proofs.lemmas.Nat.pow_pos (length one)) in
    let sums : cond t weight 0 + byte_of (weight / 2) one ≡ cond u weight 0 + byte_of (weight / 2) two = sym (byte_of-cons weight t one) ∙ same ∙ byte_of-cons weight u two in
    let low = half_lt weight one some in
    let also = half_lt weight two some in
    let rest-room : 2 ^ length one ≤ 2 * (weight / 2) + 1 = omega (arith, room, power) in
    let first : t ≡ u = same_bit t u weight (byte_of (weight / 2) one) (byte_of (weight / 2) two) low also sums in
    let rest : one ≡ two = byte_apart (weight / 2) one two (omega arith) rest-room (omega (arith, sums, ap (λ (b : Bool). cond b weight 0) first)) in
    ap (λ (b : Bool). b ∷ one) first ∙ ap (λ (bs : List Bool). u ∷ bs) rest
  where
    same_bit : (t u : Bool) (w a b : ℕ) → a < w → b < w → cond t w 0 + a ≡ cond u w 0 + b → t ≡ u
    same_bit true true w a b low also sums = refl
    same_bit true false w a b low also sums = absurd (omega (arith, sums))
    same_bit false true w a b low also sums = absurd (omega (arith, sums))
    same_bit false false w a b low also sums = refl

bits_apart : (fuel : ℕ) (one two : List Bool) → length one ≤ fuel → length one ≡ length two → bytes_behind 0 one ≡ bytes_behind 0 two → one ≡ two
bits_apart fuel [] two within size same = sym (nil_from_length two (omega arith))
bits_apart zero (t ∷ one) two within size same = absurd (omega arith)
bits_apart (suc fuel) (t ∷ one) two within size same =
    let all = t ∷ one in
    let both = heads (byte_of 128 all) (byte_of 128 two) (bytes_behind 0 (drop 8 all)) (bytes_behind 0 (drop 8 two)) (sym (bytes-step all (omega arith)) ∙ same ∙ bytes-step two (omega arith)) in
    let front-size : length (take 8 all) ≡ length (take 8 two) = length-take 8 all ∙ ap (Prim.Native.Nat.min 8) size ∙ sym (length-take 8 two) in
    let small : 2 ^ length (take 8 all) ≤ 2 * 128 + 1 = omega (arith, Rattle.simple8b.proofs.Tables.pow_le (length (take 8 all)) 8 (omega (arith, length-take 8 all))) in
    let front : take 8 all ≡ take 8 two =
    byte_apart 128 (take 8 all) (take 8 two) front-size small (byte_of-take 8 128 all (omega arith) ∙ both.0 ∙ sym (byte_of-take 8 128 two (omega arith))) in
    let back : drop 8 all ≡ drop 8 two = bits_apart fuel (drop 8 all) (drop 8 two) (omega (arith, length-drop 8 all)) (omega (arith, length-drop 8 all, length-drop 8 two, size)) both.1 in
    sym (take-append-drop 8 all) ∙ ap (λ (bs : List Bool). bs ++ drop 8 all) front ∙ ap (λ (bs : List Bool). take 8 two ++ bs) back ∙ take-append-drop 8 two

booleans_apart : (one two : List Bool) → coded_booleans one ≡ coded_booleans two → one ≡ two
booleans_apart one two same =
    let behind = uvarint (length two) ++ bytes_behind 0 two in
    let here = boolean_parts one (coded_booleans two) 16 behind same (coded-is two) in
    let parts = numbers_apart (length one) (length two) (bytes_behind 0 one) (bytes_behind 0 two) here.1 in
    bits_apart (length one) one two (omega arith) parts.0 parts.1

-- ---- values

int_apart : (a b : ℤ) → SFits w64 a → SFits w64 b → cast_unsigned w64 a ≡ cast_unsigned w64 b → a ≡ b
int_apart a b fit also same = sym (to_z-of_z w64 a fit) ∙ ap (cast_signed w64) same ∙ to_z-of_z w64 b also

number_apart : (kind : Kind) (a b : Value) → kind_of a ≡ kind → kind_of b ≡ kind → (kind ≡ Boolean → ⊥) → IsInRange a → IsInRange b → number_of a ≡ number_of b → a ≡ b
number_apart kind (Int a) (Int b) of also other fit fits same = ap (λ (n : ℤ). Int n) (int_apart a b fit fits same)
number_apart kind (Uint a) (Uint b) of also other fit fits same = ap (λ (n : ℕ). Uint n) same
number_apart kind (Truth a) b of also other fit fits same = absurd (other (sym of))
number_apart kind a (Truth b) of also other fit fits same = absurd (other (sym also))
number_apart kind (Int a) (Uint b) of also other fit fits same = let e : Integer ≡ Unsigned = of ∙ sym also in cc
number_apart kind (Uint a) (Int b) of also other fit fits same = let e : Unsigned ≡ Integer = of ∙ sym also in cc

numbers_of_apart : (kind : Kind) (one two : List Value) → (kind ≡ Boolean → ⊥) → AreOf kind one → AreOf kind two → All IsInRange one → All IsInRange two → map number_of one ≡ map number_of two → one ≡ two
numbers_of_apart kind [] [] other of also fit fits same = refl
numbers_of_apart kind [] (b ∷ two) other of also fit fits same = absurd (omega (arith, ap length same))
numbers_of_apart kind (a ∷ one) [] other of also fit fits same = absurd (omega (arith, ap length same))
numbers_of_apart kind (a ∷ one) (b ∷ two) other of also fit fits same =
    let both = heads (number_of a) (number_of b) (map number_of one) (map number_of two) same in
    let first : a ≡ b = number_apart kind a b (of 0 a (omega arith)) (also 0 b (omega arith)) other (fit 0 a (omega arith)) (fits 0 b (omega arith)) both.0 in
    let rest : one ≡ two = numbers_of_apart kind one two other (All-tail (λ v. kind_of v ≡ kind) a one of) (All-tail (λ v. kind_of v ≡ kind) b two also) (All-tail IsInRange a one fit) (All-tail IsInRange b two fits) both.1 in
    ap (λ (v : Value). v ∷ one) first ∙ ap (λ (vs : List Value). b ∷ vs) rest

number_fits : (value : Value) → IsInRange value → number_of value < 2 ^ 64
number_fits (Int (pos n)) fit = omega (arith, fit.sfits)
number_fits (Int (negsuc n)) fit = omega arith
number_fits (Uint n) fit = fit
number_fits (Truth t) fit = omega arith

numbers_fit : (values : List Value) → All IsInRange values → All (λ n. n < 2 ^ 64) (map number_of values)
numbers_fit [] fit = λ k d below. absurd (omega arith)
numbers_fit (value ∷ values) fit =
    Rattle.std.proofs.lemmas.List.Elements.All-cons (λ n. n < 2 ^ 64) (number_of value) (map number_of values) (number_fits value (fit 0 value (omega arith))) (numbers_fit values (All-tail IsInRange value values fit))

truth_apart : (a b : Value) → kind_of a ≡ Boolean → kind_of b ≡ Boolean → truth_of a ≡ truth_of b → a ≡ b
truth_apart (Int n) b of also same = cc
truth_apart (Uint n) b of also same = cc
truth_apart (Truth a) (Int n) of also same = cc
truth_apart (Truth a) (Uint n) of also same = cc
truth_apart (Truth a) (Truth b) of also same = ap (λ (t : Bool). Truth t) same

truths_apart : (one two : List Value) → AreOf Boolean one → AreOf Boolean two → map truth_of one ≡ map truth_of two → one ≡ two
truths_apart [] [] of also same = refl
truths_apart [] (b ∷ two) of also same = absurd (omega (arith, ap length same))
truths_apart (a ∷ one) [] of also same = absurd (omega (arith, ap length same))
truths_apart (a ∷ one) (b ∷ two) of also same =
    let first-bit : truth_of a ≡ truth_of b = cc in
    let rest-bits : map truth_of one ≡ map truth_of two = cc in
    let first : a ≡ b = truth_apart a b (of 0 a (omega arith)) (also 0 b (omega arith)) first-bit in
    let rest : one ≡ two = truths_apart one two (All-tail (λ v. kind_of v ≡ Boolean) a one of) (All-tail (λ v. kind_of v ≡ Boolean) b two also) rest-bits in
    ap (λ (v : Value). v ∷ one) first ∙ ap (λ (vs : List Value). b ∷ vs) rest

as_numbers : (kind : Kind) → (kind ≡ Boolean → ⊥) → (one two : List Value) → AreOf kind one → AreOf kind two → All IsInRange one → All IsInRange two → coded_as kind one ≡ coded_as kind two → one ≡ two
as_numbers kind other one two of also fit fits same =
    numbers_of_apart kind one two other of also fit fits
    (steps_apart 0 (map number_of one) (map number_of two) (numbers_fit one fit) (numbers_fit two fits)
    (coded_apart (steps_from 0 (map number_of one)) (steps_from 0 (map number_of two)) (steps_from-fit 0 (map number_of one)) (steps_from-fit 0 (map number_of two))
    (sym (coded_numbers-is kind one other) ∙ same ∙ coded_numbers-is kind two other)))

pub values_apart : (kind : Kind) (one two : List Value) → AreOf kind one → AreOf kind two → All IsInRange one → All IsInRange two → coded_as kind one ≡ coded_as kind two → one ≡ two
values_apart Integer one two of also fit fits same = as_numbers Integer (λ e. cc) one two of also fit fits same
values_apart Unsigned one two of also fit fits same = as_numbers Unsigned (λ e. cc) one two of also fit fits same
values_apart Boolean one two of also fit fits same =
    truths_apart one two of also (booleans_apart (map truth_of one) (map truth_of two) (sym (coded_booleans-is one) ∙ same ∙ coded_booleans-is two))
