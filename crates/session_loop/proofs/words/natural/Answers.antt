-- The digits are all of them, and few enough.
use Rattle.std.proofs.Common.{◌≡◌, ◌<◌, ◌+◌, ◌*◌, ℕ, List, length, take, get_or, subst, sym, ap, ◌∙◌, arith, add-one}
use Rattle.std.specs.Str.Parse.{AllDigits, digits_value}
use Rattle.std.proofs.lemmas.List.{length-take, take_all}
use Rattle.std.proofs.lemmas.Int.Digits.{digits_value_more}
use Rattle.session_loop.proofs.NumberLemmas.{all_digits_more, digit_at, no_digit, some_digit, some_length, digits_below}
use Rattle.session_loop.proofs.words.natural.Goals as goal

pub returns-then-not-is_ascii_digit : goal.returns-then-not-is_ascii_digit
returns-then-not-is_ascii_digit c = λ h.
    no_digit (get_or c.args.digits.now c.loop-digit.digit-index 0) c.is_ascii_digit.result c.is_ascii_digit.ensures.value c.if-not-is_ascii_digit.true
    (digit_at c.args.digits.now c.loop-digit.digit-index c.loop-digit-test.true h.1)

pub overflow_mul-sum : goal.overflow_mul-sum
overflow_mul-sum c =
    let len = length-take c.loop-digit.digit-index c.args.digits.now in
    let short = c.requires in
    let small = digits_below 18 (take c.loop-digit.digit-index c.args.digits.now) c.loop-digit.invariant.digits (omega arith) in omega arith

pub overflow_add-sum : goal.overflow_add-sum
overflow_add-sum c =
    let len = length-take c.loop-digit.digit-index c.args.digits.now in
    let short = c.requires in
    let small = digits_below 18 (take c.loop-digit.digit-index c.args.digits.now) c.loop-digit.invariant.digits (omega arith) in
    let digit = some_digit (get_or c.args.digits.now c.loop-digit.digit-index 0) c.is_ascii_digit.result c.is_ascii_digit.ensures.value c.if-not-is_ascii_digit.false in
    let low = digit.low in let value = digit.value in omega (arith, c.from.ensures, c.loop-digit.invariant.value)

pub loop-digit-preserved : goal.loop-digit-preserved
loop-digit-preserved c =
    let digit = some_digit (get_or c.args.digits.now c.loop-digit.digit-index 0) c.is_ascii_digit.result c.is_ascii_digit.ensures.value c.if-not-is_ascii_digit.false in
    record {
      digits = subst (λ (n : ℕ). AllDigits 10 (take n c.args.digits.now)) (sym (add-one c.loop-digit.digit-index))
          (all_digits_more c.args.digits.now c.loop-digit.digit-index c.loop-digit-test.true c.loop-digit.invariant.digits digit.low);
      value = ap (λ (n : ℕ). n * 10 + c.from.result) c.loop-digit.invariant.value
          ∙ ap (λ (n : ℕ). digits_value 10 (take c.loop-digit.digit-index c.args.digits.now) * 10 + n) (c.from.ensures ∙ sym digit.value)
          ∙ sym (digits_value_more 10 c.args.digits.now c.loop-digit.digit-index c.loop-digit-test.true);
    }

pub returns : goal.returns
returns c =
    let whole : take c.loop-digit.digit-index c.args.digits.now ≡ c.args.digits.now = take_all c.loop-digit.digit-index c.args.digits.now c.loop-digit-test.false in
    let digits : AllDigits 10 c.args.digits.now = subst (λ (l : List ℕ). AllDigits 10 l) whole c.loop-digit.invariant.digits in
    let some : 0 < length c.args.digits.now = some_length (length c.args.digits.now) (sym c.is_empty.ensures ∙ c.if-is_empty.false) in
    ((some, digits), c.loop-digit.invariant.value ∙ ap (digits_value 10) whole)
