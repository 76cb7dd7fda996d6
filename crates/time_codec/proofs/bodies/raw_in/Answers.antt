use Rattle.std.proofs.Common.{◌≡◌, ◌^◌, ◌*◌, ◌/◌, ◌≤◌, ℕ, List, length, false, true, ltb, map, ap, sym, ◌∙◌, subst, refl, arith}
use Rattle.std.specs.List.{flat_map, list_all}
use Rattle.std.specs.Int.{to_be_bytes, w64}
use Rattle.std.proofs.lemmas.Bool.{false≢true}
use Rattle.time_codec.specs.declared.form.Form.TheVariants.{Raw}
use Rattle.time_codec.specs.Times.{exponent_of, unscaled, all_same, body_of}
use Rattle.time_codec.specs.Reading.{Begin, AreRead}
use Rattle.time_codec.proofs.TimesLemmas.{parts, raw_read, test_scaled}
use Rattle.time_codec.proofs.ReadingLemmas.{also_found, some_and, of_some, of_if_some}
use Rattle.time_codec.proofs.bodies.raw_in.Goals as goal

pub returns-then-exponent_read-gt0-clause-only : goal.returns-then-exponent_read-gt0-clause-only
returns-then-exponent_read-gt0-clause-only c = λ later are follow.
    let p = parts Raw c.args.exponent_read c.args.rest.now c.args.first later are follow in
    absurd (omega (arith, p.unscaled_raw refl))

pub returns-in_default-clause-only : goal.returns-in_default-clause-only
returns-in_default-clause-only c = λ later are follow.
    let p = parts Raw c.args.exponent_read c.args.rest.now c.args.first later are follow in
    let some = some_and c.in_ok-steps.field-0 (λ read. read.items ≡ p.steps) (c.in_ok-steps.ensures.only p.steps p.fit p.few p.is) in
    absurd (c.in_default.not-Some some.0 some.1)

pub returns-then-is_regular-clause-only : goal.returns-then-is_regular-clause-only
returns-then-is_regular-clause-only c = λ later are follow.
    let p = parts Raw c.args.exponent_read c.args.rest.now c.args.first later are follow in
    let items : c.in-Some.steps.items ≡ p.steps = of_some c.in_ok-steps.field-0 c.in-Some.steps (λ read. read.items ≡ p.steps) c.in-Some.is (c.in_ok-steps.ensures.only p.steps p.fit p.few p.is) in
    absurd (false≢true (sym (p.other (λ no. cc no)) ∙ ap all_same (sym (c.as_slice.ensures.value ∙ items)) ∙ sym c.if-is_regular.ensures))

pub returns-then-is_narrow-clause-only : goal.returns-then-is_narrow-clause-only
returns-then-is_narrow-clause-only c = λ later are follow.
    let p = parts Raw c.args.exponent_read c.args.rest.now c.args.first later are follow in
    let items : c.in-Some.steps.items ≡ p.steps = of_some c.in_ok-steps.field-0 c.in-Some.steps (λ read. read.items ≡ p.steps) c.in-Some.is (c.in_ok-steps.ensures.only p.steps p.fit p.few p.is) in
    let wide : list_all (λ step. ltb (step / 10 ^ exponent_of c.in-Some.steps.items) (2 ^ 60)) c.in-Some.steps.items ≡ false =
    ap (λ ss. list_all (λ step. ltb (step / 10 ^ exponent_of ss) (2 ^ 60)) ss) items ∙ p.wide refl in
    let narrow = test_scaled c.in-Some.steps.items c.exponent-exponent.result c.power.result true (c.exponent-exponent.ensures.found ∙ ap exponent_of c.as_slice-2.ensures.value) c.power.ensures.value
    (c.if-is_narrow.ensures ∙ ap (list_all (λ step. ltb (step / c.power.result) (2 ^ 60))) c.as_slice-3.ensures.value) in
    absurd (false≢true (sym wide ∙ narrow))

pub times_from-requires-clause-few : goal.times_from-requires-clause-few
times_from-requires-clause-few c =
    let most = of_if_some c.in_ok-steps.field-0 c.in-Some.steps (λ steps. length steps.items ≤ 999) c.in-Some.is c.in_ok-steps.ensures.most in
    omega (arith, ap length c.as_slice-4.ensures.value, most)

pub returns-clause-found : goal.returns-clause-found
returns-clause-found c =
    let steps = c.in-Some.steps.items in
    let none : 0 ≡ c.args.exponent_read = omega arith in
    let is : c.args.rest.now ≡ body_of Raw steps = sym (of_if_some c.in_ok-steps.field-0 c.in-Some.steps (λ steps. flat_map (to_be_bytes w64) steps.items ≡ c.args.rest.now) c.in-Some.is c.in_ok-steps.ensures.found) in
    let other = ap all_same (sym c.as_slice.ensures.value) ∙ sym c.if-is_regular.ensures in
    let wide = test_scaled steps c.exponent-exponent.result c.power.result false (c.exponent-exponent.ensures.found ∙ ap exponent_of c.as_slice-2.ensures.value) c.power.ensures.value
    (c.if-is_narrow.ensures ∙ ap (list_all (λ step. ltb (step / c.power.result) (2 ^ 60))) c.as_slice-3.ensures.value) in
    also_found c.times_from.result
    (λ times. Begin c.args.first (map (λ step. step * c.power-2.result) c.as_slice-4.result.now) times.items)
    (λ times. AreRead Raw c.args.exponent_read c.args.first c.args.rest.now times.items)
    (λ times begin. subst (λ (e : ℕ). AreRead Raw e c.args.first c.args.rest.now times.items) none (raw_read c.args.first c.args.rest.now steps times.items
    (subst (λ (unit : ℕ). Begin c.args.first (map (λ step. step * unit) steps) times.items) c.power-2.ensures.value
    (subst (λ (ss : List ℕ). Begin c.args.first (map (λ step. step * c.power-2.result) ss) times.items) c.as_slice-4.ensures.value begin)) other wide is))
    c.times_from.ensures.found

pub returns-clause-only : goal.returns-clause-only
returns-clause-only c = λ later are follow.
    let p = parts Raw c.args.exponent_read c.args.rest.now c.args.first later are follow in
    let items : c.in-Some.steps.items ≡ p.steps = of_some c.in_ok-steps.field-0 c.in-Some.steps (λ read. read.items ≡ p.steps) c.in-Some.is (c.in_ok-steps.ensures.only p.steps p.fit p.few p.is) in
    c.times_from.ensures.only later are
    (p.back
    ∙ ap (λ (e : ℕ). unscaled e p.steps) (p.unscaled_raw refl)
    ∙ ap (λ (unit : ℕ). map (λ step. step * unit) p.steps) (sym c.power-2.ensures.value)
    ∙ ap (map (λ step. step * c.power-2.result)) (sym (c.as_slice-4.ensures.value ∙ items)))
