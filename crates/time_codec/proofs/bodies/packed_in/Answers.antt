use Rattle.std.proofs.Common.{◌≡◌, ◌^◌, ◌*◌, ◌<◌, ◌≤◌, ℕ, List, length, map, ap, sym, ◌∙◌, subst, refl, arith}
use Rattle.std.specs.Prelude.{All}
use Rattle.std.proofs.lemmas.Bool.{iff_false, false≢true}
use Rattle.time_codec.specs.declared.form.Form.TheVariants.{Packed}
use Rattle.time_codec.specs.Times.{exponent_of, unscaled, all_same, body_of}
use Rattle.time_codec.specs.Reading.{Begin, AreRead}
use Rattle.time_codec.proofs.TimesLemmas.{parts, packed_read}
use Rattle.time_codec.proofs.ReadingLemmas.{also_found, some_and, of_some, of_if_some}
use Rattle.time_codec.proofs.bodies.packed_in.Goals as goal

pub returns-in_default-clause-only : goal.returns-in_default-clause-only
returns-in_default-clause-only c = λ later are follow.
    let p = parts Packed c.args.exponent c.args.rest.now c.args.first later are follow in
    let some = some_and c.in_ok-steps.field-0 (λ read. read.items ≡ p.steps) (c.in_ok-steps.ensures.only p.steps (p.narrow refl) p.few p.is) in
    absurd (c.in_default.not-Some some.0 some.1)

pub returns-then-is_regular-clause-only : goal.returns-then-is_regular-clause-only
returns-then-is_regular-clause-only c = λ later are follow.
    let p = parts Packed c.args.exponent c.args.rest.now c.args.first later are follow in
    let items : c.in-Some.steps.items ≡ p.steps = of_some c.in_ok-steps.field-0 c.in-Some.steps (λ read. read.items ≡ p.steps) c.in-Some.is (c.in_ok-steps.ensures.only p.steps (p.narrow refl) p.few p.is) in
    absurd (false≢true (sym (p.other (λ no. cc no)) ∙ ap all_same (sym (c.as_slice.ensures.value ∙ items)) ∙ sym c.if-is_regular.ensures))

pub returns-then-not-is_greatest-clause-only : goal.returns-then-not-is_greatest-clause-only
returns-then-not-is_greatest-clause-only c = λ later are follow.
    let p = parts Packed c.args.exponent c.args.rest.now c.args.first later are follow in
    let items : c.in-Some.steps.items ≡ p.steps = of_some c.in_ok-steps.field-0 c.in-Some.steps (λ read. read.items ≡ p.steps) c.in-Some.is (c.in_ok-steps.ensures.only p.steps (p.narrow refl) p.few p.is) in
    absurd (iff_false c.is_greatest.ensures c.if-not-is_greatest.true (ap (λ ss. exponent_of (unscaled c.args.exponent ss)) (c.as_slice-2.ensures.value ∙ items) ∙ p.own (λ no. cc no)))

pub times_from-requires-clause-few : goal.times_from-requires-clause-few
times_from-requires-clause-few c =
    let most = of_if_some c.in_ok-steps.field-0 c.in-Some.steps (λ steps. length steps.items ≤ 999) c.in-Some.is c.in_ok-steps.ensures.most in
    omega (arith, ap length c.as_slice-3.ensures.value, most)

pub returns-clause-found : goal.returns-clause-found
returns-clause-found c =
    let exponent = c.args.exponent in
    let steps = c.in-Some.steps.items in
    let is = of_if_some c.in_ok-steps.field-0 c.in-Some.steps (λ steps. c.args.rest.now ≡ body_of Packed steps.items) c.in-Some.is c.in_ok-steps.ensures.found in
    let narrow = of_if_some c.in_ok-steps.field-0 c.in-Some.steps (λ steps. All (λ step. step < 2 ^ 60) steps.items) c.in-Some.is c.in_ok-steps.ensures.narrow in
    let other = ap all_same (sym c.as_slice.ensures.value) ∙ sym c.if-is_regular.ensures in
    let own = ap (λ ss. exponent_of (unscaled exponent ss)) (sym c.as_slice-2.ensures.value) ∙ c.is_greatest.ensures.0 c.if-not-is_greatest.false in
    also_found c.times_from.result
    (λ times. Begin c.args.first (map (λ step. step * c.power.result) c.as_slice-3.result.now) times.items)
    (λ times. AreRead Packed exponent c.args.first c.args.rest.now times.items)
    (λ times begin. packed_read exponent c.args.first c.args.rest.now steps times.items
    (subst (λ (unit : ℕ). Begin c.args.first (map (λ step. step * unit) steps) times.items) c.power.ensures.value
    (subst (λ (ss : List ℕ). Begin c.args.first (map (λ step. step * c.power.result) ss) times.items) c.as_slice-3.ensures.value begin)) other narrow own is)
    c.times_from.ensures.found

pub returns-clause-only : goal.returns-clause-only
returns-clause-only c = λ later are follow.
    let p = parts Packed c.args.exponent c.args.rest.now c.args.first later are follow in
    let items : c.in-Some.steps.items ≡ p.steps = of_some c.in_ok-steps.field-0 c.in-Some.steps (λ read. read.items ≡ p.steps) c.in-Some.is (c.in_ok-steps.ensures.only p.steps (p.narrow refl) p.few p.is) in
    c.times_from.ensures.only later are
    (p.back
    ∙ ap (λ (unit : ℕ). map (λ step. step * unit) p.steps) (sym c.power.ensures.value)
    ∙ ap (map (λ step. step * c.power.result)) (sym (c.as_slice-3.ensures.value ∙ items)))
