use Rattle.std.proofs.Common.{◌≡◌, ◌^◌, ◌+◌, ◌-◌, ◌*◌, ◌<◌, ◌≤◌, ◌++◌, ◌∷◌, [], ℕ, List, length, get_or, replicate, map, ap, sym, ◌∙◌, subst, refl, arith}
use Rattle.std.specs.Prelude.{ℤ}
use Rattle.std.proofs.lemmas.Bool.{iff_false}
use Rattle.std.proofs.lemmas.List.{get_or-replicate, length-replicate}
use Rattle.word_codec.specs.Uvarint.{uvarint}
use Rattle.time_codec.specs.declared.form.Form.TheVariants.{RunLength}
use Rattle.time_codec.specs.Times.{exponent_of, unscaled, body_of, differences, AreTimes}
use Rattle.time_codec.specs.Reading.{Begin, Follow, AreRead}
use Rattle.time_codec.proofs.TimesLemmas.{parts, run_read, some_same}
use Rattle.time_codec.proofs.ReadingLemmas.{also_found, some_pair, same_replicate, replicate_same, run_exponent, first_fits}
use Rattle.time_codec.proofs.bodies.run_length_in.Goals as goal

-- what the two numbers are where times follow so
record IsRun (exponent : ℕ) (rest : List ℕ) (first : ℤ) (later : List ℤ) : Type 0 where
  step : ℕ
  count : ℕ
  some : 2 ≤ count
  most : count ≤ 1000
  fits : step < 2 ^ 64
  is : rest ≡ uvarint step ++ uvarint count
  own : exponent_of (unscaled exponent (step ∷ [])) ≡ exponent
  apart : differences (first ∷ later) ≡ unscaled exponent (replicate (count - 1) step)

run_of : (exponent : ℕ) (rest : List ℕ) (first : ℤ) (later : List ℤ) → AreTimes (first ∷ later) → Follow RunLength exponent rest (first ∷ later) → IsRun exponent rest first later
run_of exponent rest first later are follow =
    let p = parts RunLength exponent rest first later are follow in
    let same = p.same refl in
    let some = some_same p.steps same in
    let less : length p.steps + 1 - 1 ≡ length p.steps = omega arith in
    record {
      step = get_or p.steps 0 0;
      count = length p.steps + 1;
      some = omega (arith, some);
      most = omega (arith, p.few);
      fits = first_fits p.steps p.fit;
      is = p.is;
      own = run_exponent exponent p.steps same ∙ p.own (λ no. absurd (cc no));
      apart = p.back ∙ ap (unscaled exponent) (same_replicate p.steps same ∙ ap (λ (n : ℕ). replicate n (get_or p.steps 0 0)) (sym less));
    }

pub returns-in_default-clause-only : goal.returns-in_default-clause-only
returns-in_default-clause-only c = λ later are follow.
    let r = run_of c.args.exponent c.args.rest.now c.args.first later are follow in
    absurd (cc (c.in_default.ensures.only r.step r.count r.fits (omega (arith, r.most)) r.is))

pub returns-then-count-lt2-clause-only : goal.returns-then-count-lt2-clause-only
returns-then-count-lt2-clause-only c = λ later are follow.
    let r = run_of c.args.exponent c.args.rest.now c.args.first later are follow in
    let count : c.in-Some.count ≡ r.count = (some_pair _ _ _ _ (c.in-Some.ensures.only r.step r.count r.fits (omega (arith, r.most)) r.is)).1 in
    absurd (omega (arith, count, r.some))

pub returns-then-count-gt1000-clause-only : goal.returns-then-count-gt1000-clause-only
returns-then-count-gt1000-clause-only c = λ later are follow.
    let r = run_of c.args.exponent c.args.rest.now c.args.first later are follow in
    let count : c.in-Some.count ≡ r.count = (some_pair _ _ _ _ (c.in-Some.ensures.only r.step r.count r.fits (omega (arith, r.most)) r.is)).1 in
    absurd (omega (arith, count, r.most))

pub returns-then-not-is_greatest-clause-only : goal.returns-then-not-is_greatest-clause-only
returns-then-not-is_greatest-clause-only c = λ later are follow.
    let r = run_of c.args.exponent c.args.rest.now c.args.first later are follow in
    let step : c.in-Some.step ≡ r.step = (some_pair _ _ _ _ (c.in-Some.ensures.only r.step r.count r.fits (omega (arith, r.most)) r.is)).0 in
    absurd (iff_false c.is_greatest.ensures c.if-not-is_greatest.true (ap (λ (s : ℕ). exponent_of (unscaled c.args.exponent (s ∷ []))) step ∙ r.own))

pub returns-clause-found : goal.returns-clause-found
returns-clause-found c =
    let exponent = c.args.exponent in
    let step = c.in-Some.step in
    let later : ℕ = c.in-Some.count - 1 in
    let steps = replicate later step in
    let some : 1 ≤ later = omega arith in
    let same = replicate_same later step some in
    let first : get_or steps 0 0 ≡ step = get_or-replicate later 0 step 0 (omega arith) in
    let own : exponent_of (unscaled exponent steps) ≡ exponent = sym (run_exponent exponent steps same) ∙ ap (λ (s : ℕ). exponent_of (unscaled exponent (s ∷ []))) first ∙ c.is_greatest.ensures.0 c.if-not-is_greatest.false in
    let size : c.in-Some.count ≡ length steps + 1 = omega (arith, length-replicate {A = ℕ} later step) in
    let is : c.args.rest.now ≡ body_of RunLength steps = c.in-Some.ensures.found ∙ ap (λ (s : ℕ). uvarint s ++ uvarint c.in-Some.count) (sym first) ∙ ap (λ (n : ℕ). uvarint (get_or steps 0 0) ++ uvarint n) size in
    also_found c.times_evenly.result
    (λ times. Begin c.args.first (map (λ step. step * c.power.result) steps) times.items)
    (λ times. AreRead RunLength exponent c.args.first c.args.rest.now times.items)
    (λ times begin. run_read exponent c.args.first c.args.rest.now steps times.items
    (subst (λ (unit : ℕ). Begin c.args.first (map (λ step. step * unit) steps) times.items) c.power.ensures.value begin) same own is)
    c.times_evenly.ensures.found

pub returns-clause-only : goal.returns-clause-only
returns-clause-only c = λ later are follow.
    let r = run_of c.args.exponent c.args.rest.now c.args.first later are follow in
    let pair = some_pair _ _ _ _ (c.in-Some.ensures.only r.step r.count r.fits (omega (arith, r.most)) r.is) in
    let step : c.in-Some.step ≡ r.step = pair.0 in
    let count : c.in-Some.count ≡ r.count = pair.1 in
    c.times_evenly.ensures.only later are
    (r.apart
    ∙ ap (λ (s : ℕ). unscaled c.args.exponent (replicate (r.count - 1) s)) (sym step)
    ∙ ap (λ (n : ℕ). unscaled c.args.exponent (replicate (n - 1) c.in-Some.step)) (sym count)
    ∙ ap (λ (unit : ℕ). map (λ step. step * unit) (replicate (c.in-Some.count - 1) c.in-Some.step)) (sym c.power.ensures.value))
