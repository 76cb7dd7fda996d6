use Rattle.std.proofs.Common.{◌≡◌, ℕ, List, ap, refl, subst, ◌∙◌}
use Rattle.std.specs.Prelude.{IfOk}
use Rattle.time_codec.specs.Times.{coded_from, all_same}
use Rattle.time_codec.proofs.TimesLemmas.{run_whole, coded_whole}
use Rattle.time_codec.proofs.coding.encode.Goals as goal

pub returns-in-Some-even_difference : goal.returns-in-Some-even_difference
returns-in-Some-even_difference c =
    let P : List ℕ → Type 0 = λ items. IfOk c.run_length.result (λ bytes. bytes.items ≡ items) in
    let found = c.in-Some-even_difference.ensures.found in
    subst P
    (run_whole c.in-Some.first.now c.in-Some.later.now c.args.times.now c.in-Some-even_difference.difference _ c.in-Some.ensures.cases.0 found.0 found.1 refl)
    c.run_length.ensures

pub coded-requires : goal.coded-requires
coded-requires c =
    ap all_same (c.as_mut_slice.ensures.value ∙ c.in_ok-differences.ensures) ∙ c.in_default-even_difference.ensures.none refl

pub returns : goal.returns
returns c =
    let P : List ℕ → Type 0 = λ items. IfOk c.coded.result (λ bytes. bytes.items ≡ items) in
    subst P
    (ap (coded_from c.in-Some.first.now) (c.as_mut_slice.ensures.value ∙ c.in_ok-differences.ensures) ∙ coded_whole c.in-Some.first.now c.in-Some.later.now c.args.times.now c.in-Some.ensures.cases.0)
    c.coded.ensures
