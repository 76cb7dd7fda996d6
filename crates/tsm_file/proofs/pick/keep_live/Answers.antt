use Rattle.std.proofs.Common.{◌≡◌, ℤ, List, [], subst, arith, rules, of_calls}
use Rattle.std.proofs.lemmas.List.{nil_from_length}
use Rattle.std.proofs.lemmas.Bool.Decides.{nat_tests}
use Rattle.tombstones.specs.declared.range.TombRange.{TombRange}
use Rattle.tombstones.specs.Covered.{Hides}
use Rattle.tombstones.specs.Ranges.{Covers}
use Rattle.point_model.specs.Rows.{Row}
use Rattle.tsm_file.specs.ReadPoints.{IsBetween, IsLiveAt}
use Rattle.tsm_file.proofs.PickLemmas.{picks-retain, picks-same}
use Rattle.tsm_file.proofs.pick.keep_live.Goals as goal

pub returns-then-is_empty : goal.returns-then-is_empty
returns-then-is_empty c =
    let key = c.args.key.now in
    let tombs = c.args.tombs.now in
    let test = c.is_empty.ensures in
    let none : c.ranges-2.result.now ≡ [] = nil_from_length c.ranges-2.result.now (grind (arith, nat_tests)) in
    let bare : (t : ℤ) → Hides c.args.tombs.now c.args.key.now t → ⊥ = λ t hides. subst (λ (rs : List TombRange). Covers rs t) none ((c.ranges-2.ensures.covered t).1 hides) in
    let kept = picks-retain (IsBetween c.args.from c.args.to) _ _ (λ x b f' k. search (rules, of_calls)) _ _ c.retain.ensures.filtered in
    picks-same (IsBetween c.args.from c.args.to) (λ (p : Row). IsLiveAt tombs key c.args.from c.args.to p.0)
    (λ p between. record { from_is = between.0; to_is = between.1; bare = bare p.0 }) (λ p live. (live.from_is, live.to_is)) _ _ kept

pub returns : goal.returns
returns c = picks-retain (λ (p : Row). IsLiveAt c.args.tombs.now c.args.key.now c.args.from c.args.to p.0) _ _ (λ x b f' k. search (rules, of_calls)) _ _ c.retain-2.ensures.filtered
