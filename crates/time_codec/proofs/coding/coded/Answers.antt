use Rattle.std.proofs.Common.{◌≡◌, List, ℕ, subst}
use Rattle.std.specs.Prelude.{IfOk}
use Rattle.time_codec.proofs.TimesLemmas.{in_units, packed_written, raw_is, narrow_values, test_scaled}
use Rattle.time_codec.proofs.coding.coded.Goals as goal

pub packed-requires-clause-narrow : goal.packed-requires-clause-narrow
packed-requires-clause-narrow c = narrow_values c.args.differences.now c.power-unit.result c.scale.new.differences (in_units c.args.differences.now c.exponent-exponent.result c.power-unit.result c.scale.new.differences c.power-unit.ensures.value c.scale.ensures) c.if-is_narrow.ensures

pub returns-then-is_narrow : goal.returns-then-is_narrow
returns-then-is_narrow c =
    let P : List ℕ → Type 0 = λ items. IfOk c.packed.result (λ bytes. bytes.items ≡ items) in
    subst P
    (packed_written c.args.first c.args.differences.now c.exponent-exponent.result c.power-unit.result c.scale.new.differences
    c.exponent-exponent.ensures.found c.power-unit.ensures.value
    (in_units c.args.differences.now c.exponent-exponent.result c.power-unit.result c.scale.new.differences c.power-unit.ensures.value c.scale.ensures) c.requires c.if-is_narrow.ensures)
    c.packed.ensures

pub returns : goal.returns
returns c =
    let P : List ℕ → Type 0 = λ items. IfOk c.raw.result (λ bytes. bytes.items ≡ items) in
    subst P
    (raw_is c.args.first c.args.differences.now c.requires
    (test_scaled c.args.differences.now c.exponent-exponent.result c.power-unit.result _ c.exponent-exponent.ensures.found c.power-unit.ensures.value c.if-is_narrow.ensures))
    c.raw.ensures
