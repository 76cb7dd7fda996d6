use Rattle.std.proofs.Common.{◌≡◌, ◌<◌, ◌≤◌, ◌+◌, ◌-◌, ◌^◌, ◌++◌, ◌∷◌, [], ℕ, ℤ, List, length, rules, sym, ◌∙◌, ap, subst, arith, refl, length-append, append_assoc}
use Rattle.tsdb_types.specs.declared.value.Kind.{Kind}
use Rattle.tsdb_types.specs.declared.value.Value.{Value}
use Rattle.tsdb_types.specs.declared.block.BlockFault.{BlockFault}
use Rattle.tsdb_types.specs.declared.block.BlockFault.TheVariants.{BadBlock, BadKind}
use Rattle.word_codec.specs.Uvarint.{uvarint}
use Rattle.time_codec.specs.Times.{AreTimes, coded_times, IsRefused}
use Rattle.value_codec.specs.Coding.{AreOf, coded_as, IsSpelled}
use Rattle.block_codec.specs.Blocks.{type_byte, times_of, values_of, IsBlock}
use Rattle.block_codec.proofs.BlockLemmas.{parts_of, type_byte_apart, same_parts, lengths, block_read, coded_block-is, pairs_apart, memory_alone}
use Rattle.value_codec.proofs.Apart.{values_apart}
use Rattle.block_codec.proofs.decoder.decode_block.Goals as goal

pub returns-in_default-clause-bad_block : goal.returns-in_default-clause-bad_block
returns-in_default-clause-bad_block c = λ _ points block.
    omega (arith, ap length (sym (coded_block-is block.kind points) ∙ block.spelled), c.in_default.ensures.cases)

pub returns-in_default-split_parts-clause-bad_block : goal.returns-in_default-split_parts-clause-bad_block
returns-in_default-split_parts-clause-bad_block c = λ _ points block.
    let parts = parts_of points c.args.bytes.now c.in-Some.head.now c.in-Some.behind.now block c.in-Some.ensures.cases.0 in
    let coded = coded_times (times_of points) in
    c.in_default-split_parts.ensures.none refl coded (coded_as parts.kind (values_of points)) parts.rest

pub returns-in_err-times-clause-bad_block : goal.returns-in_err-times-clause-bad_block
returns-in_err-times-clause-bad_block c = λ bad points block.
    let parts = parts_of points c.args.bytes.now c.in-Some.head.now c.in-Some.behind.now block c.in-Some.ensures.cases.0 in
    let same = same_parts points c.in-Some.head.now c.in-Some.behind.now c.in-Some-split_parts.times.now c.in-Some-split_parts.values.now parts c.in-Some-split_parts.ensures.found in
    let told : BlockFault = c.in_err-times.field-0.0 in
    let fault : told ≡ BadBlock = search rules in
    let refused : IsRefused BadBlock c.in-Some-split_parts.times.now = subst (λ (f : BlockFault). IsRefused f c.in-Some-split_parts.times.now) fault c.in_err-times.ensures.refused in
    refused (times_of points) parts.times same.0

pub returns-in_err-points-clause-bad_block : goal.returns-in_err-points-clause-bad_block
returns-in_err-points-clause-bad_block c = λ bad points block.
    let parts = parts_of points c.args.bytes.now c.in-Some.head.now c.in-Some.behind.now block c.in-Some.ensures.cases.0 in
    let same = same_parts points c.in-Some.head.now c.in-Some.behind.now c.in-Some-split_parts.times.now c.in-Some-split_parts.values.now parts c.in-Some-split_parts.ensures.found in
    let kind : parts.kind ≡ c.in-Some-kind_with.kind = type_byte_apart _ _ (parts.first ∙ sym c.in-Some-kind_with.ensures.found) in
    let moments : c.in_ok-times.times.items ≡ times_of points = c.in_ok-times.ensures.only (times_of points) parts.times same.0 in
    let size : length (values_of points) ≡ length c.as_slice.result.now = lengths points ∙ ap length (sym moments) ∙ sym (ap length c.as_slice.ensures.value) in
    c.in_err-points.ensures.bad_block (search rules) (values_of points) (record {
      alike = subst (λ (k : Kind). AreOf k (values_of points)) kind parts.alike;
      size = size;
      some = omega (arith, size, lengths points, parts.times.some);
      most = omega (arith, size, lengths points, parts.times.most);
      spelled = ap (λ (k : Kind). coded_as k (values_of points)) (sym kind) ∙ sym same.1;
    })

pub returns-clause-found : goal.returns-clause-found
returns-clause-found c =
    let found = c.in_ok-points.ensures.found in
    block_read c.in_ok-points.points.items c.args.bytes.now c.in-Some.behind.now c.in-Some-split_parts.times.now c.in-Some-split_parts.values.now c.in-Some.head.now c.in-Some-kind_with.kind
    c.in_ok-times.times.items (values_of c.in_ok-points.points.items) c.in-Some.ensures.cases.0 c.in-Some-kind_with.ensures.found c.in-Some-split_parts.ensures.found
    c.in_ok-times.ensures.found.0 c.in_ok-times.ensures.found.1 found.alike found.spelled
    (c.in_ok-points.ensures.times ∙ c.as_slice.ensures.value) refl

pub returns-in_default-clause-only : goal.returns-in_default-clause-only
returns-in_default-clause-only c = λ points block range. absurd (returns-in_default-clause-bad_block c refl points block)

pub returns-in_default-kind_with-clause-only : goal.returns-in_default-kind_with-clause-only
returns-in_default-kind_with-clause-only c = λ points block range.
    let parts = parts_of points c.args.bytes.now c.in-Some.head.now c.in-Some.behind.now block c.in-Some.ensures.cases.0 in
    absurd (c.in_default-kind_with.ensures.none refl parts.kind parts.first)

pub returns-in_default-split_parts-clause-only : goal.returns-in_default-split_parts-clause-only
returns-in_default-split_parts-clause-only c = λ points block range. absurd (returns-in_default-split_parts-clause-bad_block c refl points block)

pub returns-in_err-times-clause-only : goal.returns-in_err-times-clause-only
returns-in_err-times-clause-only c = λ points block range.
    memory_alone c.from_residual.result _ c.from_residual.ensures.0
    (λ bad. returns-in_err-times-clause-bad_block c bad points block)
    (λ byte bad. let told : BlockFault = c.in_err-times.field-0.0 in
    let fault : told ≡ BadKind byte = search rules in
    subst (λ (f : BlockFault). IsRefused f c.in-Some-split_parts.times.now) fault c.in_err-times.ensures.refused)

pub returns-in_err-points-clause-only : goal.returns-in_err-points-clause-only
returns-in_err-points-clause-only c = λ points block range.
    memory_alone c.from_residual-in_err-points.result _ c.from_residual-in_err-points.ensures.0
    (λ bad. returns-in_err-points-clause-bad_block c bad points block)
    (λ byte bad. c.in_err-points.ensures.no_kind byte (search rules))

pub returns-clause-only : goal.returns-clause-only
returns-clause-only c = λ points block range.
    let parts = parts_of points c.args.bytes.now c.in-Some.head.now c.in-Some.behind.now block c.in-Some.ensures.cases.0 in
    let same = same_parts points c.in-Some.head.now c.in-Some.behind.now c.in-Some-split_parts.times.now c.in-Some-split_parts.values.now parts c.in-Some-split_parts.ensures.found in
    let kind : parts.kind ≡ c.in-Some-kind_with.kind = type_byte_apart _ _ (parts.first ∙ sym c.in-Some-kind_with.ensures.found) in
    let moments : c.in_ok-times.times.items ≡ times_of points = c.in_ok-times.ensures.only (times_of points) parts.times same.0 in
    let found = c.in_ok-points.ensures.found in
    let values : values_of c.in_ok-points.points.items ≡ values_of points =
    values_apart c.in-Some-kind_with.kind (values_of c.in_ok-points.points.items) (values_of points) found.alike (subst (λ (k : Kind). AreOf k (values_of points)) kind parts.alike)
    c.in_ok-points.ensures.range range (found.spelled ∙ same.1 ∙ ap (λ (k : Kind). coded_as k (values_of points)) kind) in
    pairs_apart c.in_ok-points.points.items points (c.in_ok-points.ensures.times ∙ c.as_slice.ensures.value ∙ moments) values
