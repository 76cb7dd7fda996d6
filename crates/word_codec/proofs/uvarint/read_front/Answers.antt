use Rattle.std.proofs.Common.{ℕ, ◌+◌, ◌-◌, ◌*◌, ◌^◌, ◌<◌, ◌≤◌, List, length, get_or, refl, arith, ap}
use Rattle.std.proofs.Math.Nat.{mul-le-mul_right}
use Rattle.word_codec.specs.Uvarint.{uvarint}
use Rattle.word_codec.proofs.UvarintLemmas.{Begun, fits, begun_more, found_here, only_here, none_here, sum_fits, is_short, none_short, none_tenth, ten_go_on}
use Rattle.word_codec.proofs.uvarint.read_front.Goals as goal

pub returns-then-is_too_long-clause-only : goal.returns-then-is_too_long-clause-only
returns-then-is_too_long-clause-only c = λ number rest small is.
    absurd (none_here c.args.bytes.now c.loop-index.index c.loop-index.low c.loop-index.scale _ c.loop-index.invariant c.loop-index-test.true refl c.if-group-lt128.true c.if-is_too_long.ensures.refused number rest small is)

pub returns-then-is_too_long-clause-long : goal.returns-then-is_too_long-clause-long
returns-then-is_too_long-clause-long c = (
  λ _. record {
    not_short = λ short. omega (arith, short.all_go_on c.loop-index.index 0 c.loop-index-test.true, c.if-group-lt128.true);
    no_number = λ number rest small is. none_here c.args.bytes.now c.loop-index.index c.loop-index.low c.loop-index.scale _ c.loop-index.invariant c.loop-index-test.true refl c.if-group-lt128.true c.if-is_too_long.ensures.refused number rest small is;
  },
  λ _. refl,
)

pub overflow_add-result : goal.overflow_add-result
overflow_add-result c =
    let sum = sum_fits c.args.bytes.now c.loop-index.index c.loop-index.low c.loop-index.scale (get_or c.args.bytes.now c.loop-index.index 0) c.loop-index.invariant c.loop-index-test.true refl c.if-group-lt128.true c.if-is_too_long.ensures.taken.1 in
    omega (arith, sum)

pub returns-then-group-lt128-clause-found : goal.returns-then-group-lt128-clause-found
returns-then-group-lt128-clause-found c =
    found_here c.args.bytes.now c.loop-index.index c.loop-index.low c.loop-index.scale _ c.loop-index.invariant c.loop-index-test.true refl c.if-group-lt128.true c.if-is_too_long.ensures.taken.0

pub returns-then-group-lt128-clause-only : goal.returns-then-group-lt128-clause-only
returns-then-group-lt128-clause-only c = λ number rest small is.
    let found = found_here c.args.bytes.now c.loop-index.index c.loop-index.low c.loop-index.scale (get_or c.args.bytes.now c.loop-index.index 0) c.loop-index.invariant c.loop-index-test.true refl c.if-group-lt128.true c.if-is_too_long.ensures.taken.0 in
    let same = only_here c.args.bytes.now c.loop-index.index c.loop-index.low c.loop-index.scale (get_or c.args.bytes.now c.loop-index.index 0) c.loop-index.invariant c.loop-index-test.true refl c.if-group-lt128.true number rest is in
    cc (same, found.1, ap (λ n. length (uvarint n)) same)

pub returns-then-group-lt128-clause-long : goal.returns-then-group-lt128-clause-long
returns-then-group-lt128-clause-long c =
    let found = found_here c.args.bytes.now c.loop-index.index c.loop-index.low c.loop-index.scale (get_or c.args.bytes.now c.loop-index.index 0) c.loop-index.invariant c.loop-index-test.true refl c.if-group-lt128.true c.if-is_too_long.ensures.taken.0 in
    let sum = sum_fits c.args.bytes.now c.loop-index.index c.loop-index.low c.loop-index.scale (get_or c.args.bytes.now c.loop-index.index 0) c.loop-index.invariant c.loop-index-test.true refl c.if-group-lt128.true c.if-is_too_long.ensures.taken.1 in
    (λ is. cc is, λ long. absurd (long.no_number _ _ (omega (arith, sum)) found.0))

pub returns-then-index-eq-LAST_PLACE-clause-only : goal.returns-then-index-eq-LAST_PLACE-clause-only
returns-then-index-eq-LAST_PLACE-clause-only c = λ number rest small is.
    let ten = ten_go_on c.args.bytes.now c.loop-index.index c.loop-index.low c.loop-index.scale _ c.loop-index.invariant c.loop-index-test.true refl c.if-group-lt128.false (omega (arith, c.type_inv.bytes c.loop-index.index)) c.if-index-eq-LAST_PLACE.true in
    absurd (none_tenth c.args.bytes.now ten number rest small is)

pub returns-then-index-eq-LAST_PLACE-clause-long : goal.returns-then-index-eq-LAST_PLACE-clause-long
returns-then-index-eq-LAST_PLACE-clause-long c =
    let ten = ten_go_on c.args.bytes.now c.loop-index.index c.loop-index.low c.loop-index.scale _ c.loop-index.invariant c.loop-index-test.true refl c.if-group-lt128.false (omega (arith, c.type_inv.bytes c.loop-index.index)) c.if-index-eq-LAST_PLACE.true in (
      λ _. record {
        not_short = λ short. omega (arith, short.room, c.loop-index-test.true, c.if-index-eq-LAST_PLACE.true);
        no_number = λ number rest small is. none_tenth c.args.bytes.now ten number rest small is;
      },
      λ _. refl,
    )

-- both go on below the bound of the next place
room : (bytes : List ℕ) (index low scale byte : ℕ) → Begun bytes index low scale → index ≤ 8 → byte < 256 → (low + (byte - 128) * scale < 2 ^ 63) × (scale * 128 ≤ 2 ^ 63)
room bytes index low scale byte b before small =
    let f = fits bytes index low scale b in
    let le : byte - 128 ≤ 127 = omega arith in
    (omega (arith, f.low_below, f.scale_before before, mul-le-mul_right scale le), omega (arith, f.scale_before before))

pub overflow_add-low : goal.overflow_add-low
overflow_add-low c =
    let r = room c.args.bytes.now c.loop-index.index c.loop-index.low c.loop-index.scale (get_or c.args.bytes.now c.loop-index.index 0) c.loop-index.invariant (omega arith) (omega (arith, c.type_inv.bytes c.loop-index.index)) in
    omega (arith, r.0)

pub overflow_mul-scale : goal.overflow_mul-scale
overflow_mul-scale c =
    let r = room c.args.bytes.now c.loop-index.index c.loop-index.low c.loop-index.scale (get_or c.args.bytes.now c.loop-index.index 0) c.loop-index.invariant (omega arith) (omega (arith, c.type_inv.bytes c.loop-index.index)) in
    omega (arith, r.1)

pub loop-index-preserved : goal.loop-index-preserved
loop-index-preserved c =
    begun_more c.args.bytes.now c.loop-index.index c.loop-index.low c.loop-index.scale _ c.loop-index.invariant c.loop-index-test.true refl c.if-group-lt128.false (omega (arith, c.type_inv.bytes c.loop-index.index)) (omega arith)

pub returns-clause-only : goal.returns-clause-only
returns-clause-only c = λ number rest small is.
    let short = is_short c.args.bytes.now c.loop-index.index c.loop-index.low c.loop-index.scale c.loop-index.invariant c.loop-index-test.false in
    absurd (none_short c.args.bytes.now short.0 number rest is)

pub returns-clause-short : goal.returns-clause-short
returns-clause-short c =
    let short = is_short c.args.bytes.now c.loop-index.index c.loop-index.low c.loop-index.scale c.loop-index.invariant c.loop-index-test.false in
    (λ _. short.1, λ _. refl)

pub returns-clause-long : goal.returns-clause-long
returns-clause-long c =
    let short = is_short c.args.bytes.now c.loop-index.index c.loop-index.low c.loop-index.scale c.loop-index.invariant c.loop-index-test.false in
    (λ is. cc is, λ long. absurd (long.not_short short.1))
