use Rattle.std.proofs.Common.{◌≡◌, ℕ, ◌+◌, ◌<◌, List, [], ◌++◌, None, Some, length, sym, ap, subst, arith}
use Rattle.std.proofs.lemmas.Bool.Decides.{nat_tests}
use Rattle.fixed_width.specs.Fields.{bytes_of_u32}
use Rattle.index_file.specs.Contents.{AreIds}
use Rattle.index_file.specs.Format.{ids_bytes}
use Rattle.index_file.proofs.TakeLemmas.{stopped}
use Rattle.index_file.proofs.ItemLemmas.{IsId, MayBeNextId, TakenIds, ids_none, ids_one, ids_stuck, ids_no_count, ids_all, ids_some}
use Rattle.index_file.proofs.take.take_ids.Goals as goal

pub returns-in_err-count : goal.returns-in_err-count
returns-in_err-count c =
    stopped IsId bytes_of_u32 AreIds ids_bytes c.from_residual.result c.in_err-count.field-0.0 c.args.rest.now c.take_u32.new.self c.args.rest.now c.take_u32.new.self
    c.from_residual.ensures.1 c.in_err-count.ensures (ids_no_count c.args.rest.now)

pub loop-init : goal.loop-init
loop-init c = subst (λ (done : List ℕ). TakenIds c.take_u32.new.self None done c.take_u32.new.self 0) (sym c.in_ok-ids.ensures.items) (ids_none c.take_u32.new.self)

pub returns-in_err-id : goal.returns-in_err-id
returns-in_err-id c =
    stopped (MayBeNextId c.loop.last) bytes_of_u32 AreIds ids_bytes c.from_residual-in_err-id.result c.in_err-id.field-0.0 c.loop.rest c.take_id.new.rest c.args.rest.now c.take_id.new.rest
    c.from_residual-in_err-id.ensures.1 c.in_err-id.ensures
    (ids_stuck c.args.rest.now c.take_u32.new.self c.loop.rest c.loop.last c.loop.ids.items c.loop.counter c.in_ok-count.count c.in_ok-count.ensures.1 c.in_ok-count.ensures.0 c.loop-test.true c.loop.invariant)

pub loop-preserved : goal.loop-preserved
loop-preserved c =
    subst (λ (done : List ℕ). TakenIds c.take_u32.new.self (Some c.in_ok-id.id) done c.take_id.new.rest (c.loop.counter + 1)) (sym c.in_ok-push.ensures.items)
    (ids_one c.take_u32.new.self c.loop.rest c.take_id.new.rest c.loop.last c.loop.ids.items c.loop.counter c.in_ok-id.id c.loop.invariant c.in_ok-id.ensures.0 c.in_ok-id.ensures.1)

pub returns-then-is_empty : goal.returns-then-is_empty
returns-then-is_empty c =
    let end : c.loop.counter ≡ c.in_ok-count.count = omega (arith, c.loop.auto.counter-end, c.loop-test.false) in
    let test = c.if-is_empty.ensures in
    let none : length c.loop.ids.items ≡ 0 = grind (arith, nat_tests, test, c.loop.ids.ok.0) in
    ids_some c.args.rest.now c.take_u32.new.self c.loop.ids.items c.loop.counter c.in_ok-count.count c.in_ok-count.ensures.1 c.in_ok-count.ensures.0 end c.loop.invariant.many none

pub returns : goal.returns
returns c =
    let end : c.loop.counter ≡ c.in_ok-count.count = omega (arith, c.loop.auto.counter-end, c.loop-test.false) in
    let test = c.if-is_empty.ensures in
    let some : 0 < length c.loop.ids.items = grind (arith, nat_tests, test, c.loop.ids.ok.0) in
    subst (λ (ids : List ℕ). AreIds ids × (c.args.rest.now ≡ ids_bytes ids ++ c.loop.rest)) (sym c.new.ensures)
    (ids_all c.args.rest.now c.take_u32.new.self c.loop.rest c.loop.last c.loop.ids.items c.loop.counter c.in_ok-count.count c.in_ok-count.ensures.1 c.in_ok-count.ensures.0 end
    (λ (e : c.loop.ids.items ≡ []). omega (arith, some, ap length e)) c.loop.invariant)
