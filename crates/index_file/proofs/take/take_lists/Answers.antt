use Rattle.std.proofs.Common.{◌≡◌, ℕ, ◌+◌, List, [], ◌∷◌, ◌++◌, None, Some, sym, subst, arith}
use Rattle.fixed_width.specs.Fields.{bytes_of_u32}
use Rattle.index_file.specs.declared.content.NameIds.{NameIds}
use Rattle.index_file.specs.Contents.{AreNamed}
use Rattle.index_file.specs.Format.{counted_bytes, named_bytes}
use Rattle.index_file.proofs.TakeLemmas.{stopped}
use Rattle.index_file.proofs.ItemLemmas.{IsId, MayBeNextNameIds, TakenLists, lists_none, lists_one, lists_stuck, lists_no_count, lists_all}
use Rattle.index_file.proofs.take.take_lists.Goals as goal

pub returns-in_err-count : goal.returns-in_err-count
returns-in_err-count c =
    stopped IsId bytes_of_u32 AreNamed (counted_bytes named_bytes) c.from_residual.result c.in_err-count.field-0.0 c.args.rest.now c.take_u32.new.self c.args.rest.now c.take_u32.new.self
    c.from_residual.ensures.1 c.in_err-count.ensures (lists_no_count c.args.rest.now)

pub loop-init : goal.loop-init
loop-init c = subst (λ (done : List NameIds). TakenLists c.take_u32.new.self None done c.take_u32.new.self 0) (sym c.new-lists.ensures.items) (lists_none c.take_u32.new.self)

pub returns-in_err-list : goal.returns-in_err-list
returns-in_err-list c =
    stopped (MayBeNextNameIds c.loop.last) named_bytes AreNamed (counted_bytes named_bytes) c.from_residual-in_err-list.result c.in_err-list.field-0.0 c.loop.rest c.take_list.new.rest c.args.rest.now c.take_list.new.rest
    c.from_residual-in_err-list.ensures.1 c.in_err-list.ensures
    (lists_stuck c.args.rest.now c.take_u32.new.self c.loop.rest c.loop.last c.loop.lists.items c.loop.counter c.in_ok-count.count c.in_ok-count.ensures.1 c.in_ok-count.ensures.0 c.loop-test.true c.loop.invariant)

pub loop-preserved : goal.loop-preserved
loop-preserved c =
    subst (λ (done : List NameIds). TakenLists c.take_u32.new.self (Some c.in_ok-carry.field-0) done c.take_list.new.rest (c.loop.counter + 1)) (sym c.in_ok-push.ensures.items)
    (subst (λ (k : List ℕ). TakenLists c.take_u32.new.self (Some k) (c.loop.lists.items ++ c.in_ok-list.list ∷ []) c.take_list.new.rest (c.loop.counter + 1)) (sym c.in_ok-carry.ensures)
    (lists_one c.take_u32.new.self c.loop.rest c.take_list.new.rest c.loop.last c.loop.lists.items c.loop.counter c.in_ok-list.list c.loop.invariant c.in_ok-list.ensures.0 c.in_ok-list.ensures.1))

pub returns : goal.returns
returns c =
    let end : c.loop.counter ≡ c.in_ok-count.count = omega (arith, c.loop.auto.counter-end, c.loop-test.false) in
    subst (λ (xs : List NameIds). AreNamed xs × (c.args.rest.now ≡ counted_bytes named_bytes xs ++ c.loop.rest)) (sym c.new.ensures)
    (lists_all c.args.rest.now c.take_u32.new.self c.loop.rest c.loop.last c.loop.lists.items c.loop.counter c.in_ok-count.count c.in_ok-count.ensures.1 c.in_ok-count.ensures.0 end c.loop.invariant)
