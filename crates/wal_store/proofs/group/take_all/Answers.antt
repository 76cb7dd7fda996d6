use Rattle.std.proofs.Common.{◌≢◌, ◌++◌, ℕ, List, Bor, sym, subst}
use Rattle.tsdb_types.specs.declared.point.Point.{Point}
use Rattle.wal_store.specs.Form.{Group, group_bytes, IsGroup}
use Rattle.wal_store.specs.Taking.{TakesGroup}
use Rattle.wal_store.proofs.TextLemmas.{if_some_at, if_none_at}
use Rattle.wal_store.proofs.GroupLemmas.{TookGroups, took_no_group, took_group, stuck_group}
use Rattle.wal_store.proofs.group.take_all.Goals as goal

pub loop-init : goal.loop-init
loop-init c = subst (λ (l : List Point). TookGroups c.args.bytes.now c.args.bytes.now 0 l) (sym c.new-points.ensures.items) (took_no_group c.args.bytes.now)

pub returns-in_default-clause-none : goal.returns-in_default-clause-none
returns-in_default-clause-none c =
    stuck_group c.args.bytes.now c.loop.rest.now c.loop.counter c.args.count c.loop.points.items c.loop.invariant c.loop-test.true
    (if_none_at ((group : Group) (rest : List ℕ) → IsGroup group → c.loop.rest.now ≢ group_bytes group ++ rest) c.in_ok-behind.field-0 c.in_default.is c.in_ok-behind.ensures.none)

pub loop-preserved : goal.loop-preserved
loop-preserved c =
    took_group c.args.bytes.now c.loop.rest.now c.in-Some.behind.now c.loop.counter c.loop.points.items c.take_group.new.points.items c.loop.invariant
    (if_some_at (λ (v : Bor (List ℕ)). TakesGroup c.loop.rest.now v.now c.loop.points.items c.take_group.new.points.items) c.in_ok-behind.field-0 c.in-Some.behind c.in-Some.is c.in_ok-behind.ensures.found)
