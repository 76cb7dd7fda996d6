use Rattle.std.proofs.Common.{◌≡◌, ◌≢◌, ◌^◌, ◌<◌, List, Vec, length, rules, arith}
use Rattle.std.specs.List.{flat_map, AllByRecursion}
use Rattle.std.specs.declared.alloc.Global.{Global}
use Rattle.tsdb_types.specs.declared.point.Point.{Point}
use Rattle.wal_store.specs.Form.{Group, group_bytes, IsGroup}
use Rattle.wal_store.specs.Spelling.{SpellsPoints}
use Rattle.wal_store.specs.Taking.{AreGroupsOf}
use Rattle.wal_store.proofs.TextLemmas.{if_some_at, if_none_at, ok_some_is, ok_none_is}
use Rattle.wal_store.proofs.GroupLemmas.{spells_points, groups_have_points, no_groups_zero, no_groups_cut, no_groups_behind}
use Rattle.wal_store.proofs.group.take_groups.Goals as goal

pub returns-in_default-clause-none : goal.returns-in_default-clause-none
returns-in_default-clause-none c = no_groups_cut c.args.bytes.now c.in_default.ensures.cut

pub returns-then-count-eq0-clause-none : goal.returns-then-count-eq0-clause-none
returns-then-count-eq0-clause-none c =
    let fits : c.in-Some.count < 2 ^ 32 = search rules in
    no_groups_zero c.args.bytes.now c.in-Some.groups.now c.in-Some.count c.in-Some.ensures.found fits (omega arith)

pub returns-in-Some-2-clause-found : goal.returns-in-Some-2-clause-found
returns-in-Some-2-clause-found c =
    let fits : c.in-Some.count < 2 ^ 32 = search rules in
    let are = if_some_at (λ (v : Vec Point Global). AreGroupsOf c.in-Some.count c.in-Some.groups.now v.items) c.in_ok-points.field-0 c.in-Some-2.points c.in-Some-2.is c.in_ok-points.ensures.found in
    ok_some_is (λ (batch : List Point). SpellsPoints batch c.args.bytes.now) c.new.result c.in-Some-2.points.items c.new.ensures.some (spells_points c.args.bytes.now c.in-Some.groups.now c.in-Some.count c.in-Some-2.points.items c.in-Some.ensures.found fits (λ is. omega (arith, is)) are)

pub returns-in-Some-2-clause-none : goal.returns-in-Some-2-clause-none
returns-in-Some-2-clause-none c =
    let are = if_some_at (λ (v : Vec Point Global). AreGroupsOf c.in-Some.count c.in-Some.groups.now v.items) c.in_ok-points.field-0 c.in-Some-2.points c.in-Some-2.is c.in_ok-points.ensures.found in
    ok_none_is ((points : List Point) → SpellsPoints points c.args.bytes.now → ⊥) c.new.result c.new.ensures.none (λ none. groups_have_points c.in-Some.groups.now c.in-Some.count c.in-Some-2.points.items (λ is. omega (arith, is)) are none)

pub returns-in-None-clause-none : goal.returns-in-None-clause-none
returns-in-None-clause-none c =
    let fits : c.in-Some.count < 2 ^ 32 = search rules in
    no_groups_behind c.args.bytes.now c.in-Some.groups.now c.in-Some.count c.in-Some.ensures.found fits
    (if_none_at ((groups : List Group) → AllByRecursion IsGroup groups → length groups ≡ c.in-Some.count → c.in-Some.groups.now ≢ flat_map group_bytes groups) c.in_ok-points.field-0 c.in-None.is c.in_ok-points.ensures.none)
