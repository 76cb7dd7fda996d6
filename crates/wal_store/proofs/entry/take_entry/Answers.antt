use Rattle.std.proofs.Common.{◌^◌, ◌<◌, List, rules}
use Rattle.tsdb_types.specs.declared.point.Point.{Point}
use Rattle.point_model.specs.declared.deletion.Deletion.{Deletion}
use Rattle.wal_store.specs.Spelling.{SpellsPoints, SpellsDeletion}
use Rattle.wal_store.proofs.TextLemmas.{if_none_at}
use Rattle.wal_store.proofs.EntryLemmas.{no_client, no_kind, no_write, no_delete, no_other}
use Rattle.wal_store.proofs.entry.take_entry.Goals as goal

pub returns-in_default-clause-none : goal.returns-in_default-clause-none
returns-in_default-clause-none c = no_client c.args.bytes.now c.in_default.ensures.cut

pub returns-in_default-take_byte-clause-none : goal.returns-in_default-take_byte-clause-none
returns-in_default-take_byte-clause-none c =
    let fits : c.in-Some.client < 2 ^ 32 = search rules in
    no_kind c.args.bytes.now c.in-Some.rest.now c.in-Some.client fits c.in-Some.ensures.found c.in_default-take_byte.ensures.none

pub returns-in-None-clause-none : goal.returns-in-None-clause-none
returns-in-None-clause-none c =
    let fits : c.in-Some.client < 2 ^ 32 = search rules in
    no_write c.args.bytes.now c.in-Some.rest.now c.in-Some-take_byte.body.now c.in-Some.client c.in-Some-take_byte.kind fits c.in-Some.ensures.found c.in-Some-take_byte.ensures.found c.in-1.is
    (if_none_at ((points : List Point) → SpellsPoints points c.in-Some-take_byte.body.now → ⊥) c.in_ok-points-in-1.field-0 c.in-None.is c.in_ok-points-in-1.ensures.none)

pub returns-in-None-2-clause-none : goal.returns-in-None-2-clause-none
returns-in-None-2-clause-none c =
    let fits : c.in-Some.client < 2 ^ 32 = search rules in
    no_delete c.args.bytes.now c.in-Some.rest.now c.in-Some-take_byte.body.now c.in-Some.client c.in-Some-take_byte.kind fits c.in-Some.ensures.found c.in-Some-take_byte.ensures.found c.in-2.is
    (if_none_at ((deletion : Deletion) → SpellsDeletion deletion c.in-Some-take_byte.body.now → ⊥) c.in_ok-deletion-in-2.field-0 c.in-None-2.is c.in_ok-deletion-in-2.ensures.none)

pub returns-in_default-kind-clause-none : goal.returns-in_default-kind-clause-none
returns-in_default-kind-clause-none c =
    let fits : c.in-Some.client < 2 ^ 32 = search rules in
    no_other c.args.bytes.now c.in-Some.rest.now c.in-Some-take_byte.body.now c.in-Some.client c.in-Some-take_byte.kind fits c.in-Some.ensures.found c.in-Some-take_byte.ensures.found (λ is. search (rules, is)) (λ is. search (rules, is))
