use Rattle.std.proofs.Common.{◌++◌, ◌∙◌, ap, subst, None, List, ℕ}
use Rattle.std.specs.List.{flat_map, AllByRecursion}
use Rattle.std.proofs.lemmas.List.{take_all}
use Rattle.wal_store.proofs.PutLemmas.{IsPartAt, Parts, bytes_at, parts_bytes, parts_compared, put_more, short_at}
use Rattle.wal_store.proofs.condition.put_condition.Goals as goal

pub put_part-requires : goal.put_part-requires
put_part-requires c = short_at c.args.condition.now c.parts-placed-items.result.now c.loop-placed.placed-index c.placed-item.result c.requires c.parts-placed-items.ensures c.loop-placed-test.true c.placed-item.is

pub loop-placed-preserved : goal.loop-placed-preserved
loop-placed-preserved c =
    let more = put_more c.args.out.now.items c.loop-placed.out.items c.put_part.new.out.items c.parts-placed-items.result.now c.loop-placed.placed-index c.placed-item.result
    c.loop-placed-test.true c.placed-item.is c.loop-placed.invariant.bytes c.loop-placed.invariant.parts c.in_ok-put_part.ensures.ok c.in_ok-put_part.ensures.part
    in
    record { bytes = more.0; parts = more.1 }

pub returns-clause-ok : goal.returns-clause-ok
returns-clause-ok c =
    let items = c.parts-placed-items.result.now in
    c.loop-placed.invariant.bytes
    ∙ ap (λ (ps : Parts). c.args.out.now.items ++ flat_map bytes_at ps) (take_all c.loop-placed.placed-index items c.loop-placed-test.false ∙ c.parts-placed-items.ensures)
    ∙ ap (λ (bytes : List ℕ). c.args.out.now.items ++ bytes) (parts_bytes c.args.condition.now None)

pub returns-clause-comparisons : goal.returns-clause-comparisons
returns-clause-comparisons c =
    let items = c.parts-placed-items.result.now in
    parts_compared c.args.condition.now None
    (subst (AllByRecursion IsPartAt) (take_all c.loop-placed.placed-index items c.loop-placed-test.false ∙ c.parts-placed-items.ensures) c.loop-placed.invariant.parts)
