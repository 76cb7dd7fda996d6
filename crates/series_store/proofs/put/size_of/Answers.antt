use Rattle.std.proofs.Common.{rules, arith, ap, length, List, ℕ}
use Rattle.std.specs.List.{flat_map}
use Rattle.std.proofs.lemmas.List.{take_all}
use Rattle.series_store.specs.Format.{series_bytes}
use Rattle.series_store.proofs.FormatLemmas.{up_to, length-series_bytes, length-record_bytes}
use Rattle.series_store.proofs.put.size_of.Goals as goal

pub size_with-size-requires : goal.size_with-size-requires
size_with-size-requires c = omega (arith, up_to c.args.series.now c.loop-key.key-index c.key-item.result c.loop-key-test.true c.key-item.is c.requires, length-series_bytes c.key-item.result)

pub overflow_add-size : goal.overflow_add-size
overflow_add-size c = search (rules, up_to c.args.series.now c.loop-key.key-index c.key-item.result c.loop-key-test.true c.key-item.is c.requires, c.size_with-size.ensures.size, c.loop-key.invariant.0)

pub returns-clause-size : goal.returns-clause-size
returns-clause-size c = omega (arith, c.loop-key.invariant.0, length-record_bytes c.args.series.now, ap (λ (l : List (List ℕ)). length (flat_map series_bytes l)) (take_all c.loop-key.key-index c.args.series.now c.loop-key-test.false))
