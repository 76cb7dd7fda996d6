use Rattle.std.proofs.Common.{List, sym, ap, ◌∙◌, subst}
use Rattle.std.specs.List.{AllByRecursion}
use Rattle.std.proofs.lemmas.Result.{on_ok_weaker, on_err_weaker}
use Rattle.tombstones.specs.Covered.{HidesAlso}
use Rattle.tombstones.specs.Kept.{Row, tombs_of, IsRow}
use Rattle.tombstones.proofs.KeptLemmas.{set_hides, set_rows, set_nothing, found_some, kept_some}
use Rattle.tombstones.proofs.set.add_to.Goals as goal

pub returns-in-Some-clause-ok : goal.returns-in-Some-clause-ok
returns-in-Some-clause-ok c =
    let rows = c.args.rows.now.entries in
    let holds = c.get_mut.follows.holds c.add.new.self in
    on_ok_weaker c.add.result (λ also. subst (λ (rs : List Row). HidesAlso (tombs_of rows) c.args.key.now c.args.range (tombs_of rs)) (sym holds.0)
    (set_hides c.args.key.now rows c.in-Some.ranges.now c.add.new.self c.args.range (sym c.in-Some.ensures.value) also)) c.add.ensures.ok

pub returns-in-Some-clause-err : goal.returns-in-Some-clause-err
returns-in-Some-clause-err c =
    let rows = c.args.rows.now.entries in
    let holds = c.get_mut.follows.holds c.add.new.self in
    on_err_weaker c.add.result (λ same. ap tombs_of holds.0 ∙ set_nothing c.args.key.now rows c.in-Some.ranges.now c.add.new.self (sym c.in-Some.ensures.value) same) c.add.ensures.err

pub returns-in-Some-clause-rows : goal.returns-in-Some-clause-rows
returns-in-Some-clause-rows c =
    let rows = c.args.rows.now.entries in
    let holds = c.get_mut.follows.holds c.add.new.self in
    let some = found_some c.args.key.now rows c.in-Some.ranges.now c.requires.rows.each (sym c.in-Some.ensures.value) in
    let each = set_rows c.args.key.now rows c.add.new.self c.requires.rows.each (kept_some c.add.result c.in-Some.ranges.now c.add.new.self c.add.ensures.some c.add.ensures.err some) in
    record { ascending = holds.4; each = subst (AllByRecursion IsRow) (sym holds.0) each }
