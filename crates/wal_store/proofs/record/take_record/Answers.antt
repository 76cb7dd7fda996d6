use Rattle.std.proofs.Common.{◌^◌, ◌<◌, rules, arith}
use Rattle.point_model.specs.declared.entry.Entry.{Entry}
use Rattle.wal_store.specs.Spelling.{Spells}
use Rattle.wal_store.proofs.TextLemmas.{if_none_at}
use Rattle.wal_store.proofs.RecordLemmas.{no_number, too_large, no_entry}
use Rattle.wal_store.proofs.record.take_record.Goals as goal

pub returns-in_default-clause-none : goal.returns-in_default-clause-none
returns-in_default-clause-none c = no_number c.args.bytes.now c.in_default.ensures.cut

pub returns-then-number-gt-LAST_NUMBER-clause-none : goal.returns-then-number-gt-LAST_NUMBER-clause-none
returns-then-number-gt-LAST_NUMBER-clause-none c =
    let fits : c.in-Some.number < 2 ^ 64 = search rules in
    too_large c.args.bytes.now c.in-Some.body.now c.in-Some.number fits c.in-Some.ensures.found (omega arith)

pub returns-in-None-clause-none : goal.returns-in-None-clause-none
returns-in-None-clause-none c =
    let fits : c.in-Some.number < 2 ^ 64 = search rules in
    no_entry c.args.bytes.now c.in-Some.body.now c.in-Some.number fits c.in-Some.ensures.found (if_none_at ((entry : Entry) → Spells entry c.in-Some.body.now → ⊥) c.in_ok-entry.field-0 c.in-None.is c.in_ok-entry.ensures.none)
