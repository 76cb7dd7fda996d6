use Rattle.std.proofs.Common.{ℕ, List, Result, Err, ap}
use Rattle.tsdb_types.specs.declared.name.NameFault.{NameFault}
use Rattle.wal_store.specs.Form.{IsNameText}
use Rattle.wal_store.proofs.TextLemmas.{other_name}
use Rattle.wal_store.proofs.text.take_name.Goals as goal

abbrev refused : NameFault → Result (List ℕ) NameFault
refused fault = Err fault

pub returns-in-Err-BadName-clause-none : goal.returns-in-Err-BadName-clause-none
returns-in-Err-BadName-clause-none c =
    other_name c.args.bytes.now c.in-Some.text.now c.in-Some.rest.now c.in-Some.ensures.found c.in-Some.ensures.text
    (λ (ok : IsNameText c.in-Some.text.now). c.in-Err-BadName.ensures.bad.0 (ap (λ (f : NameFault). refused f) c.in-Err-BadName.field-0-is) ok.name)
