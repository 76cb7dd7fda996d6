use Rattle.std.proofs.Common.{ℕ, List, ap, sym, subst, Err, Ok}
use Rattle.std.proofs.lemmas.Result.{err_from_is_err_and}
use Rattle.shard_state.specs.Calls.{AddsEntry, AddsSeries}
use Rattle.shard_state.specs.Engine.{series_in}
use Rattle.shard_state.proofs.Entering.{enters_alone, enters_both, enters_no_series}
use Rattle.shard_state.proofs.GoingOn.{goes_on}
use Rattle.shard_state.proofs.logs.Logs.enter.Goals.{in-Some+in_ok-add_series, in_default}
use Rattle.shard_state.proofs.logs.Logs.enter.Goals as goal

pub returns-in_err-add_series-clause-enters : goal.returns-in_err-add_series-clause-enters
returns-in_err-add_series-clause-enters g c =
    let p = err_from_is_err_and c.from_residual.result c.from_residual.ensures.1 in
    rw (p.1, p.2) (enters_no_series g.D.Disk c.args.prepared c.args.self.now c.add_series.new.self c.in_err-add_series.field-0.0
    (subst (λ (l : List (List ℕ)). AddsSeries g.D.Disk l c.args.self.now c.add_series.new.self (Err c.in_err-add_series.field-0.0)) (ap series_in (sym c.in-Some.is)) c.in_err-add_series.ensures.adds))

pub returns-in_err-add_series-clause-goes_on : goal.returns-in_err-add_series-clause-goes_on
returns-in_err-add_series-clause-goes_on g c =
    let laws = g.met.D.Disk g.world.𝓛 g.world.𝓜 g.world.𝓡 ((λ s x. x), (λ x. x), (λ x. x), (λ x. x)) in
    goes_on g.D.Disk c.args.prepared c.args.self.now c.add_series.new.self c.from_residual.result c.requires.may (laws.only_now c.add_series.new.self.disk) (returns-in_err-add_series-clause-enters g c)

pub returns-clause-enters : goal.returns-clause-enters
returns-clause-enters g c = elim c.match-series.branch [
  | in-Some+in_ok-add_series w ↦
      enters_both g.D.Disk c.args.prepared c.args.self.now w.add_series.new.self c.add_entry.new.self c.add_entry.result
      (subst (λ (l : List (List ℕ)). AddsSeries g.D.Disk l c.args.self.now w.add_series.new.self (Ok tt)) (ap series_in (sym w.in-Some.is)) w.in_ok-add_series.ensures.adds)
      (subst (λ s. AddsEntry g.D.Disk c.args.prepared.record s c.add_entry.new.self c.add_entry.result) w.self-is c.add_entry.ensures.adds)
  | in_default w ↦
      enters_alone g.D.Disk c.args.prepared c.args.self.now c.add_entry.new.self c.add_entry.result (ap series_in w.in_default.is)
      (subst (λ s. AddsEntry g.D.Disk c.args.prepared.record s c.add_entry.new.self c.add_entry.result) w.self-is c.add_entry.ensures.adds)
]

pub returns-clause-goes_on : goal.returns-clause-goes_on
returns-clause-goes_on g c =
    let laws = g.met.D.Disk g.world.𝓛 g.world.𝓜 g.world.𝓡 ((λ s x. x), (λ x. x), (λ x. x), (λ x. x)) in
    goes_on g.D.Disk c.args.prepared c.args.self.now c.add_entry.new.self c.add_entry.result c.requires.may (laws.only_now c.add_entry.new.self.disk) (returns-clause-enters g c)
