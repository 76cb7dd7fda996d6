use Rattle.std.proofs.Common.{◌≡◌, ◌==◌, ◌∙◌, [], sym, ap, subst}
use Rattle.std.proofs.lemmas.Result.{err_from_is_err_and}
use Rattle.std.proofs.lemmas.Bool.{false≢true}
use Rattle.shard_disk.specs.Directory.{Directory as Files}
use Rattle.shard_disk.specs.Directory.{HasFile}
use Rattle.gate_log.specs.declared.fault.LogFault.{LogFault}
use Rattle.gate_log.specs.declared.fault.LogFault.TheVariants.{Damaged}
use Rattle.gate_log.specs.Damage.{TellsOf, bodies}
use Rattle.gate_log.specs.Log.{FoundBy}
use Rattle.gate_log.specs.Records.{Spells}
use Rattle.manifest_log.proofs.BeginLemmas.{log_undamaged, no_bodies, no_records}
use Rattle.manifest_log.proofs.opening.go_on.Goals as goal

pub returns-in_err-log-clause-undamaged : goal.returns-in_err-log-clause-undamaged
returns-in_err-log-clause-undamaged g c = λ damage is tells.
    let p = err_from_is_err_and c.from_residual.result c.from_residual.ensures.1 in
    let told : c.in_err-log.field-0.0 ≡ Damaged damage = cc (p.1, p.2, is) in
    log_undamaged (g.D.Disk.files c.args.disk.now) damage (c.requires tells)
    (subst (λ (e : LogFault). HasFile (g.D.Disk.files c.args.disk.now) 0 (TellsOf e 0)) told (c.in_err-log.ensures.damaged tells))

pub returns-then-not-is_empty-clause-undamaged : goal.returns-then-not-is_empty-clause-undamaged
returns-then-not-is_empty-clause-undamaged g c = λ damage is tells.
    let read = c.in_ok-log.ensures.ok in
    let records = c.in_ok-log.records.items in
    let none : bodies records ≡ [] = no_records (g.D.Disk.files c.args.disk.now) c.in_ok-log.log.gate (bodies records) read.fit (c.requires tells)
    (subst (λ (f : Files). HasFile f 0 (Spells (bodies records) (FoundBy c.in_ok-log.log.gate))) c.read.ensures.files (read.found tells)) in
    false≢true (sym c.if-not-is_empty.true ∙ c.is_empty.ensures ∙ ap (λ n. n == 0) (c.in_ok-log.records.ok.0 ∙ no_bodies records none))
