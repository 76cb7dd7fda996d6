use Rattle.std.proofs.Common.{◌≡◌, ap, subst, ℕ, List, [], Vec, Err}
use Rattle.std.proofs.lemmas.Result.{err_from_is_err_and}
use Rattle.std.specs.declared.alloc.Global.{Global}
use Rattle.shard_disk.specs.Directory.{Directory as Files}
use Rattle.shard_disk.specs.Directory.{HasFile}
use Rattle.gate_log.specs.declared.fault.LogFault.{LogFault}
use Rattle.gate_log.specs.declared.fault.LogFault.TheVariants.{Damaged}
use Rattle.gate_log.specs.Damage.{bodies}
use Rattle.series_store.specs.Reading.{IsWrong, StandsBehind}
use Rattle.series_store.proofs.HoldLemmas.{hold_sound, list_none}
use Rattle.series_store.proofs.OnceLemmas.{strange_file}
use Rattle.series_store.proofs.series.Series.read.Goals as goal

pub returns-in_err-keys-clause-damaged : goal.returns-in_err-keys-clause-damaged
returns-in_err-keys-clause-damaged g c = λ damage is tells.
    let p = err_from_is_err_and c.from_residual-in_err-keys.result c.from_residual-in_err-keys.ensures.1 in
    let told : c.in_err-keys.field-0.0 ≡ Damaged damage = cc (p.1, p.2, is) in
    let read = c.in_ok-log.ensures.ok in
    let strange = c.in_err-keys.ensures.strange damage (ap (λ (e : LogFault). Err e) told) in
    let behind = subst (λ (l : List (Vec ℕ Global)). StandsBehind damage c.args.no (bodies l)) c.deref.ensures.value strange in
    subst (λ (f : Files). HasFile f c.args.no (IsWrong c.args.no damage)) c.read.ensures.files
    (strange_file damage c.args.no c.in_ok-log.log.gate (bodies c.in_ok-log.records.items) (g.D.Disk.files c.read.new.disk) read.fit (read.found tells) behind)

pub invariant_of-result : goal.invariant_of-result
invariant_of-result g c = hold_sound _ [] _ list_none c.in_ok-keys.ensures.found
