-- All that is named is read, and the entries are taken.
use Rattle.std.proofs.Common.{◌≡◌, ◌∙◌, refl, sym, ap, subst, Err, IsTrue, List, ℕ}
use Rattle.std.proofs.lemmas.Result.{err_from_is_err_and}
use Rattle.shard_disk.specs.declared.damage.Damage.{Damage}
use Rattle.shard_disk.specs.declared.damage.Why.TheVariants.{Body}
use Rattle.gate_log.specs.declared.fault.LogFault.{LogFault}
use Rattle.gate_log.specs.declared.fault.LogFault.TheVariants.{Damaged}
use Rattle.manifest_log.proofs.FollowLemmas.{if_some_at}
use Rattle.shard_recover.specs.Damage.{IsWrongLog}
use Rattle.shard_recover.proofs.FileLemmas.{same_then}
use Rattle.shard_opening.proofs.ReadLemmas.{entry_refused, log_wrong, manifest_is, read_opens, read_ready, read_stands}
use Rattle.shard_opening.proofs.opening.read_all.Goals as goal

pub returns-in_err-wal-clause-damaged : goal.returns-in_err-wal-clause-damaged
returns-in_err-wal-clause-damaged g c = λ damage is told.
    let p = err_from_is_err_and c.from_residual-in_err-wal.result c.from_residual-in_err-wal.ensures.1 in
    let same : c.in_err-wal.field-0.0 ≡ Damaged damage = cc (p.1, p.2, is) in
    let begun = c.in-Some.begun in
    let found = if_some_at _ c.in_ok-begun.field-0 c.in-Some.begun c.in-Some.is c.in_ok-begun.ensures.found in
    log_wrong g.D.Disk c.args.disk.now c.begin.new.disk begun found damage told c.begin.ensures.files
    (subst (λ (l : List ℕ). IsWrongLog damage begun.named.floor (g.D.Disk.files c.begin.new.disk) l) c.as_slice-segments.ensures (c.in_err-wal.ensures.damaged damage (ap (λ (e : LogFault). Err e) same) told))

pub returns-in_err-wal-clause-crash : goal.returns-in_err-wal-clause-crash
returns-in_err-wal-clause-crash g c = same_then _ (g.D.Disk.crashes c.begin.new.disk) _ c.begin.ensures.crash c.fill_all.ensures.crash

pub returns-in_err-all_taken-clause-damaged : goal.returns-in_err-all_taken-clause-damaged
returns-in_err-all_taken-clause-damaged g c = λ damage is told.
    let p = err_from_is_err_and c.from_residual-in_err-all_taken.result c.from_residual-in_err-all_taken.ensures.1 in
    let same : c.in_err-all_taken.field-0.0 ≡ Damaged damage = cc (p.1, p.2, is) in
    let refused = c.in_err-all_taken.ensures.refused c.in_err-all_taken.field-0.0 refl in
    let place = refused.0 in
    let is_there : damage ≡ record { file = place.file; offset = place.offset; why = Body } = cc (same, refused.2) in
    let begun = c.in-Some.begun in
    let found = if_some_at _ c.in_ok-begun.field-0 c.in-Some.begun c.in-Some.is c.in_ok-begun.ensures.found in
    entry_refused g.D.Disk c.args.disk.now c.begin.new.disk begun found c.args.alloc c.fill_all.new.disk c.in_ok-wal.wal c.fill_all.new.filling c.begin.ensures.files c.fill_all.ensures.files c.begin.ensures.crash c.fill_all.ensures.crash c.as_slice-segments.result.now c.as_slice-segments.ensures c.in_ok-wal.ensures.filled place damage refused.1 is_there told

pub returns-in_err-all_taken-clause-crash : goal.returns-in_err-all_taken-clause-crash
returns-in_err-all_taken-clause-crash g c = same_then _ (g.D.Disk.crashes c.begin.new.disk) _ c.begin.ensures.crash c.fill_all.ensures.crash

pub returns-clause-opens : goal.returns-clause-opens
returns-clause-opens g c =
    let laws = g.met.D.Disk g.world.𝓛 g.world.𝓜 g.world.𝓡 ((λ s x. x), (λ x. x), (λ x. x), (λ x. x)) in
    let begun = c.in-Some.begun in
    let found = if_some_at _ c.in_ok-begun.field-0 c.in-Some.begun c.in-Some.is c.in_ok-begun.ensures.found in
    λ told state sound.
    read_opens g.D.Disk c.args.disk.now c.begin.new.disk begun found c.args.alloc c.fill_all.new.disk c.in_ok-wal.wal c.fill_all.new.filling c.begin.ensures.files c.fill_all.ensures.files c.begin.ensures.crash c.fill_all.ensures.crash c.as_slice-segments.result.now c.as_slice-segments.ensures c.in_ok-wal.ensures.filled
    (laws.keeps_adopted c.args.disk.now told) (c.fill_all.ensures.handed_out ∙ c.begin.ensures.handed_out) told state sound

pub returns-clause-stood : goal.returns-clause-stood
returns-clause-stood g c =
    let begun = c.in-Some.begun in
    let found = if_some_at _ c.in_ok-begun.field-0 c.in-Some.begun c.in-Some.is c.in_ok-begun.ensures.found in
    read_stands g.D.Disk c.args.disk.now c.begin.new.disk begun found c.args.alloc c.fill_all.new.disk c.in_ok-wal.wal c.fill_all.new.filling c.begin.ensures.files c.fill_all.ensures.files c.begin.ensures.crash c.fill_all.ensures.crash c.as_slice-segments.result.now c.as_slice-segments.ensures c.in_ok-wal.ensures.filled
    c.in_ok-all_taken.ensures.ok

pub returns-clause-manifest : goal.returns-clause-manifest
returns-clause-manifest g c =
    let found = if_some_at _ c.in_ok-begun.field-0 c.in-Some.begun c.in-Some.is c.in_ok-begun.ensures.found in
    manifest_is g.D.Disk c.args.disk.now c.begin.new.disk c.in-Some.begun found

pub returns-clause-ready : goal.returns-clause-ready
returns-clause-ready g c =
    let begun = c.in-Some.begun in
    let found = if_some_at _ c.in_ok-begun.field-0 c.in-Some.begun c.in-Some.is c.in_ok-begun.ensures.found in
    read_ready g.D.Disk c.args.disk.now c.begin.new.disk begun found c.args.alloc c.fill_all.new.disk c.in_ok-wal.wal c.fill_all.new.filling c.begin.ensures.files c.fill_all.ensures.files c.begin.ensures.crash c.fill_all.ensures.crash c.as_slice-segments.result.now c.as_slice-segments.ensures c.in_ok-wal.ensures.filled

pub returns-clause-crash : goal.returns-clause-crash
returns-clause-crash g c = same_then _ (g.D.Disk.crashes c.begin.new.disk) _ c.begin.ensures.crash c.fill_all.ensures.crash
