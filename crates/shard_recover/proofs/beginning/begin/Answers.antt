-- The manifest and the series file are read, or one of them is wrong.
use Rattle.std.proofs.Common.{◌≡◌, ◌∙◌, inl, inr, refl, sym, ap, subst, Err, IsTrue}
use Rattle.std.proofs.lemmas.Bool.{false≢true}
use Rattle.std.proofs.lemmas.Result.{err_from_is_err_and}
use Rattle.std.specs.FinMap.{keys}
use Rattle.shard_disk.specs.Directory.{Directory as Files}
use Rattle.shard_disk.specs.Directory.{HasFile}
use Rattle.shard_disk.specs.declared.damage.Damage.{Damage}
use Rattle.shard_disk.specs.declared.damage.Why.TheVariants.{Missing}
use Rattle.gate_log.specs.declared.fault.LogFault.{LogFault}
use Rattle.gate_log.specs.declared.fault.LogFault.TheVariants.{Damaged}
use Rattle.manifest_log.proofs.FollowLemmas.{if_some_at}
use Rattle.series_store.specs.Calls.{Finds}
use Rattle.series_store.specs.Reading.{IsWrong}
use Rattle.shard_recover.specs.Damage.{HasNoForm}
use Rattle.shard_recover.proofs.FileLemmas.{same_then}
use Rattle.shard_recover.proofs.OpeningLemmas.{named_then, series_since}
use Rattle.shard_recover.proofs.ReadLemmas.{found_manifest}
use Rattle.shard_recover.proofs.beginning.begin.Goals as goal

pub returns-in_err-file-clause-damaged : goal.returns-in_err-file-clause-damaged
returns-in_err-file-clause-damaged g c = λ damage is told.
    let p = err_from_is_err_and c.from_residual-in_err-file.result c.from_residual-in_err-file.ensures.1 in
    let none = c.in_err-file.ensures.no_form c.in_err-file.field-0.0 refl in
    let same : none.0 ≡ damage = cc (p.1, p.2, is, none.1) in
    let found = if_some_at _ c.in_ok-manifest.field-0 (c.in-Some.manifest, c.in-Some.named) c.in-Some.is c.in_ok-manifest.ensures.found in
    let manifest = found_manifest (IsTrue g.D.Disk.tells) told c.in-Some.manifest c.in-Some.named (g.D.Disk.files c.args.disk.now) (g.D.Disk.crashes c.args.disk.now) (g.D.Disk.crashes c.read.new.disk) found in
    inr (c.in-Some.named, manifest, inl (subst (λ (d : Damage). HasNoForm d c.in-Some.named) same none.2))

pub returns-in_err-numbers-clause-crash : goal.returns-in_err-numbers-clause-crash
returns-in_err-numbers-clause-crash g c = same_then _ (g.D.Disk.crashes c.read.new.disk) _ c.read.ensures.crash c.list.ensures.crash

pub returns-then-not-is_there-clause-damaged : goal.returns-then-not-is_there-clause-damaged
returns-then-not-is_there-clause-damaged g c = λ damage is told.
    let same : damage ≡ record { file = c.in_ok-file.file; offset = 0; why = Missing } = cc (c.missing.ensures, is) in
    let found = if_some_at _ c.in_ok-manifest.field-0 (c.in-Some.manifest, c.in-Some.named) c.in-Some.is c.in_ok-manifest.ensures.found in
    let manifest = found_manifest (IsTrue g.D.Disk.tells) told c.in-Some.manifest c.in-Some.named (g.D.Disk.files c.args.disk.now) (g.D.Disk.crashes c.args.disk.now) (g.D.Disk.crashes c.read.new.disk) found in
    let form = c.in_ok-file.ensures.is in
    let numbers = c.deref.ensures.value ∙ c.in_ok-numbers.ensures.ok told ∙ ap keys c.read.ensures.files in
    inr (
      c.in-Some.named,
      manifest,
      inr (
        c.in_ok-file.file,
        form.0,
        form.1,
        inl (record {
          gone = c.is_there.ensures.missing (λ yes. false≢true (sym c.if-not-is_there.true ∙ yes)) (g.D.Disk.files c.args.disk.now) numbers;
          told = same;
        }),
      ),
    )

pub returns-then-not-is_there-clause-crash : goal.returns-then-not-is_there-clause-crash
returns-then-not-is_there-clause-crash g c = same_then _ (g.D.Disk.crashes c.read.new.disk) _ c.read.ensures.crash c.list.ensures.crash

pub returns-in_err-series-clause-damaged : goal.returns-in_err-series-clause-damaged
returns-in_err-series-clause-damaged g c = λ damage is told.
    let p = err_from_is_err_and c.from_residual-in_err-series.result c.from_residual-in_err-series.ensures.1 in
    let same : c.in_err-series.field-0.0 ≡ Damaged damage = cc (p.1, p.2, is) in
    let found = if_some_at _ c.in_ok-manifest.field-0 (c.in-Some.manifest, c.in-Some.named) c.in-Some.is c.in_ok-manifest.ensures.found in
    let manifest = found_manifest (IsTrue g.D.Disk.tells) told c.in-Some.manifest c.in-Some.named (g.D.Disk.files c.args.disk.now) (g.D.Disk.crashes c.args.disk.now) (g.D.Disk.crashes c.read.new.disk) found in
    let form = c.in_ok-file.ensures.is in
    let wrong = subst (λ (f : Files). HasFile f c.in_ok-file.file (IsWrong c.in_ok-file.file damage)) (c.list.ensures.files ∙ c.read.ensures.files) (c.in_err-series.ensures.damaged damage (ap (λ (e : LogFault). Err e) same) told) in
    inr (c.in-Some.named, manifest, inr (c.in_ok-file.file, form.0, form.1, inr (inl wrong)))

pub returns-in_err-series-clause-crash : goal.returns-in_err-series-clause-crash
returns-in_err-series-clause-crash g c = same_then _ (g.D.Disk.crashes c.list.new.disk) _ (same_then _ (g.D.Disk.crashes c.read.new.disk) _ c.read.ensures.crash c.list.ensures.crash) c.read-2.ensures.crash

pub returns-clause-found : goal.returns-clause-found
returns-clause-found g c =
    let tells = IsTrue g.D.Disk.tells in
    let found = if_some_at _ c.in_ok-manifest.field-0 (c.in-Some.manifest, c.in-Some.named) c.in-Some.is c.in_ok-manifest.ensures.found in
    let form = c.in_ok-file.ensures.is in
    let files = g.D.Disk.files c.args.disk.now in
    let c0 = g.D.Disk.crashes c.args.disk.now in
    let c1 = g.D.Disk.crashes c.read.new.disk in
    let c2 = g.D.Disk.crashes c.list.new.disk in
    let c3 = g.D.Disk.crashes c.read-2.new.disk in
    record {
      manifest = named_then tells c.in-Some.manifest c.in-Some.named files c0 c1 c3 (same_then c1 c2 c3 c.list.ensures.crash c.read-2.ensures.crash) found;
      no_files = form.1;
      file = c.in_ok-file.file;
      is = form.0;
      series = series_since tells c.in_ok-file.file c.in_ok-series.series files c0 c2 c3 (same_then c0 c1 c2 c.read.ensures.crash c.list.ensures.crash)
          (subst (λ (f : Files). Finds tells c.in_ok-file.file c.in_ok-series.series f c2 c3) (c.read-2.ensures.files ∙ c.list.ensures.files ∙ c.read.ensures.files) c.in_ok-series.ensures.found);
      numbers = λ told. c.in_ok-numbers.ensures.ok told ∙ ap keys c.read.ensures.files;
    }

pub returns-clause-crash : goal.returns-clause-crash
returns-clause-crash g c = same_then _ (g.D.Disk.crashes c.list.new.disk) _ (same_then _ (g.D.Disk.crashes c.read.new.disk) _ c.read.ensures.crash c.list.ensures.crash) c.read-2.ensures.crash
