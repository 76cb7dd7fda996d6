use Rattle.std.proofs.Common.{◌≡◌, ◌∷◌, ◌∙◌, ℕ, suc, List, get_or, take, drop, Err, IsTrue, sym, ap, subst}
use Rattle.std.proofs.lemmas.Result.{err_from_is_err_and}
use Rattle.gate_log.specs.Damage.{TellsOf}
use Rattle.gate_log.specs.declared.fault.LogFault.{LogFault}
use Rattle.gate_log.specs.declared.fault.LogFault.TheVariants.{Damaged}
use Rattle.shard_disk.specs.Directory.{Directory, HasFile, IsPresent}
use Rattle.wal_store.specs.Replay.{IsWrong}
use Rattle.wal_store.proofs.SegmentLemmas.{AreWhole, cut_behind, first_whole, more_behind, more_whole, same_then, so_behind, wrong_in_first, wrong_in_next, wrong_log}
use Rattle.wal_store.proofs.wal.Wal.replay.Goals as goal

pub returns-in_err-take_entries-clause-damaged : goal.returns-in_err-take_entries-clause-damaged
returns-in_err-take_entries-clause-damaged g c = λ damage is tells.
    let p = err_from_is_err_and c.from_residual-in_err-take_entries.result c.from_residual-in_err-take_entries.ensures.1 in
    let told : c.in_err-take_entries.field-0.0 ≡ Damaged damage = cc (p.1, p.2, is) in
    let strange = c.in_err-take_entries.ensures.strange damage (ap (λ (e : LogFault). Err e) told) in
    let opened = c.in_ok-replay.ensures.ok in
    subst (λ (f : Directory). IsWrong damage c.args.floor f c.args.segments.now) c.open.ensures.files
    (subst (IsWrong damage c.args.floor (g.D.Disk.files c.open.new.disk)) (sym c.cut_first-first.ensures)
    (wrong_in_first (IsTrue g.D.Disk.tells) tells damage c.args.floor c.cut_first-first.result.0 c.cut_first-first.result.1.now c.in_ok-replay.replay (g.D.Disk.files c.open.new.disk) (g.D.Disk.crashes c.args.disk.now) (g.D.Disk.crashes c.open.new.disk)
    c.requires.may.1 opened.0 opened.1 strange))

pub loop-file-init : goal.loop-file-init
loop-file-init g c =
    let opened = c.in_ok-replay.ensures.ok in
    record {
      all = first_whole (IsTrue g.D.Disk.tells) c.args.floor c.cut_first-first.result.0 c.in_ok-replay.replay c.take_entries.new.replay c.new-entries.result.items c.take_entries.new.entries.items
          (g.D.Disk.files c.open.new.disk) (g.D.Disk.crashes c.args.disk.now) (g.D.Disk.crashes c.open.new.disk) c.requires.may.1 c.new-entries.ensures.items opened.0 opened.1 c.in_ok-take_entries.ensures.taken;
      files = c.open.ensures.files;
      crash = c.open.ensures.crash;
      handed_out = c.open.ensures.handed_out;
      health = c.in_ok-replay.ensures.fault.quiet (λ e. cc e);
    }

pub go_on-requires-clause-present : goal.go_on-requires-clause-present
go_on-requires-clause-present g c κs within = λ tells.
    subst (λ (f : Directory). IsPresent f (get_or c.cut_first-first.result.1.now c.loop-file.file-index 0)) (sym c.loop-file.invariant.files)
    (so_behind (IsPresent (g.D.Disk.files c.args.disk.now)) c.cut_first-first.result.0 c.args.segments.now c.cut_first-first.result.1.now c.loop-file.file-index 0 c.cut_first-first.ensures c.loop-file-test.true (c.requires.present tells))

pub go_on-requires-clause-read : goal.go_on-requires-clause-read
go_on-requires-clause-read g c κs within = c.loop-file.invariant.all.none

pub returns-in_err-go_on-clause-damaged : goal.returns-in_err-go_on-clause-damaged
returns-in_err-go_on-clause-damaged g c = λ damage is tells.
    let p = err_from_is_err_and c.from_residual-in_err-go_on.result c.from_residual-in_err-go_on.ensures.1 in
    let told : c.in_err-go_on.field-0.0 ≡ Damaged damage = cc (p.1, p.2, is) in
    let others = c.cut_first-first.result.1.now in
    let k = c.loop-file.file-index in
    let file = get_or others k 0 in
    let files = g.D.Disk.files c.loop-file.disk in
    let bad : HasFile files file (TellsOf (Damaged damage) file) = subst (λ (e : LogFault). HasFile files file (TellsOf e file)) told (c.in_err-go_on.ensures.damaged tells) in
    subst (λ (f : Directory). IsWrong damage c.args.floor f c.args.segments.now) c.loop-file.invariant.files
    (subst (IsWrong damage c.args.floor files) (cut_behind c.cut_first-first.result.0 c.args.segments.now others k 0 c.cut_first-first.ensures c.loop-file-test.true)
    (wrong_log (IsTrue g.D.Disk.tells) tells damage c.args.floor file (c.cut_first-first.result.0 ∷ take k others) (drop (suc k) others) c.loop-file.replay c.loop-file.entries.items files (g.D.Disk.crashes c.args.disk.now) (g.D.Disk.crashes c.loop-file.disk)
    bad c.loop-file.invariant.all))

pub returns-in_err-go_on-clause-crash : goal.returns-in_err-go_on-clause-crash
returns-in_err-go_on-clause-crash g c = same_then _ _ _ c.loop-file.invariant.crash c.go_on.ensures.crash

pub returns-in_err-take_entries-2-clause-damaged : goal.returns-in_err-take_entries-2-clause-damaged
returns-in_err-take_entries-2-clause-damaged g c = λ damage is tells.
    let p = err_from_is_err_and c.from_residual-in_err-take_entries-2.result c.from_residual-in_err-take_entries-2.ensures.1 in
    let told : c.in_err-take_entries-2.field-0.0 ≡ Damaged damage = cc (p.1, p.2, is) in
    let strange = c.in_err-take_entries-2.ensures.strange damage (ap (λ (e : LogFault). Err e) told) in
    let others = c.cut_first-first.result.1.now in
    let k = c.loop-file.file-index in
    let opened = c.in_ok-go_on.ensures.ok in
    subst (λ (f : Directory). IsWrong damage c.args.floor f c.args.segments.now) (c.go_on.ensures.files ∙ c.loop-file.invariant.files)
    (subst (IsWrong damage c.args.floor (g.D.Disk.files c.go_on.new.disk)) (cut_behind c.cut_first-first.result.0 c.args.segments.now others k 0 c.cut_first-first.ensures c.loop-file-test.true)
    (wrong_in_next (IsTrue g.D.Disk.tells) tells damage c.args.floor (get_or others k 0) (c.cut_first-first.result.0 ∷ take k others) (drop (suc k) others) c.loop-file.replay c.go_on.new.self c.loop-file.entries.items
    (g.D.Disk.files c.loop-file.disk) (g.D.Disk.files c.go_on.new.disk) (g.D.Disk.crashes c.args.disk.now) (g.D.Disk.crashes c.loop-file.disk) (g.D.Disk.crashes c.go_on.new.disk)
    c.go_on.ensures.files c.loop-file.invariant.crash c.go_on.ensures.crash opened.0 opened.1 strange c.loop-file.invariant.all))

pub returns-in_err-take_entries-2-clause-crash : goal.returns-in_err-take_entries-2-clause-crash
returns-in_err-take_entries-2-clause-crash g c = same_then _ _ _ c.loop-file.invariant.crash c.go_on.ensures.crash

pub loop-file-preserved : goal.loop-file-preserved
loop-file-preserved g c =
    let others = c.cut_first-first.result.1.now in
    let k = c.loop-file.file-index in
    let opened = c.in_ok-go_on.ensures.ok in
    record {
      all = subst (λ (s : List ℕ). AreWhole (IsTrue g.D.Disk.tells) c.args.floor s c.take_entries-in-loop-file.new.replay c.take_entries-in-loop-file.new.entries.items (g.D.Disk.files c.go_on.new.disk) (g.D.Disk.crashes c.args.disk.now) (g.D.Disk.crashes c.go_on.new.disk))
          (more_behind c.cut_first-first.result.0 others k 0 c.loop-file-test.true)
          (more_whole (IsTrue g.D.Disk.tells) c.args.floor (get_or others k 0) (c.cut_first-first.result.0 ∷ take k others) c.loop-file.replay c.go_on.new.self c.take_entries-in-loop-file.new.replay c.loop-file.entries.items c.take_entries-in-loop-file.new.entries.items
          (g.D.Disk.files c.loop-file.disk) (g.D.Disk.files c.go_on.new.disk) (g.D.Disk.crashes c.args.disk.now) (g.D.Disk.crashes c.loop-file.disk) (g.D.Disk.crashes c.go_on.new.disk)
          c.go_on.ensures.files c.loop-file.invariant.crash c.go_on.ensures.crash opened.0 opened.1 c.in_ok-take_entries-2.ensures.taken c.loop-file.invariant.all);
      files = c.go_on.ensures.files ∙ c.loop-file.invariant.files;
      crash = same_then _ _ _ c.loop-file.invariant.crash c.go_on.ensures.crash;
      handed_out = c.go_on.ensures.handed_out ∙ c.loop-file.invariant.handed_out;
      health = c.in_ok-go_on.ensures.fault.quiet (λ e. cc e) ∙ c.loop-file.invariant.health;
    }
