-- One segment more is read to its end.
use Rattle.std.proofs.Common.{◌≡◌, ◌∷◌, ◌∙◌, ℕ, suc, List, get_or, take, drop, Err, IsTrue, sym, ap, subst}
use Rattle.std.proofs.lemmas.Result.{err_from_is_err_and}
use Rattle.std.proofs.lemmas.List.{take_all}
use Rattle.std.specs.FinMap.{keys}
use Rattle.gate_log.specs.declared.fault.LogFault.{LogFault}
use Rattle.gate_log.specs.declared.fault.LogFault.TheVariants.{Damaged}
use Rattle.shard_disk.specs.Directory.{Directory}
use Rattle.wal_store.specs.Replay.{IsWrong}
use Rattle.wal_store.specs.Segments.{Segments}
use Rattle.wal_store.proofs.SegmentLemmas.{cut_behind, more_behind, same_then, wrong_in_first, wrong_in_next}
use Rattle.shard_recover.specs.Damage.{IsWrongLog}
use Rattle.shard_opening.specs.Filling.{FillsAll}
use Rattle.shard_opening.proofs.WholeLemmas.{AreFilled, bad_first, bad_next, fills_all, first_filled, more_filled, wrong_segment}
use Rattle.shard_opening.proofs.segments.fill_all.Goals as goal

pub returns-in_err-replay-clause-damaged : goal.returns-in_err-replay-clause-damaged
returns-in_err-replay-clause-damaged g c = λ damage is told.
    let p = err_from_is_err_and c.from_residual.result c.from_residual.ensures.1 in
    let same : c.in_err-replay.field-0.0 ≡ Damaged damage = cc (p.1, p.2, is) in
    subst (IsWrongLog damage c.args.floor (g.D.Disk.files c.args.disk.now)) (sym c.cut_first-first.ensures)
    (bad_first damage c.args.floor c.cut_first-first.result.0 c.cut_first-first.result.1.now (g.D.Disk.files c.args.disk.now) (c.in_err-replay.ensures.damaged damage (ap (λ (e : LogFault). Err e) same) told))

pub returns-in_err-fill-clause-damaged : goal.returns-in_err-fill-clause-damaged
returns-in_err-fill-clause-damaged g c = λ damage is told.
    let p = err_from_is_err_and c.from_residual-in_err-fill.result c.from_residual-in_err-fill.ensures.1 in
    let same : c.in_err-fill.field-0.0 ≡ Damaged damage = cc (p.1, p.2, is) in
    let strange = c.in_err-fill.ensures.strange damage (ap (λ (e : LogFault). Err e) same) in
    let opened = c.in_ok-replay.ensures.ok in
    wrong_segment damage c.args.floor (g.D.Disk.files c.args.disk.now) c.args.segments.now
    (subst (λ (f : Directory). IsWrong damage c.args.floor f c.args.segments.now) c.open_first.ensures.files
    (subst (IsWrong damage c.args.floor (g.D.Disk.files c.open_first.new.disk)) (sym c.cut_first-first.ensures)
    (wrong_in_first (IsTrue g.D.Disk.tells) told damage c.args.floor c.cut_first-first.result.0 c.cut_first-first.result.1.now c.in_ok-replay.replay (g.D.Disk.files c.open_first.new.disk) (g.D.Disk.crashes c.args.disk.now) (g.D.Disk.crashes c.open_first.new.disk)
    c.requires.may.1 opened.0 opened.1 strange)))

pub loop-file-init : goal.loop-file-init
loop-file-init g c =
    let opened = c.in_ok-replay.ensures.ok in
    let filled = c.in_ok-fill.ensures.filled in
    record {
      all = first_filled (IsTrue g.D.Disk.tells) c.args.series.now.keys c.args.floor c.cut_first-first.result.0 c.in_ok-replay.replay c.fill.new.replay c.args.filling.now c.fill.new.filling
          (g.D.Disk.files c.open_first.new.disk) (g.D.Disk.crashes c.args.disk.now) (g.D.Disk.crashes c.open_first.new.disk) c.requires.may.1 c.requires.none.0 c.requires.none.1 opened.0 opened.1 filled.0 filled.1;
      files = c.open_first.ensures.files;
      crash = c.open_first.ensures.crash;
      handed_out = c.open_first.ensures.handed_out;
      health = c.in_ok-replay.ensures.fault.quiet (λ e. cc e);
    }

pub open_next-requires-clause-over : goal.open_next-requires-clause-over
open_next-requires-clause-over g c κs within = c.loop-file.invariant.all.all.none

pub open_next-requires-clause-numbers : goal.open_next-requires-clause-numbers
open_next-requires-clause-numbers g c κs within = λ told. c.requires.numbers told ∙ ap keys (sym c.loop-file.invariant.files)

pub returns-in_err-open_next-clause-damaged : goal.returns-in_err-open_next-clause-damaged
returns-in_err-open_next-clause-damaged g c = λ damage is told.
    let p = err_from_is_err_and c.from_residual-in_err-open_next.result c.from_residual-in_err-open_next.ensures.1 in
    let same : c.in_err-open_next.field-0.0 ≡ Damaged damage = cc (p.1, p.2, is) in
    let others = c.cut_first-first.result.1.now in
    let k = c.loop-file.file-index in
    let files = g.D.Disk.files c.loop-file.disk in
    let all = c.loop-file.invariant.all in
    subst (λ (f : Directory). IsWrongLog damage c.args.floor f c.args.segments.now) c.loop-file.invariant.files
    (subst (IsWrongLog damage c.args.floor files) (cut_behind c.cut_first-first.result.0 c.args.segments.now others k 0 c.cut_first-first.ensures c.loop-file-test.true)
    (bad_next (IsTrue g.D.Disk.tells) told damage c.args.floor (get_or others k 0) (c.cut_first-first.result.0 ∷ take k others) (drop (suc k) others) c.loop-file.replay all.entries files (g.D.Disk.crashes c.args.disk.now) (g.D.Disk.crashes c.loop-file.disk)
    (c.in_err-open_next.ensures.damaged damage (ap (λ (e : LogFault). Err e) same) told) all.all))

pub returns-in_err-open_next-clause-crash : goal.returns-in_err-open_next-clause-crash
returns-in_err-open_next-clause-crash g c = same_then _ _ _ c.loop-file.invariant.crash c.open_next.ensures.crash

pub returns-in_err-fill-2-clause-damaged : goal.returns-in_err-fill-2-clause-damaged
returns-in_err-fill-2-clause-damaged g c = λ damage is told.
    let p = err_from_is_err_and c.from_residual-in_err-fill-2.result c.from_residual-in_err-fill-2.ensures.1 in
    let same : c.in_err-fill-2.field-0.0 ≡ Damaged damage = cc (p.1, p.2, is) in
    let strange = c.in_err-fill-2.ensures.strange damage (ap (λ (e : LogFault). Err e) same) in
    let others = c.cut_first-first.result.1.now in
    let k = c.loop-file.file-index in
    let opened = c.in_ok-open_next.ensures.ok in
    let all = c.loop-file.invariant.all in
    wrong_segment damage c.args.floor (g.D.Disk.files c.args.disk.now) c.args.segments.now
    (subst (λ (f : Directory). IsWrong damage c.args.floor f c.args.segments.now) (c.open_next.ensures.files ∙ c.loop-file.invariant.files)
    (subst (IsWrong damage c.args.floor (g.D.Disk.files c.open_next.new.disk)) (cut_behind c.cut_first-first.result.0 c.args.segments.now others k 0 c.cut_first-first.ensures c.loop-file-test.true)
    (wrong_in_next (IsTrue g.D.Disk.tells) told damage c.args.floor (get_or others k 0) (c.cut_first-first.result.0 ∷ take k others) (drop (suc k) others) c.loop-file.replay c.open_next.new.replay all.entries
    (g.D.Disk.files c.loop-file.disk) (g.D.Disk.files c.open_next.new.disk) (g.D.Disk.crashes c.args.disk.now) (g.D.Disk.crashes c.loop-file.disk) (g.D.Disk.crashes c.open_next.new.disk)
    c.open_next.ensures.files c.loop-file.invariant.crash c.open_next.ensures.crash opened.0 opened.1 strange all.all)))

pub returns-in_err-fill-2-clause-crash : goal.returns-in_err-fill-2-clause-crash
returns-in_err-fill-2-clause-crash g c = same_then _ _ _ c.loop-file.invariant.crash c.open_next.ensures.crash

pub loop-file-preserved : goal.loop-file-preserved
loop-file-preserved g c =
    let others = c.cut_first-first.result.1.now in
    let k = c.loop-file.file-index in
    let opened = c.in_ok-open_next.ensures.ok in
    let filled = c.in_ok-fill-2.ensures.filled in
    record {
      all = subst (λ (s : List ℕ). AreFilled (IsTrue g.D.Disk.tells) c.args.series.now.keys c.args.floor s c.fill-in-loop-file.new.replay c.fill-in-loop-file.new.filling (g.D.Disk.files c.open_next.new.disk) (g.D.Disk.crashes c.args.disk.now) (g.D.Disk.crashes c.open_next.new.disk))
          (more_behind c.cut_first-first.result.0 others k 0 c.loop-file-test.true)
          (more_filled (IsTrue g.D.Disk.tells) c.args.series.now.keys c.args.floor (get_or others k 0) (c.cut_first-first.result.0 ∷ take k others) c.loop-file.replay c.open_next.new.replay c.fill-in-loop-file.new.replay c.loop-file.filling c.fill-in-loop-file.new.filling
          (g.D.Disk.files c.loop-file.disk) (g.D.Disk.files c.open_next.new.disk) (g.D.Disk.crashes c.args.disk.now) (g.D.Disk.crashes c.loop-file.disk) (g.D.Disk.crashes c.open_next.new.disk)
          c.open_next.ensures.files c.loop-file.invariant.crash c.open_next.ensures.crash opened.0 opened.1 filled.0 filled.1 c.loop-file.invariant.all);
      files = c.open_next.ensures.files ∙ c.loop-file.invariant.files;
      crash = same_then _ _ _ c.loop-file.invariant.crash c.open_next.ensures.crash;
      handed_out = c.open_next.ensures.handed_out ∙ c.loop-file.invariant.handed_out;
      health = c.in_ok-open_next.ensures.fault.quiet (λ e. cc e) ∙ c.loop-file.invariant.health;
    }

pub returns-clause-filled : goal.returns-clause-filled
returns-clause-filled g c =
    let tells = IsTrue g.D.Disk.tells in
    let others = c.cut_first-first.result.1.now in
    let files = g.D.Disk.files c.loop-file.disk in
    let crashes = g.D.Disk.crashes c.args.disk.now in
    let crashes' = g.D.Disk.crashes c.loop-file.disk in
    let all = c.loop-file.invariant.all in
    subst (λ (w : Segments). FillsAll tells c.args.series.now.keys c.args.floor c.args.segments.now w c.loop-file.filling files crashes crashes') (sym c.into_wal.ensures)
    (subst (λ (s : List ℕ). FillsAll tells c.args.series.now.keys c.args.floor s c.loop-file.replay.wal c.loop-file.filling files crashes crashes')
    (ap (λ (l : List ℕ). c.cut_first-first.result.0 ∷ l) (take_all c.loop-file.file-index others c.loop-file-test.false) ∙ sym c.cut_first-first.ensures)
    (fills_all tells c.args.series.now.keys c.args.floor (c.cut_first-first.result.0 ∷ take c.loop-file.file-index others) c.loop-file.replay c.loop-file.filling files crashes crashes' all))
