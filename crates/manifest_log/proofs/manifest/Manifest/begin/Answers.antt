use Rattle.std.proofs.Common.{◌∷◌, [], ◌∙◌, sym, subst, ⊎_elim}
use Rattle.shard_disk.specs.Directory.{Directory as Files}
use Rattle.shard_disk.specs.Directory.{HasFile}
use Rattle.gate_log.specs.Damage.{IsLog}
use Rattle.gate_log.proofs.Results.{on_err}
use Rattle.manifest_log.proofs.LookLemmas.{none_there, same_then, same_then_made, stays}
use Rattle.manifest_log.proofs.BeginLemmas.{makes_none_same, makes_none_then, on_err_map}
use Rattle.manifest_log.proofs.manifest.Manifest.begin.Goals as goal

pub returns-in_err-look-clause-crash : goal.returns-in_err-look-clause-crash
returns-in_err-look-clause-crash g c = λ tells. stays 0 (0 ∷ []) _ _ c.look.ensures.crash

pub go_on-requires-after_bounds : goal.go_on-requires-after_bounds
go_on-requires-after_bounds g c κs within = λ tells.
    subst (λ (f : Files). HasFile f 0 (IsLog [])) (sym c.look.ensures.files)
    (⊎_elim (λ nothing. absurd (none_there (g.D.Disk.files c.args.disk.now) nothing (rw c.in-Manifest.is at c.in_ok-look.ensures.ok tells))) (λ log. log) (c.requires tells))

pub returns-in-Manifest-clause-refused : goal.returns-in-Manifest-clause-refused
returns-in-Manifest-clause-refused g c =
    on_err c.go_on.result
    (makes_none_same _ _ _ _ _ _ _ (c.go_on.ensures.files ∙ c.look.ensures.files) (same_then _ (g.D.Disk.crashes c.look.new.disk) _ c.look.ensures.crash c.go_on.ensures.crash) (c.go_on.ensures.handed_out ∙ c.look.ensures.handed_out))

pub returns-in-Manifest-clause-crash : goal.returns-in-Manifest-clause-crash
returns-in-Manifest-clause-crash g c = λ tells. stays 0 (0 ∷ []) _ _ (same_then _ (g.D.Disk.crashes c.look.new.disk) _ c.look.ensures.crash c.go_on.ensures.crash)

pub returns-in-Nothing-clause-refused : goal.returns-in-Nothing-clause-refused
returns-in-Nothing-clause-refused g c =
    on_err_map c.make.result
    (makes_none_then _ (g.D.Disk.files c.args.disk.now) (g.D.Disk.files c.look.new.disk) _ (g.D.Disk.crashes c.args.disk.now) (g.D.Disk.crashes c.look.new.disk) _ (g.D.Disk.handed_out c.args.disk.now) (g.D.Disk.handed_out c.look.new.disk) _
    c.look.ensures.files c.look.ensures.crash c.look.ensures.handed_out)
    c.make.ensures.refused

pub returns-in-Nothing-clause-crash : goal.returns-in-Nothing-clause-crash
returns-in-Nothing-clause-crash g c = λ tells.
    same_then_made 0 (0 ∷ []) _ (g.D.Disk.crashes c.look.new.disk) _ c.look.ensures.crash (c.make.ensures.crash tells)
