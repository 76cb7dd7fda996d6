use Rattle.std.proofs.Common.{ℕ, ◌∷◌, ◌∙◌, List, ap, sym, subst}
use Rattle.std.specs.FinMap.{keys}
use Rattle.manifest_log.specs.Edits.{names}
use Rattle.shard_recover.specs.Opening.{HasOnly, Removes}
use Rattle.shard_recover.proofs.CauseLemmas.{on_ok_then}
use Rattle.shard_recover.proofs.SweepLemmas.{removes_none, removes_same, removes_then}
use Rattle.shard_recover.proofs.joining.remove_unnamed.Goals as goal

pub returns-in_err-keep-clause-removes : goal.returns-in_err-keep-clause-removes
returns-in_err-keep-clause-removes g c =
    let laws = g.met.D.Disk g.world.𝓛 g.world.𝓜 g.world.𝓡 ((λ s x. x), (λ x. x), (λ x. x), (λ x. x)) in
    removes_none g.D.Disk (0 ∷ names c.args.named.now) c.args.disk.now (laws.only_now c.args.disk.now)

pub returns-in_err-numbers-clause-removes : goal.returns-in_err-numbers-clause-removes
returns-in_err-numbers-clause-removes g c = removes_same g.D.Disk (0 ∷ names c.args.named.now) c.args.disk.now c.list.new.disk c.list.ensures.files c.list.ensures.crash c.list.ensures.handed_out

pub returns-clause-removes : goal.returns-clause-removes
returns-clause-removes g c =
    removes_then g.D.Disk (0 ∷ names c.args.named.now) c.args.disk.now c.list.new.disk c.sweep.new.disk
    (removes_same g.D.Disk (0 ∷ names c.args.named.now) c.args.disk.now c.list.new.disk c.list.ensures.files c.list.ensures.crash c.list.ensures.handed_out)
    (subst (λ (l : List ℕ). Removes g.D.Disk l c.list.new.disk c.sweep.new.disk) (c.deref-2.ensures.value ∙ c.in_ok-keep.ensures) c.sweep.ensures.removes)

pub returns-clause-gone : goal.returns-clause-gone
returns-clause-gone g c =
    on_ok_then c.sweep.result
    (λ only told. subst (λ (l : List ℕ). HasOnly l (g.D.Disk.files c.sweep.new.disk)) (c.deref-2.ensures.value ∙ c.in_ok-keep.ensures) (only told (c.deref.ensures.value ∙ c.in_ok-numbers.ensures.ok told ∙ ap keys (sym c.list.ensures.files))))
    c.sweep.ensures.gone
