use Rattle.std.proofs.Common.{inl, refl, sym, ◌∙◌}
use Rattle.shard_disk.specs.Directory.{Anything, MadeOrNot, Vanishes}
use Rattle.shard_recover.proofs.SweepLemmas.{any_kept, leaves_gone, leaves_kept, removes_none, removes_one}
use Rattle.shard_recover.proofs.sweep.remove_other.Goals as goal

pub returns-then-contains-clause-removes : goal.returns-then-contains-clause-removes
returns-then-contains-clause-removes g c =
    let laws = g.met.D.Disk g.world.𝓛 g.world.𝓜 g.world.𝓡 ((λ s x. x), (λ x. x), (λ x. x), (λ x. x)) in
    removes_none g.D.Disk c.args.keep.now c.args.disk.now (laws.only_now c.args.disk.now)

pub returns-in_err-remove-clause-removes : goal.returns-in_err-remove-clause-removes
returns-in_err-remove-clause-removes g c =
    let laws = g.met.D.Disk g.world.𝓛 g.world.𝓜 g.world.𝓡 ((λ s x. x), (λ x. x), (λ x. x), (λ x. x)) in
    removes_one g.D.Disk c.args.keep.now c.args.disk.now c.remove.new.self c.args.number Anything (MadeOrNot Vanishes) (λ o. inl refl) (laws.only_now c.args.disk.now) (sym c.contains.ensures.value ∙ c.if-contains.false)
    (λ told. any_kept c.args.number _ _ c.in_err-remove.ensures.refused) c.remove.ensures.crash c.remove.ensures.gone

pub returns-clause-removes : goal.returns-clause-removes
returns-clause-removes g c =
    let laws = g.met.D.Disk g.world.𝓛 g.world.𝓜 g.world.𝓡 ((λ s x. x), (λ x. x), (λ x. x), (λ x. x)) in
    removes_one g.D.Disk c.args.keep.now c.args.disk.now c.remove.new.self c.args.number Vanishes (MadeOrNot Vanishes) (λ o. inl refl) (laws.only_now c.args.disk.now) (sym c.contains.ensures.value ∙ c.if-contains.false)
    c.in_ok-remove.ensures.removed c.remove.ensures.crash c.remove.ensures.gone

pub returns-then-contains-clause-gone : goal.returns-then-contains-clause-gone
returns-then-contains-clause-gone g c = λ told. leaves_kept c.args.keep.now c.args.number (g.D.Disk.files c.args.disk.now) (sym c.contains.ensures.value ∙ c.if-contains.true)

pub returns-clause-gone : goal.returns-clause-gone
returns-clause-gone g c = λ told. leaves_gone c.args.keep.now c.args.number (g.D.Disk.files c.args.disk.now) (g.D.Disk.files c.remove.new.self) (c.in_ok-remove.ensures.removed told)
