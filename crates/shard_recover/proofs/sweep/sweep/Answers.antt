use Rattle.std.proofs.Common.{◌∙◌, ◌+◌, ◌∷◌, ℕ, List, drop, get_or, refl, sym, subst, arith}
use Rattle.std.proofs.Math.ListN.{drop_of_length-le}
use Rattle.shard_recover.proofs.SweepLemmas.{Sweeps, drop_at, removes_none, removes_then, sweeps_all, sweeps_first, sweeps_more}
use Rattle.shard_recover.proofs.sweep.sweep.Goals as goal

pub loop-number-init : goal.loop-number-init
loop-number-init g c =
    let laws = g.met.D.Disk g.world.𝓛 g.world.𝓜 g.world.𝓡 ((λ s x. x), (λ x. x), (λ x. x), (λ x. x)) in
    (removes_none g.D.Disk c.args.keep.now c.args.disk.now (laws.only_now c.args.disk.now), refl, λ told are. sweeps_first c.args.keep.now c.args.numbers.now (g.D.Disk.files c.args.disk.now) are)

pub returns-in_err-remove_other-clause-removes : goal.returns-in_err-remove_other-clause-removes
returns-in_err-remove_other-clause-removes g c = removes_then g.D.Disk c.args.keep.now c.args.disk.now c.loop-number.disk c.remove_other.new.disk c.loop-number.invariant.0 c.remove_other.ensures.removes

pub loop-number-preserved : goal.loop-number-preserved
loop-number-preserved g c = (
  removes_then g.D.Disk c.args.keep.now c.args.disk.now c.loop-number.disk c.remove_other.new.disk c.loop-number.invariant.0 c.remove_other.ensures.removes,
  c.in_ok-remove_other.ensures.fault.quiet (λ e. cc e) ∙ c.loop-number.invariant.1,
  λ told are.
      sweeps_more c.args.keep.now (get_or c.args.numbers.now c.loop-number.number-index 0) (drop (c.loop-number.number-index + 1) c.args.numbers.now) (g.D.Disk.files c.loop-number.disk) (g.D.Disk.files c.remove_other.new.disk)
      (c.in_ok-remove_other.ensures.gone told)
      (subst (λ (l : List ℕ). Sweeps c.args.keep.now l (g.D.Disk.files c.loop-number.disk)) (drop_at c.args.numbers.now c.loop-number.number-index 0 c.loop-number-test.true) (c.loop-number.invariant.2 told are)),
)

pub returns-clause-gone : goal.returns-clause-gone
returns-clause-gone g c = λ told are.
    sweeps_all c.args.keep.now (g.D.Disk.files c.loop-number.disk)
    (subst (λ (l : List ℕ). Sweeps c.args.keep.now l (g.D.Disk.files c.loop-number.disk)) (drop_of_length-le c.args.numbers.now (omega (arith, c.loop-number-test.false))) (c.loop-number.invariant.2 told are))
