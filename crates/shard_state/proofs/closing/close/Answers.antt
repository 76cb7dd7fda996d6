use Rattle.shard_state.proofs.Ending.{closes}
use Rattle.shard_state.proofs.closing.close.Goals as goal

pub returns : goal.returns
returns g c =
    let laws = g.met.D.Disk g.world.𝓛 g.world.𝓜 g.world.𝓡 ((λ s x. x), (λ x. x), (λ x. x), (λ x. x)) in
    closes g.D.Disk c.args.logs c.settle-settled.new.self c.settle-settled.result c.settle-settled.ensures.settles c.settle-settled.ensures.same (λ told. laws.as_read c.settle-settled.new.self.disk told) c.settle-settled.ensures.handed_out c.settle-settled.ensures.fault
