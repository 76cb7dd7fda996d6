use Rattle.shard_state.proofs.Entering.{adds_series}
use Rattle.shard_state.proofs.logs.Logs.add_series.Goals as goal

pub returns-clause-adds : goal.returns-clause-adds
returns-clause-adds g c =
    adds_series g.D.Disk c.args.self.now c.add.new.disk c.add.new.self c.add.result c.args.series c.requires.may c.add.ensures.each c.add.ensures.log c.add.ensures.ok c.add.ensures.refused
