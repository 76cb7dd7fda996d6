use Rattle.std.proofs.Common.{refl}
use Rattle.shard_disk.specs.Directory.{IfThere, Torn}
use Rattle.gate_log.proofs.Elsewhere.{only_here}
use Rattle.gate_log.proofs.Opening.{open_doubts, open_stands, open_leaves}
use Rattle.gate_log.proofs.log.Log.open_gate.Goals as goal

pub returns-in-Ok-clause-ok : goal.returns-in-Ok-clause-ok
returns-in-Ok-clause-ok g c = record {
  stands = λ tells records body size place ready. open_stands c.args.self.now (g.D.Disk.files c.args.disk.now) _ _ _ records place body ready _ c.args.size size refl refl refl
      (c.in-Ok.ensures.written tells) (c.write_durably.ensures.torn tells) c.write_durably.ensures.crash c.in-Ok.ensures.durable;
  shut = refl;
}

pub returns-in-Ok-clause-crash : goal.returns-in-Ok-clause-crash
returns-in-Ok-clause-crash g c =
    λ records body place ready. open_leaves c.args.self.now (g.D.Disk.files c.args.disk.now) (g.D.Disk.files c.args.disk.now) _ _ records place body ready c.write_durably.ensures.crash

pub returns-in-Err-Memory-clause-crash : goal.returns-in-Err-Memory-clause-crash
returns-in-Err-Memory-clause-crash g c =
    λ records body place ready. open_leaves c.args.self.now (g.D.Disk.files c.args.disk.now) (g.D.Disk.files c.args.disk.now) _ _ records place body ready c.write_durably.ensures.crash

pub returns-in-Err-Fault-clause-in_doubt : goal.returns-in-Err-Fault-clause-in_doubt
returns-in-Err-Fault-clause-in_doubt g c =
    λ fault tells records body place ready. open_doubts c.args.self.now (g.D.Disk.files c.args.disk.now) _ _ _ records place body ready _ refl refl refl (c.write_durably.ensures.torn tells) c.write_durably.ensures.crash

pub returns-in-Err-Fault-clause-crash : goal.returns-in-Err-Fault-clause-crash
returns-in-Err-Fault-clause-crash g c =
    λ records body place ready. open_leaves c.args.self.now (g.D.Disk.files c.args.disk.now) (g.D.Disk.files c.args.disk.now) _ _ records place body ready c.write_durably.ensures.crash

pub returns-in-Ok-clause-elsewhere : goal.returns-in-Ok-clause-elsewhere
returns-in-Ok-clause-elsewhere g c =
    only_here c.args.self.now.file (IfThere (Torn c.args.self.now.end 1)) (g.D.Disk.crashes c.args.disk.now) (g.D.Disk.crashes c.write_durably.new.disk) c.write_durably.ensures.crash

pub returns-in-Err-Memory-clause-elsewhere : goal.returns-in-Err-Memory-clause-elsewhere
returns-in-Err-Memory-clause-elsewhere g c =
    only_here c.args.self.now.file (IfThere (Torn c.args.self.now.end 1)) (g.D.Disk.crashes c.args.disk.now) (g.D.Disk.crashes c.write_durably.new.disk) c.write_durably.ensures.crash

pub returns-in-Err-Fault-clause-elsewhere : goal.returns-in-Err-Fault-clause-elsewhere
returns-in-Err-Fault-clause-elsewhere g c =
    only_here c.args.self.now.file (IfThere (Torn c.args.self.now.end 1)) (g.D.Disk.crashes c.args.disk.now) (g.D.Disk.crashes c.write_durably.new.disk) c.write_durably.ensures.crash
