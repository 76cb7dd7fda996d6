use Rattle.std.proofs.Common.{Bool, ap, arith}
use Rattle.std.specs.Prelude.{◌&&◌, is_none}
use Rattle.mem_disk.proofs.CallsLemmas.{none_of, quiet_same, same_health}
use Rattle.mem_disk.proofs.calls.DiskCalls.pass.Goals as goal

pub returns-clause-health : goal.returns-clause-health
returns-clause-health c =
    let m = c.args.self.now in
    same_health m.faults _ _ (ap (λ (b : Bool). is_none m.stop && b) (quiet_same m.failing.items m.next _ (none_of _ _ c.requires).0 (omega arith) (omega arith)))
