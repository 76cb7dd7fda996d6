use Rattle.std.proofs.Common.{arith}
use Rattle.mem_disk.proofs.CallsLemmas.{counted, counted_ages, failing_unsteady}
use Rattle.mem_disk.proofs.calls.DiskCalls.fail.Goals as goal

pub returns-clause-failed : goal.returns-clause-failed
returns-clause-failed c =
    let m = c.args.self.now in
    counted _ _ _ _ (failing_unsteady m.failing.items m.stop m.next c.requires) c.saturating_add-self-2.ensures

pub returns-clause-ages : goal.returns-clause-ages
returns-clause-ages c =
    let m = c.args.self.now in
    counted_ages _ _ _ _ (failing_unsteady m.failing.items m.stop m.next c.requires) c.saturating_add-self-2.ensures (omega arith)
