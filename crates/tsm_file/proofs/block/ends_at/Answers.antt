use Rattle.std.proofs.Common.{◌≡◌, ◌-◌, length, IsTrue, arith, rules}
use Rattle.tsm_file.proofs.BlockLemmas.{ends-at}
use Rattle.tsm_file.proofs.block.ends_at.Goals as goal

pub returns : goal.returns
returns c =
    let points = c.args.points.now in
    let point = c.in-Some.point.now in
    let some = c.in-Some.ensures.item.3.0 in
    let at = ends-at c.args.time point points (length c.args.points.now - 1) (omega arith) c.in-Some.ensures.item.1 in
    let equal : IsTrue c.eq.result → c.in-Some.point.now.0 ≡ c.args.time = search rules in
    let tells : c.in-Some.point.now.0 ≡ c.args.time → IsTrue c.eq.result = search rules in
    (λ is. at.0 (equal is), λ ends. tells (at.1 ends))
