use Rattle.std.proofs.Common.{ℕ, sym, subst, arith}
use Rattle.point_cache.specs.Staged.{Staging, Among, IsStaging, entries_of}
use Rattle.point_cache.proofs.EntryLemmas.{staging_put}
use Rattle.point_cache.proofs.runs.Runs.put.Goals as goal

pub invariant_of-self-2 : goal.invariant_of-self-2
invariant_of-self-2 c =
    let among = subst (λ (s : Staging). Among s.touched c.args.place) (sym c.self.view_is) c.requires.touched in
    subst (λ (n : ℕ). IsStaging (entries_of c.put_at.new.map.entries) c.self.inside.touched.items c.self.inside.points n) (omega arith)
    (staging_put c.args.place (c.args.point.now.cell.time, c.args.point.now.value) (entries_of c.self.inside.map.entries) (entries_of c.put_at.new.map.entries) c.self.inside.touched.items c.self.inside.points c.self.inside.next_points
    c.in_ok-put_at.ensures.ok among c.self.invariant)
