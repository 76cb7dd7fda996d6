use Rattle.std.proofs.Common.{List, sym, ap, ◌∙◌, subst}
use Rattle.point_cache.specs.Staged.{Staging, Entry, AreSettled, IsStaging, entries_of, nexts}
use Rattle.point_cache.proofs.PlainLemmas.{staging_plain, ascending_nexts, count_nexts}
use Rattle.point_cache.proofs.runs.Runs.commit.Goals as goal

pub invariant_of-self : goal.invariant_of-self
invariant_of-self c =
    let es = entries_of c.self.inside.map.entries in
    let settled = subst AreSettled (ap (λ (s : Staging). s.entries) (sym c.self.view_is)) c.requires in
    subst (λ (l : List Entry). IsStaging l c.clear.new.self.items c.self.inside.next_points c.self.inside.next_points) (sym c.commit_all.ensures)
    (staging_plain (nexts es) c.clear.new.self.items c.self.inside.next_points (ascending_nexts es settled) (c.self.invariant.next_counted ∙ sym (count_nexts es)))
