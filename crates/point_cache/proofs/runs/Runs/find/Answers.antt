use Rattle.point_cache.specs.Staged.{entries_of}
use Rattle.point_cache.proofs.EntryLemmas.{staging_adds, staging_touch}
use Rattle.point_cache.proofs.runs.Runs.find.Goals as goal

pub touch-requires : goal.touch-requires
touch-requires c =
    let s = staging_adds c.as_slice.result.now (entries_of c.self.inside.map.entries) (entries_of c.place_of.new.map.entries) c.self.inside.touched.items c.self.inside.points c.self.inside.next_points c.place_of.ensures.adds c.self.invariant in
    s.each

pub invariant_of-self-in_err-place : goal.invariant_of-self-in_err-place
invariant_of-self-in_err-place c =
    staging_adds c.as_slice.result.now (entries_of c.self.inside.map.entries) (entries_of c.place_of.new.map.entries) c.self.inside.touched.items c.self.inside.points c.self.inside.next_points c.place_of.ensures.adds c.self.invariant

pub invariant_of-self-in_err-touch : goal.invariant_of-self-in_err-touch
invariant_of-self-in_err-touch c =
    staging_touch (entries_of c.place_of.new.map.entries) c.self.inside.touched.items c.touch.new.touched.items c.self.inside.points c.self.inside.next_points c.touch.ensures.kept
    (staging_adds c.as_slice.result.now (entries_of c.self.inside.map.entries) (entries_of c.place_of.new.map.entries) c.self.inside.touched.items c.self.inside.points c.self.inside.next_points c.place_of.ensures.adds c.self.invariant)

pub invariant_of-self-2 : goal.invariant_of-self-2
invariant_of-self-2 c =
    staging_touch (entries_of c.place_of.new.map.entries) c.self.inside.touched.items c.touch.new.touched.items c.self.inside.points c.self.inside.next_points c.touch.ensures.kept
    (staging_adds c.as_slice.result.now (entries_of c.self.inside.map.entries) (entries_of c.place_of.new.map.entries) c.self.inside.touched.items c.self.inside.points c.self.inside.next_points c.place_of.ensures.adds c.self.invariant)
