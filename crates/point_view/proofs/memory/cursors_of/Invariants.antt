-- The cursors so far are those of the keys so far.
use Rattle.std.proofs.Common.{◌≡◌, map, take}
use Rattle.point_view.specs.Layers.{key_rows}
use Rattle.point_view.proofs.memory.cursors_of.Given as goal

abbrev pub invariant-loop-series : goal.invariant-loop-series
invariant-loop-series l = l.cursors.items ≡ map (key_rows l.need l.cache) (take l.series-index l.keys)
