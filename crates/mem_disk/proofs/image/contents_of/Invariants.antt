-- The files are placed or left, and those that are left come behind.
use Rattle.std.specs.BTreeMap.{btree_map_len}
use Rattle.mem_disk.specs.Building.{IsBuilt}
use Rattle.mem_disk.proofs.image.contents_of.Given as goal

abbrev pub invariant-placing : goal.invariant-placing
invariant-placing l = IsBuilt l.initial.files l.files l.contents.changes.items l.contents.next

abbrev pub decreases-placing : goal.decreases-placing
decreases-placing l = btree_map_len l.files
