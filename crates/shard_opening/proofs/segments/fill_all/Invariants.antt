-- the first segments are read to their ends
use Rattle.std.proofs.Common.{◌≡◌, ◌∷◌, take, IsTrue}
use Rattle.shard_disk.specs.Crash.{Leaves, Same}
use Rattle.shard_opening.proofs.WholeLemmas.{AreFilled}
use Rattle.shard_opening.proofs.segments.fill_all.Given as goal

abbrev pub invariant-loop-file : goal.invariant-loop-file
invariant-loop-file g l = record {
  all : AreFilled (IsTrue g.D.Disk.tells) l.series.keys l.floor (l.first ∷ take l.file-index l.others) l.replay l.filling (g.D.Disk.files l.disk) (g.D.Disk.crashes l.fn.disk) (g.D.Disk.crashes l.disk);
  files : g.D.Disk.files l.disk ≡ g.D.Disk.files l.fn.disk;
  crash : Leaves Same (g.D.Disk.crashes l.fn.disk) (g.D.Disk.crashes l.disk);
  handed_out : g.D.Disk.handed_out l.disk ≡ g.D.Disk.handed_out l.fn.disk;
  health : g.D.Disk.health l.disk ≡ g.D.Disk.health l.fn.disk;
}
