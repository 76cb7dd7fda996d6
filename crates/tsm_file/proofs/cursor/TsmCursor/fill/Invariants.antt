use Rattle.std.proofs.Common.{◌≡◌, List, [], length, All, IsTrue}
use Rattle.shard_disk.specs.Health.{Ages}
use Rattle.point_model.specs.Rows.{Row}
use Rattle.tsm_file.specs.ReadBlocks.{IsWithin}
use Rattle.tsm_file.specs.ReadPoints.{Gives, Takes}
use Rattle.tsm_file.proofs.cursor.TsmCursor.fill.Given as goal

abbrev pub invariant-loop-self : goal.invariant-loop-self
invariant-loop-self g l = record {
  takes : IsTrue g.R.Reader.tells → Takes (g.R.Reader.content l.initial.reader) l.tombs l.initial.self [] l.self;
  stays : IsTrue g.R.Reader.tells → (given : List Row) → Gives (g.R.Reader.content l.initial.reader) l.tombs l.initial.self given → Gives (g.R.Reader.content l.initial.reader) l.tombs l.self given;
  within : IsTrue g.R.Reader.tells → All (IsWithin (g.R.Reader.content l.reader)) l.self.blocks;
  content : g.R.Reader.content l.reader ≡ g.R.Reader.content l.initial.reader;
  file : g.R.Reader.file l.reader ≡ g.R.Reader.file l.initial.reader;
  ages : Ages (g.R.Reader.health l.initial.reader) (g.R.Reader.health l.reader);
}

abbrev pub decreases-loop-self : goal.decreases-loop-self
decreases-loop-self g l = length l.self.blocks
