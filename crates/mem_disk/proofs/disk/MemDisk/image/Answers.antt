use Rattle.std.proofs.Common.{List, subst}
use Rattle.std.specs.Prelude.{reverse}
use Rattle.mem_disk.specs.History.{crashes_of, reads}
use Rattle.mem_disk.specs.Replayed.{Replays}
use Rattle.mem_disk.specs.declared.change.Change.{Change}
use Rattle.mem_disk.proofs.Replaying.{image_left}
use Rattle.mem_disk.proofs.disk.MemDisk.image.Goals as goal

pub returns-clause-image : goal.returns-clause-image
unfolding crashes_of
returns-clause-image c =
    let changes = c.args.self.now.contents.changes.items in
    let end = c.apply_all.new.self in
    let was = subst (λ (l : List Change). Replays (reverse l) end.read end.left) c.deref.ensures.value c.in_ok-apply_all.ensures in
    image_left (reverse changes) end.read end.left c.into_left.result (reads (reverse c.in_ok-contents.contents.changes.items)) was c.into_left.ensures c.in_ok-contents.ensures.files
