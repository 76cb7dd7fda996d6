use Rattle.std.proofs.Common.{List, ℕ, subst}
use Rattle.std.specs.Prelude.{reverse}
use Rattle.shard_disk.specs.Crash.{Follows}
use Rattle.shard_disk.specs.Directory.{Appears, ChangesAt}
use Rattle.mem_disk.specs.History.{crashes_of, reads}
use Rattle.mem_disk.proofs.Built.{built_none, built_more}
use Rattle.mem_disk.proofs.image.contents_of.Goals as goal

pub placing-init : goal.placing-init
placing-init c = built_none c.args.files c.new-contents.result.changes.items c.new-contents.result.next c.new-contents.ensures.empty c.new-contents.ensures.first

pub placing-preserved : goal.placing-preserved
placing-preserved c =
    let old = c.placing.contents in
    let new = c.place.new.self in
    let no = c.in-Some.no in
    let bytes = c.in-Some.bytes in
    let is = c.deref.ensures.value in
    let file = subst (λ (b : List ℕ). ChangesAt no (Appears b) (reads (reverse old.changes.items)) (reads (reverse new.changes.items))) is c.in_ok-place.ensures.file in
    let crash = subst (λ (b : List ℕ). Follows (ChangesAt no (Appears b)) (crashes_of old.changes.items) (crashes_of new.changes.items)) is c.in_ok-place.ensures.crash.follows in
    built_more c.args.files c.placing.files c.pop_first.new.self old.changes.items new.changes.items old.next new.next no bytes c.placing.invariant
    c.in-Some.ensures.value c.in-Some.ensures.least c.in-Some.ensures.updates file crash c.in_ok-place.ensures.adopted c.in_ok-place.ensures.next
