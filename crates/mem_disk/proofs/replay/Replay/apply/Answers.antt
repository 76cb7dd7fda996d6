use Rattle.std.proofs.Common.{◌≡◌, ◌∷◌, ℕ, List, length, rules, sym, subst}
use Rattle.shard_disk.specs.Directory.{Appears, IfThere, Overwritten, Torn}
use Rattle.mem_disk.specs.Replayed.{ChangesFile, Replays}
use Rattle.mem_disk.specs.declared.change.Change.{Change}
use Rattle.mem_disk.proofs.Replaying.{replays_added, replays_offered, replays_not_offered, replays_wrote, replays_tore, replays_synced, replays_removed, replays_not_removed, replays_condemned, replays_not_condemned}
use Rattle.mem_disk.proofs.replay.Replay.apply.Goals as goal

pub returns-in_ok-put-in-Added-2 : goal.returns-in_ok-put-in-Added-2
returns-in_ok-put-in-Added-2 c = λ past was.
    let m = c.args.self.now in
    let no = c.in-Added.no in
    let reading = subst (λ (b : List ℕ). ChangesFile no (Appears b) m.read c.put.new.files) c.deref.ensures.value c.in_ok-put-in-Added.ensures in
    let leaving = subst (λ (b : List ℕ). ChangesFile no (Appears b) m.left c.put-in-Added.new.files) c.deref-in-Added.ensures.value c.in_ok-put-in-Added-2.ensures in
    subst (λ (change : Change). Replays (change ∷ past) c.put.new.files c.put-in-Added.new.files) (sym c.in-Added.is)
    (replays_added past m.read m.left was no c.in-Added.bytes c.put.new.files c.put-in-Added.new.files reading leaving)

pub returns-then-leaves_it : goal.returns-then-leaves_it
returns-then-leaves_it c = λ past was.
    let m = c.args.self.now in
    let no = c.in-Offered.no in
    let files = c.put-then-leaves_it.new.files in
    let leaving = subst (λ (b : List ℕ). ChangesFile no (Appears b) m.left files) c.deref-then-leaves_it.ensures.value c.in_ok-put-in-Offered.ensures in
    subst (λ (change : Change). Replays (change ∷ past) m.read files) (sym c.in-Offered.is)
    (replays_offered past m.read m.left was no c.in-Offered.bytes files leaving)

pub returns-else-leaves_it : goal.returns-else-leaves_it
returns-else-leaves_it c = λ past was.
    let m = c.args.self.now in
    subst (λ (change : Change). Replays (change ∷ past) m.read m.left) (sym c.in-Offered.is)
    (replays_not_offered past m.read m.left was c.in-Offered.no c.in-Offered.bytes)

pub returns-in_ok-tear_file-in-Wrote : goal.returns-in_ok-tear_file-in-Wrote
returns-in_ok-tear_file-in-Wrote c = λ past was.
    let m = c.args.self.now in
    let no = c.in-Wrote.no in
    let at = c.in-Wrote.at in
    let size : c.len.result ≡ length c.in-Wrote.bytes.items = search rules in
    let reading = subst (λ (b : List ℕ). ChangesFile no (IfThere (Overwritten at b)) m.read c.write.new.files) c.deref-in-Wrote.ensures.value c.in_ok-write-in-Wrote.ensures in
    let leaving = subst (λ (n : ℕ). ChangesFile no (IfThere (Torn at n)) m.left c.tear_file.new.files) size c.in_ok-tear_file-in-Wrote.ensures in
    subst (λ (change : Change). Replays (change ∷ past) c.write.new.files c.tear_file.new.files) (sym c.in-Wrote.is)
    (replays_wrote past m.read m.left was no at c.in-Wrote.bytes c.write.new.files c.tear_file.new.files reading leaving)

pub returns-in_ok-tear_file-in-Tore : goal.returns-in_ok-tear_file-in-Tore
returns-in_ok-tear_file-in-Tore c = λ past was.
    let m = c.args.self.now in
    let files = c.tear_file-in-Tore.new.files in
    subst (λ (change : Change). Replays (change ∷ past) m.read files) (sym c.in-Tore.is)
    (replays_tore past m.read m.left was c.in-Tore.no c.in-Tore.at c.in-Tore.len files c.in_ok-tear_file-in-Tore.ensures)

pub returns-in_ok-settle-in-Synced : goal.returns-in_ok-settle-in-Synced
returns-in_ok-settle-in-Synced c = λ past was.
    let m = c.args.self.now in
    subst (λ (change : Change). Replays (change ∷ past) m.read c.settle.new.left) (sym c.in-Synced.is)
    (replays_synced past m.read m.left was c.in-Synced.no c.settle.new.left c.in_ok-settle-in-Synced.ensures)

pub returns-then-leaves_it-2 : goal.returns-then-leaves_it-2
returns-then-leaves_it-2 c = λ past was.
    let m = c.args.self.now in
    subst (λ (change : Change). Replays (change ∷ past) c.take.new.files m.left) (sym c.in-Removed.is)
    (replays_not_removed past m.read m.left was c.in-Removed.no c.take.new.files c.take.ensures)

pub returns-else-leaves_it-2 : goal.returns-else-leaves_it-2
returns-else-leaves_it-2 c = λ past was.
    let m = c.args.self.now in
    let files = c.take-in-Removed.new.files in
    subst (λ (change : Change). Replays (change ∷ past) c.take.new.files files) (sym c.in-Removed.is)
    (replays_removed past m.read m.left was c.in-Removed.no c.take.new.files files c.take.ensures c.take-in-Removed.ensures)

pub returns-then-leaves_it-3 : goal.returns-then-leaves_it-3
returns-then-leaves_it-3 c = λ past was.
    let m = c.args.self.now in
    subst (λ (change : Change). Replays (change ∷ past) m.read m.left) (sym c.in-Condemned.is)
    (replays_not_condemned past m.read m.left was c.in-Condemned.no)

pub returns-else-leaves_it-3 : goal.returns-else-leaves_it-3
returns-else-leaves_it-3 c = λ past was.
    let m = c.args.self.now in
    let files = c.take-in-Condemned.new.files in
    subst (λ (change : Change). Replays (change ∷ past) m.read files) (sym c.in-Condemned.is)
    (replays_condemned past m.read m.left was c.in-Condemned.no files c.take-in-Condemned.ensures)
