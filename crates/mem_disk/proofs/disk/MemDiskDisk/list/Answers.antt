use Rattle.std.proofs.Common.{◌≡◌, ◌<◌, ℕ, List, length, get_or, subst, sym, ◌∙◌, rules}
use Rattle.std.specs.BTreeMap as tree
use Rattle.std.specs.FinMap.{keys}
use Rattle.std.specs.Prelude.{reverse}
use Rattle.mem_disk.specs.History.{reads}
use Rattle.mem_disk.proofs.Changes.{exactly_same}
use Rattle.mem_disk.proofs.Listing.{keys_are, key_present}
use Rattle.mem_disk.proofs.disk.MemDiskDisk.list.Goals as goal

pub returns-then-fails-clause-crash : goal.returns-then-fails-clause-crash
returns-then-fails-clause-crash c = exactly_same c.args.self.now.contents.changes.items

pub returns-in_err-collect-clause-crash : goal.returns-in_err-collect-clause-crash
returns-in_err-collect-clause-crash c = exactly_same c.args.self.now.contents.changes.items

pub returns-clause-crash : goal.returns-clause-crash
returns-clause-crash c = exactly_same c.args.self.now.contents.changes.items

pub returns-clause-numbers : goal.returns-clause-numbers
returns-clause-numbers c =
    let m = c.args.self.now.contents in
    let collected : c.in_ok-collect.field-0.items ≡ tree.keys m.files = search rules in
    collected ∙ keys_are m.files c.keys.ensures.ordered (reads (reverse m.changes.items)) m.agrees

pub returns-clause-known : goal.returns-clause-known
returns-clause-known c =
    let m = c.args.self.now.contents in
    let collected : c.in_ok-collect.field-0.items ≡ tree.keys m.files = search rules in
    let is : c.in_ok-collect.field-0.items ≡ keys (reads (reverse m.changes.items)) =
    collected ∙ keys_are m.files c.keys.ensures.ordered (reads (reverse m.changes.items)) m.agrees in
    subst (λ (l : List ℕ). (k d : ℕ) → k < length l → get_or l k d < m.next) (sym is)
    (λ k d lt. m.below _ (key_present (reads (reverse m.changes.items)) k d lt))
