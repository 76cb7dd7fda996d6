-- What a disk in memory shows beyond what every disk tells.
use Rattle.std.specs.Prelude.{ℕ, List, Option, reverse, unwrap_or}
use Rattle.std.specs.BTreeMap as tree
use Rattle.std.specs.Ordering.{nat_cmp}
use Rattle.shard_disk.specs.Crash.{Crashes}
use Rattle.shard_disk.specs.Directory.{Directory}
use Rattle.shard_disk.specs.HandedOut.{HandedOut}
use Rattle.shard_disk.specs.Health.{Health}
use Rattle.mem_disk.specs.HealthOf.{disk_health}
use Rattle.mem_disk.specs.History.{adopted_after, crashes_of, reads}
use Rattle.mem_disk.specs.declared.change.Change.{Change}
use Rattle.mem_disk.specs.declared.disk.MemDisk.{MemDisk}
use Rattle.mem_disk.specs.declared.fail.Fail.{Fail}

-- the least offset that the reader was read from that was closed last
abbrev pub closed_lowest_of : MemDisk → Option ℕ
closed_lowest_of disk = disk.closed_lowest

-- all that was done, the oldest first; what it reads and what a crash may leave is made of it
abbrev pub changes_of : MemDisk → List Change
changes_of disk = disk.contents.changes.items

-- what a read gives, and what a crash may leave
abbrev pub files_of : MemDisk → Directory
files_of disk = reads (reverse (changes_of disk))

abbrev pub left_of : MemDisk → Crashes
left_of disk = crashes_of (changes_of disk)

-- the next number, and the readers that are out
abbrev pub handed_out_of : MemDisk → HandedOut
handed_out_of disk = record { next_number = disk.contents.next; readers = λ n. unwrap_or (tree.get nat_cmp disk.readers n) 0; adopted = adopted_after (reverse (changes_of disk)) }

abbrev pub health_of : MemDisk → Health
health_of disk = disk_health disk.calls

-- the calls that its list names
abbrev pub named_of : MemDisk → List Fail
named_of disk = disk.calls.failing.items

-- the place of its next call, and the place from which on each call fails
abbrev pub place_of : MemDisk → ℕ
place_of disk = disk.calls.next

abbrev pub stop_of : MemDisk → Option ℕ
stop_of disk = disk.calls.stop

-- how many faults it met
abbrev pub faults_of : MemDisk → ℕ
faults_of disk = disk.calls.faults
