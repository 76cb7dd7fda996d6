-- What the calls of a device tell of its failures.
use Rattle.std.specs.Prelude.{◌&&◌, is_none}
use Rattle.shard_disk.specs.Health.{Health}
use Rattle.mem_disk.specs.Calls.{is_quiet, is_over}
use Rattle.mem_disk.specs.declared.calls.DiskCalls.{DiskCalls}
use Rattle.mem_disk.specs.declared.calls.DeviceCalls.{DeviceCalls}

-- a disk is steady where it isn't to stop, and its list names no call of a reader or writer and none of its own that is
-- still to come
abbrev pub disk_health : DiskCalls → Health
disk_health calls = record { faults = calls.faults; is_steady = is_none calls.stop && is_quiet calls.failing.items calls.next }

-- a reader or writer is steady where none of its calls that is still to come fails
abbrev pub device_health : DeviceCalls → Health
device_health calls = record { faults = calls.faults; is_steady = is_over calls.failing.items calls.next }
