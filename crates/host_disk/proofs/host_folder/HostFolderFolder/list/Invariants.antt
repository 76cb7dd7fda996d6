-- Each name so far is one of a disk's file.
use Rattle.std.proofs.Common.{All}
use Rattle.host_disk.specs.Numbers.{IsNumbered}
use Rattle.host_disk.proofs.host_folder.HostFolderFolder.list.Given as goal

abbrev pub invariant-loop-entry : goal.invariant-loop-entry
invariant-loop-entry l = All IsNumbered l.names.items
