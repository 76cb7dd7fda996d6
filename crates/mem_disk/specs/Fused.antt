-- The disk in a fuse.
use Rattle.mem_disk.specs.declared.disk.MemDisk.{MemDisk}
use Rattle.mem_disk.specs.declared.fuse.Fuse.{Fuse}

abbrev pub disk_of : Fuse → MemDisk
disk_of fuse = fuse.disk
