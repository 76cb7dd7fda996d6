-- What a disk in memory hands out, and which of its calls fail.
use Rattle.std.specs.Prelude.{◌≡◌, ℕ, [], IsTrue, true}
use Rattle.std.specs.List.{filter_map}
use Rattle.shard_disk.specs.Calls.Open.{Opens}
use Rattle.shard_disk.specs.Health.{IsFresh}
use Rattle.shard_disk.specs.Stage.{Open}
use Rattle.mem_disk.specs.Calls.{read_of, write_of}
use Rattle.mem_disk.specs.Closed.{files_of, handed_out_of, health_of, named_of, place_of}
use Rattle.mem_disk.specs.HealthOf.{device_health}
use Rattle.mem_disk.specs.Progress.{stage_of}
use Rattle.mem_disk.specs.Reads.{reads_of}
use Rattle.mem_disk.specs.declared.disk.MemDisk.{MemDisk}
use Rattle.mem_disk.specs.declared.reader.MemReader.{MemReader}
use Rattle.mem_disk.specs.declared.writer.MemWriter.{MemWriter}

-- An empty writer, of which those calls fail that the disk's list names of the writer of this place.
pub record HandsWriter (disk : MemDisk) (writer : MemWriter) : Type 0 where
  pub empty : writer.bytes.items ≡ []
  pub begun : stage_of writer.progress ≡ Open
  pub fresh : IsFresh (health_of disk) (device_health writer.calls)
  pub failing : writer.calls.failing.items ≡ filter_map (write_of (place_of disk)) (named_of disk)
  pub first : writer.calls.next ≡ 0

-- A reader of the file that wasn't read yet, of which those reads fail that the list names of the reader of this place.
pub record HandsReader (number : ℕ) (disk : MemDisk) (reader : MemReader) : Type 0 where
  pub opens : Opens (IsTrue true) number (files_of disk) (handed_out_of disk) reader.no reader.bytes.items
  pub fresh : IsFresh (health_of disk) (device_health reader.calls)
  pub failing : reader.calls.failing.items ≡ filter_map (read_of (place_of disk)) (named_of disk)
  pub unread : reads_of reader ≡ 0
