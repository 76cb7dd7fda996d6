-- Which calls fail, and what a device tells of its failures.
use Rattle.std.specs.Prelude.{◌==◌, ℕ, Bool, false, List, Option, Some, None, nat_lt, if◌then◌else◌}
use Rattle.std.specs.List.{list_all}
use Rattle.mem_disk.specs.declared.fail.Fail.{Fail}
use Rattle.mem_disk.specs.declared.fail.Fail.TheVariants.{Disk, Reader, Writer}

-- it names the disk's call at this place
abbrev pub is_at : ℕ → Fail → Bool
is_at place (Disk at) = at == place
is_at place (Reader maker at) = false
is_at place (Writer maker at) = false

-- it names a call of the disk itself, before this place
abbrev pub is_past : ℕ → Fail → Bool
is_past place (Disk at) = nat_lt at place
is_past place (Reader maker at) = false
is_past place (Writer maker at) = false

-- the place of the call that it names of this reader, or of this writer
abbrev pub read_of : ℕ → Fail → Option ℕ
read_of maker (Disk at) = None
read_of maker (Reader from at) = if from == maker then Some at else None
read_of maker (Writer from at) = None

abbrev pub write_of : ℕ → Fail → Option ℕ
write_of maker (Disk at) = None
write_of maker (Reader from at) = None
write_of maker (Writer from at) = if from == maker then Some at else None

-- From this place on no call of the disk fails, and none of a reader or writer does.
abbrev pub is_quiet : List Fail → ℕ → Bool
is_quiet failing place = list_all (is_past place) failing

-- From this place on no call of a reader or writer fails, where these are the places of those that do.
abbrev pub is_over : List ℕ → ℕ → Bool
is_over failing place = list_all (λ at. nat_lt at place) failing
