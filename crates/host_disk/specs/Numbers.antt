-- Which numbers the files of a disk have.
use Rattle.std.specs.Prelude.{ℕ, ◌<◌, ◌-◌, ◌^◌}
use Rattle.host_disk.specs.declared.name.Name.{Name}
use Rattle.host_disk.specs.declared.name.Name.TheVariants.{File, Unfinished}

-- a file's number is below the greatest of 32 bits, so that there is one above it
abbrev pub IsNumbered : Name → Type 0
IsNumbered (File number) = number < 2 ^ 32 - 1
IsNumbered (Unfinished number) = Unit {0}

-- a file of this name has a number below; one that isn't adopted has none
abbrev pub IsBelow : ℕ → Name → Type 0
IsBelow next (File number) = number < next
IsBelow next (Unfinished number) = Unit {0}
