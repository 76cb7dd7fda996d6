-- An entry as it is read.
use Rattle.tsm_format.specs.declared.entry.Entry.{Entry}
use Rattle.tsm_format.specs.declared.take.Raw.{Raw}

-- its numbers
abbrev pub entry_of : Raw → Entry
entry_of raw = record { min = raw.min; max = raw.max; offset = raw.offset; size = raw.size }
