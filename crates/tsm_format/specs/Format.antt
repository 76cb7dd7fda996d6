-- Which bytes an index has.
use Rattle.std.specs.Prelude.{ℕ, List, [], ◌∷◌, ◌++◌, length}
use Rattle.std.specs.List.{flat_map}
use Rattle.fixed_width.specs.Fields.{bytes_of_u16, bytes_of_u32, bytes_of_u64, bytes_of_i64}
use Rattle.tsdb_types.specs.declared.value.Kind.{Kind}
use Rattle.tsdb_types.specs.declared.value.Kind.TheVariants.{Integer, Unsigned, Boolean}
use Rattle.tsm_format.specs.declared.entry.Entry.{Entry}
use Rattle.tsm_format.specs.declared.row.KeyRow.{KeyRow}

-- the type byte, as a block has it
abbrev pub byte_of : Kind → ℕ
byte_of Integer = 1
byte_of Boolean = 2
byte_of Unsigned = 4

-- the first and the last time (8 bytes each), the offset (8) and the size (4)
unfoldable pub entry_bytes : Entry → List ℕ
entry_bytes entry = bytes_of_i64 entry.min ++ bytes_of_i64 entry.max ++ bytes_of_u64 entry.offset ++ bytes_of_u32 entry.size

-- the length of the key (2 bytes), the key, the type byte, and the count of blocks (2)
unfoldable pub head_bytes : List ℕ → Kind → ℕ → List ℕ
head_bytes key kind count = bytes_of_u16 (length key) ++ key ++ byte_of kind ∷ [] ++ bytes_of_u16 count

-- the head of the row, and its blocks
unfoldable pub row_bytes : KeyRow → List ℕ
row_bytes row = head_bytes row.key row.kind (length row.entries) ++ flat_map entry_bytes row.entries

-- one row behind the other
abbrev pub index_bytes : List KeyRow → List ℕ
index_bytes rows = flat_map row_bytes rows
