-- Which rows an index may have.
use Rattle.std.specs.Prelude.{◌≡◌, ◌≢◌, ℕ, ◌+◌, ◌≤◌, ◌<◌, ◌^◌, ℤ, ◌≤ℤ◌, ◌<ℤ◌, List, [], ◌∷◌, length, Option, None, Some, ⊤}
use Rattle.std.specs.Ordering.{nat_cmp}
use Rattle.std.specs.declared.cmp.Ordering.TheVariants.{Less}
use Rattle.std.specs.Cmp.Lexicographic.{slice_cmp}
use Rattle.tsdb_types.specs.Keys.{MarkAt}
use Rattle.tsdb_types.specs.Moments.{IsMoment}
use Rattle.tsm_format.specs.declared.entry.Entry.{Entry}
use Rattle.tsm_format.specs.declared.row.KeyRow.{KeyRow}

-- A block that begins at this place of the file. Its size counts the four bytes of the checksum; its first and last
-- time may be one.
pub record IsEntry (place : ℕ) (entry : Entry) : Type 0 where
  pub at : entry.offset ≡ place
  pub held : entry.offset < 2 ^ 64
  pub long : 4 ≤ entry.size
  pub fits : entry.size < 2 ^ 32
  pub first : IsMoment entry.min
  pub last : IsMoment entry.max
  pub order : entry.min ≤ℤ entry.max

-- the time comes after the last of the block before, where there is one
abbrev pub IsLater : Option ℤ → ℤ → Type 0
IsLater None time = ⊤
IsLater (Some last) time = last <ℤ time

-- blocks from this place on, without gaps, their times ascending behind this time
abbrev pub AreEntries : Option ℤ → ℕ → List Entry → Type 0
AreEntries last place [] = ⊤
AreEntries last place (entry ∷ entries) =
    IsEntry place entry × IsLater last entry.min × AreEntries (Some entry.max) (place + entry.size) entries

-- the bytes that the blocks of a row take
abbrev pub size_of : List Entry → ℕ
size_of [] = 0
size_of (entry ∷ entries) = entry.size + size_of entries

-- the key comes after the one before in the order of bytes, where there is one
abbrev pub IsAbove : Option (List ℕ) → List ℕ → Type 0
IsAbove None key = ⊤
IsAbove (Some last) key = slice_cmp nat_cmp last key ≡ Less

-- a key with the mark and at least one block, whose blocks begin at this place
pub record IsRow (last : Option (List ℕ)) (place : ℕ) (row : KeyRow) : Type 0 where
  pub fits : length row.key < 2 ^ 16
  pub mark : (at : ℕ) × MarkAt row.key at
  pub above : IsAbove last row.key
  pub some : row.entries ≢ []
  pub count : length row.entries < 2 ^ 16
  pub blocks : AreEntries None place row.entries

-- rows behind this key, whose blocks stand from this place on in the order of the rows, without gaps
abbrev pub AreRows : Option (List ℕ) → ℕ → List KeyRow → Type 0
AreRows last place [] = ⊤
AreRows last place (row ∷ rows) = IsRow last place row × AreRows (Some row.key) (place + size_of row.entries) rows

-- where the blocks begin, behind the header
abbrev pub first_block : ℕ
first_block = 5

-- the bytes that the blocks of the rows take
abbrev pub sizes_of : List KeyRow → ℕ
sizes_of [] = 0
sizes_of (row ∷ rows) = size_of row.entries + sizes_of rows

-- where the blocks of the rows end
abbrev pub end_of : List KeyRow → ℕ
end_of rows = first_block + sizes_of rows

-- the rows of a file whose index begins at this place, at least one
pub record AreIndex (start : ℕ) (rows : List KeyRow) : Type 0 where
  pub some : rows ≢ []
  pub good : AreRows None first_block rows
  pub ends : end_of rows ≡ start
