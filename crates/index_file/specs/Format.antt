-- Which bytes is an index file?
use Rattle.std.specs.Prelude.{ℕ, List, [], ◌∷◌, ◌++◌, length}
use Rattle.std.specs.List.{flat_map}
use Rattle.fixed_width.specs.Fields.{bytes_of_u16, bytes_of_u32}
use Rattle.word_codec.specs.Crc32.{crc32_of}
use Rattle.index_file.specs.declared.content.NameIds.{NameIds}
use Rattle.index_file.specs.declared.content.TagIds.{TagIds}
use Rattle.index_file.specs.declared.content.MeasurementIds.{MeasurementIds}
use Rattle.index_file.specs.declared.content.Content.{Content}

-- the letters TSIP, and the version
abbrev pub head : List ℕ
head = 84 ∷ 83 ∷ 73 ∷ 80 ∷ 1 ∷ []

-- how many items there are (4 bytes), and one item behind the other
unfoldable pub counted_bytes : {X : Type 0} → (X → List ℕ) → List X → List ℕ
counted_bytes item_bytes items = bytes_of_u32 (length items) ++ flat_map item_bytes items

-- the length of the name (2 bytes), and the name
unfoldable pub text_bytes : List ℕ → List ℕ
text_bytes text = bytes_of_u16 (length text) ++ text

-- four bytes an id
abbrev pub ids_bytes : List ℕ → List ℕ
ids_bytes = counted_bytes bytes_of_u32

-- the name, and its ids
unfoldable pub named_bytes : NameIds → List ℕ
named_bytes list = text_bytes list.name ++ ids_bytes list.ids

-- the key, and its values
unfoldable pub tag_bytes : TagIds → List ℕ
tag_bytes tag = text_bytes tag.key ++ counted_bytes named_bytes tag.values

-- the name, the ids, the fields and the tags
unfoldable pub measurement_bytes : MeasurementIds → List ℕ
measurement_bytes measurement =
    text_bytes measurement.name ++ ids_bytes measurement.ids ++ counted_bytes named_bytes measurement.fields
    ++ counted_bytes tag_bytes measurement.tags

-- all bytes of which the checksum is taken: the head, so many measurements, and their bytes
unfoldable pub front_of : ℕ → List ℕ → List ℕ
front_of count body = head ++ bytes_of_u32 count ++ body

-- what stands before the checksum of the file of a content
abbrev pub front_bytes : Content → List ℕ
front_bytes content = front_of (length content.measurements) (flat_map measurement_bytes content.measurements)

-- the checksum comes last, in four bytes
abbrev pub file_of : Content → List ℕ
file_of content = front_bytes content ++ bytes_of_u32 (crc32_of (front_bytes content))
