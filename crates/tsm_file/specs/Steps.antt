-- What the steps of a writer do.
use Rattle.std.specs.Prelude.{◌≡◌, ℕ, ◌+◌, ◌*◌, ◌<◌, ◌^◌, ℤ, ◌<ℤ◌, List, [], ◌∷◌, ◌++◌, length, Option}
use Rattle.tsdb_types.specs.Keys.{MarkAt}
use Rattle.tsdb_types.specs.Values.{kind_of}
use Rattle.tsdb_types.specs.declared.value.Value.{Value}
use Rattle.tsm_format.specs.Rows.{AreIndex, IsAbove, IsEntry}
use Rattle.tsm_file.specs.ReadBlocks.{last_time}
use Rattle.tsm_file.specs.Written.{KeyBlocks, KeyedPoint, all_points, block_bytes, entry_of, file_bytes, first_time, index_at}
use Rattle.tsm_file.specs.Writing.{AreDone}
use Rattle.tsm_file.specs.declared.writer.TsmWriter.{TsmWriter}

-- the points that were left are written as a block of the last key
pub record EndsBlock {W : Type 0} (tells : Type 0) (content : W → List ℕ) (old new : TsmWriter W) : Type 0 where
  pub fits : IsEntry old.end (entry_of old.kind old.end old.points.items)
  pub entries : new.entries.items ≡ old.entries.items ++ entry_of old.kind old.end old.points.items ∷ []
  pub end : new.end ≡ old.end + length (block_bytes old.kind old.points.items)
  pub count : new.count ≡ old.count + length old.points.items
  pub left : new.points.items ≡ []
  pub rows : new.rows.items ≡ old.rows.items
  pub key : new.key.items ≡ old.key.items
  pub kind : new.kind ≡ old.kind
  pub bytes : tells → content new.device ≡ content old.device ++ block_bytes old.kind old.points.items

-- the key may come behind this one
pub record MayBegin (last : Option (List ℕ)) (key : List ℕ) : Type 0 where
  pub fits : length key < 2 ^ 16
  pub mark : (at : ℕ) × MarkAt key at
  pub above : IsAbove last key

-- the last key may get a further point of this time and value
pub record MayGoOn {W : Type 0} (writer : TsmWriter W) (time : ℤ) (value : Value) : Type 0 where
  pub later : last_time (first_time writer.points.items) writer.points.items <ℤ time
  pub alike : kind_of value ≡ writer.kind
  pub few : 1000 * length writer.entries.items + length writer.points.items < 65535000

-- all is written: the blocks of all keys, the index and the footer
pub record IsEnded {W : Type 0} (tells : Type 0) (content : List ℕ) (writer : TsmWriter W) (pushed : List KeyedPoint) : Type 0 where
  pub keys : List KeyBlocks
  pub done : AreDone writer.rows.items keys
  pub all : all_points keys ≡ pushed
  pub count : writer.count ≡ length pushed
  pub index : AreIndex (index_at keys) writer.rows.items
  pub bytes : tells → content ≡ file_bytes keys
