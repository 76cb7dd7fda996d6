-- What are any bytes read as, and what is wrong with those that are no index file?
use Rattle.std.specs.Prelude.{◌≡◌, ◌≢◌, ℕ, ◌+◌, ◌<◌, ◌^◌, List, [], ◌++◌, length, Result, Ok, Err, ◌⊎◌, ⊤}
use Rattle.std.specs.List.{flat_map, AllByRecursion}
use Rattle.std.specs.List.Sorted.{IsStrictlySortedBy}
use Rattle.std.specs.declared.cmp.Ordering.TheVariants.{Less}
use Rattle.fixed_width.specs.Fields.{bytes_of_u32}
use Rattle.word_codec.specs.Crc32.{crc32_of}
use Rattle.shard_disk.specs.declared.damage.Damage.{Damage}
use Rattle.shard_disk.specs.declared.damage.FormatFault.{FormatFault}
use Rattle.shard_disk.specs.declared.damage.FormatFault.TheVariants.{Damaged, Memory}
use Rattle.shard_disk.specs.declared.damage.Why.TheVariants.{Head, Sum, Body}
use Rattle.index_file.specs.declared.content.MeasurementIds.{MeasurementIds}
use Rattle.index_file.specs.declared.content.Content.{Content}
use Rattle.index_file.specs.Contents.{IsContent, IsMeasurement, name_cmp}
use Rattle.index_file.specs.Format.{head, front_of, file_of, measurement_bytes}

-- the bytes of a head, a count and a checksum: no file is shorter
abbrev pub least_len : ℕ
least_len = 13

-- it is too short, or begins otherwise
abbrev pub HasNoHead : List ℕ → Type 0
HasNoHead bytes = (length bytes < least_len) ⊎ ((rest : List ℕ) → bytes ≢ head ++ rest)

-- behind the head stand this count and these bytes, and in the last four this checksum
pub record IsFramed (count : ℕ) (body : List ℕ) (stored : ℕ) (bytes : List ℕ) : Type 0 where
  pub whole : bytes ≡ front_of count body ++ bytes_of_u32 stored
  pub count_fits : count < 2 ^ 32
  pub stored_fits : stored < 2 ^ 32

-- the checksum that the front has is another one
abbrev pub HasWrongSum : ℕ → List ℕ → ℕ → Type 0
HasWrongSum count body stored = stored ≢ crc32_of (front_of count body)

-- a good measurement, whose name comes behind those of the others
pub record MayFollow (measurements : List MeasurementIds) (measurement : MeasurementIds) : Type 0 where
  pub good : IsMeasurement measurement
  pub behind : AllByRecursion (λ other. name_cmp other.name measurement.name ≡ Less) measurements

-- Good measurements in order, and behind them bytes that the count doesn't want, or at whose front it wants one more and none
-- stands that may follow.
pub record IsCutBehind (count : ℕ) (body : List ℕ) (measurements : List MeasurementIds) : Type 0 where
  pub good : AllByRecursion IsMeasurement measurements
  pub ascending : IsStrictlySortedBy (λ x y. name_cmp x.name y.name) measurements
  pub rest : List ℕ
  pub whole : body ≡ flat_map measurement_bytes measurements ++ rest
  pub cut :
      ((length measurements ≡ count) × (rest ≢ []))
      ⊎ ((length measurements < count) × ((measurement : MeasurementIds) (more : List ℕ) → MayFollow measurements measurement → rest ≢ measurement_bytes measurement ++ more))

-- such bytes are damaged where these measurements end
abbrev pub IsDamagedBody : ℕ → ℕ → List ℕ → Damage → Type 0
IsDamagedBody file count body damage =
    (measurements : List MeasurementIds) × IsCutBehind count body measurements
    × (damage ≡ record { file = file; offset = 9 + length (flat_map measurement_bytes measurements); why = Body })

-- What the bytes of a file with this number are read as: its content, or the damage. A wrong head comes first, at 0; then a
-- wrong checksum, at its own place; then the first measurement that is wrong or isn't wanted, at its first byte.
abbrev pub Reads : ℕ → List ℕ → Result Content Damage → Type 0
Reads file bytes (Ok content) = IsContent content × (bytes ≡ file_of content)
Reads file bytes (Err damage) =
    (HasNoHead bytes × (damage ≡ record { file = file; offset = 0; why = Head }))
    ⊎ ((count : ℕ) × (body : List ℕ) × (stored : ℕ) × IsFramed count body stored bytes × HasWrongSum count body stored
    × (damage ≡ record { file = file; offset = length (front_of count body); why = Sum stored (crc32_of (front_of count body)) }))
    ⊎ ((count : ℕ) × (body : List ℕ) × IsFramed count body (crc32_of (front_of count body)) bytes × IsDamagedBody file count body damage)

-- a call that reads a file answered what it is read as, or that memory ran out
abbrev pub Answers : Result Content FormatFault → Result Content Damage → Type 0
Answers (Ok content) answer = answer ≡ Ok content
Answers (Err (Damaged damage)) answer = answer ≡ Err damage
Answers (Err Memory) answer = ⊤
