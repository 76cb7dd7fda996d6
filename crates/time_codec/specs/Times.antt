-- Which bytes stand for a list of times.
use Rattle.std.specs.Prelude.{◌≡◌, ℕ, zero, suc, ◌+◌, ◌*◌, ◌/◌, ◌%◌, ◌^◌, ◌<◌, ◌≤◌, Bool, false, nat_lt, ◌==◌, if◌then◌else◌, ℤ, ◌-ℤ◌, ◌<ℤ◌, unsigned_abs, List, [], ◌∷◌, ◌++◌, length, map, All, slice_index}
use Rattle.std.specs.List.{list_all, flat_map}
use Rattle.std.specs.Int.{to_be_bytes, cast_unsigned, w64}
use Rattle.tsdb_types.specs.Moments.{IsMoment}
use Rattle.word_codec.specs.Uvarint.{uvarint}
use Rattle.simple8b.specs.Words.{words_of}
use Rattle.tsdb_types.specs.declared.block.BlockFault.{BlockFault}
use Rattle.tsdb_types.specs.declared.block.BlockFault.TheVariants.{BadKind, BadBlock, Memory}
use Rattle.time_codec.specs.declared.form.Form.{Form}
use Rattle.time_codec.specs.declared.form.Form.TheVariants.{Raw, Packed, RunLength}

-- each time is later than the one before
abbrev pub Ascend : List ℤ → Type 0
Ascend [] = Unit {0}
Ascend (first ∷ []) = Unit {0}
Ascend (first ∷ second ∷ later) = (first <ℤ second) × Ascend (second ∷ later)

-- the lists that are coded: 1 to 1,000 moments, each later than the one before
pub record AreTimes (times : List ℤ) : Type 0 where
  pub some : 0 < length times
  pub most : length times ≤ 1000
  pub moments : All IsMoment times
  pub ascend : Ascend times

-- how far each time is from the one before; one time has none
abbrev pub differences : List ℤ → List ℕ
differences [] = []
differences (first ∷ []) = []
differences (first ∷ second ∷ later) = unsigned_abs (second -ℤ first) ∷ differences (second ∷ later)

-- a power of ten divides every difference
abbrev pub divides_all : ℕ → List ℕ → Bool
divides_all exponent differences = list_all (λ difference. difference % 10 ^ exponent == 0) differences

-- the greatest exponent up to `most` whose power of ten divides every difference
unfoldable pub greatest_exponent : ℕ → List ℕ → ℕ
greatest_exponent zero differences = 0
greatest_exponent (suc most) differences = if divides_all (suc most) differences then suc most else greatest_exponent most differences

-- the exponent of the scale: 12 at most, and 12 where there is no difference
abbrev pub exponent_of : List ℕ → ℕ
exponent_of differences = greatest_exponent 12 differences

-- the differences in units of a power of ten
abbrev pub scaled : ℕ → List ℕ → List ℕ
scaled exponent differences = map (λ difference. difference / 10 ^ exponent) differences

-- the differences that are so many units of a power of ten each
abbrev pub unscaled : ℕ → List ℕ → List ℕ
unscaled exponent steps = map (λ step. step * 10 ^ exponent) steps

-- there is a difference, and all are equal
abbrev pub all_same : List ℕ → Bool
all_same [] = false
all_same (first ∷ rest) = list_all (λ difference. difference == first) rest

-- run-length where there are two times or more with equal differences, else packed where each scaled difference
-- is below 2^60, else raw
unfoldable pub form_of : List ℕ → Form
form_of differences =
    if all_same differences then RunLength
    else (if list_all (λ difference. nat_lt difference (2 ^ 60)) (scaled (exponent_of differences) differences) then Packed else Raw)

-- raw differences are not scaled
abbrev pub exponent_in : Form → List ℕ → ℕ
exponent_in RunLength differences = exponent_of differences
exponent_in Packed differences = exponent_of differences
exponent_in Raw differences = 0

-- the high four bits of the first byte
abbrev pub number_of : Form → ℕ
number_of RunLength = 2
number_of Packed = 1
number_of Raw = 0

-- what stands behind the first time: the one difference and the count of the times, the words, or each difference
abbrev pub body_of : Form → List ℕ → List ℕ
body_of RunLength differences = uvarint (slice_index differences 0) ++ uvarint (length differences + 1)
body_of Packed differences = flat_map (to_be_bytes w64) (words_of differences)
body_of Raw differences = flat_map (to_be_bytes w64) differences

-- the form and the exponent in one byte, the first time, and the differences in units of that power
abbrev pub spelled : Form → ℕ → ℤ → List ℕ → List ℕ
spelled form exponent first differences =
    (16 * number_of form + exponent) ∷ (to_be_bytes w64 (cast_unsigned w64 first) ++ body_of form (scaled exponent differences))

-- the bytes of the first time and of the differences
unfoldable pub coded_from : ℤ → List ℕ → List ℕ
coded_from first differences = spelled (form_of differences) (exponent_in (form_of differences) differences) first differences

-- the bytes of a list of times; no times are no bytes
unfoldable pub coded_times : List ℤ → List ℕ
coded_times [] = []
coded_times (first ∷ later) = coded_from first (differences (first ∷ later))

-- what the bytes are where they are refused so: no times have these bytes. Want of memory says nothing of them, and
-- a bad kind is none of a list of times.
abbrev pub IsRefused : BlockFault → List ℕ → Type 0
IsRefused BadBlock bytes = (times : List ℤ) → AreTimes times → ¬ (bytes ≡ coded_times times)
IsRefused Memory bytes = Unit {0}
IsRefused (BadKind byte) bytes = ⊥
