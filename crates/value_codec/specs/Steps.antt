-- How whole numbers of 64 bits are coded: by the steps from each to the next.
use Rattle.std.specs.Prelude.{◌≡◌, ◌≢◌, ℕ, ◌+◌, ◌-◌, ◌^◌, ◌%◌, ◌<◌, ◌==◌, Bool, true, false, All, ◌&&◌, nat_lt, if◌then◌else◌, List, [], ◌∷◌, ◌++◌, length, slice_index}
use Rattle.std.specs.Int.{w64, cast_signed, to_be_bytes}
use Rattle.std.specs.List.{flat_map, list_all}
use Rattle.word_codec.specs.Uvarint.{uvarint}
use Rattle.word_codec.specs.Zigzag.{zigzag_of}
use Rattle.simple8b.specs.Words.{words_of}
use Rattle.value_codec.specs.declared.form.Form.{Form}
use Rattle.value_codec.specs.declared.form.Form.TheVariants.{Raw, Packed, RunLength}

-- the step from one number to the next, wrapping at 2^64, read as a signed number and zigzagged
unfoldable pub step_of : ℕ → ℕ → ℕ
step_of before number = zigzag_of (cast_signed w64 ((number + (2 ^ 64 - before)) % 2 ^ 64))

-- the steps to each number of a list, the first from a number before it
unfoldable pub steps_from : ℕ → List ℕ → List ℕ
steps_from before [] = []
steps_from before (number ∷ numbers) = step_of before number ∷ steps_from number numbers

-- a number in eight bytes, the highest first
abbrev pub big_endian : ℕ → List ℕ
big_endian number = to_be_bytes w64 number

-- two or more steps, all equal
unfoldable pub is_run : List ℕ → Bool
is_run [] = false
is_run (first ∷ others) = nat_lt 0 (length others) && list_all (λ step. step == first) others

-- the form of a first step and those after it: a run of equal steps counts only behind the first, and numbers are
-- packed where every step, also the first, is below 2^60
unfoldable pub form_of : ℕ → List ℕ → Form
form_of first rest =
    if is_run rest then RunLength else (if nat_lt first (2 ^ 60) && list_all (λ step. nat_lt step (2 ^ 60)) rest then Packed else Raw)

-- the first byte
abbrev pub form_byte : Form → ℕ
form_byte Raw = 0
form_byte Packed = 16
form_byte RunLength = 32

-- the bytes behind the first step: each step, or the words of all, or the step that repeats and how often it stands
unfoldable pub tail_of : Form → List ℕ → List ℕ
tail_of Raw rest = flat_map big_endian rest
tail_of Packed rest = flat_map big_endian (words_of rest)
tail_of RunLength rest = uvarint (slice_index rest 0) ++ uvarint (length rest)

-- the bytes of steps; no numbers have no bytes
unfoldable pub coded_steps : List ℕ → List ℕ
coded_steps [] = []
coded_steps (first ∷ rest) = (form_byte (form_of first rest) ∷ big_endian first) ++ tail_of (form_of first rest) rest

-- steps that may stand in a form: a run of them, or none of 2^60 or more, or any
abbrev pub FitsForm : Form → List ℕ → Type 0
FitsForm Raw rest = All (λ step. step < 2 ^ 64) rest
FitsForm Packed rest = All (λ step. step < 2 ^ 60) rest
FitsForm RunLength rest = (is_run rest ≡ true) × All (λ step. step < 2 ^ 64) rest

-- so many steps were read of the bytes of a form, and no others have these bytes
pub record AreRead (form : Form) (count : ℕ) (bytes rest : List ℕ) : Type 0 where
  pub size : length rest ≡ count
  pub fit : All (λ step. step < 2 ^ 64) rest
  pub spelled : tail_of form rest ≡ bytes
  pub only : (other : List ℕ) → FitsForm form other → length other ≡ count → tail_of form other ≡ bytes → other ≡ rest

-- no so many steps have these bytes
abbrev pub NoneRead : Form → ℕ → List ℕ → Type 0
NoneRead form count bytes = (other : List ℕ) → FitsForm form other → length other ≡ count → tail_of form other ≢ bytes
