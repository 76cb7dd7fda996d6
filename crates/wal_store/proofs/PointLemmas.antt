-- A value and a point are read off the front of bytes in one way.
use Rattle.std.proofs.Common.{◌≡◌, ◌≢◌, ℕ, ℤ, ◌^◌, ◌<◌, Bool, true, false, cond, List, [], ◌∷◌, ◌++◌, length, get_or, drop, refl, sym, ap, subst, ◌∙◌, arith, w64, FitsSigned, rules}
use Rattle.std.proofs.lemmas.List.{append_assoc, length-append}
use Rattle.std.proofs.lemmas.Int.{ints}
use Rattle.fixed_width.specs.Fields.{bytes_of_u64, bytes_of_i64}
use Rattle.fixed_width.proofs.Fronts.{length-u64, length-i64, same_u64, same_i64}
use Rattle.tsdb_types.specs.Moments.{IsMoment}
use Rattle.tsdb_types.specs.declared.point.Point.{Point}
use Rattle.tsdb_types.specs.declared.value.Value.{Value}
use Rattle.tsdb_types.specs.declared.value.Value.TheVariants.{Int, Uint, Bool as Truth}
use Rattle.wal_store.specs.Form.{text_bytes, value_bytes, point_bytes, IsValue, IsNameText, IsPointOf}
use Rattle.wal_store.proofs.TextLemmas.{same_text}

-- what stands behind the type
abbrev pub bits_of : Value → List ℕ
bits_of (Int number) = bytes_of_i64 number
bits_of (Uint number) = bytes_of_u64 number
bits_of (Truth truth) = bytes_of_u64 (cond truth 1 0)

-- the type
abbrev pub type_of : Value → ℕ
type_of (Int number) = 1
type_of (Uint number) = 4
type_of (Truth truth) = 2

value_parts : (value : Value) → value_bytes value ≡ type_of value ∷ bits_of value
value_parts (Int number) = refl
value_parts (Uint number) = refl
value_parts (Truth truth) = refl

-- eight bytes
bits_long : (value : Value) → length (bits_of value) ≡ 8
bits_long (Int number) = length-i64 number
bits_long (Uint number) = length-u64 number
bits_long (Truth truth) = length-u64 (cond truth 1 0)

-- a Boolean as a number
abbrev pub number_of : Bool → ℕ
number_of truth = cond truth 1 0

truth_fits : (truth : Bool) → number_of truth < 2 ^ 64
truth_fits true = omega arith
truth_fits false = omega arith

same_truth : (a b : Bool) → number_of a ≡ number_of b → a ≡ b
same_truth true true is = refl
same_truth true false is = absurd (omega (arith, is))
same_truth false true is = absurd (omega (arith, is))
same_truth false false is = refl

type_at : (kind : ℕ) (behind : List ℕ) (value : Value) (rest : List ℕ) → kind ∷ behind ≡ value_bytes value ++ rest → (kind ≡ type_of value) × (behind ≡ bits_of value ++ rest)
type_at kind behind value rest is =
    let whole : kind ∷ behind ≡ type_of value ∷ (bits_of value ++ rest) = is ∙ ap (λ (l : List ℕ). l ++ rest) (value_parts value) in
    (ap (λ (l : List ℕ). get_or l 0 0) whole, ap (λ (l : List ℕ). drop 1 l) whole)

same_bits : (a b : Value) (r s : List ℕ) → IsValue a → IsValue b → type_of a ≡ type_of b → bits_of a ++ r ≡ bits_of b ++ s → (a ≡ b) × (r ≡ s)
same_bits (Int a) (Int b) r s x y k is = let both = same_i64 a b r s x y is in (ap (λ (z : ℤ). Int z) both.0, both.1)
same_bits (Uint a) (Uint b) r s x y k is = let both = same_u64 a b r s x y is in (ap (λ (n : ℕ). Uint n) both.0, both.1)
same_bits (Truth a) (Truth b) r s x y k is =
    let both = same_u64 (number_of a) (number_of b) r s (truth_fits a) (truth_fits b) is in
    (ap (λ (t : Bool). Truth t) (same_truth a b both.0), both.1)
same_bits a b r s x y k is = absurd (omega (arith, k))

pub same_value : (a b : Value) (r s : List ℕ) → IsValue a → IsValue b → value_bytes a ++ r ≡ value_bytes b ++ s → (a ≡ b) × (r ≡ s)
same_value a b r s x y is =
    let both = type_at (type_of a) (bits_of a ++ r) b s (sym (ap (λ (l : List ℕ). l ++ r) (value_parts a)) ∙ is) in
    same_bits a b r s x y both.0 both.1

-- ---- no value

pub no_byte : (bytes : List ℕ) → bytes ≡ [] → (value : Value) (rest : List ℕ) → bytes ≢ value_bytes value ++ rest
no_byte bytes none value rest is =
    omega (arith, ap length (sym none ∙ is ∙ ap (λ (l : List ℕ). l ++ rest) (value_parts value)))

pub short_value : (bytes behind : List ℕ) (kind : ℕ) → bytes ≡ kind ∷ behind → length behind < 8 → (value : Value) (rest : List ℕ) → bytes ≢ value_bytes value ++ rest
short_value bytes behind kind first short value rest is =
    let both = type_at kind behind value rest (sym first ∙ is) in
    omega (arith, short, ap length both.1, length-append (bits_of value) rest, bits_long value)

known_type : (value : Value) → (type_of value ≡ 1 → ⊥) → (type_of value ≡ 2 → ⊥) → type_of value ≡ 4
known_type (Int number) one two = absurd (one refl)
known_type (Uint number) one two = refl
known_type (Truth truth) one two = absurd (two refl)

pub strange_value : (bytes behind : List ℕ) (kind : ℕ) → bytes ≡ kind ∷ behind → (kind ≡ 1 → ⊥) → (kind ≡ 2 → ⊥) → (kind ≡ 4 → ⊥) → (value : Value) (rest : List ℕ) → bytes ≢ value_bytes value ++ rest
strange_value bytes behind kind first one two four value rest is =
    let both = type_at kind behind value rest (sym first ∙ is) in
    four (both.0 ∙ known_type value (λ k. one (both.0 ∙ k)) (λ k. two (both.0 ∙ k)))

truth_of : (n : ℕ) (behind rest r : List ℕ) (value : Value) → 2 ≡ type_of value → n < 2 ^ 64 → behind ≡ bytes_of_u64 n ++ rest → behind ≡ bits_of value ++ r → (n ≡ 0 → ⊥) → (n ≡ 1 → ⊥) → ⊥
truth_of n behind rest r (Int number) k fits found is zero one = omega (arith, k)
truth_of n behind rest r (Uint number) k fits found is zero one = omega (arith, k)
truth_of n behind rest r (Truth true) k fits found is zero one = one (same_u64 n 1 rest r fits (omega arith) (sym found ∙ is)).0
truth_of n behind rest r (Truth false) k fits found is zero one = zero (same_u64 n 0 rest r fits (omega arith) (sym found ∙ is)).0

pub no_truth : (bytes behind others : List ℕ) (n : ℕ) → bytes ≡ 2 ∷ behind → n < 2 ^ 64 → behind ≡ bytes_of_u64 n ++ others → (n ≡ 0 → ⊥) → (n ≡ 1 → ⊥) → (value : Value) (rest : List ℕ) → bytes ≢ value_bytes value ++ rest
no_truth bytes behind others n first fits found zero one value rest is =
    let both = type_at 2 behind value rest (sym first ∙ is) in
    truth_of n behind others rest value both.0 fits found both.1 zero one

-- ---- a moment and a point

pub moment_fits : (time : ℤ) → IsMoment time → FitsSigned w64 time
moment_fits time is = let low = is.least in let high = is.greatest in search (arith, rules, ints)

pub point_parts : (point : Point) (rest : List ℕ) → point_bytes point ++ rest ≡ text_bytes point.cell.field ++ (bytes_of_i64 point.cell.time ++ (value_bytes point.value ++ rest))
point_parts point rest =
    append_assoc (text_bytes point.cell.field) (bytes_of_i64 point.cell.time ++ value_bytes point.value) rest
    ∙ ap (λ (l : List ℕ). text_bytes point.cell.field ++ l) (append_assoc (bytes_of_i64 point.cell.time) (value_bytes point.value) rest)

same_fields : (a b : Point) → a.cell.series ≡ b.cell.series → a.cell.field ≡ b.cell.field → a.cell.time ≡ b.cell.time → a.value ≡ b.value → a ≡ b
same_fields a b series field time value = λ i. record { cell = record { time = time i; series = series i; field = field i }; value = value i }

pub same_point : (series : List ℕ) (a b : Point) (r s : List ℕ) → IsPointOf series a → IsPointOf series b → point_bytes a ++ r ≡ point_bytes b ++ s → (a ≡ b) × (r ≡ s)
same_point series a b r s x y is =
    let field = same_text a.cell.field b.cell.field (bytes_of_i64 a.cell.time ++ (value_bytes a.value ++ r)) (bytes_of_i64 b.cell.time ++ (value_bytes b.value ++ s)) x.field.room.short y.field.room.short (sym (point_parts a r) ∙ is ∙ point_parts b s) in
    let time = same_i64 a.cell.time b.cell.time (value_bytes a.value ++ r) (value_bytes b.value ++ s) (moment_fits a.cell.time x.time) (moment_fits b.cell.time y.time) field.1 in
    let value = same_value a.value b.value r s x.value y.value time.1 in
    (same_fields a b (x.of ∙ sym y.of) field.0 time.0 value.0, value.1)

pub no_field : (series bytes : List ℕ) → ((text rest : List ℕ) → IsNameText text → bytes ≢ text_bytes text ++ rest) → (point : Point) (rest : List ℕ) → IsPointOf series point → bytes ≢ point_bytes point ++ rest
no_field series bytes none point rest is whole = none point.cell.field (bytes_of_i64 point.cell.time ++ (value_bytes point.value ++ rest)) is.field (whole ∙ point_parts point rest)

behind_field : (series bytes field behind : List ℕ) → bytes ≡ text_bytes field ++ behind → IsNameText field → (point : Point) (rest : List ℕ) → IsPointOf series point → bytes ≡ point_bytes point ++ rest
    → behind ≡ bytes_of_i64 point.cell.time ++ (value_bytes point.value ++ rest)
behind_field series bytes field behind found named point rest is whole =
    (same_text field point.cell.field behind (bytes_of_i64 point.cell.time ++ (value_bytes point.value ++ rest)) named.room.short is.field.room.short (sym found ∙ whole ∙ point_parts point rest)).1

pub no_stamped : (series bytes field behind : List ℕ) → bytes ≡ text_bytes field ++ behind → IsNameText field → ((time : ℤ) (value : Value) (rest : List ℕ) → IsMoment time → IsValue value → behind ≢ bytes_of_i64 time ++ (value_bytes value ++ rest))
    → (point : Point) (rest : List ℕ) → IsPointOf series point → bytes ≢ point_bytes point ++ rest
no_stamped series bytes field behind found named none point rest is whole =
    none point.cell.time point.value rest is.time is.value (behind_field series bytes field behind found named point rest is whole)

pub no_value : (bytes behind : List ℕ) (n : ℤ) → FitsSigned w64 n → bytes ≡ bytes_of_i64 n ++ behind → ((value : Value) (rest : List ℕ) → IsValue value → behind ≢ value_bytes value ++ rest)
    → (time : ℤ) (value : Value) (rest : List ℕ) → IsMoment time → IsValue value → bytes ≢ bytes_of_i64 time ++ (value_bytes value ++ rest)
no_value bytes behind n fits found none time value rest moment is whole =
    none value rest is (same_i64 n time behind (value_bytes value ++ rest) fits (moment_fits time moment) (sym found ∙ whole)).1

pub short_time : (bytes : List ℕ) → length bytes < 8 → (time : ℤ) (rest : List ℕ) → IsMoment time → bytes ≢ bytes_of_i64 time ++ rest
short_time bytes short time rest is whole = omega (arith, short, ap length whole, length-append (bytes_of_i64 time) rest, length-i64 time)

pub no_moment : (bytes behind : List ℕ) (n : ℤ) → FitsSigned w64 n → bytes ≡ bytes_of_i64 n ++ behind → (IsMoment n → ⊥) → (time : ℤ) (rest : List ℕ) → IsMoment time → bytes ≢ bytes_of_i64 time ++ rest
no_moment bytes behind n fits found none time rest is whole =
    none (subst IsMoment (sym (same_i64 n time behind rest fits (moment_fits time is) (sym found ∙ whole)).0) is)
