-- The table of the Booleans of four bits, and a byte of two of its rows.
use Rattle.std.proofs.Common.{◌≡◌, ℕ, ◌+◌, ◌*◌, ◌/◌, ◌%◌, ◌<◌, Bool, true, false, ◌&&◌, cond, eqb, List, [], ◌∷◌, ◌++◌, map, length, get_or, refl, ◌∙◌, ap, subst, arith}
use Rattle.std.specs.List.{list_all}
use Rattle.std.specs.Cmp.{first_so, second_so}
use Rattle.std.proofs.lemmas.Bool.{eqb-true, agree_below_at}
use Rattle.std.proofs.lemmas.List.{get_or_default, map-append, length-map}
use Rattle.std.proofs.lemmas.List.Elements.{All-nil, All-cons}
use Rattle.tsdb_types.specs.declared.value.Kind.TheVariants.{Boolean}
use Rattle.tsdb_types.specs.declared.value.Value.{Value}
use Rattle.tsdb_types.specs.declared.value.Value.TheVariants.{Int, Uint, Bool as Truth}
use Rattle.tsdb_types.specs.Values.{kind_of}
use Rattle.value_codec.specs.Booleans.{byte_of}
use Rattle.value_codec.specs.Coding.{truth_of, AreOf}
use Rattle.value_codec.proofs.BitLemmas.{byte_of-nil, byte_of-cons}

abbrev pub halves : List (List Value)
halves =
    (Truth false ∷ Truth false ∷ Truth false ∷ Truth false ∷ []) ∷
    (Truth false ∷ Truth false ∷ Truth false ∷ Truth true ∷ []) ∷
    (Truth false ∷ Truth false ∷ Truth true ∷ Truth false ∷ []) ∷
    (Truth false ∷ Truth false ∷ Truth true ∷ Truth true ∷ []) ∷
    (Truth false ∷ Truth true ∷ Truth false ∷ Truth false ∷ []) ∷
    (Truth false ∷ Truth true ∷ Truth false ∷ Truth true ∷ []) ∷
    (Truth false ∷ Truth true ∷ Truth true ∷ Truth false ∷ []) ∷
    (Truth false ∷ Truth true ∷ Truth true ∷ Truth true ∷ []) ∷
    (Truth true ∷ Truth false ∷ Truth false ∷ Truth false ∷ []) ∷
    (Truth true ∷ Truth false ∷ Truth false ∷ Truth true ∷ []) ∷
    (Truth true ∷ Truth false ∷ Truth true ∷ Truth false ∷ []) ∷
    (Truth true ∷ Truth false ∷ Truth true ∷ Truth true ∷ []) ∷
    (Truth true ∷ Truth true ∷ Truth false ∷ Truth false ∷ []) ∷
    (Truth true ∷ Truth true ∷ Truth false ∷ Truth true ∷ []) ∷
    (Truth true ∷ Truth true ∷ Truth true ∷ Truth false ∷ []) ∷
    (Truth true ∷ Truth true ∷ Truth true ∷ Truth true ∷ []) ∷ []

-- four Booleans that these bits are
pub record IsHalf (bits : ℕ) (row : List Value) : Type 0 where
  pub size : length row ≡ 4
  pub kind : AreOf Boolean row
  pub spelled : byte_of 8 (map truth_of row) ≡ bits

is_truth : Value → Bool
is_truth (Int number) = false
is_truth (Uint number) = false
is_truth (Truth truth) = true

truth_kind : (value : Value) → is_truth value ≡ true → kind_of value ≡ Boolean
unfolding is_truth
truth_kind (Int number) is = absurd (cc is)
truth_kind (Uint number) is = absurd (cc is)
truth_kind (Truth truth) is = refl

truths_kind : (row : List Value) → list_all is_truth row ≡ true → AreOf Boolean row
truths_kind [] all = All-nil (λ value. kind_of value ≡ Boolean)
truths_kind (value ∷ row) all =
    All-cons (λ v. kind_of v ≡ Boolean) value row (truth_kind value (first_so (is_truth value) (list_all is_truth row) all)) (truths_kind row (second_so (is_truth value) (list_all is_truth row) all))

-- whether a row is what its place says
fits_place : ℕ → List Value → Bool
fits_place bits row = eqb (length row) 4 && (list_all is_truth row && eqb (byte_of 8 (map truth_of row)) bits)

half_from : (bits : ℕ) (row : List Value) → fits_place bits row ≡ true → IsHalf bits row
unfolding fits_place
half_from bits row fits =
    let rest = second_so (eqb (length row) 4) (list_all is_truth row && eqb (byte_of 8 (map truth_of row)) bits) fits in
    record {
      size = eqb-true (length row) 4 (first_so (eqb (length row) 4) (list_all is_truth row && eqb (byte_of 8 (map truth_of row)) bits) fits);
      kind = truths_kind row (first_so (list_all is_truth row) (eqb (byte_of 8 (map truth_of row)) bits) rest);
      spelled = eqb-true (byte_of 8 (map truth_of row)) bits (second_so (list_all is_truth row) (eqb (byte_of 8 (map truth_of row)) bits) rest);
    }

all_fit : (bits : ℕ) → bits < 16 → fits_place bits (get_or halves bits []) ≡ true
unfolding fits_place is_truth byte_of
all_fit bits below = agree_below_at (λ k. fits_place k (get_or halves k [])) (λ _. true) 16 bits refl below

pub half_at : (bits : ℕ) (other : List Value) → bits < 16 → IsHalf bits (get_or halves bits other)
half_at bits other below =
    let P : List Value → Type 0 = IsHalf bits in
    subst P (get_or_default halves bits [] other below) (half_from bits (get_or halves bits []) (all_fit bits below))

-- ---- two halves

weigh : (truth : Bool) (weight : ℕ) → cond truth (16 * weight) 0 ≡ 16 * cond truth weight 0
weigh true weight = refl
weigh false weight = refl

four : (front back : List Bool) → length front ≡ 4 → byte_of 128 (front ++ back) ≡ 16 * byte_of 8 front + byte_of 8 back
four [] back size = absurd (omega (arith, size))
four (a ∷ []) back size = absurd (omega (arith, size))
four (a ∷ b ∷ []) back size = absurd (omega (arith, size))
four (a ∷ b ∷ c ∷ []) back size = absurd (omega (arith, size))
four (a ∷ b ∷ c ∷ d ∷ []) back size =
    omega (
      arith,
      byte_of-cons 128 a (b ∷ c ∷ d ∷ back),
      byte_of-cons 64 b (c ∷ d ∷ back),
      byte_of-cons 32 c (d ∷ back),
      byte_of-cons 16 d back,
      byte_of-cons 8 a (b ∷ c ∷ d ∷ []),
      byte_of-cons 4 b (c ∷ d ∷ []),
      byte_of-cons 2 c (d ∷ []),
      byte_of-cons 1 d [],
      byte_of-nil 0,
      weigh a 8,
      weigh b 4,
      weigh c 2,
      weigh d 1,
    )
four (a ∷ b ∷ c ∷ d ∷ e ∷ others) back size = absurd (omega (arith, size))

pub whole_byte : (byte : ℕ) (high low : List Value) → IsHalf (byte / 16) high → IsHalf (byte % 16) low → byte_of 128 (map truth_of (high ++ low)) ≡ byte
whole_byte byte high low front back =
    ap (byte_of 128) (map-append truth_of high low)
    ∙ four (map truth_of high) (map truth_of low) (length-map high truth_of ∙ front.size)
    ∙ omega (arith, front.spelled, back.spelled)
