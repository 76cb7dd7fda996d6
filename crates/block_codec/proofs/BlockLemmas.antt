-- The parts of a block.
use Rattle.std.proofs.Common.{◌≡◌, ◌≢◌, ◌<◌, ◌≤◌, ◌+◌, ◌^◌, ℕ, ℤ, List, [], ◌∷◌, ◌++◌, length, map, take, drop, subst, sym, ◌∙◌, ap, refl, arith, append_assoc, length-append, Result, Ok, Err, IsErr, MatchResult}
use Rattle.std.proofs.lemmas.List.{take_at, drop_at, length-map}
use Rattle.std.proofs.lemmas.Bool.{false≢true}
use Rattle.tsdb_types.specs.declared.block.BlockFault.{BlockFault}
use Rattle.tsdb_types.specs.declared.block.BlockFault.TheVariants.{BadBlock, BadKind, Memory}
use Rattle.tsdb_types.specs.declared.value.Kind.{Kind}
use Rattle.tsdb_types.specs.declared.value.Kind.TheVariants.{Integer, Unsigned, Boolean}
use Rattle.tsdb_types.specs.declared.value.Value.{Value}
use Rattle.word_codec.specs.Uvarint.{uvarint}
use Rattle.word_codec.proofs.UvarintLemmas.{apart as numbers_apart}
use Rattle.time_codec.specs.Times.{AreTimes, coded_times}
use Rattle.value_codec.specs.Coding.{AreOf, coded_as, IsSpelled}
use Rattle.block_codec.specs.Blocks.{type_byte, times_of, values_of, coded_block, ArePoints, IsBlock}

pub coded_block-is : (kind : Kind) (points : List (ℤ × Value)) → coded_block kind points ≡ type_byte kind ∷ (uvarint (length (coded_times (times_of points))) ++ coded_times (times_of points) ++ coded_as kind (values_of points))
unfolding coded_block
coded_block-is kind points = refl

-- the parts of a block that begins with a byte
pub record HasParts (points : List (ℤ × Value)) (head : ℕ) (behind : List ℕ) : Type 0 where
  pub kind : Kind
  pub first : type_byte kind ≡ head
  pub rest : behind ≡ uvarint (length (coded_times (times_of points))) ++ coded_times (times_of points) ++ coded_as kind (values_of points)
  pub times : AreTimes (times_of points)
  pub alike : AreOf kind (values_of points)

heads : (one two : ℕ) (front back : List ℕ) → one ∷ front ≡ two ∷ back → (one ≡ two) × (front ≡ back)
heads one two front back same = (cc, cc)

pub parts_of : (points : List (ℤ × Value)) (bytes : List ℕ) (head : ℕ) (behind : List ℕ) → IsBlock bytes points → bytes ≡ head ∷ behind → HasParts points head behind
parts_of points bytes head behind block front =
    let whole = heads (type_byte block.kind) head _ behind (sym (coded_block-is block.kind points) ∙ block.spelled ∙ front) in
    record { kind = block.kind; first = whole.0; rest = sym whole.1; times = block.points_are.times; alike = block.points_are.alike }

pub type_byte_apart : (one two : Kind) → type_byte one ≡ type_byte two → one ≡ two
type_byte_apart Integer Integer same = refl
type_byte_apart Integer Unsigned same = absurd (omega (arith, same))
type_byte_apart Integer Boolean same = absurd (omega (arith, same))
type_byte_apart Unsigned Integer same = absurd (omega (arith, same))
type_byte_apart Unsigned Unsigned same = refl
type_byte_apart Unsigned Boolean same = absurd (omega (arith, same))
type_byte_apart Boolean Integer same = absurd (omega (arith, same))
type_byte_apart Boolean Unsigned same = absurd (omega (arith, same))
type_byte_apart Boolean Boolean same = refl

-- where the parts were cut, they are the block's
pub same_parts : (points : List (ℤ × Value)) (head : ℕ) (behind times values : List ℕ) (parts : HasParts points head behind) → behind ≡ uvarint (length times) ++ times ++ values → (times ≡ coded_times (times_of points)) × (values ≡ coded_as parts.kind (values_of points))
same_parts points head behind times values parts cut =
    let coded = coded_times (times_of points) in
    let codes = coded_as parts.kind (values_of points) in
    let split = numbers_apart (length times) (length coded) (times ++ values) (coded ++ codes) (sym (append_assoc (uvarint (length times)) times values) ∙ sym cut ∙ parts.rest ∙ append_assoc (uvarint (length coded)) coded codes) in (
      sym (take_at times values (length times) refl) ∙ ap (take (length times)) split.1 ∙ take_at coded codes (length times) (sym split.0),
      sym (drop_at times values (length times) refl) ∙ ap (drop (length times)) split.1 ∙ drop_at coded codes (length times) (sym split.0),
    )

pub lengths : (points : List (ℤ × Value)) → length (values_of points) ≡ length (times_of points)
lengths points = length-map points (λ point. point.1) ∙ sym (length-map points (λ point. point.0))

-- a block that was read part by part
pub block_read : (points : List (ℤ × Value)) (bytes behind times values : List ℕ) (head : ℕ) (kind : Kind) (moments : List ℤ) (items : List Value) → bytes ≡ head ∷ behind → type_byte kind ≡ head → behind ≡ uvarint (length times) ++ times ++ values → AreTimes moments → times ≡ coded_times moments → AreOf kind items → coded_as kind items ≡ values → times_of points ≡ moments → values_of points ≡ items → IsBlock bytes points
block_read points bytes behind times values head kind moments items front first cut are coded alike spelled moments-are items-are = record {
  kind = kind;
  points_are = record { times = subst AreTimes (sym moments-are) are; alike = subst (AreOf kind) (sym items-are) alike };
  spelled =
      coded_block-is kind points
      ∙ ap (λ (ts : List ℤ). type_byte kind ∷ (uvarint (length (coded_times ts)) ++ coded_times ts ++ coded_as kind (values_of points))) moments-are
      ∙ ap (λ (ts : List ℕ). type_byte kind ∷ (uvarint (length ts) ++ ts ++ coded_as kind (values_of points))) (sym coded)
      ∙ ap (λ (vs : List Value). type_byte kind ∷ (uvarint (length times) ++ times ++ coded_as kind vs)) items-are
      ∙ ap (λ (bs : List ℕ). type_byte kind ∷ (uvarint (length times) ++ times ++ bs)) spelled
      ∙ ap (λ (bs : List ℕ). type_byte kind ∷ bs) (sym cut)
      ∙ ap (λ (b : ℕ). b ∷ behind) first
      ∙ sym front;
}

-- ---- the points of a block

pub pairs_apart : (one two : List (ℤ × Value)) → times_of one ≡ times_of two → values_of one ≡ values_of two → one ≡ two
pairs_apart [] [] times values = refl
pairs_apart [] (b ∷ two) times values = absurd (omega (arith, ap length times))
pairs_apart (a ∷ one) [] times values = absurd (omega (arith, ap length times))
pairs_apart (a ∷ one) (b ∷ two) times values =
    let time : a.0 ≡ b.0 = cc in
    let value : a.1 ≡ b.1 = cc in
    let later : times_of one ≡ times_of two = cc in
    let others : values_of one ≡ values_of two = cc in
    let first : a ≡ b = ap (λ (t : ℤ). (t, a.1)) time ∙ ap (λ (v : Value). (b.0, v)) value in
    ap (λ (p : ℤ × Value). p ∷ one) first ∙ ap (λ (ps : List (ℤ × Value)). b ∷ ps) (pairs_apart one two later others)

-- an error that is no other
pub memory_alone : {T : Type 0} (r : Result T BlockFault) (P : T → Type 0) → IsErr r → (r ≡ Err BadBlock → ⊥) → ((byte : ℕ) → r ≡ Err (BadKind byte) → ⊥) → MatchResult r P (λ e. e ≡ Memory)
memory_alone (Ok x) P err block kind = absurd (false≢true err)
memory_alone (Err BadBlock) P err block kind = absurd (block refl)
memory_alone (Err (BadKind byte)) P err block kind = absurd (kind byte refl)
memory_alone (Err Memory) P err block kind = refl
