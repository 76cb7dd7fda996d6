-- A byte of Booleans that is read in part.
use Rattle.std.proofs.Common.{◌≡◌, ◌≤◌, ◌<◌, ◌+◌, ◌/◌, ◌^◌, ◌++◌, ◌∷◌, [], ℕ, Bool, true, false, cond, List, map, drop, length, ⊎_elim, sym, ◌∙◌, ap, refl, arith, append_assoc, length-append}
use Rattle.std.proofs.lemmas.Bool.{cases_Bool}
use Rattle.std.proofs.lemmas.Nat.{shr-shr, pow_below}
use Rattle.std.proofs.lemmas.List.{map_push, append-nil, drop-drop, drop_all}
use Rattle.std.proofs.lemmas.List.Elements.{All-push, All-nil}
use Rattle.simple8b.proofs.Tables.{pow_le}
use Rattle.tsdb_types.specs.declared.value.Kind.TheVariants.{Boolean}
use Rattle.tsdb_types.specs.declared.value.Value.{Value}
use Rattle.tsdb_types.specs.declared.value.Value.TheVariants.{Bool as Truth}
use Rattle.tsdb_types.specs.Values.{kind_of}
use Rattle.value_codec.specs.Booleans.{byte_of}
use Rattle.value_codec.specs.Coding.{truth_of, AreOf, AddsByte}
use Rattle.value_codec.proofs.BitLemmas.{byte_of-nil, byte_of-cons, half_lt}

-- the Booleans so far, and what is left of the byte for those that follow
pub record Begun (byte rest weight k : ℕ) (old new : List Value) : Type 0 where
  pub added : List Value
  pub after : new ≡ old ++ added
  pub count : length added ≡ k
  pub alike : AreOf Boolean added
  pub read : (later : List Bool) → byte_of 128 (map truth_of added ++ later) + rest ≡ byte + byte_of weight later
  pub weight_is : weight ≡ 128 / 2 ^ k
  pub only : (truths : List Bool) → byte_of 128 truths ≡ byte → byte_of weight (drop k truths) ≡ rest

pub begun : (byte : ℕ) (old : List Value) → Begun byte byte 128 0 old old
begun byte old = record {
  added = [];
  after = sym (append-nil old);
  count = refl;
  alike = All-nil (λ value. kind_of value ≡ Boolean);
  read = λ later. omega arith;
  weight_is = refl;
  only = λ truths is. is;
}

-- what is left behind one Boolean
left : (weight rest next : ℕ) (truth : Bool) (truths : List Bool) → 1 ≤ weight → byte_of weight truths ≡ rest → next + cond truth weight 0 ≡ rest → (truth ≡ true → weight ≤ rest) → (truth ≡ false → rest < weight) → byte_of (weight / 2) (drop 1 truths) ≡ next
left weight rest next truth [] some is taken high low =
    ⊎_elim
    (λ yes. absurd (omega (arith, is, byte_of-nil weight, high yes)))
    (λ no. omega (arith, is, byte_of-nil weight, byte_of-nil (weight / 2), taken, ap (λ (b : Bool). cond b weight 0) no))
    (cases_Bool truth)
left weight rest next truth (first ∷ others) some is taken high low =
    let whole : cond first weight 0 + byte_of (weight / 2) others ≡ rest = sym (byte_of-cons weight first others) ∙ is in
    let small : byte_of (weight / 2) others < weight = half_lt weight others some in
    ⊎_elim
    (λ yes. ⊎_elim
    (λ set. omega (arith, whole, taken, ap (λ (b : Bool). cond b weight 0) yes, ap (λ (b : Bool). cond b weight 0) set))
    (λ clear. absurd (omega (arith, whole, small, high yes, ap (λ (b : Bool). cond b weight 0) clear)))
    (cases_Bool first))
    (λ no. ⊎_elim
    (λ set. absurd (omega (arith, whole, low no, ap (λ (b : Bool). cond b weight 0) set)))
    (λ clear. omega (arith, whole, taken, ap (λ (b : Bool). cond b weight 0) no, ap (λ (b : Bool). cond b weight 0) clear))
    (cases_Bool first))
    (cases_Bool truth)

pub begun_more : (byte rest weight k next : ℕ) (truth : Bool) (old new more : List Value) → Begun byte rest weight k old new → k < 8 → more ≡ new ++ Truth truth ∷ [] → next + cond truth weight 0 ≡ rest → (truth ≡ true → weight ≤ rest) → (truth ≡ false → rest < weight) → Begun byte next (weight / 2) (k + 1) old more
begun_more byte rest weight k next truth old new more begun-so below pushed taken high low =
    let some : 1 ≤ weight = omega (arith, begun-so.weight_is, at_least_one k below) in
    record {
      added = begun-so.added ++ Truth truth ∷ [];
      after = pushed ∙ ap (λ (vs : List Value). vs ++ Truth truth ∷ []) begun-so.after ∙ append_assoc old begun-so.added (Truth truth ∷ []);
      count = length-append begun-so.added (Truth truth ∷ []) ∙ omega (arith, begun-so.count);
      alike = All-push (λ value. kind_of value ≡ Boolean) begun-so.added (Truth truth) begun-so.alike refl;
      read = λ later.
          let joined : map truth_of (begun-so.added ++ Truth truth ∷ []) ++ later ≡ map truth_of begun-so.added ++ (truth ∷ later) =
          ap (λ (ts : List Bool). ts ++ later) (map_push truth_of begun-so.added (Truth truth)) ∙ append_assoc (map truth_of begun-so.added) (truth ∷ []) later in
          omega (arith, ap (byte_of 128) joined, begun-so.read (truth ∷ later), byte_of-cons weight truth later, taken);
      weight_is = ap (λ (w : ℕ). w / 2) begun-so.weight_is ∙ shr-shr 128 k 1;
      only = λ truths is.
          ap (byte_of (weight / 2)) (sym (drop-drop 1 k truths)) ∙ left weight rest next truth (drop k truths) some (begun-so.only truths is) taken high low;
    }
  where
    at_least_one : (k : ℕ) → k < 8 → 1 ≤ 128 / 2 ^ k
    at_least_one k below = Rattle.std.proofs.lemmas.Nat.le-div 1 128 (2 ^ k) (Rattle.std.proofs.lemmas.Nat.pow_pos k) (omega (arith, pow_le k 7 (omega arith)))

pub all_read : (byte rest weight size : ℕ) (old new : List Value) → Begun byte rest weight size old new → rest ≡ 0 → AddsByte byte size old new
all_read byte rest weight size old new read none = record {
  added = read.added;
  after = read.after;
  count = read.count;
  alike = read.alike;
  spelled = omega (arith, ap (byte_of 128) (append-nil (map truth_of read.added)), read.read [], byte_of-nil weight, none);
}

pub none_left : (byte rest weight size : ℕ) (old new : List Value) (truths : List Bool) → Begun byte rest weight size old new → length truths ≡ size → byte_of 128 truths ≡ byte → rest ≡ 0
none_left byte rest weight size old new truths read count is =
    sym (read.only truths is) ∙ ap (byte_of weight) (drop_all size truths (omega arith)) ∙ byte_of-nil weight
