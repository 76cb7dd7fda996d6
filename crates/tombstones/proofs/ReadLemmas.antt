-- A file is read tombstone by tombstone.
use Rattle.std.proofs.Common.{◌≡◌, ℕ, ℤ, ◌+◌, ◌<◌, List, [], ◌∷◌, ◌++◌, length, Result, Ok, Err, inl, inr, ◌↔◌, refl, sym, ap, ◌∙◌, subst, arith, drop, IfOk, ◌≤ℤ◌}
use Rattle.std.specs.List.{AllByRecursion, flat_map}
use Rattle.std.proofs.lemmas.List.{append_assoc, append-nil}
use Rattle.shard_disk.specs.declared.damage.Damage.{Damage}
use Rattle.shard_disk.specs.declared.damage.FormatFault.{FormatFault}
use Rattle.shard_disk.specs.declared.damage.Why.TheVariants.{Body}
use Rattle.shard_disk.specs.declared.damage.FormatFault.TheVariants.{Damaged, Memory}
use Rattle.tsdb_types.specs.Moments.{IsMoment}
use Rattle.tombstones.specs.Covered.{Tomb, Hides, HidesAlso, HideSame}
use Rattle.tombstones.specs.declared.range.TombRange.{TombRange}
use Rattle.tombstones.specs.Format.{head, tomb_bytes, file_of, IsWritable, BeginsNone, IsCutBehind, IsCutTombs, Reads, Answers}
use Rattle.tombstones.specs.Raw.{HidesAlsoWithin}
use Rattle.tombstones.proofs.RangeLemmas.{all-append}
use Rattle.tombstones.proofs.KeptLemmas.{hides-split, hides-front, hides-back}
use Rattle.tombstones.proofs.FormatLemmas.{tomb_long, same_reading, too_short}

-- these tombstones were read, what follows them is left, and the set hides what they do
pub record HasRead (bytes rest : List ℕ) (set : List Tomb) : Type 0 where
  pub tombs : List Tomb
  pub writable : AllByRecursion IsWritable tombs
  pub whole : bytes ≡ flat_map tomb_bytes tombs ++ rest
  pub same : HideSame tombs set

pub nothing_read : (bytes : List ℕ) → HasRead bytes bytes []
nothing_read bytes = record { tombs = []; writable = tt; whole = refl; same = λ key time moment. (λ h. h, λ h. h) }

flat_push : (xs : List Tomb) (x : Tomb) (rest : List ℕ) → flat_map tomb_bytes xs ++ (tomb_bytes x ++ rest) ≡ flat_map tomb_bytes (xs ++ (x ∷ [])) ++ rest
flat_push [] x rest = ap (λ (l : List ℕ). l ++ rest) (sym (append-nil (tomb_bytes x)))
flat_push (y ∷ xs) x rest =
    append_assoc (tomb_bytes y) (flat_map tomb_bytes xs) (tomb_bytes x ++ rest) ∙ ap (λ (l : List ℕ). tomb_bytes y ++ l) (flat_push xs x rest)
    ∙ sym (append_assoc (tomb_bytes y) (flat_map tomb_bytes (xs ++ (x ∷ []))) rest)

pub one_read : (bytes rest behind : List ℕ) (set new : List Tomb) (tomb : Tomb) → HasRead bytes rest set → rest ≡ tomb_bytes tomb ++ behind → IsWritable tomb → HidesAlsoWithin set tomb new → HasRead bytes behind new
one_read bytes rest behind set new tomb read e w also = record {
  tombs = read.tombs ++ (tomb ∷ []);
  writable = all-append IsWritable read.tombs (tomb ∷ []) read.writable (w, tt);
  whole = read.whole ∙ ap (λ (l : List ℕ). flat_map tomb_bytes read.tombs ++ l) e ∙ flat_push read.tombs tomb behind;
  same = λ key time moment. (
    λ h. elim (hides-split read.tombs (tomb ∷ []) key time h) [
      | inl a ↦ (also key time moment).1 (inl ((read.same key time moment).0 a))
      | inr b ↦ elim b [ inl s ↦ (also key time moment).1 (inr s) | inr n ↦ absurd n ]
    ],
    λ h. elim ((also key time moment).0 h) [
      | inl a ↦ hides-front read.tombs (tomb ∷ []) key time ((read.same key time moment).1 a)
      | inr s ↦ hides-back read.tombs (tomb ∷ []) key time (inl s)
    ],
  );
}

pub shorter : (rest behind : List ℕ) (tomb : Tomb) → rest ≡ tomb_bytes tomb ++ behind → length behind < length rest
shorter rest behind tomb e = let long = ap length e ∙ tomb_long tomb behind in omega arith

pub also_within : (old new : List Tomb) (key : List ℕ) (range wide : TombRange) → HidesAlso old key range new
    → ((time : ℤ) → IsMoment time → (range.from ≤ℤ time) ↔ (wide.from ≤ℤ time)) → ((time : ℤ) → IsMoment time → (time ≤ℤ range.to) ↔ (time ≤ℤ wide.to))
    → HidesAlsoWithin old (record { key = key; range = wide }) new
also_within old new key range wide also from to other time moment = (
  λ h. elim (also.no_other other time h) [ inl a ↦ inl a | inr b ↦ inr (b.0, ((from time moment).0 b.1.0, (to time moment).0 b.1.1)) ],
  λ h. elim h [
    | inl a ↦ also.kept other time a
    | inr b ↦ subst (λ (k : List ℕ). Hides new k time) b.0 (also.added time ((from time moment).1 b.1.0, (to time moment).1 b.1.1))
  ],
)

-- ---- the answer

pub cut_reads : (file : ℕ) (bytes tombs : List ℕ) (damage : Damage) → bytes ≡ head ++ tombs → IsCutTombs file tombs damage → Reads file bytes (Err damage)
cut_reads file bytes tombs damage e cut =
    let behind : IsCutBehind bytes cut.tombs = record {
      writable = cut.writable;
      rest = cut.rest;
      whole = e ∙ ap (λ (l : List ℕ). head ++ l) cut.whole;
      some = cut.some;
      cut = cut.cut;
    } in
    let four : 4 + length (flat_map tomb_bytes cut.tombs) ≡ length (file_of cut.tombs) = omega arith in
    inr (cut.tombs, behind, cut.is ∙ ap (λ (n : ℕ). record { file = file; offset = n; why = Body }) four)

pub whole_reads : (file : ℕ) (bytes tombs : List ℕ) (result : Result (List Tomb) FormatFault) → bytes ≡ head ++ tombs
    → IfOk result (λ set. (read : List Tomb) × AllByRecursion IsWritable read × (tombs ≡ flat_map tomb_bytes read) × HideSame read set)
    → IfOk result (λ set. (tombs : List Tomb) × Reads file bytes (Ok tombs) × HideSame tombs set)
whole_reads file bytes tombs (Ok set) e h = (h.0, (h.1, e ∙ ap (λ (l : List ℕ). head ++ l) h.2), h.3)
whole_reads file bytes tombs (Err fault) e h = tt

begins_none : BeginsNone []
begins_none = too_short [] (omega arith)

one_whole : (bytes : List ℕ) (xs ys : List Tomb) (r s : List ℕ) → AllByRecursion IsWritable xs → AllByRecursion IsWritable ys → BeginsNone r → BeginsNone s
    → bytes ≡ file_of xs ++ r → bytes ≡ file_of ys ++ s → (xs ≡ ys) × (r ≡ s)
one_whole bytes xs ys r s a b n m e f =
    let same : 0 ∷ 0 ∷ 21 ∷ 2 ∷ (flat_map tomb_bytes xs ++ r) ≡ 0 ∷ 0 ∷ 21 ∷ 2 ∷ (flat_map tomb_bytes ys ++ s) = sym e ∙ f in
    same_reading xs ys r s a b n m (ap (drop 4) same)

-- a file is read in one way
pub one_reading : (file : ℕ) (bytes : List ℕ) (one other : Result (List Tomb) Damage) → Reads file bytes one → Reads file bytes other → one ≡ other
one_reading file bytes (Ok xs) (Ok ys) a b = ap Ok (one_whole bytes xs ys [] [] a.0 b.0 begins_none begins_none (a.1 ∙ sym (append-nil (file_of xs))) (b.1 ∙ sym (append-nil (file_of ys)))).0
one_reading file bytes (Ok xs) (Err d) a (inl b) = absurd (b.0 (flat_map tomb_bytes xs) a.1)
one_reading file bytes (Ok xs) (Err d) a (inr b) =
    let same = one_whole bytes xs b.0 [] b.1.rest a.0 b.1.writable begins_none b.1.cut (a.1 ∙ sym (append-nil (file_of xs))) b.1.whole in
    absurd (b.1.some (sym same.1))
one_reading file bytes (Err d) (Ok ys) (inl a) b = absurd (a.0 (flat_map tomb_bytes ys) b.1)
one_reading file bytes (Err d) (Ok ys) (inr a) b =
    let same = one_whole bytes ys a.0 [] a.1.rest b.0 a.1.writable begins_none a.1.cut (b.1 ∙ sym (append-nil (file_of ys))) a.1.whole in
    absurd (a.1.some (sym same.1))
one_reading file bytes (Err d) (Err e) (inl a) (inl b) = ap Err (a.1 ∙ sym b.1)
one_reading file bytes (Err d) (Err e) (inl a) (inr b) = absurd (a.0 (flat_map tomb_bytes b.0 ++ b.1.rest) b.1.whole)
one_reading file bytes (Err d) (Err e) (inr a) (inl b) = absurd (b.0 (flat_map tomb_bytes a.0 ++ a.1.rest) a.1.whole)
one_reading file bytes (Err d) (Err e) (inr a) (inr b) =
    let same = one_whole bytes a.0 b.0 a.1.rest b.1.rest a.1.writable b.1.writable a.1.cut b.1.cut a.1.whole b.1.whole in
    ap Err (a.2 ∙ ap (λ (xs : List Tomb). record { file = file; offset = length (file_of xs); why = Body }) same.0 ∙ sym b.2)

pub answers : (file : ℕ) (bytes : List ℕ) (result : Result (List Tomb) FormatFault) → IfOk result (λ set. (tombs : List Tomb) × Reads file bytes (Ok tombs) × HideSame tombs set)
    → ((damage : Damage) → result ≡ Err (Damaged damage) → Reads file bytes (Err damage)) → (answer : Result (List Tomb) Damage) → Reads file bytes answer → Answers result answer
answers file bytes (Ok set) found damaged (Ok tombs) reads =
    let same = one_reading file bytes (Ok found.0) (Ok tombs) found.1 reads in
    let e : found.0 ≡ tombs = cc in
    subst (λ (ts : List Tomb). HideSame ts set) e found.2
answers file bytes (Ok set) found damaged (Err damage) reads =
    let same = one_reading file bytes (Ok found.0) (Err damage) found.1 reads in
    absurd cc
answers file bytes (Err (Damaged damage)) found damaged answer reads = sym (one_reading file bytes (Err damage) answer (damaged damage refl) reads)
answers file bytes (Err Memory) found damaged answer reads = tt
