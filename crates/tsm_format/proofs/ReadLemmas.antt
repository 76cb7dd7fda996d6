-- An index is read row by row, in one way.
use Rattle.std.proofs.Common.{◌≡◌, ℕ, ◌+◌, ◌<◌, List, [], ◌∷◌, ◌++◌, length, Option, Some, None, Result, Ok, Err, IfOk, inl, inr, refl, sym, ap, ◌∙◌, subst, arith, Vec, Global}
use Rattle.std.proofs.lemmas.List.{append_assoc, length-append, append-nil}
use Rattle.shard_disk.specs.declared.damage.Damage.{Damage}
use Rattle.shard_disk.specs.declared.damage.FormatFault.{FormatFault}
use Rattle.shard_disk.specs.declared.damage.Why.TheVariants.{Keys}
use Rattle.shard_disk.specs.declared.damage.FormatFault.TheVariants.{Damaged, Memory}
use Rattle.tsm_format.specs.declared.row.KeyRow.{KeyRow}
use Rattle.tsm_format.specs.Rows.{IsRow, AreRows, AreIndex, size_of, sizes_of, end_of, first_block}
use Rattle.tsm_format.specs.Format.{row_bytes, index_bytes}
use Rattle.tsm_format.specs.Faults.{last_key, BeginsNone, IsCutBehind, IsApart, Reads, Answers}
use Rattle.tsm_format.specs.Places.{StandsFor}
use Rattle.tsm_format.proofs.EntryLemmas.{flat_push}
use Rattle.tsm_format.proofs.RowLemmas.{rows_push, sizes-push, same_row, row_length}

-- these rows were read, and what follows them is left
pub record HasRead (bytes rest : List ℕ) (rows : List KeyRow) (end : Option ℕ) : Type 0 where
  pub whole : bytes ≡ index_bytes rows ++ rest
  pub good : AreRows None first_block rows
  pub stands : StandsFor end (end_of rows)

pub nothing_read : (bytes : List ℕ) → HasRead bytes bytes [] (Some 5)
nothing_read bytes = record { whole = refl; good = tt; stands = omega arith }

pub one_read : (bytes rest behind : List ℕ) (rows : List KeyRow) (row : KeyRow) (end end' : Option ℕ) → HasRead bytes rest rows end → rest ≡ row_bytes row ++ behind
    → ((at : ℕ) → StandsFor end at → IsRow (last_key None rows) at row) → ((last : Option (List ℕ)) (at : ℕ) → IsRow last at row → StandsFor end' (at + size_of row.entries))
    → HasRead bytes behind (rows ++ (row ∷ [])) end'
one_read bytes rest behind rows row end end' read e is ends =
    let good = is (end_of rows) read.stands in
    let sizes = sizes-push rows row in
    record {
      whole = read.whole ∙ ap (λ (l : List ℕ). index_bytes rows ++ l) e ∙ flat_push row_bytes rows row behind;
      good = rows_push None first_block rows row read.good good;
      stands = subst (StandsFor end') (omega arith) (ends (last_key None rows) (end_of rows) good);
    }

pub shorter : (rest behind : List ℕ) (row : KeyRow) → rest ≡ row_bytes row ++ behind → length behind < length rest
shorter rest behind row e =
    let long = ap length e ∙ length-append (row_bytes row) behind in
    let len = row_length row in
    omega arith

same_reading : (last : Option (List ℕ)) (at : ℕ) (xs ys : List KeyRow) (r s : List ℕ) → AreRows last at xs → AreRows last at ys
    → BeginsNone (last_key last xs) (at + sizes_of xs) r → BeginsNone (last_key last ys) (at + sizes_of ys) s → index_bytes xs ++ r ≡ index_bytes ys ++ s → (xs ≡ ys) × (r ≡ s)
same_reading last at [] [] r s a b n m e = (refl, e)
same_reading last at [] (y ∷ ys) r s a b n m e =
    absurd (n y (index_bytes ys ++ s) (subst (λ (k : ℕ). IsRow last k y) (omega arith) b.0) (e ∙ append_assoc (row_bytes y) (index_bytes ys) s))
same_reading last at (x ∷ xs) [] r s a b n m e =
    absurd (m x (index_bytes xs ++ r) (subst (λ (k : ℕ). IsRow last k x) (omega arith) a.0) (sym e ∙ append_assoc (row_bytes x) (index_bytes xs) r))
same_reading last at (x ∷ xs) (y ∷ ys) r s a b n m e =
    let first = same_row last last at at x y (index_bytes xs ++ r) (index_bytes ys ++ s) a.0 b.0
    (sym (append_assoc (row_bytes x) (index_bytes xs) r) ∙ e ∙ append_assoc (row_bytes y) (index_bytes ys) s) in
    let one = first.0 in
    let b' : AreRows (Some x.key) (at + size_of x.entries) ys = subst (λ (z : KeyRow). AreRows (Some z.key) (at + size_of z.entries) ys) (sym one) b.1 in
    let n' : BeginsNone (last_key (Some x.key) xs) (at + size_of x.entries + sizes_of xs) r = subst (λ (k : ℕ). BeginsNone (last_key (Some x.key) xs) k r) (omega arith) n in
    let m' : BeginsNone (last_key (Some x.key) ys) (at + size_of x.entries + sizes_of ys) s =
    subst (λ (z : KeyRow). BeginsNone (last_key (Some z.key) ys) (at + size_of z.entries + sizes_of ys) s) (sym one)
    (subst (λ (k : ℕ). BeginsNone (last_key (Some y.key) ys) k s) (omega arith) m) in
    let rest = same_reading (Some x.key) (at + size_of x.entries) xs ys r s a.1 b' n' m' first.1 in
    (cc (one, rest.0), rest.1)

begins_none : (last : Option (List ℕ)) (at : ℕ) → BeginsNone last at []
begins_none last at row rest is e =
    let long = ap length e ∙ length-append (row_bytes row) rest in
    let len = row_length row in
    omega arith

one_whole : (bytes : List ℕ) (xs ys : List KeyRow) (r s : List ℕ) → AreRows None first_block xs → AreRows None first_block ys → BeginsNone (last_key None xs) (end_of xs) r → BeginsNone (last_key None ys) (end_of ys) s
    → bytes ≡ index_bytes xs ++ r → bytes ≡ index_bytes ys ++ s → (xs ≡ ys) × (r ≡ s)
one_whole bytes xs ys r s a b n m e f = same_reading None first_block xs ys r s a b n m (sym e ∙ f)

-- the rows that take all of the bytes
one_list : (bytes : List ℕ) (xs ys : List KeyRow) → AreRows None first_block xs → AreRows None first_block ys → bytes ≡ index_bytes xs → bytes ≡ index_bytes ys → xs ≡ ys
one_list bytes xs ys a b e f =
    (one_whole bytes xs ys [] [] a b (begins_none (last_key None xs) (end_of xs)) (begins_none (last_key None ys) (end_of ys)) (e ∙ sym (append-nil (index_bytes xs))) (f ∙ sym (append-nil (index_bytes ys)))).0

not_cut : (bytes : List ℕ) (xs ys : List KeyRow) → AreRows None first_block xs → bytes ≡ index_bytes xs → IsCutBehind bytes ys → ⊥
not_cut bytes xs ys a e cut =
    let same = one_whole bytes xs ys [] cut.rest a cut.good (begins_none (last_key None xs) (end_of xs)) cut.none (e ∙ sym (append-nil (index_bytes xs))) cut.whole in
    cut.some (sym same.1)

not_apart : (start : ℕ) (bytes : List ℕ) (xs ys : List KeyRow) → AreIndex start xs → bytes ≡ index_bytes xs → IsApart start bytes ys → ⊥
not_apart start bytes xs ys a e apart =
    let same = one_list bytes xs ys a.good apart.good e apart.whole in
    elim apart.apart [
      | inl none ↦ a.some (same ∙ none)
      | inr far ↦ far (ap end_of (sym same) ∙ a.ends)
    ]

-- an index is read in one way
pub one_reading : (file start : ℕ) (bytes : List ℕ) (one other : Result (List KeyRow) Damage) → Reads file start bytes one → Reads file start bytes other → one ≡ other
one_reading file start bytes (Ok xs) (Ok ys) a b = ap Ok (one_list bytes xs ys a.0.good b.0.good a.1 b.1)
one_reading file start bytes (Ok xs) (Err d) a (inl b) = absurd (not_cut bytes xs b.0 a.0.good a.1 b.1)
one_reading file start bytes (Ok xs) (Err d) a (inr b) = absurd (not_apart start bytes xs b.0 a.0 a.1 b.1)
one_reading file start bytes (Err d) (Ok ys) (inl a) b = absurd (not_cut bytes ys a.0 b.0.good b.1 a.1)
one_reading file start bytes (Err d) (Ok ys) (inr a) b = absurd (not_apart start bytes ys a.0 b.0 b.1 a.1)
one_reading file start bytes (Err d) (Err e) (inl a) (inl b) =
    let same = one_whole bytes a.0 b.0 a.1.rest b.1.rest a.1.good b.1.good a.1.none b.1.none a.1.whole b.1.whole in
    ap Err (a.2 ∙ ap (λ (xs : List KeyRow). record { file = file; offset = start + length (index_bytes xs); why = Keys }) same.0 ∙ sym b.2)
one_reading file start bytes (Err d) (Err e) (inl a) (inr b) = absurd (not_cut bytes b.0 a.0 b.1.good b.1.whole a.1)
one_reading file start bytes (Err d) (Err e) (inr a) (inl b) = absurd (not_cut bytes a.0 b.0 a.1.good a.1.whole b.1)
one_reading file start bytes (Err d) (Err e) (inr a) (inr b) = ap Err (a.2 ∙ sym b.2)

pub answers : (file start : ℕ) (bytes : List ℕ) (result : Result (Vec KeyRow Global) FormatFault) → IfOk result (λ rows. Reads file start bytes (Ok rows.items))
    → ((damage : Damage) → result ≡ Err (Damaged damage) → Reads file start bytes (Err damage)) → (answer : Result (List KeyRow) Damage) → Reads file start bytes answer → Answers result answer
answers file start bytes (Ok rows) found damaged answer reads = one_reading file start bytes answer (Ok rows.items) reads found
answers file start bytes (Err (Damaged damage)) found damaged answer reads = sym (one_reading file start bytes (Err damage) answer (damaged damage refl) reads)
answers file start bytes (Err Memory) found damaged answer reads = tt
