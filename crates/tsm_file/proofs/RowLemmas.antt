-- The keys of an index ascend, so a key has one row.
use Rattle.std.proofs.Common.{◌≡◌, ℕ, zero, suc, ◌+◌, ◌<◌, List, [], ◌∷◌, length, get_or, Option, None, Some, slice_get, inl, inr, refl, sym, ap, ◌∙◌, subst, arith}
use Rattle.std.specs.List.Sorted.{IsSortedBy}
use Rattle.std.specs.Ordering.{nat_cmp, is_eq, is_lt, ordering_reverse}
use Rattle.std.specs.declared.cmp.Ordering.TheVariants.{Less, Equal, Greater}
use Rattle.std.specs.Cmp.Lexicographic.{slice_cmp, nat_list_cmp_total}
use Rattle.std.proofs.lemmas.Cmp.{tied_itself}
use Rattle.std.proofs.Math.Nat.{eq-or-lt_of_le}
use Rattle.std.proofs.lemmas.Bool.{cases_lt}
use Rattle.std.proofs.lemmas.List.{get_or_default}
use Rattle.std.proofs.lemmas.Option.{get_or_from_slice_get, slice_get_within}
use Rattle.std.proofs.lemmas.Slice.Eq.{bytes_eq-Decides}
use Rattle.std.proofs.lemmas.Map.Text.{is_eq-slice_cmp}
use Rattle.tsm_format.specs.declared.row.KeyRow.{KeyRow}
use Rattle.tsm_format.specs.Rows.{AreEntries, AreRows, first_block, size_of}
use Rattle.tsm_file.specs.ReadIndex.{HasKey}

pub same_key : (a b : List ℕ) → slice_cmp nat_cmp a b ≡ Equal → a ≡ b
same_key a b tied = (bytes_eq-Decides a b).0 (sym (is_eq-slice_cmp a b) ∙ ap is_eq tied)

-- a key isn't below itself, nor above
pub not_below : (a b : List ℕ) → slice_cmp nat_cmp a b ≡ Less → a ≡ b → ⊥
not_below a b less same =
    let tied = tied_itself nat_list_cmp_total b in
    let both : Less ≡ Equal = sym less ∙ ap (λ (k : List ℕ). slice_cmp nat_cmp k b) same ∙ tied in
    cc

pub not_above : (a b : List ℕ) → slice_cmp nat_cmp a b ≡ Greater → a ≡ b → ⊥
not_above a b more same =
    let tied = tied_itself nat_list_cmp_total b in
    let both : Greater ≡ Equal = sym more ∙ ap (λ (k : List ℕ). slice_cmp nat_cmp k b) same ∙ tied in
    cc

-- all later keys are above
above_all : (last : List ℕ) (place : ℕ) (rows : List KeyRow) (j : ℕ) (d : KeyRow) → j < length rows → AreRows (Some last) place rows → slice_cmp nat_cmp last (get_or rows j d).key ≡ Less
above_all last place [] j d lt are = absurd (omega arith)
above_all last place (x ∷ xs) zero d lt are = are.0.above
above_all last place (x ∷ xs) (suc j) d lt are =
    nat_list_cmp_total.trans last x.key (get_or xs j d).key are.0.above (above_all x.key (place + size_of x.entries) xs j d (omega arith) are.1)

pub rise : (last : Option (List ℕ)) (place : ℕ) (rows : List KeyRow) (i j : ℕ) (d : KeyRow) → i < j → j < length rows → AreRows last place rows
    → slice_cmp nat_cmp (get_or rows i d).key (get_or rows j d).key ≡ Less
rise last place [] i j d lt inside are = absurd (omega arith)
rise last place (x ∷ xs) i zero d lt inside are = absurd (omega arith)
rise last place (x ∷ xs) zero (suc j) d lt inside are = above_all x.key (place + size_of x.entries) xs j d (omega arith) are.1
rise last place (x ∷ xs) (suc i) (suc j) d lt inside are = rise (Some x.key) (place + size_of x.entries) xs i j d (omega arith) (omega arith) are.1

-- the blocks of a row ascend
pub row_blocks : (last : Option (List ℕ)) (place : ℕ) (rows : List KeyRow) (k : ℕ) (d : KeyRow) → k < length rows → AreRows last place rows → (at : ℕ) × AreEntries None at (get_or rows k d).entries
row_blocks last place [] k d lt are = absurd (omega arith)
row_blocks last place (x ∷ xs) zero d lt are = (place, are.0.blocks)
row_blocks last place (x ∷ xs) (suc k) d lt are = row_blocks (Some x.key) (place + size_of x.entries) xs k d (omega arith) are.1

-- what a search by key asks
pub sorted_by_key : (last : Option (List ℕ)) (place : ℕ) (rows : List KeyRow) → AreRows last place rows → IsSortedBy (λ (a b : KeyRow). is_lt (slice_cmp nat_cmp a.key b.key)) rows
sorted_by_key last place rows are k d low lt =
    let less = rise last place rows k (k + 1) d (omega arith) lt are in
    ap is_lt (nat_list_cmp_total.antisymm (get_or rows (k + 1) d).key (get_or rows k d).key ∙ ap ordering_reverse less)

not_two : (last : Option (List ℕ)) (place : ℕ) (rows : List KeyRow) (i j : ℕ) (a b : KeyRow) → AreRows last place rows → i < j → j < length rows → get_or rows i a ≡ a → get_or rows j b ≡ b → a.key ≡ b.key → ⊥
not_two last place rows i j a b are lt inside at at' same =
    let other : get_or rows j a ≡ b = get_or_default rows j a b inside ∙ at' in
    not_below (get_or rows i a).key (get_or rows j a).key (rise last place rows i j a lt inside are)
    (ap (λ (r : KeyRow). r.key) at ∙ same ∙ sym (ap (λ (r : KeyRow). r.key) other))

-- a key has one row
pub one_row : (last : Option (List ℕ)) (place : ℕ) (rows : List KeyRow) (key : List ℕ) (a b : KeyRow) → AreRows last place rows → HasKey rows key a → HasKey rows key b → a ≡ b
one_row last place rows key a b are has has' =
    let i : ℕ = has.0.0 in
    let j : ℕ = has'.0.0 in
    let at : get_or rows i a ≡ a = has.0.2 in
    let at' : get_or rows j b ≡ b = has'.0.2 in
    let same : a.key ≡ b.key = has.1 ∙ sym has'.1 in
    elim (cases_lt i j) [
      | inl lt ↦ absurd (not_two last place rows i j a b are lt has'.0.1 at at' same)
      | inr ge ↦ elim (eq-or-lt_of_le ge) [
        | inl eq ↦ sym at ∙ get_or_default rows i a b has.0.1 ∙ ap (λ (n : ℕ). get_or rows n b) (sym eq) ∙ at'
        | inr gt ↦ absurd (not_two last place rows j i b a are gt has.0.1 at' at (sym same))
      ]
    ]

pub item_at : (rows : List KeyRow) (k : ℕ) → k < length rows → (row : KeyRow) × (slice_get rows k ≡ Some row)
item_at [] k h = absurd (omega arith)
item_at (x ∷ xs) zero h = (x, refl)
item_at (x ∷ xs) (suc k) h = item_at xs k (omega arith)

-- the row at a place, as a search found it there
pub has_at : (rows : List KeyRow) (key : List ℕ) (k : ℕ) (found row : KeyRow) → slice_get rows k ≡ Some found → found.key ≡ key → row ≡ get_or rows k row → HasKey rows key row
has_at rows key k found row at is read =
    let within = slice_get_within rows k found at in
    let same : row ≡ found = read ∙ get_or_from_slice_get rows k found row at in
    ((k, within, sym read), ap (λ (r : KeyRow). r.key) same ∙ is)

pub row_blocks_at : (rows : List KeyRow) (k : ℕ) (row : KeyRow) → k < length rows → row ≡ get_or rows k row → AreRows None first_block rows → (at : ℕ) × AreEntries None at row.entries
row_blocks_at rows k row h read are = subst (λ (r : KeyRow). (at : ℕ) × AreEntries None at r.entries) (sym read) (row_blocks None first_block rows k row h are)
