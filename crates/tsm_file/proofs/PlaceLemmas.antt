-- The blocks of an index lie within its file, and so do those that a cursor reads.
use Rattle.std.proofs.Common.{◌≡◌, ℕ, zero, suc, ◌+◌, ◌≤◌, ◌<◌, ℤ, Bool, true, false, List, [], ◌∷◌, ◌++◌, reverse, length, get_or, Option, Some, None, inl, inr, sym, ap, subst, arith}
use Rattle.std.specs.List.{AllByRecursion, All}
use Rattle.std.proofs.lemmas.List.{length-append, reverse-append}
use Rattle.std.proofs.lemmas.List.Elements.{All-from_recursion}
use Rattle.fixed_width.specs.Fields.{bytes_of_u64}
use Rattle.tsm_format.specs.declared.entry.Entry.{Entry}
use Rattle.tsm_format.specs.declared.row.KeyRow.{KeyRow}
use Rattle.tsm_format.specs.Format.{index_bytes}
use Rattle.tsm_format.specs.Frame.{header}
use Rattle.tsm_format.specs.Rows.{AreEntries, AreRows, end_of, first_block, size_of, sizes_of}
use Rattle.tombstones.proofs.RangeLemmas.{all-append}
use Rattle.tsm_file.specs.ReadIndex.{HasIndex, Index}
use Rattle.tsm_file.specs.ReadBlocks.{IsWithin}
use Rattle.tsm_file.specs.ReadPoints.{Asked, Begins, Cursor, Meets, Picks, directed}

blocks_end : (last : Option ℤ) (place : ℕ) (es : List Entry) (n : ℕ) → AreEntries last place es → place + size_of es ≤ n → AllByRecursion (λ (e : Entry). e.offset + e.size ≤ n) es
blocks_end last place [] n are fits = tt
blocks_end last place (e ∷ es) n are fits =
    let at = are.0.at in
    (omega arith, blocks_end (Some e.max) (place + e.size) es n are.2 (omega arith))

row_ends : (last : Option (List ℕ)) (place : ℕ) (rows : List KeyRow) (n k : ℕ) (d : KeyRow) → k < length rows → AreRows last place rows → place + sizes_of rows ≤ n
    → AllByRecursion (λ (e : Entry). e.offset + e.size ≤ n) (get_or rows k d).entries
row_ends last place [] n k d lt are fits = absurd (omega arith)
row_ends last place (x ∷ xs) n zero d lt are fits = blocks_end None place x.entries n are.0.blocks (omega arith)
row_ends last place (x ∷ xs) n (suc k) d lt are fits = row_ends (Some x.key) (place + size_of x.entries) xs n k d (omega arith) are.1 (omega arith)

picked : {X : Type 0} (P Q : X → Type 0) (xs ys : List X) → Picks Q xs ys → AllByRecursion P xs → AllByRecursion P ys
picked P Q [] ys h all = subst (AllByRecursion P) (sym h) tt
picked P Q (x ∷ xs) ys (inl h) all = subst (AllByRecursion P) (sym h.3) (all.0, picked P Q xs h.0 h.2 all.1)
picked P Q (x ∷ xs) ys (inr h) all = picked P Q xs ys h.1 all.1

turned : {X : Type 0} (P : X → Type 0) (xs : List X) → AllByRecursion P xs → AllByRecursion P (reverse xs)
turned P [] all = tt
turned P (x ∷ xs) all = subst (AllByRecursion P) (sym (reverse-append (x ∷ []) xs)) (all-append P (reverse xs) (x ∷ []) (turned P xs all.1) (all.0, tt))

either_way : {X : Type 0} (P : X → Type 0) (d : Bool) (xs : List X) → AllByRecursion P xs → AllByRecursion P (directed d xs)
either_way P true xs all = turned P xs all
either_way P false xs all = all

blocks_in_front : (bytes : List ℕ) (rows : List KeyRow) → HasIndex bytes rows → end_of rows ≤ length bytes
blocks_in_front bytes rows has =
    let foot = bytes_of_u64 (end_of rows) in
    let whole = ap length has.whole in
    let a = length-append (header ++ has.blocks ++ index_bytes rows) foot in
    let b = length-append (header ++ has.blocks) (index_bytes rows) in
    let ends = has.good.ends in
    omega arith

-- a new cursor over the index of a file reads blocks of the file
pub new_within : (index : Index) (asked : Asked) (cursor : Cursor) → Begins index asked cursor → (bytes : List ℕ) → HasIndex bytes index.rows → All (IsWithin bytes) cursor.blocks
new_within index asked cursor begins bytes has =
    let P : Entry → Type 0 = IsWithin bytes in
    let all : AllByRecursion (IsWithin bytes) begins.entries = elim begins.meet [
      | inl met ↦
          let at : get_or index.rows met.1.0.0 met.0 ≡ met.0 = met.1.0.2 in
          let row = row_ends None first_block index.rows (length bytes) met.1.0.0 met.0 met.1.0.1 has.good.good (blocks_in_front bytes index.rows has) in
          picked P (Meets asked.from asked.to) met.0.entries begins.entries met.3 (subst (λ (r : KeyRow). AllByRecursion (IsWithin bytes) r.entries) at row)
      | inr none ↦ subst (AllByRecursion P) (sym none.1) tt
    ] in
    All-from_recursion P cursor.blocks (subst (AllByRecursion P) (sym begins.blocks) (either_way P asked.descending begins.entries all))
