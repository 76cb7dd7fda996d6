-- Rows: one among them, one more, the last, and one way to read them.
use Rattle.std.proofs.Common.{◌≡◌, ◌≢◌, ℕ, zero, suc, ℤ, ◌+◌, ◌*◌, ◌<◌, ◌≤◌, ◌^◌, List, [], ◌∷◌, ◌++◌, length, drop, get_or, Option, Some, None, refl, sym, ap, ◌∙◌, subst, arith}
use Rattle.std.specs.List.{flat_map}
use Rattle.std.proofs.lemmas.List.{append_assoc, length-append}
use Rattle.std.proofs.Math.Seq.{drop-append_seam}
use Rattle.tsm_format.specs.declared.entry.Entry.{Entry}
use Rattle.tsm_format.specs.declared.row.KeyRow.{KeyRow}
use Rattle.tsm_format.specs.Rows.{IsEntry, AreEntries, IsRow, AreRows, AreIndex, IsAbove, size_of, sizes_of, first_block}
use Rattle.tsm_format.specs.Format.{entry_bytes, head_bytes, row_bytes}
use Rattle.tsm_format.specs.Faults.{last_key, BeginsNone}
use Rattle.tsm_format.specs.Places.{StandsFor}
use Rattle.tsdb_types.specs.Keys.{MarkAt}
use Rattle.tsdb_types.specs.declared.value.Kind.{Kind}
use Rattle.std.specs.Ordering.{nat_cmp}
use Rattle.std.specs.declared.cmp.Ordering.TheVariants.{Less}
use Rattle.std.specs.Cmp.Lexicographic.{slice_cmp}
use Rattle.tsm_format.proofs.FormatLemmas.{same_head, same_entry, entry_widths, head_long, entry_long}

rows_fit : (last : Option (List ℕ)) (place : ℕ) (rows : List KeyRow) (k : ℕ) (d : KeyRow) → AreRows last place rows → k < length rows → (length (get_or rows k d).key < 2 ^ 16) × (length (get_or rows k d).entries < 2 ^ 16)
rows_fit last place [] k d a h = absurd (omega arith)
rows_fit last place (row ∷ rows) zero d a h = (a.0.fits, a.0.count)
rows_fit last place (row ∷ rows) (suc k) d a h = rows_fit (Some row.key) (place + size_of row.entries) rows k d a.1 (omega arith)

pub row_fits : {start : ℕ} (rows : List KeyRow) (k : ℕ) (row : KeyRow) → AreIndex start rows → k < length rows → row ≡ get_or rows k row → (length row.key < 2 ^ 16) × (length row.entries < 2 ^ 16)
row_fits rows k row is h e = subst (λ (r : KeyRow). (length r.key < 2 ^ 16) × (length r.entries < 2 ^ 16)) (sym e) (rows_fit None first_block rows k row is.good h)

-- the last of the rows has the last key
pub last_key-at : (last : Option (List ℕ)) (rows : List KeyRow) (n : ℕ) (row : KeyRow) → n + 1 ≡ length rows → row ≡ get_or rows n row → last_key last rows ≡ Some row.key
last_key-at last [] n row len e = absurd (omega arith)
last_key-at last (x ∷ []) zero row len e = ap (λ (r : KeyRow). Some r.key) (sym e)
last_key-at last (x ∷ []) (suc n) row len e = absurd (omega arith)
last_key-at last (x ∷ y ∷ rows) zero row len e = absurd (omega arith)
last_key-at last (x ∷ y ∷ rows) (suc n) row len e = last_key-at (Some x.key) (y ∷ rows) n row (omega arith) e

pub last_key-push : (last : Option (List ℕ)) (rows : List KeyRow) (row : KeyRow) → last_key last (rows ++ (row ∷ [])) ≡ Some row.key
last_key-push last [] row = refl
last_key-push last (x ∷ rows) row = last_key-push (Some x.key) rows row

pub sizes-push : (rows : List KeyRow) (row : KeyRow) → sizes_of (rows ++ (row ∷ [])) ≡ sizes_of rows + size_of row.entries
sizes-push [] row = omega arith
sizes-push (x ∷ rows) row = let rest = sizes-push rows row in omega arith

pub rows_push : (last : Option (List ℕ)) (place : ℕ) (rows : List KeyRow) (row : KeyRow) → AreRows last place rows → IsRow (last_key last rows) (place + sizes_of rows) row → AreRows last place (rows ++ (row ∷ []))
rows_push last place [] row a is = (subst (λ (n : ℕ). IsRow last n row) (omega arith) is, tt)
rows_push last place (x ∷ rows) row a is =
    (a.0, rows_push (Some x.key) (place + size_of x.entries) rows row a.1 (subst (λ (n : ℕ). IsRow (last_key (Some x.key) rows) n row) (omega arith) is))

-- where the last of entries ends
pub entries_end : (last : Option ℤ) (place : ℕ) (entries : List Entry) (n : ℕ) (entry : Entry) → AreEntries last place entries → n + 1 ≡ length entries → entry ≡ get_or entries n entry
    → (at : ℕ) × IsEntry at entry × (at + entry.size ≡ place + size_of entries)
entries_end last place [] n entry a len e = absurd (omega arith)
entries_end last place (x ∷ []) zero entry a len e = (place, subst (IsEntry place) (sym e) a.0, let same = ap (λ (y : Entry). y.size) e in omega arith)
entries_end last place (x ∷ []) (suc n) entry a len e = absurd (omega arith)
entries_end last place (x ∷ y ∷ entries) zero entry a len e = absurd (omega arith)
entries_end last place (x ∷ y ∷ entries) (suc n) entry a len e =
    let rest = entries_end (Some x.max) (place + x.size) (y ∷ entries) n entry a.2 (omega arith) e in
    (rest.0, rest.1, let same = rest.2 in omega arith)

-- ---- one reading

length_entries : (entries : List Entry) → length (flat_map entry_bytes entries) ≡ 28 * length entries
length_entries [] = refl
length_entries (x ∷ xs) =
    let rest = length_entries xs in
    let long = entry_long x (flat_map entry_bytes xs) in
    omega arith

pub row_length : (row : KeyRow) → length (row_bytes row) ≡ 5 + length row.key + 28 * length row.entries
unfolding row_bytes
row_length row =
    let head = head_long row.key row.kind (length row.entries) (flat_map entry_bytes row.entries) in
    let rest = length_entries row.entries in
    omega arith

pub row_parts : (row : KeyRow) (rest : List ℕ) → row_bytes row ++ rest ≡ head_bytes row.key row.kind (length row.entries) ++ (flat_map entry_bytes row.entries ++ rest)
unfolding row_bytes
row_parts row rest = append_assoc (head_bytes row.key row.kind (length row.entries)) (flat_map entry_bytes row.entries) rest

same_entries : (last last' : Option ℤ) (at at' : ℕ) (xs ys : List Entry) (r s : List ℕ) → AreEntries last at xs → AreEntries last' at' ys → length xs ≡ length ys
    → flat_map entry_bytes xs ++ r ≡ flat_map entry_bytes ys ++ s → (xs ≡ ys) × (r ≡ s)
same_entries last last' at at' [] [] r s a b len e = (refl, e)
same_entries last last' at at' [] (y ∷ ys) r s a b len e = absurd (omega arith)
same_entries last last' at at' (x ∷ xs) [] r s a b len e = absurd (omega arith)
same_entries last last' at at' (x ∷ xs) (y ∷ ys) r s a b len e =
    let first = same_entry x y (flat_map entry_bytes xs ++ r) (flat_map entry_bytes ys ++ s) (entry_widths at x a.0) (entry_widths at' y b.0)
    (sym (append_assoc (entry_bytes x) (flat_map entry_bytes xs) r) ∙ e ∙ append_assoc (entry_bytes y) (flat_map entry_bytes ys) s) in
    let rest = same_entries (Some x.max) (Some y.max) (at + x.size) (at' + y.size) xs ys r s a.2 b.2 (omega arith) first.1 in
    (cc (first.0, rest.0), rest.1)

same_fields : (x y : KeyRow) → x.key ≡ y.key → x.kind ≡ y.kind → x.entries ≡ y.entries → x ≡ y
same_fields x y a b c = λ i. record { key = a i; kind = b i; entries = c i }

pub same_row : (last last' : Option (List ℕ)) (at at' : ℕ) (x y : KeyRow) (r s : List ℕ) → IsRow last at x → IsRow last' at' y → row_bytes x ++ r ≡ row_bytes y ++ s → (x ≡ y) × (r ≡ s)
same_row last last' at at' x y r s a b e =
    let head = same_head x.key y.key x.kind y.kind (length x.entries) (length y.entries) (flat_map entry_bytes x.entries ++ r) (flat_map entry_bytes y.entries ++ s)
    a.fits b.fits a.count b.count (sym (row_parts x r) ∙ e ∙ row_parts y s) in
    let rest = same_entries None None at at' x.entries y.entries r s a.blocks b.blocks head.2 head.3 in
    (same_fields x y head.0 head.1 rest.0, rest.1)

-- what is left behind a list of known length
pub behind_of : (xs front rest : List ℕ) (n : ℕ) → xs ≡ front ++ rest → length front ≡ n → rest ≡ drop n xs
behind_of xs front rest n e len =
    sym (drop-append_seam front rest) ∙ ap (λ (k : ℕ). drop k (front ++ rest)) len ∙ ap (drop n) (sym e)

-- ---- what may follow

pub above_is : (rows : List KeyRow) (own key : List ℕ) → last_key None rows ≡ Some own → slice_cmp nat_cmp own key ≡ Less → IsAbove (last_key None rows) key
above_is rows own key last less = subst (λ (k : Option (List ℕ)). IsAbove k key) (sym last) less

pub is_above : (rows : List KeyRow) (own key : List ℕ) → last_key None rows ≡ Some own → IsAbove (last_key None rows) key → slice_cmp nat_cmp own key ≡ Less
is_above rows own key last above = subst (λ (k : Option (List ℕ)). IsAbove k key) last above

pub no_row_head : (last : Option (List ℕ)) (at : ℕ) (bytes : List ℕ) → ((key : List ℕ) (kind : Kind) (count : ℕ) (rest : List ℕ) → length key < 2 ^ 16 → bytes ≢ head_bytes key kind count ++ rest) → BeginsNone last at bytes
no_row_head last at bytes none row rest is e = none row.key row.kind (length row.entries) (flat_map entry_bytes row.entries ++ rest) is.fits (e ∙ row_parts row rest)

-- what the head at the front says of a row there
pub at_row : (last : Option (List ℕ)) (at : ℕ) (bytes key : List ℕ) (kind : Kind) (count : ℕ) (behind : List ℕ) (row : KeyRow) (rest : List ℕ) → length key < 2 ^ 16 → count < 2 ^ 16
    → bytes ≡ head_bytes key kind count ++ behind → IsRow last at row → bytes ≡ row_bytes row ++ rest → (key ≡ row.key) × (kind ≡ row.kind) × (count ≡ length row.entries) × (behind ≡ flat_map entry_bytes row.entries ++ rest)
at_row last at bytes key kind count behind row rest short fits e is f =
    same_head key row.key kind row.kind count (length row.entries) behind (flat_map entry_bytes row.entries ++ rest) short is.fits fits is.count (sym e ∙ f ∙ row_parts row rest)

no_items : (entries : List Entry) → length entries ≡ 0 → entries ≡ []
no_items [] e = refl
no_items (x ∷ xs) e = absurd (omega arith)

pub no_count : (last : Option (List ℕ)) (at : ℕ) (bytes key : List ℕ) (kind : Kind) (count : ℕ) (behind : List ℕ) → length key < 2 ^ 16 → count ≡ 0 → bytes ≡ head_bytes key kind count ++ behind → BeginsNone last at bytes
no_count last at bytes key kind count behind short none e row rest is f =
    let there = at_row last at bytes key kind count behind row rest short (omega arith) e is f in
    let len = there.2 in
    is.some (no_items row.entries (omega arith))

pub no_mark : (last : Option (List ℕ)) (at : ℕ) (bytes key : List ℕ) (kind : Kind) (count : ℕ) (behind : List ℕ) → length key < 2 ^ 16 → count < 2 ^ 16 → ((place : ℕ) → ¬ MarkAt key place)
    → bytes ≡ head_bytes key kind count ++ behind → BeginsNone last at bytes
no_mark last at bytes key kind count behind short fits none e row rest is f =
    let there = at_row last at bytes key kind count behind row rest short fits e is f in
    none is.mark.0 (subst (λ (k : List ℕ). MarkAt k is.mark.0) (sym there.0) is.mark.1)

pub not_above : (last : Option (List ℕ)) (at : ℕ) (bytes key : List ℕ) (kind : Kind) (count : ℕ) (behind : List ℕ) → length key < 2 ^ 16 → count < 2 ^ 16 → (IsAbove last key → ⊥)
    → bytes ≡ head_bytes key kind count ++ behind → BeginsNone last at bytes
not_above last at bytes key kind count behind short fits none e row rest is f =
    let there = at_row last at bytes key kind count behind row rest short fits e is f in
    none (subst (IsAbove last) (sym there.0) is.above)

pub no_blocks : (last : Option (List ℕ)) (at : ℕ) (bytes key : List ℕ) (kind : Kind) (count : ℕ) (behind : List ℕ) (place : Option ℕ) → length key < 2 ^ 16 → count < 2 ^ 16 → StandsFor place at
    → ((entries : List Entry) (rest : List ℕ) (at : ℕ) → StandsFor place at → length entries ≡ count → AreEntries None at entries → behind ≢ flat_map entry_bytes entries ++ rest)
    → bytes ≡ head_bytes key kind count ++ behind → BeginsNone last at bytes
no_blocks last at bytes key kind count behind place short fits stands none e row rest is f =
    let there = at_row last at bytes key kind count behind row rest short fits e is f in
    none row.entries rest at stands (sym there.2) is.blocks there.3

-- a row from its head and its entries
pub whole_row : (bytes : List ℕ) (row : KeyRow) (behind rest : List ℕ) → bytes ≡ head_bytes row.key row.kind (length row.entries) ++ behind → behind ≡ flat_map entry_bytes row.entries ++ rest
    → bytes ≡ row_bytes row ++ drop (5 + length row.key + 28 * length row.entries) bytes
whole_row bytes row behind rest e f =
    let whole : bytes ≡ row_bytes row ++ rest = e ∙ ap (λ (l : List ℕ). head_bytes row.key row.kind (length row.entries) ++ l) f ∙ sym (row_parts row rest) in
    let left : rest ≡ drop (5 + length row.key + 28 * length row.entries) bytes = behind_of bytes (row_bytes row) rest (5 + length row.key + 28 * length row.entries) whole (row_length row) in
    whole ∙ ap (λ (l : List ℕ). row_bytes row ++ l) left

pub row_at_least : (rest : List ℕ) (row : KeyRow) (behind : List ℕ) → rest ≡ row_bytes row ++ behind → 5 + length row.key + 28 * length row.entries ≤ length rest
row_at_least rest row behind e =
    let long = ap length e ∙ length-append (row_bytes row) behind in
    let len = row_length row in
    omega arith
