-- The tables of a reply are told from their text.
use Rattle.std.proofs.Common.{◌≡◌, ℕ, ℤ, zero, suc, Bool, true, false, List, [], ◌∷◌, ◌++◌, map, refl, ap, sym, ◌∙◌, arith, All, append_assoc, codes}
use Rattle.std.specs.List.{flat_map, list_all}
use Rattle.std.specs.Fmt.{signed_decimal}
use Rattle.session_model.specs.Replies.{Shown, ShownRow, Table, shown_text, row_line, table_lines, ended}
use Rattle.session_model.specs.Replies.Shown.{Number, Truth}
use Rattle.session_model.specs.Readable.{Lacks, Fits65, IsReadableTable, IsReadableRow, IsReadableShown}
use Rattle.session_model.proofs.TextLemmas.{cut_at, lacks_other, lacks-append, begins_number, signed_is, signed_one, head_begins}

pub all_head : {X : Type 0} (P : X → Type 0) (x : X) (xs : List X) → All P (x ∷ xs) → P x
all_head P x xs h = h zero x (omega arith)

pub all_tail : {X : Type 0} (P : X → Type 0) (x : X) (xs : List X) → All P (x ∷ xs) → All P xs
all_tail P x xs h = λ k d below. h (suc k) d (omega arith)

-- what is spelled behind some lines
abbrev pub onto : List (List ℕ) → List ℕ → List ℕ
onto [] behind = behind
onto (line ∷ more) behind = line ++ 10 ∷ onto more behind

pub ended_onto : (these : List (List ℕ)) (behind : List ℕ) → ended these ++ behind ≡ onto these behind
ended_onto [] behind = refl
ended_onto (line ∷ more) behind =
    append_assoc (line ++ 10 ∷ []) (ended more) behind ∙ append_assoc line (10 ∷ []) (ended more ++ behind)
    ∙ ap (λ (l : List ℕ). line ++ 10 ∷ l) (ended_onto more behind)

onto_more : (xs ys : List (List ℕ)) (behind : List ℕ) → onto (xs ++ ys) behind ≡ onto xs (onto ys behind)
onto_more [] ys behind = refl
onto_more (line ∷ xs) ys behind = ap (λ (l : List ℕ). line ++ 10 ∷ l) (onto_more xs ys behind)

-- the lines of tables, and the last line
abbrev pub from_tables : List Table → List ℕ → List ℕ
from_tables [] behind = 46 ∷ 10 ∷ behind
from_tables (table ∷ tables) behind =
    (codes "name: " ++ table.measurement) ++ 10 ∷ ((codes "time " ++ table.field) ++ 10 ∷ onto (map row_line table.rows) (from_tables tables behind))

pub tables_spelled : (tables : List Table) (behind : List ℕ) → onto (flat_map table_lines tables ++ codes "." ∷ []) behind ≡ from_tables tables behind
tables_spelled [] behind = refl
tables_spelled (table ∷ tables) behind =
    ap (λ (l : List (List ℕ)). onto l behind) (append_assoc (table_lines table) (flat_map table_lines tables) (codes "." ∷ []))
    ∙ onto_more (table_lines table) (flat_map table_lines tables ++ codes "." ∷ []) behind
    ∙ ap (onto (table_lines table)) (tables_spelled tables behind)

truth_text : (t : Bool) → list_all begins_number (shown_text (Truth t)) ≡ false
unfolding begins_number
truth_text true = refl
truth_text false = refl

no_truth : (z : ℤ) (t : Bool) → Fits65 z → signed_decimal z ≡ shown_text (Truth t) → ⊥
no_truth z t small same = let each = (signed_is z small).each in cc (ap (list_all begins_number) same, truth_text t, each)

truth_one : (s t : Bool) → shown_text (Truth s) ≡ shown_text (Truth t) → s ≡ t
truth_one true true same = refl
truth_one false false same = refl
truth_one true false same = cc
truth_one false true same = cc

shown_one : (a b : Shown) → IsReadableShown a → IsReadableShown b → shown_text a ≡ shown_text b → a ≡ b
shown_one (Number y) (Number z) first second same = ap Number (signed_one y z first second same)
shown_one (Number y) (Truth t) first second same = absurd (no_truth y t first same)
shown_one (Truth s) (Number z) first second same = absurd (no_truth z s second (sym same))
shown_one (Truth s) (Truth t) first second same = ap Truth (truth_one s t same)

lacks_newline : (z : ℤ) → Fits65 z → Lacks 10 (signed_decimal z)
unfolding begins_number
lacks_newline z small = lacks_other begins_number 10 refl (signed_decimal z) (signed_is z small).each

lacks_space : (z : ℤ) → Fits65 z → Lacks 32 (signed_decimal z)
unfolding begins_number
lacks_space z small = lacks_other begins_number 32 refl (signed_decimal z) (signed_is z small).each

shown_lacks : (a : Shown) → IsReadableShown a → Lacks 10 (shown_text a)
shown_lacks (Number z) small = lacks_newline z small
shown_lacks (Truth true) small = refl
shown_lacks (Truth false) small = refl

row_lacks : (row : ShownRow) → IsReadableRow row → Lacks 10 (row_line row)
row_lacks row readable =
    lacks-append 10 (signed_decimal row.0 ++ codes " ") (shown_text row.1)
    (lacks-append 10 (signed_decimal row.0) (codes " ") (lacks_newline row.0 readable.0) refl) (shown_lacks row.1 readable.1)

row_one : (a b : ShownRow) → IsReadableRow a → IsReadableRow b → row_line a ≡ row_line b → a ≡ b
row_one a b first second same =
    let parts = cut_at 32 (signed_decimal a.0) (signed_decimal b.0) (shown_text a.1) (shown_text b.1) (lacks_space a.0 first.0) (lacks_space b.0 second.0)
    (sym (append_assoc (signed_decimal a.0) (codes " ") (shown_text a.1)) ∙ same ∙ append_assoc (signed_decimal b.0) (codes " ") (shown_text b.1)) in
    let time = signed_one a.0 b.0 first.0 second.0 parts.0 in
    let value = shown_one a.1 b.1 first.1 second.1 parts.1 in
    let with_time : ℤ → ShownRow = λ t. (t, a.1) in
    let with_value : Shown → ShownRow = λ s. (b.0, s) in
    ap with_time time ∙ ap with_value value

-- a text that begins with no number
record NoRow (behind : List ℕ) : Type 0 where
  byte : ℕ
  rest : List ℕ
  is : behind ≡ byte ∷ rest
  fails : begins_number byte ≡ false

no_row : (row : ShownRow) (tail behind : List ℕ) → IsReadableRow row → NoRow behind → row_line row ++ 10 ∷ tail ≡ behind → ⊥
no_row row tail behind readable none same =
    let passes = head_begins (signed_decimal row.0) (codes " " ++ (shown_text row.1 ++ 10 ∷ tail)) none.rest none.byte (signed_is row.0 readable.0)
    (sym (append_assoc (signed_decimal row.0) (codes " ") (shown_text row.1 ++ 10 ∷ tail))
    ∙ sym (append_assoc (signed_decimal row.0 ++ codes " ") (shown_text row.1) (10 ∷ tail)) ∙ same ∙ none.is) in
    let fails = none.fails in cc (passes, fails)

rows_one : (xs ys : List ShownRow) (u v : List ℕ) → All IsReadableRow xs → All IsReadableRow ys → NoRow u → NoRow v
    → onto (map row_line xs) u ≡ onto (map row_line ys) v → (xs ≡ ys) × (u ≡ v)
rows_one [] [] u v first second behind other same = (refl, same)
rows_one [] (y ∷ ys) u v first second behind other same = absurd (no_row y (onto (map row_line ys) v) u (all_head IsReadableRow y ys second) behind (sym same))
rows_one (x ∷ xs) [] u v first second behind other same = absurd (no_row x (onto (map row_line xs) u) v (all_head IsReadableRow x xs first) other same)
rows_one (x ∷ xs) (y ∷ ys) u v first second behind other same =
    let a = all_head IsReadableRow x xs first in
    let b = all_head IsReadableRow y ys second in
    let cut = cut_at 10 (row_line x) (row_line y) (onto (map row_line xs) u) (onto (map row_line ys) v) (row_lacks x a) (row_lacks y b) same in
    let rest = rows_one xs ys u v (all_tail IsReadableRow x xs first) (all_tail IsReadableRow y ys second) behind other cut.1 in
    let head = row_one x y a b cut.0 in
    let tail = rest.0 in
    (cc (head, tail), rest.1)

tables_no_row : (tables : List Table) (behind : List ℕ) → NoRow (from_tables tables behind)
unfolding begins_number
tables_no_row [] behind = record { byte = 46; rest = 10 ∷ behind; is = refl; fails = refl }
tables_no_row (table ∷ tables) behind = record { byte = 110; rest = _; is = refl; fails = refl }

table_same : (a b : Table) → a.measurement ≡ b.measurement → a.field ≡ b.field → a.rows ≡ b.rows → a ≡ b
table_same a b measurement field rows =
    let with_measurement : List ℕ → Table = λ m. record { measurement = m; field = a.field; rows = a.rows } in
    let with_field : List ℕ → Table = λ f. record { measurement = b.measurement; field = f; rows = a.rows } in
    let with_rows : List ShownRow → Table = λ r. record { measurement = b.measurement; field = b.field; rows = r } in
    ap with_measurement measurement ∙ ap with_field field ∙ ap with_rows rows

name_lacks : (name : List ℕ) → Lacks 10 name → Lacks 10 (codes "name: " ++ name)
name_lacks name lacks = lacks-append 10 (codes "name: ") name refl lacks

time_lacks : (field : List ℕ) → Lacks 10 field → Lacks 10 (codes "time " ++ field)
time_lacks field lacks = lacks-append 10 (codes "time ") field refl lacks

pub tables_one : (xs ys : List Table) (u v : List ℕ) → All IsReadableTable xs → All IsReadableTable ys
    → from_tables xs u ≡ from_tables ys v → (xs ≡ ys) × (u ≡ v)
tables_one [] [] u v first second same = (refl, cc)
tables_one [] (y ∷ ys) u v first second same = cc
tables_one (x ∷ xs) [] u v first second same = cc
tables_one (x ∷ xs) (y ∷ ys) u v first second same =
    let a = all_head IsReadableTable x xs first in
    let b = all_head IsReadableTable y ys second in
    let name = cut_at 10 (codes "name: " ++ x.measurement) (codes "name: " ++ y.measurement) _ _ (name_lacks x.measurement a.measurement) (name_lacks y.measurement b.measurement) same in
    let time = cut_at 10 (codes "time " ++ x.field) (codes "time " ++ y.field) (onto (map row_line x.rows) (from_tables xs u)) (onto (map row_line y.rows) (from_tables ys v))
    (time_lacks x.field a.field) (time_lacks y.field b.field) name.1 in
    let rows = rows_one x.rows y.rows (from_tables xs u) (from_tables ys v) a.rows b.rows (tables_no_row xs u) (tables_no_row ys v) time.1 in
    let rest = tables_one xs ys u v (all_tail IsReadableTable x xs first) (all_tail IsReadableTable y ys second) rows.1 in
    let measurement : x.measurement ≡ y.measurement = let e = name.0 in cc e in
    let field : x.field ≡ y.field = let e = time.0 in cc e in
    let head = table_same x y measurement field rows.0 in
    let tail = rest.0 in
    (cc (head, tail), rest.1)
