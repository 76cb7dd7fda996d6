-- The row or the condemned file of a number is the only one, so what is known of it is known of what a search finds.
use Rattle.std.proofs.Common.{◌≡◌, ℕ, zero, suc, ◌+◌, ◌^◌, ◌<◌, ◌==◌, Bool, true, false, cond, List, [], ◌∷◌, ◌++◌, length, get_or, map, filter, refl, sym, ap, ◌∙◌, subst, arith, nat_eq, Contains, ⊎_elim, append_assoc}
use Rattle.std.specs.List.{All, flat_map, IsDistinct}
use Rattle.std.specs.Option.{option_to_list}
use Rattle.std.specs.List.Sorted.{IsStrictlyIncreasing}
use Rattle.std.proofs.lemmas.Bool.{cases_lt}
use Rattle.std.proofs.lemmas.List.{length-map, get_or-map, get_or_default}
use Rattle.std.proofs.lemmas.List.Elements.{All-from_recursion}
use Rattle.std.proofs.lemmas.Map.Keys.{IsDistinct-head, apart_from_distinct}
use Rattle.file_table.specs.declared.row.FileRow.{FileRow}
use Rattle.file_table.specs.declared.condemned.Condemned.{Condemned}
use Rattle.file_table.specs.Files.{files_of, numbers_of, unused, free_of}
use Rattle.file_table.specs.Table.{Table, IsTable, CanBeHeld}
use Rattle.file_table.proofs.CountLemmas.{once_rising}
use Rattle.file_table.proofs.TableLemmas.{once_behind, all_back, table_rows_once}

-- two places of one key are one place
pub one_place : {X : Type 0} (key : X → ℕ) (xs : List X) (i k : ℕ) (d e : X) → IsDistinct nat_eq (map key xs) → i < length xs → k < length xs → key (get_or xs i d) ≡ key (get_or xs k e) → i ≡ k
one_place {X} key xs i k d e once hi hk same =
    let apart : (a b : ℕ) (x y : X) → a < b → b < length xs → key (get_or xs a x) ≡ key (get_or xs b y) → ⊥ =
    λ a b x y less h is.
    let differ : nat_eq (get_or (map key xs) a (key x)) (get_or (map key xs) b (key x)) ≡ false = apart_from_distinct nat_eq (map key xs) a b (key x) once less (omega (arith, h, length-map xs key)) in
    let first : get_or (map key xs) a (key x) ≡ key (get_or xs a x) = get_or-map key xs a x (key x) (omega (arith, less, h)) in
    let second : get_or (map key xs) b (key x) ≡ key (get_or xs b y) = get_or-map key xs b x (key x) h ∙ ap key (get_or_default xs b x y h) in
    grind (arith, differ, first, second, is) in
    ⊎_elim
    (λ below. absurd (apart i k d e below hk same))
    (λ not_below. ⊎_elim (λ above. absurd (apart k i e d above hi (sym same))) (λ not_above. omega (arith, not_below, not_above)) (cases_lt k i))
    (cases_lt i k)

abbrev IsThere : List Condemned → ℕ → Type 0
IsThere files number = (i : ℕ) × (i < length files) × (get_or files i (unused number) ≡ unused number)

abbrev idle_of : List Condemned → List Condemned
idle_of files = filter (λ (f : Condemned). f.holds == 0) files

free_either : (file : Condemned) (files : List Condemned) (number : ℕ) (idle : Bool) → (file.holds == 0) ≡ idle → (Contains (free_of files) number → IsThere files number) → (k : ℕ)
    → k < length (numbers_of (cond idle (file ∷ idle_of files) (idle_of files)))
    → get_or (numbers_of (cond idle (file ∷ idle_of files) (idle_of files))) k number ≡ number
    → IsThere (file ∷ files) number
free_either file files number true idle behind zero within is =
    let none : file.holds ≡ 0 = grind (arith, idle) in
    (0, omega arith, λ i. record { no = is i; holds = none i })
free_either file files number true idle behind (suc k) within is =
    let there = behind (k, omega (arith, within), is) in
    (suc there.0, omega (arith, there.1), there.2)
free_either file files number false idle behind k within is =
    let there = behind (k, within, is) in
    (suc there.0, omega (arith, there.1), there.2)

-- a file that is free is among the condemned
free_there : (files : List Condemned) (number : ℕ) → Contains (free_of files) number → IsThere files number
free_there [] number (k, within, is) = absurd (omega (arith, within))
free_there (file ∷ files) number (k, within, is) = free_either file files number (file.holds == 0) refl (λ free. free_there files number free) k within is

-- where a free file was found, nobody has it in use
pub found_free : (files : List Condemned) (number k : ℕ) (d : Condemned) → IsStrictlyIncreasing (numbers_of files) → Contains (free_of files) number → k < length files → (get_or files k d).no ≡ number → unused number ≡ get_or files k (unused number)
found_free files number k d up free within found =
    let there = free_there files number free in
    let same : there.0 ≡ k = one_place (λ (f : Condemned). f.no) files there.0 k (unused number) d (once_rising (numbers_of files) up) there.1 within (ap (λ (f : Condemned). f.no) there.2 ∙ sym found) in
    sym there.2 ∙ ap (λ (j : ℕ). get_or files j (unused number)) same

-- a free file is found
pub free_is_found : (files : List Condemned) (number : ℕ) → Contains (free_of files) number → All (λ f. (f.no == number) ≡ false) files → ⊥
free_is_found files number free none =
    let there = free_there files number free in
    let here : (get_or files there.0 (unused number)).no ≡ number = ap (λ (f : Condemned). f.no) there.2 in
    let missed = none there.0 (unused number) there.1 in
    grind (arith, here, missed)

-- a row's file isn't condemned
row_not_condemned : (rows : List FileRow) (others : List ℕ) (k j : ℕ) (d : FileRow) (e : ℕ) → IsDistinct nat_eq (flat_map files_of rows ++ others) → k < length rows → j < length others → (get_or rows k d).no ≡ get_or others j e → ⊥
row_not_condemned [] others k j d e once hk hj same = absurd (omega (arith, hk))
row_not_condemned (row ∷ rows) others zero j d e once hk hj same =
    let once' : IsDistinct nat_eq (row.no ∷ (option_to_list row.tomb ++ (flat_map files_of rows ++ others))) = subst (IsDistinct nat_eq) (append_assoc (files_of row) (flat_map files_of rows) others) once in
    let all = all_back (λ n. nat_eq row.no n ≡ false) (flat_map files_of rows) others (all_back (λ n. nat_eq row.no n ≡ false) (option_to_list row.tomb) (flat_map files_of rows ++ others) (IsDistinct-head nat_eq row.no (option_to_list row.tomb ++ (flat_map files_of rows ++ others)) once')) in
    let apart = All-from_recursion (λ n. nat_eq row.no n ≡ false) others all j e hj in
    grind (arith, apart, same)
row_not_condemned (row ∷ rows) others (suc k) j d e once hk hj same =
    row_not_condemned rows others k j d e (once_behind (files_of row) (flat_map files_of rows ++ others) (subst (IsDistinct nat_eq) (append_assoc (files_of row) (flat_map files_of rows) others) once)) (omega (arith, hk)) hj same

-- where a file can be held, one hold more can be counted of what is found
pub room_in_rows : (number : ℕ) (table : Table) → IsTable table → CanBeHeld number table → All (λ row. row.no ≡ number → row.holds + 1 < 2 ^ 64) table.rows
room_in_rows number table is can k d within here =
    ⊎_elim
    (λ (j, row, hj, at, (same, room)).
    let place : j ≡ k = one_place (λ (r : FileRow). r.no) table.rows j k row d (table_rows_once table is) hj within (ap (λ (r : FileRow). r.no) at ∙ same ∙ sym here) in
    let found : get_or table.rows k d ≡ row = get_or_default table.rows k d row within ∙ ap (λ (i : ℕ). get_or table.rows i row) (sym place) ∙ at in
    subst (λ (h : ℕ). h + 1 < 2 ^ 64) (ap (λ (r : FileRow). r.holds) (sym found)) room)
    (λ (j, file, hj, at, (same, room)).
    absurd (row_not_condemned table.rows (numbers_of table.condemned) k j d file.no is.once within (omega (arith, hj, length-map table.condemned (λ (f : Condemned). f.no)))
    (here ∙ sym same ∙ ap (λ (f : Condemned). f.no) (sym at) ∙ sym (get_or-map (λ (f : Condemned). f.no) table.condemned j file file.no hj))))
    can

pub room_in_condemned : (number : ℕ) (table : Table) → IsTable table → CanBeHeld number table → All (λ file. file.no ≡ number → file.holds + 1 < 2 ^ 64) table.condemned
room_in_condemned number table is can k d within here =
    ⊎_elim
    (λ (j, row, hj, at, (same, room)).
    absurd (row_not_condemned table.rows (numbers_of table.condemned) j k row d.no is.once hj (omega (arith, within, length-map table.condemned (λ (f : Condemned). f.no)))
    (ap (λ (r : FileRow). r.no) at ∙ same ∙ sym here ∙ sym (get_or-map (λ (f : Condemned). f.no) table.condemned k d d.no within))))
    (λ (j, file, hj, at, (same, room)).
    let place : j ≡ k = one_place (λ (f : Condemned). f.no) table.condemned j k file d (once_rising (numbers_of table.condemned) is.condemned) hj within (ap (λ (f : Condemned). f.no) at ∙ same ∙ sym here) in
    let found : get_or table.condemned k d ≡ file = get_or_default table.condemned k d file within ∙ ap (λ (i : ℕ). get_or table.condemned i file) (sym place) ∙ at in
    subst (λ (h : ℕ). h + 1 < 2 ^ 64) (ap (λ (f : Condemned). f.holds) (sym found)) room)
    can
