-- What a table names, and in what order, under each change of its rows and condemned files.
use Rattle.std.proofs.Common.{◌≡◌, ℕ, ◌+◌, ◌<◌, ◌==◌, Bool, true, false, cond, List, [], ◌∷◌, ◌++◌, length, take, drop, map, refl, sym, ap, ◌∙◌, subst, arith, append_assoc, nat_eq, Some, None}
use Rattle.std.specs.List.{AllByRecursion, flat_map, IsDistinct}
use Rattle.std.specs.Ordering.{nat_cmp}
use Rattle.std.specs.Option.{option_to_list}
use Rattle.std.specs.List.Sorted.{IsPermutation, IsStrictlyIncreasing, IsStrictlySortedBy, IsNonDecreasing, IsNonDecreasingBy}
use Rattle.std.proofs.lemmas.List.{map-append, length-map, get_or-map, take-append-drop, drop-drop}
use Rattle.std.proofs.lemmas.Grind.{flat_map-append}
use Rattle.std.proofs.lemmas.List.Sorted.{IsPermutation-trans, IsPermutation-append_comm, IsPermutation-append_left, IsPermutation-append_right, IsNonDecreasingBy-short, IsNonDecreasingBy-from_default}
use Rattle.std.proofs.lemmas.Map.Keys.{sorted_from_strictly_increasing, IsStrictlyIncreasing-from_sorted, non_decreasing_from_sorted, IsStrictlyIncreasing-from_distinct, IsDistinct-IsPermutation, IsDistinct-tail, IsDistinct-head, IsDistinct-cons}
use Rattle.std.proofs.lemmas.List.Concat.{flat_map_single}
use Rattle.file_table.specs.Table.{Table, IsTable, empty}
use Rattle.file_table.specs.Calls.{with_holds, with_busy, marked}
use Rattle.file_table.specs.declared.row.FileRow.{FileRow}
use Rattle.file_table.specs.declared.condemned.Condemned.{Condemned}
use Rattle.file_table.specs.Files.{files_of, condemned_of, numbers_of, row_numbers_of, generations_of, unused}

-- ---- order

-- keys that ascend strictly don't fall
pub rising : {X : Type 0} (n : X → ℕ) (xs : List X) → IsStrictlyIncreasing (map n xs) → IsNonDecreasingBy n xs
rising n xs up i j d g h =
    let keys = non_decreasing_from_sorted (map n xs) (sorted_from_strictly_increasing (map n xs) up) i j (n d) g (omega (arith, h, length-map xs n)) in
    omega (arith, keys, get_or-map n xs i d (n d) (omega (arith, g, h)), get_or-map n xs j d (n d) h)

-- keys that don't fall and differ ascend strictly
pub strictly : {X : Type 0} (n : X → ℕ) (xs : List X) → IsNonDecreasingBy n xs → IsDistinct nat_eq (map n xs) → IsStrictlyIncreasing (map n xs)
strictly n [] up once = IsStrictlyIncreasing-from_distinct [] (IsNonDecreasingBy-short (λ x. x) [] (omega arith)) once
strictly {X} n (x ∷ xs) up once =
    let all : List X = x ∷ xs in
    let keys : IsNonDecreasing (map n all) = IsNonDecreasingBy-from_default (λ y. y) (map n all) (n x) (λ i j g h.
    let h' : j < length all = omega (arith, h, length-map all n) in
    omega (arith, up i j x g h', get_or-map n all i x (n x) (omega (arith, g, h')), get_or-map n all j x (n x) h')) in
    IsStrictlyIncreasing-from_distinct (map n all) keys once

pub all_without : {X : Type 0} (P : X → Type 0) (xs ys zs : List X) → AllByRecursion P (xs ++ (ys ++ zs)) → AllByRecursion P (xs ++ zs)
all_without P [] [] zs all = all
all_without P [] (y ∷ ys) zs all = all_without P [] ys zs all.1
all_without P (x ∷ xs) ys zs all = (all.0, all_without P xs ys zs all.1)

sorted_without : (xs ys zs : List ℕ) → IsStrictlySortedBy nat_cmp (xs ++ (ys ++ zs)) → IsStrictlySortedBy nat_cmp (xs ++ zs)
unfolding IsStrictlySortedBy
sorted_without [] [] zs up = up
sorted_without [] (y ∷ ys) zs up = sorted_without [] ys zs up.1
sorted_without (x ∷ xs) ys zs up = (all_without (λ y. nat_cmp x y ≡ _) xs ys zs up.0, sorted_without xs ys zs up.1)

-- what ascends does so without a part
pub rising_without : (xs ys zs : List ℕ) → IsStrictlyIncreasing (xs ++ (ys ++ zs)) → IsStrictlyIncreasing (xs ++ zs)
rising_without xs ys zs up = IsStrictlyIncreasing-from_sorted (xs ++ zs) (sorted_without xs ys zs (sorted_from_strictly_increasing (xs ++ (ys ++ zs)) up))

-- ---- numbers that differ

flips : (x y : ℕ) → nat_eq x y ≡ nat_eq y x
flips x y = grind arith

-- in another order they still do
pub once_permuted : (xs ys : List ℕ) → IsPermutation xs ys → IsDistinct nat_eq xs → IsDistinct nat_eq ys
once_permuted xs ys same once = IsDistinct-IsPermutation nat_eq flips xs ys same once

pub once_behind : (xs ys : List ℕ) → IsDistinct nat_eq (xs ++ ys) → IsDistinct nat_eq ys
once_behind [] ys once = once
once_behind (x ∷ xs) ys once = once_behind xs ys (IsDistinct-tail nat_eq x (xs ++ ys) once)

-- ---- the same items in another order

pub swap_front : {X : Type 0} (xs ys zs : List X) → IsPermutation (xs ++ (ys ++ zs)) (ys ++ (xs ++ zs))
swap_front xs ys zs =
    subst (λ (l : List _). IsPermutation l (ys ++ (xs ++ zs))) (append_assoc xs ys zs)
    (subst (λ (l : List _). IsPermutation ((xs ++ ys) ++ zs) l) (append_assoc ys xs zs) (IsPermutation-append_left zs (xs ++ ys) (ys ++ xs) (IsPermutation-append_comm xs ys)))

-- what is put in comes behind the first part, and what was there moves behind the last
pub moved : {X : Type 0} (new first mid last others : List X) → IsPermutation (new ++ ((first ++ (mid ++ last)) ++ others)) ((first ++ (new ++ last)) ++ (mid ++ others))
moved {X} new first mid last others =
    let start : List X = new ++ ((first ++ (mid ++ last)) ++ others) in
    let spread : start ≡ new ++ (first ++ (mid ++ (last ++ others))) = ap (λ (l : List X). new ++ l) (append_assoc first (mid ++ last) others ∙ ap (λ (l : List X). first ++ l) (append_assoc mid last others)) in
    let end : first ++ (new ++ (last ++ (mid ++ others))) ≡ (first ++ (new ++ last)) ++ (mid ++ others) =
    ap (λ (l : List X). first ++ l) (sym (append_assoc new last (mid ++ others))) ∙ sym (append_assoc first (new ++ last) (mid ++ others)) in
    let inner : IsPermutation (first ++ (new ++ (mid ++ (last ++ others)))) (first ++ (new ++ (last ++ (mid ++ others)))) =
    IsPermutation-append_right first (new ++ (mid ++ (last ++ others))) (new ++ (last ++ (mid ++ others)))
    (IsPermutation-append_right new (mid ++ (last ++ others)) (last ++ (mid ++ others)) (swap_front mid last others)) in
    subst (λ (l : List X). IsPermutation l ((first ++ (new ++ last)) ++ (mid ++ others))) (sym spread)
    (subst (λ (l : List X). IsPermutation (new ++ (first ++ (mid ++ (last ++ others)))) l) end
    (IsPermutation-trans _ _ _ (swap_front new first (mid ++ (last ++ others))) inner))

-- ---- what condemned rows are named

numbers_of_row : (row : FileRow) → numbers_of (condemned_of row) ≡ files_of row
numbers_of_row row = elim row.tomb as (λ tomb. numbers_of (record { no = row.no; holds = row.holds } ∷ map unused (option_to_list tomb)) ≡ row.no ∷ option_to_list tomb) [ None ↦ refl | Some tomb ↦ refl ]

pub numbers_of_rows : (rows : List FileRow) → numbers_of (flat_map condemned_of rows) ≡ flat_map files_of rows
numbers_of_rows [] = refl
numbers_of_rows (row ∷ rows) =
    map-append (λ (file : Condemned). file.no) (condemned_of row) (flat_map condemned_of rows)
    ∙ ap (λ (l : List ℕ). l ++ numbers_of (flat_map condemned_of rows)) (numbers_of_row row)
    ∙ ap (λ (l : List ℕ). files_of row ++ l) (numbers_of_rows rows)

-- ---- changes that leave names as they are

pub same_map : {X Y : Type 0} (h : X → Y) (f : X → X) → ((x : X) → h (f x) ≡ h x) → (xs : List X) → map h (map f xs) ≡ map h xs
same_map h f same [] = refl
same_map h f same (x ∷ xs) = λ i. same x i ∷ same_map h f same xs i

pub same_flat_map : {X Y : Type 0} (h : X → List Y) (f : X → X) → ((x : X) → h (f x) ≡ h x) → (xs : List X) → flat_map h (map f xs) ≡ flat_map h xs
same_flat_map h f same [] = refl
same_flat_map h f same (x ∷ xs) = λ i. same x i ++ same_flat_map h f same xs i

pub same_cond : {X Y : Type 0} (h : X → Y) (b : Bool) (x y : X) → h x ≡ h y → h (cond b x y) ≡ h y
same_cond h true x y same = same
same_cond h false x y same = refl

-- ---- what holds of each item

pub all_front : {X : Type 0} (P : X → Type 0) (xs ys : List X) → AllByRecursion P (xs ++ ys) → AllByRecursion P xs
all_front P [] ys all = tt
all_front P (x ∷ xs) ys all = (all.0, all_front P xs ys all.1)

pub all_back : {X : Type 0} (P : X → Type 0) (xs ys : List X) → AllByRecursion P (xs ++ ys) → AllByRecursion P ys
all_back P [] ys all = all
all_back P (x ∷ xs) ys all = all_back P xs ys all.1

-- what holds of all files of rows holds of the rows' own
among_rows : (P : ℕ → Type 0) (rows : List FileRow) → AllByRecursion P (flat_map files_of rows) → AllByRecursion P (row_numbers_of rows)
among_rows P [] all = tt
among_rows P (row ∷ rows) all = (all.0, among_rows P rows (all_back P (option_to_list row.tomb) (flat_map files_of rows) all.1))

none_twice : IsDistinct nat_eq []
unfolding IsDistinct
none_twice = tt

-- ---- tables

-- a table that names the same
pub same_table : (old new : Table) → flat_map files_of new.rows ≡ flat_map files_of old.rows → generations_of new.rows ≡ generations_of old.rows → numbers_of new.condemned ≡ numbers_of old.condemned → IsTable old → IsTable new
same_table old new files ages numbers table = record {
  ascending = subst IsStrictlyIncreasing (sym ages) table.ascending;
  condemned = subst IsStrictlyIncreasing (sym numbers) table.condemned;
  once = subst (IsDistinct nat_eq) (sym (λ i. files i ++ numbers i)) table.once;
}

pub held_table : (change : ℕ → ℕ) (number : ℕ) (old : Table) → IsTable old → IsTable (with_holds change number old)
held_table change number old table =
    let row_of : FileRow → FileRow = λ row. cond (row.no == number) (record row { holds = change row.holds }) row in
    let file_of : Condemned → Condemned = λ file. cond (file.no == number) (record file { holds = change file.holds }) file in
    same_table old (with_holds change number old)
    (same_flat_map files_of row_of (λ row. same_cond files_of (row.no == number) (record row { holds = change row.holds }) row refl) old.rows)
    (same_map (λ row. row.generation) row_of (λ row. same_cond (λ (r : FileRow). r.generation) (row.no == number) (record row { holds = change row.holds }) row refl) old.rows)
    (same_map (λ file. file.no) file_of (λ file. same_cond (λ (f : Condemned). f.no) (file.no == number) (record file { holds = change file.holds }) file refl) old.condemned)
    table

-- rows that are marked name the same
same_marked : {Y : Type 0} (h : FileRow → List Y) → ((row : FileRow) (busy : Bool) → h (record row { busy = busy }) ≡ h row) → (first count : ℕ) (busy : Bool) (rows : List FileRow) → flat_map h (marked first count busy rows) ≡ flat_map h rows
same_marked {Y} h same first count busy rows =
    let mid : List FileRow = take count (drop first rows) in
    let last : List FileRow = drop (first + count) rows in
    let whole : take first rows ++ (mid ++ last) ≡ rows =
    ap (λ (l : List FileRow). take first rows ++ (mid ++ l)) (sym (drop-drop count first rows)) ∙ ap (λ (l : List FileRow). take first rows ++ l) (take-append-drop count (drop first rows)) ∙ take-append-drop first rows in
    let parts : (some : List FileRow) → flat_map h (take first rows ++ (some ++ last)) ≡ flat_map h (take first rows) ++ (flat_map h some ++ flat_map h last) =
    λ some. flat_map-append h (take first rows) (some ++ last) ∙ ap (λ (l : List Y). flat_map h (take first rows) ++ l) (flat_map-append h some last) in
    parts (map (λ (row : FileRow). record row { busy = busy }) mid)
    ∙ ap (λ (l : List Y). flat_map h (take first rows) ++ (l ++ flat_map h last)) (same_flat_map h (λ row. record row { busy = busy }) (λ row. same row busy) mid)
    ∙ sym (parts mid) ∙ ap (flat_map h) whole

pub busy_table : (first count : ℕ) (busy : Bool) (old : Table) → IsTable old → IsTable (with_busy first count busy old)
busy_table first count busy old table =
    same_table old (with_busy first count busy old)
    (same_marked files_of (λ row b. refl) first count busy old.rows)
    (sym (flat_map_single (λ (row : FileRow). row.generation) (marked first count busy old.rows)) ∙ same_marked (λ row. row.generation ∷ []) (λ row b. refl) first count busy old.rows ∙ flat_map_single (λ (row : FileRow). row.generation) old.rows)
    refl
    table

-- the rows of a table have numbers of their own
rows_once : (rows : List FileRow) (others : List ℕ) → IsDistinct nat_eq (flat_map files_of rows ++ others) → IsDistinct nat_eq (row_numbers_of rows)
rows_once [] others once = none_twice
rows_once (row ∷ rows) others once =
    let whole : files_of row ++ (flat_map files_of rows ++ others) ≡ files_of row ++ flat_map files_of rows ++ others = sym (append_assoc (files_of row) (flat_map files_of rows) others) in
    let once' = subst (IsDistinct nat_eq) (sym whole) once in
    let behind = once_behind (files_of row) (flat_map files_of rows ++ others) once' in
    let head = IsDistinct-head nat_eq row.no (option_to_list row.tomb ++ (flat_map files_of rows ++ others)) once' in
    IsDistinct-cons nat_eq row.no (row_numbers_of rows)
    (among_rows (λ n. nat_eq row.no n ≡ false) rows (all_front (λ n. nat_eq row.no n ≡ false) (flat_map files_of rows) others (all_back (λ n. nat_eq row.no n ≡ false) (option_to_list row.tomb) (flat_map files_of rows ++ others) head)))
    (rows_once rows others behind)

pub table_rows_once : (table : Table) → IsTable table → IsDistinct nat_eq (row_numbers_of table.rows)
table_rows_once table is = rows_once table.rows (numbers_of table.condemned) is.once

pub empty_table : IsTable empty
empty_table = record { ascending = λ k h. absurd (omega (arith, h)); condemned = λ k h. absurd (omega (arith, h)); once = none_twice }
