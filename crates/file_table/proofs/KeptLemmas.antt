-- A table stays one under each call that puts in, replaces, condemns or forgets.
use Rattle.std.proofs.Common.{◌≡◌, ℕ, suc, ◌+◌, ◌<◌, ◌≤◌, false, List, [], ◌∷◌, ◌++◌, length, get_or, take, drop, insert, remove, refl, sym, ap, ◌∙◌, subst, arith, append_assoc, nat_eq, Option, Some, None}
use Rattle.std.specs.List.{flat_map, IsDistinct}
use Rattle.std.specs.Option.{option_to_list, ForSome}
use Rattle.std.specs.List.Sorted.{IsPermutation, IsStrictlyIncreasing, IsNonDecreasingBy}
use Rattle.std.proofs.Math.Seq.{drop-cons}
use Rattle.std.proofs.lemmas.List.{append-nil, map-append, take-append-drop, drop-drop}
use Rattle.std.proofs.lemmas.Grind.{flat_map-append}
use Rattle.std.proofs.lemmas.List.Sorted.{IsPermutation-trans, IsPermutation-append_right, IsPermutation-map, IsPermutation-insert}
use Rattle.std.proofs.lemmas.Map.Keys.{IsDistinct-head, IsDistinct-tail, IsDistinct-cons}
use Rattle.file_table.specs.declared.row.FileRow.{FileRow}
use Rattle.file_table.specs.declared.condemned.Condemned.{Condemned}
use Rattle.file_table.specs.Files.{files_of, condemned_of, numbers_of, generations_of, unused}
use Rattle.file_table.specs.Table.{Table, IsTable, names, AreNew}
use Rattle.file_table.specs.Calls.{MayReplace, IsNewGeneration, replaced}
use Rattle.file_table.proofs.TableLemmas.{strictly, rising_without, once_permuted, once_behind, swap_front, moved, numbers_of_rows, all_without}

-- ---- one row more

placed_names : (rows rows' : List FileRow) (at : ℕ) (row : FileRow) (others : List ℕ) → rows' ≡ insert rows at row → IsPermutation (files_of row ++ (flat_map files_of rows ++ others)) (flat_map files_of rows' ++ others)
placed_names rows rows' at row others is =
    let front : List ℕ = flat_map files_of (take at rows) in
    let back : List ℕ = flat_map files_of (drop at rows) in
    let before : front ++ (back ++ others) ≡ flat_map files_of rows ++ others =
    sym (append_assoc front back others) ∙ ap (λ (l : List ℕ). l ++ others) (sym (flat_map-append files_of (take at rows) (drop at rows)) ∙ ap (flat_map files_of) (take-append-drop at rows)) in
    let after : front ++ (files_of row ++ (back ++ others)) ≡ flat_map files_of rows' ++ others =
    ap (λ (l : List ℕ). front ++ l) (sym (append_assoc (files_of row) back others)) ∙ sym (append_assoc front (files_of row ++ back) others)
    ∙ ap (λ (l : List ℕ). l ++ others) (sym (flat_map-append files_of (take at rows) (row ∷ drop at rows)) ∙ ap (flat_map files_of) (sym is)) in
    subst (λ (l : List ℕ). IsPermutation (files_of row ++ l) (flat_map files_of rows' ++ others)) before
    (subst (λ (l : List ℕ). IsPermutation (files_of row ++ (front ++ (back ++ others))) l) after (swap_front (files_of row) front (back ++ others)))

pub placed_table : (old new : Table) (row : FileRow) (at : ℕ) → new.condemned ≡ old.condemned → new.rows ≡ insert old.rows at row → IsNonDecreasingBy (λ r. r.generation) new.rows
    → IsTable old → AreNew (files_of row) old → IsNewGeneration row.generation old → IsTable new
placed_table old new row at same is up table files age =
    let shuffled : IsPermutation (row ∷ old.rows) new.rows = subst (IsPermutation (row ∷ old.rows)) (sym is) (IsPermutation-insert old.rows at row) in
    record {
      ascending = strictly (λ r. r.generation) new.rows up (once_permuted (row.generation ∷ generations_of old.rows) (generations_of new.rows) (IsPermutation-map (λ (r : FileRow). r.generation) (row ∷ old.rows) new.rows shuffled) age);
      condemned = subst (λ (l : List Condemned). IsStrictlyIncreasing (numbers_of l)) (sym same) table.condemned;
      once = once_permuted (files_of row ++ names old) (names new)
          (subst (λ (l : List Condemned). IsPermutation (files_of row ++ names old) (flat_map files_of new.rows ++ numbers_of l)) (sym same) (placed_names old.rows new.rows at row (numbers_of old.condemned) is))
          files;
    }

-- ---- rows that give way

split_rows : (first count : ℕ) (rows : List FileRow) → take first rows ++ (take count (drop first rows) ++ drop (first + count) rows) ≡ rows
split_rows first count rows =
    ap (λ (l : List FileRow). take first rows ++ (take count (drop first rows) ++ l)) (sym (drop-drop count first rows))
    ∙ ap (λ (l : List FileRow). take first rows ++ l) (take-append-drop count (drop first rows)) ∙ take-append-drop first rows

three : {Y : Type 0} (h : FileRow → List Y) (some others rest : List FileRow) → flat_map h (some ++ (others ++ rest)) ≡ flat_map h some ++ (flat_map h others ++ flat_map h rest)
three {Y} h some others rest = flat_map-append h some (others ++ rest) ∙ ap (λ (l : List Y). flat_map h some ++ l) (flat_map-append h others rest)

module _ (first count : ℕ) (old new : Table) where
  abbrev front : List FileRow
  front = take first old.rows

  abbrev mid : List FileRow
  mid = take count (drop first old.rows)

  abbrev back : List FileRow
  back = drop (first + count) old.rows

  replaced_names : (put : List FileRow) → new.rows ≡ take first old.rows ++ (put ++ drop (first + count) old.rows)
      → IsPermutation (flat_map condemned_of (take count (drop first old.rows)) ++ old.condemned) new.condemned
      → IsPermutation (flat_map files_of put ++ names old) (names new)
  replaced_names put is condemned =
      let before : (flat_map files_of front ++ (flat_map files_of mid ++ flat_map files_of back)) ++ numbers_of old.condemned ≡ names old =
      ap (λ (l : List ℕ). l ++ numbers_of old.condemned) (sym (three files_of front mid back) ∙ ap (flat_map files_of) (split_rows first count old.rows)) in
      let after : flat_map files_of front ++ (flat_map files_of put ++ flat_map files_of back) ≡ flat_map files_of new.rows =
      sym (three files_of front put back) ∙ ap (flat_map files_of) (sym is) in
      let numbers : numbers_of (flat_map condemned_of mid ++ old.condemned) ≡ flat_map files_of mid ++ numbers_of old.condemned =
      map-append (λ (file : Condemned). file.no) (flat_map condemned_of mid) old.condemned ∙ ap (λ (l : List ℕ). l ++ numbers_of old.condemned) (numbers_of_rows mid) in
      let shuffled : IsPermutation (flat_map files_of mid ++ numbers_of old.condemned) (numbers_of new.condemned) =
      subst (λ (l : List ℕ). IsPermutation l (numbers_of new.condemned)) numbers
      (IsPermutation-map (λ (file : Condemned). file.no) (flat_map condemned_of mid ++ old.condemned) new.condemned condemned) in
      let start = moved (flat_map files_of put) (flat_map files_of front) (flat_map files_of mid) (flat_map files_of back) (numbers_of old.condemned) in
      let start' = subst (λ (l : List ℕ). IsPermutation (flat_map files_of put ++ l) ((flat_map files_of front ++ (flat_map files_of put ++ flat_map files_of back)) ++ (flat_map files_of mid ++ numbers_of old.condemned))) before start in
      let start'' = subst (λ (l : List ℕ). IsPermutation (flat_map files_of put ++ names old) (l ++ (flat_map files_of mid ++ numbers_of old.condemned))) after start' in
      IsPermutation-trans (flat_map files_of put ++ names old) (flat_map files_of new.rows ++ (flat_map files_of mid ++ numbers_of old.condemned)) (names new) start''
      (IsPermutation-append_right (flat_map files_of new.rows) (flat_map files_of mid ++ numbers_of old.condemned) (numbers_of new.condemned) shuffled)

  replaced_with : (put : List FileRow) → new.rows ≡ take first old.rows ++ (put ++ drop (first + count) old.rows)
      → IsPermutation (flat_map condemned_of (take count (drop first old.rows)) ++ old.condemned) new.condemned
      → IsNonDecreasingBy (λ f. f.no) new.condemned → IsDistinct nat_eq (flat_map files_of put ++ names old) → IsStrictlyIncreasing (generations_of new.rows) → IsTable new
  replaced_with put is condemned up once ascending =
      let once' : IsDistinct nat_eq (names new) = once_permuted (flat_map files_of put ++ names old) (names new) (replaced_names put is condemned) once in
      record {
        ascending = ascending;
        condemned = strictly (λ f. f.no) new.condemned up (once_behind (flat_map files_of new.rows) (numbers_of new.condemned) once');
        once = once';
      }

  pub replaced_table : (row : Option FileRow) → new.rows ≡ replaced first count row old.rows
      → IsPermutation (flat_map condemned_of (take count (drop first old.rows)) ++ old.condemned) new.condemned
      → IsNonDecreasingBy (λ f. f.no) new.condemned → IsTable old → ForSome row (MayReplace first count old) → IsTable new
  replaced_table None is condemned up table may =
      let ages : generations_of front ++ (generations_of mid ++ generations_of back) ≡ generations_of old.rows =
      ap (λ (l : List ℕ). generations_of front ++ l) (sym (map-append (λ (r : FileRow). r.generation) mid back)) ∙ sym (map-append (λ (r : FileRow). r.generation) front (mid ++ back))
      ∙ ap generations_of (split_rows first count old.rows) in
      let left = rising_without (generations_of front) (generations_of mid) (generations_of back) (subst IsStrictlyIncreasing (sym ages) table.ascending) in
      replaced_with [] is condemned up table.once (subst IsStrictlyIncreasing (sym (map-append (λ (r : FileRow). r.generation) front back) ∙ ap generations_of (sym is)) left)
  replaced_table (Some row) is condemned up table may =
      let m = may row refl in
      replaced_with (row ∷ []) is condemned up (subst (λ (l : List ℕ). IsDistinct nat_eq (l ++ names old)) (sym (append-nil (files_of row))) m.enters.files)
      (subst (λ (l : List FileRow). IsStrictlyIncreasing (generations_of l)) (sym is) m.between)

-- there is room for the row that is put in
pub room_of : (first count : ℕ) (table : Table) (row : Option FileRow) → ForSome row (MayReplace first count table) → length (option_to_list row) ≤ table.row_room
room_of first count table None may = omega arith
room_of first count table (Some row) may = omega (arith, (may row refl).enters.room)

-- ---- one condemned file more, or one less

pub condemned_table : (number : ℕ) (old new : Table) → new.rows ≡ old.rows → IsPermutation (unused number ∷ old.condemned) new.condemned → IsNonDecreasingBy (λ f. f.no) new.condemned
    → IsTable old → AreNew (number ∷ []) old → IsTable new
condemned_table number old new same condemned up table new_file =
    let rows : List ℕ = flat_map files_of old.rows in
    let shuffled : IsPermutation (number ∷ (rows ++ numbers_of old.condemned)) (rows ++ numbers_of new.condemned) =
    IsPermutation-trans (number ∷ (rows ++ numbers_of old.condemned)) (rows ++ number ∷ numbers_of old.condemned) (rows ++ numbers_of new.condemned)
    (swap_front (number ∷ []) rows (numbers_of old.condemned))
    (IsPermutation-append_right rows (number ∷ numbers_of old.condemned) (numbers_of new.condemned) (IsPermutation-map (λ (file : Condemned). file.no) (unused number ∷ old.condemned) new.condemned condemned)) in
    let once : IsDistinct nat_eq (rows ++ numbers_of new.condemned) = once_permuted (number ∷ names old) (rows ++ numbers_of new.condemned) shuffled new_file in
    record {
      ascending = subst (λ (l : List FileRow). IsStrictlyIncreasing (generations_of l)) (sym same) table.ascending;
      condemned = strictly (λ f. f.no) new.condemned up (once_behind rows (numbers_of new.condemned) once);
      once = subst (λ (l : List FileRow). IsDistinct nat_eq (flat_map files_of l ++ numbers_of new.condemned)) (sym same) once;
    }

once_without : (xs ys zs : List ℕ) → IsDistinct nat_eq (xs ++ (ys ++ zs)) → IsDistinct nat_eq (xs ++ zs)
once_without [] ys zs once = once_behind ys zs once
once_without (x ∷ xs) ys zs once =
    IsDistinct-cons nat_eq x (xs ++ zs) (all_without (λ y. nat_eq x y ≡ false) xs ys zs (IsDistinct-head nat_eq x (xs ++ (ys ++ zs)) once)) (once_without xs ys zs (IsDistinct-tail nat_eq x (xs ++ (ys ++ zs)) once))

pub forgotten_table : (k : ℕ) (old new : Table) → k < length old.condemned → new.rows ≡ old.rows → new.condemned ≡ remove old.condemned k → IsTable old → IsTable new
forgotten_table k old new within same is table =
    let file : Condemned = get_or old.condemned k (unused 0) in
    let front : List Condemned = take k old.condemned in
    let back : List Condemned = drop (suc k) old.condemned in
    let split : old.condemned ≡ front ++ file ∷ back = sym (take-append-drop k old.condemned) ∙ ap (λ (l : List Condemned). front ++ l) (drop-cons old.condemned k (unused 0) within) in
    let numbers : numbers_of old.condemned ≡ numbers_of front ++ file.no ∷ numbers_of back = ap numbers_of split ∙ map-append (λ (f : Condemned). f.no) front (file ∷ back) in
    let left : numbers_of front ++ numbers_of back ≡ numbers_of new.condemned = sym (map-append (λ (f : Condemned). f.no) front back) ∙ ap numbers_of (sym is) in
    let rows : List ℕ = flat_map files_of old.rows in
    let once : IsDistinct nat_eq ((rows ++ numbers_of front) ++ ((file.no ∷ []) ++ numbers_of back)) =
    subst (IsDistinct nat_eq) (ap (λ (l : List ℕ). rows ++ l) numbers ∙ sym (append_assoc rows (numbers_of front) (file.no ∷ numbers_of back))) table.once in
    let once' = once_without (rows ++ numbers_of front) (file.no ∷ []) (numbers_of back) once in
    record {
      ascending = subst (λ (l : List FileRow). IsStrictlyIncreasing (generations_of l)) (sym same) table.ascending;
      condemned = subst IsStrictlyIncreasing left (rising_without (numbers_of front) (file.no ∷ []) (numbers_of back) (subst IsStrictlyIncreasing numbers table.condemned));
      once = subst (λ (l : List FileRow). IsDistinct nat_eq (flat_map files_of l ++ numbers_of new.condemned)) (sym same)
          (subst (λ (l : List ℕ). IsDistinct nat_eq (rows ++ l)) left (subst (IsDistinct nat_eq) (append_assoc rows (numbers_of front) (numbers_of back)) once'));
    }
