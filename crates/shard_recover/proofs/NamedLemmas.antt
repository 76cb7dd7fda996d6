-- The files that a manifest names are apart.
use Rattle.std.proofs.Common.{◌≡◌, ◌≢◌, ℕ, nat_eq, List, [], ◌∷◌, ◌++◌, sym, ◌∙◌, subst, append_assoc, eq-eqb, false, Option, Some}
use Rattle.std.proofs.lemmas.Bool.{false≢true}
use Rattle.std.specs.List.{AllByRecursion, IsDistinct, flat_map}
use Rattle.std.specs.Option.{option_to_list}
use Rattle.file_table.specs.Files.{files_of, row_numbers_of}
use Rattle.file_table.specs.declared.row.FileRow.{FileRow}
use Rattle.manifest_log.specs.declared.directory.Directory.{Directory as Named}
use Rattle.manifest_log.specs.Edits.{IsSound}
use Rattle.series_store.proofs.ListLemmas.{all_left, all_right}
use Rattle.shard_state.specs.Books.{IsApart}

differ : (x y : ℕ) → nat_eq x y ≡ false → x ≢ y
differ x y is e = false≢true (sym is ∙ eq-eqb x y e)

-- each of the first numbers is another than this one of those behind them
cross : (xs ys : List ℕ) (y : ℕ) → ((P : ℕ → Type 0) → AllByRecursion P ys → P y) → IsDistinct nat_eq (xs ++ ys) → IsApart y xs
unfolding IsDistinct
cross [] ys y pick distinct = tt
cross (x ∷ xs) ys y pick distinct =
    (differ x y (pick (λ z. nat_eq x z ≡ false) (all_right (λ z. nat_eq x z ≡ false) xs ys distinct.0)), cross xs ys y pick distinct.1)

not_here : (x : ℕ) (xs : List ℕ) → AllByRecursion (λ y. nat_eq x y ≡ false) xs → IsApart x xs
not_here x [] all = tt
not_here x (y ∷ ys) all = ((λ e. differ x y all.0 (sym e)), not_here x ys all.1)

distinct_right : (xs ys : List ℕ) → IsDistinct nat_eq (xs ++ ys) → IsDistinct nat_eq ys
unfolding IsDistinct
distinct_right [] ys distinct = distinct
distinct_right (x ∷ xs) ys distinct = distinct_right xs ys distinct.1

-- the files of rows are not this one, so their own numbers aren't
pub rows_apart : (x : ℕ) (rows : List FileRow) → IsApart x (flat_map files_of rows) → IsApart x (row_numbers_of rows)
rows_apart x [] all = tt
rows_apart x (row ∷ rows) all = (all.0, rows_apart x rows (all_right (λ y. y ≢ x) (files_of row) (flat_map files_of rows) all))

pub record Distinct (before tsm : List ℕ) (last series : ℕ) : Type 0 where
  pub series_manifest : 0 ≢ series
  pub last_manifest : 0 ≢ last
  pub last_series : series ≢ last
  pub series_before : IsApart series before
  pub last_before : IsApart last before
  pub manifest_before : IsApart 0 before
  pub series_tsm : IsApart series tsm
  pub last_tsm : IsApart last tsm
  pub manifest_tsm : IsApart 0 tsm

pub are_distinct : (before : List ℕ) (last series : ℕ) (tsm index : List ℕ) → IsDistinct nat_eq (0 ∷ (before ++ last ∷ []) ++ (tsm ++ (series ∷ index))) → Distinct before tsm last series
unfolding IsDistinct
are_distinct before last series tsm index distinct =
    let logs = before ++ last ∷ [] in
    let others = tsm ++ (series ∷ index) in
    let zero = not_here 0 (logs ++ others) distinct.0 in
    let zero_logs = all_left (λ x. x ≢ 0) logs others zero in
    let of_series = cross logs others series (λ P all. (all_right P tsm (series ∷ index) all).0) distinct.1 in
    let behind = subst (IsDistinct nat_eq) (append_assoc before (last ∷ []) others) distinct.1 in
    record {
      series_manifest = λ e. (all_right (λ x. x ≢ 0) tsm (series ∷ index) (all_right (λ x. x ≢ 0) logs others zero)).0 (sym e);
      last_manifest = λ e. (all_right (λ x. x ≢ 0) before (last ∷ []) zero_logs).0 (sym e);
      last_series = λ e. (all_right (λ x. x ≢ series) before (last ∷ []) of_series).0 (sym e);
      series_before = all_left (λ x. x ≢ series) before (last ∷ []) of_series;
      last_before = cross before (last ∷ others) last (λ P all. all.0) (subst (IsDistinct nat_eq) (append_assoc before (last ∷ []) others) distinct.1);
      manifest_before = all_left (λ x. x ≢ 0) before (last ∷ []) zero_logs;
      series_tsm = cross tsm (series ∷ index) series (λ P all. all.0) (distinct_right logs others distinct.1);
      last_tsm = all_left (λ x. x ≢ last) tsm (series ∷ index) (not_here last others (distinct_right before (last ∷ others) behind).0);
      manifest_tsm = all_left (λ x. x ≢ 0) tsm (series ∷ index) (all_right (λ x. x ≢ 0) logs others zero);
    }

pub named_apart : (named : Named) (before : List ℕ) (last series : ℕ) → IsSound named → named.segments ≡ before ++ last ∷ [] → named.series ≡ Some series → Distinct before (flat_map files_of named.files) last series
named_apart named before last series sound segments is =
    are_distinct before last series (flat_map files_of named.files) (option_to_list named.index_log ++ option_to_list named.index_file)
    (subst (λ (o : Option ℕ). IsDistinct nat_eq (0 ∷ (before ++ last ∷ []) ++ (flat_map files_of named.files ++ (option_to_list o ++ (option_to_list named.index_log ++ option_to_list named.index_file))))) is
    (subst (λ (l : List ℕ). IsDistinct nat_eq (0 ∷ l ++ (flat_map files_of named.files ++ (option_to_list named.series ++ (option_to_list named.index_log ++ option_to_list named.index_file))))) segments sound.once))
