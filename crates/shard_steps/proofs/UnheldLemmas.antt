-- The series that are noted one after another are those that aren't held.
use Rattle.std.proofs.Common.{◌≡◌, ℕ, Bool, true, false, not, ◌&&◌, ◌||◌, List, [], ◌∷◌, ◌++◌, map, filter, refl, sym, ap, ◌∙◌, subst, if◌then◌else◌, cond}
use Rattle.std.specs.List.{IsDistinct}
use Rattle.std.specs.Str.{bytes_eq}
use Rattle.std.proofs.lemmas.Cmp.{nat_list_eq_equiv}
use Rattle.std.proofs.lemmas.Map.Keys.{IsDistinct-push}
use Rattle.indexmap.specs.IndexSet.{insert_key}
use Rattle.tsdb_types.specs.Columns.{column_of, columns_of, is_same_column}
use Rattle.tsdb_types.specs.declared.column.Column.{Column}
use Rattle.tsdb_types.specs.declared.point.Point.{Point}
use Rattle.tsdb_types.proofs.ColumnLemmas.{same-equal}
use Rattle.shard_steps.specs.Series.{AreUnheld, all_noted, is_among, noted, series_of}
use Rattle.shard_steps.proofs.MemberLemmas.{among_append, among_one, by_case, nor, one_text}

module _ (held : List (List ℕ)) where
  noted_distinct : (key : List ℕ) (new : List (List ℕ)) → IsDistinct bytes_eq new → IsDistinct bytes_eq (noted held key new)
  noted_distinct key new distinct =
      by_case (is_among held key)
      (λ there. subst (λ (b : Bool). IsDistinct bytes_eq (if b then new else insert_key bytes_eq new key)) (sym there) distinct)
      (λ absent. subst (λ (b : Bool). IsDistinct bytes_eq (if b then new else insert_key bytes_eq new key)) (sym absent)
      (by_case (is_among new key)
      (λ among. subst (λ (b : Bool). IsDistinct bytes_eq (if b then new else new ++ key ∷ [])) (sym among) distinct)
      (λ fresh. subst (λ (b : Bool). IsDistinct bytes_eq (if b then new else new ++ key ∷ [])) (sym fresh) (IsDistinct-push nat_list_eq_equiv new key distinct fresh))))

  -- a text and its like are among the same
  turned : (texts : List (List ℕ)) (text key : List ℕ) → bytes_eq text key ≡ true → is_among texts text ≡ is_among texts key
  turned texts text key same = ap (is_among texts) (one_text text key same)

  inserted : (key : List ℕ) (new : List (List ℕ)) (text : List ℕ) → is_among (insert_key bytes_eq new key) text ≡ (is_among new text || bytes_eq text key)
  inserted key new text =
      by_case (is_among new key)
      (λ among. ap (λ (b : Bool). is_among (if b then new else new ++ key ∷ []) text) among ∙ here among)
      (λ fresh. ap (λ (b : Bool). is_among (if b then new else new ++ key ∷ []) text) fresh ∙ among_append new (key ∷ []) text ∙ ap (λ (b : Bool). is_among new text || b) (among_one key text))
    where
      or_true : (a : Bool) → (a || true) ≡ true
      or_true true = refl
      or_true false = refl

      here : is_among new key ≡ true → is_among new text ≡ (is_among new text || bytes_eq text key)
      here among = by_case (bytes_eq text key)
          (λ same. turned new text key same ∙ among ∙ sym (ap (λ (b : Bool). is_among new text || b) same ∙ or_true (is_among new text)))
          (λ other. sym (ap (λ (b : Bool). is_among new text || b) other ∙ nor (is_among new text)))

  noted_member : (key : List ℕ) (new : List (List ℕ)) (text : List ℕ) → is_among (noted held key new) text ≡ (is_among new text || (bytes_eq text key && not (is_among held text)))
  noted_member key new text =
      by_case (is_among held key)
      (λ there. ap (λ (b : Bool). is_among (if b then new else insert_key bytes_eq new key) text) there ∙ none there)
      (λ absent. ap (λ (b : Bool). is_among (if b then new else insert_key bytes_eq new key) text) absent ∙ inserted key new text ∙ ap (λ (b : Bool). is_among new text || b) (some absent))
    where
      none : is_among held key ≡ true → is_among new text ≡ (is_among new text || (bytes_eq text key && not (is_among held text)))
      none there = by_case (bytes_eq text key)
          (λ same. sym (ap (λ (b : Bool). is_among new text || (b && not (is_among held text))) same ∙ ap (λ (b : Bool). is_among new text || not b) (turned held text key same ∙ there) ∙ nor (is_among new text)))
          (λ other. sym (ap (λ (b : Bool). is_among new text || (b && not (is_among held text))) other ∙ nor (is_among new text)))

      some : is_among held key ≡ false → bytes_eq text key ≡ (bytes_eq text key && not (is_among held text))
      some absent = by_case (bytes_eq text key)
          (λ same. same ∙ sym (ap (λ (b : Bool). b && not (is_among held text)) same ∙ ap (λ (b : Bool). not b) (turned held text key same ∙ absent)))
          (λ other. other ∙ sym (ap (λ (b : Bool). b && not (is_among held text)) other))

  all_distinct : (keys new : List (List ℕ)) → IsDistinct bytes_eq new → IsDistinct bytes_eq (all_noted held keys new)
  all_distinct [] new distinct = distinct
  all_distinct (key ∷ keys) new distinct = all_distinct keys (noted held key new) (noted_distinct key new distinct)

  all_member : (keys new : List (List ℕ)) (text : List ℕ) → is_among (all_noted held keys new) text ≡ (is_among new text || (is_among keys text && not (is_among held text)))
  all_member [] new text = sym (nor (is_among new text))
  all_member (key ∷ keys) new text =
      all_member keys (noted held key new) text ∙ ap (λ (b : Bool). b || (is_among keys text && not (is_among held text))) (noted_member key new text)
      ∙ split (is_among new text) (bytes_eq text key) (is_among keys text) (not (is_among held text))
    where
      split : (a b c d : Bool) → ((a || (b && d)) || (c && d)) ≡ (a || ((b || c) && d))
      split true b c d = refl
      split false true c true = refl
      split false true true false = refl
      split false true false false = refl
      split false false c d = refl

abbrev pub texts_of : List Column → List (List ℕ)
texts_of columns = map (λ (column : Column). column.series) columns

-- leaving out the columns of one series and field leaves out no other series
kept_series : (first : Column) (columns : List Column) (text : List ℕ)
    → (bytes_eq text first.series || is_among (texts_of (filter (λ column. not (is_same_column first column)) columns)) text) ≡ (bytes_eq text first.series || is_among (texts_of columns) text)
kept_series first [] text = refl
kept_series first (column ∷ columns) text =
    by_case (is_same_column first column)
    (λ same. ap (λ (b : Bool). bytes_eq text first.series || is_among (texts_of (cond (not b) (column ∷ rest) rest)) text) same ∙ kept_series first columns text ∙ absorbed same)
    (λ other. ap (λ (b : Bool). bytes_eq text first.series || is_among (texts_of (cond (not b) (column ∷ rest) rest)) text) other ∙ moved (bytes_eq text first.series) (bytes_eq text column.series) (is_among (texts_of rest) text)
    ∙ ap (λ (b : Bool). bytes_eq text column.series || b) (kept_series first columns text) ∙ sym (moved (bytes_eq text first.series) (bytes_eq text column.series) (is_among (texts_of columns) text)))
  where
    rest : List Column
    rest = filter (λ c. not (is_same_column first c)) columns

    moved : (a b c : Bool) → (a || (b || c)) ≡ (b || (a || c))
    moved true true c = refl
    moved true false c = refl
    moved false b c = refl

    twice : (a b : Bool) → (a || b) ≡ (a || (a || b))
    twice true b = refl
    twice false b = refl

    absorbed : is_same_column first column ≡ true → (bytes_eq text first.series || is_among (texts_of columns) text) ≡ (bytes_eq text first.series || (bytes_eq text column.series || is_among (texts_of columns) text))
    absorbed same = twice (bytes_eq text first.series) (is_among (texts_of columns) text)
        ∙ ap (λ (c : Column). bytes_eq text first.series || (bytes_eq text c.series || is_among (texts_of columns) text)) (same-equal first column same)

-- the series of the columns are those of the points
column_series : (points : List Point) (text : List ℕ) → is_among (texts_of (columns_of points)) text ≡ is_among (series_of points) text
column_series [] text = refl
column_series (point ∷ points) text =
    kept_series (column_of point) (columns_of points) text ∙ ap (λ (b : Bool). bytes_eq text point.cell.series || b) (column_series points text)

pub noted_unheld : (held : List (List ℕ)) (points : List Point) → AreUnheld held points (all_noted held (texts_of (columns_of points)) [])
unfolding IsDistinct
noted_unheld held points = record {
  distinct = all_distinct held (texts_of (columns_of points)) [] tt;
  exact = λ text. all_member held (texts_of (columns_of points)) [] text ∙ ap (λ (b : Bool). b && not (is_among held text)) (column_series points text);
}
