-- One more point and the columns.
use Rattle.std.proofs.Common.{◌≡◌, ℕ, zero, suc, ◌+◌, ◌<◌, arith, ◌++◌, Bool, true, false, not, ◌&&◌, ◌||◌, cond, List, [], ◌∷◌, Option, Some, map, filter, slice_get, refl, sym, ap, subst, ◌∙◌, ⊎_elim}
use Rattle.std.specs.List.{list_any}
use Rattle.std.specs.Str.{bytes_eq}
use Rattle.std.proofs.lemmas.Bool.{false≢true}
use Rattle.std.proofs.lemmas.List.{map-append, append-nil}
use Rattle.std.proofs.lemmas.List.Elements.{filter-append}
use Rattle.std.proofs.lemmas.Map.Views.{any-filter_same}
use Rattle.std.proofs.lemmas.Slice.Eq.{bytes_eq-Decides}
use Rattle.indexmap.specs.IndexSet.{insert_key}
use Rattle.tsdb_types.specs.Columns.{column_of, columns_of, is_same_column, ArePlaces}
use Rattle.tsdb_types.specs.declared.column.Column.{Column}
use Rattle.tsdb_types.specs.declared.point.Point.{Point}
use Rattle.tsdb_types.proofs.EscapeLemmas.{decided}

abbrev pub column : List ℕ → List ℕ → Column
column series field = record { series = series; field = field }

both-first : (a b : Bool) → (a && b) ≡ true → a ≡ true
both-first true b e = refl
both-first false b e = absurd (false≢true e)

both-second : (a b : Bool) → (a && b) ≡ true → b ≡ true
both-second true b e = e
both-second false b e = absurd (false≢true e)

pub same-equal : (a b : Column) → is_same_column a b ≡ true → a ≡ b
same-equal a b e =
    let series = (bytes_eq-Decides a.series b.series).0 (both-first (bytes_eq a.series b.series) (bytes_eq a.field b.field) e) in
    let field = (bytes_eq-Decides a.field b.field).0 (both-second (bytes_eq a.series b.series) (bytes_eq a.field b.field) e) in
    ap (λ (s : List ℕ). column s a.field) series ∙ ap (λ (f : List ℕ). column b.series f) field

same-self : (a : Column) → is_same_column a a ≡ true
same-self a =
    ap (λ (t : Bool). t && bytes_eq a.field a.field) ((bytes_eq-Decides a.series a.series).1 refl)
    ∙ (bytes_eq-Decides a.field a.field).1 refl

equal-same : (a b : Column) → a ≡ b → is_same_column a b ≡ true
equal-same a b e = subst (λ (c : Column). is_same_column a c ≡ true) e (same-self a)

-- columns that differ do so in either order
turned : (a b : Column) → is_same_column a b ≡ false → is_same_column b a ≡ false
turned a b differ = ⊎_elim
    (λ (e : is_same_column b a ≡ true). absurd (false≢true (sym differ ∙ equal-same a b (sym (same-equal b a e)))))
    (λ (e : is_same_column b a ≡ false). e)
    (decided (is_same_column b a))

abbrev others : Column → List Column → List Column
others a columns = filter (λ c. not (is_same_column a c)) columns

-- the column of a point that is first, and one more behind
others-one : (a c : Column) (b : Bool) → is_same_column a c ≡ b → others a (c ∷ []) ≡ cond b [] (c ∷ [])
others-one a c true e = ap (λ (t : Bool). cond (not t) (c ∷ []) []) e
others-one a c false e = ap (λ (t : Bool). cond (not t) (c ∷ []) []) e

others-more : (a c : Column) (columns : List Column) (b : Bool) → is_same_column a c ≡ b → others a (columns ++ c ∷ []) ≡ others a columns ++ cond b [] (c ∷ [])
others-more a c columns b e = filter-append (λ c. not (is_same_column a c)) columns (c ∷ []) ∙ ap (λ (l : List Column). others a columns ++ l) (others-one a c b e)

abbrev inserted : Bool → List Column → Column → List Column
inserted b columns c = cond b columns (columns ++ c ∷ [])

-- a column equal to the first
insert-first : (a c : Column) (columns : List Column) (b : Bool) → is_same_column a c ≡ true → others a (inserted b columns c) ≡ others a columns
insert-first a c columns true e = refl
insert-first a c columns false e = others-more a c columns true e ∙ append-nil (others a columns)

-- a column other than the first
insert-other : (a c : Column) (columns : List Column) (b : Bool) → is_same_column a c ≡ false → a ∷ others a (inserted b columns c) ≡ inserted b (a ∷ others a columns) c
insert-other a c columns true e = refl
insert-other a c columns false e = ap (λ (l : List Column). a ∷ l) (others-more a c columns false e)

any-others : (a c : Column) (columns : List Column) → is_same_column a c ≡ false → list_any (is_same_column c) (others a columns) ≡ list_any (is_same_column c) columns
any-others a c columns differ =
    any-filter_same (is_same_column c) (λ x. not (is_same_column a x)) true
    (λ x e. ap not (subst (λ (k : Column). is_same_column a k ≡ false) (same-equal c x e) differ))
    columns

insert-behind : (a c : Column) (columns : List Column) → a ∷ others a (insert_key is_same_column columns c) ≡ insert_key is_same_column (a ∷ others a columns) c
insert-behind a c columns = ⊎_elim
    (λ (e : is_same_column c a ≡ true).
    ap (λ (l : List Column). a ∷ l) (insert-first a c columns (list_any (is_same_column c) columns) (equal-same a c (sym (same-equal c a e))))
    ∙ sym (ap (λ (t : Bool). inserted (t || list_any (is_same_column c) (others a columns)) (a ∷ others a columns) c) e))
    (λ (e : is_same_column c a ≡ false).
    let differ = turned c a e in
    insert-other a c columns (list_any (is_same_column c) columns) differ
    ∙ ap (λ (t : Bool). inserted t (a ∷ others a columns) c) (sym (any-others a c columns differ))
    ∙ sym (ap (λ (t : Bool). inserted (t || list_any (is_same_column c) (others a columns)) (a ∷ others a columns) c) e))
    (decided (is_same_column c a))

-- the columns behind one more point
pub columns-push : (points : List Point) (point : Point) → columns_of (points ++ point ∷ []) ≡ insert_key is_same_column (columns_of points) (column_of point)
columns-push [] point = refl
columns-push (first ∷ points) point =
    ap (λ (l : List Column). column_of first ∷ others (column_of first) l) (columns-push points point)
    ∙ insert-behind (column_of first) (column_of point) (columns_of points)

kept-one : (columns more : List Column) (place : ℕ) (c : Column) → slice_get columns place ≡ Some c → slice_get (columns ++ more) place ≡ Some c
kept-one [] more place c e = absurd cc
kept-one (x ∷ columns) more zero c e = e
kept-one (x ∷ columns) more (suc place) c e = kept-one columns more place c e

abbrev told : List Point → List (Option Column)
told points = map (λ point. Some (column_of point)) points

kept : (columns more : List Column) (points : List Point) (places : List ℕ) → map (slice_get columns) places ≡ told points → map (slice_get (columns ++ more)) places ≡ told points
kept columns more [] [] e = refl
kept columns more [] (place ∷ places) e = absurd cc
kept columns more (point ∷ points) [] e = absurd cc
kept columns more (point ∷ points) (place ∷ places) e =
    let first : slice_get columns place ≡ Some (column_of point) = cc in
    let behind : map (slice_get columns) places ≡ told points = cc in
    ap (λ (c : Option Column). c ∷ map (slice_get (columns ++ more)) places) (kept-one columns more place (column_of point) first)
    ∙ ap (λ (l : List (Option Column)). Some (column_of point) ∷ l) (kept columns more points places behind)

kept-inserted : (b : Bool) (columns : List Column) (c : Column) (points : List Point) (places : List ℕ) → map (slice_get columns) places ≡ told points → map (slice_get (inserted b columns c)) places ≡ told points
kept-inserted true columns c points places e = e
kept-inserted false columns c points places e = kept columns (c ∷ []) points places e

-- the places behind one more point
pub places-push : (points : List Point) (point : Point) (places : List ℕ) (place : ℕ) → ArePlaces points places → slice_get (columns_of (points ++ point ∷ [])) place ≡ Some (column_of point) → ArePlaces (points ++ point ∷ []) (places ++ place ∷ [])
places-push points point places place are at =
    let columns = columns_of (points ++ point ∷ []) in
    let c = column_of point in
    let before : map (slice_get columns) places ≡ told points =
    subst (λ (l : List Column). map (slice_get l) places ≡ told points) (sym (columns-push points point))
    (kept-inserted (list_any (is_same_column c) (columns_of points)) (columns_of points) c points places are) in
    map-append (slice_get columns) places (place ∷ [])
    ∙ ap (λ (l : List (Option Column)). l ++ slice_get columns place ∷ []) before
    ∙ ap (λ (o : Option Column). told points ++ o ∷ []) at
    ∙ sym (map-append (λ point. Some (column_of point)) points (point ∷ []))

any-at : (columns : List Column) (place : ℕ) (c : Column) → slice_get columns place ≡ Some c → list_any (is_same_column c) columns ≡ true
any-at [] place c e = absurd cc
any-at (x ∷ columns) zero c e =
    let same : c ≡ x = cc in
    ap (λ (t : Bool). t || list_any (is_same_column c) columns) (equal-same c x same)
any-at (x ∷ columns) (suc place) c e = or-true (is_same_column c x) (list_any (is_same_column c) columns) (any-at columns place c e)
  where
    or-true : (a b : Bool) → b ≡ true → (a || b) ≡ true
    or-true true b e = refl
    or-true false b e = e

-- a further point of a column leaves the columns as they are
pub columns-further : (points : List Point) (point : Point) (place : ℕ) → slice_get (columns_of points) place ≡ Some (column_of point) → columns_of (points ++ point ∷ []) ≡ columns_of points
columns-further points point place at =
    columns-push points point
    ∙ ap (λ (t : Bool). inserted t (columns_of points) (column_of point)) (any-at (columns_of points) place (column_of point) at)

pub below-most : (b : Bool) {index new old len : ℕ} → index < new → new ≡ old + cond b 1 0 → len ≡ old → len < 4294967295 → index < 4294967296
below-most true within grown same fits = omega arith
below-most false within grown same fits = omega arith
