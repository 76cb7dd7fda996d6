-- The series of a batch fit one record.
use Rattle.std.proofs.Common.{◌≡◌, ◌⊎◌, inl, inr, ⊎_elim, ℕ, zero, suc, ◌+◌, ◌^◌, ◌≤◌, Bool, true, false, cond, List, [], ◌∷◌, ◌++◌, length, nat_eq, refl, sym, ap, ◌∙◌, subst, arith}
use Rattle.std.specs.Prelude.{Contains}
use Rattle.std.specs.Cmp.Lexicographic.{pointwise}
use Rattle.std.specs.List.{flat_map, AllByRecursion, IsDistinct}
use Rattle.std.proofs.lemmas.Bool.{false≢true}
use Rattle.std.proofs.lemmas.List.{length-append}
use Rattle.std.proofs.lemmas.List.Elements.{All-contains}
use Rattle.tsdb_types.specs.Keys.{mark}
use Rattle.tsdb_types.specs.declared.point.Point.{Point}
use Rattle.point_model.specs.Acceptance.{IsKeyed, IsWritable}
use Rattle.point_model.specs.Sizes.{goes_on, head_length, point_length, runs_length}
use Rattle.series_store.specs.Format.{HasRoom, record_bytes, series_bytes}
use Rattle.series_store.specs.Lists.{IsSeriesOf}
use Rattle.series_store.proofs.FormatLemmas.{length-record_bytes, length-series_bytes}
use Rattle.series_store.proofs.ListLemmas.{equal_keys, keys_equal}

-- the bytes of series in a record
abbrev cost : List (List ℕ) → ℕ
cost series = length (flat_map series_bytes series)

cost_more : (key : List ℕ) (series : List (List ℕ)) → cost (key ∷ series) ≡ 2 + length key + cost series
cost_more key series = omega (arith, length-append (series_bytes key) (flat_map series_bytes series), length-series_bytes key)

-- ---- series without one

abbrev without : List ℕ → List (List ℕ) → List (List ℕ)
without key [] = []
without key (k ∷ series) = cond (pointwise nat_eq k key) (without key series) (k ∷ without key series)

all_without_at : (P : List ℕ → Type 0) (b : Bool) (k : List ℕ) (rest : List (List ℕ)) → P k → AllByRecursion P rest → AllByRecursion P (cond b rest (k ∷ rest))
all_without_at P true k rest one all = all
all_without_at P false k rest one all = (one, all)

all_without : (P : List ℕ → Type 0) (key : List ℕ) (series : List (List ℕ)) → AllByRecursion P series → AllByRecursion P (without key series)
all_without P key [] all = tt
all_without P key (k ∷ series) all = all_without_at P (pointwise nat_eq k key) k (without key series) all.0 (all_without P key series all.1)

distinct_at : (b : Bool) (k : List ℕ) (rest : List (List ℕ)) → AllByRecursion (λ y. pointwise nat_eq k y ≡ false) rest → IsDistinct (pointwise nat_eq) rest → IsDistinct (pointwise nat_eq) (cond b rest (k ∷ rest))
unfolding IsDistinct
distinct_at true k rest apart distinct = distinct
distinct_at false k rest apart distinct = (apart, distinct)

distinct_without : (key : List ℕ) (series : List (List ℕ)) → IsDistinct (pointwise nat_eq) series → IsDistinct (pointwise nat_eq) (without key series)
unfolding IsDistinct
distinct_without key [] distinct = distinct
distinct_without key (k ∷ series) distinct =
    distinct_at (pointwise nat_eq k key) k (without key series) (all_without (λ y. pointwise nat_eq k y ≡ false) key series distinct.0) (distinct_without key series distinct.1)

-- where none is the one, all stay
without_none : (key : List ℕ) (series : List (List ℕ)) → AllByRecursion (λ y. pointwise nat_eq key y ≡ false) series → without key series ≡ series
without_none key [] apart = refl
without_none key (k ∷ series) apart =
    let other : pointwise nat_eq k key ≡ false = flip (pointwise nat_eq k key) refl in
    ap (λ (b : Bool). cond b (without key series) (k ∷ without key series)) other ∙ ap (λ (l : List (List ℕ)). k ∷ l) (without_none key series apart.1)
  where
    flip : (b : Bool) → pointwise nat_eq k key ≡ b → pointwise nat_eq k key ≡ false
    flip true is = absurd (false≢true (sym apart.0 ∙ keys_equal key k (sym (equal_keys k key is))))
    flip false is = is

cost_at : (b : Bool) (key k : List ℕ) (series : List (List ℕ)) → pointwise nat_eq k key ≡ b → AllByRecursion (λ y. pointwise nat_eq k y ≡ false) series → cost series ≤ 2 + length key + cost (without key series)
    → cost (k ∷ series) ≤ 2 + length key + cost (cond b (without key series) (k ∷ without key series))
cost_at true key k series is apart behind =
    let same = equal_keys k key is in
    let all : without key series ≡ series = subst (λ (l : List ℕ). without l series ≡ series) same (without_none k series apart) in
    omega (arith, cost_more k series, ap length same, ap cost all)
cost_at false key k series is apart behind = omega (arith, cost_more k series, cost_more k (without key series), behind)

-- one of series that differ costs once
cost_without : (key : List ℕ) (series : List (List ℕ)) → IsDistinct (pointwise nat_eq) series → cost series ≤ 2 + length key + cost (without key series)
unfolding IsDistinct
cost_without key [] distinct = omega arith
cost_without key (k ∷ series) distinct = cost_at (pointwise nat_eq k key) key k series refl distinct.0 (cost_without key series distinct.1)

-- ---- series of points

abbrev In : List Point → List ℕ → Type 0
In [] key = ⊥
In (point ∷ points) key = (point.cell.series ≡ key) ⊎ In points key

is_in : (points : List Point) (point : Point) (key : List ℕ) → Contains points point → point.cell.series ≡ key → In points key
is_in [] point key has is = absurd (let within = has.1 in omega (arith, within))
is_in (p ∷ points) point key (zero, within, at) is = inl (ap (λ (x : Point). x.cell.series) at ∙ is)
is_in (p ∷ points) point key (suc k, within, at) is = inr (is_in points point key (k, omega (arith, within), at) is)

all_in : (points : List Point) (series : List (List ℕ)) → AllByRecursion (IsSeriesOf points) series → AllByRecursion (In points) series
all_in points [] all = tt
all_in points (key ∷ series) all = (is_in points all.0.0 key all.0.1 all.0.2, all_in points series all.1)

still_at : (b : Bool) (point : Point) (points : List Point) (k : List ℕ) (rest : List (List ℕ)) → pointwise nat_eq k point.cell.series ≡ b → In (point ∷ points) k → AllByRecursion (In points) rest → AllByRecursion (In points) (cond b rest (k ∷ rest))
still_at true point points k rest is one all = all
still_at false point points k rest is one all = (⊎_elim (λ here. absurd (false≢true (sym is ∙ keys_equal k point.cell.series (sym here)))) (λ behind. behind) one, all)

-- without the series of the first point they are of the others
still_in : (point : Point) (points : List Point) (series : List (List ℕ)) → AllByRecursion (In (point ∷ points)) series → AllByRecursion (In points) (without point.cell.series series)
still_in point points [] all = tt
still_in point points (k ∷ series) all =
    still_at (pointwise nat_eq k point.cell.series) point points k (without point.cell.series series) refl all.0 (still_in point points series all.1)

-- a point that goes on with the series of the next one has no other
same_in : (point : Point) (points : List Point) (series : List (List ℕ)) → goes_on point points ≡ true → AllByRecursion (In (point ∷ points)) series → AllByRecursion (In points) series
same_in point points [] on all = tt
same_in point [] (k ∷ series) on all = absurd (false≢true on)
same_in point (next ∷ points) (k ∷ series) on all = (
  ⊎_elim (λ here. inl (sym (equal_keys point.cell.series next.cell.series on) ∙ here)) (λ behind. behind) all.0,
  same_in point (next ∷ points) series on all.1,
)

runs_at : (b : Bool) (point : Point) (points : List Point) (series : List (List ℕ)) → goes_on point points ≡ b → IsDistinct (pointwise nat_eq) series → AllByRecursion (In (point ∷ points)) series
    → ((s : List (List ℕ)) → IsDistinct (pointwise nat_eq) s → AllByRecursion (In points) s → cost s ≤ runs_length points)
    → cost series ≤ point_length point + cond b 0 (head_length point) + runs_length points
runs_at true point points series on distinct all others = omega (arith, others series distinct (same_in point points series on all))
runs_at false point points series on distinct all others =
    omega (arith, cost_without point.cell.series series distinct, others (without point.cell.series series) (distinct_without point.cell.series series distinct) (still_in point points series all))

in_runs : (points : List Point) (series : List (List ℕ)) → IsDistinct (pointwise nat_eq) series → AllByRecursion (In points) series → cost series ≤ runs_length points
in_runs [] [] distinct all = omega arith
in_runs [] (key ∷ series) distinct all = absurd all.0
in_runs (point ∷ points) series distinct all = runs_at (goes_on point points) point points series refl distinct all (in_runs points)

pub series_short : (points : List Point) (series : List (List ℕ)) → IsWritable points → AllByRecursion (IsSeriesOf points) series → IsDistinct (pointwise nat_eq) series → length (record_bytes series) ≤ 2 ^ 30
series_short points series may are distinct =
    let fits = may.fits in omega (arith, fits, length-record_bytes series, in_runs points series distinct (all_in points series are))

key_room : (point : Point) (key : List ℕ) → IsKeyed point → point.cell.series ≡ key → HasRoom key
key_room point key keyed is = let fits = keyed.fits in omega (arith, fits, length-append point.cell.series (mark ++ point.cell.field), ap length is)

pub series_room : (points : List Point) (series : List (List ℕ)) → IsWritable points → AllByRecursion (IsSeriesOf points) series → AllByRecursion HasRoom series
series_room points [] may are = tt
series_room points (key ∷ series) may are =
    (key_room are.0.0 key (All-contains IsKeyed points are.0.0 may.keyed are.0.1) are.0.2, series_room points series may are.1)
