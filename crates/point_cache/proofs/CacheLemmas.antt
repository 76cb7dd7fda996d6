-- What the calls of a cache make of its runs.
use Rattle.std.proofs.Common.{◌≡◌, ℕ, ℤ, Bool, true, false, cond, not, ◌&&◌, List, [], ◌∷◌, ◌++◌, length, take, drop, Option, Some, None, nat_eq, refl, sym, ap, ◌∙◌, subst, arith, if◌then◌else◌}
use Rattle.std.specs.List.{AllByRecursion}
use Rattle.std.specs.Cmp.Lexicographic.{pointwise}
use Rattle.std.specs.Ordering.{int_eq}
use Rattle.std.proofs.lemmas.List.{append-nil}
use Rattle.std.proofs.lemmas.List.Sums.{sum_by-append}
use Rattle.std.proofs.Math.Seq.{take-append_seam, drop-append_seam}
use Rattle.tsdb_types.specs.declared.point.Point.{Point}
use Rattle.tsdb_types.specs.declared.value.Value.{Value}
use Rattle.point_model.specs.Rows.{Row}
use Rattle.point_cache.specs.declared.key_points.KeyRun.{KeyRun}
use Rattle.point_cache.specs.Cache.{HasRoom}
use Rattle.point_cache.specs.Cached.{IsRun, count, is_within, later, latest, points_at, rows_outside, value_after, value_at}
use Rattle.point_cache.specs.Calls.{value_without}
use Rattle.point_cache.specs.Leaving.{points_without}
use Rattle.point_cache.specs.Staged.{Entry, AreSettled, WillHave, lives, next_count, nexts, plain, staged_at}
use Rattle.point_cache.specs.Steps.{Grows, Settles, WillSet}
use Rattle.point_cache.proofs.LatestLemmas.{later-none, same_time, value_of}
use Rattle.point_cache.proofs.PlainLemmas.{count_plain_next, next_plain, points_behind, points_front, points_lives, points_nexts, will_have}

-- ---- staging

pub points_grow : (old new : List Entry) → Grows old new → (key : List ℕ) → points_at (lives new) key ≡ points_at (lives old) key
points_grow old new grows key = ap (λ (l : List KeyRun). points_at l key) grows.lives ∙ points_behind (lives old) grows.more key grows.empty

pub has_room : (points : List Point) (old mid new : List Entry) → old ≡ plain (lives old) → AllByRecursion IsRun (lives old) → Grows old mid → WillSet points old mid → Settles mid new → AreSettled new → HasRoom points new
has_room points old mid new is each grows sets settles settled = record {
  values = λ key t.
      let live : (staged_at old key).next ≡ (staged_at new key).live =
      ap (λ (es : List Entry). (staged_at es key).next) is ∙ next_plain (lives old) key ∙ sym (points_grow old mid grows key) ∙ ap (λ (l : List KeyRun). points_at l key) (sym settles.lives) ∙ points_lives new key in
      settles.values key t ∙ sets.values key t ∙ ap (λ (rows : List Row). value_after points key t (latest rows t)) live;
  some = settles.some (sets.some (subst WillHave (sym is) (will_have (lives old) each)));
  settled = settled;
  fewer =
      let less = settles.fewer in
      let more = sets.counted in
      let was : next_count old ≡ count (lives old) = ap next_count is ∙ count_plain_next (lives old) in
      let parts = sum_by-append (λ (x : KeyRun). length x.points) (lives old) grows.more in
      let now : count (lives new) ≡ count (lives old ++ grows.more) = ap count (settles.lives ∙ grows.lives) in
      omega (arith, less, more, was, parts, now);
}

-- ---- the values of a committed batch, and of points that are taken away

pub set_values : (points : List Point) (es : List Entry) (k : ℕ) → AllByRecursion (λ run. run.points ≡ []) (drop k (lives es)) → HasRoom points es → (key : List ℕ) (t : ℤ)
    → value_at (nexts es) key t ≡ value_after points key t (value_at (take k (lives es)) key t)
set_values points es k empty room key t =
    ap (λ (rows : List Row). latest rows t) (points_nexts es key) ∙ room.values key t
    ∙ ap (λ (rows : List Row). value_after points key t (latest rows t)) (sym (points_lives es key) ∙ sym (points_front (lives es) k key empty))

outside_step : (b : Bool) (v w : Option Value) (from to t : ℤ) (row : Row) → (b ≡ true → is_within from to row.0 ≡ is_within from to t) → (if b then Some row.1 else None) ≡ v
    → (c : Bool) → is_within from to row.0 ≡ c → (d : Bool) → is_within from to t ≡ d
    → (if not c then later v (if d then None else w) else (if d then None else w)) ≡ (if d then None else later v w)
outside_step true v w from to t row same is true e true f = refl
outside_step true v w from to t row same is true e false f = absurd (let both : true ≡ false = sym e ∙ same refl ∙ f in cc)
outside_step true v w from to t row same is false e true f = absurd (let both : false ≡ true = sym e ∙ same refl ∙ f in cc)
outside_step true v w from to t row same is false e false f = refl
outside_step false v w from to t row same is true e true f = refl
outside_step false v w from to t row same is true e false f = sym (ap (λ (x : Option Value). later x w) (sym is) ∙ later-none w)
outside_step false v w from to t row same is false e true f = ap (λ (x : Option Value). later x None) (sym is)
outside_step false v w from to t row same is false e false f = refl

none_if : (b : Bool) (v : Option Value) → v ≡ None → v ≡ (if b then None else v)
none_if true v e = e
none_if false v e = refl

filter_step : (c : Bool) (x : Row) (xs : List Row) (t : ℤ) → latest (cond c (x ∷ xs) xs) t ≡ (if c then later (value_of x t) (latest xs t) else latest xs t)
filter_step true x xs t = refl
filter_step false x xs t = refl

pub latest_outside : (from to : ℤ) (rows : List Row) (t : ℤ) → latest (rows_outside from to rows) t ≡ (if is_within from to t then None else latest rows t)
latest_outside from to [] t = none_if (is_within from to t) (latest [] t) refl
latest_outside from to (row ∷ rows) t =
    filter_step (not (is_within from to row.0)) row (rows_outside from to rows) t
    ∙ ap (λ (v : Option Value). if not (is_within from to row.0) then later (value_of row t) v else v) (latest_outside from to rows t)
    ∙ outside_step (int_eq t row.0) (value_of row t) (latest rows t) from to t row (λ e. ap (is_within from to) (sym (same_time t row.0 e))) refl (is_within from to row.0) refl (is_within from to t) refl

without_value : (a b : Bool) (rows cut : List Row) (t : ℤ) → latest cut t ≡ (if b then None else latest rows t) → latest (if a then cut else rows) t ≡ (if a && b then None else latest rows t)
without_value true b rows cut t e = e
without_value false b rows cut t e = refl

pub taken_value : (own : List ℕ) (from to : ℤ) (key : List ℕ) (rows : List Row) (t : ℤ) → latest (points_without own from to key rows) t ≡ value_without own from to key t (latest rows t)
taken_value own from to key rows t = without_value (pointwise nat_eq key own) (is_within from to t) rows (rows_outside from to rows) t (latest_outside from to rows t)

-- ---- the first keys

pub front_is : (rs more : List KeyRun) (k : ℕ) → k ≡ length rs → take k (rs ++ more) ≡ rs
front_is rs more k e = ap (λ (n : ℕ). take n (rs ++ more)) e ∙ take-append_seam rs more

pub back_is : (rs more : List KeyRun) (k : ℕ) → k ≡ length rs → drop k (rs ++ more) ≡ more
back_is rs more k e = ap (λ (n : ℕ). drop n (rs ++ more)) e ∙ drop-append_seam rs more

pub all_front : (rs : List KeyRun) (k : ℕ) → k ≡ length rs → take k rs ≡ rs
all_front rs k e = ap (take k) (sym (append-nil rs)) ∙ front_is rs [] k e

pub none_back : (rs : List KeyRun) (k : ℕ) → k ≡ length rs → drop k rs ≡ []
none_back rs k e = ap (drop k) (sym (append-nil rs)) ∙ back_is rs [] k e
