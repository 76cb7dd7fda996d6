-- The points that a cache holds once a batch is set are the points with the batch.
use Rattle.std.proofs.Common.{◌≡◌, ◌≢◌, ◌∙◌, ap, sym, refl, subst, inl, inr, ⊎_elim, ◌⊎◌, ℕ, zero, suc, ℤ, Bool, true, false, cond, List, [], ◌∷◌, Option, Some, None, IsSome, is_some, slice_get, nat_eq}
use Rattle.std.specs.Cmp.{eq_by_cmp_equiv}
use Rattle.std.specs.Cmp.Lexicographic.{pointwise}
use Rattle.std.specs.List.{AllByRecursion}
use Rattle.std.specs.Option.{option_or}
use Rattle.std.specs.Ordering.{int_eq}
use Rattle.std.proofs.lemmas.Bool.{cases_Bool, cond-true, cond-false, false≢true}
use Rattle.std.proofs.lemmas.Map.Views.{tells_apart}
use Rattle.tsdb_types.specs.declared.point.Cell.{Cell}
use Rattle.tsdb_types.specs.declared.point.Point.{Point}
use Rattle.tsdb_types.specs.declared.value.Value.{Value}
use Rattle.point_model.specs.Cursors.{Key, cell_at}
use Rattle.point_model.specs.Effects.{Effect, applied, set_by, written}
use Rattle.point_model.specs.Histories.{with_points}
use Rattle.point_model.specs.Points.{is_same_cell, value_at}
use Rattle.point_model.specs.Rows.{Row}
use Rattle.point_model.proofs.EffectLemmas.{applied_or, value_after_write}
use Rattle.point_model.proofs.FieldLemmas.{and_first, and_second, and_both}
use Rattle.point_model.proofs.PointLemmas.{cell_exact, cell_total, same_points, sorted-with_points}
use Rattle.point_cache.specs.declared.key_points.KeyRun.{KeyRun}
use Rattle.point_cache.specs.Cached as cached
use Rattle.point_cache.specs.Cached.{AreApart, AreAscending, AreRuns, IsRun, later, latest, points_at, value_after}
use Rattle.point_cache.proofs.EntryLemmas.{same_key, key_same}
use Rattle.point_cache.proofs.LatestLemmas.{same_time, time_same}
use Rattle.live_points.specs.Held.{composite, cut, points_of}
use Rattle.live_points.proofs.HeldLemmas.{IsCut, held_value, none_elsewhere, sorted_points}

-- the key of the point's cell
abbrev pub point_key : Point → Key
point_key point = (point.cell.series, point.cell.field)

-- it is cut where it was joined
abbrev pub IsCutPoint : Point → Type 0
IsCutPoint point = cut (composite (point_key point)) ≡ point_key point

same_bool : (a b : Bool) → (a ≡ true → b ≡ true) → (b ≡ true → a ≡ true) → a ≡ b
same_bool true b f g = sym (f refl)
same_bool false true f g = g refl
same_bool false false f g = refl

itself : (cell : Cell) → is_same_cell cell cell ≡ true
itself cell = let laws = eq_by_cmp_equiv cell_total in laws.refl cell

-- a point is at a key and a time where its cell is that one
same_place : (point : Point) → IsCutPoint point → (key : Key) → cut (composite key) ≡ key → (time : ℤ) → cached.is_at (composite key) time point ≡ is_same_cell point.cell (cell_at key time)
same_place point own key is time =
    same_bool (cached.is_at (composite key) time point) (is_same_cell point.cell (cell_at key time))
    (λ e.
    let bytes : composite key ≡ composite (point_key point) = same_key (composite key) (composite (point_key point)) (and_first _ (int_eq time point.cell.time) e) in
    let keys : key ≡ point_key point = sym is ∙ ap cut bytes ∙ own in
    let times : time ≡ point.cell.time = same_time time point.cell.time (and_second (pointwise nat_eq (composite key) (composite (point_key point))) _ e) in
    let cells : cell_at key time ≡ point.cell = ap (λ (k : Key). cell_at k time) keys ∙ ap (λ (t : ℤ). cell_at (point_key point) t) times in
    ap (is_same_cell point.cell) cells ∙ itself point.cell)
    (λ e.
    let cells : point.cell ≡ cell_at key time = tells_apart cell_exact point.cell (cell_at key time) e in
    and_both (pointwise nat_eq (composite key) (composite (point_key point))) (int_eq time point.cell.time)
    (key_same (composite key) (composite (point_key point)) (ap (λ (c : Cell). composite (c.series, c.field)) (sym cells)))
    (time_same time point.cell.time (ap (λ (c : Cell). c.time) (sym cells))))

set_value : (b : Bool) (value : Value) (was : Option Value) → cond b (Some value) was ≡ applied (cond b (Some (Some value)) None) was
set_value true value was = refl
set_value false value was = refl

after_is : (batch : List Point) → AllByRecursion IsCutPoint batch → (key : Key) → cut (composite key) ≡ key → (time : ℤ) (was : Option Value)
    → value_after batch (composite key) time was ≡ applied (written batch (cell_at key time)) was
after_is [] cuts key is time was = refl
after_is (point ∷ batch) cuts key is time was =
    after_is batch cuts.1 key is time (cond (cached.is_at (composite key) time point) (Some point.value) was)
    ∙ ap (λ (o : Option Value). applied (written batch (cell_at key time)) o)
    (ap (λ (b : Bool). cond b (Some point.value) was) (same_place point cuts.0 key is time) ∙ set_value (is_same_cell point.cell (cell_at key time)) point.value was)
    ∙ sym (applied_or (set_by point (cell_at key time)) (written batch (cell_at key time)) was)

-- nothing is written at a cell whose key is cut elsewhere
not_written : (batch : List Point) → AllByRecursion IsCutPoint batch → (cell : Cell) → cut (composite (cell.series, cell.field)) ≢ (cell.series, cell.field) → written batch cell ≡ None
not_written [] cuts cell elsewhere = refl
not_written (point ∷ batch) cuts cell elsewhere =
    ap (λ (e : Effect). option_or e (set_by point cell)) (not_written batch cuts.1 cell elsewhere)
    ∙ cond-false (is_same_cell point.cell cell) (Some (Some point.value)) None
    (⊎_elim
    (λ (e : is_same_cell point.cell cell ≡ true).
    let same : point.cell ≡ cell = tells_apart cell_exact point.cell cell e in
    absurd (elsewhere (subst (λ (c : Cell). cut (composite (c.series, c.field)) ≡ (c.series, c.field)) same cuts.0)))
    (λ (e : is_same_cell point.cell cell ≡ false). e)
    (cases_Bool (is_same_cell point.cell cell)))

-- a cell's key is cut where it was joined, or it isn't
pub decided : (cell : Cell) → (cut (composite (cell.series, cell.field)) ≡ (cell.series, cell.field)) ⊎ (cut (composite (cell.series, cell.field)) ≢ (cell.series, cell.field))
decided cell =
    ⊎_elim
    (λ (e : is_same_cell cell (cell_at (cut (composite (cell.series, cell.field))) cell.time) ≡ true).
    let same : cell ≡ cell_at (cut (composite (cell.series, cell.field))) cell.time = tells_apart cell_exact cell _ e in
    inl (sym (ap (λ (c : Cell). (c.series, c.field)) same)))
    (λ (e : is_same_cell cell (cell_at (cut (composite (cell.series, cell.field))) cell.time) ≡ false).
    inr (λ is. false≢true (sym e ∙ ap (λ (k : Key). is_same_cell cell (cell_at k cell.time)) is ∙ itself cell)))
    (cases_Bool (is_same_cell cell (cell_at (cut (composite (cell.series, cell.field))) cell.time)))

pub points_set : (old new : List KeyRun) (batch : List Point)
    → AllByRecursion IsCut old → AreApart old → AllByRecursion IsCut new → AreApart new → AllByRecursion IsCutPoint batch
    → ((bytes : List ℕ) (time : ℤ) → cached.value_at new bytes time ≡ value_after batch bytes time (cached.value_at old bytes time))
    → points_of new ≡ with_points (points_of old) batch
points_set old new batch old_cuts old_apart new_cuts new_apart cuts sets =
    same_points (points_of new) (with_points (points_of old) batch) (sorted_points new) (sorted-with_points (points_of old) batch (sorted_points old))
    (λ cell.
    ⊎_elim
    (λ (is : cut (composite (cell.series, cell.field)) ≡ (cell.series, cell.field)).
    let key : Key = (cell.series, cell.field) in
    held_value new new_cuts new_apart key is cell.time
    ∙ sets (composite key) cell.time
    ∙ after_is batch cuts key is cell.time (cached.value_at old (composite key) cell.time)
    ∙ ap (λ (o : Option Value). applied (written batch cell) o) (sym (held_value old old_cuts old_apart key is cell.time))
    ∙ sym (value_after_write (points_of old) batch cell))
    (λ (elsewhere : cut (composite (cell.series, cell.field)) ≢ (cell.series, cell.field)).
    none_elsewhere new new_cuts cell elsewhere
    ∙ sym (value_after_write (points_of old) batch cell
    ∙ ap (λ (e : Effect). applied e (value_at (points_of old) cell)) (not_written batch cuts cell elsewhere)
    ∙ none_elsewhere old old_cuts cell elsewhere))
    (decided cell))

-- ---- from values to runs and back

chosen : (b : Bool) (value : Value) (was : Option Value) → IsSome (cond b (Some value) was) → IsSome was ⊎ (b ≡ true)
chosen true value was some = inr refl
chosen false value was some = inl some

-- a value behind a batch was there, or a point of the batch is at it
pub after_some : (batch : List Point) (bytes : List ℕ) (time : ℤ) (was : Option Value) → IsSome (value_after batch bytes time was)
    → IsSome was ⊎ ((place : ℕ) × (point : Point) × (slice_get batch place ≡ Some point) × (cached.is_at bytes time point ≡ true))
after_some [] bytes time was some = inl some
after_some (point ∷ batch) bytes time was some =
    ⊎_elim
    (λ before.
    ⊎_elim (λ there. inl there) (λ here. inr (zero, point, refl, here)) (chosen (cached.is_at bytes time point) point.value was before))
    (λ later. inr (suc later.0, later.1, later.2, later.3))
    (after_some batch bytes time (cond (cached.is_at bytes time point) (Some point.value) was) some)

goes_on : (b : Bool) (value : Value) (was : Option Value) → IsSome was → IsSome (cond b (Some value) was)
goes_on true value was some = refl
goes_on false value was some = some

-- a value that was there stays, or another is in its place
pub some_after : (batch : List Point) (bytes : List ℕ) (time : ℤ) (was : Option Value) → IsSome was → IsSome (value_after batch bytes time was)
some_after [] bytes time was some = some
some_after (point ∷ batch) bytes time was some =
    some_after batch bytes time (cond (cached.is_at bytes time point) (Some point.value) was) (goes_on (cached.is_at bytes time point) point.value was some)

some_values : {X : Type 0} (a b : X) → Some a ≡ Some b → a ≡ b
some_values a b e = cc

none_some : {X : Type 0} (a : X) → None ≡ Some a → ⊥
none_some a e = false≢true (ap is_some e)

-- each point of the batch has a value behind it
pub set_after : (batch : List Point) (place : ℕ) (point : Point) → slice_get batch place ≡ Some point → (was : Option Value)
    → IsSome (value_after batch (composite (point_key point)) point.cell.time was)
set_after [] place point at was = absurd (none_some point at)
set_after (first ∷ batch) zero point at was =
    let same : first ≡ point = some_values first point at in
    let bytes = composite (point_key point) in
    some_after batch bytes point.cell.time (cond (cached.is_at bytes point.cell.time first) (Some first.value) was)
    (subst (λ (b : Bool). IsSome (cond b (Some first.value) was))
    (sym (and_both (pointwise nat_eq bytes (composite (point_key first))) (int_eq point.cell.time first.cell.time)
    (key_same bytes (composite (point_key first)) (ap (λ (p : Point). composite (point_key p)) (sym same)))
    (time_same point.cell.time first.cell.time (ap (λ (p : Point). p.cell.time) (sym same)))))
    refl)
set_after (first ∷ batch) (suc place) point at was =
    set_after batch place point at (cond (cached.is_at (composite (point_key point)) point.cell.time first) (Some first.value) was)

some_first : (v : Value) (w : Option Value) → is_some (later (Some v) w) ≡ true
some_first v None = refl
some_first v (Some w) = refl

pub first_there : (row : Row) (rows : List Row) → IsSome (latest (row ∷ rows) row.0)
first_there row rows = ap (λ (b : Bool). is_some (later (cond b (Some row.1) None) (latest rows row.0))) (time_same row.0 row.0 refl) ∙ some_first row.1 (latest rows row.0)

-- rows have a value at some time
pub some_row : (rows : List Row) → rows ≢ [] → (time : ℤ) × IsSome (latest rows time)
some_row [] some = absurd (some refl)
some_row (row ∷ rows) some = (row.0, first_there row rows)

-- the keys of runs are cut where they were joined, where each key with a value is
pub all_cut : (runs : List KeyRun) → AllByRecursion IsRun runs → ((bytes : List ℕ) (time : ℤ) → IsSome (cached.value_at runs bytes time) → composite (cut bytes) ≡ bytes) → AllByRecursion IsCut runs
all_cut [] each cuts = tt
all_cut (run ∷ runs) each cuts =
    let here = some_row run.points each.0.some in
    let chosen_rows : points_at (run ∷ runs) run.key ≡ run.points = cond-true (pointwise nat_eq run.key run.key) run.points (points_at runs run.key) (key_same run.key run.key refl) in
    let own : IsCut run = cuts run.key here.0 (subst (λ (rows : List Row). IsSome (latest rows here.0)) (sym chosen_rows) here.1) in (
      own,
      all_cut runs each.1 (λ bytes time some.
          ⊎_elim
          (λ (e : pointwise nat_eq bytes run.key ≡ true). subst (λ (b : List ℕ). composite (cut b) ≡ b) (sym (same_key bytes run.key e)) own)
          (λ (e : pointwise nat_eq bytes run.key ≡ false).
          cuts bytes time
          (subst (λ (rows : List Row). IsSome (latest rows time)) (sym (cond-false (pointwise nat_eq bytes run.key) run.points (points_at runs bytes) e)) some))
          (cases_Bool (pointwise nat_eq bytes run.key))),
    )
