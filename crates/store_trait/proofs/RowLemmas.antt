-- The rows that are taken of a key's slots are those that its points have.
use Rattle.std.proofs.Common.{◌≡◌, ◌∙◌, ap, sym, refl, subst, ⊎_elim, inl, inr, ◌&&◌, ℕ, ℤ, int_le, Bool, true, false, cond, T, List, [], ◌∷◌, Option, Some, None, Ordering, Less, Equal, Greater}
use Rattle.std.specs.BTreeMap.{is_at}
use Rattle.std.specs.Cmp.{int_cmp_total, eq_by_cmp_equiv}
use Rattle.std.specs.Cmp.Lexicographic.{pointwise, slice_cmp, texts_ties}
use Rattle.std.specs.FinMap.Entries.{find, is_sorted, below_all}
use Rattle.std.specs.List.Sorted.{IsStrictlySortedBy}
use Rattle.std.specs.Map.{keys_of}
use Rattle.std.specs.Ordering.{int_cmp, nat_cmp, ordering_then, eq_by_cmp, is_eq, is_lt}
use Rattle.std.specs.Prelude.{nat_eq}
use Rattle.std.proofs.lemmas.Bool.{cases_Bool, cond-true, cond-false, false≢true}
use Rattle.std.proofs.lemmas.Map.Lookups.{exact_signed}
use Rattle.std.proofs.lemmas.Map.Views.{tells_apart}
use Rattle.tsdb_types.specs.declared.point.Cell.{Cell}
use Rattle.tsdb_types.specs.declared.value.Value.{Value}
use Rattle.point_model.specs.Cursors.{Key, cell_at, is_wanted, rows_between}
use Rattle.point_model.specs.Points.{Points, cell_cmp, value_at}
use Rattle.store_trait.specs.Gathered.{row_before, rows_set}
use Rattle.store_trait.specs.Slots.{held}
use Rattle.point_model.proofs.PointLemmas.{cell_total, cell_exact}
use Rattle.store_trait.proofs.InLemmas.{In, sorted_first, sorted_rest}
use Rattle.store_trait.proofs.KindLemmas.{and_first, and_second, and_both, text_same, text_itself}

pub t_first : (a b : Bool) → T (a && b) → T a
t_first true b p = tt
t_first false b p = p

pub t_second : (a b : Bool) → T (a && b) → T b
t_second true b p = p
t_second false b p = absurd p

t_both : (a b : Bool) → T a → T b → T (a && b)
t_both true b p q = q
t_both false b p q = p

t_less : (o : Ordering) → o ≡ Less → T (is_lt o)
t_less o e = subst (λ (r : Ordering). T (is_lt r)) (sym e) tt

pub less_t : (o : Ordering) → T (is_lt o) → o ≡ Less
less_t Less p = refl
less_t Equal p = absurd p
less_t Greater p = absurd p

less_apart : (o : Ordering) → T (is_lt o) → is_eq o ≡ false
less_apart Less l = refl
less_apart Equal l = absurd l
less_apart Greater l = refl

-- keys in order, as a test
pub sorted_test : {K X : Type 0} (R : K → K → Ordering) (es : List (K × X)) → IsStrictlySortedBy R (keys_of es) → T (is_sorted R es)
sorted_test R [] s = tt
sorted_test {K} {X} R (e ∷ es) s = t_both (below_all R e.0 es) (is_sorted R es) (below es (sorted_first R e.0 (keys_of es) s)) (sorted_test R es (sorted_rest R e.0 (keys_of es) s))
  where
    below : (fs : List (K × X)) → ((y : K) → In y (keys_of fs) → R e.0 y ≡ Less) → T (below_all R e.0 fs)
    below [] all = tt
    below (f ∷ fs) all = t_both (is_lt (R e.0 f.0)) (below_all R e.0 fs) (t_less (R e.0 f.0) (all f.0 (inl refl))) (below fs (λ y m. all y (inr m)))

abbrev within : ℤ → ℤ → ℤ → Bool
within from to time = int_le from time && int_le time to

-- of the rows that are taken each is a slot's
below_rows : (from to : ℤ) (x : ℤ) (es : List (ℤ × Option Value)) → T (below_all int_cmp x es) → T (below_all int_cmp x (rows_set from to es))
below_rows from to x [] b = tt
below_rows from to x (e ∷ es) b = by e.1 (t_first (is_lt (int_cmp x e.0)) _ b) (below_rows from to x es (t_second (is_lt (int_cmp x e.0)) _ b))
  where
    by : (o : Option Value) → T (is_lt (int_cmp x e.0)) → T (below_all int_cmp x (rows_set from to es)) → T (below_all int_cmp x (row_before from to e.0 o (rows_set from to es)))
    by None l c = c
    by (Some v) l c = choose (within from to e.0)
      where
        choose : (b : Bool) → T (below_all int_cmp x (cond b ((e.0, v) ∷ rows_set from to es) (rows_set from to es)))
        choose true = t_both (is_lt (int_cmp x e.0)) _ l c
        choose false = c

pub sorted_rows : (from to : ℤ) (es : List (ℤ × Option Value)) → T (is_sorted int_cmp es) → T (is_sorted int_cmp (rows_set from to es))
sorted_rows from to [] s = tt
sorted_rows from to (e ∷ es) s = by e.1 (below_rows from to e.0 es (t_first (below_all int_cmp e.0 es) _ s)) (sorted_rows from to es (t_second (below_all int_cmp e.0 es) _ s))
  where
    by : (o : Option Value) → T (below_all int_cmp e.0 (rows_set from to es)) → T (is_sorted int_cmp (rows_set from to es)) → T (is_sorted int_cmp (row_before from to e.0 o (rows_set from to es)))
    by None b t = t
    by (Some v) b t = choose (within from to e.0)
      where
        choose : (c : Bool) → T (is_sorted int_cmp (cond c ((e.0, v) ∷ rows_set from to es) (rows_set from to es)))
        choose true = t_both (below_all int_cmp e.0 (rows_set from to es)) _ b t
        choose false = t

-- below all keys nothing is found
not_found : {X : Type 0} (x : ℤ) (es : List (ℤ × X)) → T (below_all int_cmp x es) → find int_cmp x es ≡ None
not_found x [] b = refl
not_found x (e ∷ es) b =
    cond-false (eq_by_cmp int_cmp x e.0) (Some e.1) (find int_cmp x es) (less_apart (int_cmp x e.0) (t_first (is_lt (int_cmp x e.0)) _ b)) ∙ not_found x es (t_second (is_lt (int_cmp x e.0)) _ b)

found_none : (b : Bool) → None ≡ cond b (held None) None
found_none true = refl
found_none false = refl

-- what is found in the rows is what the slot holds, between the bounds
pub find_row : (from to : ℤ) (t : ℤ) (es : List (ℤ × Option Value)) → T (is_sorted int_cmp es) → find int_cmp t (rows_set from to es) ≡ cond (within from to t) (held (find int_cmp t es)) None
find_row from to t [] s = found_none (within from to t)
find_row from to t (e ∷ es) s =
    ⊎_elim
    (λ (tie : eq_by_cmp int_cmp t e.0 ≡ true).
    let same : t ≡ e.0 = tells_apart exact_signed t e.0 tie in
    let here : find int_cmp t (e ∷ es) ≡ Some e.1 = cond-true (eq_by_cmp int_cmp t e.0) (Some e.1) (find int_cmp t es) tie in
    let none : find int_cmp t (rows_set from to es) ≡ None =
    ap (λ (x : ℤ). find int_cmp x (rows_set from to es)) same ∙ not_found e.0 (rows_set from to es) (below_rows from to e.0 es (t_first (below_all int_cmp e.0 es) _ s)) in
    at e.1 tie same none ∙ ap (λ (o : Option (Option Value)). cond (within from to t) (held o) None) (sym here))
    (λ (apart : eq_by_cmp int_cmp t e.0 ≡ false).
    skip e.1 apart ∙ find_row from to t es (t_second (below_all int_cmp e.0 es) _ s)
    ∙ ap (λ (o : Option (Option Value)). cond (within from to t) (held o) None) (sym (cond-false (eq_by_cmp int_cmp t e.0) (Some e.1) (find int_cmp t es) apart)))
    (cases_Bool (eq_by_cmp int_cmp t e.0))
  where
    nothing : (b : Bool) → None ≡ cond b (held (Some None)) None
    nothing true = refl
    nothing false = refl

    at : (o : Option Value) → eq_by_cmp int_cmp t e.0 ≡ true → t ≡ e.0 → find int_cmp t (rows_set from to es) ≡ None
        → find int_cmp t (row_before from to e.0 o (rows_set from to es)) ≡ cond (within from to t) (held (Some o)) None
    at None tie same none = none ∙ nothing (within from to t)
    at (Some v) tie same none = ap (λ (b : Bool). find int_cmp t (cond b ((e.0, v) ∷ rows_set from to es) (rows_set from to es))) (ap (λ (x : ℤ). within from to x) (sym same)) ∙ choose (within from to t)
      where
        choose : (b : Bool) → find int_cmp t (cond b ((e.0, v) ∷ rows_set from to es) (rows_set from to es)) ≡ cond b (Some v) None
        choose true = cond-true (eq_by_cmp int_cmp t e.0) (Some v) (find int_cmp t (rows_set from to es)) tie
        choose false = none

    skip : (o : Option Value) → eq_by_cmp int_cmp t e.0 ≡ false → find int_cmp t (row_before from to e.0 o (rows_set from to es)) ≡ find int_cmp t (rows_set from to es)
    skip None apart = refl
    skip (Some v) apart = choose (within from to e.0)
      where
        choose : (b : Bool) → find int_cmp t (cond b ((e.0, v) ∷ rows_set from to es) (rows_set from to es)) ≡ find int_cmp t (rows_set from to es)
        choose true = cond-false (eq_by_cmp int_cmp t e.0) (Some v) (find int_cmp t (rows_set from to es)) apart
        choose false = refl

-- a wanted cell is the key's, at a time between the bounds
wanted : (key : Key) (from to : ℤ) (c : Cell) → is_wanted key from to c ≡ true → (c ≡ cell_at key c.time) × (within from to c.time ≡ true)
wanted key from to c e =
    let texts = and_first (pointwise nat_eq c.series key.0 && pointwise nat_eq c.field key.1) _ e in
    let s = text_same c.series key.0 (and_first _ (pointwise nat_eq c.field key.1) texts) in
    let f = text_same c.field key.1 (and_second (pointwise nat_eq c.series key.0) _ texts) in
    (λ i. record { time = c.time; series = s i; field = f i }, and_second (pointwise nat_eq c.series key.0 && pointwise nat_eq c.field key.1) _ e)

less_time : (a b : ℤ) (s f : Ordering) → s ≡ Equal → f ≡ Equal → ordering_then (ordering_then (int_cmp a b) s) f ≡ Less → int_cmp a b ≡ Less
less_time a b s f p q e =
    by (int_cmp a b)
    (subst (λ (y : Ordering). ordering_then (ordering_then (int_cmp a b) Equal) y ≡ Less) q (subst (λ (x : Ordering). ordering_then (ordering_then (int_cmp a b) x) f ≡ Less) p e))
  where
    by : (o : Ordering) → ordering_then (ordering_then o Equal) Equal ≡ Less → o ≡ Less
    by Less h = refl
    by Equal h = h
    by Greater h = h

-- cells of one key in order have their times in order
times_less : (key : Key) (a b : ℤ) → cell_cmp (cell_at key a) (cell_at key b) ≡ Less → int_cmp a b ≡ Less
times_less key a b e = less_time a b (slice_cmp nat_cmp key.0 key.0) (slice_cmp nat_cmp key.1 key.1) (tied key.0) (tied key.1) e
  where
    tied : (t : List ℕ) → slice_cmp nat_cmp t t ≡ Equal
    tied t = equal (slice_cmp nat_cmp t t) (sym (texts_ties t t) ∙ text_itself t t refl)
      where
        equal : (o : Ordering) → is_eq o ≡ true → o ≡ Equal
        equal Less h = absurd (false≢true h)
        equal Equal h = refl
        equal Greater h = absurd (false≢true h)

below_between : (from to : ℤ) (key : Key) (c : Cell) (points : Points) → is_wanted key from to c ≡ true → T (below_all cell_cmp c points) → T (below_all int_cmp c.time (rows_between from to points key))
below_between from to key c [] w b = tt
below_between from to key c (p ∷ points) w b =
    choose (is_wanted key from to p.0) refl (below_between from to key c points w (t_second (is_lt (cell_cmp c p.0)) _ b))
  where
    choose : (q : Bool) → is_wanted key from to p.0 ≡ q → T (below_all int_cmp c.time (rows_between from to points key))
        → T (below_all int_cmp c.time (cond q ((p.0.time, p.1) ∷ rows_between from to points key) (rows_between from to points key)))
    choose true e rest =
        let mine = wanted key from to c w in
        let other = wanted key from to p.0 e in
        let less : cell_cmp c p.0 ≡ Less = less_t (cell_cmp c p.0) (t_first (is_lt (cell_cmp c p.0)) _ b) in
        let placed : cell_cmp (cell_at key c.time) (cell_at key p.0.time) ≡ Less =
        subst (λ (y : Cell). cell_cmp (cell_at key c.time) y ≡ Less) other.0 (subst (λ (x : Cell). cell_cmp x p.0 ≡ Less) mine.0 less) in
        t_both (is_lt (int_cmp c.time p.0.time)) _ (t_less (int_cmp c.time p.0.time) (times_less key c.time p.0.time placed)) rest
    choose false e rest = rest

pub sorted_between : (from to : ℤ) (key : Key) (points : Points) → T (is_sorted cell_cmp points) → T (is_sorted int_cmp (rows_between from to points key))
sorted_between from to key [] s = tt
sorted_between from to key (p ∷ points) s = choose (is_wanted key from to p.0) refl (sorted_between from to key points (t_second (below_all cell_cmp p.0 points) _ s))
  where
    choose : (q : Bool) → is_wanted key from to p.0 ≡ q → T (is_sorted int_cmp (rows_between from to points key))
        → T (is_sorted int_cmp (cond q ((p.0.time, p.1) ∷ rows_between from to points key) (rows_between from to points key)))
    choose true e rest = t_both (below_all int_cmp p.0.time (rows_between from to points key)) _ (below_between from to key p.0 points e (t_first (below_all cell_cmp p.0 points) _ s)) rest
    choose false e rest = rest

same_cell : (key : Key) (t : ℤ) (c : Cell) → is_at (cell_cmp (cell_at key t)) c ≡ true → cell_at key t ≡ c
same_cell key t c e = tells_apart cell_exact (cell_at key t) c e

same_both : (b : Bool) (o : Option Value) → o ≡ cond b o o
same_both true o = refl
same_both false o = refl

-- what is found in the rows is what the points have, between the bounds
pub find_between : (from to : ℤ) (key : Key) (t : ℤ) (points : Points) → find int_cmp t (rows_between from to points key) ≡ cond (within from to t) (value_at points (cell_at key t)) None
find_between from to key t [] = same_both (within from to t) None
find_between from to key t (p ∷ points) =
    ⊎_elim
    (λ (here : is_at (cell_cmp (cell_at key t)) p.0 ≡ true).
    let same = same_cell key t p.0 here in
    let time : t ≡ p.0.time = ap (λ (c : Cell). c.time) same in
    let test : is_wanted key from to p.0 ≡ within from to t =
    subst (λ (c : Cell). is_wanted key from to c ≡ within from to t) same
    (ap (λ (b : Bool). b && within from to t) (and_both (pointwise nat_eq key.0 key.0) (pointwise nat_eq key.1 key.1) (text_itself key.0 key.0 refl) (text_itself key.1 key.1 refl))) in
    let laws = eq_by_cmp_equiv int_cmp_total in
    let tie : eq_by_cmp int_cmp t p.0.time ≡ true = subst (λ (x : ℤ). eq_by_cmp int_cmp t x ≡ true) time (laws.refl t) in
    ap (λ (b : Bool). find int_cmp t (cond b ((p.0.time, p.1) ∷ rows_between from to points key) (rows_between from to points key))) test
    ∙ chosen (within from to t) refl tie (find_between from to key t points)
    ∙ ap (λ (o : Option Value). cond (within from to t) o None) (sym (cond-true (is_at (cell_cmp (cell_at key t)) p.0) (Some p.1) (value_at points (cell_at key t)) here)))
    (λ (there : is_at (cell_cmp (cell_at key t)) p.0 ≡ false).
    skip (is_wanted key from to p.0) refl there
    ∙ find_between from to key t points
    ∙ ap (λ (o : Option Value). cond (within from to t) o None) (sym (cond-false (is_at (cell_cmp (cell_at key t)) p.0) (Some p.1) (value_at points (cell_at key t)) there)))
    (cases_Bool (is_at (cell_cmp (cell_at key t)) p.0))
  where
    chosen : (b : Bool) → within from to t ≡ b → eq_by_cmp int_cmp t p.0.time ≡ true
        → find int_cmp t (rows_between from to points key) ≡ cond (within from to t) (value_at points (cell_at key t)) None
        → find int_cmp t (cond b ((p.0.time, p.1) ∷ rows_between from to points key) (rows_between from to points key)) ≡ cond b (Some p.1) None
    chosen true e tie later = cond-true (eq_by_cmp int_cmp t p.0.time) (Some p.1) (find int_cmp t (rows_between from to points key)) tie
    chosen false e tie later = later ∙ ap (λ (b : Bool). cond b (value_at points (cell_at key t)) None) e

    skip : (b : Bool) → is_wanted key from to p.0 ≡ b → is_at (cell_cmp (cell_at key t)) p.0 ≡ false
        → find int_cmp t (cond b ((p.0.time, p.1) ∷ rows_between from to points key) (rows_between from to points key)) ≡ find int_cmp t (rows_between from to points key)
    skip true e there =
        let mine = wanted key from to p.0 e in
        cond-false (eq_by_cmp int_cmp t p.0.time) (Some p.1) (find int_cmp t (rows_between from to points key))
        (⊎_elim
        (λ (tie : eq_by_cmp int_cmp t p.0.time ≡ true).
        let time : t ≡ p.0.time = tells_apart exact_signed t p.0.time tie in
        let laws = eq_by_cmp_equiv cell_total in
        let is : cell_at key t ≡ p.0 = ap (λ (x : ℤ). cell_at key x) time ∙ sym mine.0 in
        absurd (false≢true (sym there ∙ subst (λ (c : Cell). is_at (cell_cmp (cell_at key t)) c ≡ true) is (laws.refl (cell_at key t)))))
        (λ (apart : eq_by_cmp int_cmp t p.0.time ≡ false). apart)
        (cases_Bool (eq_by_cmp int_cmp t p.0.time)))
    skip false e there = refl
