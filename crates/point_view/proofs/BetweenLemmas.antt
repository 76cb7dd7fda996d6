-- Which rows points have of a key between two times.
use Rattle.std.proofs.Common.{◌≡◌, ◌∙◌, ap, sym, refl, subst, ⊎_elim, ◌&&◌, ℕ, ℤ, int_le, Bool, true, false, cond, T, List, [], ◌∷◌, Option, Some, None, Ordering, Less, Equal, Greater}
use Rattle.std.specs.BTreeMap.{is_at}
use Rattle.std.specs.Cmp.{int_cmp_total, eq_by_cmp_equiv}
use Rattle.std.specs.Cmp.Lexicographic.{pointwise, slice_cmp, texts_ties}
use Rattle.std.specs.FinMap.Entries.{find, is_sorted, below_all}
use Rattle.std.specs.Ordering.{int_cmp, nat_cmp, ordering_then, eq_by_cmp, is_eq, is_lt}
use Rattle.std.specs.Prelude.{nat_eq}
use Rattle.std.proofs.lemmas.Bool.{cases_Bool, cond-true, cond-false, false≢true}
use Rattle.std.proofs.lemmas.Map.Lookups.{exact_signed}
use Rattle.std.proofs.lemmas.Map.Views.{tells_apart}
use Rattle.tsdb_types.specs.declared.point.Cell.{Cell}
use Rattle.tsdb_types.specs.declared.value.Value.{Value}
use Rattle.point_model.specs.Cursors.{Key, cell_at, is_wanted, rows_between}
use Rattle.point_model.specs.Points.{Points, cell_cmp, value_at}
use Rattle.point_model.proofs.FieldLemmas.{and_both, and_first, and_second, text_itself, text_same}
use Rattle.point_model.proofs.PointLemmas.{cell_total, cell_exact}
use Rattle.merge_cursor.proofs.OrderLemmas.{less_t, t_both, t_first, t_less, t_second}

-- the time is between the bounds, both included
abbrev pub within : ℤ → ℤ → ℤ → Bool
within from to time = int_le from time && int_le time to

-- a wanted cell is the key's, at a time between the bounds
wanted : (key : Key) (from to : ℤ) (c : Cell) → is_wanted key from to c ≡ true → (c ≡ cell_at key c.time) × (within from to c.time ≡ true)
wanted key from to c e =
    let texts = and_first (pointwise nat_eq c.series key.0 && pointwise nat_eq c.field key.1) _ e in
    let s = text_same c.series key.0 (and_first _ (pointwise nat_eq c.field key.1) texts) in
    let f = text_same c.field key.1 (and_second (pointwise nat_eq c.series key.0) _ texts) in
    (λ i. record { time = c.time; series = s i; field = f i }, and_second (pointwise nat_eq c.series key.0 && pointwise nat_eq c.field key.1) _ e)

less_time : (a b : ℤ) (s f : Ordering) → s ≡ Equal → f ≡ Equal → ordering_then (ordering_then (int_cmp a b) s) f ≡ Less → int_cmp a b ≡ Less
less_time a b s f p q e =
    by (int_cmp a b)
    (subst (λ (y : Ordering). ordering_then (ordering_then (int_cmp a b) Equal) y ≡ Less) q (subst (λ (x : Ordering). ordering_then (ordering_then (int_cmp a b) x) f ≡ Less) p e))
  where
    by : (o : Ordering) → ordering_then (ordering_then o Equal) Equal ≡ Less → o ≡ Less
    by Less h = refl
    by Equal h = h
    by Greater h = h

-- cells of one key in order have their times in order
times_less : (key : Key) (a b : ℤ) → cell_cmp (cell_at key a) (cell_at key b) ≡ Less → int_cmp a b ≡ Less
times_less key a b e = less_time a b (slice_cmp nat_cmp key.0 key.0) (slice_cmp nat_cmp key.1 key.1) (tied key.0) (tied key.1) e
  where
    tied : (t : List ℕ) → slice_cmp nat_cmp t t ≡ Equal
    tied t = equal (slice_cmp nat_cmp t t) (sym (texts_ties t t) ∙ text_itself t t refl)
      where
        equal : (o : Ordering) → is_eq o ≡ true → o ≡ Equal
        equal Less h = absurd (false≢true h)
        equal Equal h = refl
        equal Greater h = absurd (false≢true h)

below_between : (from to : ℤ) (key : Key) (c : Cell) (points : Points) → is_wanted key from to c ≡ true → T (below_all cell_cmp c points) → T (below_all int_cmp c.time (rows_between from to points key))
below_between from to key c [] w b = tt
below_between from to key c (p ∷ points) w b =
    choose (is_wanted key from to p.0) refl (below_between from to key c points w (t_second (is_lt (cell_cmp c p.0)) _ b))
  where
    choose : (q : Bool) → is_wanted key from to p.0 ≡ q → T (below_all int_cmp c.time (rows_between from to points key))
        → T (below_all int_cmp c.time (cond q ((p.0.time, p.1) ∷ rows_between from to points key) (rows_between from to points key)))
    choose true e rest =
        let mine = wanted key from to c w in
        let other = wanted key from to p.0 e in
        let less : cell_cmp c p.0 ≡ Less = less_t (cell_cmp c p.0) (t_first (is_lt (cell_cmp c p.0)) _ b) in
        let placed : cell_cmp (cell_at key c.time) (cell_at key p.0.time) ≡ Less =
        subst (λ (y : Cell). cell_cmp (cell_at key c.time) y ≡ Less) other.0 (subst (λ (x : Cell). cell_cmp x p.0 ≡ Less) mine.0 less) in
        t_both (is_lt (int_cmp c.time p.0.time)) _ (t_less (int_cmp c.time p.0.time) (times_less key c.time p.0.time placed)) rest
    choose false e rest = rest

pub sorted_between : (from to : ℤ) (key : Key) (points : Points) → T (is_sorted cell_cmp points) → T (is_sorted int_cmp (rows_between from to points key))
sorted_between from to key [] s = tt
sorted_between from to key (p ∷ points) s = choose (is_wanted key from to p.0) refl (sorted_between from to key points (t_second (below_all cell_cmp p.0 points) _ s))
  where
    choose : (q : Bool) → is_wanted key from to p.0 ≡ q → T (is_sorted int_cmp (rows_between from to points key))
        → T (is_sorted int_cmp (cond q ((p.0.time, p.1) ∷ rows_between from to points key) (rows_between from to points key)))
    choose true e rest = t_both (below_all int_cmp p.0.time (rows_between from to points key)) _ (below_between from to key p.0 points e (t_first (below_all cell_cmp p.0 points) _ s)) rest
    choose false e rest = rest

same_cell : (key : Key) (t : ℤ) (c : Cell) → is_at (cell_cmp (cell_at key t)) c ≡ true → cell_at key t ≡ c
same_cell key t c e = tells_apart cell_exact (cell_at key t) c e

same_both : (b : Bool) (o : Option Value) → o ≡ cond b o o
same_both true o = refl
same_both false o = refl

-- what is found in the rows is what the points have, between the bounds
pub find_between : (from to : ℤ) (key : Key) (t : ℤ) (points : Points) → find int_cmp t (rows_between from to points key) ≡ cond (within from to t) (value_at points (cell_at key t)) None
find_between from to key t [] = same_both (within from to t) None
find_between from to key t (p ∷ points) =
    ⊎_elim
    (λ (here : is_at (cell_cmp (cell_at key t)) p.0 ≡ true).
    let same = same_cell key t p.0 here in
    let time : t ≡ p.0.time = ap (λ (c : Cell). c.time) same in
    let test : is_wanted key from to p.0 ≡ within from to t =
    subst (λ (c : Cell). is_wanted key from to c ≡ within from to t) same
    (ap (λ (b : Bool). b && within from to t) (and_both (pointwise nat_eq key.0 key.0) (pointwise nat_eq key.1 key.1) (text_itself key.0 key.0 refl) (text_itself key.1 key.1 refl))) in
    let laws = eq_by_cmp_equiv int_cmp_total in
    let tie : eq_by_cmp int_cmp t p.0.time ≡ true = subst (λ (x : ℤ). eq_by_cmp int_cmp t x ≡ true) time (laws.refl t) in
    ap (λ (b : Bool). find int_cmp t (cond b ((p.0.time, p.1) ∷ rows_between from to points key) (rows_between from to points key))) test
    ∙ chosen (within from to t) refl tie (find_between from to key t points)
    ∙ ap (λ (o : Option Value). cond (within from to t) o None) (sym (cond-true (is_at (cell_cmp (cell_at key t)) p.0) (Some p.1) (value_at points (cell_at key t)) here)))
    (λ (there : is_at (cell_cmp (cell_at key t)) p.0 ≡ false).
    skip (is_wanted key from to p.0) refl there
    ∙ find_between from to key t points
    ∙ ap (λ (o : Option Value). cond (within from to t) o None) (sym (cond-false (is_at (cell_cmp (cell_at key t)) p.0) (Some p.1) (value_at points (cell_at key t)) there)))
    (cases_Bool (is_at (cell_cmp (cell_at key t)) p.0))
  where
    chosen : (b : Bool) → within from to t ≡ b → eq_by_cmp int_cmp t p.0.time ≡ true
        → find int_cmp t (rows_between from to points key) ≡ cond (within from to t) (value_at points (cell_at key t)) None
        → find int_cmp t (cond b ((p.0.time, p.1) ∷ rows_between from to points key) (rows_between from to points key)) ≡ cond b (Some p.1) None
    chosen true e tie later = cond-true (eq_by_cmp int_cmp t p.0.time) (Some p.1) (find int_cmp t (rows_between from to points key)) tie
    chosen false e tie later = later ∙ ap (λ (b : Bool). cond b (value_at points (cell_at key t)) None) e

    skip : (b : Bool) → is_wanted key from to p.0 ≡ b → is_at (cell_cmp (cell_at key t)) p.0 ≡ false
        → find int_cmp t (cond b ((p.0.time, p.1) ∷ rows_between from to points key) (rows_between from to points key)) ≡ find int_cmp t (rows_between from to points key)
    skip true e there =
        let mine = wanted key from to p.0 e in
        cond-false (eq_by_cmp int_cmp t p.0.time) (Some p.1) (find int_cmp t (rows_between from to points key))
        (⊎_elim
        (λ (tie : eq_by_cmp int_cmp t p.0.time ≡ true).
        let time : t ≡ p.0.time = tells_apart exact_signed t p.0.time tie in
        let laws = eq_by_cmp_equiv cell_total in
        let is : cell_at key t ≡ p.0 = ap (λ (x : ℤ). cell_at key x) time ∙ sym mine.0 in
        absurd (false≢true (sym there ∙ subst (λ (c : Cell). is_at (cell_cmp (cell_at key t)) c ≡ true) is (laws.refl (cell_at key t)))))
        (λ (apart : eq_by_cmp int_cmp t p.0.time ≡ false). apart)
        (cases_Bool (eq_by_cmp int_cmp t p.0.time)))
    skip false e there = refl
