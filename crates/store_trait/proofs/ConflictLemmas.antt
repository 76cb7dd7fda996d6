-- The samples find the conflicts of a batch with the points.
use Rattle.std.proofs.Common.{◌≡◌, ◌∙◌, ap, sym, subst, refl, inl, inr, ⊎_elim, ◌⊎◌, Bool, true, false, not, ◌&&◌, T, IsTrue, Option, Some, None, is_some, List, [], ◌∷◌, ℕ, option_and_then, Ordering, Less, Equal, Greater}
use Rattle.std.specs.Ordering.{eq_by_cmp, is_lt, is_eq}
use Rattle.std.specs.FinMap.Entries.{find, is_sorted, below_all}
use Rattle.std.specs.Cmp.{eq_by_cmp_equiv}
use Rattle.std.specs.BTreeMap.{is_at}
use Rattle.std.proofs.lemmas.Bool.{cases_Bool, cond-true, cond-false, false≢true}
use Rattle.std.proofs.lemmas.Map.Views.{tells_apart}
use Rattle.tsdb_types.specs.Values.{kind_of}
use Rattle.tsdb_types.specs.declared.point.Cell.{Cell}
use Rattle.tsdb_types.specs.declared.point.Point.{Point}
use Rattle.tsdb_types.specs.declared.value.Value.{Value}
use Rattle.tsdb_types.specs.declared.value.Kind.{Kind}
use Rattle.point_model.specs.Acceptance.{Conflict, conflict, conflict_before, other_kind, is_same_kind}
use Rattle.point_model.specs.Measurements.{measurement_head, is_same_field}
use Rattle.point_model.specs.Points.{Points, cell_cmp, value_at}
use Rattle.store_trait.specs.Slots.{Slots, Samples, slot_at, sample_of, held}
use Rattle.store_trait.specs.Plain.{Fits, sample_value, unlike, conflict_in}
use Rattle.store_trait.proofs.KindLemmas.{and_first, and_both, one_field, same_field}
use Rattle.point_model.proofs.PointLemmas.{cell_total, cell_exact, find_is}

-- the pair is one of these
abbrev pub Among : Cell × Value → Points → Type 0
Among e [] = ⊥
Among e (first ∷ points) = (first ≡ e) ⊎ Among e points

below_of : (first : Cell) (e : Cell × Value) (points : Points) → T (below_all cell_cmp first points) → Among e points → T (is_lt (cell_cmp first e.0))
below_of first e [] below m = absurd m
below_of first e (x ∷ points) below m =
    ⊎_elim
    (λ (same : x ≡ e). subst (λ (p : Cell × Value). T (is_lt (cell_cmp first p.0))) same (t_first _ _ below))
    (λ (behind : Among e points). below_of first e points (t_second _ _ below) behind)
    m
  where
    t_first : (a b : Bool) → T (a && b) → T a
    t_first true b p = tt
    t_first false b p = p

    t_second : (a b : Bool) → T (a && b) → T b
    t_second true b p = p
    t_second false b p = absurd p

less_apart : (o : Ordering) → T (is_lt o) → is_eq o ≡ false
less_apart Less l = refl
less_apart Equal l = absurd l
less_apart Greater l = refl

-- a pair of points in order is what its cell has
pub among_found : (e : Cell × Value) (points : Points) → T (is_sorted cell_cmp points) → Among e points → value_at points e.0 ≡ Some e.1
among_found e points sorted m = sym (find_is cell_cmp e.0 points) ∙ by points sorted m
  where
    t_first : (a b : Bool) → T (a && b) → T a
    t_first true b p = tt
    t_first false b p = p

    t_second : (a b : Bool) → T (a && b) → T b
    t_second true b p = p
    t_second false b p = absurd p

    by : (ps : Points) → T (is_sorted cell_cmp ps) → Among e ps → find cell_cmp e.0 ps ≡ Some e.1
    by [] s m = absurd m
    by (x ∷ ps) s m =
        let laws = eq_by_cmp_equiv cell_total in
        ⊎_elim
        (λ (same : x ≡ e). subst (λ (d : Cell × Value). find cell_cmp d.0 (x ∷ ps) ≡ Some d.1) same (cond-true (eq_by_cmp cell_cmp x.0 x.0) (Some x.1) (find cell_cmp x.0 ps) (laws.refl x.0)))
        (λ (behind : Among e ps).
        let apart : eq_by_cmp cell_cmp e.0 x.0 ≡ false = laws.symm e.0 x.0 ∙ less_apart (cell_cmp x.0 e.0) (below_of x.0 e ps (t_first _ _ s) behind) in
        cond-false (eq_by_cmp cell_cmp e.0 x.0) (Some x.1) (find cell_cmp e.0 ps) apart ∙ by ps (t_second (below_all cell_cmp x.0 ps) _ s) behind)
        m

pub some_values : {X : Type 0} (a b : X) → Some a ≡ Some b → a ≡ b
some_values a b e = cc

pub none_some : {X : Type 0} (a : X) → None ≡ Some a → ⊥
none_some a e = false≢true (ap is_some e)

-- what a cell has is a pair of the points
pub found_among : (c : Cell) (v : Value) (points : Points) → value_at points c ≡ Some v → Among (c, v) points
found_among c v [] e = none_some v e
found_among c v (x ∷ points) e =
    ⊎_elim
    (λ (b : is_at (cell_cmp c) x.0 ≡ true).
    let cells : x.0 ≡ c = sym (tells_apart cell_exact c x.0 b) in
    let values : x.1 ≡ v = some_values x.1 v (sym (cond-true _ (Some x.1) (value_at points c) b) ∙ e) in
    inl (λ i. (cells i, values i)))
    (λ (b : is_at (cell_cmp c) x.0 ≡ false). inr (found_among c v points (sym (cond-false _ (Some x.1) (value_at points c) b) ∙ e)))
    (cases_Bool (is_at (cell_cmp c) x.0))

-- the pair is one of the point's field, of another kind
abbrev conflicts : Point → Cell × Value → Bool
conflicts point e = is_same_field point.cell e.0 && not (is_same_kind (kind_of e.1) (kind_of point.value))

pub other_none : (points : Points) (point : Point) → ((e : Cell × Value) → Among e points → conflicts point e ≡ false) → other_kind points point ≡ None
other_none [] point never = refl
other_none (x ∷ points) point never = cond-false (conflicts point x) (Some (kind_of x.1)) (other_kind points point) (never x (inl refl)) ∙ other_none points point (λ e m. never e (inr m))

pub none_other : (points : Points) (point : Point) → other_kind points point ≡ None → (e : Cell × Value) → Among e points → conflicts point e ≡ false
none_other [] point n e m = absurd m
none_other (x ∷ points) point n e m =
    ⊎_elim
    (λ (b : conflicts point x ≡ true). absurd (none_some (kind_of x.1) (sym n ∙ cond-true (conflicts point x) (Some (kind_of x.1)) (other_kind points point) b)))
    (λ (b : conflicts point x ≡ false).
    ⊎_elim
    (λ (same : x ≡ e). subst (λ (d : Cell × Value). conflicts point d ≡ false) same b)
    (λ (behind : Among e points). none_other points point (sym (cond-false (conflicts point x) (Some (kind_of x.1)) (other_kind points point) b) ∙ n) e behind)
    m)
    (cases_Bool (conflicts point x))

other_some : (points : Points) (point : Point) (kind : Kind) → ((e : Cell × Value) → Among e points → IsTrue (is_same_field point.cell e.0) → kind_of e.1 ≡ kind)
    → is_same_kind kind (kind_of point.value) ≡ false → (e : Cell × Value) → Among e points → IsTrue (is_same_field point.cell e.0) → other_kind points point ≡ Some kind
other_some [] point kind all differ e m same = absurd m
other_some (x ∷ points) point kind all differ e m same =
    ⊎_elim
    (λ (b : conflicts point x ≡ true). cond-true (conflicts point x) (Some (kind_of x.1)) (other_kind points point) b ∙ ap Some (all x (inl refl) (and_first _ _ b)))
    (λ (b : conflicts point x ≡ false).
    cond-false (conflicts point x) (Some (kind_of x.1)) (other_kind points point) b
    ∙ ⊎_elim
    (λ (is : x ≡ e).
    let is_kind : kind_of e.1 ≡ kind = all e m same in
    let test : conflicts point e ≡ true = and_both _ _ same (ap (λ (k : Kind). not (is_same_kind k (kind_of point.value))) is_kind ∙ ap not differ) in
    absurd (false≢true (sym (subst (λ (d : Cell × Value). conflicts point d ≡ false) is b) ∙ test)))
    (λ (behind : Among e points). other_some points point kind (λ d n. all d (inr n)) differ e behind same)
    m)
    (cases_Bool (conflicts point x))

-- the sample of a field, and what it holds
pub sample_cell : (slots : Slots) (samples : Samples) (m f : List ℕ) (v : Value) → sample_value slots samples m f ≡ Some v
    → (w : Cell) × (sample_of samples m f ≡ Some w) × (held (slot_at slots w) ≡ Some v)
sample_cell slots samples m f v e = by (sample_of samples m f) refl e
  where
    by : (o : Option Cell) → sample_of samples m f ≡ o → option_and_then (λ (cell : Cell). held (slot_at slots cell)) o ≡ Some v
        → (w : Cell) × (sample_of samples m f ≡ Some w) × (held (slot_at slots w) ≡ Some v)
    by None is h = absurd (none_some v h)
    by (Some w) is h = (w, is, h)

no_conflict : (a b : Bool) → a ≡ false → (a && b) ≡ false
no_conflict true b e = absurd (false≢true (sym e))
no_conflict false b e = refl

module _ (slots : Slots) (samples : Samples) (points : Points) (fits : Fits slots samples points) (sorted : T (is_sorted cell_cmp points)) where
  module _ (point : Point) where
    abbrev m : List ℕ
    m = measurement_head point.cell.series

    abbrev f : List ℕ
    f = point.cell.field

    abbrev kind : Kind
    kind = kind_of point.value

    -- a field without a sample has no cell
    unsampled : sample_value slots samples m f ≡ None → (e : Cell × Value) → Among e points → conflicts point e ≡ false
    unsampled none e among =
        ⊎_elim
        (λ (same : is_same_field point.cell e.0 ≡ true).
        let one = one_field point.cell e.0 same in
        let has = fits.sampled e.0 (ap is_some (among_found e points sorted among)) in
        let here : sample_value slots samples (measurement_head e.0.series) e.0.field ≡ None =
        ap (λ (t : List ℕ). sample_value slots samples t e.0.field) (sym one.measurement) ∙ ap (λ (t : List ℕ). sample_value slots samples m t) (sym one.field) ∙ none in
        absurd (false≢true (sym (ap is_some here) ∙ has)))
        (λ (apart : is_same_field point.cell e.0 ≡ false). no_conflict _ _ apart)
        (cases_Bool (is_same_field point.cell e.0))

    -- all cells of the field have the kind of the sample
    alike : (v : Value) → sample_value slots samples m f ≡ Some v → (e : Cell × Value) → Among e points → IsTrue (is_same_field point.cell e.0) → kind_of e.1 ≡ kind_of v
    alike v is e among same =
        let w = sample_cell slots samples m f v is in
        let at = fits.placed m f w.0 w.1 in
        let one = one_field point.cell e.0 same in
        fits.one_kind e.0 w.0 e.1 v (among_found e points sorted among) (sym (fits.agrees w.0) ∙ w.2) (same_field e.0 w.0 (sym one.measurement ∙ sym at.0) (sym one.field ∙ sym at.1))

    pub sample_finds : unlike kind (sample_value slots samples m f) ≡ other_kind points point
    sample_finds = by (sample_value slots samples m f) refl
      where
        never : (b : Bool) → (b && false) ≡ false
        never true = refl
        never false = refl

        by : (o : Option Value) → sample_value slots samples m f ≡ o → unlike kind o ≡ other_kind points point
        by None is = sym (other_none points point (unsampled is))
        by (Some v) is =
            ⊎_elim
            (λ (b : is_same_kind (kind_of v) kind ≡ true).
            cond-true (is_same_kind (kind_of v) kind) None (Some (kind_of v)) b
            ∙ sym (other_none points point (λ e among.
            ⊎_elim
            (λ (same : is_same_field point.cell e.0 ≡ true).
            ap (λ (t : Bool). is_same_field point.cell e.0 && not t) (ap (λ (k : Kind). is_same_kind k kind) (alike v is e among same) ∙ b) ∙ never (is_same_field point.cell e.0))
            (λ (apart : is_same_field point.cell e.0 ≡ false). no_conflict _ _ apart)
            (cases_Bool (is_same_field point.cell e.0)))))
            (λ (b : is_same_kind (kind_of v) kind ≡ false).
            let w = sample_cell slots samples m f v is in
            let at = fits.placed m f w.0 w.1 in
            cond-false (is_same_kind (kind_of v) kind) None (Some (kind_of v)) b
            ∙ sym (other_some points point (kind_of v) (alike v is) b (w.0, v) (found_among w.0 v points (sym (fits.agrees w.0) ∙ w.2)) (same_field point.cell w.0 (sym at.0) (sym at.1))))
            (cases_Bool (is_same_kind (kind_of v) kind))

  -- the conflict that the samples find is the batch's
  pub conflict_found : (batch : List Point) → conflict_in slots samples batch ≡ conflict points batch
  conflict_found [] = refl
  conflict_found (point ∷ batch) =
      ap (λ (o : Option Kind). conflict_before point o (conflict_in slots samples batch)) (sample_finds point)
      ∙ ap (λ (o : Option Conflict). conflict_before point (other_kind points point) o) (conflict_found batch)
