-- The samples find the conflicts of a batch with the points.
use Rattle.std.proofs.Common.{◌≡◌, ◌∙◌, ap, sym, subst, refl, inl, inr, ⊎_elim, Bool, true, false, not, ◌&&◌, IsTrue, Option, Some, None, is_some, List, [], ◌∷◌, ℕ}
use Rattle.std.proofs.lemmas.Bool.{cases_Bool, cond-true, cond-false, false≢true}
use Rattle.tsdb_types.specs.Values.{kind_of}
use Rattle.tsdb_types.specs.declared.point.Cell.{Cell}
use Rattle.tsdb_types.specs.declared.point.Point.{Point}
use Rattle.tsdb_types.specs.declared.value.Value.{Value}
use Rattle.tsdb_types.specs.declared.value.Kind.{Kind}
use Rattle.point_model.specs.Acceptance.{Conflict, conflict, conflict_before, other_kind, is_same_kind}
use Rattle.point_model.specs.Cursors.{cell_at}
use Rattle.point_model.specs.Measurements.{measurement_head, is_same_field}
use Rattle.point_model.specs.Points.{Points, value_at}
use Rattle.point_model.proofs.FieldLemmas.{and_first, and_both, one_field, same_field}
use Rattle.point_cache.specs.declared.key_points.KeyRun.{KeyRun}
use Rattle.store_trait.proofs.ConflictLemmas.{Among, among_found, found_among, other_none}
use Rattle.live_points.specs.Held.{points_of}
use Rattle.live_points.specs.Known.{Holds, Keys, Samples, conflict_in, kind_in, unlike}
use Rattle.live_points.proofs.HeldLemmas.{sorted_points}
use Rattle.live_points.proofs.KnownLemmas.{cell_of_kind, held, sample_key}

-- the pair is one of the point's field, of another kind
abbrev conflicts : Point → Cell × Value → Bool
conflicts point e = is_same_field point.cell e.0 && not (is_same_kind (kind_of e.1) (kind_of point.value))

other_some : (points : Points) (point : Point) (kind : Kind) → ((e : Cell × Value) → Among e points → IsTrue (is_same_field point.cell e.0) → kind_of e.1 ≡ kind)
    → is_same_kind kind (kind_of point.value) ≡ false → (e : Cell × Value) → Among e points → IsTrue (is_same_field point.cell e.0) → other_kind points point ≡ Some kind
other_some [] point kind all differ e m same = absurd m
other_some (x ∷ points) point kind all differ e m same =
    ⊎_elim
    (λ (b : conflicts point x ≡ true). cond-true (conflicts point x) (Some (kind_of x.1)) (other_kind points point) b ∙ ap Some (all x (inl refl) (and_first _ _ b)))
    (λ (b : conflicts point x ≡ false).
    cond-false (conflicts point x) (Some (kind_of x.1)) (other_kind points point) b
    ∙ ⊎_elim
    (λ (is : x ≡ e).
    let is_kind : kind_of e.1 ≡ kind = all e m same in
    let test : conflicts point e ≡ true = and_both _ _ same (ap (λ (k : Kind). not (is_same_kind k (kind_of point.value))) is_kind ∙ ap not differ) in
    absurd (false≢true (sym (subst (λ (d : Cell × Value). conflicts point d ≡ false) is b) ∙ test)))
    (λ (behind : Among e points). other_some points point kind (λ d n. all d (inr n)) differ e behind same)
    m)
    (cases_Bool (conflicts point x))

never_both : (b : Bool) → (b && false) ≡ false
never_both true = refl
never_both false = refl

not_same : (a b : Bool) → a ≡ false → (a && b) ≡ false
not_same true b e = absurd (false≢true (sym e))
not_same false b e = refl

module _ (runs : List KeyRun) (keys : Keys) (samples : Samples) (holds : Holds runs keys samples) where
  module _ (point : Point) where
    abbrev m : List ℕ
    m = measurement_head point.cell.series

    abbrev f : List ℕ
    f = point.cell.field

    abbrev kind : Kind
    kind = kind_of point.value

    abbrev points : Points
    points = points_of runs

    -- a field without a sample has no cell
    unsampled : kind_in runs samples m f ≡ None → (e : Cell × Value) → Among e points → conflicts point e ≡ false
    unsampled none e among =
        ⊎_elim
        (λ (same : is_same_field point.cell e.0 ≡ true).
        let one = one_field point.cell e.0 same in
        let there = held runs keys samples holds e.0 e.1 (among_found e points (sorted_points runs) among) in
        let has = holds.sampled (e.0.series, e.0.field) there.known there.kind in
        let here : kind_in runs samples (measurement_head e.0.series) e.0.field ≡ None =
        ap (λ (t : List ℕ). kind_in runs samples t e.0.field) (sym one.measurement) ∙ ap (λ (t : List ℕ). kind_in runs samples m t) (sym one.field) ∙ none in
        absurd (false≢true (sym (ap is_some here) ∙ has)))
        (λ (apart : is_same_field point.cell e.0 ≡ false). not_same _ _ apart)
        (cases_Bool (is_same_field point.cell e.0))

    module _ (known_kind : Kind) (is : kind_in runs samples m f ≡ Some known_kind) where
      -- the sample has a cell of that kind, of the point's field
      sample : (w : Cell) × (v : Value) × (value_at points w ≡ Some v) × (kind_of v ≡ known_kind) × IsTrue (is_same_field point.cell w)
      sample =
          let s = sample_key runs samples m f known_kind is in
          let placed = holds.placed m f s.0 s.1 in
          let c = cell_of_kind runs keys samples holds (s.0, f) known_kind placed.1 s.2 in
          (cell_at (s.0, f) c.0, c.1, c.2, c.3, same_field point.cell (cell_at (s.0, f) c.0) (sym placed.0) refl)

      -- all cells of the field have the kind of the sample
      alike : (e : Cell × Value) → Among e points → IsTrue (is_same_field point.cell e.0) → kind_of e.1 ≡ known_kind
      alike e among same =
          let one = one_field point.cell e.0 same in
          let other = one_field point.cell sample.0 sample.4 in
          holds.stored.sound.one_kind e.0 sample.0 e.1 sample.1 (among_found e points (sorted_points runs) among) sample.2
          (same_field e.0 sample.0 (sym one.measurement ∙ other.measurement) (sym one.field ∙ other.field))
          ∙ sample.3

      sampled : unlike kind (Some known_kind) ≡ other_kind points point
      sampled =
          ⊎_elim
          (λ (b : is_same_kind known_kind kind ≡ true).
          cond-true (is_same_kind known_kind kind) None (Some known_kind) b
          ∙ sym (other_none points point (λ e among.
          ⊎_elim
          (λ (same : is_same_field point.cell e.0 ≡ true).
          ap (λ (t : Bool). is_same_field point.cell e.0 && not t) (ap (λ (k : Kind). is_same_kind k kind) (alike e among same) ∙ b) ∙ never_both (is_same_field point.cell e.0))
          (λ (apart : is_same_field point.cell e.0 ≡ false). not_same _ _ apart)
          (cases_Bool (is_same_field point.cell e.0)))))
          (λ (b : is_same_kind known_kind kind ≡ false).
          cond-false (is_same_kind known_kind kind) None (Some known_kind) b
          ∙ sym (other_some points point known_kind alike b (sample.0, sample.1) (found_among sample.0 sample.1 points sample.2) sample.4))
          (cases_Bool (is_same_kind known_kind kind))

    sample_finds : unlike kind (kind_in runs samples m f) ≡ other_kind points point
    sample_finds = by (kind_in runs samples m f) refl
      where
        by : (o : Option Kind) → kind_in runs samples m f ≡ o → unlike kind o ≡ other_kind points point
        by None is = sym (other_none points point (unsampled is))
        by (Some known_kind) is = sampled known_kind is

  -- the conflict that the samples find is the batch's
  pub conflict_found : (batch : List Point) → conflict_in runs samples batch ≡ conflict (points_of runs) batch
  conflict_found [] = refl
  conflict_found (point ∷ batch) =
      ap (λ (o : Option Kind). conflict_before point o (conflict_in runs samples batch)) (sample_finds point)
      ∙ ap (λ (o : Option Conflict). conflict_before point (other_kind (points_of runs) point) o) (conflict_found batch)
