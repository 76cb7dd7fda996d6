-- The field's kind was noted, or is noted now.
use Rattle.std.proofs.Common.{◌≡◌, ◌⊎◌, ◌∙◌, ap, sym, refl, subst, inl, Some, None}
use Rattle.std.specs.BTreeMap.{get}
use Rattle.tsdb_types.specs.declared.value.Kind.{Kind}
use Rattle.point_model.specs.Cursors.{Key, key_cmp}
use Rattle.point_model.specs.Measurements.{measurement_head}
use Rattle.shard_opening.specs.Kinds.{field_of}
use Rattle.shard_opening.proofs.KindLemmas.{others_stay}
use Rattle.shard_opening.proofs.kinds.note_kind.Goals as goal

pub returns-in-Some : goal.returns-in-Some
returns-in-Some c =
    let key : Key = (c.read.new.self, c.in_ok-carry.field-0) in
    let is : key ≡ field_of c.args.point.now = λ i. (c.in_ok-read.ensures i, c.in_ok-carry.ensures i) in
    let looked : Key = (c.heading.inside.text.items, c.in_ok-carry.field-0) in
    let as_read : looked ≡ key = λ i. (c.heading.view_is i, c.in_ok-carry.field-0) in
    let held : get key_cmp c.args.kinds.now (field_of c.args.point.now) ≡ Some c.in-Some.held =
    ap (get key_cmp c.args.kinds.now) (sym (as_read ∙ is)) ∙ sym c.get.ensures.value ∙ sym c.copied.ensures ∙ c.in-Some.is in
    record {
      had = λ other. (c.in-Some.held, held, subst (λ (k : Kind). c.in-Some.held ≡ k → ⊥) c.kind-kind.ensures (c.is_same.ensures.different other));
      has = λ same. held ∙ ap (λ (k : Kind). Some k) (c.is_same.ensures.same same ∙ c.kind-kind.ensures);
      others = λ same key. inl refl;
    }

pub returns-in_ok-insert-in-None : goal.returns-in_ok-insert-in-None
returns-in_ok-insert-in-None c =
    let key : Key = (c.heading.inside.text.items, c.in_ok-carry.field-0) in
    let text : c.heading.inside.text.items ≡ measurement_head c.args.point.now.cell.series = c.heading.view_is ∙ c.in_ok-read.ensures in
    let is : key ≡ field_of c.args.point.now = λ i. (text i, c.in_ok-carry.ensures i) in
    let none : get key_cmp c.args.kinds.now key ≡ None = sym c.get.ensures.value ∙ sym c.copied.ensures ∙ c.in-None.is in
    record {
      had = λ other. absurd (cc other);
      has = λ same. ap (get key_cmp c.insert.new.self) (sym is) ∙ c.in_ok-insert-in-None.ensures.updates.1 ∙ ap (λ (k : Kind). Some k) c.kind-kind.ensures;
      others = λ same. subst (λ (k : Key). (other : Key) → (get key_cmp c.insert.new.self other ≡ get key_cmp c.args.kinds.now other) ⊎ ((other ≡ k) × (get key_cmp c.args.kinds.now other ≡ None))) is
          (others_stay key c.kind-kind.result c.args.kinds.now c.insert.new.self none c.in_ok-insert-in-None.ensures.updates);
    }
