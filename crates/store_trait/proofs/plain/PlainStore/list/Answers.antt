-- The names, the keys and the rows that were copied are those of the points.
use Rattle.std.proofs.Common.{◌≡◌, ◌∙◌, ap, sym, subst, List, ℕ, ◌++◌, map, IfSome, Vec, Global}
use Rattle.std.specs.BTreeMap.{get, IsOrdered}
use Rattle.std.specs.Map.{keys_of}
use Rattle.tsdb_types.specs.declared.value.Kind.{Kind}
use Rattle.point_model.specs.Cursors.{Gives, Key, AreFields, AreTagKeys}
use Rattle.point_model.specs.Rows.{Row}
use Rattle.point_model.specs.Histories.{after}
use Rattle.point_model.specs.Points.{no_points}
use Rattle.store_trait.specs.Gathered.{kinds_of, listed, rows_taken, whole}
use Rattle.store_trait.specs.Notes.{entries_of}
use Rattle.store_trait.specs.Lists.{lists_of}
use Rattle.store_trait.specs.Slots.{text_cmp}
use Rattle.store_trait.specs.Told.{Told, state_now}
use Rattle.store_trait.proofs.AcceptLemmas.{in_order}
use Rattle.store_trait.proofs.FieldLemmas.{fields_are}
use Rattle.store_trait.proofs.KeyListLemmas.{keys_are, all_rows_are}
use Rattle.store_trait.proofs.TagLemmas.{always_met}
use Rattle.store_trait.proofs.ViewLemmas.{gives_of, tag_keys_are}
use Rattle.store_trait.proofs.plain.PlainStore.list.Goals as goal

pub returns-clause-gives : goal.returns-clause-gives
returns-clause-gives c =
    let slots = c.self.inside.slots in
    let samples = c.self.inside.samples in
    let need = c.args.need.now in
    let points = after no_points (entries_of c.self.inside.client c.self.inside.notes.items) in
    let fits = c.self.invariant.fits in
    let sorted = in_order c.self.inside.client c.self.inside.notes.items in
    let named = c.heading_of.ensures.name in
    let heading = c.in_ok-heading.ensures.heading in
    let entries = listed need slots.entries in
    let keys : c.gather.new.keys.items ≡ keys_of entries = c.in_ok-gather.ensures.keys ∙ ap (λ (ks : List Key). ks ++ keys_of entries) c.new-keys.ensures.items in
    let rows : lists_of c.gather.new.rows.items ≡ map (λ e. rows_taken need e.1) entries = c.in_ok-gather.ensures.rows ∙ ap (λ (rs : List (Vec Row Global)). lists_of rs ++ map (λ e. rows_taken need e.1) entries) c.new-rows.ensures.items in
    let are = keys_are need slots points fits.agrees sorted c.in_ok-gather.ensures.ordered c.in_ok-gather.ensures.all_ordered in
    subst (λ (t : Told). Gives (state_now t).points need c.new-3.result) c.self.view_is
    (gives_of points need c.new-3.result c.new.result c.new-2.result (keys_of entries) (lists_of c.gather.new.rows.items)
    c.new-3.ensures.names (c.new-3.ensures.keys ∙ keys) c.new-3.ensures.left
    (subst (λ (fs : List (List ℕ × Kind)). AreFields points need.measurement fs) (sym (c.new.ensures ∙ c.in_ok-fields.ensures.fields ∙ ap (λ (h : List ℕ). kinds_of slots samples h) heading))
    (fields_are slots samples points fits need.measurement named
    (subst (λ (h : List ℕ). IfSome (get text_cmp samples h) (λ fs. IsOrdered text_cmp fs)) heading c.in_ok-fields.ensures.ordered)))
    (subst (λ (ks : List (List ℕ)). AreTagKeys points need.measurement ks) (sym c.new-2.ensures)
    (tag_keys_are c.reads_once.ensures points (whole need) (keys_of (listed (whole need) slots.entries)) c.in_ok-tag_keys.tag_keys.items named always_met
    (keys_are (whole need) slots points fits.agrees sorted c.in_ok-gather.ensures.ordered c.in_ok-tag_keys.ensures.all_ordered)
    c.in_ok-tag_keys.ensures.ascend c.in_ok-tag_keys.ensures.exact))
    are
    (rows ∙ all_rows_are need slots points fits.agrees sorted c.in_ok-gather.ensures.ordered c.in_ok-gather.ensures.all_ordered entries (λ key rs m. m)))
