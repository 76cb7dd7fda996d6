-- The names, the keys and the rows that were copied are those of the points.
use Rattle.std.proofs.Common.{◌≡◌, ◌∙◌, ap, sym, subst, List, ℕ, ◌++◌, map, IfSome, Vec, Global}
use Rattle.std.specs.BTreeMap.{get, IsOrdered}
use Rattle.tsdb_types.specs.declared.value.Kind.{Kind}
use Rattle.point_model.specs.Cursors.{Key, AreFields, AreTagKeys}
use Rattle.point_model.specs.Rows.{Row}
use Rattle.store_trait.specs.Lists.{lists_of}
use Rattle.store_trait.specs.Slots.{text_cmp}
use Rattle.store_trait.proofs.TagLemmas.{always_met}
use Rattle.store_trait.proofs.ViewLemmas.{gives_of, tag_keys_are}
use Rattle.live_points.specs.Held.{points_of}
use Rattle.live_points.specs.Listed.{kinds_of, listed, rows_taken, whole}
use Rattle.live_points.proofs.FieldLemmas.{fields_are}
use Rattle.live_points.proofs.ListedLemmas.{all_rows_are, keys_are, listed_known}
use Rattle.live_points.proofs.gather.view_of.Goals as goal

pub returns-clause-gives : goal.returns-clause-gives
returns-clause-gives c =
    let runs = c.args.cache.now.runs in
    let keys = c.args.keys.now in
    let samples = c.args.samples.now in
    let need = c.args.need.now in
    let points = points_of runs in
    let holds = c.requires in
    let named = c.heading_of.ensures.name in
    let heading = c.in_ok-heading.ensures.heading in
    let ordered = c.in_ok-gather.ensures.ordered in
    let some = listed runs need keys.keys in
    let shown : c.gather.new.shown.items ≡ some = c.in_ok-gather.ensures.keys ∙ ap (λ (ks : List Key). ks ++ some) c.new-shown.ensures.items in
    let rows : lists_of c.gather.new.rows.items ≡ map (rows_taken runs need) some = c.in_ok-gather.ensures.rows ∙ ap (λ (rs : List (Vec Row Global)). lists_of rs ++ map (rows_taken runs need) some) c.new-rows.ensures.items in
    gives_of points need c.new-3.result c.new.result c.new-2.result some (lists_of c.gather.new.rows.items)
    c.new-3.ensures.names (c.new-3.ensures.keys ∙ shown) c.new-3.ensures.left
    (subst (λ (fs : List (List ℕ × Kind)). AreFields points need.measurement fs) (sym (c.new.ensures ∙ c.in_ok-fields.ensures.fields ∙ ap (λ (h : List ℕ). kinds_of runs samples h) heading))
    (fields_are runs keys samples holds need.measurement named
    (subst (λ (h : List ℕ). IfSome (get text_cmp samples h) (λ fs. IsOrdered text_cmp fs)) heading c.in_ok-fields.ensures.ordered)))
    (subst (λ (ks : List (List ℕ)). AreTagKeys points need.measurement ks) (sym c.new-2.ensures)
    (tag_keys_are c.reads_once.ensures points (whole need) (listed runs (whole need) keys.keys) c.in_ok-tag_keys.tag_keys.items named always_met
    (keys_are runs keys samples holds ordered (whole need))
    c.in_ok-tag_keys.ensures.ascend c.in_ok-tag_keys.ensures.exact))
    (keys_are runs keys samples holds ordered need)
    (rows ∙ all_rows_are runs keys samples holds ordered need some (λ key m. listed_known runs keys samples holds ordered need key m))
