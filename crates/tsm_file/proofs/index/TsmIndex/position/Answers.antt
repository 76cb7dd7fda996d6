use Rattle.std.proofs.Common.{◌≡◌, ◌<◌, None, List, length, get_or, slice_get, inl, inr, sym, ap, ◌∙◌, subst, arith, rules, of_calls}
use Rattle.std.specs.Ordering.{nat_cmp, ordering_index}
use Rattle.std.specs.Cmp.Lexicographic.{slice_cmp, nat_list_cmp_total}
use Rattle.std.specs.List.Sorted.{IsNonDecreasingBy}
use Rattle.std.proofs.lemmas.Bool.{cases_lt}
use Rattle.std.proofs.lemmas.Fn.{always_returns_same}
use Rattle.std.proofs.lemmas.List.Sorted.{searchable_from_sorted}
use Rattle.std.proofs.lemmas.Option.{get_or_from_slice_get}
use Rattle.tsm_format.specs.declared.row.KeyRow.{KeyRow}
use Rattle.tsm_format.specs.Rows.{AreRows, first_block}
use Rattle.tsm_file.specs.ReadIndex.{Index}
use Rattle.tsm_file.proofs.RowLemmas.{item_at, not_above, not_below, same_key, sorted_by_key}
use Rattle.tsm_file.proofs.index.TsmIndex.position.Goals as goal

pub returns-in-Ok-clause-found : goal.returns-in-Ok-clause-found
returns-in-Ok-clause-found c =
    let rows = c.as_slice-rows.result.now in
    let key = c.args.key.now in
    let k = c.in-Ok.k in
    let held : c.as_slice-rows.result.now ≡ c.args.self.now.rows = c.as_slice-rows.ensures.value ∙ ap (λ (i : Index). i.rows) c.self.view_is in
    let some = item_at rows k c.in-Ok.ensures.bound in
    let row : KeyRow = some.0 in
    let tied = c.in-Ok.ensures.position (λ (r : KeyRow). slice_cmp nat_cmp r.key key) (always_returns_same _ _ _ (λ a r f q. search (rules, of_calls))) row in
    let same : get_or rows k row ≡ row = get_or_from_slice_get rows k row row some.1 in
    (row, ap (λ (l : List KeyRow). slice_get l k) (sym held) ∙ some.1, same_key row.key key (ap (λ (r : KeyRow). slice_cmp nat_cmp r.key key) (sym same) ∙ tied))

pub returns-in-Err-clause-none : goal.returns-in-Err-clause-none
returns-in-Err-clause-none c = λ k d lt same.
    let rows : List KeyRow = c.as_slice-rows.result.now in
    let key = c.args.key.now in
    let place = c.in-Err.field-0 in
    let held : c.as_slice-rows.result.now ≡ c.args.self.now.rows = c.as_slice-rows.ensures.value ∙ ap (λ (i : Index). i.rows) c.self.view_is in
    let good : AreRows None first_block c.as_slice-rows.result.now = subst (AreRows None first_block) (sym c.as_slice-rows.ensures.value) c.self.invariant.good in
    let rising : IsNonDecreasingBy (λ (r : KeyRow). ordering_index (slice_cmp nat_cmp r.key key)) c.as_slice-rows.result.now =
    searchable_from_sorted nat_list_cmp_total (λ (r : KeyRow). r.key) rows key (sorted_by_key None first_block rows good) in
    let point = c.in-Err.ensures.position (λ (r : KeyRow). slice_cmp nat_cmp r.key key) (always_returns_same _ _ _ (λ a r f q. search (rules, of_calls))) rising in
    let inside : k < length c.as_slice-rows.result.now = subst (λ (l : List KeyRow). k < length l) (sym held) lt in
    let same' : (get_or c.as_slice-rows.result.now k d).key ≡ key = ap (λ (l : List KeyRow). (get_or l k d).key) held ∙ same in
    elim (cases_lt k place) [
      | inl below ↦ not_below (get_or rows k d).key key (point.0 k d (omega arith) below) same'
      | inr from ↦ not_above (get_or rows k d).key key (point.1 k d from inside) same'
    ]
