use Rattle.std.proofs.Common.{◌&&◌, not, nat_eq, List, ℕ, Ok, Err, sym, ap, ◌∙◌, subst, refl, arith}
use Rattle.std.specs.List.Sorted.{IsBinarySearchResult, IsStrictlySortedBy}
use Rattle.std.specs.Ordering.{nat_cmp}
use Rattle.index_lists.specs.Listing.{Listed, is_listed}
use Rattle.index_lists.proofs.IdLemmas.{found_at, found_there, none_less, not_found, taken_ascends, taken_has}
use Rattle.index_lists.proofs.id_list.IdList.take.Goals as goal

pub invariant_of-self : goal.invariant_of-self
invariant_of-self c =
    let len = c.self.inside.ids.ok.0 in
    let kept = c.self.invariant.1 in
    let shorter = c.remove.ensures.len in
    let len' = c.remove.new.self.ok.0 in
    let cap = c.remove.ensures.capacity in (
      subst (IsStrictlySortedBy nat_cmp) (sym c.remove.ensures.items) (taken_ascends c.self.inside.ids.items c.in-Ok.place c.self.invariant.0),
      omega (arith, len, kept, shorter, len', cap),
    )

pub returns-in-Ok-clause-takes : goal.returns-in-Ok-clause-takes
returns-in-Ok-clause-takes c =
    let view = ap (λ (l : Listed). l.ids) c.self.view_is in
    let ids = c.self.inside.ids.items in
    let found = found_at ids c.args.id c.in-Ok.place c.self.invariant.0 (subst (λ (l : List ℕ). IsBinarySearchResult (λ y. nat_cmp y c.args.id) l (Ok c.in-Ok.place)) c.deref.ensures.value c.in-Ok.ensures.position) in
    record {
      has = λ other.
          ap (λ (l : List ℕ). is_listed l other) c.remove.ensures.items
          ∙ taken_has ids c.in-Ok.place other c.self.invariant.0 found.0
          ∙ ap (λ (x : ℕ). is_listed ids other && not (nat_eq other x)) found.1
          ∙ ap (λ (l : List ℕ). is_listed l other && not (nat_eq other c.args.id)) view;
      ascending = subst (IsStrictlySortedBy nat_cmp) (sym c.remove.ensures.items) (taken_ascends ids c.in-Ok.place c.self.invariant.0);
      room = ap (λ (l : Listed). l.room) c.self.view_is;
    }

pub returns-in-Ok-clause-was : goal.returns-in-Ok-clause-was
returns-in-Ok-clause-was c =
    let view = ap (λ (l : Listed). l.ids) c.self.view_is in
    sym (ap (λ (l : List ℕ). is_listed l c.args.id) (sym view) ∙ found_there c.self.inside.ids.items c.args.id c.in-Ok.place c.self.invariant.0 (subst (λ (l : List ℕ). IsBinarySearchResult (λ y. nat_cmp y c.args.id) l (Ok c.in-Ok.place)) c.deref.ensures.value c.in-Ok.ensures.position))

pub returns-in-Err-clause-takes : goal.returns-in-Err-clause-takes
returns-in-Err-clause-takes c =
    let view = ap (λ (l : Listed). l.ids) c.self.view_is in
    let ids = c.self.inside.ids.items in
    let none = not_found ids c.args.id c.in-Err.field-0 c.self.invariant.0 (subst (λ (l : List ℕ). IsBinarySearchResult (λ y. nat_cmp y c.args.id) l (Err c.in-Err.field-0)) c.deref.ensures.value c.in-Err.ensures.position) in
    record {
      has = λ other. none_less c.args.self.now.ids c.args.id other (ap (λ (l : List ℕ). is_listed l c.args.id) (sym view) ∙ none.0);
      ascending = subst (IsStrictlySortedBy nat_cmp) view c.self.invariant.0;
      room = refl;
    }

pub returns-in-Err-clause-was : goal.returns-in-Err-clause-was
returns-in-Err-clause-was c =
    let view = ap (λ (l : Listed). l.ids) c.self.view_is in
    let ids = c.self.inside.ids.items in
    let none = not_found ids c.args.id c.in-Err.field-0 c.self.invariant.0 (subst (λ (l : List ℕ). IsBinarySearchResult (λ y. nat_cmp y c.args.id) l (Err c.in-Err.field-0)) c.deref.ensures.value c.in-Err.ensures.position) in
    sym (ap (λ (l : List ℕ). is_listed l c.args.id) (sym view) ∙ none.0)
