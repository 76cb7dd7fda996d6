use Rattle.std.proofs.Common.{◌+◌, ◌<◌, ◌||◌, not, nat_eq, List, ℕ, insert, sym, ap, ◌∙◌, subst, arith}
use Rattle.std.specs.List.Sorted.{IsStrictlySortedBy}
use Rattle.std.specs.Ordering.{nat_cmp}
use Rattle.std.specs.Vec.{vec_len, vec_capacity}
use Rattle.index_lists.specs.Listing.{Listed, is_listed}
use Rattle.index_lists.specs.Searching.{IsPlaceFor}
use Rattle.index_lists.proofs.IdLemmas.{none_more, ok_then, put_ascends, put_has}
use Rattle.index_lists.proofs.id_list.IdList.put.Goals as goal

pub invariant_of-self : goal.invariant_of-self
invariant_of-self c =
    let room = ap (λ (l : Listed). l.room) c.self.view_is in
    let some = c.requires in
    let len = c.self.inside.ids.ok.0 in
    let kept = c.self.invariant.1 in
    let spare : vec_len c.self.inside.ids < vec_capacity c.self.inside.ids = omega (arith, room, some, len, kept) in
    let done = c.insert.ensures.items ∙ ok_then c.insert.result (insert c.self.inside.ids.items c.in-Some.place c.args.id) c.self.inside.ids.items (c.insert.ensures.succeeds spare) in
    let longer = c.insert.ensures.len ∙ ok_then c.insert.result (vec_len c.self.inside.ids + 1) (vec_len c.self.inside.ids) (c.insert.ensures.succeeds spare) in
    let len' = c.insert.new.self.ok.0 in
    let cap = c.insert.ensures.capacity in
    let place : IsPlaceFor c.args.id c.in-Some.place c.self.inside.ids.items = subst (IsPlaceFor c.args.id c.in-Some.place) c.deref.ensures.value c.in-Some.ensures.found in (
      subst (IsStrictlySortedBy nat_cmp) (sym done) (put_ascends c.self.inside.ids.items c.in-Some.place c.args.id c.self.invariant.0 place),
      omega (arith, room, some, len, kept, longer, len', cap),
    )

pub returns-in-Some-clause-puts : goal.returns-in-Some-clause-puts
returns-in-Some-clause-puts c =
    let room = ap (λ (l : Listed). l.room) c.self.view_is in
    let ids = ap (λ (l : Listed). l.ids) c.self.view_is in
    let some = c.requires in
    let len = c.self.inside.ids.ok.0 in
    let kept = c.self.invariant.1 in
    let spare : vec_len c.self.inside.ids < vec_capacity c.self.inside.ids = omega (arith, room, some, len, kept) in
    let done = c.insert.ensures.items ∙ ok_then c.insert.result (insert c.self.inside.ids.items c.in-Some.place c.args.id) c.self.inside.ids.items (c.insert.ensures.succeeds spare) in
    let place : IsPlaceFor c.args.id c.in-Some.place c.self.inside.ids.items = subst (IsPlaceFor c.args.id c.in-Some.place) c.deref.ensures.value c.in-Some.ensures.found in
    record {
      has = λ other. ap (λ (l : List ℕ). is_listed l other) done ∙ put_has c.self.inside.ids.items c.in-Some.place c.args.id other place.within ∙ ap (λ (l : List ℕ). nat_eq other c.args.id || is_listed l other) ids;
      ascending = subst (IsStrictlySortedBy nat_cmp) (sym done) (put_ascends c.self.inside.ids.items c.in-Some.place c.args.id c.self.invariant.0 place);
      room = omega (arith, room, some);
    }

pub returns-in-Some-clause-fresh : goal.returns-in-Some-clause-fresh
returns-in-Some-clause-fresh c =
    let ids = ap (λ (l : Listed). l.ids) c.self.view_is in
    sym (ap not (ap (λ (l : List ℕ). is_listed l c.args.id) (sym (c.deref.ensures.value ∙ ids)) ∙ c.in-Some.ensures.lacks))

pub returns-in-None-clause-puts : goal.returns-in-None-clause-puts
returns-in-None-clause-puts c =
    let room = ap (λ (l : Listed). l.room) c.self.view_is in
    let ids = ap (λ (l : Listed). l.ids) c.self.view_is in
    let some = c.requires in
    record {
      has = λ other.
          ap (λ (l : List ℕ). is_listed l other) ids
          ∙ none_more c.args.self.now.ids c.args.id other (ap (λ (l : List ℕ). is_listed l c.args.id) (sym (c.deref.ensures.value ∙ ids)) ∙ c.in-None.ensures.none);
      ascending = c.self.invariant.0;
      room = omega (arith, room, some);
    }
