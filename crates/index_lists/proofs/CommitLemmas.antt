-- What the lists are after a change that was made.
use Rattle.std.proofs.Common.{◌≡◌, ℕ, zero, suc, ◌+◌, ◌-◌, ◌<◌, ◌≤◌, ◌&&◌, ◌||◌, Bool, true, false, cond, not, nat_eq, List, [], ◌∷◌, length, get_or, Some, slice_get, inl, inr, if◌then◌else◌, refl, sym, ap, ◌∙◌, subst, ⊎_elim, arith}
use Rattle.std.specs.List.{AllByRecursion, count_by, list_any}
use Rattle.std.specs.List.Sorted.{IsStrictlySortedBy}
use Rattle.std.specs.Ordering.{nat_cmp}
use Rattle.std.proofs.lemmas.Bool.{cases_Bool}
use Rattle.std.proofs.lemmas.Bool.Decides.{nat_tests}
use Rattle.std.proofs.lemmas.List.Sums.{count_by-le-length}
use Rattle.tsdb_types.specs.Series.{IsSeriesText}
use Rattle.index_lists.specs.declared.change.IndexChange.{IndexChange}
use Rattle.index_lists.specs.declared.term.Term.{Term}
use Rattle.index_lists.specs.declared.term.Term.TheVariants.{Field}
use Rattle.index_lists.specs.Listing.{AreIdsOf, Holds, IsKnown, Listed, Listing, Puts, Takes, is_listed}
use Rattle.index_lists.specs.Making.{Adds, IsThere, Removes, first_of, others_of}
use Rattle.index_lists.specs.Pairs.{Agrees, IsAlone, Pair, after, is_in, is_same, pair_of, with_pair, without_pair}
use Rattle.index_lists.specs.Ready.{IsReady, Prepared}
use Rattle.index_lists.specs.Steps.{Times}
use Rattle.index_lists.specs.Terms.{is_field, is_of, measurement_of, series_terms, terms_of}
use Rattle.index_lists.proofs.PairLemmas.{In, added, all_filter, all_from, all_in, any_in, both_ways, fewer, filter_in, in_any, in_filter, nat_same, not_false, picks, removed_field, removed_last, removed_other, removed_some, same_nat, same_parts, same_truth, some_counted}
use Rattle.index_lists.proofs.StepLemmas.{bit, count_cons}
use Rattle.index_lists.proofs.TermLemmas.{Apart, counted_at, in_of, not_counted, of_in, series_plain, wanted_at}
use Rattle.index_lists.proofs.HoldLemmas.{FirstPlace, agree_less, agree_more, alone_less, alone_more, and_false, and_true, counts_less, counts_more, first_place, give_ids, length_less, once_more, one_less, put_sorted, put_times, take_sorted, take_times, there_is}

some_put : (id n : ℕ) (old new : Listed) → 0 < n → Times (Puts id) n old new → (other : ℕ) → is_listed new.ids other ≡ (nat_eq other id || is_listed old.ids other)
some_put id zero old new some t other = absurd (omega (arith, some))
some_put id (suc n) old new some t other = put_times id n old new t other

some_take : (id n : ℕ) (old new : Listed) → 0 < n → Times (Takes id) n old new → (other : ℕ) → is_listed new.ids other ≡ (is_listed old.ids other && not (nat_eq other id))
some_take id zero old new some t other = absurd (omega (arith, some))
some_take id (suc n) old new some t other = take_times id n old new t other

no_steps : (Step : Listed → Listed → Type 0) (n : ℕ) (old new : Listed) → n ≡ 0 → Times Step n old new → new ≡ old
no_steps Step n old new none t = subst (λ (k : ℕ). Times Step k old new) none t

module _ (pairs : List Pair) (old new : Listing) (prepared : Prepared) (holds : Holds pairs old) (agree : Agrees pairs (pair_of prepared.change)) (ready : IsReady old prepared)
    (apart : Apart old.terms) (long : length old.terms ≡ length old.lists) where
  abbrev pair : Pair
  pair = pair_of prepared.change

  abbrev own : List Term
  own = terms_of pair.series pair.field

  first : FirstPlace old.terms pair.series pair.field prepared.places
  first = first_place old.terms pair.series pair.field prepared.places ready.terms

  pair_known : (term : Term) → is_of term pair.series pair.field ≡ true → IsKnown old.terms term
  pair_known term of = let w = wanted_at old.terms own prepared.places term ready.terms (of_in term pair.series pair.field of) in (w.0, w.2)

  known_new : new.terms ≡ old.terms → (p : Pair) → ((term : Term) → is_of term p.series p.field ≡ true → IsKnown old.terms term) → (term : Term) → is_of term p.series p.field ≡ true → IsKnown new.terms term
  known_new same p known term of = subst (λ (ts : List Term). IsKnown ts term) (sym same) (known term of)

  -- where the first list has the id, its fields and the pairs are counted
  pub some_left : IsThere prepared.change.id prepared.places old.lists true → (0 < get_or old.counts prepared.change.id 0) × (0 < old.pairs)
  some_left there =
      let e = there_is pairs pair agree old prepared.places true holds long there first in
      let o = any_in (is_same pair) pairs (sym e) in
      let some = some_counted (λ (x : Pair). nat_eq pair.id x.id) pairs o.0 o.1 (nat_same pair.id o.0.id (same_parts pair o.0 o.2).0) in
      let counted = holds.counted pair.id in
      let all = holds.all in
      let few = count_by-le-length (λ (x : Pair). nat_eq pair.id x.id) pairs in
      (omega (arith, some, counted), omega (arith, some, few, all))

  -- ---- a pair more

  module _ (adds : Adds prepared.change.id prepared.places old new) where
    there_in : adds.there ≡ is_in pairs pair
    there_in = there_is pairs pair agree old prepared.places adds.there holds long adds.was first

    put_told : (place : ℕ) (term : Term) (listed : Listed) → slice_get new.terms place ≡ Some term → slice_get new.lists place ≡ Some listed → AreIdsOf (is_of term) (with_pair pair pairs) listed.ids
    put_told place term listed at_term at_list =
        let at = ap (λ (ts : List Term). slice_get ts place) (sym adds.terms) ∙ at_term in
        let was = adds.lists place listed at_list in
        let before = holds.told place term was.0 at was.1 in
        record {
          ascending = put_sorted pair.id (count_by (nat_eq place) prepared.places) was.0 listed was.2 before.ascending;
          has = λ id. ⊎_elim (yes at was.0 was.2 before.has id) (no at was.0 was.2 before.has id) (cases_Bool (is_of term pair.series pair.field)) ∙ sym (added pairs pair agree id term);
        }
      where
        yes : slice_get old.terms place ≡ Some term → (was : Listed) → Times (Puts pair.id) (count_by (nat_eq place) prepared.places) was listed → ((id : ℕ) → is_listed was.ids id ≡ list_any (picks id term) pairs) → (id : ℕ) → is_of term pair.series pair.field ≡ true
            → is_listed listed.ids id ≡ ((nat_eq id pair.id && is_of term pair.series pair.field) || list_any (picks id term) pairs)
        yes at was t has id of =
            some_put pair.id (count_by (nat_eq place) prepared.places) was listed (counted_at old.terms own prepared.places place term apart ready.terms at (of_in term pair.series pair.field of)) t id
            ∙ ap (λ (b : Bool). nat_eq id pair.id || b) (has id)
            ∙ ap (λ (b : Bool). b || list_any (picks id term) pairs) (sym (ap (λ (b : Bool). nat_eq id pair.id && b) of ∙ and_true (nat_eq id pair.id)))

        no : slice_get old.terms place ≡ Some term → (was : Listed) → Times (Puts pair.id) (count_by (nat_eq place) prepared.places) was listed → ((id : ℕ) → is_listed was.ids id ≡ list_any (picks id term) pairs) → (id : ℕ) → is_of term pair.series pair.field ≡ false
            → is_listed listed.ids id ≡ ((nat_eq id pair.id && is_of term pair.series pair.field) || list_any (picks id term) pairs)
        no at was t has id not_of =
            let none = not_counted old.terms own prepared.places place term ready.terms at (λ m. both_ways (in_of term pair.series pair.field m) not_of) in
            ap (λ (l : Listed). is_listed l.ids id) (no_steps (Puts pair.id) (count_by (nat_eq place) prepared.places) was listed none t) ∙ has id
            ∙ ap (λ (b : Bool). b || list_any (picks id term) pairs) (sym (ap (λ (b : Bool). nat_eq id pair.id && b) not_of ∙ and_false (nat_eq id pair.id)))

    pub add_holds : IsAlone pairs pair → Holds (with_pair pair pairs) new
    add_holds alone = record {
      told = put_told;
      known = by_in (λ ps. AllByRecursion (λ (p : Pair). (term : Term) → is_of term p.series p.field ≡ true → IsKnown new.terms term) ps)
          (λ _. old_known)
          (λ _. (known_new adds.terms pair pair_known, old_known));
      counted = λ id. by_in (λ ps. get_or new.counts id 0 ≡ count_by (λ (p : Pair). nat_eq id p.id) ps)
          (λ e. ap (λ (c : List ℕ). get_or c id 0) (adds.counts ∙ if_is adds.there true old.counts _ (there_in ∙ e)) ∙ holds.counted id)
          (λ e. counts_more pairs pair agree old.counts new.counts ready.counted (adds.counts ∙ if_not adds.there false old.counts _ (there_in ∙ e)) holds.counted id);
      all = by_in (λ ps. new.pairs ≡ length ps)
          (λ e. adds.pairs ∙ if_is_n adds.there old.pairs (old.pairs + 1) (there_in ∙ e) ∙ holds.all)
          (λ e. adds.pairs ∙ if_not_n adds.there old.pairs (old.pairs + 1) (there_in ∙ e) ∙ (let h = holds.all in omega (arith, h)));
      once = by_in (λ ps. (p : Pair) → count_by (is_same p) ps ≤ 1) (λ _. holds.once) (λ e. once_more pairs pair agree holds.once e);
      agree = by_in (λ ps. AllByRecursion (Agrees ps) ps) (λ _. holds.agree) (λ _. agree_more pairs pair agree holds.agree);
      alone = by_in (λ ps. AllByRecursion (IsAlone ps) ps) (λ _. holds.alone) (λ _. alone_more pairs pair agree alone holds.alone);
      texts = by_in (λ ps. AllByRecursion (λ (p : Pair). IsSeriesText p.series) ps) (λ _. holds.texts) (λ _. (ready.text, holds.texts));
    }
      where
        by_in : (P : List Pair → Type 0) → (is_in pairs pair ≡ true → P pairs) → (is_in pairs pair ≡ false → P (pair ∷ pairs)) → P (with_pair pair pairs)
        by_in P f g = by (is_in pairs pair) refl
          where
            by : (b : Bool) → is_in pairs pair ≡ b → P (if b then pairs else pair ∷ pairs)
            by true e = f e
            by false e = g e

        old_known : AllByRecursion (λ (p : Pair). (term : Term) → is_of term p.series p.field ≡ true → IsKnown new.terms term) pairs
        old_known = all_from (λ (p : Pair). (term : Term) → is_of term p.series p.field ≡ true → IsKnown new.terms term) pairs
            (λ p m. known_new adds.terms p (all_in (λ (p : Pair). (term : Term) → is_of term p.series p.field ≡ true → IsKnown old.terms term) pairs p holds.known m))

        if_is : (b t : Bool) (x y : List ℕ) → b ≡ true → (if b then x else y) ≡ x
        if_is b t x y e = ap (λ (c : Bool). if c then x else y) e

        if_not : (b t : Bool) (x y : List ℕ) → b ≡ false → (if b then x else y) ≡ y
        if_not b t x y e = ap (λ (c : Bool). if c then x else y) e

        if_is_n : (b : Bool) (x y : ℕ) → b ≡ true → (if b then x else y) ≡ x
        if_is_n b x y e = ap (λ (c : Bool). if c then x else y) e

        if_not_n : (b : Bool) (x y : ℕ) → b ≡ false → (if b then x else y) ≡ y
        if_not_n b x y e = ap (λ (c : Bool). if c then x else y) e

  -- ---- a pair less

  module _ (removes : Removes prepared.change.id prepared.places old new) where
    there_out : removes.there ≡ is_in pairs pair
    there_out = there_is pairs pair agree old prepared.places removes.there holds long removes.was first

    -- the places whose lists lose the id beside the first
    abbrev lost : List ℕ
    lost = if removes.there then (if nat_eq (get_or old.counts prepared.change.id 0) 1 then others_of prepared.places else []) else []

    first_is : first_of prepared.places ≡ first.place ∷ []
    first_is = ap first_of first.parts

    others_are : others_of prepared.places ≡ first.others
    others_are = ap others_of first.parts

    -- what a list was, and by how many steps
    record Was (place : ℕ) (listed : Listed) : Type 0 where
      was : Listed
      at : slice_get old.lists place ≡ Some was
      mid : Listed
      given : Listed
      taken : Times (Takes pair.id) (count_by (nat_eq place) (first_of prepared.places)) was mid
      same : given.ids ≡ mid.ids
      more : Times (Takes pair.id) (count_by (nat_eq place) lost) given listed

    was_of : (place : ℕ) (listed : Listed) → slice_get new.lists place ≡ Some listed → Was place listed
    was_of place listed at =
        let g = removes.others place listed at in
        let m = removes.gives place g.0 g.1 in
        let w = removes.field place m.0 m.1 in
        record { was = w.0; at = w.1; mid = m.0; given = g.0; taken = w.2; same = give_ids (count_by (nat_eq place) prepared.places) m.0 g.0 m.2; more = g.2 }

    one_place : (place : ℕ) → place ≡ first.place → 0 < count_by (nat_eq place) (first_of prepared.places)
    one_place place e =
        let c = count_cons (nat_eq place) first.place [] in
        let one : bit (nat_eq place first.place) ≡ 1 = ap bit (nat_same place first.place e) in
        let is = ap (λ (ps : List ℕ). count_by (nat_eq place) ps) first_is in
        omega (arith, c, one, is)

    other_place : (place : ℕ) → (place ≡ first.place → ⊥) → count_by (nat_eq place) (first_of prepared.places) ≡ 0
    other_place place f =
        let c = count_cons (nat_eq place) first.place [] in
        let none : bit (nat_eq place first.place) ≡ 0 = ap bit (not_false (nat_eq place first.place) (λ e. f (same_nat place first.place e))) in
        let is = ap (λ (ps : List ℕ). count_by (nat_eq place) ps) first_is in
        omega (arith, c, none, is)

    is_the : (place : ℕ) (term : Term) → slice_get old.terms place ≡ Some term → place ≡ first.place → term ≡ Field (measurement_of pair.series) pair.field
    is_the place term at e = some_is (sym at ∙ ap (slice_get old.terms) e ∙ first.field)
      where
        some_is : {x y : Term} → Some x ≡ Some y → x ≡ y
        some_is e = cc e

    field_of : is_of (Field (measurement_of pair.series) pair.field) pair.series pair.field ≡ true
    field_of = in_of (Field (measurement_of pair.series) pair.field) pair.series pair.field (inl refl)

    is_own_field : (term : Term) → is_field term ≡ true → is_of term pair.series pair.field ≡ true → Field (measurement_of pair.series) pair.field ≡ term
    is_own_field term field of = by (of_in term pair.series pair.field of)
      where
        by : In own term → Field (measurement_of pair.series) pair.field ≡ term
        by (inl e) = e
        by (inr m) = absurd (both_ways field (series_plain pair.series term m))

    absent_stays : is_in pairs pair ≡ false → (id : ℕ) (term : Term) → list_any (picks id term) (without_pair pair pairs) ≡ list_any (picks id term) pairs
    absent_stays none id term = same_truth (list_any (picks id term) (without_pair pair pairs)) (list_any (picks id term) pairs)
        (λ a. let o = any_in (picks id term) (without_pair pair pairs) a in in_any (picks id term) pairs o.0 (filter_in (λ other. not (is_same pair other)) pairs o.0 o.1).0 o.2)
        (λ a.
        let o = any_in (picks id term) pairs a in
        in_any (picks id term) (without_pair pair pairs) o.0 (in_filter (λ other. not (is_same pair other)) pairs o.0 o.1 (ap not (not_false (is_same pair o.0) (λ e. both_ways (in_any (is_same pair) pairs o.0 o.1 e) none)))) o.2)

    lost_none : removes.there ≡ false → (place : ℕ) → count_by (nat_eq place) lost ≡ 0
    lost_none e place = ap (λ (b : Bool). count_by (nat_eq place) (if b then (if nat_eq (get_or old.counts prepared.change.id 0) 1 then others_of prepared.places else []) else [])) e

    lost_some : (b : Bool) → removes.there ≡ true → nat_eq (get_or old.counts prepared.change.id 0) 1 ≡ b → lost ≡ (if b then first.others else [])
    lost_some b e f =
        ap (λ (c : Bool). if c then (if nat_eq (get_or old.counts prepared.change.id 0) 1 then others_of prepared.places else []) else []) e
        ∙ ap (λ (c : Bool). if c then others_of prepared.places else []) f ∙ ap (λ (ps : List ℕ). if b then ps else []) others_are

    -- the lists of terms beside the first that name no place that is lost
    lost_other : (place : ℕ) (term : Term) → slice_get old.terms place ≡ Some term → (In (series_terms pair.series) term → ⊥) → count_by (nat_eq place) lost ≡ 0
    lost_other place term at none = ⊎_elim
        (λ (e : removes.there ≡ true). ⊎_elim
        (λ (f : nat_eq (get_or old.counts prepared.change.id 0) 1 ≡ true).
        ap (λ (ps : List ℕ). count_by (nat_eq place) ps) (lost_some true e f) ∙ not_counted old.terms (series_terms pair.series) first.others place term first.behind at none)
        (λ (f : nat_eq (get_or old.counts prepared.change.id 0) 1 ≡ false). ap (λ (ps : List ℕ). count_by (nat_eq place) ps) (lost_some false e f))
        (cases_Bool (nat_eq (get_or old.counts prepared.change.id 0) 1)))
        (λ (e : removes.there ≡ false). lost_none e place)
        (cases_Bool removes.there)

    take_told : (place : ℕ) (term : Term) (listed : Listed) → slice_get new.terms place ≡ Some term → slice_get new.lists place ≡ Some listed → AreIdsOf (is_of term) (without_pair pair pairs) listed.ids
    take_told place term listed at_term at_list =
        let at = ap (λ (ts : List Term). slice_get ts place) (sym removes.terms) ∙ at_term in
        let w = was_of place listed at_list in
        let before = holds.told place term w.was at w.at in
        record {
          ascending = take_sorted pair.id (count_by (nat_eq place) lost) w.given listed w.more
              (subst (IsStrictlySortedBy nat_cmp) (sym w.same) (take_sorted pair.id (count_by (nat_eq place) (first_of prepared.places)) w.was w.mid w.taken before.ascending));
          has = λ id. ⊎_elim
              (λ (of : is_of term pair.series pair.field ≡ true). ⊎_elim (field_told at w before.has id of) (plain_told at w before.has id of) (cases_Bool (is_field term)))
              (other_told at w before.has id)
              (cases_Bool (is_of term pair.series pair.field));
        }
      where
        stays : (w : Was place listed) → count_by (nat_eq place) (first_of prepared.places) ≡ 0 → count_by (nat_eq place) lost ≡ 0 → (id : ℕ) → is_listed listed.ids id ≡ is_listed w.was.ids id
        stays w none none' id =
            ap (λ (l : Listed). is_listed l.ids id) (no_steps (Takes pair.id) (count_by (nat_eq place) lost) w.given listed none' w.more)
            ∙ ap (λ (l : List ℕ). is_listed l id) w.same
            ∙ ap (λ (l : Listed). is_listed l.ids id) (no_steps (Takes pair.id) (count_by (nat_eq place) (first_of prepared.places)) w.was w.mid none w.taken)

        field_told : slice_get old.terms place ≡ Some term → (w : Was place listed) → ((id : ℕ) → is_listed w.was.ids id ≡ list_any (picks id term) pairs) → (id : ℕ) → is_of term pair.series pair.field ≡ true → is_field term ≡ true
            → is_listed listed.ids id ≡ list_any (picks id term) (without_pair pair pairs)
        field_told at w has id of field =
            let is = apart place first.place term at (first.field ∙ ap (λ (t : Term). Some t) (is_own_field term field of)) in
            let none = lost_other place term at (λ m. both_ways field (series_plain pair.series term m)) in
            ap (λ (l : Listed). is_listed l.ids id) (no_steps (Takes pair.id) (count_by (nat_eq place) lost) w.given listed none w.more)
            ∙ ap (λ (l : List ℕ). is_listed l id) w.same
            ∙ some_take pair.id (count_by (nat_eq place) (first_of prepared.places)) w.was w.mid (one_place place is) w.taken id
            ∙ ap (λ (b : Bool). b && not (nat_eq id pair.id)) (has id)
            ∙ sym (removed_field pairs pair agree id term field of)

        other_told : slice_get old.terms place ≡ Some term → (w : Was place listed) → ((id : ℕ) → is_listed w.was.ids id ≡ list_any (picks id term) pairs) → (id : ℕ) → is_of term pair.series pair.field ≡ false
            → is_listed listed.ids id ≡ list_any (picks id term) (without_pair pair pairs)
        other_told at w has id not_of =
            stays w
            (other_place place (λ e. both_ways (ap (λ (t : Term). is_of t pair.series pair.field) (is_the place term at e) ∙ field_of) not_of))
            (lost_other place term at (λ m. both_ways (in_of term pair.series pair.field (inr m)) not_of)) id
            ∙ has id ∙ sym (removed_other pairs pair agree id term not_of)

        plain_told : slice_get old.terms place ≡ Some term → (w : Was place listed) → ((id : ℕ) → is_listed w.was.ids id ≡ list_any (picks id term) pairs) → (id : ℕ) → is_of term pair.series pair.field ≡ true → is_field term ≡ false
            → is_listed listed.ids id ≡ list_any (picks id term) (without_pair pair pairs)
        plain_told at w has id of plain =
            ⊎_elim
            (λ (e : removes.there ≡ true). ⊎_elim
            (λ (f : nat_eq (get_or old.counts prepared.change.id 0) 1 ≡ true).
            let one = same_nat (get_or old.counts prepared.change.id 0) 1 f in
            let less = one_less pairs pair agree (holds.once pair) (sym there_out ∙ e) in
            let counted = holds.counted pair.id in
            let none : count_by (λ (o : Pair). nat_eq pair.id o.id) (without_pair pair pairs) ≡ 0 = omega (arith, one, less, counted) in
            let some = counted_at old.terms (series_terms pair.series) first.others place term apart first.behind at series in
            let many = ap (λ (ps : List ℕ). count_by (nat_eq place) ps) (lost_some true e f) in
            some_take pair.id (count_by (nat_eq place) lost) w.given listed (omega (arith, some, many)) w.more id
            ∙ ap (λ (b : Bool). b && not (nat_eq id pair.id))
            (ap (λ (l : List ℕ). is_listed l id) w.same ∙ ap (λ (l : Listed). is_listed l.ids id) (no_steps (Takes pair.id) (count_by (nat_eq place) (first_of prepared.places)) w.was w.mid away w.taken) ∙ has id)
            ∙ sym (removed_last pairs pair agree id term none))
            (λ (f : nat_eq (get_or old.counts prepared.change.id 0) 1 ≡ false).
            let less = one_less pairs pair agree (holds.once pair) (sym there_out ∙ e) in
            let counted = holds.counted pair.id in
            let some : 0 < count_by (λ (o : Pair). nat_eq pair.id o.id) (without_pair pair pairs) = more_than f less counted in
            stays w away (ap (λ (ps : List ℕ). count_by (nat_eq place) ps) (lost_some false e f)) id ∙ has id ∙ sym (removed_some pairs pair agree id term plain some))
            (cases_Bool (nat_eq (get_or old.counts prepared.change.id 0) 1)))
            (λ (e : removes.there ≡ false). stays w away (lost_none e place) id ∙ has id ∙ sym (absent_stays (sym there_out ∙ e) id term))
            (cases_Bool removes.there)
          where
            series : In (series_terms pair.series) term
            series = by (of_in term pair.series pair.field of)
              where
                by : In own term → In (series_terms pair.series) term
                by (inl e) = absurd (both_ways (sym (ap is_field e)) plain)
                by (inr m) = m

            away : count_by (nat_eq place) (first_of prepared.places) ≡ 0
            away = other_place place (λ e. both_ways (ap is_field (is_the place term at e)) plain)

            more_than : {c n m : ℕ} → nat_eq c 1 ≡ false → n + 1 ≡ m → c ≡ m → 0 < n
            more_than f less counted = grind (arith, nat_tests, f, less, counted)

    if_is : {X : Type 0} (b : Bool) (x y : X) → b ≡ true → (if b then x else y) ≡ x
    if_is b x y e = ap (λ (c : Bool). if c then x else y) e

    if_not : {X : Type 0} (b : Bool) (x y : X) → b ≡ false → (if b then x else y) ≡ y
    if_not b x y e = ap (λ (c : Bool). if c then x else y) e

    none_same : is_in pairs pair ≡ false → without_pair pair pairs ≡ pairs
    none_same none = stay pairs (λ o m. ap not (not_false (is_same pair o) (λ e. both_ways (in_any (is_same pair) pairs o m e) none)))
      where
        stay : (xs : List Pair) → ((o : Pair) → In xs o → not (is_same pair o) ≡ true) → without_pair pair xs ≡ xs
        stay [] f = refl
        stay (x ∷ xs) f = ap (λ (b : Bool). cond b (x ∷ without_pair pair xs) (without_pair pair xs)) (f x (inl refl)) ∙ ap (λ (l : List Pair). x ∷ l) (stay xs (λ o m. f o (inr m)))

    pub remove_holds : Holds (without_pair pair pairs) new
    remove_holds = record {
      told = take_told;
      known = all_filter (λ (p : Pair). (term : Term) → is_of term p.series p.field ≡ true → IsKnown new.terms term) (λ other. not (is_same pair other)) pairs
          (all_from (λ (p : Pair). (term : Term) → is_of term p.series p.field ≡ true → IsKnown new.terms term) pairs
          (λ p m. known_new removes.terms p (all_in (λ (p : Pair). (term : Term) → is_of term p.series p.field ≡ true → IsKnown old.terms term) pairs p holds.known m)));
      counted = λ id. ⊎_elim
          (λ (e : removes.there ≡ true). counts_less pairs pair agree old.counts new.counts ready.counted (removes.counts ∙ if_is removes.there _ old.counts e) (holds.once pair) (sym there_out ∙ e) holds.counted id)
          (λ (e : removes.there ≡ false).
          ap (λ (c : List ℕ). get_or c id 0) (removes.counts ∙ if_not removes.there _ old.counts e) ∙ holds.counted id ∙ ap (λ (ps : List Pair). count_by (λ (p : Pair). nat_eq id p.id) ps) (sym (none_same (sym there_out ∙ e))))
          (cases_Bool removes.there);
      all = ⊎_elim
          (λ (e : removes.there ≡ true).
          let less = length_less pairs pair agree (holds.once pair) (sym there_out ∙ e) in
          let h = holds.all in
          let n = removes.pairs ∙ if_is removes.there (old.pairs - 1) old.pairs e in
          omega (arith, less, h, n))
          (λ (e : removes.there ≡ false). removes.pairs ∙ if_not removes.there (old.pairs - 1) old.pairs e ∙ holds.all ∙ ap (λ (ps : List Pair). length ps) (sym (none_same (sym there_out ∙ e))))
          (cases_Bool removes.there);
      once = λ p. let f = fewer (is_same p) (λ other. not (is_same pair other)) pairs in let h = holds.once p in omega (arith, f, h);
      agree = agree_less pairs pair agree holds.agree;
      alone = alone_less pairs pair agree holds.alone;
      texts = all_filter (λ (p : Pair). IsSeriesText p.series) (λ other. not (is_same pair other)) pairs holds.texts;
    }

pub after_add : (change : IndexChange) (pairs : List Pair) → change.add ≡ true → with_pair (pair_of change) pairs ≡ after change pairs
after_add change pairs e = sym (ap (λ (b : Bool). if b then with_pair (pair_of change) pairs else without_pair (pair_of change) pairs) e)

pub after_remove : (change : IndexChange) (pairs : List Pair) → change.add ≡ false → without_pair (pair_of change) pairs ≡ after change pairs
after_remove change pairs e = sym (ap (λ (b : Bool). if b then with_pair (pair_of change) pairs else without_pair (pair_of change) pairs) e)
