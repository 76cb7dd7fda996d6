-- The names that terms with series have under a heading, each once and in order.
use Rattle.std.proofs.Common.{◌≡◌, ℕ, zero, suc, ◌+◌, ◌<◌, ◌&&◌, ◌||◌, Bool, true, false, nat_eq, List, [], ◌∷◌, ◌++◌, length, take, Option, None, Some, slice_get, ◌⊎◌, inl, inr, if◌then◌else◌, refl, sym, ap, ◌∙◌, subst, ⊎_elim, arith, append_assoc, append-nil}
use Rattle.std.specs.List.{Contains, dedup, list_any}
use Rattle.std.specs.List.Sorted.{IsPermutation, IsSorted, IsStrictlySortedBy}
use Rattle.std.specs.Ordering.{nat_cmp}
use Rattle.std.specs.Cmp.Lexicographic.{nat_list_cmp_total, nat_list_eq_equiv, pointwise, slice_cmp, texts_ties}
use Rattle.std.specs.Map.{keys_of, values_of}
use Rattle.std.specs.Str.{bytes_eq}
use Rattle.std.proofs.lemmas.List.Kept.{Contains-dedup, Contains-from_dedup, IsStrictlySortedBy-dedup}
use Rattle.std.proofs.lemmas.List.Sorted.{list_any-IsPermutation}
use Rattle.index_lists.specs.declared.heading.Heading.{Heading}
use Rattle.index_lists.specs.declared.heading.Heading.TheVariants as heading
use Rattle.index_lists.specs.declared.term.Term.{Term}
use Rattle.index_lists.specs.declared.term.Term.TheVariants.{Measurement, Field, TagKey, TagValue}
use Rattle.index_lists.specs.Listing.{Holds, IsKnown, Listed, Listing, is_listed}
use Rattle.index_lists.specs.Names.{AreNamesOf, name_under, named, names_at, names_in, term_of}
use Rattle.index_lists.specs.Pairs.{Pair}
use Rattle.index_lists.specs.Terms.{is_of}
use Rattle.index_lists.proofs.PairLemmas.{In, all_in, and_both, and_first, and_second, any_in, both_ways, in_any, nat_same, picks, picks_it, picked, same_text, text_same}
use Rattle.index_lists.proofs.StepLemmas.{Entry}

-- ---- the name of a term, and the term of a name

some_name : (x y : List ℕ) → Some x ≡ Some y → x ≡ y
some_name x y e = cc e

chosen : (b : Bool) (x y : List ℕ) → (if b then Some x else None) ≡ Some y → (b ≡ true) × (x ≡ y)
chosen true x y e = (refl, some_name x y e)
chosen false x y e = absurd cc

pub name_is : (under : Heading) (term : Term) (name : List ℕ) → name_under under term ≡ Some name → term ≡ term_of under name
name_is heading.Measurements (Measurement n) name e = ap Measurement (some_name n name e)
name_is heading.Measurements (Field m n) name e = absurd cc
name_is heading.Measurements (TagKey m n) name e = absurd cc
name_is heading.Measurements (TagValue m k n) name e = absurd cc
name_is (heading.Fields m) (Measurement n) name e = absurd cc
name_is (heading.Fields m) (Field of n) name e = let c = chosen (bytes_eq of m) n name e in λ i. Field (same_text of m c.0 i) (c.1 i)
name_is (heading.Fields m) (TagKey of n) name e = absurd cc
name_is (heading.Fields m) (TagValue of k n) name e = absurd cc
name_is (heading.TagKeys m) (Measurement n) name e = absurd cc
name_is (heading.TagKeys m) (Field of n) name e = absurd cc
name_is (heading.TagKeys m) (TagKey of n) name e = let c = chosen (bytes_eq of m) n name e in λ i. TagKey (same_text of m c.0 i) (c.1 i)
name_is (heading.TagKeys m) (TagValue of k n) name e = absurd cc
name_is (heading.TagValues m key) (Measurement n) name e = absurd cc
name_is (heading.TagValues m key) (Field of n) name e = absurd cc
name_is (heading.TagValues m key) (TagKey of n) name e = absurd cc
name_is (heading.TagValues m key) (TagValue of k n) name e =
    let c = chosen (bytes_eq of m && bytes_eq k key) n name e in
    let is = same_text of m (and_first (bytes_eq of m) (bytes_eq k key) c.0) in
    let its = same_text k key (and_second (bytes_eq of m) (bytes_eq k key) c.0) in
    λ i. TagValue (is i) (its i) (c.1 i)

itself : (t : List ℕ) → bytes_eq t t ≡ true
itself t = text_same t t refl

pub under_is : (under : Heading) (name : List ℕ) → name_under under (term_of under name) ≡ Some name
under_is heading.Measurements name = refl
under_is (heading.Fields m) name = ap (λ (b : Bool). if b then Some name else None) (itself m)
under_is (heading.TagKeys m) name = ap (λ (b : Bool). if b then Some name else None) (itself m)
under_is (heading.TagValues m key) name = ap (λ (b : Bool). if b then Some name else None) (and_both (bytes_eq m m) (bytes_eq key key) (itself m) (itself key))

-- ---- the names in a list of terms with their ids

in_left : (xs ys : List (List ℕ)) (t : List ℕ) → In xs t → In (xs ++ ys) t
in_left [] ys t m = absurd m
in_left (x ∷ xs) ys t m = ⊎_elim (λ (e : x ≡ t). inl e) (λ (n : In xs t). inr (in_left xs ys t n)) m

in_right : (xs ys : List (List ℕ)) (t : List ℕ) → In ys t → In (xs ++ ys) t
in_right [] ys t m = m
in_right (x ∷ xs) ys t m = inr (in_right xs ys t m)

in_either : (xs ys : List (List ℕ)) (t : List ℕ) → In (xs ++ ys) t → In xs t ⊎ In ys t
in_either [] ys t m = inr m
in_either (x ∷ xs) ys t (inl e) = inl (inl e)
in_either (x ∷ xs) ys t (inr n) = ⊎_elim (λ (a : In xs t). inl (inr a)) (λ (b : In ys t). inr b) (in_either xs ys t n)

named_in : (o : Option (List ℕ)) (ids : List ℕ) (name : List ℕ) (id : ℕ) → o ≡ Some name → is_listed ids id ≡ true → In (named o ids) name
named_in None ids name id e listed = absurd cc
named_in (Some n) [] name id e listed = absurd (both_ways listed refl)
named_in (Some n) (x ∷ xs) name id e listed = inl (some_name n name e)

named_by : (o : Option (List ℕ)) (ids : List ℕ) (name : List ℕ) → In (named o ids) name → (o ≡ Some name) × (id : ℕ) × (is_listed ids id ≡ true)
named_by None ids name m = absurd m
named_by (Some n) [] name m = absurd m
named_by (Some n) (x ∷ xs) name (inl e) = (ap (λ (t : List ℕ). Some t) e, x, ap (λ (b : Bool). b || is_listed xs x) (nat_same x x refl))
named_by (Some n) (x ∷ xs) name (inr m) = absurd m

some_term : (x y : Term) → Some x ≡ Some y → x ≡ y
some_term x y e = cc e

some_listed : (x y : Listed) → Some x ≡ Some y → x ≡ y
some_listed x y e = cc e

pub in_names : (under : Heading) (entries : List Entry) (place : ℕ) (term : Term) (listed : Listed) (name : List ℕ) (id : ℕ) → slice_get (keys_of entries) place ≡ Some term → slice_get (values_of entries) place ≡ Some listed
    → name_under under term ≡ Some name → is_listed listed.ids id ≡ true → In (names_in under entries) name
in_names under [] place term listed name id at is e there = absurd cc
in_names under (x ∷ entries) zero term listed name id at is e there =
    in_left (named (name_under under x.0) x.1.ids) (names_in under entries) name
    (named_in (name_under under x.0) x.1.ids name id (ap (name_under under) (some_term x.0 term at) ∙ e) (ap (λ (l : Listed). is_listed l.ids id) (some_listed x.1 listed is) ∙ there))
in_names under (x ∷ entries) (suc place) term listed name id at is e there =
    in_right (named (name_under under x.0) x.1.ids) (names_in under entries) name (in_names under entries place term listed name id at is e there)

-- where a name in the list comes from
pub record Comes (under : Heading) (entries : List Entry) (name : List ℕ) : Type 0 where
  pub place : ℕ
  pub term : Term
  pub listed : Listed
  pub at : slice_get (keys_of entries) place ≡ Some term
  pub is : slice_get (values_of entries) place ≡ Some listed
  pub under_it : name_under under term ≡ Some name
  pub id : ℕ
  pub there : is_listed listed.ids id ≡ true

pub comes_from : (under : Heading) (entries : List Entry) (name : List ℕ) → In (names_in under entries) name → Comes under entries name
comes_from under [] name m = absurd m
comes_from under (x ∷ entries) name m = ⊎_elim
    (λ (here : In (named (name_under under x.0) x.1.ids) name).
    let n = named_by (name_under under x.0) x.1.ids name here in
    record { place = 0; term = x.0; listed = x.1; at = refl; is = refl; under_it = n.0; id = n.1; there = n.2 })
    (λ (later : In (names_in under entries) name).
    let c = comes_from under entries name later in
    record { place = suc c.place; term = c.term; listed = c.listed; at = c.at; is = c.is; under_it = c.under_it; id = c.id; there = c.there })
    (in_either (named (name_under under x.0) x.1.ids) (names_in under entries) name m)

listed_at : (entries : List Entry) (place : ℕ) (term : Term) → slice_get (keys_of entries) place ≡ Some term → (listed : Listed) × (slice_get (values_of entries) place ≡ Some listed)
listed_at [] place term at = absurd cc
listed_at (x ∷ entries) zero term at = (x.1, refl)
listed_at (x ∷ entries) (suc place) term at = listed_at entries place term at

-- ---- lists that are sorted and hold nothing twice

contains_in : (xs : List (List ℕ)) (x : List ℕ) → Contains xs x → In xs x
contains_in [] x c = absurd (let less = c.1 in omega (arith, less))
contains_in (y ∷ ys) x (zero, less, is) = inl is
contains_in (y ∷ ys) x (suc k, less, is) = inr (contains_in ys x (k, omega (arith, less), is))

in_contains : (xs : List (List ℕ)) (x : List ℕ) → In xs x → Contains xs x
in_contains [] x m = absurd m
in_contains (y ∷ ys) x (inl e) = (0, omega arith, e)
in_contains (y ∷ ys) x (inr n) = let c = in_contains ys x n in let less = c.1 in (suc c.0, omega (arith, less), c.2)

moved : (xs ys : List (List ℕ)) (x : List ℕ) → IsPermutation xs ys → In xs x → In ys x
moved xs ys x same m =
    let o = any_in (bytes_eq x) ys (sym (list_any-IsPermutation (bytes_eq x) xs ys same) ∙ in_any (bytes_eq x) xs x m (itself x)) in
    subst (In ys) (sym (same_text x o.0 o.2)) o.1

moved_back : (xs ys : List (List ℕ)) (x : List ℕ) → IsPermutation xs ys → In ys x → In xs x
moved_back xs ys x same m =
    let o = any_in (bytes_eq x) xs (list_any-IsPermutation (bytes_eq x) xs ys same ∙ in_any (bytes_eq x) ys x m (itself x)) in
    subst (In xs) (sym (same_text x o.0 o.2)) o.1

-- the names of an index, from those of its terms
pub listing_names : (under : Heading) (pairs : List Pair) (entries : List Entry) (listing : Listing) (sorted names : List (List ℕ)) → Holds pairs listing → listing.terms ≡ keys_of entries → listing.lists ≡ values_of entries
    → IsPermutation (names_in under entries) sorted → IsSorted (slice_cmp nat_cmp) sorted → names ≡ dedup (pointwise nat_eq) sorted → AreNamesOf under pairs names
listing_names under pairs entries listing sorted names holds terms lists same ordered e = record {
  ascending = subst (IsStrictlySortedBy (slice_cmp nat_cmp)) (sym e) (IsStrictlySortedBy-dedup nat_list_cmp_total texts_ties sorted ordered);
  has = λ name. (there name, back name);
}
  where
    of_it : List ℕ → Pair → Bool
    of_it name pair = is_of (term_of under name) pair.series pair.field

    there : (name : List ℕ) → Contains names name → list_any (of_it name) pairs ≡ true
    there name c =
        let kept = contains_in sorted name (Contains-from_dedup (pointwise nat_eq) sorted name (subst (λ (l : List (List ℕ)). Contains l name) e c)) in
        let from = comes_from under entries name (moved_back (names_in under entries) sorted name same kept) in
        let told = holds.told from.place from.term from.listed (ap (λ (l : List Term). slice_get l from.place) terms ∙ from.at) (ap (λ (l : List Listed). slice_get l from.place) lists ∙ from.is) in
        let o = any_in (picks from.id from.term) pairs (sym (told.has from.id) ∙ from.there) in
        in_any (of_it name) pairs o.0 o.1 (ap (λ (t : Term). is_of t o.0.series o.0.field) (sym (name_is under from.term name from.under_it)) ∙ (picked from.id from.term o.0 o.2).1)

    back : (name : List ℕ) → list_any (of_it name) pairs ≡ true → Contains names name
    back name some =
        let o = any_in (of_it name) pairs some in
        let term = term_of under name in
        let known = all_in (λ (p : Pair). (t : Term) → is_of t p.series p.field ≡ true → IsKnown listing.terms t) pairs o.0 holds.known o.1 term o.2 in
        let at = ap (λ (l : List Term). slice_get l known.0) (sym terms) ∙ known.1 in
        let listed = listed_at entries known.0 term at in
        let told = holds.told known.0 term listed.0 known.1 (ap (λ (l : List Listed). slice_get l known.0) lists ∙ listed.1) in
        let has = told.has o.0.id ∙ in_any (picks o.0.id term) pairs o.0 o.1 (picks_it o.0.id term o.0 refl o.2) in
        let first = in_names under entries known.0 term listed.0 name o.0.id at listed.1 (under_is under name) has in
        subst (λ (l : List (List ℕ)). Contains l name) (sym e)
        (Contains-dedup nat_list_eq_equiv (λ x y same. same_text x y same) sorted name (in_contains sorted name (moved (names_in under entries) sorted name same first)))

-- ---- the names so far

next_more : (under : Heading) (entries : List Entry) (place : ℕ) → place < length entries → names_in under (take (suc place) entries) ≡ names_in under (take place entries) ++ names_at under (slice_get entries place)
next_more under [] place less = absurd (omega (arith, less))
next_more under (x ∷ entries) zero less = append-nil (named (name_under under x.0) x.1.ids)
next_more under (x ∷ entries) (suc place) less =
    ap (λ (l : List (List ℕ)). named (name_under under x.0) x.1.ids ++ l) (next_more under entries place (omega (arith, less)))
    ∙ sym (append_assoc (named (name_under under x.0) x.1.ids) (names_in under (take place entries)) (names_at under (slice_get entries place)))

pub one_more : (under : Heading) (entries : List Entry) (place : ℕ) → place < length entries → names_in under (take (place + 1) entries) ≡ names_in under (take place entries) ++ names_at under (slice_get entries place)
one_more under entries place less =
    let next : place + 1 ≡ suc place = omega arith in
    ap (λ (n : ℕ). names_in under (take n entries)) next ∙ next_more under entries place less

-- ---- the name at one place

named_nothing : (o : Option (List ℕ)) → named o [] ≡ []
named_nothing None = refl
named_nothing (Some n) = refl

pub names_nowhere : (under : Heading) (o : Option (Term × Listed)) → o ≡ None → names_at under o ≡ []
names_nowhere under o e = ap (names_at under) e

pub names_empty : (under : Heading) (o : Option (Term × Listed)) (term : Term) (listed : Listed) → o ≡ Some (term, listed) → length listed.ids ≡ 0 → names_at under o ≡ []
names_empty under o term listed e none = ap (names_at under) e ∙ by listed.ids none
  where
    by : (ids : List ℕ) → length ids ≡ 0 → named (name_under under term) ids ≡ []
    by [] none = named_nothing (name_under under term)
    by (x ∷ ids) none = absurd (omega (arith, none))

pub names_other : (under : Heading) (o : Option (Term × Listed)) (term : Term) (listed : Listed) → o ≡ Some (term, listed) → name_under under term ≡ None → names_at under o ≡ []
names_other under o term listed e none = ap (names_at under) e ∙ ap (λ (n : Option (List ℕ)). named n listed.ids) none

pub names_one : (under : Heading) (o : Option (Term × Listed)) (term : Term) (listed : Listed) (name : List ℕ) → o ≡ Some (term, listed) → name_under under term ≡ Some name → 0 < length listed.ids → names_at under o ≡ name ∷ []
names_one under o term listed name e is some = ap (names_at under) e ∙ ap (λ (n : Option (List ℕ)). named n listed.ids) is ∙ by listed.ids some
  where
    by : (ids : List ℕ) → 0 < length ids → named (Some name) ids ≡ name ∷ []
    by [] some = absurd (omega (arith, some))
    by (x ∷ ids) some = refl
