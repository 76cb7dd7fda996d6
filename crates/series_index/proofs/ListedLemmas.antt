-- Which of a measurement's ids a term lists.
use Rattle.std.proofs.Common.{◌≡◌, ◌≢◌, ◌↔◌, ℕ, zero, suc, ◌<◌, ◌≤◌, ◌&&◌, ◌||◌, Bool, true, false, not, nat_eq, List, [], ◌∷◌, length, Contains, IsTrue, Vec, Global, Result, Ok, Err, IfOk, ◌⊎◌, inl, inr, if◌then◌else◌, refl, sym, ap, ◌∙◌, subst, arith}
use Rattle.std.specs.List.{AllByRecursion, filter, list_any}
use Rattle.std.specs.List.Sorted.{IsStrictlySortedBy}
use Rattle.std.specs.Ordering.{nat_cmp, is_le, is_lt}
use Rattle.std.specs.Str.{bytes_eq}
use Rattle.std.specs.declared.alloc.AllocError.{AllocError}
use Rattle.std.specs.declared.cmp.Ordering.TheVariants.{Less}
use Rattle.std.proofs.lemmas.Bool.{false≢true}
use Rattle.std.proofs.lemmas.Cmp.{nat_cmp_total, tied_itself}
use Rattle.std.proofs.lemmas.List.Kept.{IsStrictlySortedBy-filter}
use Rattle.std.proofs.lemmas.Map.Keys.{le_from_is_le}
use Rattle.tsdb_types.specs.Names.{IsName}
use Rattle.tsdb_types.specs.Series.{IsSeriesText}
use Rattle.point_model.specs.Conditions.{Condition, True, Ne, meets}
use Rattle.point_model.specs.Tags.{tag_text, tags_in}
use Rattle.index_lists.specs.declared.term.Term.TheVariants.{Measurement, TagKey, TagValue}
use Rattle.index_lists.specs.Listing.{AreIdsOf, Holds, Listing}
use Rattle.index_lists.specs.Pairs.{Agrees, Pair, is_in, is_same}
use Rattle.index_lists.specs.Terms.{has_key, has_value, is_of, measurement_of}
use Rattle.index_lists.proofs.PairLemmas.{In, all_from, all_in, and_both, and_first, and_second, any_in, in_any, both_ways, nat_same, not_false, same_nat, same_text, same_truth, text_same}
use Rattle.series_index.specs.Index.{is_match}
use Rattle.series_index.specs.Matching.{Told, has, ids_with, matching, series_in}
use Rattle.series_index.proofs.FilterLemmas.{all_have, all_map, filter_same, has_picked, without_picked}
use Rattle.series_index.proofs.TagLemmas.{lacks_tag, no_name, tag_is}

-- ---- ascending ids that are the same ids are one list

is_less : (x y : ℕ) → nat_cmp x y ≡ Less → x < y
is_less x y is = by (le_from_is_le x y (ap is_le is))
  where
    apart : x ≡ y → ⊥
    apart e = false≢true (ap is_lt (sym (tied_itself nat_cmp_total x) ∙ ap (nat_cmp x) e ∙ is))

    by : x ≤ y → x < y
    by le = grind (arith, apart)

above_in : (ids : List ℕ) (x z : ℕ) → AllByRecursion (λ y. nat_cmp x y ≡ Less) ids → has ids z ≡ true → x < z
above_in ids x z above e =
    let f = any_in (nat_eq z) ids e in
    let less = is_less x f.0 (all_in (λ (y : ℕ). nat_cmp x y ≡ Less) ids f.0 above f.1) in
    let same = same_nat z f.0 f.2 in omega (arith, less, same)

not_above : (ids : List ℕ) (x : ℕ) → AllByRecursion (λ y. nat_cmp x y ≡ Less) ids → has ids x ≡ false
not_above ids x above = not_false (has ids x) (λ e. let less = above_in ids x x above e in omega (arith, less))

first_in : (x : ℕ) (xs : List ℕ) → has (x ∷ xs) x ≡ true
first_in x xs = ap (λ (b : Bool). b || has xs x) (nat_same x x refl)

first_le : (x y : ℕ) (ys : List ℕ) → AllByRecursion (λ z. nat_cmp y z ≡ Less) ys → has (y ∷ ys) x ≡ true → y ≤ x
first_le x y ys above e = by (nat_eq x y) refl e
  where
    by : (b : Bool) → nat_eq x y ≡ b → b || has ys x ≡ true → y ≤ x
    by true is e = let same = same_nat x y is in omega (arith, same)
    by false is e = let less = above_in ys y x above e in omega (arith, less)

pub same_ids : (xs ys : List ℕ) → IsStrictlySortedBy nat_cmp xs → IsStrictlySortedBy nat_cmp ys → ((x : ℕ) → has xs x ≡ has ys x) → xs ≡ ys
unfolding IsStrictlySortedBy
same_ids [] [] up up' same = refl
same_ids [] (y ∷ ys) up up' same = absurd (false≢true (same y ∙ first_in y ys))
same_ids (x ∷ xs) [] up up' same = absurd (false≢true (sym (same x) ∙ first_in x xs))
same_ids (x ∷ xs) (y ∷ ys) up up' same =
    let low = first_le x y ys up'.0 (sym (same x) ∙ first_in x xs) in
    let high = first_le y x xs up.0 (same y ∙ first_in y ys) in
    let is : x ≡ y = omega (arith, low, high) in
    let rest : xs ≡ ys = same_ids xs ys up.1 up'.1 (λ z. by z is (nat_eq z x) refl) in
    ap (λ (n : ℕ). n ∷ xs) is ∙ ap (λ (l : List ℕ). y ∷ l) rest
  where
    by : (z : ℕ) → x ≡ y → (b : Bool) → nat_eq z x ≡ b → has xs z ≡ has ys z
    by z is true e =
        let at = same_nat z x e in
        ap (has xs) at ∙ not_above xs x up.0 ∙ sym (ap (has ys) (at ∙ is) ∙ not_above ys y up'.0)
    by z is false e =
        ap (λ (b : Bool). b || has xs z) (sym e) ∙ same z ∙ ap (λ (b : Bool). b || has ys z) (ap (nat_eq z) (sym is) ∙ e)

-- ---- what a term lists, by the series of the ids

apart_from : (m q r : Bool) → (m && q) || (r && q) ≡ (m || r) && q
apart_from true true r = refl
apart_from true false true = refl
apart_from true false false = refl
apart_from false q r = refl

-- a test of series picks those ids whose series meet it
listed_by : (M P : List ℕ → Bool) (series_of : ℕ → List ℕ) (pairs : List Pair) (x : ℕ) → AllByRecursion (λ pair. series_of pair.id ≡ pair.series) pairs
    → list_any (λ pair. nat_eq x pair.id && (M pair.series && P pair.series)) pairs ≡ list_any (λ pair. nat_eq x pair.id && M pair.series) pairs && P (series_of x)
listed_by M P series_of [] x all = refl
listed_by M P series_of (p ∷ ps) x all = by (nat_eq x p.id) refl (listed_by M P series_of ps x all.1)
  where
    some : Bool
    some = list_any (λ (pair : Pair). nat_eq x pair.id && (M pair.series && P pair.series)) ps

    any : Bool
    any = list_any (λ (pair : Pair). nat_eq x pair.id && M pair.series) ps

    by : (a : Bool) → nat_eq x p.id ≡ a → some ≡ any && P (series_of x) → (a && (M p.series && P p.series)) || some ≡ ((a && M p.series) || any) && P (series_of x)
    by true e rest =
        let same : P p.series ≡ P (series_of x) = ap P (sym all.0 ∙ ap series_of (sym (same_nat x p.id e))) in
        ap (λ (b : Bool). (M p.series && b) || some) same ∙ ap (λ (b : Bool). (M p.series && P (series_of x)) || b) rest ∙ apart_from (M p.series) (P (series_of x)) any
    by false e rest = rest

module _ (series_of : ℕ → List ℕ) (lists : Listing) (measurement all : List ℕ) (told : Told series_of lists measurement all) where
  pub listed_in : (P : List ℕ → Bool) (x : ℕ) → list_any (λ pair. nat_eq x pair.id && (bytes_eq (measurement_of pair.series) measurement && P pair.series)) told.pairs ≡ has all x && P (series_of x)
  listed_in P x = listed_by (λ series. bytes_eq (measurement_of series) measurement) P series_of told.pairs x told.series ∙ ap (λ (b : Bool). b && P (series_of x)) (sym (told.all.has x))

  -- an id of the measurement has a series
  pub text_at : (x : ℕ) → has all x ≡ true → IsSeriesText (series_of x)
  text_at x e =
      let f = any_in (λ (pair : Pair). nat_eq x pair.id && bytes_eq (measurement_of pair.series) measurement) told.pairs (sym (told.all.has x) ∙ e) in
      let same = same_nat x f.0.id (and_first (nat_eq x f.0.id) (bytes_eq (measurement_of f.0.series) measurement) f.2) in
      let is = all_in (λ (pair : Pair). series_of pair.id ≡ pair.series) told.pairs f.0 told.series f.1 in
      subst IsSeriesText (sym (ap series_of same ∙ is)) (all_in (λ (pair : Pair). IsSeriesText pair.series) told.pairs f.0 told.holds.texts f.1)

  -- what is picked of the measurement's ids, by a test that tells of their series
  picks_same : (p q : ℕ → Bool) → ((x : ℕ) → has all x ≡ true → p x ≡ q x) → filter p all ≡ filter q all
  picks_same p q f = filter_same p q all (all_map (λ x. has all x ≡ true) (λ x. p x ≡ q x) all f (all_have all))

  -- ids that are those of a test are picked from the measurement's
  pub picked_are : (P : List ℕ → Bool) (found : List ℕ) → AreIdsOf (λ series field. bytes_eq (measurement_of series) measurement && P series) told.pairs found → found ≡ filter (λ id. P (series_of id)) all
  picked_are P found are =
      same_ids found (filter (λ id. P (series_of id)) all) are.ascending (IsStrictlySortedBy-filter nat_cmp (λ id. P (series_of id)) all told.all.ascending)
      (λ x. are.has x ∙ listed_in P x ∙ sym (has_picked (λ id. P (series_of id)) all x))

  -- and the other way
  pub are_picked : (condition : Condition) (found : List ℕ) → found ≡ matching series_of condition all → AreIdsOf (is_match measurement condition) told.pairs found
  are_picked condition found e = record {
    ascending = subst (IsStrictlySortedBy nat_cmp) (sym e) (IsStrictlySortedBy-filter nat_cmp (λ id. meets condition (series_of id)) all told.all.ascending);
    has = λ x. ap (λ (l : List ℕ). has l x) e ∙ has_picked (λ id. meets condition (series_of id)) all x ∙ sym (listed_in (meets condition) x);
  }

  pub value_ids : (key value found : List ℕ) → IsName value → AreIdsOf (is_of (TagValue measurement key value)) told.pairs found → found ≡ ids_with series_of key value all
  value_ids key value found name are =
      picked_are (λ series. has_value key value (tags_in series)) found are
      ∙ picks_same (λ id. has_value key value (tags_in (series_of id))) (λ id. bytes_eq (tag_text key (series_of id)) value)
      (λ x e. tag_is key value (series_of x) (λ none. omega (arith, name.not_empty, ap length none)) (text_at x e))

  pub lacking_ids : (key found : List ℕ) → AreIdsOf (is_of (TagKey measurement key)) told.pairs found → filter (λ id. not (has found id)) all ≡ ids_with series_of key [] all
  lacking_ids key found are =
      picks_same (λ id. not (has found id)) (λ id. bytes_eq (tag_text key (series_of id)) [])
      (λ x e. ap not (are.has x ∙ listed_in (λ series. has_key key (tags_in series)) x ∙ ap (λ (b : Bool). b && has_key key (tags_in (series_of x))) e) ∙ lacks_tag key (series_of x) (text_at x e))

  none_picked : (ids : List ℕ) → filter (λ id. false) ids ≡ []
  none_picked [] = refl
  none_picked (x ∷ xs) = none_picked xs

  pub no_ids : (key text : List ℕ) → text ≢ [] → (IsName text → ⊥) → [] ≡ ids_with series_of key text all
  no_ids key text some bad =
      sym (picks_same (λ id. bytes_eq (tag_text key (series_of id)) text) (λ id. false) (λ x e. no_name key text (series_of x) some bad (text_at x e)) ∙ none_picked all)

-- ---- the series of the ids, by the pairs

pub first_series : (pairs : List Pair) (pair : Pair) → In pairs pair → AllByRecursion (λ other. other.id ≡ pair.id → other.series ≡ pair.series) pairs → series_in pairs pair.id ≡ pair.series
first_series [] pair m agree = absurd m
first_series (p ∷ ps) pair m agree = by (nat_eq pair.id p.id) refl m (λ n. first_series ps pair n agree.1)
  where
    by : (b : Bool) → nat_eq pair.id p.id ≡ b → (p ≡ pair) ⊎ In ps pair → (In ps pair → series_in ps pair.id ≡ pair.series) → (if b then p.series else series_in ps pair.id) ≡ pair.series
    by true e m rest = agree.0 (sym (same_nat pair.id p.id e))
    by false e (inl own) rest = absurd (both_ways (nat_same pair.id p.id (ap (λ (q : Pair). q.id) (sym own))) e)
    by false e (inr n) rest = rest n

abbrev pub told_by : (pairs : List Pair) (lists : Listing) (measurement all : List ℕ) → Holds pairs lists → AreIdsOf (is_of (Measurement measurement)) pairs all → Told (series_in pairs) lists measurement all
told_by pairs lists measurement all holds are = record {
  pairs = pairs;
  holds = holds;
  series = all_from (λ (pair : Pair). series_in pairs pair.id ≡ pair.series) pairs (λ pair m. first_series pairs pair m (all_in (Agrees pairs) pairs pair holds.agree m));
  all = are;
}

-- ---- what the tests answer

filter_all : (ids : List ℕ) → filter (λ id. true) ids ≡ ids
filter_all [] = refl
filter_all (x ∷ xs) = ap (λ (l : List ℕ). x ∷ l) (filter_all xs)

abbrev pub Answers : Listing → List ℕ → List ℕ → ((ℕ → List ℕ) → List ℕ) → Result (Vec ℕ Global) AllocError → Type 0
Answers lists measurement all wanted r = IfOk r (λ v. (series_of : ℕ → List ℕ) → Told series_of lists measurement all → v.items ≡ wanted series_of)

pub test_true : (r : Result (Vec ℕ Global) AllocError) (lists : Listing) (measurement all : List ℕ) → IfOk r (λ v. v.items ≡ all) → Answers lists measurement all (λ series_of. matching series_of True all) r
test_true (Ok v) lists measurement all e = λ series_of told. e ∙ sym (filter_all all)
test_true (Err x) lists measurement all e = tt

pub test_other : (r : Result (Vec ℕ Global) AllocError) (lists : Listing) (measurement all key text with : List ℕ) → ((series_of : ℕ → List ℕ) → Told series_of lists measurement all → with ≡ ids_with series_of key text all)
    → IfOk r (λ v. v.items ≡ filter (λ id. not (has with id)) all) → Answers lists measurement all (λ series_of. matching series_of (Ne key text) all) r
test_other (Ok v) lists measurement all key text with b e = λ series_of told.
    e ∙ ap (λ (l : List ℕ). filter (λ id. not (has l id)) all) (b series_of told) ∙ without_picked (λ id. bytes_eq (tag_text key (series_of id)) text) all
test_other (Err x) lists measurement all key text with b e = tt

pub lacking_is : (r : Result (Vec ℕ Global) AllocError) (lists : Listing) (measurement all key found : List ℕ) → ((pairs : List Pair) → Holds pairs lists → AreIdsOf (is_of (TagKey measurement key)) pairs found)
    → IfOk r (λ v. v.items ≡ filter (λ id. not (has found id)) all) → Answers lists measurement all (λ series_of. ids_with series_of key [] all) r
lacking_is (Ok v) lists measurement all key found are e = λ series_of told. e ∙ lacking_ids series_of lists measurement all told key found (are told.pairs told.holds)
lacking_is (Err x) lists measurement all key found are e = tt

pub having_is : (r : Result (Vec ℕ Global) AllocError) (lists : Listing) (measurement key value found : List ℕ) → IsName value → ((pairs : List Pair) → Holds pairs lists → AreIdsOf (is_of (TagValue measurement key value)) pairs found)
    → IfOk r (λ v. v.items ≡ found) → IfOk r (λ v. (series_of : ℕ → List ℕ) (all : List ℕ) → Told series_of lists measurement all → v.items ≡ ids_with series_of key value all)
having_is (Ok v) lists measurement key value found name are e = λ series_of all told. e ∙ value_ids series_of lists measurement all told key value found name (are told.pairs told.holds)
having_is (Err x) lists measurement key value found name are e = tt

-- the whole condition, of the content
pub match_is : (r : Result (Vec ℕ Global) AllocError) (lists : Listing) (measurement all : List ℕ) (condition : Condition) → ((pairs : List Pair) → Holds pairs lists → AreIdsOf (is_of (Measurement measurement)) pairs all)
    → Answers lists measurement all (λ series_of. matching series_of condition all) r → IfOk r (λ v. (pairs : List Pair) → Holds pairs lists → AreIdsOf (is_match measurement condition) pairs v.items)
match_is (Ok v) lists measurement all condition are e = λ pairs holds.
    let told = told_by pairs lists measurement all holds (are pairs holds) in
    are_picked (series_in pairs) lists measurement all told condition v.items (e (series_in pairs) told)
match_is (Err x) lists measurement all condition are e = tt

-- ---- a pair is there where its field's list has its id

turned : (a b : List ℕ) → bytes_eq a b ≡ bytes_eq b a
turned a b = same_truth (bytes_eq a b) (bytes_eq b a) (λ e. text_same b a (sym (same_text a b e))) (λ e. text_same a b (sym (same_text b a e)))

pub has_pair : (id : ℕ) (series field : List ℕ) (pairs : List Pair) → AllByRecursion (λ other. other.id ≡ id → other.series ≡ series) pairs
    → list_any (λ pair. nat_eq id pair.id && (bytes_eq (measurement_of pair.series) (measurement_of series) && bytes_eq pair.field field)) pairs ≡ list_any (λ other. nat_eq id other.id && bytes_eq field other.field) pairs
has_pair id series field [] agree = refl
has_pair id series field (p ∷ ps) agree = by (nat_eq id p.id) refl (has_pair id series field ps agree.1)
  where
    some : Bool
    some = list_any (λ (pair : Pair). nat_eq id pair.id && (bytes_eq (measurement_of pair.series) (measurement_of series) && bytes_eq pair.field field)) ps

    any : Bool
    any = list_any (λ (other : Pair). nat_eq id other.id && bytes_eq field other.field) ps

    by : (a : Bool) → nat_eq id p.id ≡ a → some ≡ any → (a && (bytes_eq (measurement_of p.series) (measurement_of series) && bytes_eq p.field field)) || some ≡ (a && bytes_eq field p.field) || any
    by true e rest =
        let same = text_same (measurement_of p.series) (measurement_of series) (ap measurement_of (agree.0 (sym (same_nat id p.id e)))) in
        ap (λ (b : Bool). (b && bytes_eq p.field field) || some) same ∙ ap (λ (b : Bool). b || some) (turned p.field field) ∙ ap (λ (b : Bool). bytes_eq field p.field || b) rest
    by false e rest = rest

-- an item of a list stands at some place
in_contains : (pairs : List Pair) (pair : Pair) → In pairs pair → Contains pairs pair
in_contains [] pair m = absurd m
in_contains (p ∷ ps) pair (inl e) = (0, omega arith, e)
in_contains (p ∷ ps) pair (inr n) = let c = in_contains ps pair n in let less = c.1 in (suc c.0, omega (arith, less), c.2)

contains_in : (pairs : List Pair) (pair : Pair) → Contains pairs pair → In pairs pair
contains_in [] pair c = absurd (let less = c.1 in omega (arith, less))
contains_in (p ∷ ps) pair (zero, less, is) = inl is
contains_in (p ∷ ps) pair (suc k, less, is) = inr (contains_in ps pair (k, omega (arith, less), is))

-- where the ids have one series each, a pair is one of these by its id and its field
pub there_is : (pairs : List Pair) (pair : Pair) (there : Bool) → Agrees pairs pair → there ≡ is_in pairs pair → IsTrue there ↔ Contains pairs pair
there_is pairs pair there agree is = (to, from)
  where
    own : (other : Pair) → In pairs other → is_same pair other ≡ true → other ≡ pair
    own other m same =
        let id = same_nat pair.id other.id (and_first (nat_eq pair.id other.id) (bytes_eq pair.field other.field) same) in
        let field = same_text pair.field other.field (and_second (nat_eq pair.id other.id) (bytes_eq pair.field other.field) same) in
        let series = all_in (λ (x : Pair). x.id ≡ pair.id → x.series ≡ pair.series) pairs other agree m (sym id) in
        λ i. record { id = sym id i; series = series i; field = sym field i }

    to : IsTrue there → Contains pairs pair
    to e = let o = any_in (is_same pair) pairs (sym is ∙ e) in in_contains pairs pair (subst (λ (x : Pair). In pairs x) (own o.0 o.1 o.2) o.1)

    from : Contains pairs pair → IsTrue there
    from c =
        is ∙ in_any (is_same pair) pairs pair (contains_in pairs pair c)
        (and_both (nat_eq pair.id pair.id) (bytes_eq pair.field pair.field) (nat_same pair.id pair.id refl) (text_same pair.field pair.field refl))
