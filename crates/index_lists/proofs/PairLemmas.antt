-- Pairs that are added to others and removed from them.
use Rattle.std.proofs.Common.{◌≡◌, ℕ, ◌+◌, ◌<◌, ◌≤◌, ◌&&◌, ◌||◌, Bool, true, false, cond, not, nat_eq, List, [], ◌∷◌, filter, ◌⊎◌, inl, inr, if◌then◌else◌, refl, sym, ap, ◌∙◌, subst, ⊎_elim, arith}
use Rattle.std.specs.List.{AllByRecursion, count_by, list_any}
use Rattle.std.specs.Str.{bytes_eq}
use Rattle.std.proofs.lemmas.Bool.{cases_Bool, false≢true}
use Rattle.std.proofs.lemmas.Bool.Decides.{nat_tests}
use Rattle.std.proofs.lemmas.Slice.Eq.{bytes_eq-Decides}
use Rattle.index_lists.specs.declared.term.Term.{Term}
use Rattle.index_lists.specs.declared.term.Term.TheVariants.{Measurement, Field, TagKey, TagValue}
use Rattle.index_lists.specs.Pairs.{Agrees, Pair, is_in, is_same, with_pair, without_pair}
use Rattle.index_lists.specs.Terms.{is_field, is_of, measurement_of}
use Rattle.index_lists.proofs.StepLemmas.{bit, count_cons}

-- ---- truths

pub same_truth : (a b : Bool) → (a ≡ true → b ≡ true) → (b ≡ true → a ≡ true) → a ≡ b
same_truth true b f g = sym (f refl)
same_truth false true f g = g refl
same_truth false false f g = refl

pub and_first : (a b : Bool) → (a && b) ≡ true → a ≡ true
and_first true b e = refl
and_first false b e = absurd (false≢true e)

pub and_second : (a b : Bool) → (a && b) ≡ true → b ≡ true
and_second true b e = e
and_second false b e = absurd (false≢true e)

pub and_both : (a b : Bool) → a ≡ true → b ≡ true → (a && b) ≡ true
and_both a b e f = ap (λ (c : Bool). c && b) e ∙ f

pub or_left : (a b : Bool) → a ≡ true → (a || b) ≡ true
or_left a b e = ap (λ (c : Bool). c || b) e

pub or_right : (a b : Bool) → b ≡ true → (a || b) ≡ true
or_right true b e = refl
or_right false b e = e

pub or_either : (a b : Bool) → (a || b) ≡ true → (a ≡ true) ⊎ (b ≡ true)
or_either true b e = inl refl
or_either false b e = inr e

pub not_true : (a : Bool) → not a ≡ true → a ≡ false
not_true true e = absurd (false≢true e)
not_true false e = refl

pub not_false : (a : Bool) → (a ≡ true → ⊥) → a ≡ false
not_false true f = absurd (f refl)
not_false false f = refl

pub both_ways : {a : Bool} → a ≡ true → a ≡ false → ⊥
both_ways e f = false≢true (sym f ∙ e)

pub same_nat : (a b : ℕ) → nat_eq a b ≡ true → a ≡ b
same_nat a b e = grind (arith, nat_tests, e)

pub nat_same : (a b : ℕ) → a ≡ b → nat_eq a b ≡ true
nat_same a b e = grind (arith, nat_tests, e)

pub same_text : (a b : List ℕ) → bytes_eq a b ≡ true → a ≡ b
same_text a b e = (bytes_eq-Decides a b).0 e

pub text_same : (a b : List ℕ) → a ≡ b → bytes_eq a b ≡ true
text_same a b e = (bytes_eq-Decides a b).1 e

-- ---- items of a list

abbrev pub In : {X : Type 0} → List X → X → Type 0
In [] x = ⊥
In (y ∷ ys) x = (y ≡ x) ⊎ In ys x

pub any_in : {X : Type 0} (p : X → Bool) (xs : List X) → list_any p xs ≡ true → (x : X) × In xs x × (p x ≡ true)
any_in p [] e = absurd (false≢true e)
any_in p (x ∷ xs) e = ⊎_elim (λ (here : p x ≡ true). (x, inl refl, here)) (λ (later : list_any p xs ≡ true). let f = any_in p xs later in (f.0, inr f.1, f.2)) (or_either (p x) (list_any p xs) e)

pub in_any : {X : Type 0} (p : X → Bool) (xs : List X) (x : X) → In xs x → p x ≡ true → list_any p xs ≡ true
in_any p [] x m e = absurd m
in_any p (y ∷ xs) x m e = ⊎_elim (λ (is : y ≡ x). or_left (p y) (list_any p xs) (ap p is ∙ e)) (λ (n : In xs x). or_right (p y) (list_any p xs) (in_any p xs x n e)) m

pub all_in : {X : Type 0} (P : X → Type 0) (xs : List X) (x : X) → AllByRecursion P xs → In xs x → P x
all_in P [] x all m = absurd m
all_in P (y ∷ xs) x all m = ⊎_elim (λ (is : y ≡ x). subst P is all.0) (λ (n : In xs x). all_in P xs x all.1 n) m

pub all_from : {X : Type 0} (P : X → Type 0) (xs : List X) → ((x : X) → In xs x → P x) → AllByRecursion P xs
all_from P [] f = tt
all_from P (x ∷ xs) f = (f x (inl refl), all_from P xs (λ y m. f y (inr m)))

pub in_filter : {X : Type 0} (q : X → Bool) (xs : List X) (x : X) → In xs x → q x ≡ true → In (filter q xs) x
in_filter q [] x m e = absurd m
in_filter q (y ∷ xs) x m e = by (q y) refl m (λ n. in_filter q xs x n e)
  where
    by : (b : Bool) → q y ≡ b → (y ≡ x) ⊎ In xs x → (In xs x → In (filter q xs) x) → In (cond b (y ∷ filter q xs) (filter q xs)) x
    by true is (inl own) rest = inl own
    by true is (inr n) rest = inr (rest n)
    by false is (inl own) rest = absurd (both_ways (ap q own ∙ e) is)
    by false is (inr n) rest = rest n

pub filter_in : {X : Type 0} (q : X → Bool) (xs : List X) (x : X) → In (filter q xs) x → In xs x × (q x ≡ true)
filter_in q [] x m = absurd m
filter_in q (y ∷ xs) x m = by (q y) refl m (λ n. filter_in q xs x n)
  where
    by : (b : Bool) → q y ≡ b → In (cond b (y ∷ filter q xs) (filter q xs)) x → (In (filter q xs) x → In xs x × (q x ≡ true)) → ((y ≡ x) ⊎ In xs x) × (q x ≡ true)
    by true is (inl own) rest = (inl own, sym (ap q own) ∙ is)
    by true is (inr n) rest = let f = rest n in (inr f.0, f.1)
    by false is n rest = let f = rest n in (inr f.0, f.1)

pub all_filter : {X : Type 0} (P : X → Type 0) (q : X → Bool) (xs : List X) → AllByRecursion P xs → AllByRecursion P (filter q xs)
all_filter P q xs all = all_from P (filter q xs) (λ x m. all_in P xs x all (filter_in q xs x m).0)

-- ---- how many

pub none_counted : {X : Type 0} (p : X → Bool) (xs : List X) → ((x : X) → In xs x → p x ≡ true → ⊥) → count_by p xs ≡ 0
none_counted p [] f = refl
none_counted p (x ∷ xs) f =
    let here : bit (p x) ≡ 0 = ap bit (not_false (p x) (λ e. f x (inl refl) e)) in
    let rest = none_counted p xs (λ y m e. f y (inr m) e) in
    let c = count_cons p x xs in
    omega (arith, here, rest, c)

pub some_counted : {X : Type 0} (p : X → Bool) (xs : List X) (x : X) → In xs x → p x ≡ true → 0 < count_by p xs
some_counted p [] x m e = absurd m
some_counted p (y ∷ xs) x m e = by m (λ n. some_counted p xs x n e)
  where
    by : (y ≡ x) ⊎ In xs x → (In xs x → 0 < count_by p xs) → 0 < count_by p (y ∷ xs)
    by (inl own) more = let here : bit (p y) ≡ 1 = ap bit (ap p own ∙ e) in let c = count_cons p y xs in omega (arith, here, c)
    by (inr n) more = let rest = more n in let c = count_cons p y xs in omega (arith, rest, c)

pub counted_some : {X : Type 0} (p : X → Bool) (xs : List X) → 0 < count_by p xs → (x : X) × In xs x × (p x ≡ true)
counted_some p xs some = any_in p xs (by (list_any p xs) refl)
  where
    by : (b : Bool) → list_any p xs ≡ b → list_any p xs ≡ true
    by true e = e
    by false e = let none = none_counted p xs (λ x m f. both_ways (in_any p xs x m f) e) in absurd (omega (arith, none, some))

-- what another test picks and these are left of it, where all that this one picks are left out
pub parted : {X : Type 0} (p s : X → Bool) (xs : List X) → ((x : X) → s x ≡ true → p x ≡ true) → count_by p (filter (λ x. not (s x)) xs) + count_by s xs ≡ count_by p xs
parted p s [] f = refl
parted p s (x ∷ xs) f = by (s x) refl (parted p s xs f)
  where
    by : (b : Bool) → s x ≡ b → count_by p (filter (λ x. not (s x)) xs) + count_by s xs ≡ count_by p xs → count_by p (cond (not b) (x ∷ filter (λ x. not (s x)) xs) (filter (λ x. not (s x)) xs)) + count_by s (x ∷ xs) ≡ count_by p (x ∷ xs)
    by true e r =
        let own : bit (s x) ≡ 1 = ap bit e in
        let own' : bit (p x) ≡ 1 = ap bit (f x e) in
        let c = count_cons s x xs in let d = count_cons p x xs in
        omega (arith, own, own', c, d, r)
    by false e r =
        let own : bit (s x) ≡ 0 = ap bit e in
        let c = count_cons s x xs in let d = count_cons p x xs in let g = count_cons p x (filter (λ x. not (s x)) xs) in
        omega (arith, own, c, d, g, r)

pub fewer : {X : Type 0} (p q : X → Bool) (xs : List X) → count_by p (filter q xs) ≤ count_by p xs
fewer p q [] = omega arith
fewer p q (x ∷ xs) = by (q x) (fewer p q xs)
  where
    by : (b : Bool) → count_by p (filter q xs) ≤ count_by p xs → count_by p (cond b (x ∷ filter q xs) (filter q xs)) ≤ count_by p (x ∷ xs)
    by true r = let c = count_cons p x xs in let d = count_cons p x (filter q xs) in omega (arith, r, c, d)
    by false r = let c = count_cons p x xs in omega (arith, r, c)

pub as_many : {X : Type 0} (p q : X → Bool) (xs : List X) → ((x : X) → p x ≡ true → q x ≡ true) → count_by p (filter q xs) ≡ count_by p xs
as_many p q [] f = refl
as_many p q (x ∷ xs) f = by (q x) refl (as_many p q xs f)
  where
    by : (b : Bool) → q x ≡ b → count_by p (filter q xs) ≡ count_by p xs → count_by p (cond b (x ∷ filter q xs) (filter q xs)) ≡ count_by p (x ∷ xs)
    by true e r = let c = count_cons p x xs in let d = count_cons p x (filter q xs) in omega (arith, r, c, d)
    by false e r =
        let own : bit (p x) ≡ 0 = ap bit (not_false (p x) (λ g. both_ways (f x g) e)) in
        let c = count_cons p x xs in omega (arith, own, r, c)

-- ---- pairs

pub same_parts : (pair other : Pair) → is_same pair other ≡ true → (pair.id ≡ other.id) × (pair.field ≡ other.field)
same_parts pair other e = (
  same_nat pair.id other.id (and_first (nat_eq pair.id other.id) (bytes_eq pair.field other.field) e),
  same_text pair.field other.field (and_second (nat_eq pair.id other.id) (bytes_eq pair.field other.field) e),
)

pub parts_same : (pair other : Pair) → pair.id ≡ other.id → pair.field ≡ other.field → is_same pair other ≡ true
parts_same pair other id field = and_both (nat_eq pair.id other.id) (bytes_eq pair.field other.field) (nat_same pair.id other.id id) (text_same pair.field other.field field)

-- the pairs of an id that a term is of
abbrev pub picks : ℕ → Term → Pair → Bool
picks id term pair = nat_eq id pair.id && is_of term pair.series pair.field

pub picked : (id : ℕ) (term : Term) (pair : Pair) → picks id term pair ≡ true → (id ≡ pair.id) × (is_of term pair.series pair.field ≡ true)
picked id term pair e = (
  same_nat id pair.id (and_first (nat_eq id pair.id) (is_of term pair.series pair.field) e),
  and_second (nat_eq id pair.id) (is_of term pair.series pair.field) e,
)

pub picks_it : (id : ℕ) (term : Term) (pair : Pair) → id ≡ pair.id → is_of term pair.series pair.field ≡ true → picks id term pair ≡ true
picks_it id term pair is of = and_both (nat_eq id pair.id) (is_of term pair.series pair.field) (nat_same id pair.id is) of

pub of_same : (term : Term) (s s' f f' : List ℕ) → s ≡ s' → f ≡ f' → is_of term s f ≡ is_of term s' f'
of_same term s s' f f' e g = λ i. is_of term (e i) (g i)

-- a term that names no field is of a series whatever field it has
pub of_series : (term : Term) → is_field term ≡ false → (s f f' : List ℕ) → is_of term s f ≡ is_of term s f'
of_series (Measurement m) e s f f' = refl
of_series (Field m n) e s f f' = absurd (false≢true (sym e))
of_series (TagKey m k) e s f f' = refl
of_series (TagValue m k v) e s f f' = refl

-- one that names a field is of that field alone
pub of_field : (term : Term) → is_field term ≡ true → (s f f' : List ℕ) → is_of term s f ≡ true → is_of term s f' ≡ true → f ≡ f'
of_field (Measurement m) e s f f' a b = absurd (false≢true e)
of_field (Field m n) e s f f' a b =
    same_text f n (and_second (bytes_eq (measurement_of s) m) (bytes_eq f n) a) ∙ sym (same_text f' n (and_second (bytes_eq (measurement_of s) m) (bytes_eq f' n) b))
of_field (TagKey m k) e s f f' a b = absurd (false≢true e)
of_field (TagValue m k v) e s f f' a b = absurd (false≢true e)

module _ (pairs : List Pair) (pair : Pair) (agree : Agrees pairs pair) where
  series_of : (other : Pair) → In pairs other → other.id ≡ pair.id → other.series ≡ pair.series
  series_of other m is = all_in (λ (o : Pair). o.id ≡ pair.id → o.series ≡ pair.series) pairs other agree m is

  abbrev here : ℕ → Term → Bool
  here id term = nat_eq id pair.id && is_of term pair.series pair.field

  pub added : (id : ℕ) (term : Term) → list_any (picks id term) (with_pair pair pairs) ≡ (here id term || list_any (picks id term) pairs)
  added id term = by (is_in pairs pair) refl
    where
      by : (b : Bool) → is_in pairs pair ≡ b → list_any (picks id term) (if b then pairs else pair ∷ pairs) ≡ (here id term || list_any (picks id term) pairs)
      by true e = same_truth (list_any (picks id term) pairs) (here id term || list_any (picks id term) pairs)
          (λ a. or_right (here id term) (list_any (picks id term) pairs) a)
          (λ a. ⊎_elim
          (λ (own : here id term ≡ true).
          let o = any_in (is_same pair) pairs e in
          let same = same_parts pair o.0 o.2 in
          let p = picked id term pair own in
          in_any (picks id term) pairs o.0 o.1
          (picks_it id term o.0 (p.0 ∙ same.0) (of_same term o.0.series pair.series o.0.field pair.field (series_of o.0 o.1 (sym same.0)) (sym same.1) ∙ p.1)))
          (λ (old : list_any (picks id term) pairs ≡ true). old)
          (or_either (here id term) (list_any (picks id term) pairs) a))
      by false e = refl

  -- a term that isn't of the pair has what it had
  pub removed_other : (id : ℕ) (term : Term) → is_of term pair.series pair.field ≡ false → list_any (picks id term) (without_pair pair pairs) ≡ list_any (picks id term) pairs
  removed_other id term not_of = same_truth (list_any (picks id term) (without_pair pair pairs)) (list_any (picks id term) pairs)
      (λ a. let o = any_in (picks id term) (without_pair pair pairs) a in in_any (picks id term) pairs o.0 (filter_in (λ other. not (is_same pair other)) pairs o.0 o.1).0 o.2)
      (λ a.
      let o = any_in (picks id term) pairs a in
      let p = picked id term o.0 o.2 in
      let apart : is_same pair o.0 ≡ false =
      not_false (is_same pair o.0)
      (λ e. let same = same_parts pair o.0 e in both_ways (sym (of_same term o.0.series pair.series o.0.field pair.field (series_of o.0 o.1 (sym same.0)) (sym same.1)) ∙ p.1) not_of) in
      in_any (picks id term) (without_pair pair pairs) o.0 (in_filter (λ other. not (is_same pair other)) pairs o.0 o.1 (ap not apart)) o.2)

  -- a pair of another id stays
  left : (id : ℕ) (term : Term) (o : Pair) → In pairs o → picks id term o ≡ true → nat_eq id pair.id ≡ false → list_any (picks id term) (without_pair pair pairs) ≡ true
  left id term o m picks_o other =
      let p = picked id term o picks_o in
      let apart : is_same pair o ≡ false = not_false (is_same pair o) (λ e. both_ways (nat_same id pair.id (p.0 ∙ sym (same_parts pair o e).0)) other) in
      in_any (picks id term) (without_pair pair pairs) o (in_filter (λ other. not (is_same pair other)) pairs o m (ap not apart)) picks_o

  -- the field's term lacks the id
  pub removed_field : (id : ℕ) (term : Term) → is_field term ≡ true → is_of term pair.series pair.field ≡ true
      → list_any (picks id term) (without_pair pair pairs) ≡ (list_any (picks id term) pairs && not (nat_eq id pair.id))
  removed_field id term field of = same_truth (list_any (picks id term) (without_pair pair pairs)) (list_any (picks id term) pairs && not (nat_eq id pair.id))
      (λ a.
      let o = any_in (picks id term) (without_pair pair pairs) a in
      let f = filter_in (λ other. not (is_same pair other)) pairs o.0 o.1 in
      let p = picked id term o.0 o.2 in
      and_both (list_any (picks id term) pairs) (not (nat_eq id pair.id)) (in_any (picks id term) pairs o.0 f.0 o.2)
      (ap not (not_false (nat_eq id pair.id)
      (λ e.
      let own : o.0.id ≡ pair.id = sym p.0 ∙ same_nat id pair.id e in
      let series = series_of o.0 f.0 own in
      let fields = of_field term field pair.series pair.field o.0.field of (of_same term pair.series o.0.series o.0.field o.0.field (sym series) refl ∙ p.1) in
      both_ways (parts_same pair o.0 (sym own) fields) (not_true (is_same pair o.0) f.1)))))
      (λ a.
      let o = any_in (picks id term) pairs (and_first (list_any (picks id term) pairs) (not (nat_eq id pair.id)) a) in
      let other : nat_eq id pair.id ≡ false = not_true (nat_eq id pair.id) (and_second (list_any (picks id term) pairs) (not (nat_eq id pair.id)) a) in
      left id term o.0 o.1 o.2 other)

  -- where no pair of the id is left, its terms lack it
  pub removed_last : (id : ℕ) (term : Term) → count_by (λ o. nat_eq pair.id o.id) (without_pair pair pairs) ≡ 0
      → list_any (picks id term) (without_pair pair pairs) ≡ (list_any (picks id term) pairs && not (nat_eq id pair.id))
  removed_last id term none = same_truth (list_any (picks id term) (without_pair pair pairs)) (list_any (picks id term) pairs && not (nat_eq id pair.id))
      (λ a.
      let o = any_in (picks id term) (without_pair pair pairs) a in
      let f = filter_in (λ other. not (is_same pair other)) pairs o.0 o.1 in
      let p = picked id term o.0 o.2 in
      and_both (list_any (picks id term) pairs) (not (nat_eq id pair.id)) (in_any (picks id term) pairs o.0 f.0 o.2)
      (ap not (not_false (nat_eq id pair.id)
      (λ e.
      let some = some_counted (λ (x : Pair). nat_eq pair.id x.id) (without_pair pair pairs) o.0 o.1 (nat_same pair.id o.0.id (sym (same_nat id pair.id e) ∙ p.0)) in
      omega (arith, some, none)))))
      (λ a.
      let o = any_in (picks id term) pairs (and_first (list_any (picks id term) pairs) (not (nat_eq id pair.id)) a) in
      let other : nat_eq id pair.id ≡ false = not_true (nat_eq id pair.id) (and_second (list_any (picks id term) pairs) (not (nat_eq id pair.id)) a) in
      left id term o.0 o.1 o.2 other)

  -- where one is left, they have what they had
  pub removed_some : (id : ℕ) (term : Term) → is_field term ≡ false → 0 < count_by (λ o. nat_eq pair.id o.id) (without_pair pair pairs)
      → list_any (picks id term) (without_pair pair pairs) ≡ list_any (picks id term) pairs
  removed_some id term plain some = same_truth (list_any (picks id term) (without_pair pair pairs)) (list_any (picks id term) pairs)
      (λ a. let o = any_in (picks id term) (without_pair pair pairs) a in in_any (picks id term) pairs o.0 (filter_in (λ other. not (is_same pair other)) pairs o.0 o.1).0 o.2)
      (λ a.
      let o = any_in (picks id term) pairs a in
      ⊎_elim
      (λ (own : nat_eq id pair.id ≡ true).
      let is = same_nat id pair.id own in
      let k = counted_some (λ (x : Pair). nat_eq pair.id x.id) (without_pair pair pairs) some in
      let f = filter_in (λ other. not (is_same pair other)) pairs k.0 k.1 in
      let p = picked id term o.0 o.2 in
      let id_k = same_nat pair.id k.0.id k.2 in
      let series_k = series_of k.0 f.0 (sym id_k) in
      let series_o = series_of o.0 o.1 (sym p.0 ∙ is) in
      in_any (picks id term) (without_pair pair pairs) k.0 k.1
      (picks_it id term k.0 (is ∙ id_k) (of_same term k.0.series o.0.series k.0.field k.0.field (series_k ∙ sym series_o) refl ∙ of_series term plain o.0.series k.0.field o.0.field ∙ p.1)))
      (λ (other : nat_eq id pair.id ≡ false). left id term o.0 o.1 o.2 other)
      (cases_Bool (nat_eq id pair.id)))
