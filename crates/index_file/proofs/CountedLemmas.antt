-- Items behind their count are taken one after another, and in one way.
use Rattle.std.proofs.Common.{◌≡◌, ℕ, ◌+◌, ◌^◌, ◌<◌, ◌≤◌, List, [], ◌∷◌, ◌++◌, length, Option, Some, None, refl, sym, ap, ◌∙◌, subst, arith}
use Rattle.std.specs.List.{flat_map, AllByRecursion}
use Rattle.std.specs.List.Sorted.{IsStrictlySortedBy}
use Rattle.std.specs.declared.cmp.Ordering.{Ordering}
use Rattle.std.specs.declared.cmp.Ordering.TheVariants.{Less}
use Rattle.std.specs.Cmp.{IsTotalOrder}
use Rattle.std.proofs.lemmas.List.{append_assoc, append-nil, length-append}
use Rattle.std.proofs.lemmas.Grind.{flat_map-append}
use Rattle.fixed_width.specs.Fields.{bytes_of_u32}
use Rattle.fixed_width.proofs.Fronts.{same_u32}
use Rattle.index_file.specs.Contents.{AreCounted}
use Rattle.index_file.specs.Format.{counted_bytes}
use Rattle.index_file.specs.Taking.{IsBehind}
use Rattle.index_file.proofs.TakeLemmas.{StandsNone}

-- ---- lists

pub all_append : {X : Type 0} (P : X → Type 0) (xs ys : List X) → AllByRecursion P xs → AllByRecursion P ys → AllByRecursion P (xs ++ ys)
all_append P [] ys a b = b
all_append P (x ∷ xs) ys a b = (a.0, all_append P xs ys a.1 b)

pub all_left : {X : Type 0} (P : X → Type 0) (xs ys : List X) → AllByRecursion P (xs ++ ys) → AllByRecursion P xs
all_left P [] ys a = tt
all_left P (x ∷ xs) ys a = (a.0, all_left P xs ys a.1)

pub all_right : {X : Type 0} (P : X → Type 0) (xs ys : List X) → AllByRecursion P (xs ++ ys) → AllByRecursion P ys
all_right P [] ys a = a
all_right P (x ∷ xs) ys a = all_right P xs ys a.1

pub all_map : {X : Type 0} (P Q : X → Type 0) (xs : List X) → ((x : X) → P x → Q x) → AllByRecursion P xs → AllByRecursion Q xs
all_map P Q [] f a = tt
all_map P Q (x ∷ xs) f a = (f x a.0, all_map P Q xs f a.1)

sorted_push : {X : Type 0} (c : X → X → Ordering) (xs : List X) (y : X) → IsStrictlySortedBy c xs → AllByRecursion (λ x. c x y ≡ Less) xs → IsStrictlySortedBy c (xs ++ y ∷ [])
unfolding IsStrictlySortedBy
sorted_push c [] y s a = (tt, tt)
sorted_push c (x ∷ xs) y s a = (all_append (λ z. c x z ≡ Less) xs (y ∷ []) s.0 (a.0, tt), sorted_push c xs y s.1 a.1)

-- those before an item are below it
pub before_all : {X : Type 0} (c : X → X → Ordering) (xs : List X) (y : X) (ys : List X) → IsStrictlySortedBy c (xs ++ (y ∷ ys)) → AllByRecursion (λ x. c x y ≡ Less) xs
unfolding IsStrictlySortedBy
before_all c [] y ys s = tt
before_all c (x ∷ xs) y ys s = ((all_right (λ z. c x z ≡ Less) xs (y ∷ ys) s.0).0, before_all c xs y ys s.1)

pub push : {X : Type 0} (f : X → List ℕ) (xs : List X) (x : X) (rest : List ℕ) → flat_map f xs ++ (f x ++ rest) ≡ flat_map f (xs ++ (x ∷ [])) ++ rest
push f xs x rest =
    sym (append_assoc (flat_map f xs) (f x) rest) ∙ ap (λ (l : List ℕ). (flat_map f xs ++ l) ++ rest) (sym (append-nil (f x)))
    ∙ ap (λ (l : List ℕ). l ++ rest) (sym (flat_map-append f xs (x ∷ [])))

-- ---- the key of the last item

pub record IsLastOf {X K : Type 0} (key : X → K) (last : K) (done : List X) : Type 0 where
  pub before : List X
  pub item : X
  pub parts : done ≡ before ++ item ∷ []
  pub is : last ≡ key item

abbrev pub IsLast : {X K : Type 0} → (X → K) → Option K → List X → Type 0
IsLast key None done = done ≡ []
IsLast key (Some last) done = IsLastOf key last done

module _ {X K : Type 0} (G : X → Type 0) (key : X → K) (cmp : K → K → Ordering) (bytes_of : X → List ℕ) where
  -- a good item that may come next
  abbrev pub MayBeNext : Option K → X → Type 0
  MayBeNext last x = G x × IsBehind cmp last (key x)

  -- so many items were taken, and this is left
  pub record Taken (all : List ℕ) (last : Option K) (done : List X) (rest : List ℕ) (count : ℕ) : Type 0 where
    pub whole : all ≡ flat_map bytes_of done ++ rest
    pub good : AllByRecursion G done
    pub ascending : IsStrictlySortedBy (λ x y. cmp (key x) (key y)) done
    pub last_is : IsLast key last done
    pub many : length done ≡ count

module _ {X K : Type 0} (G : X → Type 0) (key : X → K) (cmp : K → K → Ordering) (bytes_of : X → List ℕ) (order : IsTotalOrder cmp)
    (same : (x y : X) (r s : List ℕ) → G x → G y → bytes_of x ++ r ≡ bytes_of y ++ s → (x ≡ y) × (r ≡ s)) where
  abbrev Below : X → X → Ordering
  Below x y = cmp (key x) (key y)

  abbrev Next : Option K → X → Type 0
  Next = MayBeNext G key cmp bytes_of

  abbrev Done : List ℕ → Option K → List X → List ℕ → ℕ → Type 0
  Done = Taken G key cmp bytes_of

  -- behind the last item is behind all
  pub behind_all : (last : Option K) (done : List X) (x : X) → IsLast key last done → IsStrictlySortedBy Below done → IsBehind cmp last (key x) → AllByRecursion (λ y. Below y x ≡ Less) done
  behind_all None done x last sorted behind = subst (AllByRecursion (λ y. Below y x ≡ Less)) (sym last) tt
  behind_all (Some k) done x last sorted behind =
      let under : Below last.item x ≡ Less = ap (λ (k : K). cmp k (key x)) (sym last.is) ∙ behind in
      let all = before_all Below last.before last.item [] (subst (IsStrictlySortedBy Below) last.parts sorted) in
      subst (AllByRecursion (λ y. Below y x ≡ Less)) (sym last.parts)
      (all_append (λ y. Below y x ≡ Less) last.before (last.item ∷ [])
      (all_map (λ y. Below y last.item ≡ Less) (λ y. Below y x ≡ Less) last.before (λ y less. order.trans (key y) (key last.item) (key x) less under) all) (under, tt))

  -- an item of ascending ones comes behind the last of those before it
  pub behind_last : (last : Option K) (done : List X) (x : X) → IsLast key last done → AllByRecursion (λ y. Below y x ≡ Less) done → IsBehind cmp last (key x)
  behind_last None done x last all = tt
  behind_last (Some k) done x last all =
      let some = all_right (λ y. Below y x ≡ Less) last.before (last.item ∷ []) (subst (AllByRecursion (λ y. Below y x ≡ Less)) last.parts all) in
      ap (λ (k : K). cmp k (key x)) last.is ∙ some.0

  pub taken_none : (all : List ℕ) → Done all None [] all 0
  unfolding IsStrictlySortedBy
  taken_none all = record { whole = refl; good = tt; ascending = tt; last_is = refl; many = refl }

  pub taken_one : (all rest behind : List ℕ) (last : Option K) (done : List X) (count : ℕ) (x : X) → Done all last done rest count → Next last x → rest ≡ bytes_of x ++ behind
      → Done all (Some (key x)) (done ++ x ∷ []) behind (count + 1)
  taken_one all rest behind last done count x taken next is = record {
    whole = taken.whole ∙ ap (λ (l : List ℕ). flat_map bytes_of done ++ l) is ∙ push bytes_of done x behind;
    good = all_append G done (x ∷ []) taken.good (next.0, tt);
    ascending = sorted_push Below done x taken.ascending (behind_all last done x taken.last_is taken.ascending next.1);
    last_is = record { before = done; item = x; parts = refl; is = refl };
    many = omega (arith, length-append done (x ∷ []), taken.many);
  }

  -- items that these bytes begin with begin with those that were taken
  pub front : (done all : List X) (rest more : List ℕ) → AllByRecursion G done → AllByRecursion G all → length done ≤ length all → flat_map bytes_of done ++ rest ≡ flat_map bytes_of all ++ more
      → (others : List X) × (all ≡ done ++ others) × (rest ≡ flat_map bytes_of others ++ more)
  front [] all rest more a b less is = (all, refl, is)
  front (x ∷ done) [] rest more a b less is = absurd (omega (arith, less))
  front (x ∷ done) (y ∷ all) rest more a b less is =
      let first = same x y (flat_map bytes_of done ++ rest) (flat_map bytes_of all ++ more) a.0 b.0
      (sym (append_assoc (bytes_of x) (flat_map bytes_of done) rest) ∙ is ∙ append_assoc (bytes_of y) (flat_map bytes_of all) more) in
      let others = front done all rest more a.1 b.1 (omega (arith, less)) first.1 in
      (others.0, cc (first.0, others.1), others.2)

  pub same_items : (xs ys : List X) (r s : List ℕ) → AllByRecursion G xs → AllByRecursion G ys → length xs ≡ length ys → flat_map bytes_of xs ++ r ≡ flat_map bytes_of ys ++ s → (xs ≡ ys) × (r ≡ s)
  same_items [] [] r s a b len is = (refl, is)
  same_items [] (y ∷ ys) r s a b len is = absurd (omega (arith, len))
  same_items (x ∷ xs) [] r s a b len is = absurd (omega (arith, len))
  same_items (x ∷ xs) (y ∷ ys) r s a b len is =
      let first = same x y (flat_map bytes_of xs ++ r) (flat_map bytes_of ys ++ s) a.0 b.0
      (sym (append_assoc (bytes_of x) (flat_map bytes_of xs) r) ∙ is ∙ append_assoc (bytes_of y) (flat_map bytes_of ys) s) in
      let others = same_items xs ys r s a.1 b.1 (omega (arith, len)) first.1 in
      (cc (first.0, others.0), others.1)

  abbrev Counted : List X → Type 0
  Counted = AreCounted G key cmp

  pub counted_parts : (items : List X) (rest : List ℕ) → counted_bytes bytes_of items ++ rest ≡ bytes_of_u32 (length items) ++ (flat_map bytes_of items ++ rest)
  unfolding counted_bytes
  counted_parts items rest = append_assoc (bytes_of_u32 (length items)) (flat_map bytes_of items) rest

  pub same_counted : (xs ys : List X) (r s : List ℕ) → Counted xs → Counted ys → counted_bytes bytes_of xs ++ r ≡ counted_bytes bytes_of ys ++ s → (xs ≡ ys) × (r ≡ s)
  same_counted xs ys r s a b is =
      let count = same_u32 (length xs) (length ys) (flat_map bytes_of xs ++ r) (flat_map bytes_of ys ++ s) a.count b.count (sym (counted_parts xs r) ∙ is ∙ counted_parts ys s) in
      same_items xs ys r s a.good b.good count.0 count.1

  -- all were taken
  pub taken_all : (bytes all rest : List ℕ) (last : Option K) (done : List X) (count total : ℕ) → bytes ≡ bytes_of_u32 total ++ all → total < 2 ^ 32 → count ≡ total → Done all last done rest count
      → Counted done × (bytes ≡ counted_bytes bytes_of done ++ rest)
  taken_all bytes all rest last done count total is fits end taken =
      let many : length done ≡ total = taken.many ∙ end in (
        record { good = taken.good; ascending = taken.ascending; count = omega (arith, many, fits) },
        is ∙ ap (λ (n : ℕ). bytes_of_u32 n ++ all) (sym many) ∙ ap (λ (l : List ℕ). bytes_of_u32 (length done) ++ l) taken.whole ∙ sym (counted_parts done rest),
      )

  no_next : (done all others : List X) (rest more : List ℕ) (last : Option K) (count total : ℕ) → all ≡ done ++ others → rest ≡ flat_map bytes_of others ++ more → length done ≡ count → count < total → length all ≡ total
      → AllByRecursion G all → IsStrictlySortedBy Below all → IsLast key last done → StandsNone (Next last) bytes_of rest → ⊥
  no_next done all [] rest more last count total parts is many less len good ascending last_is none = omega (arith, many, less, len, ap length parts, length-append done [])
  no_next done all (x ∷ others) rest more last count total parts is many less len good ascending last_is none =
      let fine = all_right G done (x ∷ others) (subst (AllByRecursion G) parts good) in
      let under = before_all Below done x others (subst (IsStrictlySortedBy Below) parts ascending) in
      none x (flat_map bytes_of others ++ more) (fine.0, behind_last last done x last_is under) (is ∙ append_assoc (bytes_of x) (flat_map bytes_of others) more)

  -- one more is wanted, and none that may come next stands there
  pub stuck : (bytes all rest : List ℕ) (last : Option K) (done : List X) (count total : ℕ) → bytes ≡ bytes_of_u32 total ++ all → total < 2 ^ 32 → count < total → Done all last done rest count
      → StandsNone (Next last) bytes_of rest → StandsNone Counted (counted_bytes bytes_of) bytes
  stuck bytes all rest last done count total is fits less taken none items more counted found =
      let parts = same_u32 total (length items) all (flat_map bytes_of items ++ more) fits counted.count (sym is ∙ found ∙ counted_parts items more) in
      let others = front done items rest more taken.good counted.good (omega (arith, taken.many, less, parts.0)) (sym taken.whole ∙ parts.1) in
      no_next done items others.0 rest more last count total others.1 others.2 taken.many less (sym parts.0) counted.good counted.ascending taken.last_is none

  -- no count stands there
  pub no_count : (bytes : List ℕ) → StandsNone (λ (n : ℕ). n < 2 ^ 32) bytes_of_u32 bytes → StandsNone Counted (counted_bytes bytes_of) bytes
  no_count bytes none items more counted is = none (length items) (flat_map bytes_of items ++ more) counted.count (is ∙ counted_parts items more)
