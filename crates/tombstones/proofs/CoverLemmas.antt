-- What a list of ranges covers, part by part.
use Rattle.std.proofs.Common.{◌≡◌, ℕ, zero, suc, ◌+◌, ◌-◌, ◌<◌, ◌≤◌, ℤ, pos, ◌+ℤ◌, ◌-ℤ◌, ◌≤ℤ◌, ◌<ℤ◌, List, [], ◌∷◌, ◌++◌, length, take, drop, get_or, ◌⊎◌, inl, inr, sym, ap, ◌∙◌, subst, arith, rules, add-one, w64, to_z, of_z}
use Rattle.std.proofs.Math.Seq.{drop-cons}
use Rattle.std.proofs.Math.Seq.{take-suc-set}
use Rattle.std.proofs.Math.ListN.{set}
use Rattle.std.proofs.lemmas.List.{take-append-drop, get_or-take, get_or-drop, drop-drop, drop-set-lt, length-take-le, length-drop, append_assoc, get_or_default}
use Rattle.std.proofs.lemmas.List.Elements.{recursion_from_All}
use Rattle.tombstones.proofs.RangeLemmas.{all_at, all-weaker, rises, all-back, apart-front, apart-back, apart-between, apart-append, Before}
use Rattle.std.specs.List.{AllByRecursion}
use Rattle.std.proofs.lemmas.Int.{ints, by_lt_z, to_z-of_z}
use Rattle.tsdb_types.specs.Moments.{IsMoment}
use Rattle.tombstones.specs.declared.range.TombRange.{TombRange}
use Rattle.tombstones.specs.Ranges.{Spans, Covers, IsApart, AreApart, CoversAlso}

pub covers-split : (xs ys : List TombRange) (t : ℤ) → Covers (xs ++ ys) t → Covers xs t ⊎ Covers ys t
covers-split [] ys t c = inr c
covers-split (x ∷ xs) ys t (inl s) = inl (inl s)
covers-split (x ∷ xs) ys t (inr c) = elim (covers-split xs ys t c) [ inl a ↦ inl (inr a) | inr b ↦ inr b ]

pub covers-front : (xs ys : List TombRange) (t : ℤ) → Covers xs t → Covers (xs ++ ys) t
covers-front [] ys t c = absurd c
covers-front (x ∷ xs) ys t (inl s) = inl s
covers-front (x ∷ xs) ys t (inr c) = inr (covers-front xs ys t c)

pub covers-back : (xs ys : List TombRange) (t : ℤ) → Covers ys t → Covers (xs ++ ys) t
covers-back [] ys t c = c
covers-back (x ∷ xs) ys t c = inr (covers-back xs ys t c)

-- none has a time that none can have
pub covers_none : (xs : List TombRange) (t : ℤ) → AllByRecursion (λ r. Spans r t → ⊥) xs → Covers xs t → ⊥
covers_none [] t a c = c
covers_none (x ∷ xs) t a (inl s) = a.0 s
covers_none (x ∷ xs) t a (inr c) = covers_none xs t a.1 c

pub covers_place : (xs : List TombRange) (k : ℕ) (d : TombRange) (t : ℤ) → k < length xs → Spans (get_or xs k d) t → Covers xs t
covers_place [] k d t h s = absurd (omega arith)
covers_place (x ∷ xs) zero d t h s = inl s
covers_place (x ∷ xs) (suc k) d t h s = inr (covers_place xs k d t (omega arith) s)

-- what ranges behind a range that is apart from them cover comes later than it begins
behind_starts : (r : TombRange) (xs : List TombRange) (t : ℤ) → r.from ≤ℤ r.to → AllByRecursion (IsApart r) xs → Covers xs t → r.from ≤ℤ t
behind_starts r [] t o a c = absurd c
behind_starts r (x ∷ xs) t o a (inl s) = let far = a.0 in let low = s.0 in omega (arith, ints)
behind_starts r (x ∷ xs) t o a (inr c) = behind_starts r xs t o a.1 c

pub none_ended : (xs : List TombRange) (t : ℤ) → AllByRecursion (λ r. r.to <ℤ t) xs → Covers xs t → ⊥
none_ended [] t a c = c
none_ended (x ∷ xs) t a (inl s) = let end = a.0 in let up = s.1 in absurd (omega (arith, ints))
none_ended (x ∷ xs) t a (inr c) = none_ended xs t a.1 c

-- the first range that doesn't end before the time is the only one that may have it
pub covers_at : (xs : List TombRange) (t : ℤ) (i : ℕ) (r : TombRange) → AreApart xs → AllByRecursion (λ r. r.to <ℤ t) (take i xs) → AllByRecursion (λ r. t ≤ℤ r.to) (drop i xs)
    → i < length xs → r ≡ get_or xs i r → ((r.from ≤ℤ t) → Covers xs t) × (Covers xs t → r.from ≤ℤ t)
covers_at xs t i r apart front back h e =
    let whole : take i xs ++ drop i xs ≡ xs = take-append-drop i xs in
    let cons : drop i xs ≡ get_or xs i r ∷ drop (suc i) xs = drop-cons xs i r h in
    let there : drop i xs ≡ r ∷ drop (suc i) xs = cons ∙ ap (λ (x : TombRange). x ∷ drop (suc i) xs) (sym e) in
    let ends : AllByRecursion (λ r. t ≤ℤ r.to) (r ∷ drop (suc i) xs) = subst (AllByRecursion (λ r. t ≤ℤ r.to)) there back in
    let parts : AreApart (r ∷ drop (suc i) xs) = subst AreApart there (apart-back (take i xs) (drop i xs) (subst AreApart (sym whole) apart)) in (
      λ low. subst (λ (ys : List TombRange). Covers ys t) whole (covers-back (take i xs) (drop i xs) t (subst (λ (ys : List TombRange). Covers ys t) (sym there) (inl (low, ends.0)))),
      λ c. elim (covers-split (take i xs) (drop i xs) t (subst (λ (ys : List TombRange). Covers ys t) (sym whole) c)) [
        | inl a ↦ absurd (none_ended (take i xs) t front a)
        | inr b ↦ elim (subst (λ (ys : List TombRange). Covers ys t) there b) [ inl s ↦ s.0 | inr c ↦ behind_starts r (drop (suc i) xs) t parts.0 parts.1 c ]
      ],
    )

-- m lies round the range and the ranges xs, and has no further time
pub record JoinsAll (range : TombRange) (xs : List TombRange) (m : TombRange) : Type 0 where
  pub low : m.from ≤ℤ range.from
  pub high : range.to ≤ℤ m.to
  pub round : AllByRecursion (λ x. (m.from ≤ℤ x.from) × (x.to ≤ℤ m.to)) xs
  pub left : (t : ℤ) → m.from ≤ℤ t → t <ℤ range.from → Covers xs t
  pub right : (t : ℤ) → range.to <ℤ t → t ≤ℤ m.to → Covers xs t

round_spans : (m : TombRange) (xs : List TombRange) (t : ℤ) → AllByRecursion (λ x. (m.from ≤ℤ x.from) × (x.to ≤ℤ m.to)) xs → Covers xs t → Spans m t
round_spans m [] t a c = absurd c
round_spans m (x ∷ xs) t a (inl s) =
    let low = a.0.0 in let high = a.0.1 in let from = s.0 in let to = s.1 in (omega (arith, ints), omega (arith, ints))
round_spans m (x ∷ xs) t a (inr c) = round_spans m xs t a.1 c

joined_spans : (range m : TombRange) (xs : List TombRange) → JoinsAll range xs m → (t : ℤ) → Spans m t → Covers xs t ⊎ Spans range t
joined_spans range m xs j t s =
    by_lt_z t range.from (λ before. inl (j.left t s.0 before)) (λ from. by_lt_z range.to t (λ after. inl (j.right t after s.1)) (λ to. inr (from, to)))

pub joins : (A B C : List TombRange) (range m : TombRange) → JoinsAll range B m → CoversAlso (A ++ (B ++ C)) range (A ++ (m ∷ C))
joins A B C range m j = record {
  added = λ t s. let low = j.low in let high = j.high in let from = s.0 in let to = s.1 in covers-back A (m ∷ C) t (inl (omega (arith, ints), omega (arith, ints)));
  kept = λ t c. elim (covers-split A (B ++ C) t c) [
    | inl a ↦ covers-front A (m ∷ C) t a
    | inr bc ↦ covers-back A (m ∷ C) t (elim (covers-split B C t bc) [ inl b ↦ inl (round_spans m B t j.round b) | inr c ↦ inr c ])
  ];
  no_other = λ t c. elim (covers-split A (m ∷ C) t c) [
    | inl a ↦ inl (covers-front A (B ++ C) t a)
    | inr mc ↦ elim mc [
      | inl s ↦ elim (joined_spans range m B j t s) [ inl b ↦ inl (covers-back A (B ++ C) t (covers-front B C t b)) | inr s ↦ inr s ]
      | inr c ↦ inl (covers-back A (B ++ C) t (covers-back B C t c))
    ]
  ];
}

before_joined : (A C : List TombRange) (m : TombRange) → AllByRecursion (λ a. IsApart a m) A → Before A C → Before A (m ∷ C)
before_joined [] C m a b = tt
before_joined (x ∷ A) C m a b = ((a.0, b.0), before_joined A C m a.1 b.1)

before_back : (A B C : List TombRange) → Before A (B ++ C) → Before A C
before_back [] B C b = tt
before_back (x ∷ A) B C b = (all-back (IsApart x) B C b.0, before_back A B C b.1)

pub joined_apart : (A B C : List TombRange) (m : TombRange) → AreApart (A ++ (B ++ C)) → m.from ≤ℤ m.to → AllByRecursion (λ a. IsApart a m) A → AllByRecursion (IsApart m) C → AreApart (A ++ (m ∷ C))
joined_apart A B C m apart o front back =
    apart-append A (m ∷ C) (apart-front A (B ++ C) apart) (o, back, apart-back B C (apart-back A (B ++ C) apart))
    (before_joined A C m front (before_back A B C (apart-between A (B ++ C) apart)))

at_middle : (xs : List TombRange) (i j k : ℕ) (d : TombRange) → k < j - i → get_or (take (j - i) (drop i xs)) k d ≡ get_or xs (i + k) d
at_middle xs i j k d h = get_or-take (j - i) (drop i xs) k d h ∙ get_or-drop i xs k d

-- a list in three parts
pub middle : (xs : List TombRange) (i j : ℕ) → i ≤ j → xs ≡ take i xs ++ (take (j - i) (drop i xs) ++ drop j xs)
middle xs i j h =
    let rest : drop (j - i) (drop i xs) ≡ drop j xs = drop-drop (j - i) i xs ∙ ap (λ (n : ℕ). drop n xs) (omega arith) in
    sym (take-append-drop i xs) ∙ ap (λ (ys : List TombRange). take i xs ++ ys) (sym (take-append-drop (j - i) (drop i xs)) ∙ ap (λ (ys : List TombRange). take (j - i) (drop i xs) ++ ys) rest)

-- what is left where one item is set and those behind it, up to a place, are cut out
pub joined_list : (xs : List TombRange) (i j : ℕ) (m : TombRange) → i < j → j ≤ length xs → take (i + 1) (set xs i m) ++ drop j (set xs i m) ≡ take i xs ++ (m ∷ drop j xs)
joined_list xs i j m h g =
    let within : i < length xs = omega arith in
    let front : take (i + 1) (set xs i m) ≡ take i xs ++ (m ∷ []) = ap (λ (n : ℕ). take n (set xs i m)) (add-one i) ∙ take-suc-set xs i m within in
    let back : drop j (set xs i m) ≡ drop j xs = drop-set-lt j xs i m h in
    ap (λ (ys : List TombRange). ys ++ drop j (set xs i m)) front ∙ ap (λ (ys : List TombRange). (take i xs ++ (m ∷ [])) ++ ys) back ∙ append_assoc (take i xs) (m ∷ []) (drop j xs)

-- the earlier and the later of two times
pub record IsEarlier (one other m : ℤ) : Type 0 where
  pub least : (m ≤ℤ one) × (m ≤ℤ other)
  pub either : (m ≡ one) ⊎ (m ≡ other)

pub record IsLater (one other m : ℤ) : Type 0 where
  pub greatest : (one ≤ℤ m) × (other ≤ℤ m)
  pub either : (m ≡ one) ⊎ (m ≡ other)

pub joins_all : (xs : List TombRange) (i j : ℕ) (range first last m : TombRange) → AreApart xs → i < j → j ≤ length xs
    → first ≡ get_or xs i first → last ≡ get_or xs (j - 1) last
    → AllByRecursion (λ r. (range.from -ℤ pos 1) ≤ℤ r.to) (drop i xs) → AllByRecursion (λ r. r.from ≤ℤ (range.to +ℤ pos 1)) (take j xs)
    → IsEarlier range.from first.from m.from → IsLater range.to last.to m.to
    → JoinsAll range (take (j - i) (drop i xs)) m
joins_all xs i j range first last m apart h g e f ends starts early late =
    let B : List TombRange = take (j - i) (drop i xs) in
    let len : length (take (j - i) (drop i xs)) ≡ j - i = length-take-le (j - i) (drop i xs) (omega (arith, length-drop i xs)) in
    let first_ends : (range.from -ℤ pos 1) ≤ℤ first.to =
    subst (λ (r : TombRange). (range.from -ℤ pos 1) ≤ℤ r.to) (sym (e ∙ ap (λ (n : ℕ). get_or xs n first) (omega arith) ∙ sym (get_or-drop i xs 0 first)))
    (all_at (λ r. (range.from -ℤ pos 1) ≤ℤ r.to) (drop i xs) 0 first (omega (arith, length-drop i xs)) ends) in
    let last_starts : last.from ≤ℤ (range.to +ℤ pos 1) =
    subst (λ (r : TombRange). r.from ≤ℤ (range.to +ℤ pos 1)) (sym (f ∙ sym (get_or-take j xs (j - 1) last (omega arith))))
    (all_at (λ r. r.from ≤ℤ (range.to +ℤ pos 1)) (take j xs) (j - 1) last (omega (arith, length-take-le j xs g)) starts) in
    let least = early.least.0 in
    let least' = early.least.1 in
    let greatest = late.greatest.0 in
    let greatest' = late.greatest.1 in
    record {
      low = least;
      high = greatest;
      round = recursion_from_All (λ x. (m.from ≤ℤ x.from) × (x.to ≤ℤ m.to)) (take (j - i) (drop i xs)) (λ k d inside.
          let low : first.from ≤ℤ (get_or xs (i + k) d).from = subst (λ (r : TombRange). r.from ≤ℤ (get_or xs (i + k) d).from) (sym (e ∙ get_or_default xs i first d (omega arith))) (rises xs i (i + k) d (omega arith) (omega arith) apart).1 in
          let high : (get_or xs (i + k) d).to ≤ℤ last.to = subst (λ (r : TombRange). (get_or xs (i + k) d).to ≤ℤ r.to) (sym (f ∙ get_or_default xs (j - 1) last d (omega arith))) (rises xs (i + k) (j - 1) d (omega arith) (omega arith) apart).0 in
          let is = at_middle xs i j k d (omega arith) in
          subst (λ (x : TombRange). (m.from ≤ℤ x.from) × (x.to ≤ℤ m.to)) (sym is) (omega (arith, ints), omega (arith, ints)));
      left = λ t from before. covers_place (take (j - i) (drop i xs)) 0 first t (omega arith)
          (subst (λ (r : TombRange). Spans r t) (e ∙ ap (λ (n : ℕ). get_or xs n first) (omega arith) ∙ sym (at_middle xs i j 0 first (omega arith)))
          (elim early.either [ inl same ↦ absurd (omega (arith, ints)) | inr same ↦ (omega (arith, ints), omega (arith, ints)) ]));
      right = λ t after to. covers_place (take (j - i) (drop i xs)) (j - i - 1) last t (omega arith)
          (subst (λ (r : TombRange). Spans r t) (f ∙ ap (λ (n : ℕ). get_or xs n last) (omega arith) ∙ sym (at_middle xs i j (j - i - 1) last (omega arith)))
          (elim late.either [ inl same ↦ absurd (omega (arith, ints)) | inr same ↦ (omega (arith, ints), omega (arith, ints)) ]));
    }

-- a range that none touches is one more
pub joins_none : (range : TombRange) → JoinsAll range [] range
joins_none range = record {
  low = omega (arith, ints);
  high = omega (arith, ints);
  round = tt;
  left = λ t from before. absurd (omega (arith, ints));
  right = λ t after to. absurd (omega (arith, ints));
}

-- what is drawn from a longer rest holds of a shorter one
pub all_later : {X : Type 0} (P : X → Type 0) (xs : List X) (i j : ℕ) → j ≤ i → AllByRecursion P (drop j xs) → AllByRecursion P (drop i xs)
all_later P xs i j h a =
    let same : drop (i - j) (drop j xs) ≡ drop i xs = drop-drop (i - j) j xs ∙ ap (λ (n : ℕ). drop n xs) (omega arith) in
    subst (AllByRecursion P) same (all-back P (take (i - j) (drop j xs)) (drop (i - j) (drop j xs)) (subst (AllByRecursion P) (sym (take-append-drop (i - j) (drop j xs))) a))

-- one more range among those that it touches none of
pub put_apart : (xs : List TombRange) (i : ℕ) (range : TombRange) → AreApart xs → range.from ≤ℤ range.to
    → AllByRecursion (λ r. r.to <ℤ (range.from -ℤ pos 1)) (take i xs) → AllByRecursion (λ r. (range.to +ℤ pos 1) <ℤ r.from) (drop i xs)
    → CoversAlso xs range (take i xs ++ (range ∷ drop i xs)) × AreApart (take i xs ++ (range ∷ drop i xs))
put_apart xs i range apart o ended later =
    let whole : take i xs ++ drop i xs ≡ xs = take-append-drop i xs in (
      subst (λ (ys : List TombRange). CoversAlso ys range (take i xs ++ (range ∷ drop i xs))) whole (joins (take i xs) [] (drop i xs) range range (joins_none range)),
      joined_apart (take i xs) [] (drop i xs) range (subst AreApart (sym whole) apart) o
          (all-weaker (λ r. r.to <ℤ (range.from -ℤ pos 1)) (λ r. IsApart r range) (λ r far. omega (arith, ints)) (take i xs) ended) later,
    )

front_apart : (A : List TombRange) (from : ℤ) (first m : TombRange) → IsEarlier from first.from m.from → AllByRecursion (λ r. r.to <ℤ (from -ℤ pos 1)) A → AllByRecursion (λ a. IsApart a first) A → AllByRecursion (λ a. IsApart a m) A
front_apart [] from first m early a b = tt
front_apart (x ∷ A) from first m early a b =
    let far = a.0 in
    let near = b.0 in
    (elim early.either [ inl same ↦ omega (arith, ints) | inr same ↦ omega (arith, ints) ], front_apart A from first m early a.1 b.1)

back_apart : (C : List TombRange) (to : ℤ) (last m : TombRange) → IsLater to last.to m.to → AllByRecursion (λ r. (to +ℤ pos 1) <ℤ r.from) C → AllByRecursion (IsApart last) C → AllByRecursion (IsApart m) C
back_apart [] to last m late a b = tt
back_apart (x ∷ C) to last m late a b =
    let far = a.0 in
    let near = b.0 in
    (elim late.either [ inl same ↦ omega (arith, ints) | inr same ↦ omega (arith, ints) ], back_apart C to last m late a.1 b.1)

-- one range in the place of those that it touches
pub put_joined : (xs : List TombRange) (i j : ℕ) (range first last m : TombRange) → AreApart xs → i < j → j ≤ length xs → range.from ≤ℤ range.to
    → first ≡ get_or xs i first → last ≡ get_or xs (j - 1) last
    → AllByRecursion (λ r. r.to <ℤ (range.from -ℤ pos 1)) (take i xs) → AllByRecursion (λ r. (range.from -ℤ pos 1) ≤ℤ r.to) (drop i xs)
    → AllByRecursion (λ r. r.from ≤ℤ (range.to +ℤ pos 1)) (take j xs) → AllByRecursion (λ r. (range.to +ℤ pos 1) <ℤ r.from) (drop j xs)
    → IsEarlier range.from first.from m.from → IsLater range.to last.to m.to
    → CoversAlso xs range (take i xs ++ (m ∷ drop j xs)) × AreApart (take i xs ++ (m ∷ drop j xs))
put_joined xs i j range first last m apart h g o e f ended ends starts later early late =
    let parts : xs ≡ take i xs ++ (take (j - i) (drop i xs) ++ drop j xs) = middle xs i j (omega arith) in
    let joined = joins_all xs i j range first last m apart h g e f ends starts early late in
    let low = early.least.0 in
    let high = late.greatest.0 in
    let cons : drop i xs ≡ first ∷ drop (suc i) xs = drop-cons xs i first (omega arith) ∙ ap (λ (r : TombRange). r ∷ drop (suc i) xs) (sym e) in
    let between : Before (take i xs) (drop i xs) = apart-between (take i xs) (drop i xs) (subst AreApart (sym (take-append-drop i xs)) apart) in
    let near : AllByRecursion (λ a. IsApart a first) (take i xs) =
    all-weaker (λ a. AllByRecursion (IsApart a) (drop i xs)) (λ a. IsApart a first) (λ a all. (subst (AllByRecursion (IsApart a)) cons all).0) (take i xs) between in
    let front : AllByRecursion (λ a. IsApart a m) (take i xs) = front_apart (take i xs) range.from first m early ended near in
    let behind : Before (take j xs) (drop j xs) = apart-between (take j xs) (drop j xs) (subst AreApart (sym (take-append-drop j xs)) apart) in
    let after : AllByRecursion (IsApart last) (drop j xs) =
    subst (λ (r : TombRange). AllByRecursion (IsApart r) (drop j xs)) (sym (f ∙ sym (get_or-take j xs (j - 1) last (omega arith))))
    (all_at (λ a. AllByRecursion (IsApart a) (drop j xs)) (take j xs) (j - 1) last (omega (arith, length-take-le j xs g)) behind) in
    let back : AllByRecursion (IsApart m) (drop j xs) = back_apart (drop j xs) range.to last m late later after in (
      subst (λ (ys : List TombRange). CoversAlso ys range (take i xs ++ (m ∷ drop j xs))) (sym parts) (joins (take i xs) (take (j - i) (drop i xs)) (drop j xs) range m joined),
      joined_apart (take i xs) (take (j - i) (drop i xs)) (drop j xs) m (subst AreApart parts apart) (omega (arith, ints)) front back,
    )

-- a moment has a number before it and one behind it
pub before_moment : (z : ℤ) → IsMoment z → to_z w64 (of_z w64 (z -ℤ pos 1)) ≡ z -ℤ pos 1
before_moment z m = let low = m.least in let high = m.greatest in to_z-of_z w64 (z -ℤ pos 1) (search (arith, rules, ints))

pub behind_moment : (z : ℤ) → IsMoment z → to_z w64 (of_z w64 (z +ℤ pos 1)) ≡ z +ℤ pos 1
behind_moment z m = let low = m.least in let high = m.greatest in to_z-of_z w64 (z +ℤ pos 1) (search (arith, rules, ints))

-- the same fact at an equal time and an equal list
pub moved : (P : ℤ → TombRange → Type 0) (part : List TombRange → List TombRange) {s t : ℤ} {xs ys : List TombRange} → s ≡ t → xs ≡ ys → AllByRecursion (P s) (part xs) → AllByRecursion (P t) (part ys)
moved P part {s} {t} {xs} {ys} e f h = subst (λ (ys : List TombRange). AllByRecursion (P t) (part ys)) f (subst (λ (s : ℤ). AllByRecursion (P s) (part xs)) e h)

pub some_middle : {X : Type 0} (xs : List X) (m : X) (ys : List X) → xs ++ (m ∷ ys) ≡ [] → ⊥
some_middle [] m ys e = cc
some_middle (x ∷ xs) m ys e = cc
