-- Lists of fewest tombstones: a set's list is one, and two that hide the same are one list.
use Rattle.std.proofs.Common.{◌≡◌, ℕ, ℤ, pos, ◌+ℤ◌, ◌≤ℤ◌, ◌<ℤ◌, List, [], ◌∷◌, ◌++◌, ◌⊎◌, inl, inr, refl, sym, ap, ◌∙◌, subst, arith, Vec, Global, ◌↔◌}
use Rattle.std.specs.List.{AllByRecursion}
use Rattle.std.specs.List.Sorted.{IsStrictlySortedBy}
use Rattle.std.specs.Ordering.{nat_cmp, ordering_reverse}
use Rattle.std.specs.declared.cmp.Ordering.TheVariants.{Less, Equal, Greater}
use Rattle.std.specs.Cmp.Lexicographic.{slice_cmp, nat_list_cmp_total}
use Rattle.std.specs.Map.{keys_of}
use Rattle.std.proofs.lemmas.Cmp.{tied_itself}
use Rattle.std.proofs.lemmas.Int.{ints, by_lt_z}
use Rattle.tombstones.specs.declared.range.TombRange.{TombRange}
use Rattle.tombstones.specs.Ranges.{IsApart, AreApart}
use Rattle.tombstones.specs.Covered.{Tomb, Hides, IsBehind, AreFewest}
use Rattle.tombstones.specs.Kept.{Row, tombs_of, tombs_with}
use Rattle.tombstones.proofs.RangeLemmas.{all-append}

-- ---- the tombstones of rows

behind_row : (key : List ℕ) (range : TombRange) (ranges : List TombRange) → AllByRecursion (IsApart range) ranges → AllByRecursion (IsBehind (record { key = key; range = range })) (tombs_with key ranges)
behind_row key range [] a = tt
behind_row key range (next ∷ ranges) a = (inr (refl, a.0), behind_row key range ranges a.1)

row_fewest : (key : List ℕ) (ranges : List TombRange) → AreApart ranges → AreFewest (tombs_with key ranges)
row_fewest key [] a = tt
row_fewest key (range ∷ ranges) a = (a.0, behind_row key range ranges a.1, row_fewest key ranges a.2)

fewest-append : (xs ys : List Tomb) → AreFewest xs → AreFewest ys → AllByRecursion (λ x. AllByRecursion (IsBehind x) ys) xs → AreFewest (xs ++ ys)
fewest-append [] ys a b c = b
fewest-append (x ∷ xs) ys a b c = (a.0, all-append (IsBehind x) xs ys a.1 c.0, fewest-append xs ys a.2 b c.1)

above_one : (tomb : Tomb) (key : List ℕ) (ranges : List TombRange) → slice_cmp nat_cmp tomb.key key ≡ Less → AllByRecursion (IsBehind tomb) (tombs_with key ranges)
above_one tomb key [] less = tt
above_one tomb key (range ∷ ranges) less = (inl less, above_one tomb key ranges less)

above_all : (tomb : Tomb) (rows : List Row) → AllByRecursion (λ (k : Vec ℕ Global). slice_cmp nat_cmp tomb.key k.items ≡ Less) (keys_of rows) → AllByRecursion (IsBehind tomb) (tombs_of rows)
above_all tomb [] a = tt
above_all tomb (row ∷ rows) a = all-append (IsBehind tomb) (tombs_with row.0.items row.1) (tombs_of rows) (above_one tomb row.0.items row.1 a.0) (above_all tomb rows a.1)

rows_above : (key : Vec ℕ Global) (ranges : List TombRange) (rows : List Row) → AllByRecursion (λ (k : Vec ℕ Global). slice_cmp nat_cmp key.items k.items ≡ Less) (keys_of rows)
    → AllByRecursion (λ x. AllByRecursion (IsBehind x) (tombs_of rows)) (tombs_with key.items ranges)
rows_above key [] rows a = tt
rows_above key (range ∷ ranges) rows a = (above_all (record { key = key.items; range = range }) rows a, rows_above key ranges rows a)

pub rows_fewest : (rows : List Row) → IsStrictlySortedBy (λ (x y : Vec ℕ Global). slice_cmp nat_cmp x.items y.items) (keys_of rows) → AllByRecursion (λ row. AreApart row.1) rows → AreFewest (tombs_of rows)
unfolding IsStrictlySortedBy
rows_fewest [] sorted a = tt
rows_fewest (row ∷ rows) sorted a =
    fewest-append (tombs_with row.0.items row.1) (tombs_of rows) (row_fewest row.0.items row.1 a.0) (rows_fewest rows sorted.1 a.1) (rows_above row.0 row.1 rows sorted.0)

-- ---- one list for what is hidden

not_below_itself : (key : List ℕ) → slice_cmp nat_cmp key key ≡ Less → ⊥
not_below_itself key less = let same = tied_itself nat_list_cmp_total key in let both : Less ≡ Equal = sym less ∙ same in cc

not_both_below : (key other : List ℕ) → slice_cmp nat_cmp key other ≡ Less → slice_cmp nat_cmp other key ≡ Less → ⊥
not_both_below key other less more =
    let back = nat_list_cmp_total.antisymm key other in
    let both : Less ≡ Greater = sym less ∙ back ∙ ap ordering_reverse more in
    cc

-- the place is not before the first tombstone
After : Tomb → List ℕ → ℤ → Type 0
After tomb key time = (slice_cmp nat_cmp tomb.key key ≡ Less) ⊎ ((tomb.key ≡ key) × (tomb.range.from ≤ℤ time))

-- the place is behind the tombstone, and not right behind it
Beyond : Tomb → List ℕ → ℤ → Type 0
Beyond tomb key time = (slice_cmp nat_cmp tomb.key key ≡ Less) ⊎ ((tomb.key ≡ key) × ((tomb.range.to +ℤ pos 1) <ℤ time))

beyond : (tomb : Tomb) (tombs : List Tomb) (key : List ℕ) (time : ℤ) → AllByRecursion (IsBehind tomb) tombs → Hides tombs key time → Beyond tomb key time
unfolding Beyond
beyond tomb [] key time a h = absurd h
beyond tomb (next ∷ tombs) key time a (inl s) = elim a.0 [
  | inl less ↦ inl (subst (λ (k : List ℕ). slice_cmp nat_cmp tomb.key k ≡ Less) s.0 less)
  | inr same ↦ let far = same.1 in let low = s.1.0 in inr (same.0 ∙ s.0, omega (arith, ints))
]
beyond tomb (next ∷ tombs) key time a (inr h) = beyond tomb tombs key time a.1 h

after : (tomb : Tomb) (tombs : List Tomb) (key : List ℕ) (time : ℤ) → AreFewest (tomb ∷ tombs) → Hides (tomb ∷ tombs) key time → After tomb key time
unfolding After Beyond
after tomb tombs key time a (inl s) = inr (s.0, s.1.0)
after tomb tombs key time a (inr h) = elim (beyond tomb tombs key time a.1 h) [
  | inl less ↦ inl less
  | inr far ↦ let order = a.0 in let late = far.1 in inr (far.0, omega (arith, ints))
]

same_start : (a b : Tomb) → After b a.key a.range.from → After a b.key b.range.from → (a.key ≡ b.key) × (a.range.from ≡ b.range.from)
unfolding After
same_start a b (inl less) (inl more) = absurd (not_both_below b.key a.key less more)
same_start a b (inl less) (inr same) = absurd (not_below_itself b.key (subst (λ (k : List ℕ). slice_cmp nat_cmp b.key k ≡ Less) same.0 less))
same_start a b (inr same) (inl less) = absurd (not_below_itself a.key (subst (λ (k : List ℕ). slice_cmp nat_cmp a.key k ≡ Less) same.0 less))
same_start a b (inr one) (inr two) = let low = one.1 in let high = two.1 in (two.0, omega (arith, ints))

-- the first ends no earlier than the second, where all that the second hides is hidden by the list of the first
no_earlier : (a b : Tomb) (xs ys : List Tomb) → AreFewest (a ∷ xs) → a.key ≡ b.key → a.range.from ≡ b.range.from
    → ((key : List ℕ) (time : ℤ) → Hides (b ∷ ys) key time → Hides (a ∷ xs) key time) → b.range.to ≤ℤ a.range.to
unfolding Beyond
no_earlier a b xs ys few key from hides = by_lt_z a.range.to b.range.to
    (λ short.
    let order = few.0 in
    let there : Hides (a ∷ xs) a.key (a.range.to +ℤ pos 1) = hides a.key (a.range.to +ℤ pos 1) (inl (sym key, (omega (arith, ints), omega (arith, ints)))) in
    elim there [
      | inl s ↦ let high = s.1.1 in absurd (omega (arith, ints))
      | inr h ↦ elim (beyond a xs a.key (a.range.to +ℤ pos 1) few.1 h) [ inl less ↦ absurd (not_below_itself a.key less) | inr far ↦ let late = far.1 in absurd (omega (arith, ints)) ]
    ])
    (λ long. long)

tail_hides : (a b : Tomb) (xs ys : List Tomb) → AreFewest (a ∷ xs) → a ≡ b → ((key : List ℕ) (time : ℤ) → Hides (a ∷ xs) key time → Hides (b ∷ ys) key time)
    → (key : List ℕ) (time : ℤ) → Hides xs key time → Hides ys key time
unfolding Beyond
tail_hides a b xs ys few same hides key time h = elim (hides key time (inr h)) [
  | inl s ↦ elim (beyond a xs key time few.1 h) [
    | inl less ↦ absurd (not_below_itself a.key (subst (λ (k : List ℕ). slice_cmp nat_cmp a.key k ≡ Less) (sym s.0 ∙ ap (λ (t : Tomb). t.key) (sym same)) less))
    | inr far ↦ let late = far.1 in let high = s.1.1 in let ends = ap (λ (t : Tomb). t.range.to) same in absurd (omega (arith, ints))
  ]
  | inr later ↦ later
]

first_hides : (a : Tomb) (xs : List Tomb) → AreFewest (a ∷ xs) → Hides (a ∷ xs) a.key a.range.from
first_hides a xs few = let order = few.0 in inl (refl, (omega (arith, ints), order))

same_tomb : (a b : Tomb) → a.key ≡ b.key → a.range.from ≡ b.range.from → a.range.to ≡ b.range.to → a ≡ b
same_tomb a b key from to = λ i. record { key = key i; range = record { from = from i; to = to i } }

pub same_list : (some others : List Tomb) → AreFewest some → AreFewest others → ((key : List ℕ) (time : ℤ) → Hides some key time ↔ Hides others key time) → some ≡ others
same_list [] [] f g same = refl
same_list [] (b ∷ ys) f g same = absurd ((same b.key b.range.from).1 (first_hides b ys g))
same_list (a ∷ xs) [] f g same = absurd ((same a.key a.range.from).0 (first_hides a xs f))
same_list (a ∷ xs) (b ∷ ys) f g same =
    let start = same_start a b (after b ys a.key a.range.from g ((same a.key a.range.from).0 (first_hides a xs f))) (after a xs b.key b.range.from f ((same b.key b.range.from).1 (first_hides b ys g))) in
    let high = no_earlier a b xs ys f start.0 start.1 (λ key time. (same key time).1) in
    let low = no_earlier b a ys xs g (sym start.0) (sym start.1) (λ key time. (same key time).0) in
    let one : a ≡ b = same_tomb a b start.0 start.1 (omega (arith, ints)) in
    let rest = same_list xs ys f.2 g.2 (λ key time. (tail_hides a b xs ys f one (λ k t. (same k t).0) key time, tail_hides b a ys xs g (sym one) (λ k t. (same k t).1) key time)) in
    cc (one, rest)
