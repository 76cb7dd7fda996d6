-- What is picked out of a list, and the blocks that meet the bounds.
use Rattle.std.proofs.Common.{◌≡◌, ℕ, zero, suc, ◌+◌, ◌-◌, ◌≤◌, ◌<◌, ℤ, ◌≤ℤ◌, ◌<ℤ◌, Bool, true, false, IsTrue, List, [], ◌∷◌, ◌++◌, length, take, drop, get_or, Option, None, Some, inl, inr, refl, sym, ap, ◌∙◌, subst, arith}
use Rattle.std.specs.List.{AllByRecursion, items_where_true}
use Rattle.std.specs.List.Retain.{IsFiltered, ReturnsInTurn}
use Rattle.std.specs.List.Sorted.{IsPartitionedBy}
use Rattle.std.specs.Int.Signed.{lt_z, le_z}
use Rattle.std.proofs.lemmas.Int.{ints}
use Rattle.std.proofs.lemmas.Bool.{false≢true}
use Rattle.std.proofs.lemmas.List.{append-nil, take-append-drop, take-take, drop-drop, drop-append-le, length-take-le}
use Rattle.tsm_format.specs.declared.entry.Entry.{Entry}
use Rattle.tsm_format.specs.Rows.{AreEntries}
use Rattle.tombstones.proofs.RangeLemmas.{all-front, all-back, all-weaker}
use Rattle.tsm_file.specs.ReadPoints.{Meets, Picks}

-- ---- what is picked

module _ {X : Type 0} (P : X → Type 0) where
  pub picks-none : (xs : List X) → AllByRecursion (λ x. P x → ⊥) xs → Picks P xs []
  picks-none [] all = refl
  picks-none (x ∷ xs) all = inr (all.0, picks-none xs all.1)

  pub picks-all : (xs : List X) → AllByRecursion P xs → Picks P xs xs
  picks-all [] all = refl
  picks-all (x ∷ xs) all = inl (xs, all.0, picks-all xs all.1, refl)

  pub picks-append : (xs ys a b : List X) → Picks P xs a → Picks P ys b → Picks P (xs ++ ys) (a ++ b)
  picks-append [] ys a b h k = subst (λ (l : List X). Picks P ys (l ++ b)) (sym h) k
  picks-append (x ∷ xs) ys a b (inl h) k = inl (h.0 ++ b, h.1, picks-append xs ys h.0 b h.2 k, ap (λ (l : List X). l ++ b) h.3)
  picks-append (x ∷ xs) ys a b (inr h) k = inr (h.0, picks-append xs ys a b h.1 k)

  pub picks-once : (xs a b : List X) → Picks P xs a → Picks P xs b → a ≡ b
  picks-once [] a b h k = h ∙ sym k
  picks-once (x ∷ xs) a b (inl h) (inl k) = h.3 ∙ ap (λ (l : List X). x ∷ l) (picks-once xs h.0 k.0 h.2 k.2) ∙ sym k.3
  picks-once (x ∷ xs) a b (inl h) (inr k) = absurd (k.0 h.1)
  picks-once (x ∷ xs) a b (inr h) (inl k) = absurd (h.0 k.1)
  picks-once (x ∷ xs) a b (inr h) (inr k) = picks-once xs a b h.1 k.1

  -- the same items have another fact
  pub picks-same : (Q : X → Type 0) → ((x : X) → P x → Q x) → ((x : X) → Q x → P x) → (xs ys : List X) → Picks P xs ys → Picks Q xs ys
  picks-same Q to from [] ys h = h
  picks-same Q to from (x ∷ xs) ys (inl h) = inl (h.0, to x h.1, picks-same Q to from xs h.0 h.2, h.3)
  picks-same Q to from (x ∷ xs) ys (inr h) = inr (λ q. h.0 (from x q), picks-same Q to from xs ys h.1)

  -- what is picked from a list in two parts, part by part
  pub record PicksBoth (xs ys picked : List X) : Type 0 where
    pub first : List X
    pub second : List X
    pub from_first : Picks P xs first
    pub from_second : Picks P ys second
    pub both : picked ≡ first ++ second

  pub picks-parts : (xs ys picked : List X) → Picks P (xs ++ ys) picked → PicksBoth xs ys picked
  picks-parts [] ys picked h = record { first = []; second = picked; from_first = refl; from_second = h; both = refl }
  picks-parts (x ∷ xs) ys picked (inl h) =
      let rest = picks-parts xs ys h.0 h.2 in
      record {
        first = x ∷ rest.first;
        second = rest.second;
        from_first = inl (rest.first, h.1, rest.from_first, refl);
        from_second = rest.from_second;
        both = h.3 ∙ ap (λ (l : List X). x ∷ l) rest.both;
      }
  picks-parts (x ∷ xs) ys picked (inr h) =
      let rest = picks-parts xs ys picked h.1 in
      record { first = rest.first; second = rest.second; from_first = inr (h.0, rest.from_first); from_second = rest.from_second; both = rest.both }

  -- a test that says of each item whether it is picked
  module _ {F : Type 0} (R : F → X → Bool → F → Type 0) (f : F) (says : (x : X) (b : Bool) (f' : F) → R f x b f' → (IsTrue b → P x) × (P x → IsTrue b) × (f' ≡ f)) where
    in_turn : (bs : List Bool) (xs : List X) (q : F) → length bs ≡ length xs → ReturnsInTurn R f bs xs q → Picks P xs (items_where_true bs xs)
    in_turn [] [] q len h = refl
    in_turn [] (x ∷ xs) q len h = absurd (omega arith)
    in_turn (b ∷ bs) [] q len h = absurd (omega arith)
    in_turn (true ∷ bs) (x ∷ xs) q len h =
        let at = says x true h.0 h.1 in
        let rest = subst (λ (k : F). ReturnsInTurn R k bs xs q) at.2 h.2 in
        inl (items_where_true bs xs, at.0 refl, in_turn bs xs q (omega arith) rest, refl)
    in_turn (false ∷ bs) (x ∷ xs) q len h =
        let at = says x false h.0 h.1 in
        let rest = subst (λ (k : F). ReturnsInTurn R k bs xs q) at.2 h.2 in
        inr (λ p. false≢true (at.1 p), in_turn bs xs q (omega arith) rest)

    pub picks-retain : (xs ys : List X) → IsFiltered R f xs ys → Picks P xs ys
    picks-retain xs ys h = subst (Picks P xs) (sym h.4) (in_turn h.0 xs h.1 h.2 h.3)

-- ---- the order of the blocks of a key

later : (last : ℤ) (place : ℕ) (xs : List Entry) (j : ℕ) (d : Entry) → j < length xs → AreEntries (Some last) place xs → (last <ℤ (get_or xs j d).min) × ((get_or xs j d).min ≤ℤ (get_or xs j d).max)
later last place [] j d lt are = absurd (omega arith)
later last place (x ∷ xs) zero d lt are = (are.1, are.0.order)
later last place (x ∷ xs) (suc j) d lt are =
    let rest = later x.max (place + x.size) xs j d (omega arith) are.2 in
    let first : last <ℤ x.min = are.1 in
    let order = are.0.order in
    let far = rest.0 in
    (omega (arith, ints), rest.1)

pub entries_rise : (last : Option ℤ) (place : ℕ) (xs : List Entry) (i j : ℕ) (d : Entry) → i ≤ j → j < length xs → AreEntries last place xs
    → ((get_or xs i d).max ≤ℤ (get_or xs j d).max) × ((get_or xs i d).min ≤ℤ (get_or xs j d).min)
entries_rise last place [] i j d le lt are = absurd (omega arith)
entries_rise last place (x ∷ xs) zero zero d le lt are = (omega (arith, ints), omega (arith, ints))
entries_rise last place (x ∷ xs) (suc i) zero d le lt are = absurd (omega arith)
entries_rise last place (x ∷ xs) zero (suc j) d le lt are =
    let rest = later x.max (place + x.size) xs j d (omega arith) are.2 in
    let order = are.0.order in
    let far = rest.0 in
    let own = rest.1 in
    (omega (arith, ints), omega (arith, ints))
entries_rise last place (x ∷ xs) (suc i) (suc j) d le lt are = entries_rise (Some x.max) (place + x.size) xs i j d (omega arith) (omega arith) are.2

pub parted_by_max : (place : ℕ) (xs : List Entry) (time : ℤ) → AreEntries None place xs → IsPartitionedBy (λ e. lt_z e.max time) xs
parted_by_max place xs time are i j d g h e =
    let up = (entries_rise None place xs i j d g h are).0 in
    grind (arith, ints)

pub parted_by_min : (place : ℕ) (xs : List Entry) (time : ℤ) → AreEntries None place xs → IsPartitionedBy (λ e. le_z e.min time) xs
parted_by_min place xs time are i j d g h e =
    let up = (entries_rise None place xs i j d g h are).1 in
    grind (arith, ints)

-- ---- the blocks that meet the bounds stand between two places

never_meets-behind : (from to : ℤ) (e : Entry) → to <ℤ e.min → Meets from to e → ⊥
never_meets-behind from to e far meets = let before = meets.before in omega (arith, ints)

never_meets-before : (from to : ℤ) (e : Entry) → e.max <ℤ from → Meets from to e → ⊥
never_meets-before from to e far meets = let behind = meets.behind in omega (arith, ints)

never_meets : (from to : ℤ) (e : Entry) → to <ℤ from → Meets from to e → ⊥
never_meets from to e none meets = let some = meets.some in omega (arith, ints)

all_never : {X : Type 0} (P : X → Type 0) → ((x : X) → P x) → (xs : List X) → AllByRecursion P xs
all_never P f [] = tt
all_never P f (x ∷ xs) = (f x, all_never P f xs)

pub none_meet : (from to : ℤ) (xs : List Entry) → to <ℤ from → Picks (Meets from to) xs []
none_meet from to xs none = picks-none (Meets from to) xs (all_never (λ e. Meets from to e → ⊥) (λ e. never_meets from to e none) xs)

all_meet : (from to : ℤ) (xs : List Entry) → from ≤ℤ to → AllByRecursion (λ e. e.min ≤ℤ to) xs → AllByRecursion (λ e. from ≤ℤ e.max) xs → AllByRecursion (Meets from to) xs
all_meet from to [] some a b = tt
all_meet from to (x ∷ xs) some a b = (record { some = some; behind = b.0; before = a.0 }, all_meet from to xs some a.1 b.1)

-- those in front of the one place end too early, those behind the other begin too late
pub between : (from to : ℤ) (xs : List Entry) (first end : ℕ) → from ≤ℤ to → first ≤ end → end ≤ length xs
    → AllByRecursion (λ e. e.max <ℤ from) (take first xs) → AllByRecursion (λ e. from ≤ℤ e.max) (drop first xs)
    → AllByRecursion (λ e. e.min ≤ℤ to) (take end xs) → AllByRecursion (λ e. to <ℤ e.min) (drop end xs)
    → Picks (Meets from to) xs (drop first (take end xs))
between from to xs first end some le fits early late begun behind =
    let front : List Entry = take end xs in
    let split : take first front ++ drop first front ≡ front = take-append-drop first front in
    let one : take first front ≡ take first xs = take-take first end xs le in
    let whole : front ++ drop end xs ≡ xs = take-append-drop end xs in
    let len : length front ≡ end = length-take-le end xs fits in
    let rest : drop first xs ≡ drop first front ++ drop end xs = ap (drop first) (sym whole) ∙ drop-append-le first front (drop end xs) (omega arith) in
    let early' = picks-none (Meets from to) (take first front)
    (all-weaker (λ e. e.max <ℤ from) (λ e. Meets from to e → ⊥) (λ e far. never_meets-before from to e far) (take first front) (subst (AllByRecursion (λ e. e.max <ℤ from)) (sym one) early)) in
    let mid = picks-all (Meets from to) (drop first front)
    (all_meet from to (drop first front) some (all-back (λ e. e.min ≤ℤ to) (take first front) (drop first front) (subst (AllByRecursion (λ e. e.min ≤ℤ to)) (sym split) begun))
    (all-front (λ e. from ≤ℤ e.max) (drop first front) (drop end xs) (subst (AllByRecursion (λ e. from ≤ℤ e.max)) rest late))) in
    let late' = picks-none (Meets from to) (drop end xs) (all-weaker (λ e. to <ℤ e.min) (λ e. Meets from to e → ⊥) (λ e far. never_meets-behind from to e far) (drop end xs) behind) in
    let in_front = subst (λ (l : List Entry). Picks (Meets from to) l (drop first front)) split (picks-append (Meets from to) (take first front) (drop first front) [] (drop first front) early' mid) in
    let all = picks-append (Meets from to) front (drop end xs) (drop first front) [] in_front late' in
    subst (λ (l : List Entry). Picks (Meets from to) l (drop first front)) whole (subst (Picks (Meets from to) (front ++ drop end xs)) (append-nil (drop first front)) all)

-- no block is behind the one place and in front of the other
pub none_between : (from to : ℤ) (xs : List Entry) (first end : ℕ) → end < first
    → AllByRecursion (λ e. e.max <ℤ from) (take first xs) → AllByRecursion (λ e. to <ℤ e.min) (drop end xs) → Picks (Meets from to) xs []
none_between from to xs first end lt early behind =
    let whole : take first xs ++ drop first xs ≡ xs = take-append-drop first xs in
    let cut : take (first - end) (drop end xs) ++ drop (first - end) (drop end xs) ≡ drop end xs = take-append-drop (first - end) (drop end xs) in
    let same : drop (first - end) (drop end xs) ≡ drop first xs = drop-drop (first - end) end xs ∙ ap (λ (n : ℕ). drop n xs) (omega arith) in
    let late = subst (AllByRecursion (λ e. to <ℤ e.min)) same
    (all-back (λ e. to <ℤ e.min) (take (first - end) (drop end xs)) (drop (first - end) (drop end xs)) (subst (AllByRecursion (λ e. to <ℤ e.min)) (sym cut) behind)) in
    let one = picks-none (Meets from to) (take first xs) (all-weaker (λ e. e.max <ℤ from) (λ e. Meets from to e → ⊥) (λ e far. never_meets-before from to e far) (take first xs) early) in
    let other = picks-none (Meets from to) (drop first xs) (all-weaker (λ e. to <ℤ e.min) (λ e. Meets from to e → ⊥) (λ e far. never_meets-behind from to e far) (drop first xs) late) in
    subst (λ (l : List Entry). Picks (Meets from to) l []) whole (picks-append (Meets from to) (take first xs) (drop first xs) [] [] one other)
