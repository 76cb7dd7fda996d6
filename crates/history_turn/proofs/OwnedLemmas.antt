-- What lists have in common where they have the same items, or where one's are among the other's.
use Rattle.std.proofs.Common.{◌≡◌, ◌≢◌, ℕ, zero, suc, ◌+◌, ◌-◌, ◌<◌, ◌≤◌, List, [], ◌∷◌, ◌++◌, length, Bool, true, false, cond, eqb, eq-eqb, eqb-true, ne_eqb, Contains, flat_map, map, true≢false, sym, refl, ap, ◌∙◌, subst, ⊎_elim, arith}
use Rattle.std.specs.List.{IsDistinct, AllByRecursion}
use Rattle.std.proofs.lemmas.Bool.Decides.{eqb_tells}
use Rattle.history_turn.specs.Histories.{numbers_after}
use Rattle.history_turn.specs.Owned.{weigh, SameItems, IsAmong, SameChange, without}

module _ {A : Type 0} where
  pub weigh-append : (f : A → ℕ) (xs ys : List A) → weigh f (xs ++ ys) ≡ weigh f xs + weigh f ys
  weigh-append f [] ys = omega arith
  weigh-append f (x ∷ xs) ys = let more = weigh-append f xs ys in omega arith

  -- the total over lists of lists
  pub weigh-flat_map : {B : Type 0} (f : A → ℕ) (g : B → List A) (vs : List B) → weigh f (flat_map g vs) ≡ weigh (λ v. weigh f (g v)) vs
  weigh-flat_map f g [] = refl
  weigh-flat_map f g (v ∷ vs) = let more = weigh-flat_map f g vs in let here = weigh-append f (g v) (flat_map g vs) in omega arith

  pub same_self : (xs : List A) → SameItems xs xs
  same_self xs = record { same = λ f. refl }

  pub same_sym : (xs ys : List A) → SameItems xs ys → SameItems ys xs
  same_sym xs ys s = record { same = λ f. sym (s.same f) }

  pub same_trans : (xs ys zs : List A) → SameItems xs ys → SameItems ys zs → SameItems xs zs
  same_trans xs ys zs s t = record { same = λ f. s.same f ∙ t.same f }

  pub among_of_same : (xs ys : List A) → SameItems xs ys → IsAmong xs ys
  among_of_same xs ys s = record { most = λ f. let e = s.same f in omega arith }

  weigh-one : (xs : List A) → weigh (λ _. 1) xs ≡ length xs
  weigh-one [] = refl
  weigh-one (x ∷ xs) = let more = weigh-one xs in omega arith

  pub same_length : (xs ys : List A) → SameItems xs ys → length xs ≡ length ys
  same_length xs ys s = sym (weigh-one xs) ∙ (s.same (λ _. 1) ∙ weigh-one ys)

  pub among_length : (xs ys : List A) → IsAmong xs ys → length xs ≤ length ys
  among_length xs ys s =
      let few = s.most (λ _. 1) in
      let x = weigh-one xs in
      let y = weigh-one ys in
      omega arith

  -- nothing was begun or ended
  pub change_none : (found mine : List A) → SameChange found found mine mine
  change_none found mine = record { same = λ f. refl }

  -- one item was begun
  pub change_begun : (x : A) (found mine : List A) → SameChange found (x ∷ found) mine (x ∷ mine)
  change_begun x found mine = record { same = λ f. omega arith }

  -- 1 for an item that passes
  abbrev pub passing : (A → Bool) → A → ℕ
  passing test x = cond (test x) 1 0

  passes_1 : (test : A → Bool) (x : A) → test x ≡ true → passing test x ≡ 1
  passes_1 test x e = ap (λ b. cond b 1 0) e

  -- an item that passes weighs
  pub weighs : (test : A → Bool) (xs : List A) (x : A) → Contains xs x → test x ≡ true → 1 ≤ weigh (passing test) xs
  weighs test [] x at e = absurd (omega (arith, at.1))
  weighs test (y ∷ ys) x (zero, _, is) e = let one = passes_1 test y (ap test is ∙ e) in omega arith
  weighs test (y ∷ ys) x (suc k, below, is) e = let more = weighs test ys x (k, (omega arith), is) e in omega arith

  -- where some item weighs, one is there that passes
  pub weighed : (test : A → Bool) (xs : List A) → 1 ≤ weigh (passing test) xs → (x : A) × Contains xs x × (test x ≡ true)
  weighed test [] one = absurd (omega arith)
  weighed test (x ∷ xs) one = by_test (test x) refl (λ least. weighed test xs least)
    where
      by_test : (b : Bool) → test x ≡ b → (1 ≤ weigh (passing test) xs → (y : A) × Contains xs y × (test y ≡ true)) → (y : A) × Contains (x ∷ xs) y × (test y ≡ true)
      by_test true e later = (x, (0, (omega arith), refl), e)
      by_test false e later =
          let fails : passing test x ≡ 0 = ap (λ b. cond b 1 0) e in
          let more = later (omega arith) in
          (more.0, (suc more.1.0, (omega (arith, more.1.1)), more.1.2), more.2)

  -- an item that passes a test is among the others: one that passes is there
  pub among_passes : (test : A → Bool) (xs ys : List A) (x : A) → IsAmong xs ys → Contains xs x → test x ≡ true → (y : A) × Contains ys y × (test y ≡ true)
  among_passes test xs ys x few at e =
      let one = weighs test xs x at e in
      let most = few.most (passing test) in
      weighed test ys (omega arith)

  -- an item of the one list is an item of the other, where a test tells it from all others
  pub among_contains : (test : A → Bool) (xs ys : List A) (x : A) → (test x ≡ true) → ((y : A) → test y ≡ true → y ≡ x) → IsAmong xs ys → Contains xs x → Contains ys x
  among_contains test xs ys x e alone few at =
      let found = among_passes test xs ys x few at e in
      subst (Contains ys) (alone found.0 found.2) found.1

  -- the weight of an item that passes, and 0 of any other
  abbrev pub only : (A → Bool) → (A → ℕ) → A → ℕ
  only test f x = cond (test x) (f x) 0

  only_passes : (test : A → Bool) (f : A → ℕ) (x : A) → test x ≡ true → only test f x ≡ f x
  only_passes test f x e = ap (λ b. cond b (f x) 0) e

  only_fails : (test : A → Bool) (f : A → ℕ) (x : A) → test x ≡ false → only test f x ≡ 0
  only_fails test f x e = ap (λ b. cond b (f x) 0) e

  none_pass : (test : A → Bool) (f : A → ℕ) (xs : List A) → weigh (passing test) xs ≤ 0 → weigh (only test f) xs ≡ 0
  none_pass test f [] few = refl
  none_pass test f (x ∷ xs) few = let more = none_pass test f xs (omega arith) in by_test (test x) refl more
    where
      by_test : (b : Bool) → test x ≡ b → weigh (only test f) xs ≡ 0 → weigh (only test f) (x ∷ xs) ≡ 0
      by_test true e more = let one = passes_1 test x e in absurd (omega arith)
      by_test false e more = let here = only_fails test f x e in omega arith

  -- where one item at most passes, what is left without it weighs so much less
  pub weigh-without : (test : A → Bool) (f : A → ℕ) (xs : List A) → weigh (passing test) xs ≤ 1 → weigh f (without test xs) + weigh (only test f) xs ≡ weigh f xs
  weigh-without test f [] few = refl
  weigh-without test f (x ∷ xs) few = let more = weigh-without test f xs (omega arith) in by_test (test x) refl more
    where
      by_test : (b : Bool) → test x ≡ b → weigh f (without test xs) + weigh (only test f) xs ≡ weigh f xs → weigh f (without test (x ∷ xs)) + weigh (only test f) (x ∷ xs) ≡ weigh f (x ∷ xs)
      by_test true e more =
          let one = passes_1 test x e in
          let here = only_passes test f x e in
          let none = none_pass test f xs (omega arith) in
          let left = ap (λ b. weigh f (cond b xs (x ∷ without test xs))) e in
          omega arith
      by_test false e more =
          let here = only_fails test f x e in
          let left = ap (λ b. weigh f (cond b xs (x ∷ without test xs))) e in
          omega arith

  -- where one item passes, the lack of its weight to n is the lack of its weight
  lacks : (test : A → Bool) (f : A → ℕ) (n : ℕ) (xs : List A) → weigh (passing test) xs ≡ 1 → weigh (only test (λ x. n - f x)) xs ≡ n - weigh (only test f) xs
  lacks test f n [] one = absurd (omega arith)
  lacks test f n (x ∷ xs) one = by_test (test x) refl (λ rest_one. lacks test f n xs rest_one)
    where
      by_test : (b : Bool) → test x ≡ b → (weigh (passing test) xs ≡ 1 → weigh (only test (λ x. n - f x)) xs ≡ n - weigh (only test f) xs) → weigh (only test (λ x. n - f x)) (x ∷ xs) ≡ n - weigh (only test f) (x ∷ xs)
      by_test true e later =
          let here_one = passes_1 test x e in
          let here = only_passes test f x e in
          let lack = only_passes test (λ x. n - f x) x e in
          let none = none_pass test f xs (omega arith) in
          let none_too = none_pass test (λ x. n - f x) xs (omega arith) in
          omega arith
      by_test false e later =
          let fails : passing test x ≡ 0 = ap (λ b. cond b 1 0) e in
          let here = only_fails test f x e in
          let lack = only_fails test (λ x. n - f x) x e in
          let more = later (omega arith) in
          omega arith

  -- where one item at most passes in the longer list, and one does in the other, it is the same
  same_only : (test : A → Bool) (f : A → ℕ) (xs ys : List A) → IsAmong xs ys → weigh (passing test) ys ≤ 1 → 1 ≤ weigh (passing test) xs → weigh (only test f) xs ≡ weigh (only test f) ys
  same_only test f xs ys few most least =
      let n = weigh (only test f) xs + weigh (only test f) ys in
      let up = few.most (only test f) in
      let down = few.most (only test (λ x. n - f x)) in
      let one = few.most (passing test) in
      let lack_x = lacks test f n xs (omega arith) in
      let lack_y = lacks test f n ys (omega arith) in
      omega arith

  -- One item was ended, of those that a test passes: it passes one of the value's at most.
  pub change_ended : (test : A → Bool) (found mine : List A) (x : A) → Contains mine x → test x ≡ true → weigh (passing test) found ≤ 1 → IsAmong mine found
      → SameChange found (without test found) mine (without test mine)
  change_ended test found mine x at e most few = record {
    same = λ f.
        let least = weighs test mine x at e in
        let fewer = few.most (passing test) in
        let a = weigh-without test f found most in
        let b = weigh-without test f mine (omega arith) in
        let c = same_only test f mine found few most least in
        omega arith;
  }

-- the numbers of the first a + b entries are those of the first a and of the next b
pub weigh-numbers_after : (f : ℕ → ℕ) (n a b : ℕ) → weigh f (numbers_after n (a + b)) ≡ weigh f (numbers_after (n + a) b) + weigh f (numbers_after n a)
weigh-numbers_after f n a zero = let e : a + zero ≡ a = omega arith in rw e (omega arith)
weigh-numbers_after f n a (suc b) =
    let e : a + suc b ≡ suc (a + b) = omega arith in
    let k : n + suc (a + b) ≡ n + a + suc b = omega arith in
    let more = weigh-numbers_after f n a b in
    rw (e, k) (omega arith)

-- a number that comes after all of them isn't there
numbers_below : (n count k : ℕ) → n + count < k → weigh (passing (eqb k)) (numbers_after n count) ≡ 0
numbers_below n zero k above = refl
numbers_below n (suc count) k above =
    let more = numbers_below n count k (omega arith) in
    let other : passing (eqb k) (n + suc count) ≡ 0 = ap (λ b. cond b 1 0) (ne_eqb k (n + suc count) (λ e. absurd (omega arith))) in
    omega arith

-- each number is there once at most
numbers_once : (n count k : ℕ) → weigh (passing (eqb k)) (numbers_after n count) ≤ 1
numbers_once n zero k = omega arith
numbers_once n (suc count) k = ⊎_elim
    (λ (t : (eqb k (n + suc count) ≡ true) × (k ≡ n + suc count)).
    let one : passing (eqb k) (n + suc count) ≡ 1 = ap (λ b. cond b 1 0) t.0 in
    let none = numbers_below n count k (omega (arith, t.1)) in
    omega arith)
    (λ (t : (eqb k (n + suc count) ≡ false) × (k ≢ n + suc count)).
    let zero_here : passing (eqb k) (n + suc count) ≡ 0 = ap (λ b. cond b 1 0) t.0 in
    let more = numbers_once n count k in
    omega arith)
    (eqb_tells k (n + suc count))

-- they are those above n, up to n + count
pub numbers_range : (n count k : ℕ) → Contains (numbers_after n count) k → (n < k) × (k ≤ n + count)
numbers_range n zero k at = absurd (omega (arith, at.1))
numbers_range n (suc count) k (zero, _, is) = ((omega (arith, is)), (omega (arith, is)))
numbers_range n (suc count) k (suc i, below, is) =
    let more = numbers_range n count k (i, (omega arith), is) in
    ((omega (arith, more.0)), (omega (arith, more.1)))

pub numbers_contain : (n count k : ℕ) → n < k → k ≤ n + count → Contains (numbers_after n count) k
numbers_contain n zero k above below = absurd (omega arith)
numbers_contain n (suc count) k above below = ⊎_elim
    (λ (t : (eqb k (n + suc count) ≡ true) × (k ≡ n + suc count)). (0, (omega arith), sym t.1))
    (λ (t : (eqb k (n + suc count) ≡ false) × (k ≢ n + suc count)).
    let no_top = t.1 in
    let more = numbers_contain n count k above (omega arith) in
    (suc more.0, (omega (arith, more.1)), more.2))
    (eqb_tells k (n + suc count))

pub length-numbers_after : (n count : ℕ) → length (numbers_after n count) ≡ count
length-numbers_after n zero = refl
length-numbers_after n (suc count) = let more = length-numbers_after n count in omega arith

distinct_of_once : (ks : List ℕ) → ((k : ℕ) → weigh (passing (eqb k)) ks ≤ 1) → IsDistinct eqb ks
unfolding IsDistinct
distinct_of_once [] once = tt
distinct_of_once (k ∷ ks) once =
    let here : passing (eqb k) k ≡ 1 = ap (λ b. cond b 1 0) (eq-eqb k k refl) in
    let o = once k in (
      none ks (omega arith),
      distinct_of_once ks (λ j. let more = once j in omega arith),
    )
  where
    none : (js : List ℕ) → weigh (passing (eqb k)) js ≤ 0 → AllByRecursion (λ j. eqb k j ≡ false) js
    none [] few = tt
    none (j ∷ js) few = ⊎_elim
        (λ (t : (eqb k j ≡ true) × (k ≡ j)).
        let one : passing (eqb k) j ≡ 1 = ap (λ b. cond b 1 0) t.0 in
        absurd (omega arith))
        (λ (t : (eqb k j ≡ false) × (k ≢ j)). (t.0, none js (omega arith)))
        (eqb_tells k j)

-- Each number that a pass owns is owned once.
pub own_once : (n count : ℕ) (own : List ℕ) → IsAmong own (numbers_after n count) → IsDistinct eqb own
own_once n count own few = distinct_of_once own (λ k. let a = few.most (passing (eqb k)) in let b = numbers_once n count k in omega arith)

-- Each number that a pass owns is above the first number and at most the last.
pub own_known : (n count : ℕ) (own : List ℕ) (k : ℕ) → IsAmong own (numbers_after n count) → Contains own k → (n < k) × (k ≤ n + count)
own_known n count own k few at = numbers_range n count k (among_contains (eqb k) own (numbers_after n count) k (eq-eqb k k refl) (λ j e. sym (eqb-true k j e)) few at)

-- A pass that has all parts owns each number.
pub own_all : (n count : ℕ) (own : List ℕ) (k : ℕ) → SameItems own (numbers_after n count) → n < k → k ≤ n + count → Contains own k
own_all n count own k same above below =
    among_contains (eqb k) (numbers_after n count) own k (eq-eqb k k refl) (λ j e. sym (eqb-true k j e))
    (among_of_same (numbers_after n count) own (same_sym own (numbers_after n count) same)) (numbers_contain n count k above below)

-- The history grew, and what the pass owns is still of it.
pub own_grown : (n a b : ℕ) (own : List ℕ) → IsAmong own (numbers_after n a) → IsAmong own (numbers_after n (a + b))
own_grown n a b own few = record { most = λ f. let m = few.most f in let e = weigh-numbers_after f n a b in omega arith }

-- The pass added entries, and their numbers are its own beside those that it had.
pub own_added : (n a b : ℕ) (own : List ℕ) → IsAmong own (numbers_after n a) → IsAmong (numbers_after (n + a) b ++ own) (numbers_after n (a + b))
own_added n a b own few = record {
  most = λ f.
      let m = few.most f in
      let e = weigh-numbers_after f n a b in
      let t = weigh-append f (numbers_after (n + a) b) own in
      omega arith;
}

-- Items with distinct keys: one at most has this key.
pub key_once : {A : Type 0} (key : A → ℕ) (xs : List A) (n : ℕ) → IsDistinct eqb (map key xs) → weigh (passing (λ x. eqb (key x) n)) xs ≤ 1
unfolding IsDistinct
key_once {A} key [] n apart = omega arith
key_once {A} key (x ∷ xs) n apart = ⊎_elim
    (λ (t : (eqb (key x) n ≡ true) × (key x ≡ n)).
    let one : passing (λ x. eqb (key x) n) x ≡ 1 = ap (λ b. cond b 1 0) t.0 in
    let more = none_after xs t.1 apart.0 in
    omega arith)
    (λ (t : (eqb (key x) n ≡ false) × (key x ≢ n)).
    let none : passing (λ x. eqb (key x) n) x ≡ 0 = ap (λ b. cond b 1 0) t.0 in
    let more = key_once key xs n apart.1 in
    omega arith)
    (eqb_tells (key x) n)
  where
    none_after : (ys : List A) → key x ≡ n → AllByRecursion (λ k. eqb (key x) k ≡ false) (map key ys) → weigh (passing (λ y. eqb (key y) n)) ys ≡ 0
    none_after [] is others = refl
    none_after (y ∷ ys) is others =
        let more = none_after ys is others.1 in ⊎_elim
        (λ (t : (eqb (key y) n ≡ true) × (key y ≡ n)). absurd (true≢false (sym (eq-eqb (key x) (key y) (is ∙ sym t.1)) ∙ others.0)))
        (λ (t : (eqb (key y) n ≡ false) × (key y ≢ n)). let none : passing (λ y. eqb (key y) n) y ≡ 0 = ap (λ b. cond b 1 0) t.0 in omega arith)
        (eqb_tells (key y) n)
