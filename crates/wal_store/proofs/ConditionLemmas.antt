-- A condition is read off the front of bytes in one way.
use Rattle.std.proofs.Common.{◌≡◌, ◌≢◌, ℕ, suc, zero, ◌+◌, ◌≤◌, nat_le, Bool, true, false, cond, List, [], ◌∷◌, ◌++◌, length, get_or, drop, refl, sym, ap, subst, ◌∙◌, arith}
use Rattle.std.specs.List.{AllByRecursion}
use Rattle.std.proofs.lemmas.List.{append_assoc, length-append}
use Rattle.std.proofs.lemmas.Bool.Decides.{nat_tests}
use Rattle.point_model.specs.Conditions.{Condition, True, Eq, Ne, And, Or, nesting, larger}
use Rattle.wal_store.specs.Form.{text_bytes, IsText, IsNameText}
use Rattle.wal_store.specs.Conditions.{condition_bytes, comparisons_of, AreComparisons, IsComparison}
use Rattle.wal_store.proofs.TextLemmas.{same_text}

-- ---- the equations

pub bytes-True : condition_bytes True ≡ 0 ∷ []
bytes-True = refl

pub bytes-Eq : (key text : List ℕ) → condition_bytes (Eq key text) ≡ 1 ∷ (text_bytes key ++ text_bytes text)
bytes-Eq key text = refl

pub bytes-Ne : (key text : List ℕ) → condition_bytes (Ne key text) ≡ 2 ∷ (text_bytes key ++ text_bytes text)
bytes-Ne key text = refl

pub bytes-And : (first second : Condition) → condition_bytes (And first second) ≡ 3 ∷ (condition_bytes first ++ condition_bytes second)
bytes-And first second = refl

pub bytes-Or : (first second : Condition) → condition_bytes (Or first second) ≡ 4 ∷ (condition_bytes first ++ condition_bytes second)
bytes-Or first second = refl

pub comparisons-True : comparisons_of True ≡ []
comparisons-True = refl

pub comparisons-Eq : (key text : List ℕ) → comparisons_of (Eq key text) ≡ (key, text) ∷ []
comparisons-Eq key text = refl

pub comparisons-Ne : (key text : List ℕ) → comparisons_of (Ne key text) ≡ (key, text) ∷ []
comparisons-Ne key text = refl

pub comparisons-And : (first second : Condition) → comparisons_of (And first second) ≡ comparisons_of first ++ comparisons_of second
comparisons-And first second = refl

pub comparisons-Or : (first second : Condition) → comparisons_of (Or first second) ≡ comparisons_of first ++ comparisons_of second
comparisons-Or first second = refl

pub nesting-True : nesting True ≡ 0
nesting-True = refl

pub nesting-Eq : (key text : List ℕ) → nesting (Eq key text) ≡ 0
nesting-Eq key text = refl

pub nesting-Ne : (key text : List ℕ) → nesting (Ne key text) ≡ 0
nesting-Ne key text = refl

pub nesting-And : (first second : Condition) → nesting (And first second) ≡ larger (nesting first) (nesting second) + 1
nesting-And first second = refl

pub nesting-Or : (first second : Condition) → nesting (Or first second) ≡ larger (nesting first) (nesting second) + 1
nesting-Or first second = refl

-- ---- cases

-- what holds of each of the five holds of every condition
pub by_cases : (P : Condition → Type 0) → P True → ((key text : List ℕ) → P (Eq key text)) → ((key text : List ℕ) → P (Ne key text)) → ((first second : Condition) → P (And first second)) → ((first second : Condition) → P (Or first second))
    → (condition : Condition) → P condition
by_cases P t e n a o True = t
by_cases P t e n a o (Eq key text) = e key text
by_cases P t e n a o (Ne key text) = n key text
by_cases P t e n a o (And first second) = a first second
by_cases P t e n a o (Or first second) = o first second

-- ---- what each of the five begins with

pub head_is : (k : ℕ) (behind rest bytes : List ℕ) (n : ℕ) (body : List ℕ) → bytes ≡ n ∷ body → k ∷ behind ≡ bytes ++ rest → (k ≡ n) × (behind ≡ body ++ rest)
head_is k behind rest bytes n body is whole =
    let both : k ∷ behind ≡ n ∷ (body ++ rest) = whole ∙ ap (λ (l : List ℕ). l ++ rest) is in
    (ap (λ (l : List ℕ). get_or l 0 0) both, ap (λ (l : List ℕ). drop 1 l) both)

pub larger_first : (a b : ℕ) → a ≤ larger a b
larger_first a b = grind (arith, nat_tests)

pub larger_second : (a b : ℕ) → b ≤ larger a b
larger_second a b = grind (arith, nat_tests)

choice_room : (t : Bool) (a b k n : ℕ) → a + k ≤ n → b + k ≤ n → cond t b a + k ≤ n
choice_room true a b k n x y = y
choice_room false a b k n x y = x

pub larger_room : (a b k n : ℕ) → a + k ≤ n → b + k ≤ n → larger a b + k ≤ n
larger_room a b k n x y = choice_room (nat_le a b) a b k n x y

pub all_front : {X : Type 0} (P : X → Type 0) (xs ys : List X) → AllByRecursion P (xs ++ ys) → AllByRecursion P xs × AllByRecursion P ys
all_front P [] ys all = (tt, all)
all_front P (x ∷ xs) ys all = let both = all_front P xs ys all.1 in ((all.0, both.0), both.1)

pub all_both : {X : Type 0} (P : X → Type 0) (xs ys : List X) → AllByRecursion P xs → AllByRecursion P ys → AllByRecursion P (xs ++ ys)
all_both P [] ys one other = other
all_both P (x ∷ xs) ys one other = (one.0, all_both P xs ys one.1 other)

pub sides_of_and : (first second : Condition) → AreComparisons (And first second) → AreComparisons first × AreComparisons second
sides_of_and first second all = all_front IsComparison (comparisons_of first) (comparisons_of second) (subst (AllByRecursion IsComparison) (comparisons-And first second) all)

pub sides_of_or : (first second : Condition) → AreComparisons (Or first second) → AreComparisons first × AreComparisons second
sides_of_or first second all = all_front IsComparison (comparisons_of first) (comparisons_of second) (subst (AllByRecursion IsComparison) (comparisons-Or first second) all)

pub and_of_sides : (first second : Condition) → AreComparisons first → AreComparisons second → AreComparisons (And first second)
and_of_sides first second one other = subst (AllByRecursion IsComparison) (sym (comparisons-And first second)) (all_both IsComparison (comparisons_of first) (comparisons_of second) one other)

pub or_of_sides : (first second : Condition) → AreComparisons first → AreComparisons second → AreComparisons (Or first second)
or_of_sides first second one other = subst (AllByRecursion IsComparison) (sym (comparisons-Or first second)) (all_both IsComparison (comparisons_of first) (comparisons_of second) one other)

-- ---- no condition

abbrev HasBytes : Condition → Type 0
HasBytes condition = 1 ≤ length (condition_bytes condition)

pub has_bytes : (condition : Condition) → HasBytes condition
has_bytes = by_cases HasBytes
    (omega (arith, ap length bytes-True))
    (λ key text. omega (arith, ap length (bytes-Eq key text)))
    (λ key text. omega (arith, ap length (bytes-Ne key text)))
    (λ first second. omega (arith, ap length (bytes-And first second)))
    (λ first second. omega (arith, ap length (bytes-Or first second)))

pub no_condition : (bytes : List ℕ) → bytes ≡ [] → (condition : Condition) (rest : List ℕ) → AreComparisons condition → bytes ≢ condition_bytes condition ++ rest
no_condition bytes none condition rest all is = omega (arith, has_bytes condition, ap length (sym none ∙ is), length-append (condition_bytes condition) rest)

-- what a condition must be that begins with this byte, where each of the five says it
abbrev pub Begun : ℕ → List ℕ → (Condition → List ℕ → Type 0) → Condition → Type 0
Begun kind behind P condition = (rest : List ℕ) → AreComparisons condition → kind ∷ behind ≡ condition_bytes condition ++ rest → P condition rest

pub begun : (kind : ℕ) (behind : List ℕ) (P : Condition → List ℕ → Type 0)
    → ((rest : List ℕ) → kind ≡ 0 → behind ≡ rest → P True rest)
    → ((key text rest : List ℕ) → kind ≡ 1 → IsComparison (key, text) → behind ≡ (text_bytes key ++ text_bytes text) ++ rest → P (Eq key text) rest)
    → ((key text rest : List ℕ) → kind ≡ 2 → IsComparison (key, text) → behind ≡ (text_bytes key ++ text_bytes text) ++ rest → P (Ne key text) rest)
    → ((first second : Condition) (rest : List ℕ) → kind ≡ 3 → AreComparisons (And first second) → behind ≡ (condition_bytes first ++ condition_bytes second) ++ rest → P (And first second) rest)
    → ((first second : Condition) (rest : List ℕ) → kind ≡ 4 → AreComparisons (Or first second) → behind ≡ (condition_bytes first ++ condition_bytes second) ++ rest → P (Or first second) rest)
    → (condition : Condition) → Begun kind behind P condition
begun kind behind P t e n a o = by_cases (Begun kind behind P)
    (λ rest all is. let h = head_is kind behind rest (condition_bytes True) 0 [] bytes-True is in t rest h.0 h.1)
    (λ key text rest all is. let h = head_is kind behind rest (condition_bytes (Eq key text)) 1 (text_bytes key ++ text_bytes text) (bytes-Eq key text) is in
    let one = subst (AllByRecursion IsComparison) (comparisons-Eq key text) all in e key text rest h.0 one.0 h.1)
    (λ key text rest all is. let h = head_is kind behind rest (condition_bytes (Ne key text)) 2 (text_bytes key ++ text_bytes text) (bytes-Ne key text) is in
    let one = subst (AllByRecursion IsComparison) (comparisons-Ne key text) all in n key text rest h.0 one.0 h.1)
    (λ first second rest all is. let h = head_is kind behind rest (condition_bytes (And first second)) 3 (condition_bytes first ++ condition_bytes second) (bytes-And first second) is in a first second rest h.0 all h.1)
    (λ first second rest all is. let h = head_is kind behind rest (condition_bytes (Or first second)) 4 (condition_bytes first ++ condition_bytes second) (bytes-Or first second) is in o first second rest h.0 all h.1)

pub strange_kind : (bytes behind : List ℕ) (kind : ℕ) → bytes ≡ kind ∷ behind → (kind ≤ 4 → ⊥) → (condition : Condition) (rest : List ℕ) → AreComparisons condition → bytes ≢ condition_bytes condition ++ rest
strange_kind bytes behind kind first strange condition rest all is =
    strange (small condition rest all (sym first ∙ is))
  where
    small : (condition : Condition) → Begun kind behind (λ c r. kind ≤ 4) condition
    small = begun kind behind (λ c r. kind ≤ 4) (λ rest k e. omega (arith, k)) (λ key text rest k c e. omega (arith, k)) (λ key text rest k c e. omega (arith, k)) (λ f s rest k c e. omega (arith, k)) (λ f s rest k c e. omega (arith, k))

pub no_comparison : (bytes behind : List ℕ) (kind : ℕ) → bytes ≡ kind ∷ behind → 1 ≤ kind → kind ≤ 2 → ((key text rest : List ℕ) → IsComparison (key, text) → behind ≢ (text_bytes key ++ text_bytes text) ++ rest)
    → (condition : Condition) (rest : List ℕ) → AreComparisons condition → bytes ≢ condition_bytes condition ++ rest
no_comparison bytes behind kind first low high none condition rest all is =
    never condition rest all (sym first ∙ is)
  where
    never : (condition : Condition) → Begun kind behind (λ c r. ⊥) condition
    never = begun kind behind (λ c r. ⊥) (λ rest k e. omega (arith, k, low)) (λ key text rest k c e. none key text rest c e) (λ key text rest k c e. none key text rest c e) (λ f s rest k c e. omega (arith, k, high)) (λ f s rest k c e. omega (arith, k, high))

-- ---- comparisons

pub pair_parts : (key text rest : List ℕ) → (text_bytes key ++ text_bytes text) ++ rest ≡ text_bytes key ++ (text_bytes text ++ rest)
pair_parts key text rest = append_assoc (text_bytes key) (text_bytes text) rest

pub same_pair : (key text other word r s : List ℕ) → IsComparison (key, text) → IsComparison (other, word) → (text_bytes key ++ text_bytes text) ++ r ≡ (text_bytes other ++ text_bytes word) ++ s → (key ≡ other) × (text ≡ word) × (r ≡ s)
same_pair key text other word r s x y is =
    let first = same_text key other (text_bytes text ++ r) (text_bytes word ++ s) x.0.room.short y.0.room.short (sym (pair_parts key text r) ∙ is ∙ pair_parts other word s) in
    let second = same_text text word r s x.1.short y.1.short first.1 in
    (first.0, second.0, second.1)

pub no_key : (bytes : List ℕ) → ((text rest : List ℕ) → IsNameText text → bytes ≢ text_bytes text ++ rest) → (key text rest : List ℕ) → IsComparison (key, text) → bytes ≢ (text_bytes key ++ text_bytes text) ++ rest
no_key bytes none key text rest ok is = none key (text_bytes text ++ rest) ok.0 (is ∙ pair_parts key text rest)

pub no_word : (bytes name behind : List ℕ) → bytes ≡ text_bytes name ++ behind → IsNameText name → ((text rest : List ℕ) → IsText text → behind ≢ text_bytes text ++ rest)
    → (key text rest : List ℕ) → IsComparison (key, text) → bytes ≢ (text_bytes key ++ text_bytes text) ++ rest
no_word bytes name behind found named none key text rest ok is =
    none text rest ok.1 (same_text name key behind (text_bytes text ++ rest) named.room.short ok.0.room.short (sym found ∙ is ∙ pair_parts key text rest)).1

-- ---- one way

-- conditions of so few bytes are read in one way
abbrev IsReadOnce : ℕ → Condition → Type 0
IsReadOnce n a = length (condition_bytes a) ≤ n → AreComparisons a → (b : Condition) (r s : List ℕ) → AreComparisons b → condition_bytes a ++ r ≡ condition_bytes b ++ s → (a ≡ b) × (r ≡ s)

both_sides : (n : ℕ) → ((c : Condition) → IsReadOnce n c) → (f g f' g' : Condition) (r s : List ℕ) → length (condition_bytes f) ≤ n → length (condition_bytes g) ≤ n → AreComparisons f → AreComparisons g → AreComparisons f' → AreComparisons g'
    → (condition_bytes f ++ condition_bytes g) ++ r ≡ (condition_bytes f' ++ condition_bytes g') ++ s → (f ≡ f') × (g ≡ g') × (r ≡ s)
both_sides n once f g f' g' r s short less x y x' y' is =
    let first = once f short x f' (condition_bytes g ++ r) (condition_bytes g' ++ s) x' (sym (append_assoc (condition_bytes f) (condition_bytes g) r) ∙ is ∙ append_assoc (condition_bytes f') (condition_bytes g') s) in
    let second = once g less y g' r s y' first.1 in
    (first.0, second.0, second.1)

read_once : (n : ℕ) (a : Condition) → IsReadOnce n a
read_once zero = λ a short all b r s also is. absurd (omega (arith, short, has_bytes a))
read_once (suc n) = by_cases (IsReadOnce (suc n))
    (λ short all b r s also is.
    begun 0 r (λ c rest. (True ≡ c) × (r ≡ rest)) (λ rest k e. (refl, e)) (λ key text rest k c e. absurd (omega (arith, k))) (λ key text rest k c e. absurd (omega (arith, k))) (λ f g rest k c e. absurd (omega (arith, k))) (λ f g rest k c e. absurd (omega (arith, k)))
    b s also (sym (ap (λ (l : List ℕ). l ++ r) bytes-True) ∙ is))
    (λ key text short all b r s also is.
    let one = (subst (AllByRecursion IsComparison) (comparisons-Eq key text) all).0 in
    begun 1 ((text_bytes key ++ text_bytes text) ++ r) (λ c rest. (Eq key text ≡ c) × (r ≡ rest)) (λ rest k e. absurd (omega (arith, k)))
    (λ key' text' rest k c e. let same = same_pair key text key' text' r rest one c e in (λ i. Eq (same.0 i) (same.1 i), same.2))
    (λ key' text' rest k c e. absurd (omega (arith, k))) (λ f g rest k c e. absurd (omega (arith, k))) (λ f g rest k c e. absurd (omega (arith, k)))
    b s also (sym (ap (λ (l : List ℕ). l ++ r) (bytes-Eq key text)) ∙ is))
    (λ key text short all b r s also is.
    let one = (subst (AllByRecursion IsComparison) (comparisons-Ne key text) all).0 in
    begun 2 ((text_bytes key ++ text_bytes text) ++ r) (λ c rest. (Ne key text ≡ c) × (r ≡ rest)) (λ rest k e. absurd (omega (arith, k)))
    (λ key' text' rest k c e. absurd (omega (arith, k)))
    (λ key' text' rest k c e. let same = same_pair key text key' text' r rest one c e in (λ i. Ne (same.0 i) (same.1 i), same.2))
    (λ f g rest k c e. absurd (omega (arith, k))) (λ f g rest k c e. absurd (omega (arith, k)))
    b s also (sym (ap (λ (l : List ℕ). l ++ r) (bytes-Ne key text)) ∙ is))
    (λ first second short all b r s also is.
    let long = ap length (bytes-And first second) ∙ ap (λ (k : ℕ). suc k) (length-append (condition_bytes first) (condition_bytes second)) in
    let sides = sides_of_and first second all in
    begun 3 ((condition_bytes first ++ condition_bytes second) ++ r) (λ c rest. (And first second ≡ c) × (r ≡ rest)) (λ rest k e. absurd (omega (arith, k)))
    (λ key' text' rest k c e. absurd (omega (arith, k))) (λ key' text' rest k c e. absurd (omega (arith, k)))
    (λ f g rest k c e. let same = both_sides n (read_once n) first second f g r rest (omega (arith, short, long)) (omega (arith, short, long)) sides.0 sides.1 (sides_of_and f g c).0 (sides_of_and f g c).1 e in (λ i. And (same.0 i) (same.1 i), same.2))
    (λ f g rest k c e. absurd (omega (arith, k)))
    b s also (sym (ap (λ (l : List ℕ). l ++ r) (bytes-And first second)) ∙ is))
    (λ first second short all b r s also is.
    let long = ap length (bytes-Or first second) ∙ ap (λ (k : ℕ). suc k) (length-append (condition_bytes first) (condition_bytes second)) in
    let sides = sides_of_or first second all in
    begun 4 ((condition_bytes first ++ condition_bytes second) ++ r) (λ c rest. (Or first second ≡ c) × (r ≡ rest)) (λ rest k e. absurd (omega (arith, k)))
    (λ key' text' rest k c e. absurd (omega (arith, k))) (λ key' text' rest k c e. absurd (omega (arith, k)))
    (λ f g rest k c e. absurd (omega (arith, k)))
    (λ f g rest k c e. let same = both_sides n (read_once n) first second f g r rest (omega (arith, short, long)) (omega (arith, short, long)) sides.0 sides.1 (sides_of_or f g c).0 (sides_of_or f g c).1 e in (λ i. Or (same.0 i) (same.1 i), same.2))
    b s also (sym (ap (λ (l : List ℕ). l ++ r) (bytes-Or first second)) ∙ is))

pub same_condition : (a b : Condition) (r s : List ℕ) → AreComparisons a → AreComparisons b → condition_bytes a ++ r ≡ condition_bytes b ++ s → (a ≡ b) × (r ≡ s)
same_condition a b r s all also is = read_once (length (condition_bytes a)) a (omega arith) all b r s also is
