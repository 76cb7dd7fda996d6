-- Changes that become ready one behind the other, are forgotten from the last on, and are made from the first on.
use Rattle.std.proofs.Common.{◌≡◌, ℕ, ◌<◌, ◌≤◌, ◌||◌, Bool, true, false, cond, not, nat_eq, List, [], ◌∷◌, ◌++◌, length, filter, if◌then◌else◌, Result, Ok, Err, OnOk, OnErr, refl, sym, ap, ◌∙◌, subst, arith, append_assoc, append-nil}
use Rattle.std.specs.List.{AllByRecursion, list_any}
use Rattle.std.proofs.lemmas.Bool.{false≢true}
use Rattle.std.proofs.lemmas.List.{length-append}
use Rattle.index_lists.specs.declared.change.IndexChange.{IndexChange}
use Rattle.index_lists.specs.Listing.{Holds, Listing}
use Rattle.index_lists.specs.Pairs.{MayChange, Pair, Suits, after, after_all, is_in, is_same, pair_of, with_pair, without_pair}
use Rattle.index_lists.specs.Ready.{AreReady, IsReady, Prepared, uses}
use Rattle.index_lists.proofs.PairLemmas.{nat_same, not_false, not_true, same_nat}
use Rattle.series_index.specs.Index.{changes_of}
use Rattle.series_index.specs.Staging.{Stages, Unstages, changing, is_change}

pub on_ok_map : {T E P Q : Type 0} (r : Result T E) → (P → Q) → OnOk r P → OnOk r Q
on_ok_map (Ok x) f p = f p
on_ok_map (Err e) f p = tt

pub on_err : {T E P : Type 0} (r : Result T E) → P → OnErr r P
on_err (Ok x) p = tt
on_err (Err e) p = p

pub changes_behind : (ps qs : List Prepared) → changes_of (ps ++ qs) ≡ changes_of ps ++ changes_of qs
changes_behind [] qs = refl
changes_behind (p ∷ ps) qs = ap (λ (l : List IndexChange). p.change ∷ l) (changes_behind ps qs)

-- ---- one behind the other

pub stages_then : (one other : List IndexChange) (l m n : Listing) (ps qs rs : List Prepared) → Stages one l m ps qs → Stages other m n qs rs → Stages (one ++ other) l n ps rs
stages_then one other l m n ps qs rs s t = record {
  added = s.added ++ t.added;
  behind = t.behind ∙ ap (λ (xs : List Prepared). xs ++ t.added) s.behind ∙ append_assoc ps s.added t.added;
  changes_are = changes_behind s.added t.added ∙ ap (λ (xs : List IndexChange). xs ++ changes_of t.added) s.changes_are ∙ ap (λ (xs : List IndexChange). one ++ xs) t.changes_are;
  ready = λ r. t.ready (s.ready r);
  content = λ pairs h. t.content pairs (s.content pairs h);
}

-- ---- from the last on

last_each : (P : Prepared → Type 0) (ps : List Prepared) (p : Prepared) → AllByRecursion P (ps ++ p ∷ []) → P p × AllByRecursion P ps
last_each P [] p all = (all.0, tt)
last_each P (q ∷ ps) p all = let r = last_each P ps p all.1 in (r.0, (all.0, r.1))

last_uses : (place : ℕ) (ps : List Prepared) (p : Prepared) → uses place (ps ++ p ∷ []) ≡ uses place (p ∷ ps)
last_uses place [] p = refl
last_uses place (q ∷ ps) p = let rest = last_uses place ps p in omega (arith, rest)

-- the last of the changes may go first
pub last_ready : (lists : Listing) (ps : List Prepared) (p : Prepared) → AreReady lists (ps ++ p ∷ []) → AreReady lists (p ∷ ps)
last_ready lists ps p ready = record {
  each = last_each (IsReady lists) ps p ready.each;
  room = λ place listed at. let r = ready.room place listed at in let u = last_uses place ps p in omega (arith, r, u);
  few = let f = ready.few in let n = length-append ps (p ∷ []) in omega (arith, f, n);
}

pub unstages_one : (l m : Listing) (ps qs : List Prepared) (p : Prepared) → ps ≡ qs ++ p ∷ [] → ((prepared : List Prepared) → AreReady l (p ∷ prepared) → AreReady m prepared) → ((pairs : List Pair) → Holds pairs l → Holds pairs m)
    → Unstages l m ps qs
unstages_one l m ps qs p e ready holds = record {
  gone = p ∷ [];
  front = e;
  ready = λ r. ready qs (last_ready l qs p (subst (AreReady l) e r));
  content = holds;
}

-- lists that begin alike and are as long
front_same : (ps qs us vs : List Prepared) → ps ++ us ≡ qs ++ vs → length ps ≡ length qs → ps ≡ qs
front_same [] [] us vs e n = refl
front_same [] (q ∷ qs) us vs e n = absurd (omega (arith, n))
front_same (p ∷ ps) [] us vs e n = absurd (omega (arith, n))
front_same (p ∷ ps) (q ∷ qs) us vs e n =
    ap (λ (l : List Prepared). first p l ∷ ps) e ∙ ap (λ (l : List Prepared). q ∷ l) (front_same ps qs us vs (ap rest e) (omega (arith, n)))
  where
    first : Prepared → List Prepared → Prepared
    first d [] = d
    first d (x ∷ xs) = x

    rest : List Prepared → List Prepared
    rest [] = []
    rest (x ∷ xs) = xs

-- what was staged of some changes and is forgotten again
pub forgotten : (some : List IndexChange) (l m n : Listing) (ps qs rs : List Prepared) → Stages some l m ps qs → Unstages m n qs rs → (length ps ≤ length qs → length rs ≡ length ps) → rs ≡ ps
forgotten some l m n ps qs rs s t left =
    let long = ap length s.behind in
    let sum = length-append ps s.added in
    front_same rs ps t.gone s.added (sym t.front ∙ s.behind) (left (omega (arith, long, sum)))

pub none_left : (ps : List Prepared) → length ps ≡ 0 → ps ≡ []
none_left [] e = refl
none_left (p ∷ ps) e = absurd (omega (arith, e))

-- ---- from the first on

-- what is left to be made of pairs, what they become, and what is logged then
pub record Left (changes : List IndexChange) (lists : Listing) (pending : List IndexChange) (wanted : List Pair) (logged : List IndexChange) : Type 0 where
  pub mid : List Pair
  pub holds : Holds mid lists
  pub may : MayChange mid changes
  pub becomes : after_all changes mid ≡ wanted
  pub logs : pending ++ changing changes mid ≡ logged

-- the changes that change the pairs, one by one
changing_then : (change : IndexChange) (changes : List IndexChange) (pairs : List Pair) → changing (change ∷ []) pairs ++ changing changes (after change pairs) ≡ changing (change ∷ changes) pairs
changing_then change changes pairs = by (is_change change pairs)
  where
    by : (b : Bool) → (if b then change ∷ [] else []) ++ changing changes (after change pairs) ≡ (if b then change ∷ changing changes (after change pairs) else changing changes (after change pairs))
    by true = refl
    by false = refl

pub left_behind : (change : IndexChange) (changes : List IndexChange) (old new : Listing) (was is : List IndexChange) (wanted : List Pair) (logged : List IndexChange) → Left (change ∷ changes) old was wanted logged
    → ((mid : List Pair) → Holds mid old → Suits mid change → Holds (after change mid) new)
    → ((mid : List Pair) → Holds mid old → Suits mid change → is ≡ was ++ changing (change ∷ []) mid) → Left changes new is wanted logged
left_behind change changes old new was is wanted logged left made put = record {
  mid = after change left.mid;
  holds = made left.mid left.holds left.may.0;
  may = left.may.1;
  becomes = left.becomes;
  logs = ap (λ (xs : List IndexChange). xs ++ changing changes (after change left.mid)) (put left.mid left.holds left.may.0)
      ∙ append_assoc was (changing (change ∷ []) left.mid) (changing changes (after change left.mid))
      ∙ ap (λ (xs : List IndexChange). was ++ xs) (changing_then change changes left.mid) ∙ left.logs;
}

-- ---- what changes the pairs changes how many there are

shorter : (p : Pair → Bool) (xs : List Pair) → (length (filter (λ x. not (p x)) xs) ≤ length xs) × (list_any p xs ≡ true → length (filter (λ x. not (p x)) xs) < length xs)
shorter p [] = (omega arith, λ e. absurd (false≢true e))
shorter p (x ∷ xs) = by (p x) (shorter p xs)
  where
    left : List Pair
    left = filter (λ y. not (p y)) xs

    by : (b : Bool) → (length left ≤ length xs) × (list_any p xs ≡ true → length left < length xs)
        → (length (cond (not b) (x ∷ left) left) ≤ length (x ∷ xs)) × ((b || list_any p xs) ≡ true → length (cond (not b) (x ∷ left) left) < length (x ∷ xs))
    by true rest = let few = rest.0 in (omega (arith, few), λ e. omega (arith, few))
    by false rest = let few = rest.0 in (omega (arith, few), λ e. let less = rest.1 e in omega (arith, less))

all_left : (p : Pair → Bool) (xs : List Pair) → list_any p xs ≡ false → filter (λ x. not (p x)) xs ≡ xs
all_left p [] none = refl
all_left p (x ∷ xs) none = by (p x) none (all_left p xs)
  where
    by : (b : Bool) → (b || list_any p xs) ≡ false → (list_any p xs ≡ false → filter (λ y. not (p y)) xs ≡ xs) → cond (not b) (x ∷ filter (λ y. not (p y)) xs) (filter (λ y. not (p y)) xs) ≡ x ∷ xs
    by true none rest = absurd (false≢true (sym none))
    by false none rest = ap (λ (l : List Pair). x ∷ l) (rest none)

-- how many pairs there are tells whether a change changes them
pub tells_change : (change : IndexChange) (pairs : List Pair) → nat_eq (length (after change pairs)) (length pairs) ≡ not (is_change change pairs)
tells_change change pairs = by change.add
  where
    pair : Pair
    pair = pair_of change

    added : (b : Bool) → nat_eq (length (if b then pairs else pair ∷ pairs)) (length pairs) ≡ not (not b)
    added true = nat_same (length pairs) (length pairs) refl
    added false = not_false (nat_eq (length (pair ∷ pairs)) (length pairs)) (λ e. let same = same_nat (length (pair ∷ pairs)) (length pairs) e in absurd (omega (arith, same)))

    removed : (b : Bool) → is_in pairs pair ≡ b → nat_eq (length (without_pair pair pairs)) (length pairs) ≡ not b
    removed true there = not_false (nat_eq (length (without_pair pair pairs)) (length pairs))
        (λ e. let same = same_nat (length (without_pair pair pairs)) (length pairs) e in let less = (shorter (is_same pair) pairs).1 there in absurd (omega (arith, same, less)))
    removed false none = nat_same (length (without_pair pair pairs)) (length pairs) (ap (λ (l : List Pair). length l) (all_left (is_same pair) pairs none))

    by : (b : Bool) → nat_eq (length (if b then with_pair pair pairs else without_pair pair pairs)) (length pairs) ≡ not (if b then not (is_in pairs pair) else is_in pairs pair)
    by true = added (is_in pairs pair)
    by false = removed (is_in pairs pair) refl

-- what is pending behind a change that was made
pub put_change : (change : IndexChange) (pairs : List Pair) (pending : List IndexChange) (had have : ℕ) → had ≡ length pairs → have ≡ length (after change pairs) → (had ≡ have → ⊥)
    → pending ++ change ∷ [] ≡ pending ++ changing (change ∷ []) pairs
put_change change pairs pending had have was is other =
    let same = not_false (nat_eq (length (after change pairs)) (length pairs)) (λ e. other (was ∙ sym (same_nat (length (after change pairs)) (length pairs) e) ∙ sym is)) in
    ap (λ (b : Bool). pending ++ (if b then change ∷ [] else [])) (sym (turned (is_change change pairs) (sym (tells_change change pairs) ∙ same)))
  where
    turned : (b : Bool) → not b ≡ false → b ≡ true
    turned true e = refl
    turned false e = absurd (false≢true (sym e))

pub keep_change : (change : IndexChange) (pairs : List Pair) (pending : List IndexChange) (had have : ℕ) → had ≡ length pairs → have ≡ length (after change pairs) → had ≡ have
    → pending ≡ pending ++ changing (change ∷ []) pairs
keep_change change pairs pending had have was is same =
    let equal = nat_same (length (after change pairs)) (length pairs) (sym is ∙ sym same ∙ was) in
    sym (append-nil pending) ∙ ap (λ (b : Bool). pending ++ (if b then change ∷ [] else [])) (sym (not_true (is_change change pairs) (sym (tells_change change pairs) ∙ equal)))
