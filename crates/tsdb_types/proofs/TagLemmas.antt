use Rattle.std.proofs.Common.{◌≡◌, ℕ, zero, suc, ◌+◌, ◌<◌, ◌≤◌, Bool, true, false, cond, ⊎_elim, List, [], ◌∷◌, length, get_or, refl, sym, ap, subst, ◌∙◌, Ordering, arith}
use Rattle.std.specs.declared.cmp.Ordering.TheVariants.{Less, Equal, Greater}
use Rattle.std.specs.Ordering.{nat_cmp, is_lt, is_eq, ordering_reverse}
use Rattle.std.specs.Cmp.Lexicographic.{slice_cmp}
use Rattle.std.specs.List.{sum_by}
use Rattle.std.specs.List.Sorted.{IsPermutation, IsSorted}
use Rattle.std.specs.Str.{bytes_eq}
use Rattle.std.proofs.Math.Numerals.{add-one}
use Rattle.std.proofs.lemmas.Bool.{cases_lt, false≢true}
use Rattle.std.proofs.lemmas.Cmp.{nat_list_cmp_total, tied_itself}
use Rattle.std.proofs.lemmas.List.Sorted.{sum_by-IsPermutation}
use Rattle.std.proofs.lemmas.List.Sums.{sum_by-cons, sum_by-take-drop, sum_by-drop_more}
use Rattle.std.proofs.lemmas.Slice.Eq.{bytes_eq-Decides}
use Rattle.std.proofs.lemmas.Map.Text.{is_eq-slice_cmp}
use Rattle.tsdb_types.specs.Series.{Ascend, KeysDiffer}
use Rattle.tsdb_types.specs.declared.tag.Tag.{Tag}
use Rattle.tsdb_types.proofs.EscapeLemmas.{decided}

abbrev key_cmp : Tag → Tag → Ordering
key_cmp tag other = slice_cmp nat_cmp tag.key other.key

abbrev has : List ℕ → Tag → ℕ
has key tag = cond (bytes_eq tag.key key) 1 0

-- each key is below all later ones
ascend-far : (xs : List Tag) → Ascend xs → (i j : ℕ) (d : Tag) → i < j → j < length xs → key_cmp (get_or xs i d) (get_or xs j d) ≡ Less
ascend-far xs up i zero d l m = absurd (omega arith)
ascend-far xs up i (suc j) d l m =
    let next = up j d (omega arith) in
    let step : key_cmp (get_or xs j d) (get_or xs (suc j) d) ≡ Less = rw (add-one j) at next in
    ⊎_elim
    (λ (h : i < j). nat_list_cmp_total.trans (get_or xs i d).key (get_or xs j d).key (get_or xs (suc j) d).key (ascend-far xs up i j d h (omega arith)) step)
    (λ (h : j ≤ i). let e : j ≡ i = omega arith in subst (λ (k : ℕ). key_cmp (get_or xs k d) (get_or xs (suc j) d) ≡ Less) e step)
    (cases_lt i j)

count-none : (key : List ℕ) (xs : List Tag) → ((k : ℕ) (d : Tag) → k < length xs → bytes_eq (get_or xs k d).key key ≡ false) → sum_by (has key) xs ≡ 0
count-none key [] h = refl
count-none key (x ∷ xs) h =
    let rest = count-none key xs (λ k d l. h (suc k) d (omega arith)) in
    let first : has key x ≡ 0 = ap (λ (b : Bool). cond b 1 0) (h 0 x (omega arith)) in
    omega (arith, sum_by-cons (has key) x xs, rest, first)

less≢equal : Less ≡ Equal → ⊥
less≢equal e = false≢true (ap is_eq e)

count-one : (key : List ℕ) (xs : List Tag) → ((i j : ℕ) (d : Tag) → i < j → j < length xs → key_cmp (get_or xs i d) (get_or xs j d) ≡ Less) → sum_by (has key) xs ≤ 1
count-one key [] h = omega arith
count-one key (x ∷ xs) h =
    ⊎_elim
    (λ (e : bytes_eq x.key key ≡ true).
    let same = (bytes_eq-Decides x.key key).0 e in
    let other : (k : ℕ) (d : Tag) → k < length xs → bytes_eq (get_or xs k d).key key ≡ false = λ k d l.
    ⊎_elim
    (λ (f : bytes_eq (get_or xs k d).key key ≡ true).
    let that = (bytes_eq-Decides (get_or xs k d).key key).0 f in
    let less : slice_cmp nat_cmp x.key (get_or xs k d).key ≡ Less = h 0 (suc k) d (omega arith) (omega arith) in
    let less' : slice_cmp nat_cmp key key ≡ Less = rw (same, that) at less in
    absurd (less≢equal (sym less' ∙ tied_itself nat_list_cmp_total key)))
    (λ (f : bytes_eq (get_or xs k d).key key ≡ false). f)
    (decided (bytes_eq (get_or xs k d).key key))
    in
    let rest = count-none key xs other in
    let first : has key x ≡ 1 = ap (λ (b : Bool). cond b 1 0) e in
    omega (arith, sum_by-cons (has key) x xs, rest, first))
    (λ (e : bytes_eq x.key key ≡ false).
    let rest = count-one key xs (λ i j d l m. h (suc i) (suc j) d (omega arith) (omega arith)) in
    let first : has key x ≡ 0 = ap (λ (b : Bool). cond b 1 0) e in
    omega (arith, sum_by-cons (has key) x xs, rest, first))
    (decided (bytes_eq x.key key))

-- tags of which some order ascends have different keys
pub differ_from_ascend : (tags sorted : List Tag) → IsPermutation tags sorted → Ascend sorted → KeysDiffer tags
differ_from_ascend tags sorted same up = λ key.
    subst (λ (n : ℕ). n ≤ 1) (sum_by-IsPermutation (has key) tags sorted same) (count-one key sorted (ascend-far sorted up))

twice : (key : List ℕ) (xs : List Tag) (k : ℕ) (d : Tag) → k + 1 < length xs → (get_or xs k d).key ≡ key → (get_or xs (k + 1) d).key ≡ key → 2 ≤ sum_by (has key) xs
twice key xs k d l e f =
    let one : has key (get_or xs k d) ≡ 1 = ap (λ (b : Bool). cond b 1 0) ((bytes_eq-Decides (get_or xs k d).key key).1 e) in
    let two : has key (get_or xs (k + 1) d) ≡ 1 = ap (λ (b : Bool). cond b 1 0) ((bytes_eq-Decides (get_or xs (k + 1) d).key key).1 f) in
    omega (arith, one, two, sum_by-take-drop (has key) xs k, sum_by-drop_more (has key) xs k d (omega arith), sum_by-drop_more (has key) xs (k + 1) d (omega arith))

-- tags with different keys ascend once they are sorted
pub ascend_from_differ : (cmp : Tag → Tag → Ordering) → ((a b : Tag) → key_cmp a b ≡ Less → cmp a b ≡ Less) → (tags sorted : List Tag) → IsPermutation tags sorted → IsSorted cmp sorted → KeysDiffer tags → Ascend sorted
ascend_from_differ cmp by_key tags sorted same order differ = λ k d l.
    let a = get_or sorted k d in
    let b = get_or sorted (k + 1) d in
    let P : Ordering → Type 0 = λ o. key_cmp a b ≡ o → key_cmp a b ≡ Less in
    (elim (key_cmp a b) as P [
      | Less ↦ λ e. e
      | Equal ↦ λ e.
          let tied : bytes_eq a.key b.key ≡ true = sym (is_eq-slice_cmp a.key b.key) ∙ ap is_eq e in
          let same_key = (bytes_eq-Decides a.key b.key).0 tied in
          let many = twice b.key sorted k d l same_key refl in
          let most = differ b.key in
          let kept = sum_by-IsPermutation (has b.key) tags sorted same in
          absurd (omega (arith, many, most, kept))
      | Greater ↦ λ e.
          let back : key_cmp b a ≡ Less = nat_list_cmp_total.antisymm b.key a.key ∙ ap ordering_reverse e in
          absurd (false≢true (sym (order k d (omega arith) l) ∙ ap is_lt (by_key b a back)))
    ]) refl
