use Rattle.std.proofs.Common.{◌≡◌, ℕ, ◌+◌, ◌<◌, ◌≤◌, ◌⊎◌, inl, inr, ⊎_elim, List, [], ◌∷◌, ◌++◌, length, get_or, take, drop, refl, sym, ap, ◌∙◌, arith}
use Rattle.std.proofs.lemmas.List.{length-drop, length-take, drop-append-le, take-append-le, drop_at}
use Rattle.std.proofs.lemmas.Bool.{cases_lt}
use Rattle.tsdb_types.specs.Keys.{mark, key_of, MarkAt, IsFirstMark}

-- a mark that begins in the first of two texts, where a mark is the second, lies in the first or begins with its last three bytes
mark_over : (a f : List ℕ) → take 4 (a ++ (mark ++ f)) ≡ mark → 0 < length a → (take 4 a ≡ mark) ⊎ (a ≡ 35 ∷ 33 ∷ 126 ∷ [])
mark_over [] f e l = absurd (omega arith)
mark_over (x ∷ []) f e l = absurd (omega (arith, ap (λ (t : List ℕ). get_or t 1 0) e))
mark_over (x ∷ y ∷ []) f e l = absurd (omega (arith, ap (λ (t : List ℕ). get_or t 2 0) e))
mark_over (x ∷ y ∷ z ∷ []) f e l = inr (ap (λ (t : List ℕ). take 3 t) e)
mark_over (x ∷ y ∷ z ∷ w ∷ a) f e l = inl e

four_left : (s : List ℕ) (k : ℕ) → MarkAt s k → k + 4 ≤ length s
four_left s k m = omega (arith, ap (λ (t : List ℕ). length t) m, length-take 4 (drop k s), length-drop k s)

drop-key : (s f : List ℕ) (k : ℕ) → k ≤ length s → drop k (key_of s f) ≡ drop k s ++ (mark ++ f)
drop-key s f k l = drop-append-le k s (mark ++ f) l

mark_kept : (s f : List ℕ) (k : ℕ) → MarkAt s k → MarkAt (key_of s f) k
mark_kept s f k m =
    let l = four_left s k m in
    ap (λ (t : List ℕ). take 4 t) (drop-key s f k (omega arith)) ∙ take-append-le 4 (drop k s) (mark ++ f) (omega (arith, length-drop k s)) ∙ m

mark_within : (s f : List ℕ) (k : ℕ) → k < length s → MarkAt (key_of s f) k → MarkAt s k ⊎ (drop k s ≡ 35 ∷ 33 ∷ 126 ∷ [])
mark_within s f k l m =
    mark_over (drop k s) f (ap (λ (t : List ℕ). take 4 t) (sym (drop-key s f k (omega arith))) ∙ m) (omega (arith, length-drop k s))

-- in a key the first mark of its series is the first
pub first_kept : (s f : List ℕ) (at : ℕ) → IsFirstMark s at → IsFirstMark (key_of s f) at
first_kept s f at is = record {
  stands = mark_kept s f at is.stands;
  first = λ before l m.
      let four = four_left s at is.stands in
      ⊎_elim
      (λ (here : MarkAt s before). is.first before l here)
      (λ (three : drop before s ≡ 35 ∷ 33 ∷ 126 ∷ []). absurd (omega (arith, ap (λ (t : List ℕ). length t) three, length-drop before s)))
      (mark_within s f before (omega arith) m);
}

-- so is that which the last three bytes of the series begin
pub first_over : (s f : List ℕ) (at : ℕ) → ((k : ℕ) → ¬ MarkAt s k) → drop at s ≡ 35 ∷ 33 ∷ 126 ∷ [] → IsFirstMark (key_of s f) at
first_over s f at none ends =
    let three = ap (λ (t : List ℕ). length t) ends in
    let long = length-drop at s in
    record {
      stands = ap (λ (t : List ℕ). take 4 t) (drop-key s f at (omega arith)) ∙ ap (λ (t : List ℕ). take 4 (t ++ (mark ++ f))) ends;
      first = λ before l m.
          ⊎_elim
          (λ (here : MarkAt s before). none before here)
          (λ (other : drop before s ≡ 35 ∷ 33 ∷ 126 ∷ []). absurd (omega (arith, ap (λ (t : List ℕ). length t) other, length-drop before s, three, long)))
          (mark_within s f before (omega (arith, three, long)) m);
    }

-- else it is that behind the series
pub first_behind : (s f : List ℕ) → ((k : ℕ) → ¬ MarkAt s k) → ((k : ℕ) → k < length s → drop k s ≡ 35 ∷ 33 ∷ 126 ∷ [] → ⊥) → IsFirstMark (key_of s f) (length s)
first_behind s f none open_end = record {
  stands = ap (λ (t : List ℕ). take 4 t) (drop_at s (mark ++ f) (length s) refl);
  first = λ before l m.
      ⊎_elim
      (λ (here : MarkAt s before). none before here)
      (λ (three : drop before s ≡ 35 ∷ 33 ∷ 126 ∷ []). open_end before l three)
      (mark_within s f before l m);
}

-- a text has one first mark
pub one_first : (bytes : List ℕ) (at other : ℕ) → IsFirstMark bytes at → IsFirstMark bytes other → at ≡ other
one_first bytes at other is that =
    ⊎_elim
    (λ (l : at < other). absurd (that.first at l is.stands))
    (λ (h : other ≤ at).
    ⊎_elim
    (λ (l : other < at). absurd (is.first other l that.stands))
    (λ (g : at ≤ other). omega arith)
    (cases_lt other at))
    (cases_lt at other)
