-- The series of a record are read one after another in one way.
use Rattle.std.proofs.Common.{◌≡◌, ◌≢◌, ℕ, ◌+◌, ◌<◌, ◌≤◌, List, [], ◌∷◌, ◌++◌, length, nat_eq, true, refl, sym, ap, ◌∙◌, subst, arith}
use Rattle.std.specs.List.{flat_map, list_any, AllByRecursion, IsDistinct}
use Rattle.std.specs.Cmp.Lexicographic.{pointwise}
use Rattle.std.proofs.lemmas.List.{append_assoc, append-nil, length-append}
use Rattle.std.proofs.lemmas.Grind.{flat_map-append}
use Rattle.series_store.specs.Format.{HasRoom, IsKey, series_bytes}
use Rattle.series_store.specs.Lists.{IsList}
use Rattle.series_store.proofs.FormatLemmas.{same_text}
use Rattle.series_store.proofs.ListLemmas.{all_append, all_right, not_twice}

-- So many series were read and are held behind the first ones, and this is left. Whoever reads the bytes as series reads these first.
pub record Taken (first held : List (List ℕ)) (bytes rest : List ℕ) (count : ℕ) : Type 0 where
  pub done : List (List ℕ)
  pub are : held ≡ first ++ done
  pub whole : bytes ≡ flat_map series_bytes done ++ rest
  pub keys : AllByRecursion IsKey done
  pub room : AllByRecursion HasRoom done
  pub many : length done ≡ count
  pub only : (all : List (List ℕ)) → AllByRecursion HasRoom all → count ≤ length all → bytes ≡ flat_map series_bytes all
      → (others : List (List ℕ)) × (all ≡ done ++ others) × (rest ≡ flat_map series_bytes others)

pub taken_none : (first : List (List ℕ)) (bytes : List ℕ) → Taken first first bytes bytes 0
taken_none first bytes = record { done = []; are = sym (append-nil first); whole = refl; keys = tt; room = tt; many = refl; only = λ all room less is. (all, refl, is) }

push : (xs : List (List ℕ)) (x : List ℕ) (ys : List (List ℕ)) → xs ++ (x ∷ ys) ≡ (xs ++ x ∷ []) ++ ys
push xs x ys = sym (append_assoc xs (x ∷ []) ys)

one_more : (bytes : List ℕ) (done : List (List ℕ)) (text behind : List ℕ) → bytes ≡ flat_map series_bytes done ++ (series_bytes text ++ behind) → bytes ≡ flat_map series_bytes (done ++ text ∷ []) ++ behind
one_more bytes done text behind is =
    is ∙ sym (append_assoc (flat_map series_bytes done) (series_bytes text) behind)
    ∙ ap (λ (l : List ℕ). (flat_map series_bytes done ++ l) ++ behind) (sym (append-nil (series_bytes text)))
    ∙ ap (λ (l : List ℕ). l ++ behind) (sym (flat_map-append series_bytes done (text ∷ [])))

-- the next of others that these bytes are is this text
next_is : (text behind : List ℕ) (total count : ℕ) (all done others : List (List ℕ)) → HasRoom text → AllByRecursion HasRoom others → all ≡ done ++ others → count < length all → length done ≡ count
    → series_bytes text ++ behind ≡ flat_map series_bytes others → (rest : List (List ℕ)) × (all ≡ done ++ (text ∷ rest)) × (behind ≡ flat_map series_bytes rest)
next_is text behind total count all done [] one room are more many is = absurd (omega (arith, more, many, ap length are, length-append done []))
next_is text behind total count all done (x ∷ xs) one room are more many is =
    let both = same_text text x behind (flat_map series_bytes xs) one room.0 is in
    (xs, are ∙ ap (λ (t : List ℕ). done ++ (t ∷ xs)) (sym both.0), both.1)

-- whoever reads the bytes as more series reads this text next
pub next : (first held : List (List ℕ)) (bytes rest : List ℕ) (count : ℕ) (text behind : List ℕ) (taken : Taken first held bytes rest count) → rest ≡ series_bytes text ++ behind → HasRoom text
    → (all : List (List ℕ)) → AllByRecursion HasRoom all → count < length all → bytes ≡ flat_map series_bytes all → (others : List (List ℕ)) × (all ≡ taken.done ++ (text ∷ others)) × (behind ≡ flat_map series_bytes others)
next first held bytes rest count text behind taken one fits all room more is =
    let so_far = taken.only all room (omega (arith, more)) is in
    next_is text behind count count all taken.done so_far.0 fits (all_right HasRoom taken.done so_far.0 (subst (AllByRecursion HasRoom) so_far.1 room)) so_far.1 more taken.many (sym one ∙ so_far.2)

pub taken_one : (first held held' : List (List ℕ)) (bytes rest : List ℕ) (count : ℕ) (text behind : List ℕ) → Taken first held bytes rest count → rest ≡ series_bytes text ++ behind → HasRoom text → IsKey text → held' ≡ held ++ text ∷ []
    → Taken first held' bytes behind (count + 1)
taken_one first held held' bytes rest count text behind taken one fits key more = record {
  done = taken.done ++ text ∷ [];
  are = more ∙ ap (λ (l : List (List ℕ)). l ++ text ∷ []) taken.are ∙ append_assoc first taken.done (text ∷ []);
  whole = one_more bytes taken.done text behind (taken.whole ∙ ap (λ (l : List ℕ). flat_map series_bytes taken.done ++ l) one);
  keys = all_append IsKey taken.done (text ∷ []) taken.keys (key, tt);
  room = all_append HasRoom taken.done (text ∷ []) taken.room (fits, tt);
  many = omega (arith, length-append taken.done (text ∷ []), taken.many);
  only = λ all room less is.
      let so_far = next first held bytes rest count text behind taken one fits all room (omega (arith, less)) is in
      (so_far.0, so_far.1 ∙ push taken.done text so_far.0, so_far.2);
}

-- ---- bytes that aren't so many series

stuck : (rest : List ℕ) (all done others : List (List ℕ)) (count : ℕ) → AllByRecursion HasRoom others → all ≡ done ++ others → length done ≡ count → count < length all → rest ≡ flat_map series_bytes others
    → ((text more : List ℕ) → HasRoom text → rest ≢ series_bytes text ++ more) → ⊥
stuck rest all done [] count room are many less is none = omega (arith, less, many, ap length are, length-append done [])
stuck rest all done (x ∷ xs) count room are many less is none = none x (flat_map series_bytes xs) room.0 is

-- no text stands at the front of what is left
pub stuck_none : (first held : List (List ℕ)) (bytes rest : List ℕ) (count total : ℕ) → Taken first held bytes rest count → count < total → ((text more : List ℕ) → HasRoom text → rest ≢ series_bytes text ++ more)
    → (all : List (List ℕ)) → AllByRecursion HasRoom all → length all ≡ total → bytes ≢ flat_map series_bytes all
stuck_none first held bytes rest count total taken less none all room same is =
    let so_far = taken.only all room (omega (arith, less, same)) is in
    stuck rest all taken.done so_far.0 count (all_right HasRoom taken.done so_far.0 (subst (AllByRecursion HasRoom) so_far.1 room)) so_far.1 taken.many (omega (arith, less, same)) so_far.2 none

-- the next text is no key, or is held
pub held_none : (first held : List (List ℕ)) (bytes rest : List ℕ) (count total : ℕ) (text behind : List ℕ) → Taken first held bytes rest count → count < total → rest ≡ series_bytes text ++ behind → HasRoom text
    → (IsKey text → list_any (pointwise nat_eq text) held ≡ true) → (all : List (List ℕ)) → AllByRecursion IsKey all → AllByRecursion HasRoom all → length all ≡ total → bytes ≡ flat_map series_bytes all → IsList (first ++ all) → ⊥
held_none first held bytes rest count total text behind taken less one fits old all keys room same is list =
    let so_far = next first held bytes rest count text behind taken one fits all room (omega (arith, less, same)) is in
    let key = all_right IsKey taken.done (text ∷ so_far.0) (subst (AllByRecursion IsKey) so_far.1 keys) in
    not_twice (first ++ taken.done) text so_far.0 (subst (λ (l : List (List ℕ)). list_any (pointwise nat_eq text) l ≡ true) taken.are (old key.0))
    (subst (IsDistinct (pointwise nat_eq)) (ap (λ (l : List (List ℕ)). first ++ l) so_far.1 ∙ sym (append_assoc first taken.done (text ∷ so_far.0))) list.distinct)

none_left : (all done others : List (List ℕ)) (count : ℕ) → all ≡ done ++ others → length done ≡ count → length all ≡ count → others ≡ []
none_left all done [] count are many same = refl
none_left all done (x ∷ xs) count are many same = absurd (omega (arith, many, same, ap length are, length-append done (x ∷ xs)))

-- bytes are left
pub left_none : (first held : List (List ℕ)) (bytes rest : List ℕ) (count total : ℕ) → Taken first held bytes rest count → count ≡ total → rest ≢ [] → (all : List (List ℕ)) → AllByRecursion HasRoom all → length all ≡ total → bytes ≢ flat_map series_bytes all
left_none first held bytes rest count total taken end some all room same is =
    let so_far = taken.only all room (omega (arith, end, same)) is in
    some (so_far.2 ∙ ap (λ (l : List (List ℕ)). flat_map series_bytes l) (none_left all taken.done so_far.0 count so_far.1 taken.many (same ∙ sym end)))

-- no bytes are left
pub taken_all : (first held : List (List ℕ)) (bytes rest : List ℕ) (count : ℕ) (taken : Taken first held bytes rest count) → rest ≡ [] → bytes ≡ flat_map series_bytes taken.done
taken_all first held bytes rest count taken none = taken.whole ∙ ap (λ (l : List ℕ). flat_map series_bytes taken.done ++ l) none ∙ append-nil (flat_map series_bytes taken.done)
