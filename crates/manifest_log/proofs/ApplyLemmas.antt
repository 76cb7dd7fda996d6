-- Lists that are gone through: changes that are made, rows that are changed, parts that are put one behind the other.
use Rattle.std.proofs.Common.{◌≡◌, ℕ, suc, ◌+◌, ◌<◌, ◌≤◌, List, [], ◌∷◌, ◌++◌, length, get_or, set, map, take, drop, refl, ap, ◌∙◌, subst, arith, Some, None, Result, Ok, Err, OnOk, Bool, true, false, cond, filter}
use Rattle.std.specs.List.Retain.{IsFiltered, ReturnsInTurn}
use Rattle.std.specs.List.{items_where_true}
use Rattle.std.specs.Option.{option_and_then}
use Rattle.std.proofs.Math.Seq.{drop-cons}
use Rattle.std.proofs.lemmas.List.{append_assoc, drop_all, take_at, take_all, append-nil, get_or_default}
use Rattle.std.proofs.lemmas.List.Edits.{map_over_more}
use Rattle.file_table.specs.declared.row.FileRow.{FileRow}
use Rattle.manifest_log.specs.declared.change.Change.{Change}
use Rattle.manifest_log.specs.declared.directory.Directory.{Directory}
use Rattle.manifest_log.specs.Edits.{changed, all_changed}

pub on_ok_then : {T E P Q : Type 0} (r : Result T E) → (P → Q) → OnOk r P → OnOk r Q
on_ok_then (Ok x) f p = f p
on_ok_then (Err e) f p = tt

next_is : (mid : Directory) (changes : List Change) (k : ℕ) (d : Change) → k < length changes → all_changed mid (drop k changes) ≡ option_and_then (λ next. all_changed next (drop (k + 1) changes)) (changed mid (get_or changes k d))
next_is mid changes k d within =
    let more : suc k ≡ k + 1 = omega arith in
    ap (all_changed mid) (drop-cons changes k d within) ∙ ap (λ (n : ℕ). option_and_then (λ next. all_changed next (drop n changes)) (changed mid (get_or changes k d))) more

-- one change more is made
pub made_more : (start mid next : Directory) (changes : List Change) (k : ℕ) (d : Change) → k < length changes → all_changed start changes ≡ all_changed mid (drop k changes) → changed mid (get_or changes k d) ≡ Some next
    → all_changed start changes ≡ all_changed next (drop (k + 1) changes)
made_more start mid next changes k d within so_far made = so_far ∙ next_is mid changes k d within ∙ ap (option_and_then (λ n. all_changed n (drop (k + 1) changes))) made

-- one isn't
pub made_none : (start mid : Directory) (changes : List Change) (k : ℕ) (d : Change) → k < length changes → all_changed start changes ≡ all_changed mid (drop k changes) → changed mid (get_or changes k d) ≡ None
    → all_changed start changes ≡ None
made_none start mid changes k d within so_far none = so_far ∙ next_is mid changes k d within ∙ ap (option_and_then (λ n. all_changed n (drop (k + 1) changes))) none

pub made_all : (start mid : Directory) (changes : List Change) (k : ℕ) → length changes ≤ k → all_changed start changes ≡ all_changed mid (drop k changes) → all_changed start changes ≡ Some mid
made_all start mid changes k past so_far = so_far ∙ ap (all_changed mid) (drop_all k changes past)

-- one row more is changed
pub changed_more : (f : FileRow → FileRow) (xs ys : List FileRow) (i : ℕ) (d new : FileRow) → i < length xs → length ys ≡ length xs → ys ≡ map f (take i xs) ++ drop i xs → new ≡ f (get_or ys i d)
    → set ys i new ≡ map f (take (i + 1) xs) ++ drop (i + 1) xs
changed_more f xs ys i d new within long so_far is =
    ap (set ys i) is ∙ map_over_more f xs ys i (get_or ys i d) within so_far (get_or_default ys i d (get_or ys i d) (omega (arith, within, long)))

-- all rows were
pub changed_all : (f : FileRow → FileRow) (xs ys items : List FileRow) (i n : ℕ) → xs ≡ items → length xs ≤ i → length ys ≡ length xs → n ≡ length items → ys ≡ map f (take i xs) ++ drop i xs
    → take n (ys ++ drop (length ys) items) ≡ map f items
changed_all f xs ys items i n same past long size so_far =
    take_at ys (drop (length ys) items) n (omega (arith, long, size, ap length same))
    ∙ so_far ∙ (λ j. map f (take_all i xs past j) ++ drop_all i xs past j) ∙ append-nil (map f xs) ∙ ap (map f) same

-- seven parts, put one behind the other
pub put_seven : (out a g n p m t o1 o2 o3 o4 o5 o6 o7 : List ℕ) (l : ℕ) → o1 ≡ out ++ (3 ∷ a) → o2 ≡ o1 ++ g → o3 ≡ o2 ++ n → o4 ≡ o3 ++ l ∷ [] → o5 ≡ o4 ++ p → o6 ≡ o5 ++ m → o7 ≡ o6 ++ t
    → o7 ≡ out ++ (3 ∷ (a ++ (g ++ (n ++ (l ∷ (p ++ (m ++ t)))))))
put_seven out a g n p m t o1 o2 o3 o4 o5 o6 o7 l e1 e2 e3 e4 e5 e6 e7 =
    e7 ∙ ap (λ (x : List ℕ). x ++ t) (e6 ∙ ap (λ (x : List ℕ). x ++ m) (e5 ∙ ap (λ (x : List ℕ). x ++ p) (e4 ∙ ap (λ (x : List ℕ). x ++ l ∷ []) (e3 ∙ ap (λ (x : List ℕ). x ++ n) (e2 ∙ ap (λ (x : List ℕ). x ++ g) e1)))))
    ∙ regroup out a g n p m t l
  where
    flat : (o g n l p m t : List ℕ) → (((((o ++ g) ++ n) ++ l) ++ p) ++ m) ++ t ≡ o ++ (g ++ (n ++ (l ++ (p ++ (m ++ t)))))
    flat o g n l p m t = simp append_assoc

    regroup : (out a g n p m t : List ℕ) (l : ℕ) → ((((((out ++ (3 ∷ a)) ++ g) ++ n) ++ l ∷ []) ++ p) ++ m) ++ t ≡ out ++ (3 ∷ (a ++ (g ++ (n ++ (l ∷ (p ++ (m ++ t)))))))
    regroup out a g n p m t l = flat (out ++ (3 ∷ a)) g n (l ∷ []) p m t ∙ append_assoc out (3 ∷ a) (g ++ (n ++ (l ∷ (p ++ (m ++ t)))))

-- a test that keeps items in turn is a filter
module _ {X F : Type 0} (test : X → Bool) (R : F → X → Bool → F → Type 0) (f : F) (says : (x : X) (b : Bool) (f' : F) → R f x b f' → (b ≡ test x) × (f' ≡ f)) where
  in_turn : (bs : List Bool) (xs : List X) (q : F) → length bs ≡ length xs → ReturnsInTurn R f bs xs q → items_where_true bs xs ≡ filter test xs
  in_turn [] [] q len h = refl
  in_turn [] (x ∷ xs) q len h = absurd (omega (arith, len))
  in_turn (b ∷ bs) [] q len h = absurd (omega (arith, len))
  in_turn (true ∷ bs) (x ∷ xs) q len h =
      let at = says x true h.0 h.1 in
      let rest = in_turn bs xs q (omega (arith, len)) (subst (λ (k : F). ReturnsInTurn R k bs xs q) at.1 h.2) in
      (λ i. x ∷ rest i) ∙ ap (λ (b : Bool). cond b (x ∷ filter test xs) (filter test xs)) at.0
  in_turn (false ∷ bs) (x ∷ xs) q len h =
      let at = says x false h.0 h.1 in
      let rest = in_turn bs xs q (omega (arith, len)) (subst (λ (k : F). ReturnsInTurn R k bs xs q) at.1 h.2) in
      rest ∙ ap (λ (b : Bool). cond b (x ∷ filter test xs) (filter test xs)) at.0

  pub kept_by : (xs ys : List X) → IsFiltered R f xs ys → ys ≡ filter test xs
  kept_by xs ys h = h.4 ∙ in_turn h.0 xs h.1 h.2 h.3
