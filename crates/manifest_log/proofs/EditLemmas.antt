-- The changes of an edit are read one after another in one way.
use Rattle.std.proofs.Common.{◌≡◌, ◌≢◌, ℕ, ◌+◌, ◌^◌, ◌<◌, ◌≤◌, List, [], ◌∷◌, ◌++◌, length, refl, sym, ap, ◌∙◌, subst, arith, Option, Some, None, Result, Ok, Err, IfOk, IfNone}
use Rattle.std.specs.List.{flat_map, AllByRecursion}
use Rattle.std.proofs.lemmas.List.{append_assoc, append-nil, length-append}
use Rattle.fixed_width.specs.Fields.{bytes_of_u32}
use Rattle.fixed_width.proofs.Fronts.{length-u32, same_u32}
use Rattle.manifest_log.specs.declared.change.Change.{Change}
use Rattle.manifest_log.specs.Format.{change_bytes, edit_bytes, HasRoom, IsWritable}
use Rattle.manifest_log.proofs.ChangeLemmas.{same_change}

-- These changes were read, so many, and this is left. Whoever reads the bytes as changes reads these first.
pub record TakesFrom (bytes : List ℕ) (done : List Change) (rest : List ℕ) (count : ℕ) : Type 0 where
  pub whole : bytes ≡ flat_map change_bytes done ++ rest
  pub room : AllByRecursion HasRoom done
  pub many : length done ≡ count
  pub only : (all : List Change) → AllByRecursion HasRoom all → count ≤ length all → bytes ≡ flat_map change_bytes all
      → (others : List Change) × (length all ≡ count + length others) × (rest ≡ flat_map change_bytes others) × AllByRecursion HasRoom others

pub takes_none : (bytes : List ℕ) → TakesFrom bytes [] bytes 0
takes_none bytes = record { whole = refl; room = tt; many = refl; only = λ all room less is. (all, omega arith, is, room) }

flat_push : (changes : List Change) (change : Change) (rest : List ℕ) → flat_map change_bytes changes ++ (change_bytes change ++ rest) ≡ flat_map change_bytes (changes ++ change ∷ []) ++ rest
flat_push [] change rest = ap (λ (l : List ℕ). l ++ rest) (sym (append-nil (change_bytes change)))
flat_push (x ∷ xs) change rest =
    append_assoc (change_bytes x) (flat_map change_bytes xs) (change_bytes change ++ rest) ∙ ap (λ (l : List ℕ). change_bytes x ++ l) (flat_push xs change rest)
    ∙ sym (append_assoc (change_bytes x) (flat_map change_bytes (xs ++ change ∷ [])) rest)

room_push : (changes : List Change) (change : Change) → AllByRecursion HasRoom changes → HasRoom change → AllByRecursion HasRoom (changes ++ change ∷ [])
room_push [] change room one = (one, tt)
room_push (x ∷ xs) change room one = (room.0, room_push xs change room.1 one)

first_is : (change : Change) (behind : List ℕ) (count total : ℕ) (others : List Change) → HasRoom change → count + 1 ≤ total → total ≡ count + length others
    → change_bytes change ++ behind ≡ flat_map change_bytes others → AllByRecursion HasRoom others
    → (rest : List Change) × (total ≡ (count + 1) + length rest) × (behind ≡ flat_map change_bytes rest) × AllByRecursion HasRoom rest
first_is change behind count total [] one more same is room = absurd (omega (arith, more, same))
first_is change behind count total (x ∷ xs) one more same is room =
    let both = same_change change x behind (flat_map change_bytes xs) one room.0 is in
    (xs, omega (arith, same), both.1, room.1)

pub takes_one : (bytes : List ℕ) (done done' : List Change) (rest behind : List ℕ) (count : ℕ) (change : Change) → TakesFrom bytes done rest count → rest ≡ change_bytes change ++ behind → HasRoom change → done' ≡ done ++ change ∷ []
    → TakesFrom bytes done' behind (count + 1)
takes_one bytes done done' rest behind count change takes is one pushed = subst (λ (l : List Change). TakesFrom bytes l behind (count + 1)) (sym pushed) (record {
  whole = takes.whole ∙ ap (λ (l : List ℕ). flat_map change_bytes done ++ l) is ∙ flat_push done change behind;
  room = room_push done change takes.room one;
  many = omega (arith, length-append done (change ∷ []), takes.many);
  only = λ all room more same.
      let so_far = takes.only all room (omega (arith, more)) same in
      first_is change behind count (length all) so_far.0 one more so_far.1 (sym is ∙ so_far.2) so_far.3;
})

stuck : (rest : List ℕ) (count total : ℕ) (others : List Change) → count < total → total ≡ count + length others → rest ≡ flat_map change_bytes others
    → ((change : Change) (more : List ℕ) → rest ≢ change_bytes change ++ more) → ⊥
stuck rest count total [] less same is none = omega (arith, less, same)
stuck rest count total (x ∷ xs) less same is none = none x (flat_map change_bytes xs) is

-- where no change stands at the front of what is left, the bytes aren't so many changes
pub stuck_none : (bytes : List ℕ) (done : List Change) (rest : List ℕ) (count total : ℕ) → TakesFrom bytes done rest count → count < total → ((change : Change) (more : List ℕ) → rest ≢ change_bytes change ++ more)
    → (all : List Change) → AllByRecursion HasRoom all → length all ≡ total → bytes ≢ flat_map change_bytes all
stuck_none bytes done rest count total takes less none all room same is =
    let so_far = takes.only all room (omega (arith, less, same)) is in
    stuck rest count total so_far.0 less (omega (arith, so_far.1, same)) so_far.2 none

left_over : (rest : List ℕ) (others : List Change) → length others ≡ 0 → rest ≡ flat_map change_bytes others → rest ≡ []
left_over rest [] none is = is
left_over rest (x ∷ xs) none is = absurd (omega (arith, none))

-- where bytes are left behind all, they aren't either
pub left_none : (bytes : List ℕ) (done : List Change) (rest : List ℕ) (count total : ℕ) → TakesFrom bytes done rest count → total ≤ count → count ≤ total → (rest ≡ [] → ⊥)
    → (all : List Change) → AllByRecursion HasRoom all → length all ≡ total → bytes ≢ flat_map change_bytes all
left_none bytes done rest count total takes less more some all room same is =
    let so_far = takes.only all room (omega (arith, more, less, same)) is in
    some (left_over rest so_far.0 (omega (arith, so_far.1, same, less, more)) so_far.2)

-- each change takes a byte at least
pub at_least : (changes : List Change) → length changes ≤ length (flat_map change_bytes changes)
at_least [] = omega arith
at_least (x ∷ xs) = omega (arith, at_least xs, length-append (change_bytes x) (flat_map change_bytes xs))

pub few : (changes : List Change) → IsWritable changes → length changes < 2 ^ 32
few changes writable = omega (arith, at_least changes, writable.short, length-append (bytes_of_u32 (length changes)) (flat_map change_bytes changes))

-- of two edits with the same bytes, the counts and what stands behind are the same
pub same_parts : (count : ℕ) (rest : List ℕ) (changes : List Change) → count < 2 ^ 32 → IsWritable changes → bytes_of_u32 count ++ rest ≡ edit_bytes changes → (length changes ≡ count) × (rest ≡ flat_map change_bytes changes)
same_parts count rest changes fits writable is =
    let both = same_u32 count (length changes) rest (flat_map change_bytes changes) fits (few changes writable) is in
    (sym both.0, both.1)

pub four_at_least : (changes : List Change) → 4 ≤ length (edit_bytes changes)
four_at_least changes = omega (arith, length-append (bytes_of_u32 (length changes)) (flat_map change_bytes changes), length-u32 (length changes))

pub ok_none_from : {T E P Q : Type 0} (r : Result (Option T) E) → (P → Q) → IfOk r (λ t. IfNone t P) → IfOk r (λ t. IfNone t Q)
ok_none_from (Ok None) f p = f p
ok_none_from (Ok (Some x)) f p = tt
ok_none_from (Err e) f p = tt

same_list : (xs ys : List Change) → AllByRecursion HasRoom xs → AllByRecursion HasRoom ys → length xs ≡ length ys → flat_map change_bytes xs ≡ flat_map change_bytes ys → xs ≡ ys
same_list [] [] a b l e = refl
same_list [] (y ∷ ys) a b l e = absurd (omega (arith, l))
same_list (x ∷ xs) [] a b l e = absurd (omega (arith, l))
same_list (x ∷ xs) (y ∷ ys) a b l e =
    let both = same_change x y (flat_map change_bytes xs) (flat_map change_bytes ys) a.0 b.0 e in
    let rest = same_list xs ys a.1 b.1 (omega (arith, l)) both.1 in
    λ i. both.0 i ∷ rest i

-- bytes are one edit at most
pub same_edit : (one other : List Change) → IsWritable one → IsWritable other → edit_bytes one ≡ edit_bytes other → one ≡ other
same_edit one other a b is =
    let parts = same_parts (length one) (flat_map change_bytes one) other (few one a) b is in
    same_list one other a.room b.room (sym parts.0) parts.1

pub if_ok_map : {T E : Type 0} {P Q : T → Type 0} (r : Result T E) → ((x : T) → P x → Q x) → IfOk r P → IfOk r Q
if_ok_map (Ok x) f p = f x p
if_ok_map (Err e) f p = tt
