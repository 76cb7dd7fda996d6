-- What a history of changes makes of a directory: how it reads, and what a crash may leave.
use Rattle.std.specs.Prelude.{◌≡◌, ◌≢◌, ◌⊎◌, ◌==◌, ℕ, ◌≤◌, Bool, true, false, if◌then◌else◌, List, [], ◌∷◌, length, take, reverse, Option, Some, None, IsSome, Vec}
use Rattle.std.specs.declared.alloc.Global.{Global}
use Rattle.std.proofs.Common.{inl, inr, ⊎_elim, refl, sym, ◌∙◌, ap, subst, arith, cond, eqb, eq-eqb}
use Rattle.std.proofs.lemmas.Bool.{cases_eq, false≢true}
use Rattle.std.proofs.lemmas.Bool.Decides.{nat_tests}
use Rattle.std.specs.FinMap.{empty, get, insert, remove}
use Rattle.std.proofs.lemmas.List.{take_all}
use Rattle.shard_disk.specs.Directory.{Directory, ChangesAt, Appears, Vanishes, MadeOrNot, IfThere, Torn, spliced}
use Rattle.shard_disk.specs.Crash.{Crashes}
use Rattle.shard_disk.specs.HandedOut.{KeepsAdopted}
use Rattle.shard_disk.proofs.Steps.{changes_same, torn_at_same, torn_whole, get_inserted, get_inserted_other, inserted, removed}
use Rattle.mem_disk.specs.declared.change.Change.{Change}
use Rattle.mem_disk.specs.declared.change.Change.TheVariants.{Added, Offered, Wrote, Tore, Synced, Removed, Condemned}

-- the bytes in a vector, where there is one
abbrev pub bytes_of : Option (Vec ℕ Global) → Option (List ℕ)
bytes_of None = None
bytes_of (Some bytes) = Some bytes.items

-- the file with these bytes written at a place, where it is there
abbrev pub written : Option (List ℕ) → ℕ → List ℕ → Directory → ℕ → Directory
written None at bytes files number = files
written (Some file) at bytes files number = insert files number (spliced file at (length bytes) bytes)

-- how the directory reads after these changes, the newest of them first
abbrev pub reads : List Change → Directory
reads [] = empty
reads (Added number bytes ∷ past) = insert (reads past) number bytes.items
reads (Offered number bytes ∷ past) = reads past
reads (Wrote number at bytes ∷ past) = written (get (reads past) number) at bytes.items (reads past) number
reads (Tore number at n ∷ past) = reads past
reads (Synced number ∷ past) = reads past
reads (Removed number ∷ past) = remove (reads past) number
reads (Condemned number ∷ past) = reads past

-- What a crash may leave after these changes, the newest of them first: of each change any part that a crash allows.
abbrev pub leaves : List Change → Directory → Type 0
leaves [] c = c ≡ empty
leaves (Added number bytes ∷ past) c = (d : Directory) × leaves past d × ChangesAt number (Appears bytes.items) d c
leaves (Offered number bytes ∷ past) c = (d : Directory) × leaves past d × ChangesAt number (MadeOrNot (Appears bytes.items)) d c
leaves (Wrote number at bytes ∷ past) c = (d : Directory) × leaves past d × ChangesAt number (IfThere (Torn at (length bytes.items))) d c
leaves (Tore number at n ∷ past) c = (d : Directory) × leaves past d × ChangesAt number (IfThere (Torn at n)) d c
leaves (Synced number ∷ past) c = leaves past c × ((get c number ≡ None) ⊎ (get c number ≡ get (reads past) number))
leaves (Removed number ∷ past) c = (d : Directory) × leaves past d × ChangesAt number (MadeOrNot Vanishes) d c
leaves (Condemned number ∷ past) c = (d : Directory) × leaves past d × ChangesAt number (MadeOrNot Vanishes) d c

-- Nothing of this file is undetermined but whether it is there: since it was put in or synced nothing was written in it.
abbrev pub settled : ℕ → List Change → Bool
settled n [] = true
settled n (Added number bytes ∷ past) = if number == n then true else settled n past
settled n (Offered number bytes ∷ past) = if number == n then false else settled n past
settled n (Wrote number at bytes ∷ past) = if number == n then false else settled n past
settled n (Tore number at m ∷ past) = if number == n then false else settled n past
settled n (Synced number ∷ past) = if number == n then true else settled n past
settled n (Removed number ∷ past) = settled n past
settled n (Condemned number ∷ past) = settled n past

-- the files that were put in and of which no removal was begun
abbrev pub adopted_after : List Change → ℕ → Bool
adopted_after [] = λ n. false
adopted_after (Added number bytes ∷ past) = λ n. if number == n then true else adopted_after past n
adopted_after (Offered number bytes ∷ past) = adopted_after past
adopted_after (Wrote number at bytes ∷ past) = adopted_after past
adopted_after (Tore number at m ∷ past) = adopted_after past
adopted_after (Synced number ∷ past) = adopted_after past
adopted_after (Removed number ∷ past) = λ n. if number == n then false else adopted_after past n
adopted_after (Condemned number ∷ past) = λ n. if number == n then false else adopted_after past n

-- one number is in the set or isn't, and each other is as it was
pub record Sets (number : ℕ) (value : Bool) (old new : ℕ → Bool) : Type 0 where
  pub here : new number ≡ value
  pub others : (n : ℕ) → n ≢ number → new n ≡ old n

-- the moments are the numbers of changes, of which the first are the oldest
unfoldable pub crashes_of : List Change → Crashes
crashes_of changes = record {
  now = leaves (reverse changes);
  moment = length changes;
  since = λ t c. (k : ℕ) × (t ≤ k) × (k ≤ length changes) × leaves (reverse (take k changes)) c;
}

pub now_counts : (changes : List Change) (t : ℕ) (c : Directory) → t ≤ (crashes_of changes).moment → (crashes_of changes).now c → (crashes_of changes).since t c
unfolding crashes_of
now_counts changes t c le now =
    let whole : take (length changes) changes ≡ changes = take_all (length changes) changes (omega arith) in
    let all : length changes ≤ length changes = omega arith in (length changes, le, all, subst (λ (l : List Change). leaves (reverse l) c) (sym whole) now)

pub now_alone : (changes : List Change) (c : Directory) → (crashes_of changes).since (crashes_of changes).moment c → (crashes_of changes).now c
unfolding crashes_of
now_alone changes c since = subst (λ (l : List Change). leaves (reverse l) c) (take_all since.0 changes (omega (arith, since.1))) since.3

pub written_left : (files : Directory) (number at : ℕ) (bytes : List ℕ) (file : Option (List ℕ)) → get files number ≡ file → ChangesAt number (IfThere (Torn at (length bytes))) files (written file at bytes files number)
written_left files number at bytes None is = record { here = subst (λ (o : Option (List ℕ)). IfThere (Torn at (length bytes)) o o) (sym is) tt; others = λ n ne. refl }
written_left files number at bytes (Some file) is = record {
  here =
      subst (λ (o : Option (List ℕ)). IfThere (Torn at (length bytes)) o (get (insert files number (spliced file at (length bytes) bytes)) number)) (sym is)
      (subst (λ (o : Option (List ℕ)). IfThere (Torn at (length bytes)) (Some file) o) (sym (get_inserted files number (spliced file at (length bytes) bytes))) (torn_whole at bytes file));
  others = get_inserted_other files number (spliced file at (length bytes) bytes);
}

-- a crash may leave the directory as it reads
pub reads_left : (past : List Change) → leaves past (reads past)
reads_left [] = refl
reads_left (Added number bytes ∷ past) = (reads past, reads_left past, inserted (reads past) number bytes.items)
reads_left (Offered number bytes ∷ past) = (reads past, reads_left past, changes_same number _ (λ file. inl refl) (reads past))
reads_left (Wrote number at bytes ∷ past) = (reads past, reads_left past, written_left (reads past) number at bytes.items (get (reads past) number) refl)
reads_left (Tore number at n ∷ past) = (reads past, reads_left past, torn_at_same number at n (reads past))
reads_left (Synced number ∷ past) = (reads_left past, inr refl)
reads_left (Removed number ∷ past) =
    let gone = removed (reads past) number in (reads past, reads_left past, record { here = inr gone.here; others = gone.others })
reads_left (Condemned number ∷ past) = (reads past, reads_left past, changes_same number _ (λ file. inl refl) (reads past))

pub as_it_reads : (changes : List Change) → (crashes_of changes).now (reads (reverse changes))
unfolding crashes_of
as_it_reads changes = reads_left (reverse changes)

-- a test of two numbers that are one, and of two that aren't
pub choice_here : (a b : ℕ) (answer rest : Bool) → a ≡ b → cond (eqb a b) answer rest ≡ answer
choice_here a b answer rest same = ap (λ (t : Bool). cond t answer rest) (eq-eqb a b same)

pub choice_other : (a b : ℕ) (answer rest : Bool) → a ≢ b → cond (eqb a b) answer rest ≡ rest
choice_other a b answer rest apart = ap (λ (t : Bool). cond t answer rest) test
  where
    test : eqb a b ≡ false
    test = grind (arith, nat_tests)

turned : (a b : ℕ) → a ≢ b → b ≢ a
turned a b apart is = apart (sym is)

there_by : (file other : Option (List ℕ)) → file ≡ other → IsSome other → IsSome file
there_by file other is there = subst (λ (o : Option (List ℕ)). IsSome o) (sym is) there

stays_there : (step : List ℕ → List ℕ → Type 0) (old new : Option (List ℕ)) → IsSome old → IfThere step old new → IsSome new
stays_there step None new there made = absurd (false≢true there)
stays_there step (Some old) None there made = absurd made
stays_there step (Some old) (Some new) there made = refl

-- a step of one file that leaves it there where it was
stays : (past : List Change) (number n : ℕ) (d c : Directory) → (number ≡ n → IsSome (get d number) → IsSome (get c number)) → ((k : ℕ) → k ≢ number → get c k ≡ get d k) → IsSome (get d n) → IsSome (get c n)
stays past number n d c here others there = elim (cases_eq number n) [
  | inl same ↦ subst (λ (k : ℕ). IsSome (get c k)) same (here same (subst (λ (k : ℕ). IsSome (get d k)) (sym same) there))
  | inr apart ↦ there_by (get c n) (get d n) (others n (turned number n apart)) there
]

-- every crash leaves a file that is adopted
pub adopted_left : (past : List Change) (n : ℕ) → adopted_after past n ≡ true → (c : Directory) → leaves past c → IsSome (get c n)
adopted_left [] n is c left = absurd (false≢true is)
adopted_left (Added number bytes ∷ past) n is c left = elim (cases_eq number n) [
  | inl same ↦ subst (λ (k : ℕ). IsSome (get c k)) same (there_by (get c number) (Some bytes.items) left.2.here refl)
  | inr apart ↦ there_by (get c n) (get left.0 n) (left.2.others n (turned number n apart)) (adopted_left past n (sym (choice_other number n true (adopted_after past n) apart) ∙ is) left.0 left.1)
]
adopted_left (Offered number bytes ∷ past) n is c left =
    stays past number n left.0 c
    (λ same there. ⊎_elim (λ kept. there_by (get c number) (get left.0 number) kept there) (λ appears. there_by (get c number) (Some bytes.items) appears refl) left.2.here)
    left.2.others (adopted_left past n is left.0 left.1)
adopted_left (Wrote number at bytes ∷ past) n is c left =
    stays past number n left.0 c (λ same there. stays_there (Torn at (length bytes.items)) (get left.0 number) (get c number) there left.2.here) left.2.others (adopted_left past n is left.0 left.1)
adopted_left (Tore number at m ∷ past) n is c left =
    stays past number n left.0 c (λ same there. stays_there (Torn at m) (get left.0 number) (get c number) there left.2.here) left.2.others (adopted_left past n is left.0 left.1)
adopted_left (Synced number ∷ past) n is c left = adopted_left past n is c left.0
adopted_left (Removed number ∷ past) n is c left = elim (cases_eq number n) [
  | inl same ↦ absurd (false≢true (sym (choice_here number n false (adopted_after past n) same) ∙ is))
  | inr apart ↦ there_by (get c n) (get left.0 n) (left.2.others n (turned number n apart)) (adopted_left past n (sym (choice_other number n false (adopted_after past n) apart) ∙ is) left.0 left.1)
]
adopted_left (Condemned number ∷ past) n is c left = elim (cases_eq number n) [
  | inl same ↦ absurd (false≢true (sym (choice_here number n false (adopted_after past n) same) ∙ is))
  | inr apart ↦ there_by (get c n) (get left.0 n) (left.2.others n (turned number n apart)) (adopted_left past n (sym (choice_other number n false (adopted_after past n) apart) ∙ is) left.0 left.1)
]

pub keeps_all : (changes : List Change) (next : ℕ) (readers : ℕ → ℕ) → KeepsAdopted (reads (reverse changes)) (crashes_of changes) (record { next_number = next; readers = readers; adopted = adopted_after (reverse changes) })
unfolding crashes_of
keeps_all changes next readers = record {
  read = λ n is. adopted_left (reverse changes) n is (reads (reverse changes)) (reads_left (reverse changes));
  left = λ n is c now. adopted_left (reverse changes) n is c now;
}
