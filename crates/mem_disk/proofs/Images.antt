-- What a crash may leave is left as well with one file as it reads.
use Rattle.std.proofs.Common.{◌≡◌, ◌≢◌, inl, inr, ⊎_elim, ℕ, List, [], ◌∷◌, true, false, refl, sym, ◌∙◌, subst, length, Option}
use Rattle.std.specs.Prelude.{reverse}
use Rattle.std.specs.Ordering.{nat_cmp}
use Rattle.std.specs.declared.option.Option.TheVariants.{None, Some}
use Rattle.std.proofs.lemmas.Bool.{cases_eq, false≢true}
use Rattle.std.specs.Cmp.{nat_cmp_total}
use Rattle.std.specs.FinMap.{empty, get, get-empty, insert, remove, nat_cmp-IsAntisymmetric, same_map}
use Rattle.shard_disk.specs.Directory.{Directory, Step, ChangesAt, Appears, Vanishes, MadeOrNot, IfThere, Torn}
use Rattle.shard_disk.proofs.Steps.{changes_same, torn_at_same, get_inserted, get_inserted_other, get_removed, get_removed_other, inserted, removed}
use Rattle.mem_disk.specs.declared.change.Change.{Change}
use Rattle.mem_disk.specs.declared.change.Change.TheVariants.{Added, Offered, Wrote, Tore, Synced, Removed, Condemned}
use Rattle.shard_disk.proofs.Runs.{adds_nothing}
use Rattle.mem_disk.specs.History.{adopted_after, choice_here, choice_other, crashes_of, leaves, reads, written_left}
use Rattle.mem_disk.specs.Shown.{LeavesExactly}
use Rattle.mem_disk.proofs.Changes.{exactly_same}

-- directories that hold the same files are one
pub same_directory : (c d : Directory) → ((n : ℕ) → get c n ≡ get d n) → c ≡ d
same_directory c d same = same_map nat_cmp_total nat_cmp-IsAntisymmetric c d same

-- a directory with this file put in, or taken out
abbrev pub set_file : Directory → ℕ → Option (List ℕ) → Directory
set_file files number None = remove files number
set_file files number (Some bytes) = insert files number bytes

pub get_set : (files : Directory) (number : ℕ) (file : Option (List ℕ)) → get (set_file files number file) number ≡ file
get_set files number None = get_removed files number
get_set files number (Some bytes) = get_inserted files number bytes

pub get_set_other : (files : Directory) (number : ℕ) (file : Option (List ℕ)) (n : ℕ) → n ≢ number → get (set_file files number file) n ≡ get files n
get_set_other files number None n apart = get_removed_other files number n apart
get_set_other files number (Some bytes) n apart = get_inserted_other files number bytes n apart

-- d is c with the file as it is in files
pub record WithFile (number : ℕ) (files c d : Directory) : Type 0 where
  pub here : get d number ≡ get files number
  pub others : (n : ℕ) → n ≢ number → get d n ≡ get c n

pub with_file : (number : ℕ) (files c : Directory) → WithFile number files c (set_file c number (get files number))
with_file number files c = record { here = get_set c number (get files number); others = get_set_other c number (get files number) }

-- one change, that reads make as a crash may
module _ (past : List Change) (m number : ℕ) (step : Step) (files : Directory) (own : ChangesAt m step (reads past) files) (c d : Directory) (before : (e e' : Directory) → leaves past e → WithFile number (reads past) e e' → leaves past e') (with : WithFile number files c d)
    (left : (e : Directory) × leaves past e × ChangesAt m step e c) where
  abbrev file : Option (List ℕ)
  file = get (reads past) number

  abbrev e' : Directory
  e' = set_file left.0 number file

  here : step (get e' m) (get d m)
  here = elim (cases_eq m number) [
    | inl same ↦
        subst (λ (k : ℕ). step (get e' k) (get d k)) (sym same)
        (subst (λ (o : Option (List ℕ)). step o (get d number)) (sym (get_set left.0 number file))
        (subst (λ (o : Option (List ℕ)). step file o) (sym with.here)
        (subst (λ (k : ℕ). step (get (reads past) k) (get files k)) same own.here)))
    | inr apart ↦
        subst (λ (o : Option (List ℕ)). step o (get d m)) (sym (get_set_other left.0 number file m apart))
        (subst (λ (o : Option (List ℕ)). step (get left.0 m) o) (sym (with.others m apart)) left.2.here)
  ]

  others : (n : ℕ) → n ≢ m → get d n ≡ get e' n
  others n ne = elim (cases_eq n number) [
    | inl same ↦
        subst (λ (k : ℕ). get d k ≡ get e' k) (sym same)
        (with.here ∙ own.others number (λ is. ne (same ∙ is)) ∙ sym (get_set left.0 number file))
    | inr apart ↦ with.others n apart ∙ left.2.others n ne ∙ sym (get_set_other left.0 number file n apart)
  ]

  moved : (e : Directory) × leaves past e × ChangesAt m step e d
  moved = (e', before left.0 e' left.1 (with_file number (reads past) left.0), record { here = here; others = others })

pub as_read : (past : List Change) (number : ℕ) (c d : Directory) → leaves past c → WithFile number (reads past) c d → leaves past d
as_read [] number c d left with = same_directory d empty (λ n. elim (cases_eq n number) [
  | inl same ↦ subst (λ (k : ℕ). get d k ≡ get (reads []) k) (sym same) with.here
  | inr apart ↦ with.others n apart ∙ subst (λ (x : Directory). get c n ≡ get x n) left refl
])
as_read (Added m bytes ∷ past) number c d left with =
    moved past m number (Appears bytes.items) (reads (Added m bytes ∷ past)) (inserted (reads past) m bytes.items) c d (as_read past number) with left
as_read (Offered m bytes ∷ past) number c d left with =
    moved past m number (MadeOrNot (Appears bytes.items)) (reads past) (changes_same m _ (λ file. inl refl) (reads past)) c d (as_read past number) with left
as_read (Wrote m at bytes ∷ past) number c d left with =
    moved past m number (IfThere (Torn at (length bytes.items))) (reads (Wrote m at bytes ∷ past)) (written_left (reads past) m at bytes.items (get (reads past) m) refl) c d (as_read past number) with left
as_read (Tore m at n ∷ past) number c d left with =
    moved past m number (IfThere (Torn at n)) (reads past) (torn_at_same m at n (reads past)) c d (as_read past number) with left
as_read (Synced m ∷ past) number c d left with = (
  as_read past number c d left.0 with,
  elim (cases_eq m number) [
    | inl same ↦ inr (subst (λ (k : ℕ). get d k ≡ get (reads past) k) (sym same) with.here)
    | inr apart ↦ ⊎_elim (λ gone. inl (with.others m apart ∙ gone)) (λ there. inr (with.others m apart ∙ there)) left.1
  ],
)
as_read (Removed m ∷ past) number c d left with =
    let gone = removed (reads past) m in
    moved past m number (MadeOrNot Vanishes) (reads (Removed m ∷ past)) (record { here = inr gone.here; others = gone.others }) c d (as_read past number) with left
as_read (Condemned m ∷ past) number c d left with =
    moved past m number (MadeOrNot Vanishes) (reads past) (changes_same m _ (λ file. inl refl) (reads past)) c d (as_read past number) with left

-- d is c without the file
pub record Without (number : ℕ) (c d : Directory) : Type 0 where
  pub here : get d number ≡ None
  pub others : (n : ℕ) → n ≢ number → get d n ≡ get c n

without : (number : ℕ) (c : Directory) → Without number c (remove c number)
without number c = record { here = get_removed c number; others = get_removed_other c number }

-- one change, that is also one of directories without a file
module _ (past : List Change) (m number : ℕ) (step : Step) (c d : Directory) (nowhere : m ≡ number → step None None) (before : (e e' : Directory) → leaves past e → Without number e e' → leaves past e') (gone : Without number c d)
    (left : (e : Directory) × leaves past e × ChangesAt m step e c) where
  abbrev rest : Directory
  rest = remove left.0 number

  step_here : step (get rest m) (get d m)
  step_here = elim (cases_eq m number) [
    | inl same ↦
        subst (λ (k : ℕ). step (get rest k) (get d k)) (sym same)
        (subst (λ (o : Option (List ℕ)). step o (get d number)) (sym (get_removed left.0 number))
        (subst (λ (o : Option (List ℕ)). step None o) (sym gone.here) (nowhere same)))
    | inr apart ↦
        subst (λ (o : Option (List ℕ)). step o (get d m)) (sym (get_removed_other left.0 number m apart))
        (subst (λ (o : Option (List ℕ)). step (get left.0 m) o) (sym (gone.others m apart)) left.2.here)
  ]

  step_others : (n : ℕ) → n ≢ m → get d n ≡ get rest n
  step_others n ne = elim (cases_eq n number) [
    | inl same ↦ subst (λ (k : ℕ). get d k ≡ get rest k) (sym same) (gone.here ∙ sym (get_removed left.0 number))
    | inr apart ↦ gone.others n apart ∙ left.2.others n ne ∙ sym (get_removed_other left.0 number n apart)
  ]

  moved_without : (e : Directory) × leaves past e × ChangesAt m step e d
  moved_without = (rest, before left.0 rest left.1 (without number left.0), record { here = step_here; others = step_others })

-- the removal of this file, which a crash may leave undone
removal : (past : List Change) (m number : ℕ) (c d : Directory) → m ≡ number → Without number c d → (e : Directory) × leaves past e × ChangesAt m (MadeOrNot Vanishes) e c → (e : Directory) × leaves past e × ChangesAt m (MadeOrNot Vanishes) e d
removal past m number c d same gone left = (
  left.0,
  left.1,
  record {
    here = inr (subst (λ (k : ℕ). get d k ≡ None) (sym same) gone.here);
    others = λ n ne. gone.others n (λ is. ne (is ∙ sym same)) ∙ left.2.others n ne;
  },
)

-- of a file that isn't adopted a crash may also leave nothing
pub gone_too : (past : List Change) (number : ℕ) → adopted_after past number ≡ false → (c d : Directory) → leaves past c → Without number c d → leaves past d
gone_too [] number is c d left gone = same_directory d empty (λ n. elim (cases_eq n number) [
  | inl same ↦ subst (λ (k : ℕ). get d k ≡ get (reads []) k) (sym same) (gone.here ∙ sym (get-empty nat_cmp number))
  | inr apart ↦ gone.others n apart ∙ subst (λ (x : Directory). get c n ≡ get x n) left refl
])
gone_too (Added m bytes ∷ past) number is c d left gone = elim (cases_eq m number) [
  | inl same ↦ absurd (false≢true (sym is ∙ choice_here m number true (adopted_after past number) same))
  | inr apart ↦
      moved_without past m number (Appears bytes.items) c d (λ same. absurd (apart same)) (gone_too past number (sym (choice_other m number true (adopted_after past number) apart) ∙ is)) gone left
]
gone_too (Offered m bytes ∷ past) number is c d left gone = moved_without past m number (MadeOrNot (Appears bytes.items)) c d (λ same. inl refl) (gone_too past number is) gone left
gone_too (Wrote m at bytes ∷ past) number is c d left gone = moved_without past m number (IfThere (Torn at (length bytes.items))) c d (λ same. tt) (gone_too past number is) gone left
gone_too (Tore m at n ∷ past) number is c d left gone = moved_without past m number (IfThere (Torn at n)) c d (λ same. tt) (gone_too past number is) gone left
gone_too (Synced m ∷ past) number is c d left gone = (
  gone_too past number is c d left.0 gone,
  elim (cases_eq m number) [
    | inl same ↦ inl (subst (λ (k : ℕ). get d k ≡ None) (sym same) gone.here)
    | inr apart ↦ ⊎_elim (λ absent. inl (gone.others m apart ∙ absent)) (λ there. inr (gone.others m apart ∙ there)) left.1
  ],
)
gone_too (Removed m ∷ past) number is c d left gone = elim (cases_eq m number) [
  | inl same ↦ removal past m number c d same gone left
  | inr apart ↦
      moved_without past m number (MadeOrNot Vanishes) c d (λ same. inl refl) (gone_too past number (sym (choice_other m number false (adopted_after past number) apart) ∙ is)) gone left
]
gone_too (Condemned m ∷ past) number is c d left gone = elim (cases_eq m number) [
  | inl same ↦ removal past m number c d same gone left
  | inr apart ↦
      moved_without past m number (MadeOrNot Vanishes) c d (λ same. inl refl) (gone_too past number (sym (choice_other m number false (adopted_after past number) apart) ∙ is)) gone left
]

-- a removal that adds no record, since the file isn't adopted
pub exactly_gone : (changes : List Change) (number : ℕ) → adopted_after (reverse changes) number ≡ false → LeavesExactly (ChangesAt number (MadeOrNot Vanishes)) (crashes_of changes) (crashes_of changes)
unfolding crashes_of
exactly_gone changes number is = record {
  follows = adds_nothing (ChangesAt number (MadeOrNot Vanishes)) (crashes_of changes) (crashes_of changes) (changes_same number (MadeOrNot Vanishes) (λ file. inl refl)) (exactly_same changes).follows;
  shows = λ d c now did. ⊎_elim
      (λ kept. subst (λ (x : Directory). leaves (reverse changes) x) (same_directory d c (λ n. elim (cases_eq n number) [
        | inl same ↦ subst (λ (k : ℕ). get d k ≡ get c k) (sym same) (sym kept)
        | inr apart ↦ sym (did.others n apart)
      ])) now)
      (λ gone. gone_too (reverse changes) number is d c now (record { here = gone; others = did.others }))
      did.here;
}
