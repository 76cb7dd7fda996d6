-- What one change more makes of what a crash may leave, and of what the files hold.
use Rattle.std.proofs.Common.{◌≡◌, ◌≢◌, inl, inr, ℕ, ◌+◌, ◌<◌, ◌≤◌, List, [], ◌∷◌, ◌++◌, length, refl, sym, ◌∙◌, ap, subst, arith, length-append, true, false, Option, Vec}
use Rattle.std.specs.Prelude.{reverse, IsSome}
use Rattle.std.specs.declared.alloc.Global.{Global}
use Rattle.std.specs.declared.option.Option.TheVariants.{None, Some}
use Rattle.std.specs.BTreeMap as tree
use Rattle.std.specs.BTreeMap.{BTreeMap, Updates}
use Rattle.std.specs.Cmp.{unsigned_tied}
use Rattle.std.specs.Map.{lookup}
use Rattle.std.specs.FinMap.{empty, get, insert, remove}
use Rattle.std.specs.Ordering.{nat_cmp}
use Rattle.std.proofs.lemmas.List.{take-append-le, take_all, reverse-append}
use Rattle.std.proofs.lemmas.Bool.{cases_eq, cases_lt, false≢true}
use Rattle.std.proofs.lemmas.Bool.Decides.{nat_tests}
use Rattle.shard_disk.specs.Directory.{Directory, ChangesAt, Appears, Vanishes, MadeOrNot, IfThere, Torn, spliced}
use Rattle.shard_disk.specs.Crash.{Crashes, Follows, Same, IsDurable}
use Rattle.shard_disk.proofs.Steps.{changes_same, get_inserted, get_inserted_other, get_removed, get_removed_other}
use Rattle.mem_disk.specs.declared.change.Change.{Change}
use Rattle.mem_disk.specs.declared.change.Change.TheVariants.{Added, Offered, Wrote, Tore, Synced, Removed, Condemned}
use Rattle.mem_disk.specs.History.{bytes_of, crashes_of, leaves, reads, written}
use Rattle.mem_disk.specs.Shown.{HasAsRead, LeavesExactly, Offers, Shows}

follows_same : (changes : List Change) → Follows Same (crashes_of changes) (crashes_of changes)
unfolding crashes_of
follows_same changes = record { later = omega arith; each = λ c now. (c, now, refl); within = λ t c le since. inl since; keeps = λ t c le since. since }

pub shows_same : (crashes : Crashes) → Shows Same crashes crashes
shows_same crashes d c now same = subst (λ (x : Directory). crashes.now x) (sym same) now

pub exactly_same : (changes : List Change) → LeavesExactly Same (crashes_of changes) (crashes_of changes)
exactly_same changes = record { follows = follows_same changes; shows = shows_same (crashes_of changes) }

-- an adoption that was begun and refused
pub offers : (number : ℕ) (bytes : List ℕ) (old new : Crashes) → LeavesExactly (ChangesAt number (MadeOrNot (Appears bytes))) old new → Offers false true number bytes old new
offers number bytes old new left = record {
  appears = λ begun fits d c now made. left.shows d c now (record { here = inr made.here; others = made.others });
  left_out = λ refused d c now same. left.shows d c now (subst (λ (x : Directory). ChangesAt number (MadeOrNot (Appears bytes)) d x) (sym same) (changes_same number (MadeOrNot (Appears bytes)) (λ file. inl refl) d));
}

-- one that was made, and one for which there was no memory
pub offers_made : (number : ℕ) (bytes : List ℕ) (old new : Crashes) → LeavesExactly (ChangesAt number (Appears bytes)) old new → Offers false false number bytes old new
offers_made number bytes old new left = record { appears = λ begun fits. left.shows; left_out = λ refused. absurd (false≢true refused) }

pub offers_none : (number : ℕ) (bytes : List ℕ) (old new : Crashes) → Offers true false number bytes old new
offers_none number bytes old new = record { appears = λ begun. absurd (false≢true (sym begun)); left_out = λ refused. absurd (false≢true refused) }

-- the newest stands first
pub newest_first : (changes : List Change) (change : Change) → reverse (changes ++ change ∷ []) ≡ change ∷ reverse changes
newest_first changes change = reverse-append changes (change ∷ [])

module _ (changes : List Change) (change : Change) (step : Directory → Directory → Type 0) (made : (past : List Change) (c : Directory) → leaves (change ∷ past) c → (d : Directory) × leaves past d × step d c) where
  longer : length (changes ++ change ∷ []) ≡ length changes + 1
  longer = length-append changes (change ∷ [])

  pub follows_push : Follows step (crashes_of changes) (crashes_of (changes ++ change ∷ []))
  unfolding crashes_of
  follows_push = record {
    later = omega (arith, longer);
    each = λ c now. made (reverse changes) c (subst (λ (l : List Change). leaves l c) (newest_first changes change) now);
    within = λ t c le since. elim (cases_lt (length changes) since.0) [
      | inr early ↦ inl (since.0, since.1, early, subst (λ (l : List Change). leaves (reverse l) c) (take-append-le since.0 changes (change ∷ []) early) since.3)
      | inl late ↦ inr (subst (λ (l : List Change). leaves (reverse l) c) (take_all since.0 (changes ++ change ∷ []) (omega (arith, longer, late))) since.3)
    ];
    keeps = λ t c le since.
        let within : since.0 ≤ length (changes ++ change ∷ []) = omega (arith, longer, since.2) in (
          since.0,
          since.1,
          within,
          subst (λ (l : List Change). leaves (reverse l) c) (sym (take-append-le since.0 changes (change ∷ []) since.2)) since.3,
        );
  }

module _ (changes : List Change) (change : Change) (step : Directory → Directory → Type 0) (made : (past : List Change) (c : Directory) → leaves (change ∷ past) c → (d : Directory) × leaves past d × step d c) (make : (past : List Change) (c : Directory) → (d : Directory) × leaves past d × step d c → leaves (change ∷ past) c) where
  pub exactly_push : LeavesExactly step (crashes_of changes) (crashes_of (changes ++ change ∷ []))
  unfolding crashes_of
  exactly_push = record {
    follows = follows_push changes change step made;
    shows = λ d c now did. subst (λ (l : List Change). leaves l c) (sym (newest_first changes change)) (make (reverse changes) c (d, now, did));
  }

module _ (changes changes' : List Change) where
  pub exactly_none : changes' ≡ changes → LeavesExactly Same (crashes_of changes) (crashes_of changes')
  exactly_none same = subst (λ (l : List Change). LeavesExactly Same (crashes_of changes) (crashes_of l)) (sym same) (exactly_same changes)

  pub exactly_added : (number : ℕ) (copy : Vec ℕ Global) (bytes : List ℕ) → copy.items ≡ bytes → changes' ≡ changes ++ Added number copy ∷ [] → LeavesExactly (ChangesAt number (Appears bytes)) (crashes_of changes) (crashes_of changes')
  exactly_added number copy bytes same is =
      subst (λ (b : List ℕ). LeavesExactly (ChangesAt number (Appears b)) (crashes_of changes) (crashes_of changes')) same
      (subst (λ (l : List Change). LeavesExactly (ChangesAt number (Appears copy.items)) (crashes_of changes) (crashes_of l)) (sym is)
      (exactly_push changes (Added number copy) (ChangesAt number (Appears copy.items)) (λ past c left. left) (λ past c left. left)))

  pub exactly_wrote : (number at : ℕ) (copy : Vec ℕ Global) (bytes : List ℕ) → copy.items ≡ bytes → changes' ≡ changes ++ Wrote number at copy ∷ []
      → LeavesExactly (ChangesAt number (IfThere (Torn at (length bytes)))) (crashes_of changes) (crashes_of changes')
  exactly_wrote number at copy bytes same is =
      subst (λ (b : List ℕ). LeavesExactly (ChangesAt number (IfThere (Torn at (length b)))) (crashes_of changes) (crashes_of changes')) same
      (subst (λ (l : List Change). LeavesExactly (ChangesAt number (IfThere (Torn at (length copy.items)))) (crashes_of changes) (crashes_of l)) (sym is)
      (exactly_push changes (Wrote number at copy) (ChangesAt number (IfThere (Torn at (length copy.items)))) (λ past c left. left) (λ past c left. left)))

  pub exactly_offered : (number : ℕ) (copy : Vec ℕ Global) (bytes : List ℕ) → copy.items ≡ bytes → changes' ≡ changes ++ Offered number copy ∷ [] → LeavesExactly (ChangesAt number (MadeOrNot (Appears bytes))) (crashes_of changes) (crashes_of changes')
  exactly_offered number copy bytes same is =
      subst (λ (b : List ℕ). LeavesExactly (ChangesAt number (MadeOrNot (Appears b))) (crashes_of changes) (crashes_of changes')) same
      (subst (λ (l : List Change). LeavesExactly (ChangesAt number (MadeOrNot (Appears copy.items))) (crashes_of changes) (crashes_of l)) (sym is)
      (exactly_push changes (Offered number copy) (ChangesAt number (MadeOrNot (Appears copy.items))) (λ past c left. left) (λ past c left. left)))

  pub exactly_tore : (number at n : ℕ) → changes' ≡ changes ++ Tore number at n ∷ [] → LeavesExactly (ChangesAt number (IfThere (Torn at n))) (crashes_of changes) (crashes_of changes')
  exactly_tore number at n is =
      subst (λ (l : List Change). LeavesExactly (ChangesAt number (IfThere (Torn at n))) (crashes_of changes) (crashes_of l)) (sym is)
      (exactly_push changes (Tore number at n) (ChangesAt number (IfThere (Torn at n))) (λ past c left. left) (λ past c left. left))

  pub exactly_condemned : (number : ℕ) → changes' ≡ changes ++ Condemned number ∷ [] → LeavesExactly (ChangesAt number (MadeOrNot Vanishes)) (crashes_of changes) (crashes_of changes')
  exactly_condemned number is =
      subst (λ (l : List Change). LeavesExactly (ChangesAt number (MadeOrNot Vanishes)) (crashes_of changes) (crashes_of l)) (sym is)
      (exactly_push changes (Condemned number) (ChangesAt number (MadeOrNot Vanishes)) (λ past c left. left) (λ past c left. left))

  pub follows_synced : (number : ℕ) → changes' ≡ changes ++ Synced number ∷ [] → Follows Same (crashes_of changes) (crashes_of changes')
  follows_synced number is =
      subst (λ (l : List Change). Follows Same (crashes_of changes) (crashes_of l)) (sym is)
      (follows_push changes (Synced number) Same (λ past c left. (c, left.0, refl)))

  pub exactly_removed : (number : ℕ) → changes' ≡ changes ++ Removed number ∷ [] → LeavesExactly (ChangesAt number (MadeOrNot Vanishes)) (crashes_of changes) (crashes_of changes')
  exactly_removed number is =
      subst (λ (l : List Change). LeavesExactly (ChangesAt number (MadeOrNot Vanishes)) (crashes_of changes) (crashes_of l)) (sym is)
      (exactly_push changes (Removed number) (ChangesAt number (MadeOrNot Vanishes)) (λ past c left. left) (λ past c left. left))

  pub shows_synced : (number : ℕ) → changes' ≡ changes ++ Synced number ∷ [] → Shows (HasAsRead number (reads (reverse changes))) (crashes_of changes) (crashes_of changes')
  unfolding crashes_of
  shows_synced number is d c now did =
      subst (λ (l : List Change). leaves (reverse l) c) (sym is)
      (subst (λ (l : List Change). leaves l c) (sym (newest_first changes (Synced number))) (subst (λ (x : Directory). leaves (reverse changes) x) (sym did.0) now, did.1))

  pub is_durable : (number : ℕ) → changes' ≡ changes ++ Synced number ∷ [] → IsDurable (reads (reverse changes)) (crashes_of changes') number
  unfolding crashes_of
  is_durable number is c now =
      (subst (λ (l : List Change). leaves l c) (newest_first changes (Synced number)) (subst (λ (l : List Change). leaves (reverse l) c) is now)).1

-- what the files hold, beside the history
module _ (files files' : BTreeMap ℕ (Vec ℕ Global)) (past : List Change) (number : ℕ) where
  abbrev Agrees : BTreeMap ℕ (Vec ℕ Global) → List Change → Type 0
  Agrees files past = (n : ℕ) → bytes_of (tree.get nat_cmp files n) ≡ get (reads past) n

  apart : (n : ℕ) → n ≢ number → tree.is_at (nat_cmp number) n ≡ false
  apart n ne = unsigned_tied number n ∙ grind (arith, nat_tests)

  module _ (file : Vec ℕ Global) (agrees : Agrees files past) (updates : Updates nat_cmp files files' number (Some file)) where
    pub agrees_at : (change : Change) → ((n : ℕ) → n ≢ number → get (reads (change ∷ past)) n ≡ get (reads past) n) → get (reads (change ∷ past)) number ≡ Some file.items → (n : ℕ) → bytes_of (tree.get nat_cmp files' n) ≡ get (reads (change ∷ past)) n
    agrees_at change others here n = elim (cases_eq n number) [
      | inl is ↦ subst (λ (k : ℕ). bytes_of (tree.get nat_cmp files' k) ≡ get (reads (change ∷ past)) k) (sym is) (ap bytes_of updates.1 ∙ sym here)
      | inr ne ↦ ap bytes_of (updates.2 n (apart n ne)) ∙ agrees n ∙ sym (others n ne)
    ]

-- every file that is there has a number below
abbrev pub AllBelow : Directory → ℕ → Type 0
AllBelow files next = (n : ℕ) → IsSome (get files n) → n < next

below_after : (files files' : Directory) (number next next' : ℕ) → ((n : ℕ) → n ≢ number → get files' n ≡ get files n) → AllBelow files next → next ≤ next' → (IsSome (get files' number) → number < next') → AllBelow files' next'
below_after files files' number next next' others below le here n is = elim (cases_eq n number) [
  | inl same ↦ subst (λ (k : ℕ). k < next') (sym same) (here (subst (λ (k : ℕ). IsSome (get files' k)) same is))
  | inr ne ↦
      let was : n < next = below n (subst (λ (file : Option (List ℕ)). IsSome file) (others n ne) is) in omega arith
]

module _ (files files' : BTreeMap ℕ (Vec ℕ Global)) (changes changes' : List Change) (number : ℕ) (agrees : Agrees files files' (reverse changes) number files (reverse changes)) where
  abbrev before : Directory
  before = reads (reverse changes)

  module _ (file copy : Vec ℕ Global) (bytes : List ℕ) (copied : copy.items ≡ bytes) (updates : Updates nat_cmp files files' number (Some file)) where
    pub added_agrees : file.items ≡ bytes → changes' ≡ changes ++ Added number copy ∷ [] → (n : ℕ) → bytes_of (tree.get nat_cmp files' n) ≡ get (reads (reverse changes')) n
    added_agrees same is n =
        agrees_at files files' (reverse changes) number file agrees updates (Added number copy) (get_inserted_other before number copy.items)
        (get_inserted before number copy.items ∙ ap (λ (b : List ℕ). Some b) (copied ∙ sym same)) n
        ∙ ap (λ (l : List Change). get (reads l) n) (sym (ap (λ (l : List Change). reverse l) is ∙ newest_first changes (Added number copy)))

    module _ (at : ℕ) (old : List ℕ) (was : get before number ≡ Some old) (is : changes' ≡ changes ++ Wrote number at copy ∷ []) where
      now : Directory
      now = insert before number (spliced old at (length copy.items) copy.items)

      reads_now : reads (Wrote number at copy ∷ reverse changes) ≡ now
      unfolding now
      reads_now = ap (λ (o : Option (List ℕ)). written o at copy.items before number) was

      reads_all : reads (reverse changes') ≡ now
      reads_all = ap (λ (l : List Change). reads l) (ap (λ (l : List Change). reverse l) is ∙ newest_first changes (Wrote number at copy)) ∙ reads_now

      now_other : (n : ℕ) → n ≢ number → get now n ≡ get before n
      unfolding now
      now_other = get_inserted_other before number (spliced old at (length copy.items) copy.items)

      now_here : get now number ≡ Some (spliced old at (length copy.items) copy.items)
      unfolding now
      now_here = get_inserted before number (spliced old at (length copy.items) copy.items)

      pub wrote_agrees : file.items ≡ spliced old at (length bytes) bytes → (n : ℕ) → bytes_of (tree.get nat_cmp files' n) ≡ get (reads (reverse changes')) n
      wrote_agrees same n =
          agrees_at files files' (reverse changes) number file agrees updates (Wrote number at copy)
          (λ k ne. ap (λ (d : Directory). get d k) reads_now ∙ now_other k ne)
          (ap (λ (d : Directory). get d number) reads_now ∙ now_here ∙ ap (λ (b : List ℕ). Some (spliced old at (length b) b)) copied ∙ ap (λ (b : List ℕ). Some b) (sym same)) n
          ∙ ap (λ (d : Directory). get d n) (reads_now ∙ sym reads_all)

      pub wrote_below : (next : ℕ) → AllBelow before next → AllBelow (reads (reverse changes')) next
      wrote_below next below =
          below_after before (reads (reverse changes')) number next next (λ n ne. ap (λ (d : Directory). get d n) reads_all ∙ now_other n ne) below (omega arith)
          (λ here. below number (subst (λ (o : Option (List ℕ)). IsSome o) (sym was) refl))

  pub added_below : (copy : Vec ℕ Global) → changes' ≡ changes ++ Added number copy ∷ [] → AllBelow before number → AllBelow (reads (reverse changes')) (number + 1)
  added_below copy is below =
      let all : reads (reverse changes') ≡ insert before number copy.items = ap (λ (l : List Change). reads l) (ap (λ (l : List Change). reverse l) is ∙ newest_first changes (Added number copy)) in
      below_after before (reads (reverse changes')) number number (number + 1) (λ n ne. ap (λ (d : Directory). get d n) all ∙ get_inserted_other before number copy.items n ne) below (omega arith) (λ here. omega arith)

  module _ (updates : Updates nat_cmp files files' number None) (is : changes' ≡ changes ++ Removed number ∷ []) where
    gone : reads (reverse changes') ≡ remove before number
    gone = ap (λ (l : List Change). reads l) (ap (λ (l : List Change). reverse l) is ∙ newest_first changes (Removed number))

    pub removed_agrees : (n : ℕ) → bytes_of (tree.get nat_cmp files' n) ≡ get (reads (reverse changes')) n
    removed_agrees n =
        elim (cases_eq n number) as (λ _. bytes_of (tree.get nat_cmp files' n) ≡ get (remove before number) n) [
          | inl same ↦ subst (λ (k : ℕ). bytes_of (tree.get nat_cmp files' k) ≡ get (remove before number) k) (sym same) (ap bytes_of updates.1 ∙ sym (get_removed before number))
          | inr ne ↦ ap bytes_of (updates.2 n (apart files files' (reverse changes) number n ne)) ∙ agrees n ∙ sym (get_removed_other before number n ne)
        ]
        ∙ ap (λ (d : Directory). get d n) (sym gone)

    pub removed_below : (next : ℕ) → AllBelow before next → AllBelow (reads (reverse changes')) next
    removed_below next below =
        below_after before (reads (reverse changes')) number next next (λ n ne. ap (λ (d : Directory). get d n) gone ∙ get_removed_other before number n ne) below (omega arith)
        (λ here. absurd (false≢true (subst (λ (o : Option (List ℕ)). IsSome o) (ap (λ (d : Directory). get d number) gone ∙ get_removed before number) here)))

  -- nothing was done
  pub kept_agrees : files'.entries ≡ files.entries → changes' ≡ changes → (n : ℕ) → bytes_of (tree.get nat_cmp files' n) ≡ get (reads (reverse changes')) n
  kept_agrees same is n =
      ap (λ (es : List (ℕ × Vec ℕ Global)). bytes_of (lookup (tree.is_at (nat_cmp n)) es)) same ∙ agrees n ∙ ap (λ (l : List Change). get (reads (reverse l)) n) (sym is)

  pub kept_below : (next : ℕ) → changes' ≡ changes → AllBelow before next → AllBelow (reads (reverse changes')) next
  kept_below next is below = subst (λ (l : List Change). AllBelow (reads (reverse l)) next) (sym is) below

-- before any change the directory is empty, whenever a crash comes
pub nothing_left : (changes : List Change) → changes ≡ [] → (c : Directory) → (crashes_of changes).now c → c ≡ empty
unfolding crashes_of
nothing_left changes is c now = subst (λ (l : List Change). leaves (reverse l) c) is now
