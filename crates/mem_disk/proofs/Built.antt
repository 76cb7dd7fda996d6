-- A directory that is built from files in memory.
use Rattle.std.proofs.Common.{◌≡◌, ◌≢◌, inl, inr, ℕ, ◌+◌, ◌<◌, ◌≤◌, List, [], refl, sym, ◌∙◌, ap, subst, arith, true, false, Option, Vec}
use Rattle.std.specs.Prelude.{reverse, IsSome}
use Rattle.std.specs.declared.alloc.Global.{Global}
use Rattle.std.specs.declared.option.Option.TheVariants.{None, Some}
use Rattle.std.proofs.lemmas.Bool.{cases_eq, false≢true}
use Rattle.std.proofs.lemmas.Bool.Decides.{nat_tests}
use Rattle.std.proofs.lemmas.Map.Keys.{le_from_not_gt}
use Rattle.std.specs.BTreeMap as tree
use Rattle.std.specs.Cmp.{unsigned_tied}
use Rattle.std.specs.FinMap.{empty, get, get-empty}
use Rattle.std.specs.Map.{lookup}
use Rattle.std.specs.Ordering.{nat_cmp}
use Rattle.shard_disk.specs.Crash.{Follows}
use Rattle.shard_disk.specs.Directory.{Directory, ChangesAt, Appears}
use Rattle.mem_disk.specs.Building.{or_else, IsBuilt}
use Rattle.mem_disk.specs.History.{Sets, adopted_after, bytes_of, crashes_of, reads}
use Rattle.mem_disk.specs.Replayed.{Files, AreFiles}
use Rattle.mem_disk.specs.declared.change.Change.{Change}
use Rattle.mem_disk.proofs.Changes.{nothing_left}
use Rattle.mem_disk.proofs.Images.{same_directory}

absent : {A B : Type 0} (o : Option B) → o ≡ None → IsSome o → A
absent o is present = absurd (false≢true (subst (λ x. IsSome x) is present))

none_from : {B : Type 0} (o : Option B) → (IsSome o → ⊥) → o ≡ None
none_from None lacks = refl
none_from (Some b) lacks = absurd (lacks refl)

apart_keys : (number n : ℕ) → n ≢ number → tree.is_at (nat_cmp number) n ≡ false
apart_keys number n ne = unsigned_tied number n ∙ grind (arith, nat_tests)

-- before the first file
pub built_none : (all : Files) (changes : List Change) (next : ℕ) → changes ≡ [] → next ≡ 0 → IsBuilt all all changes next
built_none all changes next none first =
    let blank : reads (reverse changes) ≡ empty = ap (λ (l : List Change). reads (reverse l)) none in record {
      joined = λ n. ap (λ (d : Directory). or_else (get d n) (bytes_of (tree.get nat_cmp all n))) blank
          ∙ ap (λ (o : Option (List ℕ)). or_else o (bytes_of (tree.get nat_cmp all n))) (get-empty nat_cmp n);
      behind = λ n there. omega (arith, first);
      durable = λ image now. nothing_left changes none image now ∙ sym blank;
      least = record {
        above = λ n there. absent (get (reads (reverse changes)) n) (ap (λ (d : Directory). get d n) blank ∙ get-empty nat_cmp n) there;
        least = λ m higher. omega (arith, first);
      };
      adopted = λ n there. absent (get (reads (reverse changes)) n) (ap (λ (d : Directory). get d n) blank ∙ get-empty nat_cmp n) there;
    }

-- one file more
module _ (all rest rest' : Files) (changes changes' : List Change) (next next' number : ℕ) (bytes : Vec ℕ Global) (was : IsBuilt all rest changes next) (first : tree.get nat_cmp rest number ≡ Some bytes) (lowest : tree.IsLowerBound nat_cmp rest number)
    (updates : tree.Updates nat_cmp rest rest' number None) (file : ChangesAt number (Appears bytes.items) (reads (reverse changes)) (reads (reverse changes')))
    (crash : Follows (ChangesAt number (Appears bytes.items)) (crashes_of changes) (crashes_of changes')) (sets : Sets number true (adopted_after (reverse changes)) (adopted_after (reverse changes'))) (follows : next' ≡ number + 1) where
  abbrev old : Directory
  old = reads (reverse changes)

  le : next ≤ number
  le = was.behind number (subst (λ o. IsSome o) (sym first) refl)

  new_here : get old number ≡ None
  new_here = none_from (get (reads (reverse changes)) number) (λ there. let low : number < next = was.least.above number there in absurd (omega (arith, le)))

  was_here : Some bytes.items ≡ bytes_of (tree.get nat_cmp all number)
  was_here =
      ap (λ o. or_else None (bytes_of o)) (sym first)
      ∙ ap (λ (o : Option (List ℕ)). or_else o (bytes_of (tree.get nat_cmp rest number))) (sym new_here) ∙ was.joined number

  pub built_more : IsBuilt all rest' changes' next'
  built_more = record {
    joined = λ n. elim (cases_eq n number) [
      | inl same ↦
          subst (λ (k : ℕ). or_else (get (reads (reverse changes')) k) (bytes_of (tree.get nat_cmp rest' k)) ≡ bytes_of (tree.get nat_cmp all k)) (sym same)
          (ap (λ (o : Option (List ℕ)). or_else o (bytes_of (tree.get nat_cmp rest' number))) file.here ∙ was_here)
      | inr apart ↦
          ap (λ (o : Option (List ℕ)). or_else o (bytes_of (tree.get nat_cmp rest' n))) (file.others n apart)
          ∙ ap (λ o. or_else (get (reads (reverse changes)) n) (bytes_of o)) (updates.2 n (apart_keys number n apart)) ∙ was.joined n
    ];
    behind = λ n there. elim (cases_eq n number) [
      | inl same ↦ absent (tree.get nat_cmp rest' number) updates.1 (subst (λ (k : ℕ). IsSome (tree.get nat_cmp rest' k)) same there)
      | inr apart ↦
          let low : number ≤ n = le_from_not_gt number n (lowest n (subst (λ o. IsSome o) (updates.2 n (apart_keys number n apart)) there)) in
          omega (arith, follows)
    ];
    durable = λ image now.
        let from = crash.each image now in
        let is : from.0 ≡ reads (reverse changes) = was.durable from.0 from.1 in
        same_directory image (reads (reverse changes')) (λ n. elim (cases_eq n number) [
          | inl same ↦ subst (λ (k : ℕ). get image k ≡ get (reads (reverse changes')) k) (sym same) (from.2.here ∙ sym file.here)
          | inr apart ↦ from.2.others n apart ∙ ap (λ (d : Directory). get d n) is ∙ sym (file.others n apart)
        ]);
    least = record {
      above = λ n there. elim (cases_eq n number) [
        | inl same ↦ omega (arith, follows)
        | inr apart ↦
            let low : n < next = was.least.above n (subst (λ (o : Option (List ℕ)). IsSome o) (file.others n apart) there) in omega (arith, follows, le)
      ];
      least = λ m higher.
          let under : number < m = higher number (subst (λ (o : Option (List ℕ)). IsSome o) (sym file.here) refl) in omega (arith, follows);
    };
    adopted = λ n there. elim (cases_eq n number) [
      | inl same ↦ ap (adopted_after (reverse changes')) same ∙ sets.here
      | inr apart ↦ sets.others n apart ∙ was.adopted n (subst (λ (o : Option (List ℕ)). IsSome o) (file.others n apart) there)
    ];
  }

-- behind the last file
pub built_all : (all rest : Files) (changes : List Change) (next : ℕ) → IsBuilt all rest changes next → rest.entries ≡ [] → AreFiles (reads (reverse changes)) all
built_all all rest changes next was none n =
    sym (was.joined n) ∙ ap (λ (es : List (ℕ × Vec ℕ Global)). or_else (get (reads (reverse changes)) n) (bytes_of (lookup (tree.is_at (nat_cmp n)) es))) none ∙ or_none (get (reads (reverse changes)) n)
  where
    or_none : (o : Option (List ℕ)) → or_else o None ≡ o
    or_none None = refl
    or_none (Some b) = refl
