-- What one change more keeps of what is known of the files.
use Rattle.std.proofs.Common.{◌≡◌, ◌≢◌, ⊎_elim, ℕ, List, [], ◌∷◌, ◌++◌, length, Bool, true, false, cond, eqb, refl, sym, ◌∙◌, ap, subst, Option, Vec}
use Rattle.std.specs.Prelude.{reverse, IsSome}
use Rattle.std.specs.declared.alloc.Global.{Global}
use Rattle.std.specs.declared.option.Option.TheVariants.{None, Some}
use Rattle.std.proofs.lemmas.Bool.{cases_eq, false≢true}
use Rattle.std.specs.BTreeMap as tree
use Rattle.std.specs.BTreeMap.{BTreeMap}
use Rattle.std.specs.BTreeSet as set
use Rattle.std.specs.BTreeSet.{BTreeSet}
use Rattle.std.specs.Cmp.{unsigned_tied}
use Rattle.std.specs.FinMap.{get, insert, remove}
use Rattle.std.specs.Ordering.{nat_cmp}
use Rattle.shard_disk.specs.Directory.{Directory, ChangesAt, Appears, IfThere, Overwritten, spliced}
use Rattle.shard_disk.proofs.Steps.{inserted, get_inserted, get_inserted_other, get_removed, get_removed_other}
use Rattle.mem_disk.specs.declared.change.Change.{Change}
use Rattle.mem_disk.specs.declared.change.Change.TheVariants.{Added, Wrote, Removed}
use Rattle.mem_disk.specs.History.{Sets, adopted_after, adopted_left, bytes_of, reads, reads_left, settled, written}
use Rattle.mem_disk.proofs.Changes.{newest_first}
use Rattle.mem_disk.proofs.Settled.{test_same, test_apart, written_other}

module _ (changes changes' : List Change) (change : Change) (is : changes' ≡ changes ++ change ∷ []) where
  pub newest : reverse changes' ≡ change ∷ reverse changes
  newest = ap (λ (l : List Change). reverse l) is ∙ newest_first changes change

  -- a change that a read doesn't see
  pub reads_kept : reads (change ∷ reverse changes) ≡ reads (reverse changes) → reads (reverse changes') ≡ reads (reverse changes)
  reads_kept unseen = ap (λ (l : List Change). reads l) newest ∙ unseen

  pub agrees_kept : (files : BTreeMap ℕ (Vec ℕ Global)) → reads (change ∷ reverse changes) ≡ reads (reverse changes)
      → ((n : ℕ) → bytes_of (tree.get nat_cmp files n) ≡ get (reads (reverse changes)) n) → (n : ℕ) → bytes_of (tree.get nat_cmp files n) ≡ get (reads (reverse changes')) n
  agrees_kept files unseen agrees n = agrees n ∙ ap (λ (d : Directory). get d n) (sym (reads_kept unseen))

  pub was_there : reads (change ∷ reverse changes) ≡ reads (reverse changes) → (n : ℕ) → IsSome (get (reads (reverse changes')) n) → IsSome (get (reads (reverse changes)) n)
  was_there unseen n there = subst (λ (d : Directory). IsSome (get d n)) (reads_kept unseen) there

  pub settled_now : (n : ℕ) → settled n (change ∷ reverse changes) ≡ true → settled n (reverse changes') ≡ true
  settled_now n so = ap (λ (l : List Change). settled n l) newest ∙ so

  -- a change that neither puts a file in nor takes one out
  pub adopted_kept : adopted_after (change ∷ reverse changes) ≡ adopted_after (reverse changes) → adopted_after (reverse changes') ≡ adopted_after (reverse changes)
  adopted_kept unseen = ap (λ (l : List Change). adopted_after l) newest ∙ unseen

  pub adopted_set : (number : ℕ) (value : Bool) → adopted_after (change ∷ reverse changes) ≡ (λ n. cond (eqb number n) value (adopted_after (reverse changes) n))
      → Sets number value (adopted_after (reverse changes)) (adopted_after (reverse changes'))
  adopted_set number value is_set = record {
    here = ap (λ (l : List Change). adopted_after l number) newest ∙ ap (λ (set : ℕ → Bool). set number) is_set ∙ ap (λ (t : Bool). cond t value (adopted_after (reverse changes) number)) (test_same number number refl);
    others = λ n apart. ap (λ (l : List Change). adopted_after l n) newest ∙ ap (λ (set : ℕ → Bool). set n) is_set
        ∙ ap (λ (t : Bool). cond t value (adopted_after (reverse changes) n)) (test_apart number n (λ same. apart (sym same)));
  }

-- a set of which one number was taken out, or was never in
pub never_in : (number : ℕ) (value : Bool) (old : ℕ → Bool) → old number ≡ value → Sets number value old old
never_in number value old is = record { here = is; others = λ n apart. refl }

-- a file that isn't there isn't adopted
pub not_adopted : (past : List Change) (n : ℕ) → get (reads past) n ≡ None → adopted_after past n ≡ false
not_adopted past n gone =
    is_false (adopted_after past n) (λ is. false≢true (subst (λ (o : Option (List ℕ)). IsSome o) gone (adopted_left past n is (reads past) (reads_left past))))
  where
    is_false : (b : Bool) → (b ≡ true → ⊥) → b ≡ false
    is_false true never = absurd (never refl)
    is_false false never = refl

-- the numbers that a set lacks are adopted no more than before
pub none_adopted : (number : ℕ) (value : Bool) (old new : ℕ → Bool) (n : ℕ) → Sets number value old new → (n ≡ number → value ≡ false) → old n ≡ false → new n ≡ false
none_adopted number value old new n sets here was =
    ⊎_elim
    (λ same. ap new same ∙ sets.here ∙ here same)
    (λ apart. sets.others n apart ∙ was)
    (cases_eq n number)

-- a file that isn't the new one was there
pub was_other : (changes changes' : List Change) (number : ℕ) (copy : Vec ℕ Global) → changes' ≡ changes ++ Added number copy ∷ [] → (n : ℕ) → n ≢ number → IsSome (get (reads (reverse changes')) n) → IsSome (get (reads (reverse changes)) n)
was_other changes changes' number copy is n other there =
    subst (λ (o : Option (List ℕ)). IsSome o) (ap (λ (l : List Change). get (reads l) n) (newest changes changes' (Added number copy) is) ∙ get_inserted_other (reads (reverse changes)) number copy.items n other) there

-- nor is one that was removed
pub removed_was : (changes changes' : List Change) (number : ℕ) → changes' ≡ changes ++ Removed number ∷ [] → (n : ℕ) → IsSome (get (reads (reverse changes')) n) → IsSome (get (reads (reverse changes)) n)
removed_was changes changes' number is n there =
    let now : IsSome (get (remove (reads (reverse changes)) number) n) = subst (λ (o : Option (List ℕ)). IsSome o) (ap (λ (l : List Change). get (reads l) n) (newest changes changes' (Removed number) is)) there in
    ⊎_elim
    (λ same. absurd (false≢true (subst (λ (o : Option (List ℕ)). IsSome o) (get_removed (reads (reverse changes)) number) (subst (λ (k : ℕ). IsSome (get (remove (reads (reverse changes)) number) k)) same now))))
    (λ other. subst (λ (o : Option (List ℕ)). IsSome o) (get_removed_other (reads (reverse changes)) number n other) now)
    (cases_eq n number)

-- and one that was written in place was there
pub written_was : (changes changes' : List Change) (number at : ℕ) (copy : Vec ℕ Global) → IsSome (get (reads (reverse changes)) number) → changes' ≡ changes ++ Wrote number at copy ∷ [] → (n : ℕ) → IsSome (get (reads (reverse changes')) n) → IsSome (get (reads (reverse changes)) n)
written_was changes changes' number at copy present is n there =
    let now : IsSome (get (reads (Wrote number at copy ∷ reverse changes)) n) = subst (λ (o : Option (List ℕ)). IsSome o) (ap (λ (l : List Change). get (reads l) n) (newest changes changes' (Wrote number at copy) is)) there in
    ⊎_elim
    (λ same. subst (λ (k : ℕ). IsSome (get (reads (reverse changes)) k)) (sym same) present)
    (λ other. subst (λ (o : Option (List ℕ)). IsSome o) (written_other number at copy.items (get (reads (reverse changes)) number) (reads (reverse changes)) n other) now)
    (cases_eq n number)

-- a file was written as it was before
module _ (files files' : BTreeMap ℕ (Vec ℕ Global)) (changes changes' : List Change) (number : ℕ) (file : Vec ℕ Global) (bytes : List ℕ) (same : changes' ≡ changes) where
  pub rewrote_agrees : ((n : ℕ) → bytes_of (tree.get nat_cmp files n) ≡ get (reads (reverse changes)) n) → tree.Updates nat_cmp files files' number (Some file) → get (reads (reverse changes)) number ≡ Some bytes → file.items ≡ bytes
      → (n : ℕ) → bytes_of (tree.get nat_cmp files' n) ≡ get (reads (reverse changes')) n
  rewrote_agrees agrees updates was is n =
      ⊎_elim
      (λ here. subst (λ (k : ℕ). bytes_of (tree.get nat_cmp files' k) ≡ get (reads (reverse changes)) k) (sym here) (ap bytes_of updates.1 ∙ ap (λ (b : List ℕ). Some b) is ∙ sym was))
      (λ other. ap bytes_of (updates.2 n (unsigned_tied number n ∙ test_apart number n (λ is. other (sym is)))) ∙ agrees n)
      (cases_eq n number)
      ∙ ap (λ (l : List Change). get (reads (reverse l)) n) (sym same)

  pub still_was : (n : ℕ) → IsSome (get (reads (reverse changes')) n) → IsSome (get (reads (reverse changes)) n)
  still_was n there = subst (λ (l : List Change). IsSome (get (reads (reverse l)) n)) same there

  pub still_settled : (n : ℕ) → settled n (reverse changes) ≡ true → settled n (reverse changes') ≡ true
  still_settled n so = ap (λ (l : List Change). settled n (reverse l)) same ∙ so

-- a test of a file's number that isn't the changed one
pub passes_by : (number n : ℕ) (answer : Bool) (past : List Change) → n ≢ number → settled n past ≡ true → cond (eqb number n) answer (settled n past) ≡ true
passes_by number n answer past apart so = ap (λ (t : Bool). cond t answer (settled n past)) (test_apart number n (λ is. apart (sym is))) ∙ so

pub stops_at : (number n : ℕ) (past : List Change) → n ≡ number → cond (eqb number n) true (settled n past) ≡ true
stops_at number n past same = ap (λ (t : Bool). cond t true (settled n past)) (test_same number n (sym same))

-- a number that the set has isn't one that it lacks
module _ (old new : BTreeSet ℕ) (number : ℕ) (updates : set.Updates nat_cmp old new number true) where
  pub lacks : (n : ℕ) → set.contains nat_cmp new n ≡ false → n ≢ number
  lacks n not is = false≢true (sym not ∙ subst (λ (k : ℕ). set.contains nat_cmp new k ≡ true) (sym is) updates.1)

  pub lacked : (n : ℕ) → set.contains nat_cmp new n ≡ false → set.contains nat_cmp old n ≡ false
  lacked n not = sym (updates.2 n (unsigned_tied number n ∙ test_apart number n (λ is. lacks n not (sym is)))) ∙ not

module _ (changes changes' : List Change) (number : ℕ) (copy : Vec ℕ Global) (bytes : List ℕ) (copied : copy.items ≡ bytes) where
  -- the new file reads as it was given
  pub placed : changes' ≡ changes ++ Added number copy ∷ [] → ChangesAt number (Appears bytes) (reads (reverse changes)) (reads (reverse changes'))
  placed is =
      subst (λ (b : List ℕ). ChangesAt number (Appears b) (reads (reverse changes)) (reads (reverse changes'))) copied
      (subst (λ (l : List Change). ChangesAt number (Appears copy.items) (reads (reverse changes)) (reads l)) (sym (newest changes changes' (Added number copy) is)) (inserted (reads (reverse changes)) number copy.items))

  overwrote_at : (at : ℕ) (old : List ℕ) → get (reads (reverse changes)) number ≡ Some old → ChangesAt number (IfThere (Overwritten at copy.items)) (reads (reverse changes)) (reads (Wrote number at copy ∷ reverse changes))
  overwrote_at at old was =
      subst (λ (file : Option (List ℕ)). ChangesAt number (IfThere (Overwritten at copy.items)) (reads (reverse changes)) (written file at copy.items (reads (reverse changes)) number)) (sym was)
      (record {
        here = subst (λ (o : Option (List ℕ)). IfThere (Overwritten at copy.items) o (get (insert (reads (reverse changes)) number (spliced old at (length copy.items) copy.items)) number)) (sym was)
            (subst (λ (o : Option (List ℕ)). IfThere (Overwritten at copy.items) (Some old) o) (sym (get_inserted (reads (reverse changes)) number (spliced old at (length copy.items) copy.items))) refl);
        others = λ n other. get_inserted_other (reads (reverse changes)) number (spliced old at (length copy.items) copy.items) n other;
      })

  -- the file reads as it was written
  pub overwrote : (at : ℕ) (old : List ℕ) → get (reads (reverse changes)) number ≡ Some old → changes' ≡ changes ++ Wrote number at copy ∷ [] → ChangesAt number (IfThere (Overwritten at bytes)) (reads (reverse changes)) (reads (reverse changes'))
  overwrote at old was is =
      subst (λ (b : List ℕ). ChangesAt number (IfThere (Overwritten at b)) (reads (reverse changes)) (reads (reverse changes'))) copied
      (subst (λ (l : List Change). ChangesAt number (IfThere (Overwritten at copy.items)) (reads (reverse changes)) (reads l)) (sym (newest changes changes' (Wrote number at copy) is)) (overwrote_at at old was))
