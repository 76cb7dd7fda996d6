-- What a pass knows once it has given the turn back.
use Rattle.std.proofs.Common.{◌≡◌, ◌∙◌, ℕ, List, ◌++◌, ◌∷◌, [], length, append-nil, ap, subst, sym, arith, reverse, Option, Some, refl, true, false, Result, Ok, Err}
use Rattle.std.specs.Prelude.{IsErrOf}
use Rattle.std.specs.declared.snapshot.Snapshot.{Snapshot}
use Rattle.std.proofs.lemmas.Bool.{false≢true}
use Rattle.shard_disk.specs.Health.{Health}
use Rattle.shard_disk.specs.declared.disk.Disk.{Ghosts}
use Rattle.point_model.specs.Cursors.{Shown}
use Rattle.point_model.specs.declared.need.Need.{Need}
use Rattle.history_turn.specs.Histories.{StartsWith}
use Rattle.history_turn.specs.Passes.{Known, viewing}
use Rattle.history_turn.specs.Views.{adding, holding, resting}
use Rattle.history_turn.proofs.HistoriesLemmas.{starts_longer, starts_trans}
use Rattle.store_trait.specs.Calls.View.{Begins, TakesBack}
use Rattle.store_trait.specs.Told.{Attempt, Keeps}
use Rattle.store_trait.specs.declared.fault.DeleteFault.{DeleteFault}
use Rattle.store_trait.specs.declared.fault.DeleteFault.TheVariants as delete_fault
use Rattle.store_trait.specs.declared.fault.WriteFault.{WriteFault}
use Rattle.store_trait.specs.declared.fault.WriteFault.TheVariants as fault
use Rattle.shard_steps.specs.declared.facts.Facts.{Facts}
use Rattle.shard_steps.specs.declared.shard.Shard.{Shard}
use Rattle.shard_shared.specs.Reaching.{ComesFrom, RanFrom, Stands}
use Rattle.shard_shared.specs.Entries.{AreFew, entries_in, most_found, refusals_in, tried_in, tried_lent, views_lent}
use Rattle.shard_shared.specs.Told.{EngineView, is_deletion_fault, is_fault, limits_at, number_at, state_at, told_over}
use Rattle.shard_shared.specs.declared.engine.Engine.{Engine}
use Rattle.shard_shared.specs.declared.engine.Entered.{Entered}
use Rattle.shard_shared.specs.declared.engine.Lent.{Lent}
use Rattle.shard_shared.specs.declared.engine.Refusal.{Refusal}
use Rattle.shard_shared.proofs.EntriesLemmas.{entries_in-append, few_grown, few_more, noted_refusals}

-- what clauses see of a pass
abbrev pub Pass : Type 0 → Type 0
Pass D = Known (Option (Shard D)) Entered Lent Facts

-- it took the value, and gave it back with these entries and loans
abbrev pub after : {D : Type 0} → EngineView D → List Entered → ℕ → List Lent → List Entered → ℕ → List Lent → EngineView D
after view entries found loans_found more faults loans = resting (adding (number_at view.start) (holding view entries found loans_found) more) faults loans

pub gave : {D : Type 0} (old held new : Pass D) (entries : List Entered) (found : ℕ) (loans_found : List Lent) (facts : Facts) (more : List Entered) (faults : ℕ) (loans : List Lent → List Lent)
    → held ≡ record { turn = old.turn; view = holding old.view entries found loans_found; before = Some facts }
    → new ≡ viewing held (resting (adding (number_at held.view.start) held.view more) faults (loans held.view.loans))
    → new.view ≡ after old.view entries found loans_found more faults (loans old.view.loans)
gave {D} old held new entries found loans_found facts more faults loans taken given =
    ap (λ (p : Pass D). p.view) given ∙ ap (λ (p : Pass D). resting (adding (number_at p.view.start) p.view more) faults (loans p.view.loans)) taken

-- the value that is lent is the one that was taken
pub lent_reaches : {D R W : Type 0} (g : Ghosts D R W) (start : Option (Shard D)) (entries : List Entered) (taken lent : Engine D) → lent ≡ taken
    → Stands g start entries taken → ComesFrom g start lent.faults (tried_in (refusals_in lent.found.items)) entries lent.shard
lent_reaches {D} g start entries taken lent is was = subst (λ (e : Engine D). ComesFrom g start e.faults (tried_in (refusals_in e.found.items)) entries e.shard) (sym is) was.0

pub lent_few : {D R W : Type 0} (g : Ghosts D R W) (start : Option (Shard D)) (entries : List Entered) (taken lent : Engine D) → lent ≡ taken
    → Stands g start entries taken → AreFew (refusals_in lent.found.items) lent.shard.logs.series.keys
lent_few {D} g start entries taken lent is was = subst (λ (e : Engine D). AreFew (refusals_in e.found.items) e.shard.logs.series.keys) (sym is) was.1

-- the same of one that has room for a refusal
pub roomy_reaches : {D R W : Type 0} (g : Ghosts D R W) (start : Option (Shard D)) (entries : List Entered) (taken lent roomy : Engine D) → lent ≡ taken
    → roomy.shard ≡ lent.shard → roomy.faults ≡ lent.faults → roomy.found.items ≡ lent.found.items → Stands g start entries taken
    → ComesFrom g start roomy.faults (tried_in (refusals_in roomy.found.items)) entries roomy.shard
roomy_reaches {D} g start entries taken lent roomy is shard faults found was =
    subst (λ (s : Shard D). ComesFrom g start roomy.faults (tried_in (refusals_in roomy.found.items)) entries s) (sym shard)
    (subst (λ (n : ℕ). ComesFrom g start n (tried_in (refusals_in roomy.found.items)) entries lent.shard) (sym faults)
    (subst (λ (l : List (Snapshot Refusal)). ComesFrom g start lent.faults (tried_in (refusals_in l)) entries lent.shard) (sym found) (lent_reaches g start entries taken lent is was)))

pub roomy_few : {D R W : Type 0} (g : Ghosts D R W) (start : Option (Shard D)) (entries : List Entered) (taken lent roomy : Engine D) → lent ≡ taken
    → roomy.shard ≡ lent.shard → roomy.found.items ≡ lent.found.items → Stands g start entries taken → AreFew (refusals_in roomy.found.items) roomy.shard.logs.series.keys
roomy_few {D} g start entries taken lent roomy is shard found was =
    subst (λ (s : Shard D). AreFew (refusals_in roomy.found.items) s.logs.series.keys) (sym shard)
    (subst (λ (l : List (Snapshot Refusal)). AreFew (refusals_in l) lent.shard.logs.series.keys) (sym found) (lent_few g start entries taken lent is was))

-- what a crash may leave of the one that is lent, and of one that has room for a refusal
pub lent_ran : {D R W : Type 0} (g : Ghosts D R W) (start : Option (Shard D)) (entries : List Entered) (taken lent : Engine D) → lent ≡ taken
    → Stands g start entries taken → RanFrom g start (tried_in (refusals_in lent.found.items)) entries lent.shard
lent_ran {D} g start entries taken lent is was = subst (λ (e : Engine D). RanFrom g start (tried_in (refusals_in e.found.items)) entries e.shard) (sym is) was.2

pub roomy_ran : {D R W : Type 0} (g : Ghosts D R W) (start : Option (Shard D)) (entries : List Entered) (taken lent roomy : Engine D) → lent ≡ taken
    → roomy.shard ≡ lent.shard → roomy.found.items ≡ lent.found.items → Stands g start entries taken → RanFrom g start (tried_in (refusals_in roomy.found.items)) entries roomy.shard
roomy_ran {D} g start entries taken lent roomy is shard found was =
    subst (λ (s : Shard D). RanFrom g start (tried_in (refusals_in roomy.found.items)) entries s) (sym shard)
    (subst (λ (l : List (Snapshot Refusal)). RanFrom g start (tried_in (refusals_in l)) entries lent.shard) (sym found) (lent_ran g start entries taken lent is was))

-- a refusal notes what it found
pub noted_few : (old new : List (Snapshot Refusal)) (note : Snapshot Refusal) (refusal : Refusal) (keys more grown : List (List ℕ)) → new ≡ old ++ note ∷ [] → note.value ≡ refusal → grown ≡ keys ++ more
    → refusal.series ≡ length grown → AreFew (refusals_in old) keys → AreFew (refusals_in new) grown
noted_few old new note refusal keys more grown put value is counts few =
    subst (λ (l : List Refusal). AreFew l grown) (sym (noted_refusals old new note refusal put value)) (few_more (refusals_in old) refusal grown (few_grown (refusals_in old) keys more grown few is) (omega (arith, counts)))

-- no entry more
pub none_more : {D R W : Type 0} (g : Ghosts D R W) (start : Option (Shard D)) (faults : ℕ) (tried : List Attempt) (entries : List Entered) (shard : Shard D)
    → ComesFrom g start faults tried entries shard → ComesFrom g start faults tried (entries ++ []) shard
none_more g start faults tried entries shard was = subst (λ (es : List Entered). ComesFrom g start faults tried es shard) (sym (append-nil entries)) was

-- a view that met no fault
pub takes_back : (old new : Health) → new ≡ old → TakesBack (record { faults = 0; is_steady = true }) old new
takes_back old new same = record {
  grows = let is = ap (λ (h : Health). h.faults) same in omega (arith, is);
  later = λ rose. absurd (omega (arith, rose));
  quiet = λ none. same;
}

-- While a pass waits for a view it may see more entries, and has what it had.
pub record Waits {D : Type 0} (old new : EngineView D) : Type 0 where
  pub start : new.start ≡ old.start
  pub own : new.own ≡ old.own
  pub loans : new.loans ≡ old.loans
  pub seen : StartsWith new.seen old.seen

module _ {D : Type 0} (first was : EngineView D) (waits : Waits first was) where
  pub seen_more : (entries : List Entered) → StartsWith entries was.seen → StartsWith (entries ++ []) first.seen
  seen_more entries more = starts_longer entries first.seen [] (starts_trans entries was.seen first.seen more waits.seen)

  pub waits_more : (entries : List Entered) (found : ℕ) (loans_found : List Lent) (faults : ℕ) → StartsWith entries was.seen
      → Waits first (after was entries found loans_found [] faults was.loans)
  waits_more entries found loans_found faults more = record { start = waits.start; own = waits.own; loans = waits.loans; seen = seen_more entries more }

-- what a store tells by the view of its pass
pub told_keeps : {D : Type 0} (old new : EngineView D) (client next : ℕ) → next ≡ client → most_found new.loans ≡ most_found old.loans → new.start ≡ old.start → StartsWith new.seen old.seen
    → Keeps (told_over client old) (told_over next new)
told_keeps {D} old new client next same few start more = record {
  client = same;
  start = ap (λ (s : Option (Shard D)). state_at s) start;
  tells = refl;
  is_alone = refl;
  alone = λ alone owns. absurd (false≢true alone);
  limits = ap (λ (s : Option (Shard D)). limits_at s) start;
  history = record { since = entries_in more.0; begins = ap (λ (es : List Entered). entries_in es) more.1 ∙ entries_in-append old.seen more.0 };
  series = omega (arith, few);
}

pub begins_waited : {D : Type 0} (first was now : EngineView D) (client next : ℕ) (need : Need) (shown : Shown) → Waits first was
    → Begins need shown 0 false (told_over next was) (told_over next now) → Begins need shown 0 false (told_over client first) (told_over next now)
begins_waited first was now client next need shown waits begins = record {
  number = begins.number;
  gives = begins.gives;
  sound = begins.sound;
  timed = begins.timed;
  own = begins.own ∙ ap (λ (ns : List ℕ). reverse ns) waits.own;
  tried = begins.tried ∙ ap (λ (l : List Lent). tried_lent l) waits.loans;
  out = begins.out ∙ ap (λ (l : List Lent). 0 ∷ views_lent l) waits.loans;
  told_is_whole = begins.told_is_whole;
  unlimited_is_whole = begins.unlimited_is_whole;
}

-- Faults.

pub fault_is : (why : WriteFault) → is_fault why ≡ true → why ≡ fault.Fault
fault_is (fault.TypeConflict field held number) is = absurd (false≢true is)
fault_is fault.HistoryFull is = absurd (false≢true is)
fault_is (fault.SeriesFull held) is = absurd (false≢true is)
fault_is (fault.CacheFull held) is = absurd (false≢true is)
fault_is fault.Memory is = absurd (false≢true is)
fault_is fault.Fault is = refl

pub fault_isnt : (why : WriteFault) → is_fault why ≡ false → why ≡ fault.Fault → ⊥
fault_isnt why other is = false≢true (sym other ∙ ap (λ (w : WriteFault). is_fault w) is)

-- the fault of a refusal
abbrev refusal : Result ℕ WriteFault → WriteFault → WriteFault
refusal (Ok number) other = other
refusal (Err why) other = why

pub quiet_refusal : (why : WriteFault) → is_fault why ≡ false → IsErrOf {T = ℕ} (Err why) fault.Fault → ⊥
quiet_refusal why other is = fault_isnt why other (ap (λ (r : Result ℕ WriteFault). refusal r why) is)

pub quiet_answer : (number : ℕ) → IsErrOf {T = ℕ} (Ok number) fault.Fault → ⊥
quiet_answer number is = false≢true (ap (λ (r : Result ℕ WriteFault). is_fault (refusal r fault.Memory)) is)

-- The same of a deletion.

pub deletion_fault_is : (why : DeleteFault) → is_deletion_fault why ≡ true → why ≡ delete_fault.Fault
deletion_fault_is delete_fault.HistoryFull is = absurd (false≢true is)
deletion_fault_is delete_fault.Memory is = absurd (false≢true is)
deletion_fault_is delete_fault.Fault is = refl

pub deletion_fault_isnt : (why : DeleteFault) → is_deletion_fault why ≡ false → why ≡ delete_fault.Fault → ⊥
deletion_fault_isnt why other is = false≢true (sym other ∙ ap (λ (w : DeleteFault). is_deletion_fault w) is)

abbrev deletion_refusal : Result ℕ DeleteFault → DeleteFault → DeleteFault
deletion_refusal (Ok number) other = other
deletion_refusal (Err why) other = why

pub quiet_deletion_refusal : (why : DeleteFault) → is_deletion_fault why ≡ false → IsErrOf {T = ℕ} (Err why) delete_fault.Fault → ⊥
quiet_deletion_refusal why other is = deletion_fault_isnt why other (ap (λ (r : Result ℕ DeleteFault). deletion_refusal r why) is)

pub quiet_deletion_answer : (number : ℕ) → IsErrOf {T = ℕ} (Ok number) delete_fault.Fault → ⊥
quiet_deletion_answer number is = false≢true (ap (λ (r : Result ℕ DeleteFault). is_deletion_fault (deletion_refusal r delete_fault.Memory)) is)
