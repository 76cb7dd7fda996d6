-- Which entries does an engine behind a turn have, and which loans?
use Rattle.std.specs.Prelude.{ℕ, ◌+◌, ◌≤◌, max, List, [], ◌∷◌, ◌++◌, length, map, replicate}
use Rattle.std.specs.List.{AllByRecursion, flat_map}
use Rattle.std.specs.declared.snapshot.Snapshot.{Snapshot}
use Rattle.point_model.specs.declared.entry.Entry.{Entry}
use Rattle.shard_state.specs.History.{Attempt, Made, entries_of}
use Rattle.shard_calls.specs.Attempts.{entry_tried}
use Rattle.shard_shared.specs.declared.engine.Entered.{Entered}
use Rattle.shard_shared.specs.declared.engine.Refusal.{Refusal}
use Rattle.shard_shared.specs.declared.engine.Lent.{Lent}
use Rattle.shard_shared.specs.declared.engine.Lent.TheVariants.{View, Fault, Found}

-- the entries, each with the moment at which the step that logged it ended
abbrev pub made_by : List Entered → List Made
made_by entered = map (λ (e : Entered). record { entry = e.entry; moment = e.moment }) entered

-- the entries alone
abbrev pub entries_in : List Entered → List Entry
entries_in entered = entries_of (made_by entered)

-- the refusals that were noted
abbrev pub refusals_in : List (Snapshot Refusal) → List Refusal
refusals_in notes = map (λ (note : Snapshot Refusal). note.value) notes

-- the entries of these refusals that were tried
abbrev pub tried_in : List Refusal → List Attempt
tried_in refusals = flat_map (λ (refusal : Refusal). entry_tried refusal.client refusal.number refusal.tried) refusals

-- none of these refusals found more series than are held
abbrev pub AreFew : List Refusal → List (List ℕ) → Type 0
AreFew refusals keys = AllByRecursion (λ (refusal : Refusal). refusal.series ≤ length keys) refusals

-- so many views, so many faults, and these refusals
abbrev pub lent_by : ℕ → ℕ → List Refusal → List Lent
lent_by views faults refusals = replicate views View ++ (replicate faults Fault ++ map Found refusals)

-- the views among the loans, as a store tells them: each is 0
abbrev pub views_lent : List Lent → List ℕ
views_lent [] = []
views_lent (View ∷ loans) = 0 ∷ views_lent loans
views_lent (Fault ∷ loans) = views_lent loans
views_lent (Found refusal ∷ loans) = views_lent loans

-- how many of the loans are faults
abbrev pub faults_lent : List Lent → ℕ
faults_lent [] = 0
faults_lent (View ∷ loans) = faults_lent loans
faults_lent (Fault ∷ loans) = faults_lent loans + 1
faults_lent (Found refusal ∷ loans) = faults_lent loans

-- the greatest count of series among the loans, or 0 where there is none
abbrev pub most_found : List Lent → ℕ
most_found [] = 0
most_found (View ∷ loans) = most_found loans
most_found (Fault ∷ loans) = most_found loans
most_found (Found refusal ∷ loans) = max refusal.series (most_found loans)

-- the entries among the loans that were tried
abbrev pub tried_lent : List Lent → List Attempt
tried_lent [] = []
tried_lent (View ∷ loans) = tried_lent loans
tried_lent (Fault ∷ loans) = tried_lent loans
tried_lent (Found refusal ∷ loans) = entry_tried refusal.client refusal.number refusal.tried ++ tried_lent loans

-- the loans without the first view
abbrev pub without_view : List Lent → List Lent
without_view [] = []
without_view (View ∷ loans) = loans
without_view (Fault ∷ loans) = Fault ∷ without_view loans
without_view (Found refusal ∷ loans) = Found refusal ∷ without_view loans
