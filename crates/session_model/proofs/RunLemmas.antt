-- What one client was told, where a history explains it, is what the machine gives in a run that makes this history.
use Rattle.std.proofs.Common.{◌≡◌, ◌≤◌, ◌+◌, ℕ, suc, true, List, [], ◌∷◌, ◌++◌, length, take, refl, sym, ap, ◌∙◌, subst, arith, inl, inr, Option, Some, None, ◌⊎◌, IfSome, IsPermutation, slice_get, length-append}
use Rattle.std.specs.List.{flat_map}
use Rattle.std.proofs.lemmas.List.{append-nil, take_all}
use Rattle.std.proofs.lemmas.List.Sorted.{length_permutation}
use Rattle.std.proofs.lemmas.Option.{slice_get_within, get_or_from_slice_get}
use Rattle.std.proofs.Math.Seq.{take-suc}
use Rattle.point_model.specs.declared.entry.Entry.{Entry}
use Rattle.point_model.specs.Histories.{State, state_after}
use Rattle.point_model.proofs.HistoryLemmas.{state_after-append, state_after-nil}
use Rattle.session_model.specs.Replies.{accepted}
use Rattle.session_model.specs.Machine.{Answer, IsOutOfMemory, Run, with_entry}
use Rattle.session_model.specs.Explained.{Transcript, Dialogue, Records, AreToldFrom, Explained, IsGivenAt, TakePlaces, numbers_from, own_numbers, all_answers}
use Rattle.session_model.proofs.HistoryLemmas.{Cases, serves_cases, none_accepted}

count_numbers : (number : ℕ) (entries : List Entry) → length (numbers_from number entries) ≡ length entries
count_numbers number [] = refl
count_numbers number (entry ∷ entries) = let rest = count_numbers (number + 1) entries in omega (arith, rest)

module _ (start : State) (history : List Entry) where
  abbrev Caused : List Entry → Answer → Type 0
  Caused before = IsOutOfMemory

  -- what answers were told of entries
  abbrev told : List Answer → List ℕ
  told answers = flat_map (λ answer. accepted answer.reply) answers

  -- an answer with an entry has a place before the end
  within : (a : Answer) (place : ℕ) → IsGivenAt true Caused start history 0 a place → place + length (accepted a.reply) ≤ length history
  unfolding Cases
  within a place (low, inl aside) = let none = ap length (none_accepted a.reply aside.aside) in omega (arith, none, low)
  within a place (low, inr (entry, serves, stands)) =
      elim (serves_cases true (state_after start (take place history)) 0 a entry serves) [
        | inl (none, quiet) ↦ (let e = ap length quiet in omega (arith, e, low))
        | inr (made, some, one) ↦
            (let e = ap length one in
            let here = slice_get_within history place made (subst (λ (o : Option Entry). IfSome o (λ m. slice_get history place ≡ Some m)) some stands) in
            omega (arith, e, here))
      ]

  -- each answer that tells an entry takes one
  room : (least : ℕ) (answers : List Answer) → least ≤ length history → TakePlaces true Caused start history 0 least answers → least + length (told answers) ≤ length history
  room least [] low places = omega (arith, low)
  room least (a ∷ answers) low places =
      let rest = room (places.0 + length (accepted a.reply)) answers (within a places.0 places.2) places.3 in
      let sum = length-append (accepted a.reply) (told answers) in
      let high = places.1 in
      omega (arith, rest, sum, high)

  one_more : (place : ℕ) (made : Entry) → slice_get history place ≡ Some made → with_entry (state_after start (take place history)) (Some made) ≡ state_after start (take (place + 1) history)
  one_more place made is =
      let below = slice_get_within history place made is in
      let next : suc place ≡ place + 1 = omega arith in
      sym (state_after-append start (take place history) (made ∷ []))
      ∙ ap (state_after start) (ap (λ (e : Entry). take place history ++ e ∷ []) (sym (get_or_from_slice_get history place made made is)) ∙ sym (take-suc history place made below)
      ∙ ap (λ (n : ℕ). take n history) next)

  -- one answer, and then the rest
  step_runs : (least : ℕ) (a : Answer) (answers : List Answer) → IsGivenAt true Caused start history 0 a least
      → TakePlaces true Caused start history 0 (least + length (accepted a.reply)) answers → (least + length (accepted a.reply)) + length (told answers) ≡ length history
      → ((n : ℕ) → TakePlaces true Caused start history 0 n answers → n + length (told answers) ≡ length history → Run 0 (state_after start (take n history)) answers (state_after start history))
      → Run 0 (state_after start (take least history)) (a ∷ answers) (state_after start history)
  unfolding Cases
  step_runs least a answers (within_it, inl aside) places whole go =
      let none : least + length (accepted a.reply) ≡ least = (let e = ap length (none_accepted a.reply aside.aside) in omega (arith, e)) in (
        state_after start (take least history),
        inl (record { aside = aside.aside; cause = aside.cause; number = aside.number }, refl),
        go least (subst (λ (n : ℕ). TakePlaces true Caused start history 0 n answers) none places) (omega (arith, none, whole)),
      )
  step_runs least a answers (within_it, inr (entry, serves, stands)) places whole go =
      elim (serves_cases true (state_after start (take least history)) 0 a entry serves) [
        | inl (absent, quiet) ↦
            (let none : least + length (accepted a.reply) ≡ least = (let e = ap length quiet in omega (arith, e)) in (
              state_after start (take least history),
              inr (entry, serves, sym (ap (with_entry (state_after start (take least history))) absent)),
              go least (subst (λ (n : ℕ). TakePlaces true Caused start history 0 n answers) none places) (omega (arith, none, whole)),
            ))
        | inr (made, some, one) ↦
            (let next : least + length (accepted a.reply) ≡ least + 1 = (let e = ap length one in omega (arith, e)) in
            let is : slice_get history least ≡ Some made = subst (λ (o : Option Entry). IfSome o (λ m. slice_get history least ≡ Some m)) some stands in (
              state_after start (take (least + 1) history),
              inr (entry, serves, sym (one_more least made is) ∙ sym (ap (with_entry (state_after start (take least history))) some)),
              go (least + 1) (subst (λ (n : ℕ). TakePlaces true Caused start history 0 n answers) next places) (omega (arith, next, whole)),
            ))
      ]

  -- where the answers tell as many entries as there are from here on, each is given where the run has come to
  runs : (least : ℕ) (answers : List Answer) → TakePlaces true Caused start history 0 least answers → least + length (told answers) ≡ length history
      → Run 0 (state_after start (take least history)) answers (state_after start history)
  runs least [] places whole = ap (state_after start) (sym (take_all least history (omega (arith, whole))))
  runs least (a ∷ answers) places whole =
      let rest = room (places.0 + length (accepted a.reply)) answers (within a places.0 places.2) places.3 in
      let sum = length-append (accepted a.reply) (told answers) in
      let low = places.1 in
      let here : places.0 ≡ least = omega (arith, rest, sum, low, whole) in
      step_runs least a answers (subst (λ (n : ℕ). IsGivenAt true Caused start history 0 a n) here places.2)
      (subst (λ (n : ℕ). TakePlaces true Caused start history 0 (n + length (accepted a.reply)) answers) here places.3)
      (omega (arith, sum, whole)) (λ n more all. runs n answers more all)

pub explained_runs : (start : State) (history : List Entry) (transcript : Transcript) → Explained start history (transcript ∷ [])
    → (dialogue : Dialogue) × Records start.number transcript dialogue × Run 0 start (all_answers dialogue) (state_after start history)
explained_runs start history transcript explained = by explained.dialogues explained.told explained.each_once
  where
    by : (dialogues : List Dialogue) → AreToldFrom true (λ before. IsOutOfMemory) start history 0 (transcript ∷ []) dialogues
        → IsPermutation (flat_map own_numbers dialogues) (numbers_from (start.number + 1) history)
        → (dialogue : Dialogue) × Records start.number transcript dialogue × Run 0 start (all_answers dialogue) (state_after start history)
    by [] told once = absurd told
    by (dialogue ∷ other ∷ more) told once = absurd told.2
    by (dialogue ∷ []) told once =
        let is = told.1 in
        let owned : length (own_numbers dialogue) ≡ length history =
        sym (ap length (append-nil (own_numbers dialogue))) ∙ sym (length_permutation (flat_map own_numbers (dialogue ∷ [])) (numbers_from (start.number + 1) history) once)
        ∙ count_numbers (start.number + 1) history in
        let all = room start history told.0 (all_answers dialogue) is.within is.places in
        let first : told.0 ≡ 0 = omega (arith, owned, all) in (
          dialogue,
          subst (λ (n : ℕ). Records n transcript dialogue) (let e = first in omega (arith, e)) is.records,
          subst (λ (s : State). Run 0 s (all_answers dialogue) (state_after start history)) (sym (state_after-nil start))
              (runs start history 0 (all_answers dialogue) (subst (λ (n : ℕ). TakePlaces true (λ before. IsOutOfMemory) start history 0 n (all_answers dialogue)) first is.places) (omega (arith, owned))),
        )
