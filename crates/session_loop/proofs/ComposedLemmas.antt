-- One history explains what the clients of several stores were told.
use Rattle.std.proofs.Common.{◌≡◌, ◌≤◌, ◌+◌, ℕ, List, [], ◌∷◌, ◌++◌, length, map, refl, sym, ap, ◌∙◌, subst, arith, length-append, IsPermutation, Contains, ◌⊎◌, inl, inr, ⊎_elim}
use Rattle.std.specs.List.{flat_map}
use Rattle.point_model.specs.Histories.{State}
use Rattle.store_trait.specs.Told.{Attempt}
use Rattle.session_model.specs.Replies.{accepted}
use Rattle.session_model.specs.Machine.{Answer, TriesEntry}
use Rattle.session_model.specs.Explained.{Records, IsTold, IsTriedIn, AreToldFrom, TakePlaces, TriesAt, ExplainedBut, all_answers, own_numbers, numbers_from}
use Rattle.session_loop.specs.Steps.{HasCause, HasCauseAt}
use Rattle.session_loop.specs.Composed.{Part, Whole, IsPart, AreParts}
use Rattle.session_loop.proofs.StepLemmas.{given_in, longer}

module _ (whole : Whole) where
  abbrev pub places_in : (client : ℕ) (part : Part) → IsPart whole client part → (least : ℕ) (answers : List Answer)
      → TakePlaces part.new.told.tells (HasCauseAt part.new.told) part.new.told.start part.new.told.history part.new.told.client least answers
      → TakePlaces whole.tells (HasCause whole.tells whole.limits whole.series whole.start) whole.start whole.history client least answers
  places_in client part is least [] places = tt
  places_in client part is least (answer ∷ answers) places = (
    places.0,
    places.1,
    given_in part.new.told whole.tells whole.limits whole.series whole.start whole.history client answer places.0 is.tells is.limits is.series is.start is.knew (sym is.whose) places.2,
    places_in client part is (places.0 + length (accepted answer.reply)) answers places.3,
  )

  -- what answers tried, they tried at their places in the whole history
  tries_in : (client : ℕ) (part : Part) (is : IsPart whole client part) (least : ℕ) (answers : List Answer)
      (places : TakePlaces part.new.told.tells (HasCauseAt part.new.told) part.new.told.start part.new.told.history part.new.told.client least answers) (attempt : Attempt)
      → TriesAt part.new.told.tells (HasCauseAt part.new.told) part.new.told.start part.new.told.history part.new.told.client least answers places attempt
      → TriesAt whole.tells (HasCause whole.tells whole.limits whole.series whole.start) whole.start whole.history client least answers (places_in client part is least answers places) attempt
  tries_in client part is least [] places attempt tries = tries
  tries_in client part is least (answer ∷ answers) places attempt tries = ⊎_elim
      (λ here. inl (subst (λ (c : ℕ). TriesEntry c attempt.1 answer) is.whose here.0, here.1 ∙ ap (λ (s : State). s.number + places.0) (sym is.start)))
      (λ later. inr (tries_in client part is (places.0 + length (accepted answer.reply)) answers places.3 attempt later))
      tries

  -- one session, seen from the whole history
  abbrev pub told_in : (client : ℕ) (part : Part) → (is : IsPart whole client part)
      → IsTold whole.tells (HasCause whole.tells whole.limits whole.series whole.start) whole.start whole.history client part.transcript part.dialogue is.is.opening
  told_in client part is =
      let told = is.is.told in
      record {
        within = (let low = told.within in let more = longer part.new.told.history whole.history is.knew in omega (arith, low, more));
        records = subst (λ (s : State). Records (s.number + is.is.opening) part.transcript part.dialogue) (sym is.start) told.records;
        places = places_in client part is is.is.opening (all_answers part.dialogue) told.places;
      }

  abbrev pub all_told : (client : ℕ) (parts : List Part) → AreParts whole client parts
      → AreToldFrom whole.tells (HasCause whole.tells whole.limits whole.series whole.start) whole.start whole.history client (map (λ part. part.transcript) parts) (map (λ part. part.dialogue) parts)
  all_told client [] are = tt
  all_told client (part ∷ parts) are = (are.0.is.opening, told_in client part are.0, all_told (client + 1) parts are.1)

  -- what the store of the first session tells as tried since, that session's client was refused at its place
  pub tried_first : (client : ℕ) (part : Part) (parts : List Part) (are : AreParts whole client (part ∷ parts)) (attempt : Attempt) → Contains part.new.told.tried attempt
      → Contains part.old.told.tried attempt
      ⊎ IsTriedIn whole.tells (HasCause whole.tells whole.limits whole.series whole.start) whole.start whole.history client (map (λ part. part.transcript) (part ∷ parts)) (map (λ part. part.dialogue) (part ∷ parts))
      (all_told client (part ∷ parts) are) attempt
  tried_first client part parts are attempt at = ⊎_elim
      (λ before. inl before)
      (λ tries. inr (inl (tries_in client part are.0 are.0.is.opening (all_answers part.dialogue) are.0.is.told.places attempt tries)))
      (are.0.is.tried attempt at)

  -- what the clients were told is what became their stores' own
  own_told : (client : ℕ) (parts : List Part) → AreParts whole client parts
      → flat_map own_numbers (map (λ part. part.dialogue) parts) ≡ flat_map (λ part. part.new.told.own) parts
  own_told client [] are = refl
  own_told client (part ∷ parts) are =
      let one = are.0 in
      let here : own_numbers part.dialogue ≡ part.new.told.own = sym (one.is.own ∙ ap (λ (l : List ℕ). l ++ own_numbers part.dialogue) one.none_own) in
      ap (λ (l : List ℕ). l ++ flat_map own_numbers (map (λ (p : Part). p.dialogue) parts)) here
      ∙ ap (λ (l : List ℕ). part.new.told.own ++ l) (own_told (client + 1) parts are.1)

pub composed : (whole : Whole) (parts : List Part) → AreParts whole 0 parts
    → IsPermutation (flat_map (λ part. part.new.told.own) parts) (numbers_from (whole.start.number + 1) whole.history)
    → ExplainedBut whole.tells (HasCause whole.tells whole.limits whole.series whole.start) whole.start whole.history (map (λ part. part.transcript) parts)
composed whole parts are once = record {
  dialogues = map (λ part. part.dialogue) parts;
  told = all_told whole 0 parts are;
  each_once = subst (λ (l : List ℕ). IsPermutation l (numbers_from (whole.start.number + 1) whole.history)) (sym (own_told whole 0 parts are)) once;
}
