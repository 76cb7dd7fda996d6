-- What the engine noted as tried, its clients have among their loans: attempts are told apart by their codes.
use Rattle.std.proofs.Common.{◌≡◌, ◌∙◌, ℕ, ◌+◌, ◌≤◌, zero, suc, Bool, true, false, ◌&&◌, eqb, eq-eqb, eqb-true, List, [], ◌∷◌, ◌++◌, map, replicate, refl, sym, ap, subst, arith, Contains, ◌⊎◌, inl, inr, ⊎_elim}
use Rattle.std.specs.Coded.{Coded, codes}
use Rattle.std.proofs.lemmas.Bool.{false≢true}
use Rattle.std.proofs.lemmas.List.Elements.{Contains-append_cases, Contains-append_left, Contains-append_right, Contains-push, Contains-push_cases}
use base.Stored.{Gv, gnil, gnum, gcons}
use Rattle.point_model.specs.ConditionCode.{condition_code}
use Rattle.history_turn.specs.Owned.{SameItems, weigh}
use Rattle.shard_state.specs.History.{Attempt}
use Rattle.shard_calls.specs.Attempts.{entry_tried}
use Rattle.shard_shared.specs.Entries.{lent_by, tried_in, tried_lent}
use Rattle.shard_shared.specs.declared.engine.Lent.{Lent}
use Rattle.shard_shared.specs.declared.engine.Lent.TheVariants.{View, Fault, Found}
use Rattle.shard_shared.specs.declared.engine.Refusal.{Refusal}
use Rattle.shard_shared.proofs.EntriesLemmas.{weigh-lent}

-- ---- codes

same_code : Gv → Gv → Bool
same_code gnil gnil = true
same_code gnil (gnum n) = false
same_code gnil (gcons a b) = false
same_code (gnum m) gnil = false
same_code (gnum m) (gnum n) = eqb m n
same_code (gnum m) (gcons a b) = false
same_code (gcons a b) gnil = false
same_code (gcons a b) (gnum n) = false
same_code (gcons a b) (gcons c d) = same_code a c && same_code b d

and_true : (a b : Bool) → a ≡ true → b ≡ true → (a && b) ≡ true
and_true a b first second = ap (λ (x : Bool). x && b) first ∙ second

first_true : (a b : Bool) → (a && b) ≡ true → a ≡ true
first_true true b both = refl
first_true false b both = absurd (false≢true both)

second_true : (a b : Bool) → (a && b) ≡ true → b ≡ true
second_true true b both = both
second_true false b both = absurd (false≢true both)

code_of_itself : (a : Gv) → same_code a a ≡ true
unfolding same_code
code_of_itself gnil = refl
code_of_itself (gnum n) = eq-eqb n n refl
code_of_itself (gcons a b) = and_true (same_code a a) (same_code b b) (code_of_itself a) (code_of_itself b)

code_is : (a b : Gv) → same_code a b ≡ true → a ≡ b
unfolding same_code
code_is gnil gnil same = refl
code_is gnil (gnum n) same = absurd (false≢true same)
code_is gnil (gcons a b) same = absurd (false≢true same)
code_is (gnum m) gnil same = absurd (false≢true same)
code_is (gnum m) (gnum n) same = ap gnum (eqb-true m n same)
code_is (gnum m) (gcons a b) same = absurd (false≢true same)
code_is (gcons a b) gnil same = absurd (false≢true same)
code_is (gcons a b) (gnum n) same = absurd (false≢true same)
code_is (gcons a b) (gcons c d) same =
    ap (λ (x : Gv). gcons x b) (code_is a c (first_true (same_code a c) (same_code b d) same)) ∙ ap (λ (x : Gv). gcons c x) (code_is b d (second_true (same_code a c) (same_code b d) same))

attempt_code : Coded Attempt
attempt_code = Prim.hlevel (codes, condition_code)

abbrev same_attempt : Attempt → Attempt → Bool
same_attempt a b = same_code (attempt_code.code a) (attempt_code.code b)

-- ---- how often an attempt stands in a list

abbrev once : Bool → ℕ
once true = 1
once false = 0

abbrev times : Attempt → List Attempt → ℕ
times attempt [] = 0
times attempt (other ∷ attempts) = once (same_attempt attempt other) + times attempt attempts

times-append : (attempt : Attempt) (xs ys : List Attempt) → times attempt (xs ++ ys) ≡ times attempt xs + times attempt ys
times-append attempt [] ys = omega arith
times-append attempt (x ∷ xs) ys = let more = times-append attempt xs ys in omega (arith, more)

by_test : {C : Type 0} (b : Bool) → (b ≡ true → C) → (b ≡ false → C) → C
by_test true holds fails = holds refl
by_test false holds fails = fails refl

there_some : (attempt : Attempt) (attempts : List Attempt) → 1 ≤ times attempt attempts → Contains attempts attempt
there_some attempt [] least = absurd (omega (arith, least))
there_some attempt (other ∷ attempts) least = by_test (same_attempt attempt other)
    (λ same. subst (λ (a : Attempt). Contains (other ∷ attempts) a) (sym (attempt_code.inj attempt other (code_is (attempt_code.code attempt) (attempt_code.code other) same)))
    (Contains-append_left (other ∷ []) attempts other (Contains-push [] other)))
    (λ none.
    let here : once (same_attempt attempt other) ≡ 0 = ap once none in
    Contains-append_right (other ∷ []) attempts attempt (there_some attempt attempts (omega (arith, least, here))))

some_there : (attempt : Attempt) (attempts : List Attempt) → Contains attempts attempt → 1 ≤ times attempt attempts
some_there attempt [] at = absurd (let below = at.1 in omega (arith, below))
some_there attempt (other ∷ attempts) at = ⊎_elim
    (λ first. ⊎_elim (λ none. absurd (let below = none.1 in omega (arith, below)))
    (λ is.
    let here : once (same_attempt attempt other) ≡ 1 = ap once (subst (λ (a : Attempt). same_attempt attempt a ≡ true) (sym is) (code_of_itself (attempt_code.code attempt))) in
    omega (arith, here))
    (Contains-push_cases [] other attempt first))
    (λ behind. let more = some_there attempt attempts behind in omega (arith, more))
    (Contains-append_cases (other ∷ []) attempts attempt at)

-- ---- loans

-- how often a loan tried the attempt
abbrev tried_by : Attempt → Lent → ℕ
tried_by attempt View = 0
tried_by attempt Fault = 0
tried_by attempt (Found refusal) = times attempt (entry_tried refusal.client refusal.number refusal.tried)

weigh_mine : (attempt : Attempt) (loans : List Lent) → weigh (tried_by attempt) loans ≡ times attempt (tried_lent loans)
weigh_mine attempt [] = refl
weigh_mine attempt (View ∷ loans) = let more = weigh_mine attempt loans in omega (arith, more)
weigh_mine attempt (Fault ∷ loans) = let more = weigh_mine attempt loans in omega (arith, more)
weigh_mine attempt (Found refusal ∷ loans) =
    let more = weigh_mine attempt loans in let both = times-append attempt (entry_tried refusal.client refusal.number refusal.tried) (tried_lent loans) in omega (arith, more, both)

weigh_noted : (attempt : Attempt) (refusals : List Refusal) → weigh (tried_by attempt) (map Found refusals) ≡ times attempt (tried_in refusals)
weigh_noted attempt [] = refl
weigh_noted attempt (refusal ∷ refusals) =
    let more = weigh_noted attempt refusals in let both = times-append attempt (entry_tried refusal.client refusal.number refusal.tried) (tried_in refusals) in omega (arith, more, both)

weigh_none : (attempt : Attempt) (loan : Lent) (count : ℕ) → tried_by attempt loan ≡ 0 → weigh (tried_by attempt) (replicate count loan) ≡ 0
weigh_none attempt loan zero none = refl
weigh_none attempt loan (suc count) none = let more = weigh_none attempt loan count none in omega (arith, none, more)

-- what the engine noted as tried is among the loans of its clients
pub tried_told : (views faults : ℕ) (refusals : List Refusal) (loans : List Lent) → SameItems loans (lent_by views faults refusals) → (attempt : Attempt) → Contains (tried_in refusals) attempt → Contains (tried_lent loans) attempt
tried_told views faults refusals loans same attempt at =
    let some = some_there attempt (tried_in refusals) at in
    let all = same.same (tried_by attempt) in
    let whole = weigh-lent (tried_by attempt) views faults refusals in
    let a = weigh_none attempt View views refl in
    let b = weigh_none attempt Fault faults refl in
    let c = weigh_noted attempt refusals in
    let mine = weigh_mine attempt loans in
    there_some attempt (tried_lent loans) (omega (arith, some, all, whole, a, b, c, mine))
