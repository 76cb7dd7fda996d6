use Rattle.std.proofs.Common.{◌≡◌, ℕ, zero, suc, List, [], ◌∷◌, Option, Some, None, cond, eqb, eq-eqb, eqb-true, Contains, sym, ap, subst, refl, ◌∙◌, arith}
use Rattle.history_turn.specs.Histories.{listed}
use Rattle.history_turn.specs.Owned.{IsAmong, SameChange, without}
use Rattle.history_turn.proofs.OwnedLemmas.{among_contains, change_ended, passing}
use Rattle.turn_tests.proofs.turns.end_view.Goals as goal

is_out : (n : ℕ) (out : Option ℕ) → Contains (listed out) n → out ≡ Some n
is_out n None at = absurd (omega (arith, at.1))
is_out n (Some k) (zero, _, is) = ap (λ (m : ℕ). Some m) is
is_out n (Some k) (suc i, below, is) = absurd (omega arith)

-- a loan of the pass is the view that is out
out_of : (n : ℕ) (out : Option ℕ) (mine : List ℕ) → IsAmong mine (listed out) → Contains mine n → out ≡ Some n
out_of n out mine few at = is_out n out (among_contains (eqb n) mine (listed out) n (eq-eqb n n refl) (λ k e. sym (eqb-true n k e)) few at)

ended : (n : ℕ) (out left : Option ℕ) (found mine was : List ℕ) → left ≡ None → mine ≡ was → found ≡ listed out → IsAmong was (listed out) → Contains was n → SameChange found (listed left) mine (without (eqb n) mine)
ended n out left found mine was none_left same found_is few at =
    let same_n = eq-eqb n n refl in
    let o : out ≡ Some n = out_of n out was few at in
    let one : passing (eqb n) n ≡ 1 = ap (λ b. cond b 1 0) same_n in
    let base = change_ended (eqb n) (n ∷ []) was n at same_n (omega arith) (subst (IsAmong was) (ap listed o) few) in
    let all : n ∷ [] ≡ found = sym (found_is ∙ ap listed o) in
    let empty : without (eqb n) (n ∷ []) ≡ listed left = ap (λ b. cond b [] (n ∷ [])) same_n ∙ sym (ap listed none_left) in
    let back : was ≡ mine = sym same in
    subst (λ (t : List ℕ × List ℕ × List ℕ). SameChange t.0 t.1 t.2 (without (eqb n) t.2)) (λ i. (all i, empty i, back i)) base

pub end-requires : goal.end-requires
end-requires g c =
    let taken = c.take-held.ensures in
    rw c.value-engine.ensures.value (out_of c.args.no _ _ taken.loans c.requires.loan)

pub give-requires-clause-loans : goal.give-requires-clause-loans
give-requires-clause-loans g c =
    let taken = c.take-held.ensures in
    ended c.args.no _ _ _ _ _ c.end.ensures.0 (ap (λ p. p.view.loans) taken.now) (ap (λ p. p.view.loans_found) taken.now) taken.loans c.requires.loan
