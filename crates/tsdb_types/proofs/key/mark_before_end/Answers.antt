use Rattle.std.proofs.Common.{◌≡◌, ℕ, ◌-◌, List, [], ◌∷◌, length, drop, sym, ap, subst, ◌∙◌, arith}
use Rattle.std.proofs.lemmas.List.{length-drop}
use Rattle.std.proofs.lemmas.Bool.{false≢true}
use Rattle.std.proofs.lemmas.Slice.Eq.{bytes_eq-Decides}
use Rattle.tsdb_types.proofs.KeyLemmas.{first_kept, first_over, first_behind}
use Rattle.tsdb_types.proofs.key.mark_before_end.Goals as goal

pub returns-in-Some-clause-first : goal.returns-in-Some-clause-first
returns-in-Some-clause-first c = λ field. first_kept c.args.series.now field c.in-Some.at c.in-Some.ensures.found

pub returns-then-ends_with-clause-first : goal.returns-then-ends_with-clause-first
returns-then-ends_with-clause-first c = λ field.
    let s = c.args.series.now in
    let ends = (bytes_eq-Decides (35 ∷ 33 ∷ 126 ∷ []) (drop (length s - 3) s)).0 (sym c.ends_with.ensures.value ∙ c.if-ends_with.true) in
    first_over s field (length s - 3) c.in_default.ensures.none (sym ends)

pub returns-clause-none : goal.returns-clause-none
returns-clause-none c = λ field.
    let s = c.args.series.now in
    first_behind s field c.in_default.ensures.none
    (λ k l three.
    let at : k ≡ length s - 3 = omega (arith, ap (λ (t : List ℕ). length t) three, length-drop k s) in
    let ends = subst (λ (n : ℕ). drop n s ≡ 35 ∷ 33 ∷ 126 ∷ []) at three in
    false≢true (sym c.if-ends_with.false ∙ c.ends_with.ensures.value ∙ (bytes_eq-Decides (35 ∷ 33 ∷ 126 ∷ []) (drop (length s - 3) s)).1 (sym ends)))
