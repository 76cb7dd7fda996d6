use Rattle.std.proofs.Common.{◌≡◌, ℕ, List, [], ◌∷◌, ◌++◌, sym, subst, rules}
use Rattle.std.specs.List.Sorted.{IsNonDecreasing}
use Rattle.series_index.proofs.StackLemmas.{Joins, sides_ascend, join_one}
use Rattle.series_index.proofs.matching.take_join.Goals as goal

pub joined_ids-requires-clause-first : goal.joined_ids-requires-clause-first
joined_ids-requires-clause-first c =
    let asked = c.requires in
    let one : c.args.waiting.now.items ≡ c.pop.new.self.items ++ c.in-Some.first ∷ [] = search rules in
    let two : c.pop.new.self.items ≡ c.pop-2.new.self.items ++ c.in-Some-pop.second ∷ [] = search rules in
    subst (λ (l : List ℕ). IsNonDecreasing l) (sym c.deref.ensures.value)
    (sides_ascend asked.0 asked.1 asked.2 c.args.waiting.now.items c.pop.new.self.items c.pop-2.new.self.items c.in-Some.first c.in-Some-pop.second asked.3 asked.4 one two).0

pub joined_ids-requires-clause-second : goal.joined_ids-requires-clause-second
joined_ids-requires-clause-second c =
    let asked = c.requires in
    let one : c.args.waiting.now.items ≡ c.pop.new.self.items ++ c.in-Some.first ∷ [] = search rules in
    let two : c.pop.new.self.items ≡ c.pop-2.new.self.items ++ c.in-Some-pop.second ∷ [] = search rules in
    subst (λ (l : List ℕ). IsNonDecreasing l) (sym c.deref-2.ensures.value)
    (sides_ascend asked.0 asked.1 asked.2 c.args.waiting.now.items c.pop.new.self.items c.pop-2.new.self.items c.in-Some.first c.in-Some-pop.second asked.3 asked.4 one two).1

pub returns : goal.returns
returns c series_of all conditions up are =
    let one : c.args.waiting.now.items ≡ c.pop.new.self.items ++ c.in-Some.first ∷ [] = search rules in
    let two : c.pop.new.self.items ≡ c.pop-2.new.self.items ++ c.in-Some-pop.second ∷ [] = search rules in
    let joins : Joins c.args.join c.in-Some.first.items c.in-Some-pop.second.items c.in_ok-ids.ids =
    subst (λ (l : List ℕ). Joins c.args.join l c.in-Some-pop.second.items c.in_ok-ids.ids) c.deref.ensures.value (subst (λ (l : List ℕ). Joins c.args.join c.deref.result.now l c.in_ok-ids.ids) c.deref-2.ensures.value c.in_ok-ids.ensures) in
    join_one series_of all c.args.join conditions c.args.waiting.now.items c.pop.new.self.items c.pop-2.new.self.items c.push.new.self.items c.in-Some.first c.in-Some-pop.second c.in_ok-ids.ids
    up are one two c.in_ok-push.ensures.items joins
