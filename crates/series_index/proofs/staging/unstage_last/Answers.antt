use Rattle.std.proofs.Common.{◌≡◌, ◌++◌, ◌∷◌, [], length, ap, arith, rules}
use Rattle.std.proofs.lemmas.List.{length-append}
use Rattle.series_index.proofs.StagingLemmas.{unstages_one}
use Rattle.series_index.proofs.staging.unstage_last.Goals as goal

pub returns-in-Some-clause-fewer : goal.returns-in-Some-clause-fewer
returns-in-Some-clause-fewer c =
    let popped : c.args.staged.now.items ≡ c.pop.new.self.items ++ c.in-Some.last ∷ [] = search rules in
    unstages_one c.args.lists.now c.unstage.new.self c.args.staged.now.items c.pop.new.self.items c.in-Some.last popped c.unstage.ensures.ready c.unstage.ensures.holds

pub returns-in-Some-clause-one : goal.returns-in-Some-clause-one
returns-in-Some-clause-one c =
    let popped : c.args.staged.now.items ≡ c.pop.new.self.items ++ c.in-Some.last ∷ [] = search rules in
    let long = ap length popped in
    let sum = length-append c.pop.new.self.items (c.in-Some.last ∷ []) in omega (arith, long, sum)

pub returns-in-None-clause-fewer : goal.returns-in-None-clause-fewer
returns-in-None-clause-fewer c =
    let none : c.args.staged.now.items ≡ [] = search rules in
    let some = c.requires in
    let long = ap length none in absurd (omega (arith, some, long))

pub returns-in-None-clause-one : goal.returns-in-None-clause-one
returns-in-None-clause-one c =
    let none : c.args.staged.now.items ≡ [] = search rules in
    let some = c.requires in
    let long = ap length none in absurd (omega (arith, some, long))
