use Rattle.std.proofs.Common.{◌≡◌, rules, FitsSigned, w64, to_z, of_z, subst}
use Rattle.std.proofs.lemmas.Int.{to_z-of_z}
use Rattle.std.proofs.lemmas.Result.{on_ok_weaker}
use Rattle.tombstones.specs.declared.range.TombRange.{TombRange}
use Rattle.tombstones.specs.Raw.{HidesAlsoWithin}
use Rattle.tombstones.proofs.ReadLemmas.{also_within}
use Rattle.tombstones.proofs.read.add_within.Goals as goal

pub returns-in-Some-Some : goal.returns-in-Some-Some
returns-in-Some-Some c =
    let tomb = c.args.tomb in
    let fits : FitsSigned w64 tomb.from = search rules in
    let fits' : FitsSigned w64 tomb.to = search rules in
    let from : to_z w64 (of_z w64 tomb.from) ≡ tomb.from = to_z-of_z w64 tomb.from fits in
    let to : to_z w64 (of_z w64 tomb.to) ≡ tomb.to = to_z-of_z w64 tomb.to fits' in
    on_ok_weaker c.add.result (λ also. subst (λ (range : TombRange). HidesAlsoWithin c.args.set.now (record { key = tomb.key.now; range = range }) c.add.new.self) (λ i. record { from = from i; to = to i })
    (also_within c.args.set.now c.add.new.self tomb.key.now (record { from = c.in-Some-Some.from; to = c.in-Some-Some.to })
    (record { from = to_z w64 (of_z w64 tomb.from); to = to_z w64 (of_z w64 tomb.to) }) also c.in-Some-Some.ensures c.in-Some-Some.ensures')) c.add.ensures.ok
