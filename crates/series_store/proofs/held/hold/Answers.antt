use Rattle.std.proofs.Common.{◌++◌, ◌∷◌, [], ap, ◌∙◌, if◌then◌else◌, Bool, IsOk, OnOk, Result, Ok, Err}
use Rattle.series_store.proofs.ListLemmas.{none_there}
use Rattle.series_store.proofs.held.hold.Goals as goal

holds : {T E P : Type 0} (r : Result T E) → IsOk r → OnOk r P → P
holds (Ok x) is p = p
holds (Err e) is p = cc is

pub returns-clause-keys : goal.returns-clause-keys
returns-clause-keys c =
    let held = c.args.held.now.keys in
    let none = none_there held c.args.key c.requires.fresh in
    holds c.insert.result (c.insert.ensures.succeeds c.requires.room) c.insert.ensures.keys ∙ ap (λ (b : Bool). if b then held else held ++ c.args.key ∷ []) none
