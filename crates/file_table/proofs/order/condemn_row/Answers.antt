use Rattle.std.proofs.Common.{◌∷◌, ◌++◌, map, sym, subst, Option, ℕ}
use Rattle.std.specs.Option.{option_to_list}
use Rattle.std.specs.List.Sorted.{IsPermutation}
use Rattle.file_table.specs.Files.{unused}
use Rattle.file_table.proofs.OrderLemmas.{permuted_twice}
use Rattle.file_table.proofs.order.condemn_row.Goals as goal

pub returns-in-Some-clause-added : goal.returns-in-Some-clause-added
returns-in-Some-clause-added c =
    let both = permuted_twice (record { no = c.args.row.now.no; holds = c.args.row.now.holds }) (unused c.in-Some.tomb) c.args.files.now.items c.put_condemned.new.files.items c.put_condemned-in-Some.new.files.items c.put_condemned.ensures.added c.put_condemned-in-Some.ensures.added in
    subst (λ (tomb : Option ℕ). IsPermutation (record { no = c.args.row.now.no; holds = c.args.row.now.holds } ∷ (map unused (option_to_list tomb) ++ c.args.files.now.items)) c.put_condemned-in-Some.new.files.items) (sym c.in-Some.is) both
