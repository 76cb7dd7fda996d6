use Rattle.std.proofs.Common.{◌<◌, ◌++◌, ℕ, List, length, slice_get, sym, ap, ◌∙◌, arith}
use Rattle.std.proofs.lemmas.List.{take_all}
use Rattle.index_lists.specs.Names.{names_at, names_in}
use Rattle.index_lists.proofs.NameLemmas.{one_more}
use Rattle.index_lists.proofs.StepLemmas.{Entry}
use Rattle.index_lists.proofs.names.names_of.Goals as goal

pub loop-place-preserved : goal.loop-place-preserved
loop-place-preserved c =
    let inv = c.loop-place.invariant in
    let less : c.loop-place.place < length c.args.map.now.entries = omega (arith, inv.end, c.loop-place-test.true) in
    record {
      names = c.in_ok-add_name.ensures ∙ ap (λ (l : List (List ℕ)). l ++ names_at c.args.heading.now (slice_get c.args.map.now.entries c.loop-place.place)) inv.names
          ∙ sym (one_more c.args.heading.now c.args.map.now.entries c.loop-place.place less);
      end = inv.end;
    }

pub returns : goal.returns
returns c =
    let inv = c.loop-place.invariant in
    inv.names ∙ ap (λ (l : List Entry). names_in c.args.heading.now l) (take_all c.loop-place.place c.args.map.now.entries (omega (arith, inv.end, c.loop-place-test.false)))
