-- The row that stands last is the next one.
use Rattle.std.proofs.Common.{◌∙◌, ap, sym, Some, reverse, Vec, Global, option_map, arith}
use Rattle.std.proofs.lemmas.List.{map-set}
use Rattle.std.proofs.lemmas.Option.{slice_get-map, slice_get-get_or}
use Rattle.point_model.specs.Rows.{Row}
use Rattle.store_trait.proofs.ListLemmas.{popped, emptied}
use Rattle.store_trait.proofs.list_view.pop_row.Goals as goal

pub returns-clause-taken : goal.returns-clause-taken
returns-clause-taken c =
    record {
      rows = reverse c.index_mut.result.now.items;
      rest = reverse c.pop.new.self.items;
      was =
          slice_get-map (λ (row : Vec Row Global). reverse row.items) c.args.rows.now.items c.args.key
          ∙ ap (λ o. option_map (λ (row : Vec Row Global). reverse row.items) o)
          (slice_get-get_or c.args.rows.now.items c.args.key c.index_mut.result.now c.requires ∙ ap Some (sym c.index_mut.ensures.value));
      takes = popped c.pop.result c.index_mut.result.now.items c.pop.new.self.items c.pop.ensures.items
          (λ none. let zero = emptied c.pop.result _ _ _ c.pop.ensures.cases none in let len = c.index_mut.result.now.ok.0 in omega (arith, zero, len));
      others = map-set (λ (row : Vec Row Global). reverse row.items) c.args.rows.now.items c.args.key c.pop.new.self;
    }
