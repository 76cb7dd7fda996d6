use Rattle.std.proofs.Common.{ℕ, List, reverse, None, ap, ◌∙◌}
use Rattle.std.proofs.lemmas.List.{reverse-reverse}
use Rattle.tsm_format.specs.Rows.{first_block}
use Rattle.tsm_file.specs.ReadPoints.{Asked, Begins, Cursor, directed}
use Rattle.tsm_file.proofs.RowLemmas.{one_row}
use Rattle.tsm_file.proofs.CursorLemmas.{new_gives}
use Rattle.tsm_file.proofs.PlaceLemmas.{new_within}
use Rattle.tsm_file.proofs.cursor.TsmCursor.new.Goals as goal

pub returns-clause-gives : goal.returns-clause-gives
returns-clause-gives c =
    let index = c.args.index.now in
    let asked : Asked = record { key = c.args.key.now; from = c.args.from; to = c.args.to; descending = c.args.descending } in
    let cursor : Cursor = record {
      file = c.file.result;
      kind = c.in_ok-kind.kind;
      asked = record { key = c.in_ok-from_slice.field-0.items; from = c.args.from; to = c.args.to; descending = c.args.descending };
      blocks = reverse c.last_first.new.items.items;
      points = reverse c.new.result.items;
    } in
    let begins : Begins index asked cursor = record {
      file = c.file.ensures.number;
      asks = ap (λ (k : List ℕ). record { key = k; from = c.args.from; to = c.args.to; descending = c.args.descending }) c.in_ok-from_slice.ensures.items;
      entries = c.in_ok-kind.blocks.items;
      meet = c.in_ok-kind.ensures;
      blocks = ap reverse c.last_first.ensures ∙ reverse-reverse (directed c.args.descending c.in_ok-kind.blocks.items);
      points = ap reverse c.new.ensures.items;
    } in
    new_gives index asked cursor (λ a b h k. one_row None first_block index.rows c.args.key.now a b c.file.ensures.rows.good h k) begins

pub returns-clause-within : goal.returns-clause-within
returns-clause-within c =
    let index = c.args.index.now in
    let asked : Asked = record { key = c.args.key.now; from = c.args.from; to = c.args.to; descending = c.args.descending } in
    let cursor : Cursor = record {
      file = c.file.result;
      kind = c.in_ok-kind.kind;
      asked = record { key = c.in_ok-from_slice.field-0.items; from = c.args.from; to = c.args.to; descending = c.args.descending };
      blocks = reverse c.last_first.new.items.items;
      points = reverse c.new.result.items;
    } in
    let begins : Begins index asked cursor = record {
      file = c.file.ensures.number;
      asks = ap (λ (k : List ℕ). record { key = k; from = c.args.from; to = c.args.to; descending = c.args.descending }) c.in_ok-from_slice.ensures.items;
      entries = c.in_ok-kind.blocks.items;
      meet = c.in_ok-kind.ensures;
      blocks = ap reverse c.last_first.ensures ∙ reverse-reverse (directed c.args.descending c.in_ok-kind.blocks.items);
      points = ap reverse c.new.ensures.items;
    } in
    new_within index asked cursor begins
