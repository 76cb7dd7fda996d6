use Rattle.std.proofs.Common.{◌≡◌, ℕ, ◌-◌, List, [], ◌∷◌, ◌++◌, take, reverse, All, refl, sym, ap, ◌∙◌, subst, arith, rules}
use Rattle.std.proofs.lemmas.List.{reverse-reverse}
use Rattle.std.proofs.lemmas.List.Elements.{All-head, All-same}
use Rattle.tsm_format.specs.declared.entry.Entry.{Entry}
use Rattle.point_model.specs.Rows.{Row}
use Rattle.tsm_file.specs.ReadBlocks.{IsWithin}
use Rattle.tsm_file.specs.ReadPoints.{Asked, BlocksGive, Cursor, Gives, IsLiveAt, IsNextWrong, Picks, Takes, directed}
use Rattle.tsm_file.proofs.CursorLemmas.{one_read_stays, one_read_takes, reverse_last, some_left}
use Rattle.tsm_file.proofs.cursor.TsmCursor.read_next.Goals as goal

pub read_block-requires-after_bounds : goal.read_block-requires-after_bounds
read_block-requires-after_bounds g c = λ lifetimes outlives tells.
    let bytes = g.R.Reader.content c.args.reader.now in
    let items = c.self.inside.blocks.items in
    let entry = c.index-entry.result.now in
    let left = c.len-left.result - 1 in
    let held : reverse c.self.inside.blocks.items ≡ c.args.self.now.blocks = ap (λ (k : Cursor). k.blocks) c.self.view_is in
    let some = some_left items (λ none. c.requires.some (sym held ∙ none)) in
    let len = c.len-left.ensures in
    let own = c.self.inside.blocks.ok.0 in
    let first = reverse_last items left entry (omega arith) c.index-entry.ensures in
    let all : All (IsWithin (g.R.Reader.content c.args.reader.now)) (entry ∷ reverse (take left items)) = All-same (IsWithin bytes) (entry ∷ reverse (take left items)) c.args.self.now.blocks (sym first ∙ held) (c.requires.within tells) in
    All-head (IsWithin bytes) entry (reverse (take left items)) all

pub returns-in_err-points-clause-damaged : goal.returns-in_err-points-clause-damaged
returns-in_err-points-clause-damaged g c = λ damage is tells.
    let bytes = g.R.Reader.content c.args.reader.now in
    let inside = c.self.inside in
    let items = c.self.inside.blocks.items in
    let entry = c.index-entry.result.now in
    let left = c.len-left.result - 1 in
    let held : reverse c.self.inside.blocks.items ≡ c.args.self.now.blocks = ap (λ (k : Cursor). k.blocks) c.self.view_is in
    let some = some_left items (λ none. c.requires.some (sym held ∙ none)) in
    let len = c.len-left.ensures in
    let own = c.self.inside.blocks.ok.0 in
    let first = reverse_last items left entry (omega arith) c.index-entry.ensures in
    let wrong = c.in_err-points.ensures.damaged damage (search rules) tells in
    let old : Cursor = record {
      file = inside.file;
      kind = inside.kind;
      asked = record { key = inside.key.items; from = inside.from; to = inside.to; descending = inside.descending };
      blocks = reverse inside.blocks.items;
      points = reverse inside.points.items;
    } in
    let next : IsNextWrong bytes old damage = record { entry = entry; rest = reverse (take left items); next = first; wrong = wrong } in
    subst (λ (k : Cursor). IsNextWrong bytes k damage) c.self.view_is next

pub returns-clause-ok : goal.returns-clause-ok
returns-clause-ok g c = λ tells.
    let bytes = g.R.Reader.content c.args.reader.now in
    let tombs = c.args.tombs.now in
    let inside = c.self.inside in
    let items = c.self.inside.blocks.items in
    let entry = c.index-entry.result.now in
    let left = c.len-left.result - 1 in
    let held : reverse c.self.inside.blocks.items ≡ c.args.self.now.blocks = ap (λ (k : Cursor). k.blocks) c.self.view_is in
    let some = some_left items (λ none. c.requires.some (sym held ∙ none)) in
    let len = c.len-left.ensures in
    let own = c.self.inside.blocks.ok.0 in
    let first = reverse_last items left entry (omega arith) c.index-entry.ensures in
    let asked : Asked = record { key = inside.key.items; from = inside.from; to = inside.to; descending = inside.descending } in
    let old : Cursor = record { file = inside.file; kind = inside.kind; asked = asked; blocks = reverse inside.blocks.items; points = reverse inside.points.items } in
    let new : Cursor = record { file = inside.file; kind = inside.kind; asked = asked; blocks = reverse c.truncate.new.self.items; points = reverse c.last_first.new.items.items } in
    let none : reverse c.self.inside.points.items ≡ [] = ap (λ (k : Cursor). k.points) c.self.view_is ∙ c.requires.none_ready in
    let behind : reverse c.truncate.new.self.items ≡ reverse (take left items) = ap reverse c.truncate.ensures.items in
    let ready : reverse c.last_first.new.items.items ≡ directed inside.descending c.keep_live.new.points.items = ap reverse c.last_first.ensures ∙ reverse-reverse (directed inside.descending c.keep_live.new.points.items) in
    let picks = subst (λ (k : List ℕ). Picks (λ (p : Row). IsLiveAt tombs k inside.from inside.to p.0) c.in_ok-points.points.items c.keep_live.new.points.items) c.deref.ensures.value c.keep_live.ensures in
    let takes = one_read_takes bytes tombs old new entry c.in_ok-points.points.items c.keep_live.new.points.items none (first ∙ ap (λ (l : List Entry). entry ∷ l) (sym behind)) refl refl refl ready
    (c.in_ok-points.ensures.found tells) picks in
    subst (λ (k : Cursor). Takes bytes tombs k [] new) c.self.view_is takes

pub returns-clause-stays : goal.returns-clause-stays
returns-clause-stays g c = λ tells given gives.
    let bytes = g.R.Reader.content c.args.reader.now in
    let tombs = c.args.tombs.now in
    let inside = c.self.inside in
    let items = c.self.inside.blocks.items in
    let entry = c.index-entry.result.now in
    let left = c.len-left.result - 1 in
    let held : reverse c.self.inside.blocks.items ≡ c.args.self.now.blocks = ap (λ (k : Cursor). k.blocks) c.self.view_is in
    let some = some_left items (λ none. c.requires.some (sym held ∙ none)) in
    let len = c.len-left.ensures in
    let own = c.self.inside.blocks.ok.0 in
    let first = reverse_last items left entry (omega arith) c.index-entry.ensures in
    let asked : Asked = record { key = inside.key.items; from = inside.from; to = inside.to; descending = inside.descending } in
    let none : reverse c.self.inside.points.items ≡ [] = ap (λ (k : Cursor). k.points) c.self.view_is ∙ c.requires.none_ready in
    let behind : reverse c.truncate.new.self.items ≡ reverse (take left items) = ap reverse c.truncate.ensures.items in
    let ready : reverse c.last_first.new.items.items ≡ directed inside.descending c.keep_live.new.points.items = ap reverse c.last_first.ensures ∙ reverse-reverse (directed inside.descending c.keep_live.new.points.items) in
    let picks = subst (λ (k : List ℕ). Picks (λ (p : Row). IsLiveAt tombs k inside.from inside.to p.0) c.in_ok-points.points.items c.keep_live.new.points.items) c.deref.ensures.value c.keep_live.ensures in
    let own_gives = subst (λ (k : Cursor). Gives bytes tombs k given) (sym c.self.view_is) gives in
    let split = one_read_stays bytes tombs inside.kind asked entry (reverse (take left items)) c.in_ok-points.points.items c.keep_live.new.points.items own_gives.0 (λ ps block. c.in_ok-points.ensures.sound tells ps block) picks
    (subst (λ (es : List Entry). BlocksGive bytes tombs inside.kind asked es own_gives.0) first own_gives.1) in (
      split.0,
      subst (λ (es : List Entry). BlocksGive bytes tombs inside.kind asked es split.0) (sym behind) split.1,
      own_gives.2 ∙ ap (λ (l : List Row). l ++ own_gives.0) none ∙ split.2 ∙ ap (λ (l : List Row). l ++ split.0) (sym ready),
    )
