use Rattle.std.proofs.Common.{◌≡◌, [], reverse, None, sym, ap, ◌∙◌, subst, arith}
use Rattle.std.proofs.lemmas.List.{nil_from_length}
use Rattle.tsm_file.specs.ReadPoints.{Asked, Cursor, Gives}
use Rattle.tsm_file.proofs.CursorLemmas.{step_given}
use Rattle.tsm_file.proofs.cursor.TsmCursor.next.Goals as goal

pub returns-clause-steps : goal.returns-clause-steps
returns-clause-steps g c = λ tells given gives.
    let bytes = g.R.Reader.content c.args.reader.now in
    let tombs = c.args.tombs.now in
    let inside = c.self.inside in
    let asked : Asked = record { key = inside.key.items; from = inside.from; to = inside.to; descending = inside.descending } in
    let still = subst (λ (k : Cursor). Gives bytes tombs k given) (sym c.self.view_is) (c.in_ok-fill.ensures.stays tells given gives) in
    let points : reverse c.self.inside.points.items ≡ c.fill.new.self.points = ap (λ (k : Cursor). k.points) c.self.view_is in
    let blocks : reverse c.self.inside.blocks.items ≡ c.fill.new.self.blocks = ap (λ (k : Cursor). k.blocks) c.self.view_is in
    let ended : reverse c.self.inside.points.items ≡ [] → reverse c.self.inside.blocks.items ≡ [] = λ none. blocks ∙ c.in_ok-fill.ensures.ended (sym points ∙ none) in
    let none : c.pop.result ≡ None → c.self.inside.points.items ≡ [] = λ is.
    let cases = rw is at c.pop.ensures.cases in
    let empty = cases.0 in
    let own = c.self.inside.points.ok.0 in
    nil_from_length c.self.inside.points.items (omega arith) in
    step_given bytes tombs inside.file inside.kind asked (reverse inside.blocks.items) inside.points.items c.pop.new.self.items given c.pop.result c.pop.ensures.items none ended still
