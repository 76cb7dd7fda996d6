-- No source was looked at, so all of each is left.
use Rattle.std.proofs.Common.{◌≡◌, ◌∙◌, ap, ap₂, sym, subst, Bool, All, None, Option, length, List}
use Rattle.std.proofs.lemmas.List.{length-replicate}
use Rattle.point_model.specs.Rows.{Row}
use Rattle.merge_cursor.specs.Overlays.{AreInOrder, overlay}
use Rattle.point_view.specs.Heads.{with_heads}
use Rattle.point_view.proofs.HeadLemmas.{none_looked}
use Rattle.point_view.proofs.key_cursor.KeyCursor.new.Goals as goal

pub returns : goal.returns
returns c =
    let sources = c.args.sources.items in
    ap₂ (λ (d : Bool) (l : List (List Row)). overlay d l) c.new.ensures (ap (λ (hs : List (Option Row)). with_heads hs sources) c.in_ok-heads.ensures ∙ none_looked c.len.result sources)

pub invariant_of-result : goal.invariant_of-result
invariant_of-result c =
    let sources = c.args.sources.items in
    let heads = c.in_ok-heads.heads.items in
    let none : Option Row = None in
    let all : with_heads heads sources ≡ sources = ap (λ (hs : List (Option Row)). with_heads hs sources) c.in_ok-heads.ensures ∙ none_looked c.len.result sources in
    let kept : All (AreInOrder c.new.result) (with_heads heads sources) = subst (All (AreInOrder c.new.result)) (sym all) (subst (λ (d : Bool). All (AreInOrder d) sources) (sym c.new.ensures) c.requires) in
    (ap length c.in_ok-heads.ensures ∙ length-replicate c.len.result none ∙ c.len.ensures ∙ c.args.sources.ok.0, kept)
