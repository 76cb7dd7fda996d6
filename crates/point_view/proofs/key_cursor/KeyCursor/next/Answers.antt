-- A step takes the first row of the overlay, and where none is left the overlay is empty.
use Rattle.std.proofs.Common.{◌≡◌, ◌∙◌, ap, refl, sym, subst, Bool, All, IsNone, Option, List, ◌∷◌, length}
use Rattle.point_model.specs.Rows.{Row}
use Rattle.merge_cursor.specs.Overlays.{AreInOrder, overlay}
use Rattle.merge_cursor.specs.Steps.{IsNext}
use Rattle.point_view.specs.Heads.{heads_passed, with_heads}
use Rattle.point_view.proofs.HeadLemmas.{ended, stepped}
use Rattle.point_view.proofs.key_cursor.KeyCursor.next.Goals as goal

pub returns-in-Some : goal.returns-in-Some
returns-in-Some c =
    let d = c.self.inside.merge in
    let before = with_heads c.self.inside.heads.items c.self.inside.sources.items in
    let heads = c.fill.new.heads.items in
    let sources = c.fill.new.sources.items in
    let next = c.in-Some.next in
    let is : IsNext d heads next.0 next.1 next.2 = subst (λ (hs : List (Option Row)). IsNext d hs next.0 next.1 next.2) c.as_slice.ensures.value c.in-Some.ensures.next in
    let step = stepped d before heads sources next.0 next.1 next.2 c.fill.ensures.heads c.fill.ensures.kept c.fill.ensures.len c.self.invariant.1 is in
    sym c.self.view_is ∙ step.gives
    ∙ ap (λ (l : List Row). (next.1, next.2) ∷ l)
    (ap (λ (hs : List (Option Row)). overlay d (with_heads hs sources)) (sym c.pass.ensures) ∙ ap (λ (m : Bool). overlay m (with_heads c.pass.new.heads.items sources)) (sym c.in-Some.ensures.kept))

pub invariant_of-self : goal.invariant_of-self
invariant_of-self c =
    let d = c.self.inside.merge in
    let before = with_heads c.self.inside.heads.items c.self.inside.sources.items in
    let heads = c.fill.new.heads.items in
    let sources = c.fill.new.sources.items in
    let next = c.in-Some.next in
    let is : IsNext d heads next.0 next.1 next.2 = subst (λ (hs : List (Option Row)). IsNext d hs next.0 next.1 next.2) c.as_slice.ensures.value c.in-Some.ensures.next in
    let step = stepped d before heads sources next.0 next.1 next.2 c.fill.ensures.heads c.fill.ensures.kept c.fill.ensures.len c.self.invariant.1 is in
    let passed : c.pass.new.heads.items ≡ heads_passed next.1 heads = c.pass.ensures in
    let ordered : All (AreInOrder d) (with_heads c.pass.new.heads.items sources) = subst (λ (hs : List (Option Row)). All (AreInOrder d) (with_heads hs sources)) (sym passed) step.ordered in (
      ap (λ (hs : List (Option Row)). length hs) passed ∙ step.len,
      subst (λ (m : Bool). All (AreInOrder m) (with_heads c.pass.new.heads.items sources)) (sym c.in-Some.ensures.kept) ordered,
    )

pub returns-in-None : goal.returns-in-None
returns-in-None c =
    let d = c.self.inside.merge in
    let heads = c.fill.new.heads.items in
    let sources = c.fill.new.sources.items in
    let none : All IsNone heads = subst (λ (hs : List (Option Row)). All IsNone hs) c.as_slice.ensures.value (c.in-None.ensures.none.0 refl) in
    let empty = ended d heads sources c.fill.ensures.heads none in (
      sym c.self.view_is ∙ ap (λ (l : List (List Row)). overlay d l) (sym c.fill.ensures.kept) ∙ empty,
      ap (λ (m : Bool). overlay m (with_heads heads sources)) c.in-None.ensures.kept ∙ empty,
    )
