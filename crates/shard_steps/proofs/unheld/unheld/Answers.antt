-- One series more is noted.
use Rattle.std.proofs.Common.{◌≡◌, ◌+◌, ℕ, suc, List, [], ◌∷◌, length, drop, drop-cons, refl, sym, ap, subst, ◌∙◌, arith}
use Rattle.std.proofs.lemmas.List.{drop_all}
use Rattle.tsdb_types.specs.declared.column.Column.{Column}
use Rattle.shard_steps.specs.Series.{AreUnheld, all_noted}
use Rattle.shard_steps.proofs.UnheldLemmas.{noted_unheld, texts_of}
use Rattle.shard_steps.proofs.unheld.unheld.Goals as goal

none_yet : (l : List (List ℕ)) → length l ≡ 0 → l ≡ []
none_yet [] none = refl
none_yet (x ∷ xs) none = absurd (omega (arith, none))

pub loop-column-init : goal.loop-column-init
loop-column-init c = ap (all_noted c.args.series.now.keys (texts_of c.columns-column-items.result.now)) (none_yet c.with_hasher-new.result.keys c.with_hasher-new.ensures.len)

pub loop-column-preserved : goal.loop-column-preserved
loop-column-preserved c =
    let items : List Column = c.columns-column-items.result.now in
    let i = c.loop-column.column-index in
    let one : suc i ≡ i + 1 = omega arith in
    let step : drop i items ≡ c.column-item.result ∷ drop (i + 1) items = drop-cons items i c.column-item.result c.loop-column-test.true
    ∙ ap (λ (z : Column). z ∷ drop (suc i) items) (sym c.column-item.is) ∙ ap (λ (n : ℕ). c.column-item.result ∷ drop n items) one in
    ap (all_noted c.args.series.now.keys (texts_of (drop (i + 1) items))) c.in_ok-note.ensures
    ∙ ap (λ (l : List Column). all_noted c.args.series.now.keys (texts_of l) c.loop-column.new.keys) (sym step) ∙ c.loop-column.invariant

pub returns : goal.returns
returns c =
    let held = c.args.series.now.keys in
    let items : List Column = c.columns-column-items.result.now in
    subst (AreUnheld held c.args.batch.now)
    (ap (λ (l : List Column). all_noted held (texts_of l) []) (sym c.columns-column-items.ensures) ∙ sym c.loop-column.invariant
    ∙ ap (λ (l : List Column). all_noted held (texts_of l) c.loop-column.new.keys) (drop_all c.loop-column.column-index items c.loop-column-test.false))
    (noted_unheld held c.args.batch.now)
