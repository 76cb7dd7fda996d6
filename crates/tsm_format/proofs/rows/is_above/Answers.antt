use Rattle.std.proofs.Common.{ℕ, ◌<◌, ◌-◌, List, length, None, sym, ap, ◌∙◌, refl, arith}
use Rattle.std.specs.Ordering.{nat_cmp}
use Rattle.std.specs.Cmp.Lexicographic.{slice_cmp}
use Rattle.std.proofs.lemmas.Bool.{false≢true}
use Rattle.std.proofs.lemmas.Bool.Decides.{nat_tests}
use Rattle.tsm_format.proofs.RowLemmas.{last_key-at, above_is, is_above}
use Rattle.tsm_format.proofs.rows.is_above.Goals as goal

pub returns-in-Less : goal.returns-in-Less
returns-in-Less c =
    let rows = c.args.rows.now in
    let test = c.if-is_empty.ensures in
    let some : 0 < length rows = grind (arith, nat_tests) in
    let last = last_key-at None rows (length rows - 1) c.index-rows-rows.result (omega arith) c.index-rows-rows.is in
    (λ is. above_is rows c.index-rows-rows.result.key c.args.key.now last (sym (ap (λ (k : List ℕ). slice_cmp nat_cmp k c.args.key.now) c.as_slice.ensures) ∙ sym c.in-Less.ensures), λ above. refl)

pub returns-in_default : goal.returns-in_default
returns-in_default c =
    let rows = c.args.rows.now in
    let test = c.if-is_empty.ensures in
    let some : 0 < length rows = grind (arith, nat_tests) in
    let last = last_key-at None rows (length rows - 1) c.index-rows-rows.result (omega arith) c.index-rows-rows.is in (
      λ is. absurd (false≢true is),
      λ above. absurd (c.in_default.not-Less (c.cmp.ensures ∙ ap (λ (k : List ℕ). slice_cmp nat_cmp k c.args.key.now) c.as_slice.ensures ∙ is_above rows c.index-rows-rows.result.key c.args.key.now last above)),
    )
