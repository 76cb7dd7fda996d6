use Rattle.std.proofs.Common.{◌∙◌, sym, subst, set, ℕ, arith, add-one}
use Rattle.std.proofs.lemmas.List.{length-set}
use Rattle.point_view.proofs.HeadLemmas.{Looked, all_looked, looked_more, set_kept}
use Rattle.point_view.proofs.key_cursor.fill.Goals as goal

pub loop-k-preserved : goal.loop-k-preserved
loop-k-preserved c =
    let heads = c.loop-k.heads.items in
    let sources = c.loop-k.sources.items in
    let k = c.loop-k.k in
    let so_far = c.loop-k.invariant in
    let head = c.look.new.head in
    let rows = c.look.new.source in
    let len = so_far.len in
    let same = so_far.same in
    let whole = c.args.sources.now.ok.0 in
    record {
      kept =
          set_kept heads sources k head c.index_mut.result.now rows c.index_mut-in-loop-k.result.now (omega (arith, len, same, whole)) (omega (arith, same, whole)) c.index_mut.ensures.value c.index_mut-in-loop-k.ensures.value c.look.ensures.kept
          ∙ so_far.kept;
      len = length-set heads k head ∙ so_far.len ∙ sym (length-set sources k rows);
      same = length-set sources k rows ∙ so_far.same;
      looked = subst (λ (n : ℕ). Looked n (set heads k head) (set sources k rows)) (sym (add-one k)) (looked_more k heads sources head rows so_far.looked c.look.ensures.looked);
    }

pub returns-clause-heads : goal.returns-clause-heads
returns-clause-heads c =
    let so_far = c.loop-k.invariant in
    let same = so_far.same in
    let whole = c.args.sources.now.ok.0 in
    all_looked c.loop-k.heads.items c.loop-k.sources.items so_far.len
    (subst (λ (n : ℕ). Looked n c.loop-k.heads.items c.loop-k.sources.items) (omega (arith, same, whole)) so_far.looked)
