use Rattle.std.proofs.Common.{◌*◌, ◌+◌, ℕ, List, ◌≡◌, length, None, Some, sym, subst, refl}
use Rattle.std.specs.Prelude.{IsTrue}
use Rattle.tsm_format.specs.Rows.{IsAbove}
use Rattle.tsm_file.specs.Tried.{HasPushed}
use Rattle.tsm_bench.proofs.RunLemmas.{has_room, has_room_first, one_more}
use Rattle.tsm_bench.proofs.writing.push_keys.Goals as goal

pub push_points-requires-clause-before : goal.push_points-requires-clause-before
push_points-requires-clause-before g c κs within =
    (0, None, c.requires.new, tt, has_room_first c.args.keys (length c.args.points.now) c.requires.keys c.requires.most)

above : (last key one two three : List ℕ) → one ≡ last → two ≡ key → three ≡ key → IsAbove (Some one) two → IsAbove (Some last) three
above last key one two three a b e is =
    subst (λ (l : List ℕ). IsAbove (Some l) three) a (subst (λ (k : List ℕ). IsAbove (Some one) k) (sym e) (subst (λ (k : List ℕ). IsAbove (Some one) k) b is))

pub push_points-requires-in-loop-number-clause-before :
    goal.push_points-requires-in-loop-number-clause-before
push_points-requires-in-loop-number-clause-before g c κs within =
    let is = above c.loop-number.last.items c.in_ok-key.key.items c.as_slice-in-loop-number.result.now c.as_slice-in-loop-number-2.result.now c.as_slice-in-loop-number-3.result.now c.as_slice-in-loop-number.ensures.value c.as_slice-in-loop-number-2.ensures.value c.as_slice-in-loop-number-3.ensures.value (c.if-not-is_above.ensures refl) in
    (c.loop-number.number * length c.args.points.now, Some c.loop-number.last.items, c.loop-number.invariant, is, has_room c.loop-number.number c.args.keys (length c.args.points.now) c.loop-number-test.true c.requires.most)

pub loop-number-preserved : goal.loop-number-preserved
loop-number-preserved g c =
    let is = above c.loop-number.last.items c.in_ok-key.key.items c.as_slice-in-loop-number.result.now c.as_slice-in-loop-number-2.result.now c.as_slice-in-loop-number-3.result.now c.as_slice-in-loop-number.ensures.value c.as_slice-in-loop-number-2.ensures.value c.as_slice-in-loop-number-3.ensures.value (c.if-not-is_above.ensures refl) in
    let has = c.in_ok-push_points-2.ensures (c.loop-number.number * length c.args.points.now) (Some c.loop-number.last.items) c.loop-number.invariant is in
    subst (λ (n : ℕ). HasPushed (IsTrue g.W.Writer.tells) g.W.Writer.content g.W.Writer.stage c.push_points-in-loop-number.new.writer n (Some c.in_ok-key.key.items)) (sym (one_more c.loop-number.number (length c.args.points.now)))
    (subst (λ (key : List ℕ). HasPushed (IsTrue g.W.Writer.tells) g.W.Writer.content g.W.Writer.stage c.push_points-in-loop-number.new.writer (c.loop-number.number * length c.args.points.now + length c.args.points.now) (Some key)) c.as_slice-in-loop-number-3.ensures.value has)
