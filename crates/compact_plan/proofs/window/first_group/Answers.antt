use Rattle.std.proofs.Common.{◌≡◌, ◌+◌, ◌-◌, ◌≤◌, ◌∙◌, arith, subst, sym, ap}
use Rattle.std.proofs.lemmas.Bool.{false≢true}
use Rattle.compact_plan.proofs.PlanLemmas.{IsWindow, entries_fit, window_grows, window_is_group, window_moves, window_restarts}
use Rattle.compact_plan.proofs.window.first_group.Goals as goal

pub loop-k-preserved-then-not-is_idle : goal.loop-k-preserved-then-not-is_idle
loop-k-preserved-then-not-is_idle c = record {
  window = window_restarts _ _ _ _ _ _ _ c.loop-k.invariant.window (omega arith) c.row-row.ensures
      (λ idle. false≢true (sym c.if-not-is_idle.true ∙ c.is_idle.ensures.1 idle));
  end = c.loop-k.invariant.end;
}

pub overflow_add-entries : goal.overflow_add-entries
overflow_add-entries c = let few = entries_fit _ _ _ _ _ _ c.loop-k.invariant.window in omega arith

pub loop-k-preserved-then-k-start : goal.loop-k-preserved-then-k-start
loop-k-preserved-then-k-start c =
    let fits : c.row-row.result.now.most_entries ≤ 4294967295 = omega arith in
    let grown = window_grows _ _ _ _ _ _ _ c.loop-k.invariant.window (omega arith) c.row-row.ensures (c.is_idle.ensures.0 c.if-not-is_idle.false) fits c.if-k-start.true in
    record {
      window = subst (IsWindow c.args.table.now.rows c.args.level c.size_at_level-size.result c.loop-k.start (c.loop-k.k + 1)) (ap (λ n. c.loop-k.entries + n) (sym c.from-entries.ensures)) grown;
      end = c.loop-k.invariant.end;
    }

pub returns-then-entries-le-MOST_ENTRIES-clause-begins :
    goal.returns-then-entries-le-MOST_ENTRIES-clause-begins
returns-then-entries-le-MOST_ENTRIES-clause-begins c =
    let fits : c.row-row.result.now.most_entries ≤ 4294967295 = omega arith in
    window_is_group _ _ _ _ _ _ _ c.loop-k.invariant.window (omega arith) c.row-row.ensures (c.is_idle.ensures.0 c.if-not-is_idle.false) fits c.if-k-start.false
    (omega (arith, c.if-entries-le-MOST_ENTRIES.true, c.from-entries.ensures))

pub overflow_sub-entries : goal.overflow_sub-entries
overflow_sub-entries c =
    let fits : c.row-row.result.now.most_entries ≤ 4294967295 = omega arith in
    let moved = window_moves _ _ _ _ _ _ _ _ c.loop-k.invariant.window (omega arith) c.row-row.ensures (c.is_idle.ensures.0 c.if-not-is_idle.false) fits c.if-k-start.false
    (omega (arith, c.if-entries-le-MOST_ENTRIES.false, c.from-entries.ensures)) c.row.ensures in
    omega (arith, moved.0, c.from-entries.ensures, c.from-entries-in-loop-k.ensures)

pub loop-k-preserved : goal.loop-k-preserved
loop-k-preserved c =
    let fits : c.row-row.result.now.most_entries ≤ 4294967295 = omega arith in
    let moved = window_moves _ _ _ _ _ _ _ _ c.loop-k.invariant.window (omega arith) c.row-row.ensures (c.is_idle.ensures.0 c.if-not-is_idle.false) fits c.if-k-start.false
    (omega (arith, c.if-entries-le-MOST_ENTRIES.false, c.from-entries.ensures)) c.row.ensures in
    let same : c.loop-k.entries + c.row-row.result.now.most_entries - c.row.result.now.most_entries ≡ c.loop-k.entries + c.from-entries.result - c.from-entries-in-loop-k.result =
    omega (arith, c.from-entries.ensures, c.from-entries-in-loop-k.ensures) in
    record {
      window = subst (IsWindow c.args.table.now.rows c.args.level c.size_at_level-size.result (c.loop-k.start + 1) (c.loop-k.k + 1)) same moved.1;
      end = c.loop-k.invariant.end;
    }
