use Rattle.std.proofs.Common.{◌≡◌, List, ◌++◌, reverse, sym, ap, ◌∙◌, subst}
use Rattle.point_cache.specs.declared.key_points.KeyRun.{KeyRun}
use Rattle.point_cache.specs.Leaving.{IsFrozen}
use Rattle.point_cache.specs.Staged.{Staging, entries_of, lives}
use Rattle.point_cache.proofs.EntryLemmas.{keys_apart}
use Rattle.point_cache.proofs.FreezeLemmas.{frozen, reversed}
use Rattle.point_cache.proofs.runs.Runs.freeze.Goals as goal

pub returns-clause-ok : goal.returns-clause-ok
returns-clause-ok c =
    let old = c.self.inside.map.entries in
    let new = c.sort_unstable_keys.new.self.entries in
    let rows : c.turn_round.new.rows.items ≡ lives (entries_of new) =
    c.turn_round.ensures ∙ ap reverse (c.take_rows.ensures.rows ∙ ap (λ (l : List KeyRun). l ++ reverse (lives (entries_of new))) c.requires.empty) ∙ reversed (lives (entries_of new)) in
    let is = frozen old new c.sort_unstable_keys.ensures.reordered.0 (λ q. c.sort_unstable_keys.ensures.reordered.2 q) (keys_apart new c.sort_unstable_keys.ensures.unique) c.in_ok-sort_unstable_keys.ensures.sorted in
    subst (λ (l : List KeyRun). IsFrozen (lives c.args.self.now.entries) l) (sym rows)
    (subst (λ (s : Staging). IsFrozen (lives s.entries) (lives (entries_of new))) c.self.view_is is)
