use Rattle.std.proofs.Common.{ℕ, List, Some, slice_get, sym, ap, ◌∙◌}
use Rattle.point_cache.specs.Staged.{Staging}
use Rattle.point_cache.proofs.EntryLemmas.{entry_of}
use Rattle.point_cache.proofs.runs.Runs.key_at.Goals as goal

pub returns-in-Some : goal.returns-in-Some
returns-in-Some c =
    let at = entry_of c.self.inside.map.entries c.args.place (c.in-Some.key.now, c.in-Some.field-0-1.now) (sym c.in-Some.ensures.entry) in
    (c.in-Some.field-0-1.now, ap (λ (s : Staging). slice_get s.entries c.args.place) (sym c.self.view_is) ∙ at ∙ ap (λ (k : List ℕ). Some (k, c.in-Some.field-0-1.now)) (sym c.as_slice.ensures.value))
