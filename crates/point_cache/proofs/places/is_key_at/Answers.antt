use Rattle.std.proofs.Common.{ℕ, List, Some, sym, ap, ◌∙◌}
use Rattle.point_cache.proofs.EntryLemmas.{entry_of}
use Rattle.point_cache.proofs.places.is_key_at.Goals as goal

pub returns-in-Some : goal.returns-in-Some
returns-in-Some c =
    let at = entry_of c.args.map.now.entries c.args.place (c.in-Some.key.now, c.in-Some.field-0-1.now) (sym c.in-Some.ensures.entry) in
    λ is. (c.in-Some.field-0-1.now, at ∙ ap (λ (k : List ℕ). Some (k, c.in-Some.field-0-1.now)) (sym c.as_slice.ensures.value ∙ c.is_key_of.ensures is))
