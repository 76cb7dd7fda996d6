use Rattle.std.proofs.Common.{sym}
use Rattle.point_cache.proofs.EntryLemmas.{entry_of}
use Rattle.point_cache.proofs.places.is_staged_at.Goals as goal

pub returns-in-Some : goal.returns-in-Some
returns-in-Some c =
    let at = entry_of c.args.map.now.entries c.args.place (c.in-Some.field-0-0.now, c.in-Some.run'.now) (sym c.in-Some.ensures.entry) in
    λ is. ((c.in-Some.field-0-0.now.items, c.in-Some.run'.now), at, c.is_staged.ensures is)
