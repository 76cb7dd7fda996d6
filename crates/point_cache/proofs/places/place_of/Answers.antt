use Rattle.std.proofs.Common.{inl, refl, sym}
use Rattle.point_cache.proofs.EntryLemmas.{place_has}
use Rattle.point_cache.proofs.places.place_of.Goals as goal

pub returns-in-Some-clause-found : goal.returns-in-Some-clause-found
returns-in-Some-clause-found c = inl (refl, place_has c.args.map.now.entries c.args.key.now c.in-Some.place (sym c.in-Some.ensures.index))
