use Rattle.std.proofs.Common.{is_some, inl, inr, refl, sym, ap}
use Rattle.index_lists.proofs.PlaceLemmas.{not_known}
use Rattle.index_lists.proofs.ReadyLemmas.{looked_up}
use Rattle.index_lists.proofs.TellsLemmas.{same_term, tells}
use Rattle.index_lists.proofs.places.ids_at.Goals as goal

pub returns-in-Some : goal.returns-in-Some
returns-in-Some c =
    let r = looked_up same_term c.args.map.now.entries c.args.term.now c.in-Some.list.now (sym c.in-Some.ensures.value) tells in
    inl (r.0, c.in-Some.list.now, r.1, r.2, c.as_slice.ensures.ids)

pub returns-in-None : goal.returns-in-None
returns-in-None c = inr (not_known same_term c.args.map.now.entries c.args.term.now (ap is_some (sym c.in-None.ensures.value)) tells, refl)
