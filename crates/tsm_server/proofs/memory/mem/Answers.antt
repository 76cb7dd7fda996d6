-- The store begins alone, with nothing.
use Rattle.std.proofs.Common.{◌≡◌, [], true, refl, sym, subst}
use Rattle.store_trait.specs.Plain.{told_of}
use Rattle.store_trait.specs.Told.{Told}
use Rattle.session_loop.specs.Steps.{Stored}
use Rattle.session_loop.proofs.MemoryLemmas.{BeginsAlone, alone_served}
use Rattle.tsm_server.proofs.memory.mem.Goals as goal

-- what a steady store tells
abbrev steady_with : Told → Stored
steady_with told = record { told = told; health = record { faults = 0; is_steady = true } }

begins_alone : (told : Told) → told ≡ told_of 0 [] 0 → BeginsAlone (steady_with told)
begins_alone told is = subst (λ (t : Told). BeginsAlone (steady_with t)) (sym is) (record {
  start = refl;
  client = refl;
  tells = refl;
  alone = refl;
  limits = refl;
  history = refl;
  own = refl;
  faults = refl;
  steady = refl;
})

pub returns-clause-explained : goal.returns-clause-explained
returns-clause-explained g c = alone_served _ _ _ _ _ (begins_alone _ c.new-store.ensures) c.session.ensures.served
