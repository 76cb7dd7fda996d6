use Rattle.std.proofs.Common.{◌≡◌, ◌∷◌, ◌∙◌, List, ℕ, Err, drop, sym, ap}
use Rattle.std.proofs.lemmas.Result.{err_from_is_err_and}
use Rattle.gate_log.specs.Damage.{bodies}
use Rattle.gate_log.specs.declared.fault.LogFault.{LogFault}
use Rattle.gate_log.specs.declared.fault.LogFault.TheVariants.{Damaged}
use Rattle.wal_store.specs.Reading.{Replaying}
use Rattle.wal_store.proofs.ListLemmas.{at_front}
use Rattle.wal_store.proofs.replay.Replay.follow.Goals as goal

pub returns-in_err-number-clause-strange : goal.returns-in_err-number-clause-strange
returns-in_err-number-clause-strange c = λ damage is.
    let p = err_from_is_err_and c.from_residual.result c.from_residual.ensures.1 in
    let told : c.in_err-number.field-0.0 ≡ Damaged damage = cc (p.1, p.2, is) in
    let wrong = c.in_err-number.ensures.strange damage (ap (λ (e : LogFault). Err e) told) in
    let items = c.self.inside.left.items in
    let rest = bodies (drop 1 items) in
    let parts : c.args.self.now.left ≡ c.deref.result.now ∷ rest =
    sym (ap (λ (r : Replaying). r.left) c.self.view_is) ∙ ap bodies (at_front items c.in-Some.body.now c.in-Some.ensures.item.3.0 c.in-Some.ensures.item.1)
    ∙ ap (λ (b : List ℕ). b ∷ rest) (sym c.deref.ensures.value) in
    record { body = c.deref.result.now; rest = rest; parts = parts; why = wrong.0; is = wrong.1; strange = wrong.2 }
