-- A call fails where its place is among those of the failing calls.
use Rattle.std.proofs.Common.{◌≡◌, ◌<◌, ◌^◌, true, false, ◌==◌, ap, arith, refl, sym, ◌∙◌, subst}
use Rattle.std.specs.List.{list_any}
use Rattle.shard_disk.specs.Health.{Health, Ages, Failed}
use Rattle.shard_disk.proofs.HealthLemmas.{ages_still}
use Rattle.session_io.proofs.FailingLemmas.{health_after, health_works, health_fails, failed_ages}
use Rattle.session_io.proofs.failures.Failures.next_fails.Goals as goal

pub returns-then-not-contains-clause-works : goal.returns-then-not-contains-clause-works
returns-then-not-contains-clause-works c = λ works.
    let none : list_any (λ place. place == c.self.inside.calls) c.self.inside.places.items ≡ false =
    ap (list_any (λ place. place == c.self.inside.calls)) (sym c.deref.ensures.value) ∙ sym c.contains.ensures.value ∙ c.if-not-contains.true in
    let fits : c.self.inside.calls < 2 ^ 64 = omega arith in
    health_works c.self.inside.places.items c.self.inside.calls c.saturating_add-self-inside.result c.self.inside.faults none fits
    c.saturating_add-self-inside.ensures ∙ c.self.view_is

pub returns-then-not-contains-clause-ages : goal.returns-then-not-contains-clause-ages
returns-then-not-contains-clause-ages c =
    let same = returns-then-not-contains-clause-works c refl in
    subst (λ (h : Health). Ages c.args.self.now h) (sym same) (ages_still c.args.self.now)

failed : goal.returns-clause-fails
failed c = λ fails.
    let some : list_any (λ place. place == c.self.inside.calls) c.self.inside.places.items ≡ true =
    ap (list_any (λ place. place == c.self.inside.calls)) (sym c.deref.ensures.value) ∙ sym c.contains.ensures.value ∙ c.if-not-contains.false in
    let new : Health = health_after c.self.inside.places.items c.saturating_add-self-inside.result c.saturating_add-self-inside-2.result in
    subst (λ (h : Health). Failed h new) c.self.view_is
    (health_fails c.self.inside.places.items c.self.inside.calls c.saturating_add-self-inside.result c.self.inside.faults
    c.saturating_add-self-inside-2.result some c.saturating_add-self-inside-2.ensures)

pub returns-clause-fails : goal.returns-clause-fails
returns-clause-fails c = failed c

pub returns-clause-ages : goal.returns-clause-ages
returns-clause-ages c =
    let fits : c.self.inside.faults < 2 ^ 64 = omega arith in
    let new : Health = health_after c.self.inside.places.items c.saturating_add-self-inside.result c.saturating_add-self-inside-2.result in
    let fits_now : c.args.self.now.faults < 2 ^ 64 = subst (λ (h : Health). h.faults < 2 ^ 64) c.self.view_is fits in
    failed_ages c.args.self.now new fits_now (failed c refl)
