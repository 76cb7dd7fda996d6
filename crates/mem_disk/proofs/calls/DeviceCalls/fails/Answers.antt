use Rattle.std.proofs.Common.{◌≡◌, eqb, true, false, sym, ◌∙◌, arith}
use Rattle.std.specs.List.{list_any}
use Rattle.mem_disk.proofs.CallsLemmas.{over_same, named_over, same_health, health_ages, counted, counted_ages}
use Rattle.mem_disk.proofs.calls.DeviceCalls.fails.Goals as goal

pub returns-then-fails-clause-failed : goal.returns-then-fails-clause-failed
returns-then-fails-clause-failed c =
    let m = c.args.self.now in
    let named : list_any (λ at. eqb at m.next) m.failing.items ≡ true = rw (← c.deref.ensures.value) (sym c.names_place-fails.ensures ∙ c.if-fails.true) in
    λ is. counted _ _ _ _ (named_over m.failing.items m.next named) c.saturating_add-self-then-fails.ensures

pub returns-then-fails-clause-ages : goal.returns-then-fails-clause-ages
returns-then-fails-clause-ages c =
    let m = c.args.self.now in
    let named : list_any (λ at. eqb at m.next) m.failing.items ≡ true = rw (← c.deref.ensures.value) (sym c.names_place-fails.ensures ∙ c.if-fails.true) in
    counted_ages _ _ _ _ (named_over m.failing.items m.next named) c.saturating_add-self-then-fails.ensures (omega arith)

pub returns-else-fails-clause-ages : goal.returns-else-fails-clause-ages
returns-else-fails-clause-ages c =
    let m = c.args.self.now in
    let named : list_any (λ at. eqb at m.next) m.failing.items ≡ false = rw (← c.deref.ensures.value) (sym c.names_place-fails.ensures ∙ c.if-fails.false) in
    health_ages _ _ (sym (same_health m.faults _ _ (over_same m.failing.items m.next _ named (omega arith) (omega arith))))

pub returns-else-fails-clause-passed : goal.returns-else-fails-clause-passed
returns-else-fails-clause-passed c =
    let m = c.args.self.now in
    let named : list_any (λ at. eqb at m.next) m.failing.items ≡ false = rw (← c.deref.ensures.value) (sym c.names_place-fails.ensures ∙ c.if-fails.false) in
    λ is. same_health m.faults _ _ (over_same m.failing.items m.next _ named (omega arith) (omega arith))
