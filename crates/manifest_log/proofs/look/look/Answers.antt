use Rattle.std.proofs.Common.{◌≡◌, ◌==◌, ◌∙◌, length, refl, sym, ap, nat_eq, vec_len}
use Rattle.std.specs.List.{list_any}
use Rattle.std.proofs.lemmas.Bool.{false≢true}
use Rattle.shard_disk.specs.Crash.{Same}
use Rattle.shard_disk.proofs.Runs.{starts}
use Rattle.manifest_log.proofs.LookLemmas.{present_from, absent_from}
use Rattle.manifest_log.proofs.look.look.Goals as goal

pub returns-in_err-numbers-clause-crash : goal.returns-in_err-numbers-clause-crash
returns-in_err-numbers-clause-crash g c =
    let laws = g.met.D.Disk g.world.𝓛 g.world.𝓜 g.world.𝓡 ((λ s x. x), (λ x. x), (λ x. x), (λ x. x)) in
    starts Same (g.D.Disk.crashes c.args.disk.now) _ (laws.only_now c.args.disk.now) (λ d. refl) c.list.ensures.crash

pub returns-then-contains-clause-crash : goal.returns-then-contains-clause-crash
returns-then-contains-clause-crash g c =
    let laws = g.met.D.Disk g.world.𝓛 g.world.𝓜 g.world.𝓡 ((λ s x. x), (λ x. x), (λ x. x), (λ x. x)) in
    starts Same (g.D.Disk.crashes c.args.disk.now) _ (laws.only_now c.args.disk.now) (λ d. refl) c.list.ensures.crash

pub returns-then-is_empty-clause-crash : goal.returns-then-is_empty-clause-crash
returns-then-is_empty-clause-crash g c =
    let laws = g.met.D.Disk g.world.𝓛 g.world.𝓜 g.world.𝓡 ((λ s x. x), (λ x. x), (λ x. x), (λ x. x)) in
    starts Same (g.D.Disk.crashes c.args.disk.now) _ (laws.only_now c.args.disk.now) (λ d. refl) c.list.ensures.crash

pub returns-clause-crash : goal.returns-clause-crash
returns-clause-crash g c =
    let laws = g.met.D.Disk g.world.𝓛 g.world.𝓜 g.world.𝓡 ((λ s x. x), (λ x. x), (λ x. x), (λ x. x)) in
    starts Same (g.D.Disk.crashes c.args.disk.now) _ (laws.only_now c.args.disk.now) (λ d. refl) c.list.ensures.crash

pub returns-then-contains-clause-ok : goal.returns-then-contains-clause-ok
returns-then-contains-clause-ok g c = λ tells.
    present_from (g.D.Disk.files c.args.disk.now)
    (ap (list_any (λ y. nat_eq y 0)) (sym (c.in_ok-numbers.ensures.numbers tells) ∙ sym c.deref.ensures.value) ∙ sym c.contains.ensures.value ∙ c.if-contains.true)

pub returns-clause-ok : goal.returns-clause-ok
returns-clause-ok g c = λ tells. record {
  some = λ none.
      let zero : vec_len c.in_ok-numbers.numbers ≡ 0 = c.in_ok-numbers.numbers.ok.0 ∙ ap length (c.in_ok-numbers.ensures.numbers tells ∙ none) in
      false≢true (sym c.if-is_empty.false ∙ c.is_empty.ensures ∙ ap (λ n. n == 0) zero);
  none = absent_from (g.D.Disk.files c.args.disk.now) (ap (list_any (λ y. nat_eq y 0)) (sym (c.in_ok-numbers.ensures.numbers tells) ∙ sym c.deref.ensures.value) ∙ sym c.contains.ensures.value ∙ c.if-contains.false);
}
