use Rattle.std.proofs.Common.{◌≡◌, ℕ, List, refl, sym, ◌∙◌, ap, subst, true}
use Rattle.std.specs.List.{filter_map}
use Rattle.std.specs.Prelude.{is_none}
use Rattle.mem_disk.specs.Calls.{is_over, is_quiet, write_of}
use Rattle.mem_disk.proofs.CallsLemmas.{writes_none, second_of}
use Rattle.mem_disk.proofs.calls.DiskCalls.of_writer.Goals as goal

pub returns-clause-fresh : goal.returns-clause-fresh
returns-clause-fresh c = record {
  none = refl;
  steady = λ quiet.
      let m = c.args.self.now in
      subst (λ (places : List ℕ). is_over places 0 ≡ true)
      (sym (c.in_ok-writes_of.ensures {u = tt} ∙ ap (filter_map (write_of c.args.maker)) c.deref.ensures.value ∙ writes_none m.failing.items m.next c.args.maker (second_of (is_none m.stop) (is_quiet m.failing.items m.next) quiet))) refl;
}
