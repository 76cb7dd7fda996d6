-- A piece more is written.
use Rattle.std.proofs.Common.{◌++◌, ℕ, List, [], take, sym, ap, ◌∙◌, refl, append_assoc}
use Rattle.std.proofs.lemmas.List.{take-append-drop}
use Rattle.tsm_server.proofs.Growing.{grows_none, grows_more}
use Rattle.tsm_server.proofs.program.print.Goals as goal

pub loop-rest-init : goal.loop-rest-init
loop-rest-init g c = record { front = []; whole = refl; still = refl; wants = refl; taken = grows_none _ }

pub loop-rest-preserved : goal.loop-rest-preserved
loop-rest-preserved g c =
    let front : List ℕ = c.loop-rest.invariant.front in
    let piece : List ℕ = take c.in-Ok.count c.loop-rest.rest.now in
    record {
      front = front ++ piece;
      whole = c.loop-rest.invariant.whole
          ∙ ap (λ (l : List ℕ). front ++ l) (sym (take-append-drop c.in-Ok.count c.loop-rest.rest.now) ∙ ap (λ (l : List ℕ). piece ++ l) (sym c.behind-rest.ensures))
          ∙ sym (append_assoc front piece c.behind-rest.result.now);
      still = c.in-Ok.ensures.fault.ok refl ∙ c.loop-rest.invariant.still;
      wants = c.in-Ok.ensures.wants.other (λ wrong. cc wrong) ∙ c.loop-rest.invariant.wants;
      taken = grows_more (g.K.Sink.written c.args.out.now) (g.K.Sink.written c.loop-rest.out) (g.K.Sink.written c.write.new.self) front piece
          c.loop-rest.invariant.taken c.in-Ok.ensures.written;
    }
