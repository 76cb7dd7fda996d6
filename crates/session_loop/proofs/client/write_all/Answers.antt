-- A piece more is written.
use Rattle.std.proofs.Common.{◌++◌, ℕ, List, [], take, refl, sym, ap, ◌∙◌, append_assoc}
use Rattle.std.proofs.lemmas.List.{take-append-drop}
use Rattle.shard_disk.proofs.HealthLemmas.{ages_then, ages_still}
use Rattle.session_loop.proofs.GoingLemmas.{grows_more, grows_nothing}
use Rattle.session_loop.proofs.client.write_all.Goals as goal

pub loop-rest-init : goal.loop-rest-init
loop-rest-init g c = record {
  front = [];
  whole = refl;
  written = grows_nothing (g.K.Sink.written c.args.sink.now);
  still = refl;
  ages = ages_still (g.K.Sink.health c.args.sink.now);
}

pub loop-rest-preserved : goal.loop-rest-preserved
loop-rest-preserved g c =
    let front : List ℕ = c.loop-rest.invariant.front in
    let piece : List ℕ = take c.in_ok-count.count c.loop-rest.rest.now in
    record {
      front = front ++ piece;
      whole = c.loop-rest.invariant.whole
          ∙ ap (λ (l : List ℕ). front ++ l) (sym (take-append-drop c.in_ok-count.count c.loop-rest.rest.now) ∙ ap (λ (l : List ℕ). piece ++ l) (sym c.split_at.ensures.back))
          ∙ sym (append_assoc front piece c.split_at.result.1.now);
      written = grows_more (g.K.Sink.written c.args.sink.now) (g.K.Sink.written c.loop-rest.sink) (g.K.Sink.written c.write.new.self) front piece
          c.loop-rest.invariant.written c.in_ok-count.ensures.written;
      still = c.in_ok-count.ensures.fault.ok refl ∙ c.loop-rest.invariant.still;
      ages = ages_then (g.K.Sink.health c.args.sink.now) (g.K.Sink.health c.loop-rest.sink) (g.K.Sink.health c.write.new.self) c.loop-rest.invariant.ages c.write.ensures.fault.ages;
    }
