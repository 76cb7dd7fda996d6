-- What was written is the front, and each write takes a byte at least.
use Rattle.std.proofs.Common.{◌≡◌, List, ℕ, ◌++◌, length}
use Rattle.session_io.specs.Streams.{Grows}
use Rattle.shard_disk.specs.Health.{Ages}
use Rattle.session_loop.proofs.client.write_all.Given as goal

abbrev pub invariant-loop-rest : goal.invariant-loop-rest
invariant-loop-rest g l = record {
  front : List ℕ;
  whole : l.bytes ≡ front ++ l.rest;
  written : Grows (g.K.Sink.written l.fn.sink) (g.K.Sink.written l.sink) front;
  still : g.K.Sink.health l.sink ≡ g.K.Sink.health l.fn.sink;
  ages : Ages (g.K.Sink.health l.fn.sink) (g.K.Sink.health l.sink);
}

abbrev pub decreases-loop-rest : goal.decreases-loop-rest
decreases-loop-rest g l = length l.rest
