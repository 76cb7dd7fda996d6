-- What was written is a front of the line, and each write takes a byte at least.
use Rattle.std.proofs.Common.{◌≡◌, List, ℕ, ◌++◌, length}
use Rattle.session_io.specs.Streams.{Grows}
use Rattle.tsm_server.proofs.program.print.Given as goal

abbrev pub invariant-loop-rest : goal.invariant-loop-rest
invariant-loop-rest g l = record {
  front : List ℕ;
  whole : l.line ≡ front ++ l.rest;
  still : g.K.Sink.health l.out ≡ g.K.Sink.health l.fn.out;
  wants : g.K.Sink.wants l.out ≡ g.K.Sink.wants l.fn.out;
  taken : Grows (g.K.Sink.written l.fn.out) (g.K.Sink.written l.out) front;
}

abbrev pub decreases-loop-rest : goal.decreases-loop-rest
decreases-loop-rest g l = length l.rest
