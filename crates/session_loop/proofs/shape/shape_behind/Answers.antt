-- What isn't blank stays so.
use Rattle.session_loop.proofs.ShapeLemmas.{shape_found}
use Rattle.session_loop.proofs.shape.shape_behind.Goals as goal

pub returns-in-Words : goal.returns-in-Words
returns-in-Words c = shape_found c.args.shape c.loop-byte.shape c.loop-byte.byte-index c.args.bytes.now c.loop-byte.invariant c.in-Words.is
