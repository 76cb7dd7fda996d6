-- What is read may be handed to a store.
use Rattle.session_loop.proofs.read.read_protocol.Goals as goal

pub returns-in-Ok-clause-writable : goal.returns-in-Ok-clause-writable
returns-in-Ok-clause-writable c = c.in-Ok.ensures.writable
