-- The pass comes back as it was lent: of the same turn, with the same parts.
use Rattle.engine_clients.proofs.one.serve_one.Given as goal

abbrev pub ghosts-serve_at : goal.ghosts-serve_at
ghosts-serve_at g a = record { turn = a.turn.now; parts = a.pass.view.parts }
