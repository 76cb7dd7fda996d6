use Rattle.history_turn.proofs.turn.Turn.split.Given as goal

abbrev pub ghosts-cut_off : goal.ghosts-cut_off
ghosts-cut_off g a = record { size = a.parts }
