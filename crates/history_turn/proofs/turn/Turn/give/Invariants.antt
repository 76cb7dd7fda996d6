use Rattle.history_turn.specs.Histories.{listed}
use Rattle.history_turn.proofs.turn.Turn.give.Given as goal

abbrev pub ghosts-give_back-W-Listed : goal.ghosts-give_back-W-Listed
ghosts-give_back-W-Listed g a = record { list = listed (g.N.News.entry a.news.now a.value) }

abbrev pub ghosts-give_back-Z-Listed : goal.ghosts-give_back-Z-Listed
ghosts-give_back-Z-Listed g a = record { list = g.N.News.loans a.news.now a.value a.pass.now.view.loans }
