-- By the refusals in their order, the words of a line, and the one reading of a text of lines.
use Rattle.session_model.proofs.MeaningLemmas.{meanings_one}
use Rattle.session_model.proofs.requests_mean_one.Goals as goal

pub returns : goal.returns
returns c = meanings_one c.one_reading.ensures.batch c.one_reading.ensures.fault c.one_reading.ensures.apart c.one_deletion.ensures
