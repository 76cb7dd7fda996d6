use Rattle.value_codec.proofs.Apart.{values_apart}
use Rattle.value_codec.proofs.law.one_spelling.Goals as goal

pub returns : goal.returns
returns c = values_apart
