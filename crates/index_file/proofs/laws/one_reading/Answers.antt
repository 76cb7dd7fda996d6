use Rattle.std.proofs.Common.{refl}
use Rattle.index_file.specs.Format.{file_of}
use Rattle.index_file.proofs.ReadLemmas as reading
use Rattle.index_file.proofs.laws.one_reading.Goals as goal

pub returns-clause-reading : goal.returns-clause-reading
returns-clause-reading c = reading.one_reading

pub returns-clause-file : goal.returns-clause-file
returns-clause-file c one other good good' same = reading.one_content one other (file_of one) good good' refl same
