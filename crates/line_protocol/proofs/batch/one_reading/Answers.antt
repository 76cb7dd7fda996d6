use Rattle.line_protocol.proofs.OnceLemmas.{batch_once, fault_once, never_both}
use Rattle.line_protocol.proofs.WholeLemmas.{readable}
use Rattle.line_protocol.proofs.batch.one_reading.Goals as goal

pub returns : goal.returns
returns c = record { batch = batch_once; fault = fault_once; apart = never_both; some = readable }
