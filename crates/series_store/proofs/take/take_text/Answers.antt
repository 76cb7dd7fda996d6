use Rattle.std.proofs.Common.{rules}
use Rattle.series_store.proofs.FormatLemmas.{no_length, no_text}
use Rattle.std.proofs.Common.{Option, None, Some, IfNone}
use Rattle.series_store.proofs.take.take_text.Goals as goal

if_none : {T : Type 0} {P : Type 0} (r : Option T) → P → IfNone r P
if_none None p = p
if_none (Some x) p = tt

pub returns-in_err-size-clause-none : goal.returns-in_err-size-clause-none
returns-in_err-size-clause-none c = if_none c.from_residual.result (no_length c.args.bytes.now c.in_err-size.ensures.cut)

pub returns-then-rest-size-clause-none : goal.returns-then-rest-size-clause-none
returns-then-rest-size-clause-none c = no_text c.args.bytes.now c.in_ok-size.size c.in_ok-size.rest.now (search rules) c.in_ok-size.ensures.found (search rules)
