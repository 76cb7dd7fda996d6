use Rattle.std.proofs.Common.{◌<◌, ◌^◌, rules, FitsSigned, w64}
use Rattle.tsm_format.specs.Raw.{entry_of}
use Rattle.tsm_format.proofs.FormatLemmas.{HasWidths, if_none, no_entry_short, no_entry_other, entry_behind, none_weaker}
use Rattle.tsm_format.proofs.entries.next_entry.Goals as goal

pub returns-in_err-raw-clause-none : goal.returns-in_err-raw-clause-none
returns-in_err-raw-clause-none c = if_none c.from_residual.result (no_entry_short c.args.bytes.now c.args.last c.args.place c.in_err-raw.ensures.cut)

pub returns-clause-found : goal.returns-clause-found
returns-clause-found c = entry_behind c.args.bytes.now c.in_ok-raw.raw.behind.now (entry_of c.in_ok-raw.raw) c.checked.result c.in_ok-raw.ensures.found c.checked.ensures.same

pub returns-clause-none : goal.returns-clause-none
returns-clause-none c =
    let raw = c.in_ok-raw.raw in
    let min : FitsSigned w64 raw.min = search rules in
    let max : FitsSigned w64 raw.max = search rules in
    let offset : raw.offset < 2 ^ 64 = search rules in
    let size : raw.size < 2 ^ 32 = search rules in
    let widths : HasWidths (entry_of raw) = record { min = min; max = max; offset = offset; size = size } in
    none_weaker c.checked.result (λ none. no_entry_other c.args.bytes.now raw.behind.now (entry_of raw) c.args.last c.args.place widths c.in_ok-raw.ensures.found none) c.checked.ensures.none
