use Rattle.std.proofs.Common.{◌<◌, ◌^◌, ℕ}
use Rattle.index_file.specs.Contents.{IsText}
use Rattle.index_file.specs.Format.{text_bytes}
use Rattle.fixed_width.specs.Fields.{bytes_of_u16}
use Rattle.index_file.proofs.TakeLemmas.{stopped, stopped_none}
use Rattle.index_file.proofs.TextLemmas.{no_length, no_text, made_text}
use Rattle.index_file.proofs.take.take_name.Goals as goal

pub returns-in_err-len : goal.returns-in_err-len
returns-in_err-len c =
    stopped (λ (n : ℕ). n < 2 ^ 16) bytes_of_u16 IsText text_bytes c.from_residual.result c.in_err-len.field-0.0 c.args.rest.now c.take_u16.new.self c.args.rest.now c.take_u16.new.self
    c.from_residual.ensures.1 c.in_err-len.ensures (no_length c.args.rest.now)

pub returns-in_err-text : goal.returns-in_err-text
returns-in_err-text c =
    stopped_none IsText text_bytes c.from_residual-in_err-text.result c.in_err-text.field-0.0 c.args.rest.now c.take_bytes.new.self c.from_residual-in_err-text.ensures.1
    (no_text c.args.rest.now c.take_u16.new.self c.in_ok-len.len c.in_ok-len.ensures.0 c.in_ok-len.ensures.1 c.in_err-text.ensures.cut)

pub returns : goal.returns
returns c =
    made_text c.args.rest.now c.take_u16.new.self c.in_ok-text.text.now c.take_bytes.new.self c.in_ok-len.len c.name_of.result c.in_ok-len.ensures.0 c.in_ok-len.ensures.1
    c.in_ok-text.ensures.found c.in_ok-text.ensures.count c.name_of.ensures.text c.name_of.ensures.named c.name_of.ensures.wrong
