use Rattle.std.proofs.Common.{ℕ, Option, sym, subst}
use Rattle.fixed_width.specs.Fields.{bytes_of_u32}
use Rattle.index_file.proofs.TakeLemmas.{stopped, StandsNone}
use Rattle.index_file.proofs.ItemLemmas.{IsId, MayBeNextId, not_later}
use Rattle.index_file.proofs.take.take_id.Goals as goal

pub returns-in_err-id : goal.returns-in_err-id
returns-in_err-id c =
    stopped IsId bytes_of_u32 (MayBeNextId c.args.last) bytes_of_u32 c.from_residual.result c.in_err-id.field-0.0 c.args.rest.now c.take_u32.new.self c.args.rest.now c.take_u32.new.self
    c.from_residual.ensures.1 c.in_err-id.ensures (λ none id more next is. none id more next.0 is)

pub returns-in-Some : goal.returns-in-Some
returns-in-Some c =
    subst (λ (last : Option ℕ). StandsNone (MayBeNextId last) bytes_of_u32 c.args.rest.now) (sym c.in-Some.is)
    (not_later c.args.rest.now c.take_u32.new.self c.in-Some.last c.in_ok-id.id c.in_ok-id.ensures.0 c.in_ok-id.ensures.1 c.if-last-id.true)
