use Rattle.std.proofs.Common.{length, rules, sym, ◌∙◌, ap, arith}
use Rattle.value_codec.proofs.Tails.{tail_raw, length-words, read_as_raw}
use Rattle.value_codec.proofs.integers.read_raw.Goals as goal

pub returns-in_err-rest-clause-bad_block : goal.returns-in_err-rest-clause-bad_block
returns-in_err-rest-clause-bad_block c = λ bad other fit size spelled.
    c.in_err-rest.ensures.bad_block (search rules) other (sym (tail_raw other) ∙ spelled)

pub returns-then-len-count-clause-bad_block : goal.returns-then-len-count-clause-bad_block
returns-then-len-count-clause-bad_block c = λ _ other fit size spelled.
    c.if-len-count.true (omega (arith, c.len.ensures, c.in_ok-rest.rest.ok.0, size, ap length (sym (tail_raw other) ∙ spelled ∙ sym c.in_ok-rest.ensures.found), length-words other, length-words c.in_ok-rest.rest.items))

pub returns-clause-found : goal.returns-clause-found
returns-clause-found c =
    read_as_raw c.args.count c.args.bytes.now c.in_ok-rest.rest.items (omega (arith, c.len.ensures, c.in_ok-rest.rest.ok.0, c.if-len-count.false)) c.in_ok-rest.ensures.fit c.in_ok-rest.ensures.found
