use Rattle.std.proofs.Common.{◌++◌, ◌∷◌, ℕ, List, length, get_or, sym, ◌∙◌, ap, append_assoc}
use Rattle.word_codec.specs.Uvarint.{uvarint}
use Rattle.value_codec.specs.Steps.{big_endian}
use Rattle.value_codec.proofs.Tails.{tail_run}
use Rattle.value_codec.proofs.integers.encode_run.Goals as goal

pub returns : goal.returns
returns c =
    let head : List ℕ = 32 ∷ big_endian c.args.first in
    let first = get_or c.args.rest.now 0 0 in
    c.in_ok-write_uvarint-2.ensures.ok
    ∙ ap (λ (bs : List ℕ). bs ++ uvarint (length c.args.rest.now)) (c.in_ok-write_uvarint.ensures.ok ∙ ap (λ (bs : List ℕ). bs ++ uvarint first) c.in_ok-out.ensures)
    ∙ append_assoc head (uvarint first) (uvarint (length c.args.rest.now))
    ∙ ap (λ (bs : List ℕ). head ++ bs) (sym (tail_run c.args.rest.now))
