use Rattle.std.proofs.Common.{◌++◌, ◌∷◌, ℕ, List, sym, ◌∙◌, ap}
use Rattle.std.specs.List.{flat_map}
use Rattle.value_codec.specs.Steps.{big_endian}
use Rattle.value_codec.proofs.Tails.{tail_raw}
use Rattle.value_codec.proofs.integers.encode_raw.Goals as goal

pub returns : goal.returns
returns c =
    c.in_ok-write_words.ensures.ok
    ∙ ap (λ (bs : List ℕ). bs ++ flat_map big_endian c.args.rest.now) c.in_ok-out.ensures
    ∙ ap (λ (bs : List ℕ). (0 ∷ big_endian c.args.first) ++ bs) (sym (tail_raw c.args.rest.now))
