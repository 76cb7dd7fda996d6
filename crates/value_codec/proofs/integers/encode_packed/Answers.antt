use Rattle.std.proofs.Common.{◌≡◌, ◌++◌, ◌∷◌, ℕ, List, sym, ◌∙◌, ap}
use Rattle.std.specs.List.{flat_map}
use Rattle.simple8b.specs.Words.{words_of}
use Rattle.value_codec.specs.Steps.{big_endian}
use Rattle.value_codec.proofs.Tails.{tail_packed}
use Rattle.value_codec.proofs.integers.encode_packed.Goals as goal

pub returns : goal.returns
returns c =
    let words : c.as_slice.result.now ≡ words_of c.args.rest.now = c.as_slice.ensures.value ∙ c.in_ok-words.ensures.ok in
    c.in_ok-write_words.ensures.ok
    ∙ ap (λ (bs : List ℕ). bs ++ flat_map big_endian c.as_slice.result.now) c.in_ok-out.ensures
    ∙ ap (λ (ws : List ℕ). (16 ∷ big_endian c.args.first) ++ flat_map big_endian ws) words
    ∙ ap (λ (bs : List ℕ). (16 ∷ big_endian c.args.first) ++ bs) (sym (tail_packed c.args.rest.now))
