use Rattle.std.proofs.Common.{◌++◌, ◌∷◌, [], ℕ, List, sym, ◌∙◌, ap}
use Rattle.value_codec.specs.Steps.{form_byte}
use Rattle.value_codec.proofs.Tails.{big_endian-is}
use Rattle.value_codec.proofs.integers.head_of.Goals as goal

pub returns : goal.returns
returns c =
    c.in_ok-extend_from_slice.ensures.items
    ∙ ap (λ (bs : List ℕ). bs ++ c.to_be_bytes.result) (c.in_ok-push.ensures.items ∙ ap (λ (bs : List ℕ). bs ++ c.byte_of.result ∷ []) c.in_ok-out.ensures.items)
    ∙ ap (λ (b : ℕ). b ∷ c.to_be_bytes.result) c.byte_of.ensures
    ∙ ap (λ (bs : List ℕ). form_byte c.args.form ∷ bs) (c.to_be_bytes.ensures ∙ sym (big_endian-is c.args.first))
