use Rattle.std.proofs.Common.{◌++◌, ◌∷◌, [], ℕ, Bool, List, length, map, sym, ◌∙◌, ap}
use Rattle.value_codec.specs.Booleans.{bytes_behind}
use Rattle.value_codec.specs.Coding.{truth_of}
use Rattle.word_codec.specs.Uvarint.{uvarint}
use Rattle.std.proofs.lemmas.List.{length-map}
use Rattle.value_codec.proofs.BitLemmas.{coded-is}
use Rattle.value_codec.proofs.bits.encode_booleans.Goals as goal

pub returns : goal.returns
returns c =
    let truths : List Bool = map truth_of c.args.values.now in
    c.in_ok-append_bits.ensures
    ∙ ap (λ (bs : List ℕ). bs ++ bytes_behind 0 truths) (c.in_ok-write_uvarint.ensures.ok ∙ ap (λ (bs : List ℕ). bs ++ uvarint (length c.args.values.now)) (c.in_ok-push.ensures.items ∙ ap (λ (bs : List ℕ). bs ++ 16 ∷ []) c.in_ok-out.ensures.items))
    ∙ ap (λ (n : ℕ). (16 ∷ uvarint n) ++ bytes_behind 0 truths) (sym (length-map c.args.values.now truth_of))
    ∙ sym (coded-is truths)
