use Rattle.std.proofs.Common.{◌≡◌, ◌/◌, ◌%◌, ◌++◌, List, ap, ◌∙◌, arith, append_assoc, length-append}
use Rattle.std.proofs.lemmas.List.Elements.{All-append}
use Rattle.tsdb_types.specs.declared.value.Kind.TheVariants.{Boolean}
use Rattle.tsdb_types.specs.declared.value.Value.{Value}
use Rattle.tsdb_types.specs.Values.{kind_of}
use Rattle.value_codec.proofs.HalfLemmas.{IsHalf, whole_byte}
use Rattle.value_codec.proofs.bits.read_whole.Goals as goal

pub returns : goal.returns
returns c =
    let old = c.args.values.now.items in
    let high = c.half.result.now in
    let low = c.half-2.result.now in
    let front : IsHalf (c.args.byte / 16) high = record { size = c.half.ensures.size; kind = c.half.ensures.kind; spelled = c.half.ensures.spelled } in
    let back : IsHalf (c.args.byte % 16) low = record { size = c.half-2.ensures.size; kind = c.half-2.ensures.kind; spelled = c.half-2.ensures.spelled } in
    record {
      added = high ++ low;
      after = c.in_ok-extend_from_slice-2.ensures.items ∙ ap (λ (vs : List Value). vs ++ low) c.in_ok-extend_from_slice.ensures.items ∙ append_assoc old high low;
      count = length-append high low ∙ omega (arith, front.size, back.size);
      alike = All-append (λ value. kind_of value ≡ Boolean) high low front.kind back.kind;
      spelled = whole_byte c.args.byte high low front back;
    }
