use Rattle.std.proofs.Common.{◌≡◌, ◌<◌, ◌≤◌, ◌+◌, ◌++◌, ◌∷◌, [], ℕ, ℤ, List, length, get_or, sym, ◌∙◌, ap, arith, refl, append_assoc}
use Rattle.std.proofs.lemmas.List.Elements.{All-same}
use Rattle.tsdb_types.specs.declared.value.Kind.{Kind}
use Rattle.tsdb_types.specs.declared.value.Value.{Value}
use Rattle.tsdb_types.specs.Values.{kind_of}
use Rattle.word_codec.specs.Uvarint.{uvarint}
use Rattle.time_codec.specs.Times.{coded_times}
use Rattle.value_codec.specs.Coding.{AreOf, IsInRange, coded_as}
use Rattle.block_codec.specs.Blocks.{type_byte, times_of, values_of}
use Rattle.block_codec.proofs.BlockLemmas.{coded_block-is, lengths}
use Rattle.block_codec.proofs.encoder.encode_block.Goals as goal

-- the parts one behind another
whole : (start head sized timed all times values : List ℕ) (kind : Kind) (byte size : ℕ) → start ≡ [] → head ≡ start ++ byte ∷ [] → byte ≡ type_byte kind → size ≡ length times → sized ≡ head ++ uvarint size → timed ≡ sized ++ times → all ≡ timed ++ values → all ≡ type_byte kind ∷ (uvarint (length times) ++ times ++ values)
whole start head sized timed all times values kind byte size none pushed byte-is size-is sized-is timed-is all-is =
    all-is
    ∙ ap (λ (bs : List ℕ). bs ++ values) (timed-is ∙ ap (λ (bs : List ℕ). bs ++ times) (sized-is ∙ ap (λ (bs : List ℕ). bs ++ uvarint size) (pushed ∙ ap (λ (bs : List ℕ). bs ++ byte ∷ []) none)))
    ∙ ap (λ (b : ℕ). b ∷ (uvarint size ++ times ++ values)) byte-is
    ∙ ap (λ (n : ℕ). type_byte kind ∷ (uvarint n ++ times ++ values)) size-is

pub returns-clause-ok : goal.returns-clause-ok
returns-clause-ok c = λ kind alike.
    let values = values_of c.args.points.now in
    let read : c.as_slice-2.result.now ≡ values = c.as_slice-2.ensures.value ∙ c.in_ok-values.ensures.values in
    let coded-times : c.in_ok-times-2.times.items ≡ coded_times (times_of c.args.points.now) = c.in_ok-times-2.ensures ∙ ap coded_times (c.as_slice.ensures.value ∙ c.in_ok-times.ensures) in
    let some : 0 < length c.in_ok-values.values.items = omega (arith, ap length c.in_ok-values.ensures.values, lengths c.args.points.now, c.requires.times.some) in
    let first : c.index.result.now ≡ get_or values 0 c.index.result.now = c.index.ensures ∙ ap (λ (vs : List Value). get_or vs 0 c.index.result.now) c.in_ok-values.ensures.values in
    let kind-is : c.kind-kind.result ≡ kind = c.kind-kind.ensures ∙ ap kind_of first ∙ alike 0 c.index.result.now (omega (arith, some, ap length c.in_ok-values.ensures.values)) in
    let codes : c.in_ok-values-2.values.items ≡ coded_as kind values =
    c.in_ok-values-2.ensures.ok kind (All-same (λ value. kind_of value ≡ kind) c.as_slice-2.result.now values read alike) ∙ ap (coded_as kind) read in
    whole c.in_ok-out.out.items c.push.new.self.items c.write_uvarint.new.out.items c.extend_from_slice.new.self.items c.extend_from_slice-2.new.self.items
    c.in_ok-times-2.times.items c.in_ok-values-2.values.items kind c.byte_of.result c.len-3.result
    c.in_ok-out.ensures.items c.in_ok-push.ensures.items (c.byte_of.ensures ∙ ap type_byte kind-is) (c.len-3.ensures ∙ c.in_ok-times-2.times.ok.0) c.in_ok-write_uvarint.ensures.ok
    (c.in_ok-extend_from_slice.ensures.items ∙ ap (λ (bs : List ℕ). c.write_uvarint.new.out.items ++ bs) c.as_slice-3.ensures.value)
    (c.in_ok-extend_from_slice-2.ensures.items ∙ ap (λ (bs : List ℕ). c.extend_from_slice.new.self.items ++ bs) c.as_slice-4.ensures.value)
    ∙ ap (λ (ts : List ℕ). type_byte kind ∷ (uvarint (length ts) ++ ts ++ c.in_ok-values-2.values.items)) coded-times
    ∙ ap (λ (bs : List ℕ). type_byte kind ∷ (uvarint (length (coded_times (times_of c.args.points.now))) ++ coded_times (times_of c.args.points.now) ++ bs)) codes
    ∙ sym (coded_block-is kind c.args.points.now)

pub returns-clause-range : goal.returns-clause-range
returns-clause-range c = All-same IsInRange (values_of c.args.points.now) c.in_ok-values.values.items (sym c.in_ok-values.ensures.values) c.in_ok-values.ensures.range
