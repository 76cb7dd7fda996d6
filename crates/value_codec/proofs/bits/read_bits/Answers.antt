use Rattle.std.proofs.Common.{◌≡◌, ◌<◌, ◌≤◌, ◌+◌, ◌-◌, ◌*◌, ◌/◌, ◌++◌, ◌∷◌, [], ℕ, Bool, List, length, map, min, take, drop, get_or, rules, sym, ◌∙◌, ap, arith, refl, length-append}
use Rattle.tsdb_types.specs.declared.value.Value.{Value}
use Rattle.value_codec.specs.Booleans.{byte_of, bytes_behind}
use Rattle.value_codec.specs.Coding.{truth_of}
use Rattle.std.proofs.lemmas.List.{length-map, map-append, take_more, length-drop, length-take-le}
use Rattle.std.proofs.lemmas.List.Elements.{All-same, All-nil, All-append}
use Rattle.tsdb_types.specs.declared.value.Kind.TheVariants.{Boolean}
use Rattle.tsdb_types.specs.Values.{kind_of}
use Rattle.value_codec.proofs.BitLemmas.{bytes-nil, bytes-append, one_byte, byte_at, byte_of-front}
use Rattle.value_codec.proofs.bits.read_bits.Goals as goal

-- one more byte
grown : (old new added : List Value) (bits : List ℕ) (index n size byte : ℕ) → n ≤ 1000 → length bits ≡ (n + 7) / 8 → index < length bits → length old ≡ min n (8 * index) → size ≡ min (n - length old) 8 → new ≡ old ++ added → length added ≡ size → byte_of 128 (map truth_of added) ≡ byte → byte ≡ get_or bits index 0 → bytes_behind 0 (map truth_of old) ≡ take index bits → bytes_behind 0 (map truth_of new) ≡ take (index + 1) bits
grown old new added bits index n size byte most room below count size-is after count-added spelled is read =
    let full : length (map truth_of old) ≡ 8 * index = length-map old truth_of ∙ omega arith in
    ap (λ (vs : List Value). bytes_behind 0 (map truth_of vs)) after
    ∙ ap (bytes_behind 0) (map-append truth_of old added)
    ∙ bytes-append index (map truth_of old) (map truth_of added) full
    ∙ ap (λ (bs : List ℕ). bs ++ bytes_behind 0 (map truth_of added)) read
    ∙ ap (λ (bs : List ℕ). take index bits ++ bs) (one_byte (map truth_of added) (omega (arith, length-map added truth_of)) (omega (arith, length-map added truth_of)))
    ∙ ap (λ (b : ℕ). take index bits ++ b ∷ []) (spelled ∙ is)
    ∙ sym (take_more bits index 0 below)

pub loop-byte-init : goal.loop-byte-init
loop-byte-init c =
    let none : c.in_ok-values.values.items ≡ [] = c.in_ok-values.ensures.items in
    record {
      read = ap (λ (vs : List Value). bytes_behind 0 (map truth_of vs)) none ∙ bytes-nil;
      size = ap length none ∙ omega arith;
      kind = All-same (λ value. kind_of value ≡ Boolean) c.in_ok-values.values.items [] none (All-nil (λ value. kind_of value ≡ Boolean));
    }

-- the byte at a place, of as many Booleans as are left for it
here : (truths : List Bool) (bits : List ℕ) (index n size done : ℕ) → n ≤ 1000 → length bits ≡ (n + 7) / 8 → index < length bits → done ≡ min n (8 * index) → size ≡ min (n - done) 8 → length truths ≡ n → bytes_behind 0 truths ≡ bits → (length (take size (drop (8 * index) truths)) ≡ size) × (byte_of 128 (take size (drop (8 * index) truths)) ≡ get_or bits index 0)
here truths bits index n size done most room below done-is size-is count spelled =
    let left = drop (8 * index) truths in
    let within : 8 * index < length truths = omega arith in
    let rest : size ≡ min (length left) 8 = omega (arith, length-drop (8 * index) truths) in (
      length-take-le size left (omega arith),
      byte_of-front size left rest ∙ sym (byte_at index truths within) ∙ ap (λ (bs : List ℕ). get_or bs index 0) spelled,
    )

pub returns-in_err-read_byte-clause-bad_block : goal.returns-in_err-read_byte-clause-bad_block
returns-in_err-read_byte-clause-bad_block c = λ bad truths size spelled.
    let at = c.loop-byte in
    let place = here truths c.args.bits.now at.byte-index c.args.n c.min-size.result c.len.result c.requires.most c.requires.room c.loop-byte-test.true
    (c.len.ensures ∙ at.values.ok.0 ∙ at.invariant.size) c.min-size.ensures size spelled in
    c.in_err-read_byte.ensures.bad_block (search rules) (take c.min-size.result (drop (8 * at.byte-index) truths)) place.0 place.1

pub loop-byte-preserved : goal.loop-byte-preserved
loop-byte-preserved c =
    let at = c.loop-byte in
    let adds = c.in_ok-read_byte.ensures.found in
    let items = c.read_byte.new.values.items in
    let done : length at.values.items ≡ c.len.result = sym (c.len.ensures ∙ at.values.ok.0) in
    let size-is : c.min-size.result ≡ min (c.args.n - length at.values.items) 8 = c.min-size.ensures ∙ ap (λ (k : ℕ). min (c.args.n - k) 8) (sym done) in
    record {
      read = grown at.values.items items adds.added c.args.bits.now at.byte-index c.args.n c.min-size.result (get_or c.args.bits.now at.byte-index 0) c.requires.most c.requires.room c.loop-byte-test.true
          at.invariant.size size-is adds.after adds.count adds.spelled refl at.invariant.read;
      size = ap length adds.after ∙ length-append at.values.items adds.added ∙ sized (length at.values.items) (length adds.added) at.byte-index c.args.n c.min-size.result (length c.args.bits.now) c.requires.room c.loop-byte-test.true at.invariant.size adds.count size-is;
      kind = All-same (λ value. kind_of value ≡ Boolean) items (at.values.items ++ adds.added) adds.after (All-append (λ value. kind_of value ≡ Boolean) at.values.items adds.added at.invariant.kind adds.alike);
    }
  where
    sized : (done added index n size room : ℕ) → room ≡ (n + 7) / 8 → index < room → done ≡ min n (8 * index) → added ≡ size → size ≡ min (n - done) 8 → done + added ≡ min n (8 * (index + 1))
    sized done added index n size room is below old count size-is = omega arith
