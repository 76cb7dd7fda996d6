use Rattle.std.proofs.Common.{◌≡◌, ◌<◌, ◌++◌, ◌∷◌, [], ℕ, Bool, List, length, map, min, take, drop, sym, ◌∙◌, ap, arith, refl, append_assoc, ⊎_elim}
use Rattle.tsdb_types.specs.declared.value.Value.{Value}
use Rattle.value_codec.specs.Booleans.{byte_of, bytes_behind}
use Rattle.value_codec.specs.Coding.{truth_of}
use Rattle.std.proofs.lemmas.Bool.{eqb-true, eqb-false, cases_lt}
use Rattle.std.proofs.lemmas.List.{append-nil, nil_from_length, take-map, drop-map, length-map, take_all, drop_all}
use Rattle.value_codec.proofs.BitLemmas.{bytes-nil, bytes-step, byte_of-front}
use Rattle.value_codec.proofs.bits.append_bits.Goals as goal

-- one more byte
one_more : (rest next behind : List Value) (size byte : ℕ) (out new all : List ℕ) → 0 < length rest → size ≡ min (length rest) 8 → next ≡ take size rest → behind ≡ drop size rest → byte ≡ byte_of 128 (map truth_of next) → new ≡ out ++ byte ∷ [] → out ++ bytes_behind 0 (map truth_of rest) ≡ all → new ++ bytes_behind 0 (map truth_of behind) ≡ all
one_more rest next behind size byte out new all some is front back byte-is pushed read =
    let truths = map truth_of rest in
    let first : byte ≡ byte_of 128 truths =
    byte-is ∙ ap (λ (vs : List Value). byte_of 128 (map truth_of vs)) front ∙ ap (byte_of 128) (sym (take-map truth_of size rest)) ∙ byte_of-front size truths (is ∙ ap (λ (n : ℕ). min n 8) (sym (length-map rest truth_of))) in
    let others : drop 8 truths ≡ map truth_of behind = behind_front size rest truths behind is refl back in
    let whole : bytes_behind 0 truths ≡ byte ∷ bytes_behind 0 (map truth_of behind) =
    bytes-step truths (omega (arith, some, length-map rest truth_of)) ∙ ap (λ (b : ℕ). b ∷ bytes_behind 0 (drop 8 truths)) (sym first) ∙ ap (λ (ts : List Bool). byte ∷ bytes_behind 0 ts) others in
    ap (λ (bs : List ℕ). bs ++ bytes_behind 0 (map truth_of behind)) pushed ∙ append_assoc out (byte ∷ []) (bytes_behind 0 (map truth_of behind)) ∙ ap (λ (bs : List ℕ). out ++ bs) (sym whole) ∙ read
  where
    behind_front : (size : ℕ) (rest : List Value) (truths : List Bool) (behind : List Value) → size ≡ min (length rest) 8 → truths ≡ map truth_of rest → behind ≡ drop size rest → drop 8 truths ≡ map truth_of behind
    behind_front size rest truths behind is truths-is back =
        ⊎_elim
        (λ short. ap (drop 8) truths-is ∙ drop_all 8 (map truth_of rest) (omega (arith, short, length-map rest truth_of)) ∙ sym (ap (map truth_of) (back ∙ drop_all size rest (omega arith))))
        (λ long. let full : size ≡ 8 = omega arith in ap (drop 8) truths-is ∙ drop-map truth_of 8 rest ∙ ap (map truth_of) (ap (λ (n : ℕ). drop n rest) (sym full) ∙ sym back))
        (cases_lt (length rest) 8)

pub loop-eight-preserved : goal.loop-eight-preserved
loop-eight-preserved c =
    let rest = c.loop-eight.rest.now in
    let cases = c.in-Some.ensures.cases in
    one_more rest c.in-Some.eight.now c.in-Some.behind.now 8 c.byte_with.result c.loop-eight.out.items c.push.new.self.items _
    (omega (arith, cases.2)) (omega (arith, cases.2)) cases.0 cases.1 c.byte_with.ensures c.in_ok-push.ensures.items c.loop-eight.invariant

pub returns-then-is_empty : goal.returns-then-is_empty
returns-then-is_empty c =
    let rest = c.loop-eight.rest.now in
    let none : rest ≡ [] = nil_from_length rest (eqb-true (length rest) 0 (sym c.if-is_empty.ensures)) in
    sym (append-nil c.loop-eight.out.items) ∙ ap (λ (bs : List ℕ). c.loop-eight.out.items ++ bs) (sym (ap (λ (vs : List Value). bytes_behind 0 (map truth_of vs)) none ∙ bytes-nil)) ∙ c.loop-eight.invariant

pub returns : goal.returns
returns c =
    let rest = c.loop-eight.rest.now in
    let some : length rest ≡ 0 → ⊥ = eqb-false (length rest) 0 (sym c.if-is_empty.ensures) in
    let short : length rest < 8 = omega (arith, c.in_default.ensures.cases) in
    let last = one_more rest rest [] (length rest) c.byte_with-2.result c.loop-eight.out.items c.push-2.new.self.items _
    (omega (arith, some)) (omega (arith, short)) (sym (take_all (length rest) rest (omega arith))) (sym (drop_all (length rest) rest (omega arith))) c.byte_with-2.ensures c.in_ok-push-2.ensures.items c.loop-eight.invariant in
    sym (append-nil c.push-2.new.self.items) ∙ ap (λ (bs : List ℕ). c.push-2.new.self.items ++ bs) (sym bytes-nil) ∙ last
