use Rattle.std.proofs.Common.{◌≡◌, ◌+◌, ◌/◌, ◌++◌, ◌∷◌, ℕ, Bool, List, length, map, sym, ◌∙◌, ap, arith, refl, Result, Ok, Err, IfOk}
use Rattle.value_codec.specs.Booleans.{bytes_behind, coded_booleans}
use Rattle.value_codec.specs.Coding.{truth_of}
use Rattle.word_codec.specs.Uvarint.{uvarint}
use Rattle.word_codec.proofs.UvarintLemmas.{apart as numbers_apart}
use Rattle.std.proofs.lemmas.List.{length-map}
use Rattle.value_codec.proofs.BitLemmas.{coded-is, length-bytes, parts_of}
use Rattle.value_codec.proofs.bits.decode_booleans.Goals as goal
use Rattle.value_codec.proofs.bits.decode_booleans.Goals.{then-head-ne16-via-then-head-ne16, then-head-ne16-via-else-head-ne16+then-count-n, then-head-ne16-via-else-head-ne16+else-count-n+then-bits-n}

-- two facts of one answer give a third
both : {T E : Type 0} (r : Result T E) (P Q R : T → Type 0) → ((x : T) → P x → Q x → R x) → IfOk r P → IfOk r Q → IfOk r R
both (Ok x) P Q R f p q = f x p q
both (Err e) P Q R f p q = tt

-- bytes that were read part by part
whole : (truths : List Bool) (bytes : List ℕ) (head : ℕ) (behind bits : List ℕ) (count : ℕ) → bytes ≡ head ∷ behind → head ≡ 16 → behind ≡ uvarint count ++ bits → count ≡ length truths → bytes_behind 0 truths ≡ bits → coded_booleans truths ≡ bytes
whole truths bytes head behind bits count front first tail often read =
    coded-is truths
    ∙ ap (λ (bs : List ℕ). (16 ∷ uvarint (length truths)) ++ bs) read
    ∙ ap (λ (n : ℕ). (16 ∷ uvarint n) ++ bits) (sym often)
    ∙ ap (λ (bs : List ℕ). 16 ∷ bs) (sym tail)
    ∙ ap (λ (b : ℕ). b ∷ behind) (sym first)
    ∙ sym front

pub returns-in_default-clause-bad_block : goal.returns-in_default-clause-bad_block
returns-in_default-clause-bad_block c = λ _ truths size spelled.
    omega (arith, ap length (sym (coded-is truths) ∙ spelled), c.in_default.ensures.cases)

pub returns-in_default-split_uvarint-clause-bad_block : goal.returns-in_default-split_uvarint-clause-bad_block
returns-in_default-split_uvarint-clause-bad_block c = λ _ truths size spelled.
    let parts = parts_of truths c.args.bytes.now c.in-Some.head.now c.in-Some.behind.now spelled c.in-Some.ensures.cases.0 in
    c.in_default-split_uvarint.ensures.none refl (length truths) (bytes_behind 0 truths) (omega (arith, size, c.requires)) (sym parts.1)

pub returns-then-head-ne16-clause-bad_block : goal.returns-then-head-ne16-clause-bad_block
returns-then-head-ne16-clause-bad_block c = λ _ truths size spelled.
    let parts = parts_of truths c.args.bytes.now c.in-Some.head.now c.in-Some.behind.now spelled c.in-Some.ensures.cases.0 in
    let tells = numbers_apart (length truths) c.in-Some-split_uvarint.count (bytes_behind 0 truths) c.in-Some-split_uvarint.bits.now (parts.1 ∙ c.in-Some-split_uvarint.ensures.found) in
    let sizes : length (bytes_behind 0 truths) ≡ (length truths + 7) / 8 = length-bytes (length truths) truths (omega arith) in
    elim c.then-head-ne16.branch [
      | then-head-ne16-via-then-head-ne16 w ↦ w.if-head-ne16.true parts.0
      | then-head-ne16-via-else-head-ne16+then-count-n w ↦ w.if-count-n.true (sym tells.0 ∙ size)
      | then-head-ne16-via-else-head-ne16+else-count-n+then-bits-n w ↦ w.if-bits-n.true (ap length (sym tells.1) ∙ sizes ∙ ap (λ (n : ℕ). (n + 7) / 8) size)
    ]

pub returns-clause-found : goal.returns-clause-found
returns-clause-found c =
    both c.read_bits.result _ _ _
    (λ values read size. whole (map truth_of values.items) c.args.bytes.now c.in-Some.head.now c.in-Some.behind.now c.in-Some-split_uvarint.bits.now c.in-Some-split_uvarint.count
    c.in-Some.ensures.cases.0 c.if-head-ne16.false c.in-Some-split_uvarint.ensures.found (c.if-count-n.false ∙ sym size ∙ sym (length-map values.items truth_of)) read)
    c.read_bits.ensures.found c.read_bits.ensures.size

pub returns-clause-bad_block : goal.returns-clause-bad_block
returns-clause-bad_block c = λ bad truths size spelled.
    let parts = parts_of truths c.args.bytes.now c.in-Some.head.now c.in-Some.behind.now spelled c.in-Some.ensures.cases.0 in
    let tells = numbers_apart (length truths) c.in-Some-split_uvarint.count (bytes_behind 0 truths) c.in-Some-split_uvarint.bits.now (parts.1 ∙ c.in-Some-split_uvarint.ensures.found) in
    c.read_bits.ensures.bad_block bad truths size tells.1
