use Rattle.std.proofs.Common.{◌≡◌, ◌/◌, ◌%◌, ◌∷◌, ℕ, List, take, drop, subst, sym, ◌∙◌, arith}
use Rattle.std.specs.Prelude.{ℤ, IfOk, IsSomeAnd}
use Rattle.std.specs.Int.{to_be_bytes, cast_unsigned, w64}
use Rattle.std.proofs.lemmas.List.Elements.{All-head}
use Rattle.tsdb_types.specs.Moments.{IsMoment}
use Rattle.time_codec.specs.declared.form.Form.{Form}
use Rattle.time_codec.specs.declared.form.Form.TheVariants.{Raw, Packed, RunLength}
use Rattle.time_codec.specs.Times.{AreTimes, coded_times, number_of}
use Rattle.time_codec.specs.Reading.{Follow, AreRead}
use Rattle.time_codec.proofs.ReadingLemmas.{only_of, fields, some_bytes, form_with, follow_as, whole_bytes, are_coded, also_found}
use Rattle.time_codec.proofs.reading.times_in.Goals as goal

-- what was read of a form answers for all times of it
only_form : (form : Form) (bytes : List ℕ) (head : ℕ) (body eight rest : List ℕ) (read : ℤ) (Q : List ℤ → Type 0) → bytes ≡ head ∷ body → rest ≡ drop 8 body
    → ((first : ℤ) → IsMoment first → take 8 body ≡ to_be_bytes w64 (cast_unsigned w64 first) → read ≡ first)
    → ((later : List ℤ) → AreTimes (read ∷ later) → Follow form (head % 16) rest (read ∷ later) → Q (read ∷ later))
    → ((coded : Form) → head / 16 ≡ number_of coded → coded ≡ form)
    → (times : List ℤ) → AreTimes times → bytes ≡ coded_times times → Q times
only_form form bytes head body eight rest read Q is rest_is time each same = only_of bytes Q (λ first later are coded.
    let f = fields bytes head body first later coded is in
    let it : read ≡ first = time first (All-head IsMoment first later are.moments) f.time in
    subst (λ (t : ℤ). Q (t ∷ later)) it (each later (subst (λ (t : ℤ). AreTimes (t ∷ later)) (sym it) are)
    (subst (λ (t : ℤ). Follow form (head % 16) rest (t ∷ later)) (sym it)
    (follow_as coded.form form coded.exponent (head % 16) coded.rest rest (first ∷ later) (same coded.form f.high) f.low (rest_is ∙ f.behind) coded.follow))))

pub returns-in_default-clause-only : goal.returns-in_default-clause-only
returns-in_default-clause-only c = only_of c.args.bytes.now (λ _. ⊥) (λ first later are coded. omega (arith, some_bytes c.args.bytes.now first later coded, c.in_default.ensures.cases))

pub returns-in_default-split_first_chunk-clause-only :
    goal.returns-in_default-split_first_chunk-clause-only
returns-in_default-split_first_chunk-clause-only c = only_of c.args.bytes.now (λ _. ⊥) (λ first later are coded.
    let f = fields c.args.bytes.now c.in-Some.head.now c.in-Some.body.now first later coded c.in-Some.ensures.cases.0 in
    omega (arith, f.long, c.in_default-split_first_chunk.ensures.cases))

pub returns-in_default-time_in-clause-only : goal.returns-in_default-time_in-clause-only
returns-in_default-time_in-clause-only c = only_of c.args.bytes.now (λ _. ⊥) (λ first later are coded.
    let f = fields c.args.bytes.now c.in-Some.head.now c.in-Some.body.now first later coded c.in-Some.ensures.cases.0 in
    let it = c.in_default-time_in.ensures.only first (All-head IsMoment first later are.moments) (c.in-Some-split_first_chunk.ensures.cases.0 ∙ f.time) in
    absurd (cc it))

pub returns-then-exponent-gt12-clause-only : goal.returns-then-exponent-gt12-clause-only
returns-then-exponent-gt12-clause-only c = only_of c.args.bytes.now (λ _. ⊥) (λ first later are coded.
    let f = fields c.args.bytes.now c.in-Some.head.now c.in-Some.body.now first later coded c.in-Some.ensures.cases.0 in
    omega (arith, f.low, coded.exponent_most, c.if-exponent-gt12.true))

pub returns-in-2-clause-found : goal.returns-in-2-clause-found
returns-in-2-clause-found c =
    let chunk = c.in-Some-split_first_chunk in
    also_found c.run_length_in.result
    (λ times. AreRead RunLength (c.in-Some.head.now % 16) c.in-Some-time_in.first chunk.rest.now times.items)
    (λ times. AreTimes times.items × (c.args.bytes.now ≡ coded_times times.items))
    (λ times read. are_coded c.args.bytes.now c.in-Some.head.now RunLength (c.in-Some.head.now % 16) c.in-Some-time_in.first chunk.rest.now times.items (omega arith)
    (whole_bytes c.args.bytes.now c.in-Some.head.now c.in-Some.body.now chunk.eight.now chunk.rest.now c.in-Some-time_in.first c.in-Some.ensures.cases.0 chunk.ensures.cases.0 chunk.ensures.cases.1 c.in-Some-time_in.ensures.found.1) read)
    c.run_length_in.ensures.found

pub returns-in-2-clause-only : goal.returns-in-2-clause-only
returns-in-2-clause-only c =
    let chunk = c.in-Some-split_first_chunk in
    only_form RunLength c.args.bytes.now c.in-Some.head.now c.in-Some.body.now chunk.eight.now chunk.rest.now c.in-Some-time_in.first
    (λ times. IfOk c.run_length_in.result (λ found. IsSomeAnd found (λ read. read.items ≡ times)))
    c.in-Some.ensures.cases.0 chunk.ensures.cases.1
    (λ first moment time. cc (c.in-Some-time_in.ensures.only first moment (chunk.ensures.cases.0 ∙ time)))
    c.run_length_in.ensures.only
    (λ coded high. (form_with (c.in-Some.head.now / 16) coded high).0 (omega arith))

pub returns-in-1-clause-found : goal.returns-in-1-clause-found
returns-in-1-clause-found c =
    let chunk = c.in-Some-split_first_chunk in
    also_found c.packed_in.result
    (λ times. AreRead Packed (c.in-Some.head.now % 16) c.in-Some-time_in.first chunk.rest.now times.items)
    (λ times. AreTimes times.items × (c.args.bytes.now ≡ coded_times times.items))
    (λ times read. are_coded c.args.bytes.now c.in-Some.head.now Packed (c.in-Some.head.now % 16) c.in-Some-time_in.first chunk.rest.now times.items (omega arith)
    (whole_bytes c.args.bytes.now c.in-Some.head.now c.in-Some.body.now chunk.eight.now chunk.rest.now c.in-Some-time_in.first c.in-Some.ensures.cases.0 chunk.ensures.cases.0 chunk.ensures.cases.1 c.in-Some-time_in.ensures.found.1) read)
    c.packed_in.ensures.found

pub returns-in-1-clause-only : goal.returns-in-1-clause-only
returns-in-1-clause-only c =
    let chunk = c.in-Some-split_first_chunk in
    only_form Packed c.args.bytes.now c.in-Some.head.now c.in-Some.body.now chunk.eight.now chunk.rest.now c.in-Some-time_in.first
    (λ times. IfOk c.packed_in.result (λ found. IsSomeAnd found (λ read. read.items ≡ times)))
    c.in-Some.ensures.cases.0 chunk.ensures.cases.1
    (λ first moment time. cc (c.in-Some-time_in.ensures.only first moment (chunk.ensures.cases.0 ∙ time)))
    c.packed_in.ensures.only
    (λ coded high. (form_with (c.in-Some.head.now / 16) coded high).1 (omega arith))

pub returns-in-0-clause-found : goal.returns-in-0-clause-found
returns-in-0-clause-found c =
    let chunk = c.in-Some-split_first_chunk in
    also_found c.raw_in.result
    (λ times. AreRead Raw (c.in-Some.head.now % 16) c.in-Some-time_in.first chunk.rest.now times.items)
    (λ times. AreTimes times.items × (c.args.bytes.now ≡ coded_times times.items))
    (λ times read. are_coded c.args.bytes.now c.in-Some.head.now Raw (c.in-Some.head.now % 16) c.in-Some-time_in.first chunk.rest.now times.items (omega arith)
    (whole_bytes c.args.bytes.now c.in-Some.head.now c.in-Some.body.now chunk.eight.now chunk.rest.now c.in-Some-time_in.first c.in-Some.ensures.cases.0 chunk.ensures.cases.0 chunk.ensures.cases.1 c.in-Some-time_in.ensures.found.1) read)
    c.raw_in.ensures.found

pub returns-in-0-clause-only : goal.returns-in-0-clause-only
returns-in-0-clause-only c =
    let chunk = c.in-Some-split_first_chunk in
    only_form Raw c.args.bytes.now c.in-Some.head.now c.in-Some.body.now chunk.eight.now chunk.rest.now c.in-Some-time_in.first
    (λ times. IfOk c.raw_in.result (λ found. IsSomeAnd found (λ read. read.items ≡ times)))
    c.in-Some.ensures.cases.0 chunk.ensures.cases.1
    (λ first moment time. cc (c.in-Some-time_in.ensures.only first moment (chunk.ensures.cases.0 ∙ time)))
    c.raw_in.ensures.only
    (λ coded high. (form_with (c.in-Some.head.now / 16) coded high).2 (omega arith))

pub returns-in_default-2-clause-only : goal.returns-in_default-2-clause-only
returns-in_default-2-clause-only c = only_of c.args.bytes.now (λ _. ⊥) (λ first later are coded.
    let f = fields c.args.bytes.now c.in-Some.head.now c.in-Some.body.now first later coded c.in-Some.ensures.cases.0 in
    omega (arith, (form_with (c.in-Some.head.now / 16) coded.form f.high).3))
