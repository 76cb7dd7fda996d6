use Rattle.std.proofs.Common.{◌≡◌, ◌<◌, ℕ, length, rules, subst, sym, ◌∙◌, ap, arith, refl}
use Rattle.value_codec.specs.Steps.{tail_of, form_of, form_byte, FitsForm}
use Rattle.value_codec.proofs.Tails.{by_first, coded_steps-cons, parts_of, form_byte_apart, form_fits, big_endian_apart, joined}
use Rattle.value_codec.specs.declared.form.Form.{Form}
use Rattle.value_codec.proofs.integers.decode_steps.Goals as goal

pub returns-in_default-clause-bad_block : goal.returns-in_default-clause-bad_block
returns-in_default-clause-bad_block c = λ _ steps fit size spelled.
    by_first steps c.args.bytes.now c.args.count fit size spelled (λ first rest _ _ _ same.
    omega (arith, ap length (sym (coded_steps-cons first rest) ∙ same), c.in_default.ensures.cases))

pub returns-in_default-form_with-clause-bad_block : goal.returns-in_default-form_with-clause-bad_block
returns-in_default-form_with-clause-bad_block c = λ _ steps fit size spelled.
    by_first steps c.args.bytes.now c.args.count fit size spelled (λ first rest _ _ _ same.
    let parts = parts_of first rest c.args.bytes.now c.in-Some.head.now c.in-Some.behind.now same c.in-Some.ensures.cases.0 in
    c.in_default-form_with.ensures.none refl (form_of first rest) parts.form)

pub returns-in_default-split_first_chunk-clause-bad_block : goal.returns-in_default-split_first_chunk-clause-bad_block
returns-in_default-split_first_chunk-clause-bad_block c = λ _ steps fit size spelled.
    by_first steps c.args.bytes.now c.args.count fit size spelled (λ first rest _ _ _ same.
    let parts = parts_of first rest c.args.bytes.now c.in-Some.head.now c.in-Some.behind.now same c.in-Some.ensures.cases.0 in
    let short : length c.in-Some.behind.now < 8 = c.in_default-split_first_chunk.ensures.cases in
    omega (arith, parts.room, short))

pub returns-in_err-rest-clause-bad_block : goal.returns-in_err-rest-clause-bad_block
returns-in_err-rest-clause-bad_block c = λ bad steps fit size spelled.
    by_first steps c.args.bytes.now c.args.count fit size spelled (λ first rest _ rest-fit rest-size same.
    let parts = parts_of first rest c.args.bytes.now c.in-Some.head.now c.in-Some.behind.now same c.in-Some.ensures.cases.0 in
    let form : form_of first rest ≡ c.in-Some-form_with.form = form_byte_apart _ _ (parts.form ∙ sym c.in-Some-form_with.ensures.found) in
    let fits : FitsForm c.in-Some-form_with.form rest = subst (λ (f : Form). FitsForm f rest) form (form_fits first rest rest-fit) in
    c.in_err-rest.ensures.bad_block (search rules) rest fits rest-size
    (ap (λ (f : Form). tail_of f rest) (sym form) ∙ parts.tail ∙ sym c.in-Some-split_first_chunk.ensures.cases.1))

pub returns-then-byte_of-head-clause-bad_block : goal.returns-then-byte_of-head-clause-bad_block
returns-then-byte_of-head-clause-bad_block c = λ _ steps fit size spelled.
    by_first steps c.args.bytes.now c.args.count fit size spelled (λ first rest first-fit rest-fit rest-size same.
    let parts = parts_of first rest c.args.bytes.now c.in-Some.head.now c.in-Some.behind.now same c.in-Some.ensures.cases.0 in
    let form : form_of first rest ≡ c.in-Some-form_with.form = form_byte_apart _ _ (parts.form ∙ sym c.in-Some-form_with.ensures.found) in
    let fits : FitsForm c.in-Some-form_with.form rest = subst (λ (f : Form). FitsForm f rest) form (form_fits first rest rest-fit) in
    let rest-is : rest ≡ c.in_ok-rest.rest.items = c.in_ok-rest.ensures.found.only rest fits rest-size
    (ap (λ (f : Form). tail_of f rest) (sym form) ∙ parts.tail ∙ sym c.in-Some-split_first_chunk.ensures.cases.1) in
    let first-is : first ≡ c.word_from-first.result = big_endian_apart first c.word_from-first.result first-fit c.word_from-first.type_inv
    (parts.number ∙ sym c.in-Some-split_first_chunk.ensures.cases.0 ∙ sym c.word_from-first.ensures) in
    let here : form_of c.word_from-first.result c.as_slice.result.now ≡ form_of first rest =
    ap (λ (n : ℕ). form_of n c.as_slice.result.now) (sym first-is) ∙ ap (form_of first) (c.as_slice.ensures.value ∙ sym rest-is) in
    c.if-byte_of-head.true (c.byte_of.ensures ∙ ap form_byte (c.form_for.ensures ∙ here) ∙ parts.form))

pub returns-clause-found : goal.returns-clause-found
returns-clause-found c =
    let rest = c.in_ok-rest.rest.items in
    let first = c.word_from-first.result in
    let form : form_of first rest ≡ c.in-Some-form_with.form =
    form_byte_apart _ _ (ap form_byte (ap (form_of first) (sym c.as_slice.ensures.value) ∙ sym c.form_for.ensures) ∙ sym c.byte_of.ensures ∙ c.if-byte_of-head.false ∙ sym c.in-Some-form_with.ensures.found) in
    joined c.in-Some-form_with.form first rest c.args.bytes.now c.in-Some.head.now c.in-Some.behind.now form c.in-Some.ensures.cases.0 c.in-Some-form_with.ensures.found
    (c.word_from-first.ensures ∙ c.in-Some-split_first_chunk.ensures.cases.0) (c.in_ok-rest.ensures.found.spelled ∙ c.in-Some-split_first_chunk.ensures.cases.1)
