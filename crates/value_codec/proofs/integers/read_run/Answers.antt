use Rattle.std.proofs.Common.{[], length, get_or, rules, sym, ◌∙◌, ap, arith, refl}
use Rattle.std.proofs.lemmas.Bool.{eqb-true, eqb-false}
use Rattle.std.proofs.lemmas.List.{append-nil, nil_from_length}
use Rattle.word_codec.specs.Uvarint.{uvarint}
use Rattle.value_codec.proofs.Tails.{run_first_fit, run_begins, run_goes_on, run_tells, read_as_run}
use Rattle.value_codec.proofs.integers.read_run.Goals.{then-times-count-via-then-times-count, then-times-count-via-else-times-count+then-count-eq0, then-times-count-via-else-times-count+else-count-eq0+then-not-is_empty}
use Rattle.value_codec.proofs.integers.read_run.Goals as goal

pub returns-in_default-clause-bad_block : goal.returns-in_default-clause-bad_block
returns-in_default-clause-bad_block c = λ _ other fits size spelled.
    c.in_default.ensures.none refl (get_or other 0 0) (uvarint (length other)) (run_first_fit other fits) (run_begins other c.args.bytes.now spelled)

pub returns-in_default-split_uvarint-clause-bad_block : goal.returns-in_default-split_uvarint-clause-bad_block
returns-in_default-split_uvarint-clause-bad_block c = λ _ other fits size spelled.
    let on = run_goes_on other c.args.bytes.now c.in-Some.behind.now c.in-Some.step c.in-Some.ensures.found spelled in
    c.in_default-split_uvarint.ensures.none refl (length other) [] (omega (arith, c.requires)) (sym on.1 ∙ sym (append-nil (uvarint (length other))))

pub returns-then-times-count-clause-bad_block : goal.returns-then-times-count-clause-bad_block
returns-then-times-count-clause-bad_block c = λ _ other fits size spelled.
    let tells = run_tells other c.args.bytes.now c.in-Some.behind.now c.in-Some-split_uvarint.after.now c.args.count c.in-Some.step c.in-Some-split_uvarint.times
    c.in-Some.ensures.found c.in-Some-split_uvarint.ensures.found fits size spelled in
    elim c.then-times-count.branch [
      | then-times-count-via-then-times-count w ↦ w.if-times-count.true tells.often
      | then-times-count-via-else-times-count+then-count-eq0 w ↦ omega (arith, tells.some, w.if-count-eq0.true)
      | then-times-count-via-else-times-count+else-count-eq0+then-not-is_empty w ↦
          eqb-false (length c.in-Some-split_uvarint.after.now) 0 (sym w.is_empty.ensures ∙ w.if-not-is_empty.true) (ap length tells.none)
    ]

pub returns-clause-found : goal.returns-clause-found
returns-clause-found c =
    read_as_run c.args.bytes.now c.in-Some.behind.now c.in-Some-split_uvarint.after.now c.in_ok-rest.rest.items c.args.count c.in-Some.step c.in-Some-split_uvarint.times
    c.in-Some.ensures.found c.in-Some-split_uvarint.ensures.found c.in-Some.ensures.fit c.if-times-count.false (omega (arith, c.if-count-eq0.false))
    (nil_from_length _ (eqb-true (length c.in-Some-split_uvarint.after.now) 0 (sym c.is_empty.ensures ∙ c.if-not-is_empty.false))) (search rules)
