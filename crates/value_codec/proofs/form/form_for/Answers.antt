use Rattle.std.proofs.Common.{◌^◌, sym, ◌∙◌}
use Rattle.std.proofs.lemmas.Bool.{cond-true, cond-false, lt-ltb, le-ltb, and_left, and_right, and_from}
use Rattle.value_codec.proofs.Tails.{form_of-is}
use Rattle.value_codec.proofs.form.form_for.Goals as goal

pub returns-then-repeats : goal.returns-then-repeats
returns-then-repeats c = sym (form_of-is c.args.first c.args.rest.now ∙ cond-true _ _ _ (sym c.repeats.ensures ∙ c.if-repeats.true))

pub returns-then-first : goal.returns-then-first
returns-then-first c =
    sym (form_of-is c.args.first c.args.rest.now ∙ cond-false _ _ _ (sym c.repeats.ensures ∙ c.if-repeats.false)
    ∙ cond-false _ _ _ (and_left _ _ (le-ltb c.args.first (2 ^ 60) c.if-first.true)))

pub returns-then-are_narrow : goal.returns-then-are_narrow
returns-then-are_narrow c =
    sym (form_of-is c.args.first c.args.rest.now ∙ cond-false _ _ _ (sym c.repeats.ensures ∙ c.if-repeats.false)
    ∙ cond-true _ _ _ (and_from _ _ (lt-ltb c.args.first (2 ^ 60) c.if-first.false) (sym c.are_narrow.ensures ∙ c.if-are_narrow.true)))

pub returns : goal.returns
returns c =
    sym (form_of-is c.args.first c.args.rest.now ∙ cond-false _ _ _ (sym c.repeats.ensures ∙ c.if-repeats.false)
    ∙ cond-false _ _ _ (and_right _ _ (sym c.are_narrow.ensures ∙ c.if-are_narrow.false)))
