use Rattle.std.proofs.Common.{get_or, map, sym, ◌∙◌, ap, arith, subst}
use Rattle.tsdb_types.specs.declared.value.Kind.{Kind}
use Rattle.value_codec.specs.Coding.{coded_as, truth_of, IsSpelled}
use Rattle.value_codec.proofs.OfKinds.{all_three, coded_booleans-is, boolean_range}
use Rattle.std.proofs.lemmas.List.{length-map}
use Rattle.std.proofs.lemmas.Result.{IfOk-weaker}
use Rattle.value_codec.proofs.decoder.decode.Goals as goal

pub returns-in-Boolean-clause-found : goal.returns-in-Boolean-clause-found
returns-in-Boolean-clause-found c =
    all_three c.decode_booleans.result _ _ _ _
    (λ values spelled size alike. subst (λ (k : Kind). IsSpelled k c.args.n c.args.bytes.now values.items) (sym c.in-Boolean.is)
    (record { alike = alike; size = size; some = omega (arith, c.if-n-eq0.false); most = c.if-n-gt1000.false; spelled = coded_booleans-is values.items ∙ spelled }))
    c.decode_booleans.ensures.found c.decode_booleans.ensures.size c.decode_booleans.ensures.kind

pub returns-in-Boolean-clause-bad_block : goal.returns-in-Boolean-clause-bad_block
returns-in-Boolean-clause-bad_block c = λ bad values spelled.
    c.decode_booleans.ensures.bad_block bad (map truth_of values) (length-map values truth_of ∙ spelled.size)
    (sym (coded_booleans-is values) ∙ ap (λ (k : Kind). coded_as k values) (sym c.in-Boolean.is) ∙ spelled.spelled)

pub returns-in-Boolean-clause-range : goal.returns-in-Boolean-clause-range
returns-in-Boolean-clause-range c =
    IfOk-weaker c.decode_booleans.result _ _ (λ values alike k d below. boolean_range (get_or values.items k d) (alike k d below)) c.decode_booleans.ensures.kind
