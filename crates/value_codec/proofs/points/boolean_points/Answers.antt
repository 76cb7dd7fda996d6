use Rattle.std.proofs.Common.{◌≡◌, get_or, length, map, rules, sym, ◌∙◌, ap, subst}
use Rattle.std.specs.Prelude.{All}
use Rattle.std.proofs.lemmas.List.{length-map}
use Rattle.tsdb_types.specs.declared.value.Kind.TheVariants.{Boolean}
use Rattle.value_codec.specs.Coding.{truth_of, IsSpelled, IsInRange}
use Rattle.value_codec.proofs.OfKinds.{coded_booleans-is, boolean_range}
use Rattle.value_codec.proofs.points.boolean_points.Goals as goal

pub returns-in_err-values-clause-bad_block : goal.returns-in_err-values-clause-bad_block
returns-in_err-values-clause-bad_block c = λ bad values spelled.
    c.in_err-values.ensures.bad_block (search rules) (map truth_of values) (length-map values truth_of ∙ spelled.size) (sym (coded_booleans-is values) ∙ spelled.spelled)

pub joined-requires : goal.joined-requires
joined-requires c = sym (ap length c.as_slice.ensures.value ∙ c.in_ok-values.ensures.size)

pub returns-clause-found : goal.returns-clause-found
returns-clause-found c =
    let values = c.in_ok-values.values.items in
    let are : map (λ point. point.1) c.in_ok-points.points.items ≡ values = c.in_ok-points.ensures.values ∙ c.as_slice.ensures.value in
    subst (IsSpelled Boolean (length c.args.times.now) c.args.bytes.now) (sym are)
    (record { alike = c.in_ok-values.ensures.kind; size = c.in_ok-values.ensures.size; some = c.requires.some; most = c.requires.most; spelled = coded_booleans-is values ∙ c.in_ok-values.ensures.found })

pub returns-clause-range : goal.returns-clause-range
returns-clause-range c =
    let values = c.in_ok-values.values.items in
    let are : map (λ point. point.1) c.in_ok-points.points.items ≡ values = c.in_ok-points.ensures.values ∙ c.as_slice.ensures.value in
    subst (All IsInRange) (sym are) (λ k d below. boolean_range (get_or values k d) (c.in_ok-values.ensures.kind k d below))
