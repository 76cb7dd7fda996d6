use Rattle.std.proofs.Common.{length, map, sym, subst}
use Rattle.std.specs.Prelude.{IfOk}
use Rattle.tsdb_types.specs.declared.value.Kind.{Kind}
use Rattle.value_codec.specs.Coding.{IsSpelled}
use Rattle.value_codec.proofs.points.decode_points.Goals as goal

pub returns-in-Boolean-clause-found : goal.returns-in-Boolean-clause-found
returns-in-Boolean-clause-found c =
    subst (λ (k : Kind). IfOk c.boolean_points.result (λ points. IsSpelled k (length c.args.times.now) c.args.bytes.now (map (λ point. point.1) points.items))) (sym c.in-Boolean.is) c.boolean_points.ensures.found

pub returns-in-Boolean-clause-bad_block : goal.returns-in-Boolean-clause-bad_block
returns-in-Boolean-clause-bad_block c = λ bad values spelled.
    c.boolean_points.ensures.bad_block bad values (subst (λ (k : Kind). IsSpelled k (length c.args.times.now) c.args.bytes.now values) c.in-Boolean.is spelled)
