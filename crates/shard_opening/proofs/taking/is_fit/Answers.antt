-- The columns, the record and the kinds fit, or one of them doesn't.
use Rattle.std.proofs.Common.{◌≤◌, ℕ, List, sym, subst}
use Rattle.std.specs.List.{AllByRecursion}
use Rattle.std.proofs.lemmas.List.Elements.{All-from_recursion, recursion_from_All}
use Rattle.tsdb_types.specs.Columns.{columns_of}
use Rattle.tsdb_types.specs.declared.point.Point.{Point}
use Rattle.point_model.specs.Acceptance.{HasOneKind, IsKeyed, IsWritable}
use Rattle.point_model.specs.Sizes.{most_bytes, write_length}
use Rattle.shard_state.specs.Meaning.{AreHeld}
use Rattle.shard_opening.specs.Columns.{IsFit}
use Rattle.shard_opening.proofs.FitLemmas.{fit_of, held_of, if_ok_then, keyed_of, of_columns, of_points}
use Rattle.shard_opening.proofs.taking.is_fit.Goals as goal

-- a batch that fits has columns that fit
columns_fit : (held : List (List ℕ)) (points : List Point) → AreHeld held points → IsWritable points → AllByRecursion (IsFit held) (columns_of points)
columns_fit held points there writable = of_points (IsFit held) points (fit_of held points there (recursion_from_All IsKeyed points writable.keyed))

pub returns-then-not-columns_fit-clause-unfit : goal.returns-then-not-columns_fit-clause-unfit
returns-then-not-columns_fit-clause-unfit c = λ is fit.
    c.columns_fit.ensures.unfit c.if-not-columns_fit.true
    (subst (AllByRecursion (IsFit c.args.series.now.keys)) (sym c.columns.ensures) (columns_fit c.args.series.now.keys c.args.batch.now fit.0 fit.1))

pub returns-clause-fit : goal.returns-clause-fit
returns-clause-fit c =
    let held = c.args.series.now.keys in
    let batch = c.args.batch.now in
    let columns : AllByRecursion (IsFit held) (columns_of batch) = subst (AllByRecursion (IsFit held)) c.columns.ensures (c.columns_fit.ensures.fit c.if-not-columns_fit.false) in
    let each = of_columns (IsFit held) batch columns in
    let room : write_length batch ≤ most_bytes = subst (λ (l : List Point). write_length l ≤ most_bytes) c.points.ensures.points (c.has_room.ensures.room c.if-not-has_room.false) in
    if_ok_then c.has_one_kind.result
    (λ one kinds is. (
      held_of held batch each,
      record {
        one_kind = subst HasOneKind c.points-2.ensures.points (kinds is);
        keyed = All-from_recursion IsKeyed batch (keyed_of held batch each);
        fits = room;
      },
    ))
    c.has_one_kind.ensures.one

pub returns-clause-unfit : goal.returns-clause-unfit
returns-clause-unfit c =
    if_ok_then c.has_one_kind.result
    (λ one several is fit. several is (subst HasOneKind (sym c.points-2.ensures.points) fit.1.one_kind))
    c.has_one_kind.ensures.several
