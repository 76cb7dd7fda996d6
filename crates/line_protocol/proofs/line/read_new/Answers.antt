use Rattle.std.proofs.Common.{◌≡◌, ◌≢◌, ℕ, [], false, List, Ok, Err, sym, ap, ◌∙◌}
use Rattle.std.proofs.lemmas.Result.{err_from_is_err_and}
use Rattle.tsdb_types.specs.Series.{measurement_ends_at}
use Rattle.tsdb_types.specs.Spelled.{unescaped}
use Rattle.line_protocol.specs.Kinds.{seen_of}
use Rattle.line_protocol.specs.Parts.{front, rest, unspaced}
use Rattle.line_protocol.proofs.LineLemmas.{head-faulty, line-unfilled, line-twice, filled-ok, filled-refused, filled-some, filled-none, unspaced-some}
use Rattle.line_protocol.proofs.TextLemmas.{head-line, line-fields, measurement-spelling}
use Rattle.line_protocol.proofs.line.read_new.Goals as goal

pub without_field-requires-clause-one_line : goal.without_field-requires-clause-one_line
without_field-requires-clause-one_line c = head-line c.args.line.now c.in-Ok.walk.head.now c.requires c.in-Ok.ensures.ok.head_is

pub read_series-requires-clause-one_line : goal.read_series-requires-clause-one_line
read_series-requires-clause-one_line c = head-line c.args.line.now c.in-Ok.walk.head.now c.requires c.in-Ok.ensures.ok.head_is

pub read_series-requires-clause-named : goal.read_series-requires-clause-named
read_series-requires-clause-named c =
    let some = filled-some c.without_spaces-text.result.now (sym c.is_empty.ensures ∙ c.if-is_empty.false) in
    let something : c.in-Ok.walk.behind.now ≢ [] = λ none. some (c.without_spaces-text.ensures ∙ ap unspaced none) in
    c.in-Ok.ensures.ok.named something

pub returns-in-Err-clause-refused : goal.returns-in-Err-clause-refused
returns-in-Err-clause-refused c = head-faulty (seen_of c.args.reader.now.kinds) c.args.moment c.args.line.now c.in-Err.code (sym c.in-Err.ensures.refused)

pub returns-then-is_empty-clause-refused : goal.returns-then-is_empty-clause-refused
returns-then-is_empty-clause-refused c =
    let walk = c.in-Ok.ensures.ok in
    let behind = c.without_spaces-text.ensures ∙ ap unspaced walk.behind_is in
    let none : c.without_spaces-text.result.now ≡ [] = filled-none c.without_spaces-text.result.now (sym c.is_empty.ensures ∙ c.if-is_empty.true) in
    line-unfilled (seen_of c.args.reader.now.kinds) c.args.moment c.args.line.now c.in-Ok.walk.head.now (front 32 false c.without_spaces-text.result.now) c.without_field.result
    (sym walk.sound) walk.head_is (ap (λ (t : List ℕ). front 32 false t) behind) (ap (λ (t : List ℕ). front 32 false t) none) c.without_field.ensures

pub returns-in_err-series-in-Ok-clause-refused : goal.returns-in_err-series-in-Ok-clause-refused
returns-in_err-series-in-Ok-clause-refused c =
    let walk = c.in-Ok.ensures.ok in
    let p = err_from_is_err_and c.from_residual.result c.from_residual.ensures.1 in
    rw (p.1, p.2) (line-twice (seen_of c.args.reader.now.kinds) c.args.moment c.args.line.now c.in-Ok.walk.head.now _ (sym walk.sound) walk.head_is c.in_err-series-in-Ok.ensures.refused)

pub invariant_of-known : goal.invariant_of-known
invariant_of-known c =
    let walk = c.in-Ok.ensures.ok in
    let some = filled-some c.without_spaces-text.result.now (sym c.is_empty.ensures ∙ c.if-is_empty.false) in
    let something : c.in-Ok.walk.behind.now ≢ [] = λ none. some (c.without_spaces-text.ensures ∙ ap unspaced none) in
    record {
      sound = walk.sound;
      measurement_is = walk.measurement_is;
      spelling = measurement-spelling c.args.line.now c.in-Ok.walk.head.now c.in-Ok.walk.measurement.now c.in-Ok.walk.ascend c.requires walk.head_is walk.measurement_is (walk.named something);
      key = c.in_ok-series-in-Ok.ensures.ok;
      reserves = walk.reserves;
      marks = c.is_marked.ensures;
    }

pub invariant_of-known-in-Ok : goal.invariant_of-known-in-Ok
invariant_of-known-in-Ok c =
    let walk = c.in-Ok.ensures.ok in
    let some = filled-some c.without_spaces-text.result.now (sym c.is_empty.ensures ∙ c.if-is_empty.false) in
    let something : c.in-Ok.walk.behind.now ≢ [] = λ none. some (c.without_spaces-text.ensures ∙ ap unspaced none) in
    record {
      sound = walk.sound;
      measurement_is = walk.measurement_is;
      spelling = measurement-spelling c.args.line.now c.in-Ok.walk.head.now c.in-Ok.walk.measurement.now c.in-Ok.walk.ascend c.requires walk.head_is walk.measurement_is (walk.named something);
      key = c.in_ok-series-in-Ok.ensures.ok;
      reserves = walk.reserves;
      marks = c.is_marked.ensures;
    }

pub read_behind-requires : goal.read_behind-requires
read_behind-requires c = record {
  one_line =
      line-fields c.args.line.now (front 32 false c.without_spaces-text.result.now) c.requires
      (ap (λ (t : List ℕ). front 32 false t) (c.without_spaces-text.ensures ∙ ap unspaced c.in-Ok.ensures.ok.behind_is));
}

pub returns-in_err-read_behind-in-Ok-clause-refused : goal.returns-in_err-read_behind-in-Ok-clause-refused
returns-in_err-read_behind-in-Ok-clause-refused c =
    let walk = c.in-Ok.ensures.ok in
    let text = c.without_spaces-text.result.now in
    let behind = c.without_spaces-text.ensures ∙ ap unspaced walk.behind_is in
    let p = err_from_is_err_and c.from_residual-in_err-read_behind-in-Ok.result c.from_residual-in_err-read_behind-in-Ok.ensures.1 in
    rw (p.1, p.2)
    (filled-refused (Err _) (seen_of c.args.reader.now.kinds) c.args.moment c.args.line.now c.in-Ok.walk.head.now (front 32 false text) (unspaced (rest 32 false text))
    (unescaped measurement_ends_at c.in-Ok.walk.measurement.now) c.in-Ok.walk.reserved c.in_ok-series-in-Ok.series
    (sym walk.sound) walk.head_is (ap (λ (t : List ℕ). front 32 false t) behind)
    (unspaced-some c.in-Ok.walk.behind.now text c.without_spaces-text.ensures (sym c.is_empty.ensures ∙ c.if-is_empty.false))
    (ap (λ (t : List ℕ). unspaced (rest 32 false t)) behind)
    (record { measurement_is = ap (λ (t : List ℕ). unescaped measurement_ends_at t) walk.measurement_is; reserved_is = walk.reserves; key = c.in_ok-series-in-Ok.ensures.ok })
    c.in_err-read_behind-in-Ok.ensures.refused)

pub returns-in_ok-keep-in-Ok-clause-ok : goal.returns-in_ok-keep-in-Ok-clause-ok
returns-in_ok-keep-in-Ok-clause-ok c =
    let walk = c.in-Ok.ensures.ok in
    let text = c.without_spaces-text.result.now in
    let behind = c.without_spaces-text.ensures ∙ ap unspaced walk.behind_is in
    filled-ok (Ok c.in_ok-read_behind-in-Ok.field-0) (seen_of c.args.reader.now.kinds) (seen_of c.read_behind.new.kinds) c.args.moment c.args.line.now c.in-Ok.walk.head.now (front 32 false text) (unspaced (rest 32 false text))
    (unescaped measurement_ends_at c.in-Ok.walk.measurement.now) c.in-Ok.walk.reserved c.in_ok-series-in-Ok.series c.args.points.now c.read_behind.new.points
    (sym walk.sound) walk.head_is (ap (λ (t : List ℕ). front 32 false t) behind)
    (unspaced-some c.in-Ok.walk.behind.now text c.without_spaces-text.ensures (sym c.is_empty.ensures ∙ c.if-is_empty.false))
    (ap (λ (t : List ℕ). unspaced (rest 32 false t)) behind)
    (record { measurement_is = ap (λ (t : List ℕ). unescaped measurement_ends_at t) walk.measurement_is; reserved_is = walk.reserves; key = c.in_ok-series-in-Ok.ensures.ok })
    c.in_ok-read_behind-in-Ok.ensures.ok
