use Rattle.std.proofs.Common.{◌≡◌, ℕ, [], false, List, inr, refl, sym, ap, subst, ◌∙◌}
use Rattle.tsdb_types.specs.Series.{measurement_ends_at}
use Rattle.tsdb_types.specs.Spelled.{unescaped}
use Rattle.tsdb_types.proofs.TagLemmas.{differ_from_ascend}
use Rattle.line_protocol.specs.declared.fault.LineCode.TheVariants.{NoField}
use Rattle.line_protocol.specs.declared.fault.Refusal.TheVariants.{Code}
use Rattle.line_protocol.specs.Heads.{tags_of}
use Rattle.line_protocol.specs.Kinds.{seen_of}
use Rattle.line_protocol.specs.Known.{KnownHead, IsKnown}
use Rattle.line_protocol.specs.Parts.{front, rest, unspaced}
use Rattle.line_protocol.proofs.LineLemmas.{line-unfilled, filled-ok, filled-refused, filled-none, unspaced-some}
use Rattle.line_protocol.proofs.TextLemmas.{line-fields}
use Rattle.line_protocol.proofs.line.read_line.Goals as goal

pub returns-then-is_empty-clause-refused : goal.returns-then-is_empty-clause-refused
returns-then-is_empty-clause-refused c =
    let known = c.in-Some.known.now in
    let is = subst (λ (k : KnownHead). IsKnown k) c.known.view_is c.known.invariant in
    let head : known.head ≡ front 32 false c.args.line.now = c.in-Some.ensures ∙ c.cut.ensures.front in
    let text = c.without_spaces-text.result.now in
    let behind = c.without_spaces-text.ensures ∙ ap unspaced c.cut.ensures.rest in
    let none : text ≡ [] = filled-none text (sym c.is_empty.ensures ∙ c.if-is_empty.true) in
    line-unfilled (seen_of c.args.reader.now.kinds) c.args.moment c.args.line.now known.head (front 32 false text) (Code NoField)
    (sym is.sound) head (ap (λ (t : List ℕ). front 32 false t) behind) (ap (λ (t : List ℕ). front 32 false t) none)
    (inr (refl, differ_from_ascend (tags_of known.head) is.key.sorted is.key.same is.key.ascend))

pub read_behind-requires : goal.read_behind-requires
read_behind-requires c = record {
  one_line =
      line-fields c.args.line.now (front 32 false c.without_spaces-text.result.now) c.requires
      (ap (λ (t : List ℕ). front 32 false t) (c.without_spaces-text.ensures ∙ ap unspaced c.cut.ensures.rest));
}

pub returns-else-is_empty-clause-ok : goal.returns-else-is_empty-clause-ok
returns-else-is_empty-clause-ok c =
    let known = c.in-Some.known.now in
    let is = subst (λ (k : KnownHead). IsKnown k) c.known.view_is c.known.invariant in
    let head : known.head ≡ front 32 false c.args.line.now = c.in-Some.ensures ∙ c.cut.ensures.front in
    let text = c.without_spaces-text.result.now in
    let behind = c.without_spaces-text.ensures ∙ ap unspaced c.cut.ensures.rest in
    filled-ok c.read_behind.result (seen_of c.args.reader.now.kinds) (seen_of c.read_behind.new.kinds) c.args.moment c.args.line.now known.head (front 32 false text) (unspaced (rest 32 false text))
    (unescaped measurement_ends_at known.measurement) known.reserved known.series c.args.points.now c.read_behind.new.points
    (sym is.sound) head (ap (λ (t : List ℕ). front 32 false t) behind)
    (unspaced-some c.cut.result.1.now text c.without_spaces-text.ensures (sym c.is_empty.ensures ∙ c.if-is_empty.false))
    (ap (λ (t : List ℕ). unspaced (rest 32 false t)) behind)
    (record { measurement_is = ap (λ (t : List ℕ). unescaped measurement_ends_at t) is.measurement_is; reserved_is = is.reserves; key = is.key })
    c.read_behind.ensures.ok

pub returns-else-is_empty-clause-refused : goal.returns-else-is_empty-clause-refused
returns-else-is_empty-clause-refused c =
    let known = c.in-Some.known.now in
    let is = subst (λ (k : KnownHead). IsKnown k) c.known.view_is c.known.invariant in
    let head : known.head ≡ front 32 false c.args.line.now = c.in-Some.ensures ∙ c.cut.ensures.front in
    let text = c.without_spaces-text.result.now in
    let behind = c.without_spaces-text.ensures ∙ ap unspaced c.cut.ensures.rest in
    filled-refused c.read_behind.result (seen_of c.args.reader.now.kinds) c.args.moment c.args.line.now known.head (front 32 false text) (unspaced (rest 32 false text))
    (unescaped measurement_ends_at known.measurement) known.reserved known.series
    (sym is.sound) head (ap (λ (t : List ℕ). front 32 false t) behind)
    (unspaced-some c.cut.result.1.now text c.without_spaces-text.ensures (sym c.is_empty.ensures ∙ c.if-is_empty.false))
    (ap (λ (t : List ℕ). unspaced (rest 32 false t)) behind)
    (record { measurement_is = ap (λ (t : List ℕ). unescaped measurement_ends_at t) is.measurement_is; reserved_is = is.reserves; key = is.key })
    c.read_behind.ensures.refused
