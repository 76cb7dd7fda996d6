use Rattle.std.proofs.Common.{◌≡◌, ℕ, ◌+◌, inl, inr, List, [], ◌∷◌, length, Ok, Err, refl, sym, ap, subst, ◌∙◌, lit≤, arith}
use Rattle.std.proofs.lemmas.List.{nil_from_length}
use Rattle.tsdb_types.specs.declared.point.Point.{Point}
use Rattle.line_protocol.specs.declared.fault.LineFault.{LineFault}
use Rattle.line_protocol.specs.Batches.{Points, FaultGives, fault_of, lines_of, line_count, points_before, LinesAre, TextIs, BatchIs}
use Rattle.line_protocol.specs.Kinds.{Seen, seen_of, nothing_seen}
use Rattle.line_protocol.specs.Lines.{AnyLineIs}
use Rattle.line_protocol.specs.Parts.{line_front, lines_behind, trimmed}
use Rattle.line_protocol.specs.Texts.{IsOneLine}
use Rattle.line_protocol.proofs.BatchLemmas.{points_before-nil, points_before-both, points_before-end, lines-cut, lines-read, last-read, line-refused, same, fault-lines}
use Rattle.line_protocol.proofs.CountLemmas.{line_count-step, line_count-last, one-more, none-more, not-last, lines-few, fits, fault-counted}
use Rattle.line_protocol.proofs.KindLemmas.{seen-same}
use Rattle.line_protocol.proofs.PartLemmas.{line_rest-le}
use Rattle.line_protocol.proofs.TextLemmas.{line-read, next-lines}
use Rattle.line_protocol.proofs.batch.read_lines.Goals as goal

pub lines-init : goal.lines-init
lines-init c =
    let bytes = c.args.bytes.now in
    let moment = c.args.moment in
    let nothing : seen_of c.new-reader.result.kinds ≡ nothing_seen = seen-same (seen_of c.new-reader.result.kinds) nothing_seen c.new-reader.ensures in
    record {
      whole = λ others are.
          subst (λ (r : Points). TextIs bytes moment r) (sym (ap (λ (ps : List Point). points_before ps others) c.new-points.ensures ∙ points_before-nil others))
          (subst (λ (s : Seen). LinesAre moment (lines_of bytes) 1 s others) nothing are);
      counted = refl;
      most = lit≤ tt;
      last = λ late. absurd (omega (arith, late));
      utf8 = c.requires.utf8;
    }

pub read_any_line-requires : goal.read_any_line-requires
read_any_line-requires c =
    let first : c.trimmed.result.now ≡ trimmed (line_front c.lines.left.now) = c.trimmed.ensures ∙ ap (λ (t : List ℕ). trimmed t) c.cut_line.ensures.front in
    subst (λ (t : List ℕ). IsOneLine t) (sym first) (line-read c.lines.left.now c.lines.invariant.utf8)

pub lines-preserved : goal.lines-preserved
lines-preserved c =
    let moment = c.args.moment in
    let at = c.lines in
    let line = c.cut_line.result.0.now in
    let rest = c.cut_line.result.1.now in
    let behind = c.in-Some.behind.now in
    let first = lines-cut at.left.now line rest c.cut_line.ensures.front c.cut_line.ensures.rest in
    let next : lines_of at.left.now ≡ line ∷ lines_of behind = first ∙ ap (λ (t : List ℕ). line ∷ lines_behind t) c.in-Some.ensures.cases.0 in
    let began = sym c.cut_line.ensures.rest ∙ c.in-Some.ensures.cases.0 in
    let low = not-last at.number at.left.now c.in-Some._newline.now behind began at.invariant.last in
    let added = c.in-Ok.ensures.ok in
    let after = seen_of c.read_any_line.new.reader.kinds in
    let is = subst (λ (t : List ℕ). AnyLineIs (seen_of at.reader.kinds) moment t (Ok (record { points = added.0; seen = after }))) c.trimmed.ensures added.2 in
    record {
      whole = λ others are.
          subst (λ (r : Points). TextIs c.args.bytes.now moment r) (points_before-both at.points added.0 others ∙ ap (λ (ps : List Point). points_before ps others) (sym added.1))
          (at.invariant.whole (points_before added.0 others) (lines-read moment at.left.now line behind at.number (seen_of at.reader.kinds) after added.0 others next is are));
      counted = omega (arith, at.invariant.counted, line_count-step at.left.now c.in-Some._newline.now behind began);
      most = omega (arith, low);
      last = λ late. none-more at.number behind (sym c.is_one_more.ensures ∙ c.if-is_one_more.false) (omega (arith, low, late));
      utf8 = next-lines at.left.now _ behind at.invariant.utf8 (sym c.cut_line.ensures.rest ∙ c.in-Some.ensures.cases.0);
    }

pub lines-smaller : goal.lines-smaller
lines-smaller c = omega (arith, ap (λ (t : List ℕ). length t) c.cut_line.ensures.rest, line_rest-le c.lines.left.now, c.in-Some.ensures.cases.1)

pub fault_at-requires : goal.fault_at-requires
fault_at-requires c = c.lines.invariant.most

pub overflow_add-number : goal.overflow_add-number
overflow_add-number c = omega (arith, c.lines.invariant.most)

pub returns-then-is_one_more : goal.returns-then-is_one_more
returns-then-is_one_more c =
    let at = c.lines in
    let behind = c.in-Some.behind.now in
    let more = one-more at.number behind (sym c.is_one_more.ensures ∙ c.if-is_one_more.true) in
    let step = line_count-step at.left.now c.in-Some._newline.now behind (sym c.cut_line.ensures.rest ∙ c.in-Some.ensures.cases.0) in
    subst (λ (f : LineFault). FaultGives f (BatchIs c.args.bytes.now c.args.moment)) (sym c.too_long.ensures)
    (inl (inr (omega (arith, at.invariant.counted, more.0, more.1, step)), refl))

pub returns-in-Err : goal.returns-in-Err
returns-in-Err c =
    let moment = c.args.moment in
    let at = c.lines in
    let line = c.cut_line.result.0.now in
    let rest = c.cut_line.result.1.now in
    let first = lines-cut at.left.now line rest c.cut_line.ensures.front c.cut_line.ensures.rest in
    fault-counted c.fault_at.result c.args.bytes.now moment (fault_of c.in-Err.refusal at.number) (at.number + line_count at.left.now)
    c.fault_at.ensures.long c.fault_at.ensures.fits at.invariant.counted c.requires.few
    (fault-lines c.in-Err.refusal at.number (λ code. AnyLineIs (seen_of at.reader.kinds) moment c.trimmed.result.now (Err code)) (TextIs c.args.bytes.now moment)
    (λ code is.
    at.invariant.whole (Err (same code at.number))
    (line-refused moment at.left.now line (lines_behind rest) at.number (seen_of at.reader.kinds) code first
    (subst (λ (t : List ℕ). AnyLineIs (seen_of at.reader.kinds) moment t (Err code)) c.trimmed.ensures is)))
    c.in-Err.ensures.refused)

pub returns-in-None : goal.returns-in-None
returns-in-None c =
    let moment = c.args.moment in
    let at = c.lines in
    let line = c.cut_line.result.0.now in
    let rest = c.cut_line.result.1.now in
    let first = lines-cut at.left.now line rest c.cut_line.ensures.front c.cut_line.ensures.rest in
    let last : lines_of at.left.now ≡ line ∷ [] = first ∙ ap (λ (t : List ℕ). line ∷ lines_behind t) (nil_from_length rest c.in-None.ensures.cases) in
    let added = c.in-Ok.ensures.ok in
    let is = subst (λ (t : List ℕ). AnyLineIs (seen_of at.reader.kinds) moment t (Ok (record { points = added.0; seen = seen_of c.read_any_line.new.reader.kinds }))) c.trimmed.ensures added.2 in
    let one = line_count-last at.left.now (sym c.cut_line.ensures.rest ∙ nil_from_length rest c.in-None.ensures.cases) in
    let few = lines-few at.number at.left.now (line_count c.args.bytes.now) at.invariant.counted at.invariant.most at.invariant.last one in
    inr (
      fits c.args.bytes.now c.requires.few few,
      subst (λ (r : Points). TextIs c.args.bytes.now moment r) (points_before-end at.points added.0 ∙ ap (λ (ps : List Point). let r : Points = Ok ps in r) (sym added.1))
          (at.invariant.whole (points_before added.0 (Ok [])) (last-read moment at.left.now line at.number (seen_of at.reader.kinds) (seen_of c.read_any_line.new.reader.kinds) added.0 last is)),
    )
