use Rattle.std.proofs.Common.{ℕ, false, List, ◌++◌, refl, sym, ap, subst, lit<, ◌∙◌}
use Rattle.std.specs.List.Sorted.{IsPermutation}
use Rattle.std.specs.Str.{IsUtf8}
use Rattle.std.proofs.lemmas.Bool.{false≢true}
use Rattle.std.proofs.lemmas.Str.{IsUtf8-append}
use Rattle.tsdb_types.specs.Series.{IsKeyOf}
use Rattle.line_protocol.specs.Heads.{measurement_of, tags_of}
use Rattle.line_protocol.specs.Parts.{parts_behind}
use Rattle.line_protocol.specs.Sorted.{texts_of, joined}
use Rattle.line_protocol.specs.Texts.{IsOneLine, StartsAscii}
use Rattle.line_protocol.specs.declared.sorted.Part.{Part}
use Rattle.line_protocol.proofs.SortedLemmas.{PartsAscend, ascend-differ, sorted-key, joined-utf8}
use Rattle.line_protocol.proofs.TextLemmas.{parts-line, rest-starts}
use Rattle.line_protocol.proofs.head.read_series.Goals as goal

pub sort_parts-requires-clause-start : goal.sort_parts-requires-clause-start
sort_parts-requires-clause-start c = subst (λ (t : List ℕ). StartsAscii t) (sym c.cut.ensures.rest) (rest-starts 44 false c.args.walk.now.head.now (lit< tt))

pub sort_parts-requires-clause-one_line : goal.sort_parts-requires-clause-one_line
sort_parts-requires-clause-one_line c = subst (λ (t : List ℕ). IsOneLine t) (sym c.cut.ensures.rest) (parts-line 44 c.args.walk.now.head.now (lit< tt) c.requires.one_line).1

pub returns-then-not-ascend-clause-refused : goal.returns-then-not-ascend-clause-refused
returns-then-not-ascend-clause-refused c =
    let parts = c.sort_parts.new.parts.items in
    let same = subst (λ (t : List ℕ). IsPermutation (parts_behind 44 t) (texts_of parts)) c.cut.ensures.rest c.in_ok-sort_parts.ensures.same in
    let both = ascend-differ c.args.walk.now.head.now parts same c.in_ok-sort_parts.ensures.cut c.in_ok-sort_parts.ensures.sorted in
    (refl, λ differ. false≢true (sym c.if-not-ascend.true ∙ c.ascend.ensures.1 (subst PartsAscend (sym c.as_slice.ensures.value) (both.1 differ))))

pub key_of-requires-2-clause-utf8 : goal.key_of-requires-2-clause-utf8
key_of-requires-2-clause-utf8 c =
    let parts = c.sort_parts.new.parts.items in
    let measurement = c.args.walk.now.measurement.now in
    let text = c.in_ok-text-2.ensures ∙ ap (λ (ps : List Part). measurement ++ joined (texts_of ps)) c.as_slice-2.ensures.value in
    let named : IsUtf8 measurement = subst (λ (t : List ℕ). IsUtf8 t) (sym c.requires.measurement) (parts-line 44 c.args.walk.now.head.now (lit< tt) c.requires.one_line).0.utf8 in
    subst (λ (t : List ℕ). IsUtf8 t) (sym text) (IsUtf8-append measurement (joined (texts_of parts)) named (joined-utf8 parts c.in_ok-sort_parts.ensures.utf8))

pub key_of-requires-2-clause-series : goal.key_of-requires-2-clause-series
key_of-requires-2-clause-series c =
    let parts = c.sort_parts.new.parts.items in
    let walk = c.args.walk.now in
    let text = c.in_ok-text-2.ensures ∙ ap (λ (ps : List Part). walk.measurement.now ++ joined (texts_of ps)) c.as_slice-2.ensures.value in
    let same = subst (λ (t : List ℕ). IsPermutation (parts_behind 44 t) (texts_of parts)) c.cut.ensures.rest c.in_ok-sort_parts.ensures.same in
    (sorted-key walk.head.now walk.measurement.now c.in_ok-text-2.text.items walk.ascend parts c.requires.named c.requires.spells same c.in_ok-sort_parts.ensures.cut (subst PartsAscend c.as_slice.ensures.value (c.ascend.ensures.0 c.if-not-ascend.false)) text).1

pub returns-clause-ok : goal.returns-clause-ok
returns-clause-ok c =
    let parts = c.sort_parts.new.parts.items in
    let walk = c.args.walk.now in
    let text = c.in_ok-text-2.ensures ∙ ap (λ (ps : List Part). walk.measurement.now ++ joined (texts_of ps)) c.as_slice-2.ensures.value in
    let same = subst (λ (t : List ℕ). IsPermutation (parts_behind 44 t) (texts_of parts)) c.cut.ensures.rest c.in_ok-sort_parts.ensures.same in
    subst (λ (key : List ℕ). IsKeyOf (measurement_of walk.head.now) (tags_of walk.head.now) key) (sym c.in_ok-key-2.ensures)
    (sorted-key walk.head.now walk.measurement.now c.in_ok-text-2.text.items walk.ascend parts c.requires.named c.requires.spells same c.in_ok-sort_parts.ensures.cut (subst PartsAscend c.as_slice.ensures.value (c.ascend.ensures.0 c.if-not-ascend.false)) text).0
