use Rattle.std.proofs.Common.{ℕ, false, List, sym, subst, lit<}
use Rattle.std.specs.List.Sorted.{IsPermutation}
use Rattle.line_protocol.specs.Parts.{parts_behind}
use Rattle.line_protocol.specs.Sorted.{texts_of}
use Rattle.line_protocol.specs.Texts.{IsOneLine, StartsAscii}
use Rattle.line_protocol.proofs.SortedLemmas.{PartsAscend, ascend-differ}
use Rattle.line_protocol.proofs.TextLemmas.{parts-line, rest-starts}
use Rattle.line_protocol.proofs.head.keys_differ.Goals as goal

pub sort_parts-requires-clause-start : goal.sort_parts-requires-clause-start
sort_parts-requires-clause-start c = subst (λ (t : List ℕ). StartsAscii t) (sym c.cut.ensures.rest) (rest-starts 44 false c.args.head.now (lit< tt))

pub sort_parts-requires-clause-one_line : goal.sort_parts-requires-clause-one_line
sort_parts-requires-clause-one_line c = subst (λ (t : List ℕ). IsOneLine t) (sym c.cut.ensures.rest) (parts-line 44 c.args.head.now (lit< tt) c.requires).1

pub returns : goal.returns
returns c =
    let parts = c.sort_parts.new.parts.items in
    let same = subst (λ (t : List ℕ). IsPermutation (parts_behind 44 t) (texts_of parts)) c.cut.ensures.rest c.in_ok-sort_parts.ensures.same in
    let both = ascend-differ c.args.head.now parts same c.in_ok-sort_parts.ensures.cut c.in_ok-sort_parts.ensures.sorted in (
      λ is. both.0 (subst PartsAscend c.as_slice.ensures.value (c.ascend.ensures.0 is)),
      λ differ. c.ascend.ensures.1 (subst PartsAscend (sym c.as_slice.ensures.value) (both.1 differ)),
    )
