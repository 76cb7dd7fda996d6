use Rattle.std.proofs.Common.{◌≡◌, ◌++◌, length}
use Rattle.std.specs.List.{All}
use Rattle.std.specs.Str.{IsUtf8}
use Rattle.line_protocol.specs.Parts.{parts_behind}
use Rattle.line_protocol.specs.Sorted.{texts_of, AreCut}
use Rattle.line_protocol.specs.Texts.{IsOneLine, StartsAscii}
use Rattle.line_protocol.proofs.sorted.read_parts.Given as goal

abbrev pub invariant-tags : goal.invariant-tags
invariant-tags l = record {
  texts : texts_of l.parts.items ++ parts_behind 44 l.left ≡ parts_behind 44 l.text;
  cut : AreCut l.parts.items;
  utf8 : All (λ part. IsUtf8 part.text.now) l.parts.items;
  start : StartsAscii l.left;
  one_line : IsOneLine l.left;
}

abbrev pub decreases-tags : goal.decreases-tags
decreases-tags l = length l.left
