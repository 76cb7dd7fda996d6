use Rattle.std.proofs.Common.{◌≡◌, ◌+◌, ◌<◌, ◌≤◌, [], length}
use Rattle.line_protocol.specs.Batches.{Points, lines_of, line_count, points_before, LinesAre, TextIs}
use Rattle.line_protocol.specs.Kinds.{seen_of}
use Rattle.std.specs.Str.{IsUtf8}
use Rattle.line_protocol.proofs.batch.read_lines.Given as goal

-- whatever the lines that are left are read to completes the whole; those before are counted, and none is left behind the last that there may be
abbrev pub invariant-lines : goal.invariant-lines
invariant-lines l = record {
  whole : (others : Points) → LinesAre l.moment (lines_of l.left) l.number (seen_of l.reader.kinds) others → TextIs l.bytes l.moment (points_before l.points others);
  counted : l.number + line_count l.left ≡ 1 + line_count l.bytes;
  most : l.number ≤ 5001;
  last : 5000 < l.number → l.left ≡ [];
  utf8 : IsUtf8 l.left;
}

abbrev pub decreases-lines : goal.decreases-lines
decreases-lines l = length l.left
