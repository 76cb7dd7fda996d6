use Rattle.std.proofs.Common.{◌≡◌, false, length}
use Rattle.line_protocol.specs.Fields.{fields_of, prefixed, fields_spelled}
use Rattle.line_protocol.specs.Parts.{front, rest, parts}
use Rattle.line_protocol.specs.Texts.{IsOneLine}
use Rattle.line_protocol.proofs.field.read_fields.Given as goal

abbrev pub invariant-parts : goal.invariant-parts
invariant-parts l = record {
  read : prefixed (fields_spelled l.fields.items) (fields_of (parts 44 false (front 32 false l.left))) ≡ fields_of (parts 44 false (front 32 false l.text));
  behind : rest 32 false l.left ≡ rest 32 false l.text;
  one_line : IsOneLine (front 32 false l.left);
}

abbrev pub decreases-parts : goal.decreases-parts
decreases-parts l = length l.left
