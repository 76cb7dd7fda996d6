use Rattle.std.proofs.Common.{◌≡◌, drop}
use Rattle.std.specs.Str.{bytes_eq}
use Rattle.tsdb_types.specs.Series.{tag_ends_at}
use Rattle.tsdb_types.specs.Spelled.{unescaped}
use Rattle.point_model.proofs.tags.spells.Given as goal

-- what is left of the part spells what is left of the text where the whole does
abbrev pub invariant-loop-byte : goal.invariant-loop-byte
invariant-loop-byte l =
    bytes_eq (unescaped tag_ends_at l.left) (drop l.byte-index l.text) ≡ bytes_eq (unescaped tag_ends_at l.part) l.text
