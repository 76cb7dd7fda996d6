use Rattle.std.proofs.Common.{inr, refl}
use Rattle.std.proofs.lemmas.List.Sorted.{IsPermutation-refl}
use Rattle.tsdb_types.proofs.TagLemmas.{differ_from_ascend}
use Rattle.line_protocol.specs.Heads.{tags_of}
use Rattle.line_protocol.proofs.line.without_field.Goals as goal

pub returns-then-walk : goal.returns-then-walk
returns-then-walk c =
    let tags = tags_of c.args.walk.now.head.now in
    inr (refl, differ_from_ascend tags tags (IsPermutation-refl tags) (c.requires.ascend c.if-walk.true))

pub returns-then-differ : goal.returns-then-differ
returns-then-differ c = inr (refl, c.in-Ok.ensures.0 c.if-differ.true)
