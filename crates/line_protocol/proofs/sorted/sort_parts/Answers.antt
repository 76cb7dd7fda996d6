use Rattle.std.proofs.Common.{◌≡◌, ℕ, List, subst}
use Rattle.std.specs.Str.{IsUtf8}
use Rattle.std.specs.List.Sorted.{IsPermutation}
use Rattle.std.proofs.lemmas.List.Sorted.{IsPermutation-map, All-permutation}
use Rattle.line_protocol.specs.declared.sorted.Part.{Part}
use Rattle.line_protocol.specs.Names.{key_part}
use Rattle.line_protocol.specs.Sorted.{texts_of}
use Rattle.line_protocol.proofs.sorted.sort_parts.Goals as goal

pub returns-clause-same : goal.returns-clause-same
returns-clause-same c =
    subst (λ (ts : List (List ℕ)). IsPermutation ts (texts_of c.sort.new.parts.items)) c.in_ok-read_parts.ensures.texts (IsPermutation-map (λ (part : Part). part.text.now) c.read_parts.new.parts.items c.sort.new.parts.items c.sort.ensures.same)

pub returns-clause-cut : goal.returns-clause-cut
returns-clause-cut c = All-permutation (λ (part : Part). part.key.now ≡ key_part part.text.now) c.read_parts.new.parts.items c.sort.new.parts.items c.sort.ensures.same c.in_ok-read_parts.ensures.cut

pub returns-clause-utf8 : goal.returns-clause-utf8
returns-clause-utf8 c = All-permutation (λ (part : Part). IsUtf8 part.text.now) c.read_parts.new.parts.items c.sort.new.parts.items c.sort.ensures.same c.in_ok-read_parts.ensures.utf8
