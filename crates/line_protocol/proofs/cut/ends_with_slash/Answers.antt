use Rattle.std.proofs.Common.{false, List, ℕ, sym, ap, ◌∙◌}
use Rattle.line_protocol.specs.Parts.{slashed}
use Rattle.line_protocol.proofs.PartLemmas.{slashed-last}
use Rattle.line_protocol.proofs.cut.ends_with_slash.Goals as goal

pub returns-in-Some : goal.returns-in-Some
returns-in-Some c = sym (ap (λ (t : List ℕ). slashed false t) c.in-Some.ensures.cases.0 ∙ slashed-last false c.in-Some._front.now c.in-Some.last.now)
