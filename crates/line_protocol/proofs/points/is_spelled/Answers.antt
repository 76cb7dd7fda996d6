use Rattle.std.proofs.Common.{◌≡◌, Bool, true, false, not, refl, sym, ◌∙◌}
use Rattle.std.proofs.lemmas.Bool.{false≢true}
use Rattle.tsdb_types.specs.Series.{tag_ends_at}
use Rattle.line_protocol.proofs.NameLemmas.{plain}
use Rattle.line_protocol.proofs.points.is_spelled.Goals as goal

none : (b : Bool) → not b ≡ true → b ≡ false
none true t = absurd (false≢true t)
none false t = refl

pub returns-then-is_text-clause-name : goal.returns-then-is_text-clause-name
returns-then-is_text-clause-name c = λ t.
    sym c.as_str.ensures.text ∙ sym c.as_bytes.ensures.value ∙ c.is_text.ensures c.if-is_text.true
    ∙ sym (plain tag_ends_at c.args.key.now (sym c.contains.ensures.value ∙ none c.contains.result t))

pub returns-then-is_text-clause-plain : goal.returns-then-is_text-clause-plain
returns-then-is_text-clause-plain c = λ t. plain tag_ends_at c.args.key.now (sym c.contains.ensures.value ∙ none c.contains.result t)
