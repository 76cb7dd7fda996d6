use Rattle.std.proofs.Common.{◌≡◌, List, ℕ, sym, subst, ◌∙◌}
use Rattle.tsdb_types.specs.Series.{escaped, tag_ends_at}
use Rattle.tsdb_types.specs.Spelled.{unescaped}
use Rattle.line_protocol.specs.Tokens.{part_at}
use Rattle.line_protocol.proofs.TextLemmas.{field-key-spells}
use Rattle.line_protocol.proofs.WalkLemmas.{key-escapes}
use Rattle.line_protocol.proofs.field.read_field.Goals as goal

pub invariant_of-result : goal.invariant_of-result
invariant_of-result c =
    let key = c.field_at.ensures.key in
    let spells =
    field-key-spells (part_at c.args.text.now) c.field_at.result.0.now c.field_at.result.1.now c.in-Ok.value c.requires key c.field_at.ensures.value
    (sym c.is_empty.ensures ∙ c.if-is_empty.false) c.in-Ok.ensures
    in
    record {
      spelling = record {
        spells = spells;
        escapes = subst (λ (t : List ℕ). t ≡ escaped tag_ends_at (unescaped tag_ends_at t)) (sym key) (key-escapes c.args.text.now c.requires.unbroken);
      };
    }
