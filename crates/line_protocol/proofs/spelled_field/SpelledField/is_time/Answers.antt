use Rattle.std.proofs.Common.{List, ℕ, sym, ap, ◌∙◌}
use Rattle.std.specs.Str.{bytes_eq}
use Rattle.line_protocol.proofs.WalkTagLemmas.{time-spelled}
use Rattle.line_protocol.proofs.spelled_field.SpelledField.is_time.Goals as goal

pub returns : goal.returns
returns c =
    let key = c.args.self.now.key.now in
    c.eq.ensures ∙ ap (λ (t : List ℕ). bytes_eq key t) c.as_slice.ensures ∙ sym (time-spelled key (sym c.args.self.now.spelling.escapes))
