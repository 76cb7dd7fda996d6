-- The refusals in their order, and the text where none of them comes.
use Rattle.std.proofs.Common.{◌≡◌, ◌≤◌, ℕ, List, not, sym, ap, ◌∙◌, subst, arith, Some, None, if◌then◌else◌}
use Rattle.std.specs.Str.{is_utf8}
use Rattle.session_model.specs.declared.statement.Refusal.TheVariants.{NotText}
use Rattle.session_model.specs.Requests.{batch_text, has_long}
use Rattle.session_loop.specs.declared.gathering.Fate.{Fate}
use Rattle.session_loop.specs.Gathered.{FateIs}
use Rattle.session_loop.proofs.GatheringLemmas.{refused_lines, refused_cut, refused_long, refused_bytes, refused_text}
use Rattle.session_loop.proofs.gathering.Gathering.text.Goals as goal

pub returns-then-self-gt-MOST_LINES : goal.returns-then-self-gt-MOST_LINES
returns-then-self-gt-MOST_LINES c = λ count lines rest gathers.
    let named = gathers.named in refused_lines count lines rest (omega (arith, c.if-self-gt-MOST_LINES.true))

pub returns-then-self : goal.returns-then-self
returns-then-self c = λ count lines rest gathers.
    let named = gathers.named in let came = gathers.came in
    refused_cut count lines rest (omega (arith, c.if-self-gt-MOST_LINES.false)) (omega (arith, c.if-self.true))

pub returns-in-Kept : goal.returns-in-Kept
returns-in-Kept c = λ count lines rest gathers.
    let named = gathers.named in let came = gathers.came in
    let low : count ≤ 5000 = omega (arith, c.if-self-gt-MOST_LINES.false) in
    let known = subst (λ (f : Fate). FateIs f c.args.self.now.text.items (batch_text lines rest) (has_long lines rest)) c.in-Kept.is (gathers.fate low) in
    let text : c.deref.result.now ≡ batch_text lines rest = c.deref.ensures.value ∙ known.0 in (
      text,
      refused_text count lines rest low (omega (arith, c.if-self.false)) known.1 known.2
          ∙ ap (λ (l : List ℕ). if not (is_utf8 l) then Some NotText else None) (sym text),
    )

pub returns-in-LineTooLong : goal.returns-in-LineTooLong
returns-in-LineTooLong c = λ count lines rest gathers.
    let named = gathers.named in let came = gathers.came in
    let low : count ≤ 5000 = omega (arith, c.if-self-gt-MOST_LINES.false) in
    let known = subst (λ (f : Fate). FateIs f c.args.self.now.text.items (batch_text lines rest) (has_long lines rest)) c.in-LineTooLong.is (gathers.fate low) in
    refused_long count lines rest low (omega (arith, c.if-self.false)) known

pub returns-in-TooLong : goal.returns-in-TooLong
returns-in-TooLong c = λ count lines rest gathers.
    let named = gathers.named in let came = gathers.came in
    let low : count ≤ 5000 = omega (arith, c.if-self-gt-MOST_LINES.false) in
    let known = subst (λ (f : Fate). FateIs f c.args.self.now.text.items (batch_text lines rest) (has_long lines rest)) c.in-TooLong.is (gathers.fate low) in
    refused_bytes count lines rest low (omega (arith, c.if-self.false)) known.0 known.1
