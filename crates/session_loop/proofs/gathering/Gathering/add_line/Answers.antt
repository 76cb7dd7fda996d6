-- The line stands for a part of the BATCH, and is it where that isn't too long.
use Rattle.std.proofs.Common.{◌≡◌, Bool, ◌||◌, [], ◌∷◌, ◌++◌, sym, ap, ◌∙◌, arith}
use Rattle.std.specs.Str.Lines.{strip_carriage_return}
use Rattle.session_model.specs.Requests.{is_long, has_long, batch_text}
use Rattle.session_loop.proofs.GatheringLemmas.{line_tells, long_more, text_more, came_more, fate_same}
use Rattle.session_loop.proofs.gathering.Gathering.add_line.Goals as goal

pub returns-then-self-le-MOST_LINES : goal.returns-then-self-le-MOST_LINES
returns-then-self-le-MOST_LINES c = λ count lines part room gathers stands.
    let named = gathers.named in let was = gathers.came in
    let tells = line_tells c.args.line.now part stands in
    let long : c.is_long-long.result ≡ is_long (strip_carriage_return part) = c.is_long-long.ensures ∙ ap is_long c.without_return.ensures ∙ tells.same in
    let one = came_more lines part in
    record {
      named = named;
      came = omega (arith, c.saturating_add-self.ensures);
      fate = λ low. fate_same c.grown-self.result c.grown-self.new.text.items (batch_text lines [] ++ part ++ 10 ∷ []) (batch_text (lines ++ part ∷ []) [])
          (has_long lines [] || c.is_long-long.result) (has_long (lines ++ part ∷ []) []) (sym (text_more lines part))
          (ap (λ (b : Bool). has_long lines [] || b) long ∙ sym (long_more lines part))
          (c.grown-self.ensures (batch_text lines []) part (has_long lines []) (gathers.fate low) (λ short. tells.is (sym long ∙ short)));
    }
