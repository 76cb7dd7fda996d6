-- What stands behind the lines stands for a part of the BATCH, and is it where that isn't too long.
use Rattle.std.proofs.Common.{◌≡◌, Bool, ◌||◌, [], ◌++◌, length, sym, ap, ◌∙◌, arith}
use Rattle.session_model.specs.Requests.{is_long, has_long, batch_text}
use Rattle.session_loop.proofs.GatheringLemmas.{rest_tells, long_rest, text_rest, came_rest, fate_same, stands_some}
use Rattle.session_loop.proofs.NumberLemmas.{some_length}
use Rattle.session_loop.proofs.gathering.Gathering.add_rest.Goals as goal

pub returns-then-self-le-MOST_LINES : goal.returns-then-self-le-MOST_LINES
returns-then-self-le-MOST_LINES c = λ count lines part room gathers stands.
    let named = gathers.named in let was = gathers.came in
    let tells = rest_tells c.args.rest.now part stands in
    let long : c.is_long.result ≡ is_long part = c.is_long.ensures ∙ tells.same in
    let one = came_rest lines part (stands_some c.args.rest.now part stands (some_length (length c.args.rest.now) (sym c.is_empty.ensures ∙ c.if-is_empty.false))) in
    record {
      named = named;
      came = omega (arith, c.saturating_add-self.ensures);
      fate = λ low. fate_same c.grown-self.result c.grown-self.new.text.items (batch_text lines [] ++ part ++ []) (batch_text lines part)
          (has_long lines [] || c.is_long.result) (has_long lines part) (sym (text_rest lines part))
          (ap (λ (b : Bool). has_long lines [] || b) long ∙ sym (long_rest lines part))
          (c.grown-self.ensures (batch_text lines []) part (has_long lines []) (gathers.fate low) (λ short. tells.is (sym long ∙ short)));
    }
