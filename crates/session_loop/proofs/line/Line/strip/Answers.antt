-- The line less its carriage return is a front of it, and its shape says so.
use Rattle.std.proofs.Common.{◌≡◌, ℕ, List, length, take, sym, ap, ◌∙◌, subst}
use Rattle.std.specs.Str.Lines.{strip_carriage_return}
use Rattle.session_loop.specs.Shapes.{is_spaces, stripped_shape}
use Rattle.session_loop.specs.LineAsItComes.{StandsFor}
use Rattle.session_loop.proofs.KeepingLemmas.{stands_stripped, strip_taken, stripped_tells}
use Rattle.session_loop.proofs.line.Line.strip.Goals as goal

pub returns : goal.returns
returns c = λ text held.
    let kept : List ℕ = c.args.self.now.kept.items in
    let front : c.without_return-length.result.now ≡ strip_carriage_return kept = c.without_return-length.ensures ∙ ap strip_carriage_return c.deref.ensures.value in
    let items : c.truncate.new.self.items ≡ strip_carriage_return kept =
    c.truncate.ensures.items ∙ ap (λ (l : List ℕ). take (length l) kept) front ∙ strip_taken kept in
    record {
      kept = subst (λ (l : List ℕ). StandsFor 65536 l (strip_carriage_return text)) (sym items) (stands_stripped text kept held.kept);
      blank = ap is_spaces (c.stripped_shape-self.ensures ∙ ap stripped_shape held.shape) ∙ stripped_tells text;
    }
