-- A front of the text as long as the word, or the whole text where that is shorter.
use Rattle.std.proofs.Common.{◌≡◌, ℕ, Bool, List, length, take, drop, sym, ap, ◌∙◌, Some, None, if◌then◌else◌}
use Rattle.std.specs.Str.{str_eq_ignore_ascii_case}
use Rattle.session_model.specs.Words.{behind_word}
use Rattle.session_loop.proofs.KeepingLemmas.{take_least, drop_least}
use Rattle.session_loop.proofs.words.behind_word.Goals as goal

pub returns-then-is_same : goal.returns-then-is_same
unfolding behind_word
returns-then-is_same c =
    let word : List ℕ = c.args.word.now in
    let text : List ℕ = c.args.text.now in
    let front : c.split_at.result.0.now ≡ take (length word) text = c.split_at.ensures.front ∙ ap (λ (n : ℕ). take n text) c.min.ensures ∙ take_least (length word) text in
    let back : c.split_at.result.1.now ≡ drop (length word) text = c.split_at.ensures.back ∙ ap (λ (n : ℕ). drop n text) c.min.ensures ∙ drop_least (length word) text in
    ap (λ (t : Bool). if t then Some (drop (length word) text) else None)
    (ap (λ (l : List ℕ). str_eq_ignore_ascii_case l word) (sym front) ∙ sym c.is_same.ensures ∙ c.if-is_same.true)
    ∙ ap Some (sym back)

pub returns-else-is_same : goal.returns-else-is_same
unfolding behind_word
returns-else-is_same c =
    let word : List ℕ = c.args.word.now in
    let text : List ℕ = c.args.text.now in
    let front : c.split_at.result.0.now ≡ take (length word) text = c.split_at.ensures.front ∙ ap (λ (n : ℕ). take n text) c.min.ensures ∙ take_least (length word) text in
    ap (λ (t : Bool). if t then Some (drop (length word) text) else None)
    (ap (λ (l : List ℕ). str_eq_ignore_ascii_case l word) (sym front) ∙ sym c.is_same.ensures ∙ c.if-is_same.false)
