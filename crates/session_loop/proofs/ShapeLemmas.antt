-- What a line is made of, by its bytes.
use Rattle.std.proofs.Common.{◌≡◌, ℕ, List, [], ◌∷◌, take, drop, refl, sym, ap, ◌∙◌}
use Rattle.std.proofs.lemmas.List.{take-append-drop}
use Rattle.std.proofs.lemmas.List.Sums.{fold-append}
use Rattle.session_loop.specs.declared.shape.Shape.{Shape}
use Rattle.session_loop.specs.declared.shape.Shape.TheVariants.{Words}
use Rattle.session_loop.specs.Shapes.{shape_after, shape_behind}

words_stay : (bytes : List ℕ) → shape_behind Words bytes ≡ Words
words_stay [] = refl
words_stay (b ∷ bytes) = words_stay bytes

pub shape_found : (shape now : Shape) (i : ℕ) (bytes : List ℕ) → now ≡ shape_behind shape (take i bytes) → now ≡ Words → Words ≡ shape_behind shape bytes
shape_found shape now i bytes is words =
    sym (ap (shape_behind shape) (sym (take-append-drop i bytes)) ∙ fold-append shape_after shape (take i bytes) (drop i bytes)
    ∙ ap (λ (s : Shape). shape_behind s (drop i bytes)) (sym is ∙ words) ∙ words_stay (drop i bytes))
