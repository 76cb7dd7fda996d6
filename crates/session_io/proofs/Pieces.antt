-- The front and the rest of a list of bytes, from which one more piece is taken.
use Rattle.std.proofs.Common.{◌≡◌, ℕ, ◌+◌, List, ◌++◌, take, drop, sym, ◌∙◌, ap}
use Rattle.std.proofs.Math.Seq.{take-add}
use Rattle.std.proofs.lemmas.List.{take-append-drop, drop-drop}

-- what was given, and the piece that was given next
pub given_more : (at count : ℕ) (bytes piece : List ℕ) → piece ≡ take count (drop at bytes) → take (at + count) bytes ≡ take at bytes ++ piece
given_more at count bytes piece same = take-add at count bytes ∙ ap (λ p. take at bytes ++ p) (sym same)

-- what was left is the piece, and what is left behind it
pub left_less : (at count : ℕ) (bytes piece : List ℕ) → piece ≡ take count (drop at bytes) → drop at bytes ≡ piece ++ drop (at + count) bytes
left_less at count bytes piece same =
    sym (take-append-drop count (drop at bytes)) ∙ ap (λ p. p ++ drop count (drop at bytes)) (sym same)
    ∙ ap (λ rest. piece ++ rest) (drop-drop count at bytes)
