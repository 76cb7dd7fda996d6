-- How a text is cut into lines, and a line into its parts.
use Rattle.std.specs.Prelude.{ℕ, ◌-◌, Bool, true, false, not, ◌&&◌, ◌==◌, List, [], ◌∷◌, length, take, slice_index, if◌then◌else◌}
use Rattle.std.specs.List.{onto_first, slice_split}

-- the front of a text up to a mark; a byte is no mark where a backslash stands right before it, as `slash` says of the first
abbrev pub front : ℕ → Bool → List ℕ → List ℕ
front mark slash [] = []
front mark slash (byte ∷ text) = if (byte == mark) && not slash then [] else byte ∷ front mark (byte == 92) text

-- what stands from the mark on
abbrev pub rest : ℕ → Bool → List ℕ → List ℕ
rest mark slash [] = []
rest mark slash (byte ∷ text) = if (byte == mark) && not slash then byte ∷ text else rest mark (byte == 92) text

-- the parts between the marks, one more than there are marks
abbrev pub parts : ℕ → Bool → List ℕ → List (List ℕ)
parts mark slash [] = [] ∷ []
parts mark slash (byte ∷ text) =
    if (byte == mark) && not slash then [] ∷ parts mark false text else onto_first byte (parts mark (byte == 92) text)

-- the parts behind the mark that a text begins with, none where it is empty
abbrev pub parts_behind : ℕ → List ℕ → List (List ℕ)
parts_behind mark [] = []
parts_behind mark (byte ∷ text) = parts mark false text

-- the front of a text up to its first newline
abbrev pub line_front : List ℕ → List ℕ
line_front [] = []
line_front (byte ∷ text) = if byte == 10 then [] else byte ∷ line_front text

-- what stands from that newline on
abbrev pub line_rest : List ℕ → List ℕ
line_rest [] = []
line_rest (byte ∷ text) = if byte == 10 then byte ∷ text else line_rest text

-- the lines behind the newline that a text begins with, none where it is empty
abbrev pub lines_behind : List ℕ → List (List ℕ)
lines_behind [] = []
lines_behind (byte ∷ text) = slice_split (λ at. at == 10) text

-- the text from its first byte on that is no space
abbrev pub unspaced : List ℕ → List ℕ
unspaced [] = []
unspaced (byte ∷ text) = if byte == 32 then unspaced text else byte ∷ text

-- whether a backslash stands right before what follows the text
abbrev pub slashed : Bool → List ℕ → Bool
slashed slash [] = slash
slashed slash (byte ∷ text) = slashed (byte == 92) text

-- nothing but spaces
abbrev pub is_blank : List ℕ → Bool
is_blank [] = true
is_blank (byte ∷ text) = (byte == 32) && is_blank text

-- the text without the spaces at its end; one that a backslash stands right before stays
abbrev pub unspaced_end : Bool → List ℕ → List ℕ
unspaced_end slash [] = []
unspaced_end slash (byte ∷ text) = if is_blank (byte ∷ text) && not slash then [] else byte ∷ unspaced_end (byte == 92) text

-- the line without one carriage return at its end
abbrev pub without_return : List ℕ → List ℕ
without_return line = if slice_index line (length line - 1) == 13 then take (length line - 1) line else line

-- what is read of a line
abbrev pub trimmed : List ℕ → List ℕ
trimmed line = unspaced_end false (unspaced (without_return line))
