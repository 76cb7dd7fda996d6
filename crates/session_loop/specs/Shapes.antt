-- What is a line made of, and is it blank?
use Rattle.std.specs.Prelude.{ℕ, Bool, true, false, List, fold, if◌then◌else◌, ◌==◌}
use Rattle.std.specs.Str.Lines.{strip_carriage_return}
use Rattle.session_model.specs.Lines.{is_blank}
use Rattle.session_loop.specs.declared.shape.Shape.{Shape}
use Rattle.session_loop.specs.declared.shape.Shape.TheVariants.{Spaces, SpacesAndReturn, Words}

-- spaces alone, or these and a carriage return at their end, or more
unfoldable pub shape_of : List ℕ → Shape
shape_of text = if is_blank text then Spaces else (if is_blank (strip_carriage_return text) then SpacesAndReturn else Words)

-- the same of the text with one byte more
abbrev pub shape_after : Shape → ℕ → Shape
shape_after Spaces byte = if byte == 32 then Spaces else (if byte == 13 then SpacesAndReturn else Words)
shape_after SpacesAndReturn byte = Words
shape_after Words byte = Words

-- the same of the text with these bytes more
abbrev pub shape_behind : Shape → List ℕ → Shape
shape_behind shape bytes = fold shape_after shape bytes

-- nothing but spaces
abbrev pub is_spaces : Shape → Bool
is_spaces Spaces = true
is_spaces SpacesAndReturn = false
is_spaces Words = false

-- the same of the text less one carriage return at its end
abbrev pub stripped_shape : Shape → Shape
stripped_shape Spaces = Spaces
stripped_shape SpacesAndReturn = Spaces
stripped_shape Words = Words
