-- What is told grows by one piece after another.
use Rattle.std.proofs.Common.{List, [], ◌++◌, refl, sym, ap, ◌∙◌, append_assoc, Option, Some, None}
use Rattle.std.proofs.lemmas.List.{append-nil}
use Rattle.session_io.specs.Streams.{Grows}

pub grows_none : {X : Type 0} (told : Option (List X)) → Grows told told []
grows_none None = refl
grows_none (Some told) = sym (append-nil told)

pub grows_more : {X : Type 0} (old mid new : Option (List X)) (first second : List X) → Grows old mid first → Grows mid new second → Grows old new (first ++ second)
grows_more None None new first second a b = b
grows_more None (Some mid) new first second a b = cc
grows_more (Some old) None None first second a b = tt
grows_more (Some old) None (Some new) first second a b = cc
grows_more (Some old) (Some mid) None first second a b = tt
grows_more (Some old) (Some mid) (Some new) first second a b = b ∙ ap (λ l. l ++ second) a ∙ append_assoc old first second
