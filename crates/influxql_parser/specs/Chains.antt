-- What does one piece more make of a condition that is being read? Words of the contracts within.
use Rattle.std.specs.Prelude.{Bool, true, false, ◌||◌, Option, Some, None, List, [], ◌∷◌, reverse, option_and_then, is_some, if◌then◌else◌}
use Rattle.std.specs.Option.{option_map_or}
use Rattle.point_model.specs.Conditions as tags
use Rattle.point_model.specs.declared.part.Join.{Join}
use Rattle.point_model.specs.declared.part.Join.TheVariants as join
use Rattle.influxql_parser.specs.declared.chain.Chain.{Chain}
use Rattle.influxql_parser.specs.declared.chain.Reading.{Reading}
use Rattle.influxql_parser.specs.declared.chain.Asked.{Asked}
use Rattle.influxql_parser.specs.declared.piece.Piece.{Piece}
use Rattle.influxql_parser.specs.declared.piece.Piece.TheVariants as piece
use Rattle.influxql_parser.specs.declared.piece.Test.{Test}
use Rattle.influxql_parser.specs.GrammarConditions.{is_of_time}
use Rattle.influxql_parser.specs.DeletionTags.{deletion_test_tags}

-- one side more of an AND
abbrev pub and_with : Option tags.Condition → tags.Condition → tags.Condition
and_with None side = side
and_with (Some before) side = tags.And before side

-- one side more of an OR
abbrev pub or_with : Option tags.Condition → tags.Condition → tags.Condition
or_with None side = side
or_with (Some before) side = tags.Or before side

-- nothing is read yet
abbrev pub fresh : Chain
fresh = record { either = None; before = None; atom = None; timed = false; faulty = false }

-- what the chain asks of tags, where nothing is missing behind it
abbrev pub whole : Chain → Option tags.Condition
whole chain = option_and_then (λ atom. Some (or_with chain.either (and_with chain.before atom))) chain.atom

-- a comparison of time stands under an OR in the chain
abbrev pub is_faulty : Chain → Bool
is_faulty chain = if is_some chain.either then chain.timed else chain.faulty

-- an atom stands at the place
abbrev pub put : Chain → tags.Condition → Bool → Bool → Chain
put chain atom timed faulty =
    record { either = chain.either; before = chain.before; atom = Some atom; timed = chain.timed || timed; faulty = chain.faulty || faulty }

abbrev pub with_and : Chain → Option Chain
with_and chain =
    option_and_then (λ atom. Some (record { either = chain.either; before = Some (and_with chain.before atom); atom = None; timed = chain.timed; faulty = chain.faulty })) chain.atom

abbrev pub with_or : Chain → Option Chain
with_or chain =
    option_and_then (λ either. Some (record { either = Some either; before = None; atom = None; timed = chain.timed; faulty = chain.faulty })) (whole chain)

abbrev pub with_join : Join → Chain → Option Chain
with_join join.And chain = with_and chain
with_join join.Or chain = with_or chain

abbrev pub with_test : Test → Chain → Option Chain
with_test test chain = by chain.atom
  where
    by : Option tags.Condition → Option Chain
    by None = Some (put chain (deletion_test_tags test) (is_of_time test) false)
    by (Some atom) = None

-- the chains around the place, the innermost first, and the one at the place
abbrev pub Stack : Type 0
Stack = List Chain × Chain

abbrev pub opened : Stack → Option Stack
opened stack = by stack.1.atom
  where
    by : Option tags.Condition → Option Stack
    by None = Some (stack.1 ∷ stack.0, fresh)
    by (Some atom) = None

-- the chain at the place is an atom of the one around it
abbrev pub within : Chain → Chain → Option Chain
within around here = option_and_then (λ atom. Some (put around atom here.timed (is_faulty here))) (whole here)

abbrev pub closed : Stack → Option Stack
closed stack = by stack.0
  where
    by : List Chain → Option Stack
    by [] = None
    by (around ∷ outer) = option_and_then (λ chain. Some (outer, chain)) (within around stack.1)

abbrev pub with_piece : Stack → Piece → Option Stack
with_piece stack piece.Open = opened stack
with_piece stack piece.Close = closed stack
with_piece stack (piece.Join join) = option_and_then (λ chain. Some (stack.0, chain)) (with_join join stack.1)
with_piece stack (piece.Test test) = option_and_then (λ chain. Some (stack.0, chain)) (with_test test stack.1)

-- the pieces one after another, where each has a place
abbrev pub run : Option Stack → List Piece → Option Stack
run stack [] = stack
run stack (piece ∷ pieces) = run (option_and_then (λ at. with_piece at piece) stack) pieces

-- what the pieces of a whole condition ask
abbrev pub finished : Stack → Option Asked
finished stack = by stack.0
  where
    by : List Chain → Option Asked
    by [] = option_and_then (λ tags. Some (record { tags = tags; faulty = is_faulty stack.1 })) (whole stack.1)
    by (around ∷ outer) = None

abbrev pub asked : List Piece → Option Asked
asked pieces = option_and_then finished (run (Some ([], fresh)) pieces)

abbrev pub stack_of : Reading → Stack
stack_of reading = (reverse reading.outer.items, reading.here)

abbrev pub stacks : Option Reading → Option Stack
stacks None = None
stacks (Some reading) = Some (stack_of reading)
