-- Which names does an index list?
use Rattle.std.specs.Prelude.{◌↔◌, ℕ, ◌&&◌, IsTrue, List, [], ◌∷◌, Contains, Option, Some, None, if◌then◌else◌}
use Rattle.std.specs.List.{flat_map, list_any}
use Rattle.std.specs.List.Sorted.{IsStrictlySortedBy}
use Rattle.std.specs.Ordering.{nat_cmp}
use Rattle.std.specs.Cmp.Lexicographic.{slice_cmp}
use Rattle.std.specs.Str.{bytes_eq}
use Rattle.index_lists.specs.declared.heading.Heading.{Heading}
use Rattle.index_lists.specs.declared.heading.Heading.TheVariants as heading
use Rattle.index_lists.specs.declared.term.Term.{Term}
use Rattle.index_lists.specs.declared.term.Term.TheVariants.{Measurement, Field, TagKey, TagValue}
use Rattle.index_lists.specs.Listing.{Listed}
use Rattle.index_lists.specs.Pairs.{Pair}
use Rattle.index_lists.specs.Terms.{is_of}

-- the term of a name under a heading
abbrev pub term_of : Heading → List ℕ → Term
term_of heading.Measurements name = Measurement name
term_of (heading.Fields measurement) name = Field measurement name
term_of (heading.TagKeys measurement) name = TagKey measurement name
term_of (heading.TagValues measurement key) name = TagValue measurement key name

-- The names, each once and ascending by their bytes, that a series with points has under the heading.
pub record AreNamesOf (under : Heading) (pairs : List Pair) (names : List (List ℕ)) : Type 0 where
  pub ascending : IsStrictlySortedBy (slice_cmp nat_cmp) names
  pub has : (name : List ℕ) → Contains names name ↔ IsTrue (list_any (λ pair. is_of (term_of under name) pair.series pair.field) pairs)

-- the name that a term has under a heading
abbrev pub measurement_in : Term → Option (List ℕ)
measurement_in (Measurement name) = Some name
measurement_in (Field of name) = None
measurement_in (TagKey of name) = None
measurement_in (TagValue of key name) = None

abbrev pub field_in : List ℕ → Term → Option (List ℕ)
field_in measurement (Measurement name) = None
field_in measurement (Field of name) = if bytes_eq of measurement then Some name else None
field_in measurement (TagKey of name) = None
field_in measurement (TagValue of key name) = None

abbrev pub tag_key_in : List ℕ → Term → Option (List ℕ)
tag_key_in measurement (Measurement name) = None
tag_key_in measurement (Field of name) = None
tag_key_in measurement (TagKey of name) = if bytes_eq of measurement then Some name else None
tag_key_in measurement (TagValue of key name) = None

abbrev pub tag_value_in : List ℕ → List ℕ → Term → Option (List ℕ)
tag_value_in measurement key (Measurement name) = None
tag_value_in measurement key (Field of name) = None
tag_value_in measurement key (TagKey of name) = None
tag_value_in measurement key (TagValue of its name) = if bytes_eq of measurement && bytes_eq its key then Some name else None

abbrev pub name_under : Heading → Term → Option (List ℕ)
name_under heading.Measurements term = measurement_in term
name_under (heading.Fields measurement) term = field_in measurement term
name_under (heading.TagKeys measurement) term = tag_key_in measurement term
name_under (heading.TagValues measurement key) term = tag_value_in measurement key term

-- the name as a list, none where the term lists no series
abbrev pub named : Option (List ℕ) → List ℕ → List (List ℕ)
named None ids = []
named (Some name) [] = []
named (Some name) (id ∷ ids) = name ∷ []

-- the names of terms with their lists, in the order of places
abbrev pub names_in : Heading → List (Term × Listed) → List (List ℕ)
names_in under entries = flat_map (λ entry. named (name_under under entry.0) entry.1.ids) entries

abbrev pub names_at : Heading → Option (Term × Listed) → List (List ℕ)
names_at under None = []
names_at under (Some entry) = named (name_under under entry.0) entry.1.ids
