-- Which contents may an index file have?
use Rattle.std.specs.Prelude.{◌≢◌, ℕ, ◌<◌, ◌^◌, Bool, nat_eq, IsTrue, List, [], length}
use Rattle.std.specs.List.{AllByRecursion, list_any}
use Rattle.std.specs.List.Sorted.{IsStrictlySortedBy}
use Rattle.std.specs.Ordering.{nat_cmp}
use Rattle.std.specs.declared.cmp.Ordering.{Ordering}
use Rattle.std.specs.Str.{IsUtf8}
use Rattle.std.specs.Cmp.Lexicographic.{slice_cmp}
use Rattle.tsdb_types.specs.Names.{IsName}
use Rattle.index_file.specs.declared.content.NameIds.{NameIds}
use Rattle.index_file.specs.declared.content.TagIds.{TagIds}
use Rattle.index_file.specs.declared.content.MeasurementIds.{MeasurementIds}
use Rattle.index_file.specs.declared.content.Content.{Content}

-- items whose keys ascend in this order, none twice, each item good, and so many that four bytes hold their count
pub record AreCounted {X K : Type 0} (IsGood : X → Type 0) (key : X → K) (cmp : K → K → Ordering) (items : List X) : Type 0 where
  pub good : AllByRecursion IsGood items
  pub ascending : IsStrictlySortedBy (λ x y. cmp (key x) (key y)) items
  pub count : length items < 2 ^ 32

-- names are compared by their bytes
abbrev pub name_cmp : List ℕ → List ℕ → Ordering
name_cmp = slice_cmp nat_cmp

-- a name whose length has room in two bytes
pub record IsText (text : List ℕ) : Type 0 where
  pub named : IsName text
  pub utf8 : IsUtf8 text
  pub short : length text < 2 ^ 16

-- ids of 32 bits, ascending, at least one
pub record AreIds (ids : List ℕ) : Type 0 where
  pub counted : AreCounted (λ id. id < 2 ^ 32) (λ id. id) nat_cmp ids
  pub some : ids ≢ []

-- a field or a tag's value, with ids
pub record IsNamed (list : NameIds) : Type 0 where
  pub name : IsText list.name
  pub ids : AreIds list.ids

-- fields, or the values of one tag, in the order of their names; there may be none
abbrev pub AreNamed : List NameIds → Type 0
AreNamed = AreCounted IsNamed (λ list. list.name) name_cmp

-- a tag key, with its values
pub record IsTag (tag : TagIds) : Type 0 where
  pub key : IsText tag.key
  pub values : AreNamed tag.values

-- the tags of a measurement, in the order of their keys
abbrev pub AreTags : List TagIds → Type 0
AreTags = AreCounted IsTag (λ tag. tag.key) name_cmp

-- the id is one of these
abbrev pub has : List ℕ → ℕ → Bool
has ids id = list_any (nat_eq id) ids

-- some of the names has the id
abbrev pub some_has : List NameIds → ℕ → Bool
some_has lists id = list_any (λ list. has list.ids id) lists

-- each of these ids is one of the others
abbrev pub AreAmong : List ℕ → List ℕ → Type 0
AreAmong all ids = AllByRecursion (λ id. IsTrue (has all id)) ids

-- the same of the ids of each name
abbrev pub AreAllAmong : List ℕ → List NameIds → Type 0
AreAllAmong all lists = AllByRecursion (λ list. AreAmong all list.ids) lists

-- A measurement whose ids are those of its fields. So it has a field; and the series with a tag are among them.
pub record IsMeasurement (measurement : MeasurementIds) : Type 0 where
  pub name : IsText measurement.name
  pub ids : AreIds measurement.ids
  pub fields : AreNamed measurement.fields
  pub known : AreAllAmong measurement.ids measurement.fields
  pub found : AllByRecursion (λ id. IsTrue (some_has measurement.fields id)) measurement.ids
  pub tags : AreTags measurement.tags
  pub tagged : AllByRecursion (λ tag. AreAllAmong measurement.ids tag.values) measurement.tags

-- measurements, in the order of their names; there may be none
abbrev pub IsContent : Content → Type 0
IsContent content = AreCounted IsMeasurement (λ measurement. measurement.name) name_cmp content.measurements
