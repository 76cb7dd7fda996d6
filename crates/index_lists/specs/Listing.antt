-- What does a contract see of lists of ids, and when are they those of pairs?
use Rattle.std.specs.Prelude.{◌≡◌, ℕ, ◌+◌, ◌≤◌, Bool, true, not, ◌&&◌, ◌||◌, nat_eq, List, length, count_by, slice_get, slice_index_or, Some}
use Rattle.std.specs.List.{AllByRecursion, list_any}
use Rattle.std.specs.List.Sorted.{IsStrictlySortedBy}
use Rattle.std.specs.Ordering.{nat_cmp}
use Rattle.tsdb_types.specs.Series.{IsSeriesText}
use Rattle.index_lists.specs.declared.term.Term.{Term}
use Rattle.index_lists.specs.Pairs.{Agrees, IsAlone, Pair, is_same}
use Rattle.index_lists.specs.Terms.{is_of}

-- the id is one of these
abbrev pub is_listed : List ℕ → ℕ → Bool
is_listed ids id = list_any (nat_eq id) ids

-- ids, and for how many more room is made
pub record Listed : Type 0 where
  pub ids : List ℕ
  pub room : ℕ

-- One id is among them, ascending, and room for one was used.
pub record Puts (id : ℕ) (old new : Listed) : Type 0 where
  pub has : (other : ℕ) → is_listed new.ids other ≡ (nat_eq other id || is_listed old.ids other)
  pub ascending : IsStrictlySortedBy nat_cmp new.ids
  pub room : new.room + 1 ≡ old.room

-- One id is not among them, and no room was used.
pub record Takes (id : ℕ) (old new : Listed) : Type 0 where
  pub has : (other : ℕ) → is_listed new.ids other ≡ (is_listed old.ids other && not (nat_eq other id))
  pub ascending : IsStrictlySortedBy nat_cmp new.ids
  pub room : new.room ≡ old.room

-- The terms and their lists, by places; in how many fields a series has points, by its id; how many pairs there are, and for how many
-- changes room is made.
pub record Listing : Type 0 where
  pub terms : List Term
  pub lists : List Listed
  pub counts : List ℕ
  pub pairs : ℕ
  pub room : ℕ

-- The ids, ascending, of the pairs whose series and field meet the test.
pub record AreIdsOf (test : List ℕ → List ℕ → Bool) (pairs : List Pair) (ids : List ℕ) : Type 0 where
  pub ascending : IsStrictlySortedBy nat_cmp ids
  pub has : (id : ℕ) → is_listed ids id ≡ list_any (λ pair. nat_eq id pair.id && test pair.series pair.field) pairs

-- the term has a place
abbrev pub IsKnown : List Term → Term → Type 0
IsKnown terms term = (place : ℕ) × (slice_get terms place ≡ Some term)

-- The lists are those of these pairs, of which none stands twice, those of one id are of one series, and those of one series are of one id.
pub record Holds (pairs : List Pair) (listing : Listing) : Type 0 where
  pub told : (place : ℕ) (term : Term) (listed : Listed) → slice_get listing.terms place ≡ Some term → slice_get listing.lists place ≡ Some listed
      → AreIdsOf (is_of term) pairs listed.ids
  pub known : AllByRecursion (λ pair. (term : Term) → is_of term pair.series pair.field ≡ true → IsKnown listing.terms term) pairs
  pub counted : (id : ℕ) → slice_index_or listing.counts id 0 ≡ count_by (λ pair. nat_eq id pair.id) pairs
  pub all : listing.pairs ≡ length pairs
  pub once : (pair : Pair) → count_by (is_same pair) pairs ≤ 1
  pub agree : AllByRecursion (Agrees pairs) pairs
  pub alone : AllByRecursion (IsAlone pairs) pairs
  pub texts : AllByRecursion (λ pair. IsSeriesText pair.series) pairs
