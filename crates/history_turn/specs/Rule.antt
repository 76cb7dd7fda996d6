-- Why passes that take turns know one history, and own what they did.
--
-- The count. One word is the first number and the number of entries. Only the pass with the turn stores it, and it
-- knows all entries, so no number is given twice.
-- The turn. One word is the value's faults while the turn is free, and `held` while a pass has it. A swap with `held`
-- that finds anything else takes the turn, and the value with it. While the turn is free the slot has the value, and
-- the value stands for the start and all entries.
-- What each pass knows. All passes that have a part know one start. What a pass has seen, and what it was told, is a
-- beginning of the entries: these only grow, so it stays one.
-- The holder. One pass has the turn at most, and while the word is `held` one has it. It has seen all entries, and
-- remembers the faults and the loans of the value that it found. These two the rule knows too, and they stand still
-- until the turn is free again: so what is said of faults and loans is the same whether the turn is free or not.
-- What is owned. A pass with no part owns nothing. A step changes what its own pass owns; a split and a join move
-- things between two passes. So of all passes together it stays true that
--   the parts are all parts,
--   the numbers owned are those of the entries, each once,
--   the faults owned are at most those that the value has had since the start,
--   the loans owned are the value's, each as often.
-- A pass that has all parts is therefore the only one that owns anything: it owns each number, and each loan is its.
use Rattle.std.specs.Prelude.{◌≡◌, ◌≢◌, ℕ, ◌+◌, ◌<◌, ◌≤◌, List, [], ◌∷◌, length, flat_map, Option, Some, true, false}
use mathlib.Core.Option as core
use mathlib.Core.Option.{some, none}
use lib.ListN.{get_elem?}
use Rattle.atomic_table.specs.Table.{State}
use Rattle.history_turn.specs.declared.view.PassView.{PassView}
use Rattle.history_turn.specs.Histories.{StartsWith, numbers_after}
use Rattle.history_turn.specs.Owned.{weigh, SameItems}
use Rattle.history_turn.specs.Views.{all_parts}

-- the word of the turn while a pass has it; the faults of a value stay below
abbrev pub held : ℕ
held = 18446744073709551615

-- the pass owns nothing and hasn't the turn
pub record IsBare {S E L : Type 0} (v : PassView S E L) : Type 0 where
  pub own : v.own ≡ []
  pub faults : v.faults ≡ 0
  pub loans : v.loans ≡ []
  pub has_turn : v.has_turn ≡ false

module _ {X S E L : Type 0} (stands : X → S → List E → Type 0) (first first_faults : S → ℕ) (faults_of : X → ℕ) (loans_of : X → List L) where
  -- what the rule says of the pass in seat j
  pub record Knows (start : S) (entries : List E) (turn faults_found : ℕ) (lent : List L) (holder j : ℕ) (v : PassView S E L) : Type 0 where
    pub one_start : 0 < v.parts → v.start ≡ start
    pub seen : StartsWith entries v.seen
    pub told : StartsWith entries v.told
    pub one_holder : v.has_turn ≡ true → (turn ≡ held) × (j ≡ holder) × (v.seen ≡ entries) × (v.faults_found ≡ faults_found) × (v.loans_found ≡ lent)
    pub bare : v.parts ≡ 0 → IsBare v

  -- the value is in the slot, as it was last given back
  pub record Rests (start : S) (entries : List E) (turn faults_found : ℕ) (lent : List L) (homes : List (core.Option (Option X))) : Type 0 where
    pub value : X
    pub home : homes ≡ some (Some value) ∷ []
    pub faults : faults_of value ≡ turn
    pub stands_for : stands value start entries
    pub faults_are : faults_found ≡ turn
    pub loans_are : lent ≡ loans_of value

  -- the rule, at each moment, over the two words, the slot and the views of all passes
  pub record Kept (s : State (Option X) (PassView S E L)) : Type 0 where
    pub start : S
    pub entries : List E
    pub turn : ℕ
    pub faults_found : ℕ
    pub lent : List L
    pub holder : ℕ
    pub words : s.words ≡ turn ∷ (first start + length entries) ∷ []
    pub room : faults_found < held
    pub free : turn ≢ held → Rests start entries turn faults_found lent s.homes
    pub taken : turn ≡ held → (v : PassView S E L) × (get_elem? s.views holder ≡ some v) × (v.has_turn ≡ true)
    pub each : (j : ℕ) (v : PassView S E L) → get_elem? s.views j ≡ some v → Knows start entries turn faults_found lent holder j v
    pub parts : weigh (λ v. v.parts) s.views ≡ all_parts
    pub own : SameItems (flat_map (λ v. v.own) s.views) (numbers_after (first start) (length entries))
    pub faults : weigh (λ v. v.faults) s.views + first_faults start ≤ faults_found
    pub loans : SameItems (flat_map (λ v. v.loans) s.views) lent
