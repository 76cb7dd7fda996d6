-- What each step tells the pass that makes it.
use Rattle.std.specs.Prelude.{◌≡◌, ◌≢◌, ℕ, ◌+◌, ◌<◌, ◌≤◌, List, ◌∷◌, length, Option, Some, true}
use Rattle.atomic_table.specs.Table.{Me, Step, rest}
use Rattle.history_turn.specs.declared.view.PassView.{PassView}
use Rattle.history_turn.specs.Histories.{StartsWith, numbers_after}
use Rattle.history_turn.specs.Owned.{IsAmong}
use Rattle.history_turn.specs.Rule.{held}
use Rattle.history_turn.specs.Views.{all_parts, looking, holding, adding, resting}

-- a view, and the slot that is out with it while its pass has the turn
abbrev pub ViewAndSlots : (X S E L : Type 0) → Type 0
ViewAndSlots X S E L = Me (Option X) (PassView S E L)

module _ {X S E L : Type 0} where
  -- a load of the count: the pass has seen all entries, and what it owns is no more than there is
  pub record Looked (first : S → ℕ) (m : ViewAndSlots X S E L) (count : ℕ) (m' : ViewAndSlots X S E L) : Type 0 where
    pub entries : List E
    pub now : m' ≡ (looking m.0 entries, m.1)
    pub number : count ≡ first m.0.start + length entries
    pub seen : StartsWith entries m.0.seen
    pub told : StartsWith entries m.0.told
    pub parts : m.0.parts ≤ all_parts
    pub faults : m.0.faults < held
    pub with_turn : m.0.has_turn ≡ true → m.0.faults ≤ m.0.faults_found
    pub own : IsAmong m.0.own (numbers_after (first m.0.start) (length entries))

  abbrev pub looked : (S → ℕ) → Step (Option X) → ViewAndSlots X S E L → ℕ → ViewAndSlots X S E L → Type 0
  looked first st m n m' = Looked first m n m'

  -- the store of the count while the turn is held
  abbrev pub advanced : (S → ℕ) → List E → Step (Option X) → ViewAndSlots X S E L → ℕ → ViewAndSlots X S E L → Type 0
  advanced first es st m n m' = m' ≡ (adding (first m.0.start) m.0 es, m.1)

  -- the swap that frees the turn
  abbrev pub freed : List L → Step (Option X) → ViewAndSlots X S E L → ℕ → ViewAndSlots X S E L → Type 0
  freed ls st m n m' = m' ≡ (resting m.0 st.first ls, rest m.1)

module _ {X S E L : Type 0} (stands : X → S → List E → Type 0) (first first_faults : S → ℕ) (faults_of : X → ℕ) (loans_of : X → List L) where
  -- the value x is out with the pass, and stands for all entries; what the pass owns is no more than there is
  pub record TookValue (m : ViewAndSlots X S E L) (x : X) (out : List (ℕ × Option X)) (m' : ViewAndSlots X S E L) : Type 0 where
    pub entries : List E
    pub now : m' ≡ (holding m.0 entries (faults_of x) (loans_of x), out)
    pub stands_for : stands x m.0.start entries
    pub seen : StartsWith entries m.0.seen
    pub faults : m.0.faults + first_faults m.0.start ≤ faults_of x
    pub own : IsAmong m.0.own (numbers_after (first m.0.start) (length entries))
    pub loans : IsAmong m.0.loans (loans_of x)

  -- the swap with `held`: it found `held` and nothing happened, or the turn is the pass's and the value is out
  abbrev pub took : Step (Option X) → ViewAndSlots X S E L → ℕ → ViewAndSlots X S E L → Type 0
  took st m n m' = (n ≡ held → m' ≡ m) × (n ≢ held → (x : X) × TookValue m x ((0, Some x) ∷ m.1) m')
