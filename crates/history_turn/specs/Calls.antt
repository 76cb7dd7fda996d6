-- What the calls of a turn tell a pass, each from the pass before (p) to the pass after (q).
use Rattle.std.specs.Prelude.{◌≡◌, ℕ, ◌+◌, ◌≤◌, List, length, Some}
use Rattle.history_turn.specs.declared.view.PassView.{PassView}
use Rattle.history_turn.specs.Histories.{StartsWith, numbers_after}
use Rattle.history_turn.specs.Owned.{SameItems, IsAmong}
use Rattle.history_turn.specs.Passes.{Known, viewing}
use Rattle.history_turn.specs.Views.{looking, holding, joined}

module _ {S E L F : Type 0} where
  -- `number`: the count was loaded in this call, and counts the entries that the pass now knows. Each number that the
  -- pass owns is that of one of these, and none is owned twice.
  pub record Numbered (first : S → ℕ) (p : Known S E L F) (number : ℕ) (q : Known S E L F) : Type 0 where
    pub entries : List E
    pub now : q ≡ viewing p (looking p.view entries)
    pub counts : number ≡ first p.view.start + length entries
    pub seen : StartsWith entries p.view.seen
    pub own : IsAmong p.view.own (numbers_after (first p.view.start) (length entries))

  -- `join` and `learn`: the pass owns what either owned, and knows a history that begins with what either had seen
  pub record Joined (first : S → ℕ) (p other q : Known S E L F) : Type 0 where
    pub entries : List E
    pub now : q ≡ viewing p (looking (joined p.view other.view) entries)
    pub seen : StartsWith entries p.view.seen
    pub told : StartsWith entries other.view.seen
    pub own : IsAmong q.view.own (numbers_after (first p.view.start) (length entries))

module _ {X S E L : Type 0} (stands : X → S → List E → Type 0) (first first_faults : S → ℕ) (faults_of : X → ℕ) (loans_of : X → List L) where
  -- `take`: the pass has the turn and the value x, whose facts it remembers. The value stands for all that the pass
  -- then knows. Each number that the pass owns is one of the history's, and each of its loans is one of the value's.
  pub record Taken {F : Type 0} (p : Known S E L F) (x : X) (facts : F) (q : Known S E L F) : Type 0 where
    pub entries : List E
    pub now : q ≡ record { turn = p.turn; view = holding p.view entries (faults_of x) (loans_of x); before = Some facts }
    pub stands_for : stands x p.view.start entries
    pub seen : StartsWith entries p.view.seen
    pub faults : p.view.faults + first_faults p.view.start ≤ faults_of x
    pub own : IsAmong p.view.own (numbers_after (first p.view.start) (length entries))
    pub loans : IsAmong p.view.loans (loans_of x)

  -- `close`, of a pass with this view that has all parts: the entries since the start are exactly those whose numbers
  -- it owns, the loans of the value exactly its loans, and its faults are no more than the value has had since.
  pub record Closed (v : PassView S E L) (x : X) : Type 0 where
    pub entries : List E
    pub stands_for : stands x v.start entries
    pub seen : StartsWith entries v.seen
    pub own : SameItems v.own (numbers_after (first v.start) (length entries))
    pub faults : v.faults + first_faults v.start ≤ faults_of x
    pub loans : SameItems v.loans (loans_of x)
