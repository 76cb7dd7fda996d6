-- What do the bodies of a log lead to, one after another, and where stands one that may not follow?
use Rattle.std.specs.Prelude.{◌≡◌, ◌⊎◌, ℕ, List, [], ◌∷◌, ◌++◌, length}
use Rattle.shard_disk.specs.declared.damage.Damage.{Damage}
use Rattle.shard_disk.specs.declared.damage.Why.{Why}
use Rattle.shard_disk.specs.declared.damage.Why.TheVariants.{Body}
use Rattle.gate_log.specs.Damage.{IsDamaged, IsLog}
use Rattle.gate_log.specs.Records.{spelled}

-- How the bodies of a log are read: which state a body makes of one, and why a body that makes none is strange there.
pub record Grammar (S : Type 0) : Type 1 where
  pub makes : S → List ℕ → S → Type 0
  pub strange : Why → S → List ℕ → Type 0

-- a body makes one state or is strange for one reason, and never both
pub record IsExact {S : Type 0} (grammar : Grammar S) : Type 0 where
  pub one : (old : S) (body : List ℕ) (some other : S) → grammar.makes old body some → grammar.makes old body other → some ≡ other
  pub never : (why : Why) (old : S) (body : List ℕ) (new : S) → grammar.makes old body new → grammar.strange why old body → ⊥
  pub reason : (some other : Why) (old : S) (body : List ℕ) → grammar.strange some old body → grammar.strange other old body → some ≡ other

-- A body that makes nothing is strange as a body, and for no other reason.
abbrev pub plain_grammar : {S : Type 0} → (S → List ℕ → S → Type 0) → Grammar S
plain_grammar {S} makes = record { makes = makes; strange = λ why old body. (why ≡ Body) × ((new : S) → makes old body new → ⊥) }

module _ {S : Type 0} (grammar : Grammar S) where
  -- the bodies make this state of another, one after the other
  abbrev pub Leads : S → List (List ℕ) → S → Type 0
  Leads old [] new = new ≡ old
  Leads old (body ∷ bodies) new = (next : S) × grammar.makes old body next × Leads next bodies new

  -- the file is a log whose bodies make this state of the first
  pub record IsFileOf (first last : S) (bytes : List ℕ) : Type 0 where
    pub records : List (List ℕ)
    pub log : IsLog records bytes
    pub lead : Leads first records last

  -- Behind bodies that make a state stands one that is strange there: it is named at its gate.
  pub record StandsBehind (first : S) (damage : Damage) (number : ℕ) (records : List (List ℕ)) : Type 0 where
    pub before : List (List ℕ)
    pub state : S
    pub body : List ℕ
    pub others : List (List ℕ)
    pub parts : records ≡ before ++ body ∷ others
    pub lead : Leads first before state
    pub strange : grammar.strange damage.why state body
    pub file : damage.file ≡ number
    pub gate : damage.offset ≡ length (spelled before)

  -- the file is a log, and a body of it is so
  pub record IsStrange (first : S) (damage : Damage) (number : ℕ) (bytes : List ℕ) : Type 0 where
    pub records : List (List ℕ)
    pub log : IsLog records bytes
    pub stands : StandsBehind first damage number records

  -- what the file of this number is wrong by: its log, or a body
  abbrev pub IsWrong : S → Damage → ℕ → List ℕ → Type 0
  IsWrong first damage number bytes = IsDamaged damage number bytes ⊎ IsStrange first damage number bytes
