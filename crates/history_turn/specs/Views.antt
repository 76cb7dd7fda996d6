-- What a pass knows and owns after each step.
use Rattle.std.specs.Prelude.{ℕ, ◌+◌, ◌-◌, List, [], ◌++◌, length, true, false}
use Rattle.history_turn.specs.declared.view.PassView.{PassView}
use Rattle.history_turn.specs.Histories.{numbers_after}

-- how many parts all passes and notes have together
abbrev pub all_parts : ℕ
all_parts = 4294967296

-- 1 where a count rose from `before` to `after`, and 0 where it is the same or lower
abbrev pub risen : ℕ → ℕ → ℕ
risen before after = 1 - (1 - (after - before))

module _ {S E L : Type 0} where
  -- the first pass, which has seen no entry, has all parts and owns nothing
  abbrev pub newcomer : S → PassView S E L
  newcomer s = record { start = s; seen = []; told = []; looks = 0; has_turn = false; faults_found = 0; loans_found = []; parts = all_parts; own = []; faults = 0; loans = [] }

  -- what is left where another pass took this one in: no part, and nothing owned
  abbrev pub spent : S → PassView S E L
  spent s = record { start = s; seen = []; told = []; looks = 0; has_turn = false; faults_found = 0; loans_found = []; parts = 0; own = []; faults = 0; loans = [] }

  -- it loaded the count of entries, and has seen them all
  abbrev pub looking : PassView S E L → List E → PassView S E L
  looking v es = record v { seen = es; told = []; looks = v.looks + 1 }

  -- it has the turn, has seen all entries, and found a value of n faults with these loans
  abbrev pub holding : PassView S E L → List E → ℕ → List L → PassView S E L
  holding v es n ls = record v { seen = es; told = []; has_turn = true; faults_found = n; loans_found = ls }

  -- it added these entries, and owns their numbers, which are the next ones
  abbrev pub adding : ℕ → PassView S E L → List E → PassView S E L
  adding first v es = record v { seen = v.seen ++ es; own = numbers_after (first + length v.seen) (length es) ++ v.own }

  -- it gave the turn back, with a value of n faults, and has these loans
  abbrev pub resting : PassView S E L → ℕ → List L → PassView S E L
  resting v n ls = record v { has_turn = false; faults_found = 0; loans_found = []; faults = v.faults + risen v.faults_found n; loans = ls }

  -- it gave n parts away, and nothing else
  abbrev pub cut : PassView S E L → ℕ → PassView S E L
  cut v n = record v { parts = v.parts - n }

  -- a pass that was split off with n parts: it has seen what the other has, and owns nothing
  abbrev pub part_of : PassView S E L → ℕ → PassView S E L
  part_of v n = record { start = v.start; seen = v.seen; told = v.told; looks = 0; has_turn = false; faults_found = 0; loans_found = []; parts = n; own = []; faults = 0; loans = [] }

  -- it took another in, with its parts and all that it owned, and was told what it had seen
  abbrev pub joined : PassView S E L → PassView S E L → PassView S E L
  joined v w = record v { told = w.seen; parts = v.parts + w.parts; own = v.own ++ w.own; faults = v.faults + w.faults; loans = v.loans ++ w.loans }
