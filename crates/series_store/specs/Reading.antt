-- Which series is a file read as, and what is wrong with another?
use Rattle.std.specs.Prelude.{ℕ, List, []}
use Rattle.shard_disk.specs.declared.damage.Damage.{Damage}
use Rattle.gate_log.specs.Following.{IsFileOf}
use Rattle.gate_log.specs.Following as following
use Rattle.series_store.specs.Lists.{Takes, series_grammar}

-- the records of the file hold these series
abbrev pub IsSeriesFile : List (List ℕ) → List ℕ → Type 0
IsSeriesFile series bytes = IsFileOf series_grammar [] series bytes

-- The body is of no record that may follow these series: it has another form, a series that stands there already or twice in it, or
-- too many.
abbrev pub MayNotFollow : List (List ℕ) → List ℕ → Type 0
MayNotFollow series body = (all : List (List ℕ)) → Takes series body all → ⊥

-- among the records one stands behind others that hold series, and may not follow: it is named at its gate
abbrev pub StandsBehind : Damage → ℕ → List (List ℕ) → Type 0
StandsBehind damage number records = following.StandsBehind series_grammar [] damage number records

-- what the file of this number is wrong by: its log, or a record
abbrev pub IsWrong : ℕ → Damage → List ℕ → Type 0
IsWrong number damage bytes = following.IsWrong series_grammar [] damage number bytes
