-- A file is of one list of series, and then nothing is wrong with it.
use Rattle.std.proofs.Common.{◌≡◌, ℕ, List, []}
use Rattle.shard_disk.specs.declared.damage.Damage.{Damage}
use Rattle.shard_disk.specs.Directory.{Directory, HasFile}
use Rattle.gate_log.specs.declared.log.Gate.{Gate}
use Rattle.gate_log.specs.Log.{FoundBy}
use Rattle.gate_log.specs.Records.{AllFit, IsGated, Spells}
use Rattle.gate_log.proofs.FollowingLemmas.{file_gated, strange_read}
use Rattle.gate_log.proofs.FollowingLemmas as following
use Rattle.series_store.specs.Lists.{Hold, series_grammar}
use Rattle.series_store.specs.Reading.{IsSeriesFile, IsWrong, StandsBehind}
use Rattle.series_store.proofs.HoldLemmas.{hold_fit, series_exact}

pub records_file : (bytes : List ℕ) (records : List (List ℕ)) (series : List (List ℕ)) → Hold records series → IsGated records bytes → IsSeriesFile series bytes
records_file bytes records series hold gated = file_gated series_grammar [] series records bytes (hold_fit records [] series hold) hold gated

pub one_file : (bytes : List ℕ) (some other : List (List ℕ)) → IsSeriesFile some bytes → IsSeriesFile other bytes → some ≡ other
one_file bytes some other a b = following.one_file series_grammar series_exact [] some other bytes a b

pub never_wrong : (bytes : List ℕ) (number : ℕ) (series : List (List ℕ)) (damage : Damage) → IsSeriesFile series bytes → IsWrong number damage bytes → ⊥
never_wrong bytes number series damage file wrong = following.never_wrong series_grammar series_exact [] series bytes damage number file wrong

pub one_wrong : (bytes : List ℕ) (number : ℕ) (some other : Damage) → IsWrong number some bytes → IsWrong number other bytes → some ≡ other
one_wrong bytes number some other a b = following.one_wrong series_grammar series_exact [] bytes some other number a b

pub strange_file : (damage : Damage) (number : ℕ) (gate : Gate) (records : List (List ℕ)) (files : Directory) → AllFit records → HasFile files number (Spells records (FoundBy gate)) → StandsBehind damage number records → HasFile files number (IsWrong number damage)
strange_file damage number gate records files fit found strange = strange_read series_grammar [] damage number gate records files fit strange found
