-- What every crash leaves of a log, and when its file is closed.
use Rattle.std.proofs.Common.{◌≡◌, ◌≢◌, ◌<◌, ◌^◌, ⊎_elim, ℕ, List, [], ◌∷◌, ◌++◌, length, refl, subst, Option}
use Rattle.shard_disk.specs.Crash.{Crashes}
use Rattle.shard_disk.specs.Directory.{Directory, HasFile}
use Rattle.shard_disk.proofs.Everywhere.{file_weaker}
use Rattle.gate_log.specs.declared.log.Gate.{Gate}
use Rattle.gate_log.specs.declared.log.Gate.TheVariants.{Shut, Missing, InDoubt}
use Rattle.gate_log.specs.declared.log.Log.{Log}
use Rattle.gate_log.specs.Log.{EndsBy, FoundBy, HasGate, Stands, doubtful}
use Rattle.gate_log.specs.Records.{AllFit, IsClosed, IsGated, Spells, WithAtMost}
use Rattle.gate_log.proofs.Settling.{counts_as}

-- a closed gate is one
pub shut_has : (log : Log) → log.gate ≡ Shut → HasGate log
shut_has log shut missing = cc (shut, missing)

-- of a log with a gate every crash leaves its records, with the one in doubt or without
pub log_image : (files : Directory) (crashes : Crashes) (log : Log) (records : List (List ℕ)) (doubt : Option (List ℕ)) (file : ℕ) (P : List ℕ → Type 0) → log.file ≡ file → HasGate log → Stands files crashes log records doubt
    → ((bytes : List ℕ) → WithAtMost records (doubtful doubt) bytes → P bytes) → (image : Directory) → crashes.now image → HasFile image file P
log_image files crashes log records doubt file P own gate stands so image now =
    subst (λ (n : ℕ). HasFile image n P) own
    (file_weaker log.file (Spells records (EndsBy log.gate doubt)) P (λ bytes is. so bytes (counts_as log.gate records doubt gate bytes is)) image (stands.file.left image now))

-- and so it reads
pub log_reads : (files : Directory) (crashes : Crashes) (log : Log) (records : List (List ℕ)) (doubt : Option (List ℕ)) (file : ℕ) (P : List ℕ → Type 0) → log.file ≡ file → HasGate log → Stands files crashes log records doubt
    → ((bytes : List ℕ) → WithAtMost records (doubtful doubt) bytes → P bytes) → HasFile files file P
log_reads files crashes log records doubt file P own gate stands so =
    subst (λ (n : ℕ). HasFile files n P) own
    (file_weaker log.file (Spells records (EndsBy log.gate doubt)) P (λ bytes is. so bytes (counts_as log.gate records doubt gate bytes is)) files stands.file.read)

fit_more : (records : List (List ℕ)) (body : List ℕ) → AllFit records → length body < 2 ^ 32 → AllFit (records ++ body ∷ [])
fit_more [] body fit short = (short, tt)
fit_more (x ∷ records) body fit short = (fit.0, fit_more records body fit.1 short)

-- records with at most one of these more are a closed log
pub at_most_closed : (records more : List (List ℕ)) (bytes : List ℕ) → AllFit records → AllFit more → WithAtMost records more bytes → IsClosed bytes
at_most_closed records [] bytes fit fits gated = record { records = records; fit = fit; gated = gated }
at_most_closed records (body ∷ more) bytes fit fits is =
    ⊎_elim (λ longer. record { records = records ++ body ∷ []; fit = fit_more records body fit fits.0; gated = longer }) (at_most_closed records more bytes fit fits.1) is

found_at : (gate : Gate) (records : List (List ℕ)) (bytes : List ℕ) → gate ≢ Missing → Spells records (FoundBy gate) bytes → IsGated records bytes
found_at Shut records bytes has found = found
found_at Missing records bytes has found = absurd (has refl)
found_at InDoubt records bytes has found = absurd found.ending

-- a log that was read and has a gate is its records behind open gates, and a closed one
pub found_gated : (log : Log) (records : List (List ℕ)) (bytes : List ℕ) → HasGate log → Spells records (FoundBy log.gate) bytes → IsGated records bytes
found_gated log records bytes has found = found_at log.gate records bytes has found
