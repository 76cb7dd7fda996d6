-- What stops an item stops those that begin with it.
use Rattle.std.proofs.Common.{◌≡◌, ◌≢◌, ℕ, List, ◌++◌, Result, Err, IsErrAnd, sym, ap, ◌∙◌, subst}
use Rattle.std.proofs.lemmas.Result.{err_from_is_err_and}
use Rattle.index_file.specs.declared.stop.Stop.{Stop}
use Rattle.index_file.specs.declared.stop.Stop.TheVariants.{Wrong, Memory}
use Rattle.index_file.specs.Taking.{Takes}

-- no good item stands at the front of the bytes
abbrev pub StandsNone : {X : Type 0} → (X → Type 0) → (X → List ℕ) → List ℕ → Type 0
StandsNone {X} IsGood item_bytes bytes = (item : X) (more : List ℕ) → IsGood item → bytes ≢ item_bytes item ++ more

stop_of : {X Y : Type 0} (P : X → Type 0) (b : X → List ℕ) (Q : Y → Type 0) (d : Y → List ℕ) (stop : Stop) (old mid bytes new : List ℕ)
    → Takes P b (Err stop) old mid → (StandsNone P b old → StandsNone Q d bytes) → Takes Q d (Err stop) bytes new
stop_of P b Q d Wrong old mid bytes new none lift = lift none
stop_of P b Q d Memory old mid bytes new none lift = tt

-- the exit of a `?`
pub stopped : {X Y : Type 0} (P : X → Type 0) (b : X → List ℕ) (Q : Y → Type 0) (d : Y → List ℕ) (r : Result Y Stop) (stop : Stop) (old mid bytes new : List ℕ)
    → IsErrAnd r (λ e. e ≡ stop) → Takes P b (Err stop) old mid → (StandsNone P b old → StandsNone Q d bytes) → Takes Q d r bytes new
stopped {X} {Y} P b Q d r stop old mid bytes new err none lift =
    let is = err_from_is_err_and r err in
    subst (λ (r : Result Y Stop). Takes Q d r bytes new) (sym (is.1 ∙ ap Err is.2)) (stop_of P b Q d stop old mid bytes new none lift)

-- the same where memory ran out
pub without_memory : {Y : Type 0} (Q : Y → Type 0) (d : Y → List ℕ) (r : Result Y Stop) (bytes new : List ℕ) → IsErrAnd r (λ e. e ≡ Memory) → Takes Q d r bytes new
without_memory {Y} Q d r bytes new err =
    let is = err_from_is_err_and r err in
    subst (λ (r : Result Y Stop). Takes Q d r bytes new) (sym (is.1 ∙ ap Err is.2)) tt

-- the same where none stands there, whatever stopped it
pub stopped_none : {Y : Type 0} (Q : Y → Type 0) (d : Y → List ℕ) (r : Result Y Stop) (stop : Stop) (bytes new : List ℕ) → IsErrAnd r (λ e. e ≡ stop) → StandsNone Q d bytes → Takes Q d r bytes new
stopped_none {Y} Q d r stop bytes new err none =
    let is = err_from_is_err_and r err in
    subst (λ (r : Result Y Stop). Takes Q d r bytes new) (sym is.1) (by is.0)
  where
    by : (e : Stop) → Takes Q d (Err e) bytes new
    by Wrong = none
    by Memory = tt
