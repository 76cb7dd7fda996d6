-- What is left of a client tells what its session says of itself.
use Rattle.std.proofs.Common.{◌≡◌, ◌≢◌, ℕ, List, [], ◌++◌, IsTrue, Option, Some, None, refl, sym, ap, ◌∙◌, subst}
use Rattle.std.specs.Prelude.{IfSome}
use Rattle.shard_disk.specs.Health.{Health, Rose, Failed}
use Rattle.session_io.specs.declared.report.End.{End}
use Rattle.session_io.specs.declared.report.End.TheVariants.{Read, SourceFault, SinkFault, Memory}
use Rattle.session_io.specs.Streams.{Grows, IsTold}
use Rattle.session_io.specs.Clients.{Closed}
use Rattle.tsm_server.specs.Outcomes.{HasEnded}

-- what a fresh object tells is all that was added
pub told_fresh : {X : Type 0} (before now : Option (List X)) (more : List X) → IfSome before (λ xs. xs ≡ []) → Grows before now more → IsTold now more
told_fresh {X} None now more fresh grows = subst (λ (o : Option (List X)). IsTold o more) (sym grows) tt
told_fresh (Some before) None more fresh grows = tt
told_fresh (Some before) (Some now) more fresh grows = grows ∙ ap (λ xs. xs ++ more) fresh

-- a fault since the count was 0
pub rose_from_none : (old new : Health) → old.faults ≡ 0 → Failed old new → Rose 0 new.faults
rose_from_none old new none failed = subst (λ (n : ℕ). Rose n new.faults) none failed.rose

-- no fault since the count was 0
pub none_from_none : (old new : Health) → old.faults ≡ 0 → new ≡ old → new.faults ≡ 0
none_from_none old new none same = ap (λ (h : Health). h.faults) same ∙ none

pub has_ended : (closed : Closed) (end : End) → (end ≡ Read → IsTrue closed.ended) → (end ≡ SourceFault → Rose 0 closed.source_faults) → (end ≡ SinkFault → Rose 0 closed.sink_faults)
    → (end ≢ SourceFault → closed.source_faults ≡ 0) → (end ≢ SinkFault → closed.sink_faults ≡ 0) → HasEnded closed end
has_ended closed Read read source sink no_source no_sink = (read refl, no_source (λ same. cc same), no_sink (λ same. cc same))
has_ended closed SourceFault read source sink no_source no_sink = (source refl, no_sink (λ same. cc same))
has_ended closed SinkFault read source sink no_source no_sink = (sink refl, no_source (λ same. cc same))
has_ended closed Memory read source sink no_source no_sink = (no_source (λ same. cc same), no_sink (λ same. cc same))
