-- Which health of the disk an answer tells, over several calls.
use Rattle.std.proofs.Common.{◌≡◌, sym, subst, Result, Ok, Err, Option, None, Some}
use Rattle.std.specs.Prelude.{IfOk, IfErr, IfNone, IsErrOf, IsErrAnd, OnOk}
use Rattle.std.proofs.lemmas.Result.{err_from_is_err_and}
use Rattle.shard_disk.specs.Health.{Health, Ages}
use Rattle.shard_disk.proofs.HealthLemmas.{ages_still}
use Rattle.gate_log.specs.Faults.{LogHasCause}
use Rattle.gate_log.specs.declared.fault.LogFault.{LogFault}
use Rattle.gate_log.specs.declared.fault.LogFault.TheVariants.{Fault}

-- an error is passed on
pub cause_passed : {T U : Type 0} (q : Result U LogFault) (e : LogFault) (old new : Health) → IsErrAnd q (λ x. x ≡ e) → LogHasCause {T = T} (Err e) old new → LogHasCause q old new
cause_passed q e old new is cause =
    let p = err_from_is_err_and q is in
    record { ages = cause.ages; fault = λ fault. cause.fault (cc (p.1, p.2, fault)); quiet = λ never. cause.quiet (λ fault. never (cc (p.1, p.2, fault))) }

-- the device was as healthy before the call
pub cause_since : {T : Type 0} (r : Result T LogFault) (old mid new : Health) → mid ≡ old → LogHasCause r mid new → LogHasCause r old new
cause_since r old mid new same cause = subst (λ (h : Health). LogHasCause r h new) same cause

-- no call failed
pub cause_still : {T : Type 0} (r : Result T LogFault) (old new : Health) → new ≡ old → (IsErrOf r Fault → ⊥) → LogHasCause r old new
cause_still r old new same never = record { ages = subst (Ages old) (sym same) (ages_still old); fault = λ is. absurd (never is); quiet = λ _. same }

-- ---- what holds of an answer

pub if_ok_map : {T E : Type 0} {P Q : T → Type 0} (r : Result T E) → ((x : T) → P x → Q x) → IfOk r P → IfOk r Q
if_ok_map (Ok x) leads p = leads x p
if_ok_map (Err e) leads p = tt

pub if_err_map : {T E : Type 0} {P Q : E → Type 0} (r : Result T E) → ((x : E) → P x → Q x) → IfErr r P → IfErr r Q
if_err_map (Ok x) leads p = tt
if_err_map (Err e) leads p = leads e p

pub if_none_at : {T A : Type 0} (o : Option T) → o ≡ None → IfNone o A → A
if_none_at None is a = a
if_none_at (Some x) is a = cc is

pub on_ok_then : {T E : Type 0} {P Q : Type 0} (r : Result T E) → (P → Q) → OnOk r P → OnOk r Q
on_ok_then (Ok x) leads p = leads p
on_ok_then (Err e) leads p = p
