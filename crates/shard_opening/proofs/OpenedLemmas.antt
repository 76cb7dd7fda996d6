-- An engine over logs that were opened.
use Rattle.std.proofs.Common.{◌≡◌, ℕ, List, [], ◌∷◌, inl, refl, sym, ap, ◌∙◌, subst, None, Result, Ok, Err, IsTrue}
use Rattle.std.specs.Prelude.{IfOk, IfErr}
use Rattle.std.specs.declared.alloc.Global.{Global}
use Rattle.shard_disk.specs.Crash.{Leaves, Same}
use Rattle.shard_disk.specs.Directory.{Directory, HasFile}
use Rattle.shard_disk.specs.HandedOut.{HandedOut}
use Rattle.shard_disk.specs.declared.damage.Damage.{Damage}
use Rattle.shard_disk.specs.declared.disk.Disk.{Ghosts}
use Rattle.shard_disk.proofs.Runs.{NoneBefore}
use Rattle.gate_log.specs.declared.fault.LogFault.{LogFault}
use Rattle.gate_log.specs.declared.fault.LogFault.TheVariants.{Damaged}
use Rattle.point_model.specs.Histories.{State, nothing}
use Rattle.point_model.specs.Points.{no_points}
use Rattle.manifest_log.specs.declared.directory.Directory.{Directory as Named}
use Rattle.manifest_log.specs.Edits.{names}
use Rattle.manifest_log.specs.Reading.{IsFresh, IsManifest, manifest}
use Rattle.manifest_log.proofs.OnceLemmas.{one_manifest}
use Rattle.shard_state.specs.Books.{state_in}
use Rattle.shard_state.specs.Crashes.{LeavesOnly}
use Rattle.shard_state.specs.Creating.{Creates}
use Rattle.shard_state.specs.Creating as creating
use Rattle.shard_state.specs.History.{Ran}
use Rattle.shard_state.specs.Meaning.{Stands}
use Rattle.shard_state.specs.declared.logs.Logs.{Logs}
use Rattle.shard_state.proofs.GoingOn.{ran_begins}
use Rattle.shard_state.proofs.Images.{image_now}
use Rattle.shard_state.proofs.Leaving.{leaves_still}
use Rattle.shard_state.proofs.Standing.{image_stands}
use Rattle.shard_recover.specs.Damage.{IsFirstDamage}
use Rattle.shard_recover.specs.Opening.{HasOnly, LeavesState, Removes, logs_on}
use Rattle.shard_recover.specs.Standing.{Stood}
use Rattle.shard_recover.specs.declared.parts.Parts.{Parts}
use Rattle.shard_recover.proofs.OpeningLemmas.{both}
use Rattle.shard_recover.proofs.ReadLemmas.{fresh_unnamed}
use Rattle.shard_recover.proofs.StandingLemmas.{one_state, sound_stands, undamaged}
use Rattle.shard_recover.proofs.SweepLemmas.{removes_same, removes_then}
use Rattle.shard_steps.specs.Shards.{state_of}
use Rattle.shard_steps.specs.declared.shard.Shard.{Shard}
use Rattle.shard_opening.specs.Opening.{AnswersLogs, Begins, IsLeft, KeepsNamed, OpensLogs, Refuses, Settles, StandsOn}
use Rattle.shard_opening.specs.declared.filling.Filling.{Filling}

-- ---- the engine

module _ {D R W : Type 0} (g : Ghosts D R W) (disk : D) (shard : Shard D) (answers : IsTrue g.tells → StandsOn g disk shard.logs.disk (state_of shard) shard.logs.series.keys) (logs : OpensLogs g disk shard.logs) where
  -- a directory stands for one state
  pub begins : LeavesState g disk shard.logs.disk → Begins g disk shard
  begins leaves told state sound =
      let o = logs told state sound.sound in
      let run = subst (λ (s : State). LeavesOnly (λ (c : Directory). Stands c s) (g.crashes disk) (g.crashes shard.logs.disk)) o.is (leaves told state sound) in
      let stands = sound_stands g disk state sound.sound in
      let a = answers told in
      let same = one_state (g.files disk) (state_of shard) state shard.logs.series.keys stands.0 a.stood stands.1 in
      record {
        logs = subst (λ (s : State). Ran g shard.logs s (g.crashes disk).moment [] [] None) (sym o.is) (ran_begins g disk shard.logs o.books run o.holds);
        points = ap (λ (s : State). s.points) same.0;
      }

  -- what a crash leaves from now on stands for the state of the logs
  pub settles : NoneBefore (g.crashes shard.logs.disk) → Settles g disk shard
  settles none told state sound =
      let o = logs told state sound in
      let stands = sound_stands g disk state sound in
      let a = answers told in
      let same = one_state (g.files disk) (state_of shard) state shard.logs.series.keys stands.0 a.stood stands.1 in
      let run = leaves_still (λ (c : Directory). Stands c (state_in o.books)) (g.crashes shard.logs.disk) none
      (λ c now. image_stands o.books [] o.holds.keeps.sound tt c (image_now (g.files shard.logs.disk) (g.crashes shard.logs.disk) shard.logs.manifest.log shard.logs.series shard.logs.wal o.books None o.holds.keeps c now)) in
      record {
        logs = subst (λ (s : State). Ran g shard.logs s (g.crashes shard.logs.disk).moment [] [] None) (sym o.is) (ran_begins g shard.logs.disk shard.logs o.books run o.holds);
        points = ap (λ (s : State). s.points) same.0;
      }

-- ---- the logs

module _ {D R W : Type 0} (g : Ghosts D R W) (disk : D) (filling : Filling) where
  -- files that stand for a state have no damage
  refuses_none : (new : D) (why : LogFault) (state : State) (series : List (List ℕ)) → ((damage : Damage) → why ≡ Damaged damage → ⊥) → Stood (g.files disk) state series → Refuses g disk new why
  refuses_none new why state series never stood = record {
    place = λ damage is. absurd (never damage is);
    left = λ damage first. absurd (undamaged (g.files disk) state series damage stood first);
  }

  -- what was read was joined
  pub answers_joined : (alloc : Global) (parts : Parts) (r : Result (Logs D) (D × LogFault)) → IfOk r (λ logs. logs ≡ logs_on alloc logs.disk parts)
      → IfErr r (λ refused. (damage : Damage) → refused.1 ≡ Damaged damage → ⊥) → (IsTrue g.tells → Stood (g.files disk) (record { points = filling.live.points; number = parts.wal.last }) parts.series.keys)
      → (IsTrue g.tells → HasFile (g.files disk) manifest (IsManifest parts.named)) → IfOk r (λ logs. IsTrue g.tells → HasOnly (0 ∷ names parts.named) (g.files logs.disk)) → AnswersLogs g disk filling r
  answers_joined alloc parts (Ok logs) are never stood named only = λ told. record {
    stood = subst (λ l. Stood (g.files disk) (record { points = filling.live.points; number = l.number }) l.series.keys) (sym are) (stood told);
    only = λ n is.
        let same : parts.named ≡ n = both (IsManifest parts.named) (IsManifest n) (g.files disk) manifest (named told) is (λ bytes x y. one_manifest bytes parts.named n x y) in
        subst (λ (m : Named). HasOnly (0 ∷ names m) (g.files logs.disk)) same (only told);
  }
  answers_joined alloc parts (Err refused) are never stood named only = λ told. refuses_none refused.0 refused.1 (record { points = filling.live.points; number = parts.wal.last }) parts.series.keys never (stood told)

  -- nothing was named, and the first files were made
  pub answers_new : (r : Result (Logs D) (D × LogFault)) → IfOk r (λ logs. (logs.series.keys ≡ []) × (logs.number ≡ 0))
      → IfErr r (λ refused. IsTrue g.tells → (damage : Damage) → refused.1 ≡ Damaged damage → ⊥) → (IsTrue g.tells → IsFresh (g.files disk)) → filling.live.points ≡ no_points → AnswersLogs g disk filling r
  answers_new (Ok logs) first never fresh none = λ told. record {
    stood = inl (fresh told, (λ i. record { points = none i; number = first.1 i }), first.0);
    only = λ n is. absurd (fresh_unnamed (g.files disk) n (fresh told) is);
  }
  answers_new (Err refused) first never fresh none = λ told. refuses_none refused.0 refused.1 nothing [] (never told) (inl (fresh told, refl, refl))

  -- it was read, and refused
  pub answers_refused : (new : D) (why : LogFault) → ((damage : Damage) → why ≡ Damaged damage → IsTrue g.tells → IsFirstDamage damage (g.files disk)) → g.files new ≡ g.files disk → Leaves Same (g.crashes disk) (g.crashes new)
      → g.handed_out new ≡ g.handed_out disk → IsTrue g.tells → Refuses g disk new why
  answers_refused new why first files crash handed told = record {
    place = λ damage is. first damage is told;
    left = λ damage is. record { files = files; crash = crash; handed_out = handed };
  }

pub creates : {D R W : Type 0} (g : Ghosts D R W) (disk : D) (r : Result (Logs D) (D × LogFault)) → IfOk r (λ logs. Creates g disk logs.disk) → IfErr r (λ refused. Creates g disk refused.0) → Creates g disk (creating.disk_of r)
creates g disk (Ok logs) ok err = ok
creates g disk (Err refused) ok err = err

-- ---- the files that are named

module _ {D R W : Type 0} (g : Ghosts D R W) (disk mid : D) (files : g.files mid ≡ g.files disk) (crash : Leaves Same (g.crashes disk) (g.crashes mid)) (handed : g.handed_out mid ≡ g.handed_out disk) where
  -- nothing was done but to read
  pub keeps_read : KeepsNamed g disk mid
  keeps_read = record {
    readers = ap (λ (h : HandedOut). h.readers) handed;
    named = λ told n is. removes_same g (0 ∷ names n) disk mid files crash handed;
  }

  -- the others were removed
  pub keeps_joined : (new : D) (named : Named) → (IsTrue g.tells → HasFile (g.files disk) manifest (IsManifest named)) → Removes g (0 ∷ names named) mid new → KeepsNamed g disk new
  keeps_joined new named is_named removes = record {
    readers = removes.readers ∙ ap (λ (h : HandedOut). h.readers) handed;
    named = λ told n is.
        let same : named ≡ n = both (IsManifest named) (IsManifest n) (g.files disk) manifest (is_named told) is (λ bytes x y. one_manifest bytes named n x y) in
        removes_then g (0 ∷ names n) disk mid new (removes_same g (0 ∷ names n) disk mid files crash handed) (subst (λ (m : Named). Removes g (0 ∷ names m) mid new) same removes);
  }

  -- nothing was named
  pub keeps_new : (new : D) → (IsTrue g.tells → IsFresh (g.files disk)) → (g.handed_out new).readers ≡ (g.handed_out mid).readers → KeepsNamed g disk new
  keeps_new new fresh readers = record {
    readers = readers ∙ ap (λ (h : HandedOut). h.readers) handed;
    named = λ told n is. absurd (fresh_unnamed (g.files disk) n (fresh told) is);
  }
