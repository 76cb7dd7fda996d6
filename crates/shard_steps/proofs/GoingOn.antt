-- An engine's history goes on.
use Rattle.std.proofs.Common.{◌≡◌, ℕ, List, [], ◌∷◌, ◌++◌, refl, sym, ap, subst, ◌∙◌, Option, None, Result, Err}
use Rattle.std.specs.Prelude.{IfErr, IsErrOf}
use Rattle.std.proofs.Common.{◌⊎◌, ⊎_elim, inl, inr, Ok}
use Rattle.std.proofs.lemmas.List.{map-append}
use Rattle.shard_disk.specs.declared.disk.Disk.{Ghosts}
use Rattle.point_model.specs.Histories.{State, after_entry, state_after}
use Rattle.point_model.specs.Points.{Points}
use Rattle.point_model.specs.declared.entry.Entry.{Entry}
use Rattle.point_model.specs.declared.entry.Entry.TheVariants.{Write}
use Rattle.point_model.proofs.HistoryLemmas.{state_after-append}
use Rattle.tsdb_types.specs.declared.point.Point.{Point}
use Rattle.store_trait.specs.declared.fault.WriteFault.{WriteFault}
use Rattle.store_trait.specs.declared.fault.WriteFault.TheVariants as fault
use Rattle.gate_log.proofs.Results.{on_ok_then}
use Rattle.shard_state.specs.declared.logs.Logs.{Logs}
use Rattle.shard_state.specs.History.{Attempt, Made, Ran, entries_of}
use Rattle.shard_steps.specs.declared.shard.Shard.{Shard}
use Rattle.shard_steps.specs.Series.{AreUnheld}
use Rattle.shard_steps.specs.Shards.{Runs}
use Rattle.shard_steps.specs.Calls.Write.{AddsSeries, GoesOn, IsDecided, IsTried, Steps}
use Rattle.shard_steps.specs.Calls.Write.IsTried.{Untouched}
use Rattle.shard_steps.proofs.ResultLemmas.{on_err_then}

-- the points behind one entry more
points_more : (start : State) (made : List Made) (m : Made) (points : Points) → points ≡ (state_after start (entries_of made)).points
    → after_entry points m.entry ≡ (state_after start (entries_of (made ++ m ∷ []))).points
points_more start made m points is =
    ap (λ (p : Points). after_entry p m.entry) is
    ∙ sym (ap (λ (s : State). s.points) (state_after-append start (entries_of made) (m.entry ∷ [])))
    ∙ ap (λ (l : List Entry). (state_after start l).points) (sym (map-append (λ (x : Made). x.entry) made (m ∷ [])))

module _ {D R W : Type 0} (g : Ghosts D R W) (old new : Shard D) (start : State) (since : ℕ) (made : List Made) (refused : List Attempt) (doubt : Option Entry) (runs : Runs g old start since made refused doubt) where
  -- the logs have an entry more, and its points are set
  pub runs_entry : (m : Made) → Ran g new.logs start since (made ++ m ∷ []) refused None → new.live.points ≡ after_entry old.live.points m.entry → Runs g new start since (made ++ m ∷ []) refused None
  runs_entry m ran points = record { logs = ran; points = points ∙ points_more start made m old.live.points runs.points }

  -- the points stayed
  pub runs_on : (tried : List Attempt) (left : Option Entry) → Ran g new.logs start since made tried left → new.live.points ≡ old.live.points → Runs g new start since made tried left
  runs_on tried left ran points = record { logs = ran; points = points ∙ runs.points }

-- room in memory for series is none of a history
module _ {D R W : Type 0} (g : Ghosts D R W) where
  ran_roomy : (logs : Logs D) (room : ℕ) (start : State) (since : ℕ) (made : List Made) (refused : List Attempt) (doubt : Option Entry) → Ran g logs start since made refused doubt
      → Ran g (record logs { series = record logs.series { room = room } }) start since made refused doubt
  ran_roomy logs room start since made refused doubt ran =
      let keeps = ran.holds.keeps in
      record {
        books = ran.books;
        holds = record {
          keeps = record {
            sound = keeps.sound;
            manifest = keeps.manifest;
            keys = keeps.keys;
            series = keeps.series;
            layers = keeps.layers;
            earlier = keeps.earlier;
            latest = keeps.latest;
            segments = keeps.segments;
          };
          adopted = ran.holds.adopted;
          number = ran.holds.number;
        };
        is = ran.is;
        asked = ran.asked;
        survives = ran.survives;
      }

  pub runs_roomy : (old new : Shard D) (room : ℕ) → new.logs ≡ record old.logs { series = record old.logs.series { room = room } } → new.live.points ≡ old.live.points
      → (start : State) (since : ℕ) (made : List Made) (refused : List Attempt) (doubt : Option Entry) → Runs g old start since made refused doubt → Runs g new start since made refused doubt
  runs_roomy old new room logs points start since made refused doubt runs = record {
    logs = subst (λ (l : Logs D). Ran g l start since made refused doubt) (sym logs) (ran_roomy old.logs room start since made refused doubt runs.logs);
    points = points ∙ runs.points;
  }

  module _ (client : ℕ) (points : List Point) (old mid new : Shard D)
      (lift : (start : State) (since : ℕ) (made : List Made) (refused : List Attempt) (doubt : Option Entry) → Runs g old start since made refused doubt → Runs g mid start since made refused doubt) where
    -- a step behind one that leaves the history and its last number
    pub goes_behind : (result : Result ℕ WriteFault) → mid.logs.number ≡ old.logs.number → Steps g client points mid new result → Steps g client points old new result
    goes_behind result same goes = record {
      ok = on_ok_then result (λ step. λ told start since made refused doubt runs. step told start since made refused doubt (lift start since made refused doubt runs)) goes.ok;
      stays = on_err_then result
          (λ step. λ told start since made refused doubt runs.
          let left = step told start since made refused doubt (lift start since made refused doubt runs) in
          (left.0, left.1, subst (λ (n : ℕ). IsTried (IsErrOf result fault.Fault) n (Write client points) refused doubt left.0 left.1) same left.2, left.3)) goes.stays;
    }

    -- a refusal that leaves the history
    pub stays_as_it_was : (e : WriteFault) → Steps g client points old mid (Err e)
    stays_as_it_was e = record {
      ok = record {};
      stays = λ told start since made refused doubt runs. (refused, doubt, Untouched refl refl, lift start since made refused doubt runs);
    }

  -- a refusal before anything was done
  pub still : (client : ℕ) (points : List Point) (shard : Shard D) (e : WriteFault) → GoesOn g client points shard shard (Err e)
  still client points shard e = record {
    ok = record {};
    stays = λ told start since made refused doubt runs. (refused, doubt, Untouched refl refl, runs);
    untouched = λ is. refl;
    series = inl refl;
    handed_out = refl;
  }

-- what was held of series, or what was and the new ones
pub adds_series : (points : List Point) (old mid new prepared more : List (List ℕ)) → mid ≡ old → prepared ≡ more → AreUnheld old points more
    → (new ≡ mid) ⊎ (new ≡ mid ++ prepared) → AddsSeries points old new
adds_series points old mid new prepared more before are unheld = ⊎_elim
    (λ same. inl (same ∙ before))
    (λ added. inr (more, unheld, added ∙ ap (λ (l : List (List ℕ)). l ++ prepared) before ∙ ap (λ (l : List (List ℕ)). old ++ l) are))

pub undecided_changes : (A : Type 0) (result : Result ℕ WriteFault) → IfErr result (λ e. IsDecided e → ⊥) → IfErr result (λ e. IsDecided e → A)
undecided_changes A (Ok number) none = none
undecided_changes A (Err e) none = λ is. absurd (none is)
