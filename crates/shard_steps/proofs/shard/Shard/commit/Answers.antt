-- The entry is in the logs and in memory, or in neither.
use Rattle.std.proofs.Common.{◌≡◌, ◌⊎◌, ◌≤◌, ◌++◌, ◌∷◌, [], ℕ, List, refl, sym, ap, ◌∙◌, subst, ⊎_elim, inl, inr, Option, append-nil}
use Rattle.point_model.specs.Histories.{with_points}
use Rattle.point_model.specs.Points.{Points}
use Rattle.live_points.specs.Live.{Live}
use Rattle.wal_store.specs.Segments.{last_number}
use Rattle.shard_state.specs.Engine.{IsLeftEntry, series_in}
use Rattle.std.specs.Prelude.{IsErrOf}
use Rattle.std.proofs.Common.{Err}
use Rattle.shard_disk.specs.declared.trouble.Trouble.{Trouble}
use Rattle.shard_disk.specs.declared.trouble.Trouble.TheVariants as trouble
use Rattle.point_model.specs.Acceptance.{IsAccepted}
use Rattle.point_model.specs.declared.entry.Entry.{Entry}
use Rattle.point_model.specs.declared.entry.Entry.TheVariants.{Write}
use Rattle.shard_state.specs.History.{Made}
use Rattle.shard_steps.specs.declared.shard.Shard.{Shard}
use Rattle.shard_steps.specs.Calls.Write.IsTried.{Touched}
use Rattle.shard_steps.proofs.GoingOn.{runs_entry, runs_on}
use Rattle.shard_steps.specs.Calls.Write.{Keeps}
use Rattle.shard_steps.proofs.shard.Shard.commit.Goals as goal

pub returns-in-Ok-clause-commits : goal.returns-in-Ok-clause-commits
returns-in-Ok-clause-commits g c =
    let counts = c.in-Ok.ensures.counts in
    let old = c.args.self.now in
    record {
      ok = (
        ap (λ (p : Points). record { points = p; number = c.enter.new.self.number }) (ap (λ (l : Live). l.points) c.insert.ensures)
            ∙ ap (λ (n : ℕ). record { points = with_points old.live.points c.args.batch.now; number = n }) counts.number,
        c.number.ensures,
        subst (λ (n : ℕ). n ≤ last_number) (sym c.number.ensures) c.in-Ok.ensures.ready.limit,
        counts.keys,
      );
      err = record {};
      kept = record { settings = refl; views = refl; more = series_in c.args.prepared.series; series = counts.keys };
      series = inr counts.keys;
      handed_out = c.in-Ok.ensures.handed_out;
      undecided = record {};
      cause = record {};
    }

-- the series that may be held after a refusal
kept : {D : Type 0} (old new : Shard D) (more : List (List ℕ)) → new.settings ≡ old.settings → new.views ≡ old.views
    → (new.logs.series.keys ≡ old.logs.series.keys) ⊎ (new.logs.series.keys ≡ old.logs.series.keys ++ more) → Keeps old new
kept old new more settings views = ⊎_elim
    (λ same. record { settings = settings; views = views; more = []; series = same ∙ sym (append-nil old.logs.series.keys) })
    (λ held. record { settings = settings; views = views; more = more; series = held })

pub returns-in-Err-Memory-clause-commits : goal.returns-in-Err-Memory-clause-commits
returns-in-Err-Memory-clause-commits g c =
    let counts = c.in-Err-Memory.ensures.counts in
    record {
      ok = record {};
      err = ap (λ (n : ℕ). record { points = c.args.self.now.live.points; number = n }) counts.same_number;
      kept = kept c.args.self.now _ (series_in c.args.prepared.series) refl refl counts.maybe_keys;
      series = counts.maybe_keys;
      handed_out = c.in-Err-Memory.ensures.handed_out;
      undecided = λ is. is;
      cause = tt;
    }

is_fault : (e : Trouble) → e ≡ trouble.Fault → IsErrOf {T = Unit {0}} (Err e) trouble.Fault
is_fault trouble.Fault is = refl
is_fault trouble.Memory is = absurd (cc is)

pub returns-in-Err-Fault-clause-commits : goal.returns-in-Err-Fault-clause-commits
returns-in-Err-Fault-clause-commits g c =
    let counts = c.in-Err-Fault.ensures.counts in
    record {
      ok = record {};
      err = ap (λ (n : ℕ). record { points = c.args.self.now.live.points; number = n }) counts.same_number;
      kept = kept c.args.self.now _ (series_in c.args.prepared.series) refl refl counts.maybe_keys;
      series = counts.maybe_keys;
      handed_out = c.in-Err-Fault.ensures.handed_out;
      undecided = λ is. is;
      cause = c.in-Err-Fault.ensures.fault.fault (is_fault c.in-Err-Fault.field-0 c.in-Err-Fault.field-0-is);
    }

no_fault : {A : Type 0} (e : Trouble) → e ≡ trouble.Memory → IsErrOf {T = Unit {0}} (Err e) trouble.Fault → A
no_fault trouble.Fault is of = absurd (cc is)
no_fault trouble.Memory is of = absurd (cc of)

-- what is in doubt after a fault, told by another word for it
left_by : {fault other : Type 0} {doubt : Option Entry} {entry : Entry} {left : Option Entry} → (fault → other) → IsLeftEntry fault doubt entry left → IsLeftEntry other doubt entry left
left_by leads = ⊎_elim (λ none. inl none) (⊎_elim (λ was. inr (inl was)) (λ this. inr (inr (leads this.0, this.1))))

pub returns-in-Ok-clause-goes_on : goal.returns-in-Ok-clause-goes_on
returns-in-Ok-clause-goes_on g c =
    let old = c.args.self.now in
    let points = c.args.batch.now in
    record {
      ok = λ told start since made refused doubt runs.
          let m : Made = record { entry = Write c.args.client points; moment = (g.D.Disk.crashes c.enter.new.self.disk).moment } in
          runs_entry g.D.Disk old _ start since made refused doubt runs m
          (c.in-Ok.ensures.goes_on.ok told start since made refused doubt (Write c.args.client points) runs.logs c.requires.record
          (c.requires.held, c.requires.writable, subst (λ (p : Points). IsAccepted p points) runs.points c.requires.accepted))
          (ap (λ (l : Live). l.points) c.insert.ensures);
      stays = record {};
    }

pub returns-in-Err-Memory-clause-goes_on : goal.returns-in-Err-Memory-clause-goes_on
returns-in-Err-Memory-clause-goes_on g c =
    let old = c.args.self.now in
    let points = c.args.batch.now in
    record {
      ok = record {};
      stays = λ told start since made refused doubt runs.
          let r = c.in-Err-Memory.ensures.goes_on.stays told start since made refused doubt (Write c.args.client points) runs.logs c.requires.record
          (c.requires.held, c.requires.writable, subst (λ (p : Points). IsAccepted p points) runs.points c.requires.accepted) in
          (refused ++ (old.logs.number, Write c.args.client points) ∷ [], r.0, Touched refl (left_by (λ is. no_fault c.in-Err-Memory.field-0 c.in-Err-Memory.field-0-is is) r.1), runs_on g.D.Disk old _ start since made refused doubt runs (refused ++ (old.logs.number, Write c.args.client points) ∷ []) r.0 r.2 refl);
    }

pub returns-in-Err-Fault-clause-goes_on : goal.returns-in-Err-Fault-clause-goes_on
returns-in-Err-Fault-clause-goes_on g c =
    let old = c.args.self.now in
    let points = c.args.batch.now in
    record {
      ok = record {};
      stays = λ told start since made refused doubt runs.
          let r = c.in-Err-Fault.ensures.goes_on.stays told start since made refused doubt (Write c.args.client points) runs.logs c.requires.record
          (c.requires.held, c.requires.writable, subst (λ (p : Points). IsAccepted p points) runs.points c.requires.accepted) in
          (refused ++ (old.logs.number, Write c.args.client points) ∷ [], r.0, Touched refl (left_by (λ is. refl) r.1), runs_on g.D.Disk old _ start since made refused doubt runs (refused ++ (old.logs.number, Write c.args.client points) ∷ []) r.0 r.2 refl);
    }
