-- The entry is in the log and its points are gone, or neither.
use Rattle.std.proofs.Common.{◌≡◌, ◌⊎◌, ◌≤◌, ◌++◌, ◌∷◌, [], ℕ, List, refl, sym, ap, ◌∙◌, subst, ⊎_elim, inl, inr, Option, None, Err, append-nil}
use Rattle.std.specs.Prelude.{IsErrOf}
use Rattle.point_model.specs.Deletions.{without}
use Rattle.point_model.specs.Points.{Points}
use Rattle.point_model.specs.declared.entry.Entry.{Entry}
use Rattle.point_model.specs.declared.entry.Entry.TheVariants.{Delete}
use Rattle.live_points.specs.Live.{Live}
use Rattle.shard_disk.specs.declared.trouble.Trouble.{Trouble}
use Rattle.shard_disk.specs.declared.trouble.Trouble.TheVariants as trouble
use Rattle.shard_state.specs.Engine.{IsLeftEntry, series_in}
use Rattle.shard_state.specs.History.{Made}
use Rattle.shard_steps.specs.Calls.Write.IsTried.{Touched}
use Rattle.wal_store.specs.Segments.{last_number}
use Rattle.shard_steps.proofs.GoingOn.{runs_entry, runs_on}
use Rattle.shard_steps.proofs.shard.Shard.commit_deletion.Goals as goal

-- no series comes with a deletion
no_more : (prepared : Option (List (List ℕ))) (old : List (List ℕ)) → prepared ≡ None → old ++ series_in prepared ≡ old
no_more prepared old none = ap (λ (o : Option (List (List ℕ))). old ++ series_in o) none ∙ append-nil old

same_keys : (prepared : Option (List (List ℕ))) (old new : List (List ℕ)) → prepared ≡ None → (new ≡ old) ⊎ (new ≡ old ++ series_in prepared) → new ≡ old
same_keys prepared old new none = ⊎_elim (λ same. same) (λ added. added ∙ no_more prepared old none)

pub returns-in-Ok-clause-ok : goal.returns-in-Ok-clause-ok
returns-in-Ok-clause-ok g c =
    let counts = c.in-Ok.ensures.counts in
    let old = c.args.self.now in
    record {
      state = ap (λ (p : Points). record { points = p; number = c.enter.new.self.number }) (ap (λ (l : Live). l.points) c.remove.ensures)
          ∙ ap (λ (n : ℕ). record { points = without old.live.points c.args.deletion.now; number = n }) counts.number;
      given = c.number.ensures;
      limit = subst (λ (n : ℕ). n ≤ last_number) (sym c.number.ensures) c.in-Ok.ensures.ready.limit;
    }

pub returns-in-Ok-clause-kept : goal.returns-in-Ok-clause-kept
returns-in-Ok-clause-kept g c = record {
  settings = refl;
  views = refl;
  series = c.in-Ok.ensures.counts.keys ∙ no_more c.args.prepared.series c.args.self.now.logs.series.keys c.requires.none;
  handed_out = c.in-Ok.ensures.handed_out;
}

pub returns-in-Err-Memory-clause-kept : goal.returns-in-Err-Memory-clause-kept
returns-in-Err-Memory-clause-kept g c = record {
  settings = refl;
  views = refl;
  series = same_keys c.args.prepared.series c.args.self.now.logs.series.keys c.enter.new.self.series.keys c.requires.none c.in-Err-Memory.ensures.counts.maybe_keys;
  handed_out = c.in-Err-Memory.ensures.handed_out;
}

pub returns-in-Err-Memory-clause-err : goal.returns-in-Err-Memory-clause-err
returns-in-Err-Memory-clause-err g c = ap (λ (n : ℕ). record { points = c.args.self.now.live.points; number = n }) c.in-Err-Memory.ensures.counts.same_number

no_fault : {A : Type 0} (e : Trouble) → e ≡ trouble.Memory → IsErrOf {T = Unit {0}} (Err e) trouble.Fault → A
no_fault trouble.Fault is of = absurd (cc is)
no_fault trouble.Memory is of = absurd (cc of)

-- what is in doubt after a fault, told by another word for it
left_by : {fault other : Type 0} {doubt : Option Entry} {entry : Entry} {left : Option Entry} → (fault → other) → IsLeftEntry fault doubt entry left → IsLeftEntry other doubt entry left
left_by leads = ⊎_elim (λ none. inl none) (⊎_elim (λ was. inr (inl was)) (λ this. inr (inr (leads this.0, this.1))))

pub returns-in-Ok-clause-goes_on : goal.returns-in-Ok-clause-goes_on
returns-in-Ok-clause-goes_on g c =
    let old = c.args.self.now in
    let entry : Entry = Delete c.args.client c.args.deletion.now in
    record {
      ok = λ told start since made refused doubt runs.
          let m : Made = record { entry = entry; moment = (g.D.Disk.crashes c.enter.new.self.disk).moment } in
          runs_entry g.D.Disk old _ start since made refused doubt runs m
          (c.in-Ok.ensures.goes_on.ok told start since made refused doubt entry runs.logs c.requires.record tt)
          (ap (λ (l : Live). l.points) c.remove.ensures);
      stays = record {};
      untouched = record {};
    }

pub returns-in-Err-Memory-clause-goes_on : goal.returns-in-Err-Memory-clause-goes_on
returns-in-Err-Memory-clause-goes_on g c =
    let old = c.args.self.now in
    let entry : Entry = Delete c.args.client c.args.deletion.now in
    record {
      ok = record {};
      stays = λ told start since made refused doubt runs.
          let r = c.in-Err-Memory.ensures.goes_on.stays told start since made refused doubt entry runs.logs c.requires.record tt in
          (refused ++ (old.logs.number, entry) ∷ [], r.0, Touched refl (left_by (λ is. no_fault c.in-Err-Memory.field-0 c.in-Err-Memory.field-0-is is) r.1), runs_on g.D.Disk old _ start since made refused doubt runs (refused ++ (old.logs.number, entry) ∷ []) r.0 r.2 refl);
      untouched = λ is. absurd (cc is);
    }

pub returns-clause-goes_on : goal.returns-clause-goes_on
returns-clause-goes_on g c =
    let old = c.args.self.now in
    let entry : Entry = Delete c.args.client c.args.deletion.now in
    record {
      ok = record {};
      stays = λ told start since made refused doubt runs.
          let r = c.in-Err-Fault.ensures.goes_on.stays told start since made refused doubt entry runs.logs c.requires.record tt in
          (refused ++ (old.logs.number, entry) ∷ [], r.0, Touched refl (left_by (λ is. refl) r.1), runs_on g.D.Disk old _ start since made refused doubt runs (refused ++ (old.logs.number, entry) ∷ []) r.0 r.2 refl);
      untouched = λ is. absurd (cc is);
    }
