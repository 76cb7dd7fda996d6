-- What the parts of a write say of the whole.
use Rattle.std.proofs.Common.{◌≡◌, ◌++◌, ◌∷◌, [], ℕ, List, sym, ap, ◌∙◌, subst, inl}
use Rattle.std.proofs.lemmas.Result.{err_from_is_err_and}
use Rattle.point_model.specs.Histories.{State, state_after}
use Rattle.point_model.specs.Points.{Points}
use Rattle.point_model.specs.declared.entry.Entry.TheVariants.{Write}
use Rattle.shard_state.specs.Engine.{series_in}
use Rattle.shard_state.specs.Meaning.{AreHeld}
use Rattle.shard_state.specs.declared.logs.Logs.{Logs}
use Rattle.shard_steps.specs.Calls.Write.{IsDecided}
use Rattle.shard_steps.specs.Shards.{state_of}
use Rattle.shard_steps.proofs.GoingOn.{adds_series, goes_behind, runs_roomy, stays_as_it_was, still, undecided_changes}
use Rattle.shard_steps.proofs.ResultLemmas.{if_ok_then}
use Rattle.shard_steps.proofs.RoomLemmas.{are_held}
use Rattle.shard_steps.proofs.writing.write.Goals as goal

pub returns-in_err-new-clause-refused : goal.returns-in_err-new-clause-refused
returns-in_err-new-clause-refused g c =
    let p = err_from_is_err_and c.from_residual.result c.from_residual.ensures.1 in rw (p.1, p.2) (c.in_err-new.ensures.refused _ _)

pub returns-in_err-new-clause-goes_on : goal.returns-in_err-new-clause-goes_on
returns-in_err-new-clause-goes_on g c =
    let p = err_from_is_err_and c.from_residual.result c.from_residual.ensures.1 in rw p.1 (still g.D.Disk c.args.client c.args.batch.now c.args.shard.now p.0)

pub returns-in_err-prepared-clause-goes_on : goal.returns-in_err-prepared-clause-goes_on
returns-in_err-prepared-clause-goes_on g c =
    let p = err_from_is_err_and c.from_residual-in_err-prepared.result c.from_residual-in_err-prepared.ensures.1 in
    let old = c.args.shard.now in
    let mid = c.prepare.new.self in
    let steps = stays_as_it_was g.D.Disk c.args.client c.args.batch.now old mid mid (runs_roomy g.D.Disk old mid mid.logs.series.room c.prepare.ensures.logs c.prepare.ensures.points) p.0 in
    rw p.1 (record {
      ok = steps.ok;
      stays = steps.stays;
      untouched = λ is. absurd (subst IsDecided p.2 is);
      series = inl (ap (λ (l : Logs g.row.D.Denot). l.series.keys) c.prepare.ensures.logs);
      handed_out = ap (λ (l : Logs g.row.D.Denot). g.D.Disk.handed_out l.disk) c.prepare.ensures.logs;
    })

pub commit-requires-clause-held : goal.commit-requires-clause-held
commit-requires-clause-held g c κs within =
    let old = c.args.shard.now in
    let new = c.in_ok-new.new.keys in
    let held : AreHeld (old.logs.series.keys ++ new) c.args.batch.now = are_held old.logs.series.keys c.args.batch.now new c.in_ok-new.ensures.ok.unheld in
    subst (λ (keys : List (List ℕ)). AreHeld (keys ++ series_in c.in_ok-prepared.prepared.series) c.args.batch.now) (sym (ap (λ (l : Logs g.row.D.Denot). l.series.keys) c.prepare.ensures.logs))
    (subst (λ (more : List (List ℕ)). AreHeld (old.logs.series.keys ++ more) c.args.batch.now) (sym c.in_ok-prepared.ensures.ok.series) held)

pub returns-clause-ok : goal.returns-clause-ok
returns-clause-ok g c =
    let old = c.args.shard.now in
    let mid = c.prepare.new.self in
    let points = c.args.batch.now in
    let new = c.in_ok-new.new.keys in
    let state : state_of mid ≡ state_of old =
    ap (λ (p : Points). record { points = p; number = mid.logs.number }) c.prepare.ensures.points
    ∙ ap (λ (l : Logs g.row.D.Denot). record { points = old.live.points; number = l.number }) c.prepare.ensures.logs in
    let held : AreHeld (old.logs.series.keys ++ new) points = are_held old.logs.series.keys points new c.in_ok-new.ensures.ok.unheld in
    let keys : mid.logs.series.keys ++ series_in c.in_ok-prepared.prepared.series ≡ old.logs.series.keys ++ new =
    ap (λ (l : Logs g.row.D.Denot). l.series.keys ++ series_in c.in_ok-prepared.prepared.series) c.prepare.ensures.logs ∙ ap (λ (more : List (List ℕ)). old.logs.series.keys ++ more) c.in_ok-prepared.ensures.ok.series in
    if_ok_then c.commit.result
    (λ number made. record {
      accepted = c.in_ok-new.ensures.ok.is_open.accepted;
      state = made.0 ∙ ap (λ (s : State). state_after s (Write c.args.client points ∷ [])) state;
      given = made.1;
      limit = made.2;
      fits = record { new = new; are = c.in_ok-new.ensures.ok.unheld; fits = c.in_ok-new.ensures.ok.fits };
      fits_cache = c.in_ok-new.ensures.ok.fits_cache;
      held = subst (λ (l : List (List ℕ)). AreHeld l points) (sym (made.3 ∙ keys)) held;
    })
    c.commit.ensures.commits.ok

pub returns-clause-goes_on : goal.returns-clause-goes_on
returns-clause-goes_on g c =
    let old = c.args.shard.now in
    let mid = c.prepare.new.self in
    let commits = c.commit.ensures.commits in
    let steps = goes_behind g.D.Disk c.args.client c.args.batch.now old mid c.commit.new.self (runs_roomy g.D.Disk old mid mid.logs.series.room c.prepare.ensures.logs c.prepare.ensures.points) c.commit.result
    (ap (λ (l : Logs g.row.D.Denot). l.number) c.prepare.ensures.logs) c.commit.ensures.goes_on in
    record {
      ok = steps.ok;
      stays = steps.stays;
      untouched = undecided_changes _ c.commit.result commits.undecided;
      series = adds_series c.args.batch.now old.logs.series.keys mid.logs.series.keys c.commit.new.self.logs.series.keys (series_in c.in_ok-prepared.prepared.series) c.in_ok-new.new.keys
          (ap (λ (l : Logs g.row.D.Denot). l.series.keys) c.prepare.ensures.logs) c.in_ok-prepared.ensures.ok.series c.in_ok-new.ensures.ok.unheld commits.series;
      handed_out = commits.handed_out ∙ ap (λ (l : Logs g.row.D.Denot). g.D.Disk.handed_out l.disk) c.prepare.ensures.logs;
    }
