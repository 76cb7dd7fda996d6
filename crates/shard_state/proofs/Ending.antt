-- A doubt is ended, and an engine's logs are closed.
use Rattle.std.proofs.Common.{◌≡◌, inl, inr, ⊎_elim, ℕ, List, [], ◌∷◌, ◌++◌, refl, sym, ap, subst, Option, None}
use Rattle.std.specs.Prelude.{IsTrue, OnErr, OnOk, Result}
use Rattle.std.specs.declared.result.Result.TheVariants.{Ok, Err}
use Rattle.std.specs.Option.{option_to_list}
use Rattle.shard_disk.specs.Crash.{Leaves}
use Rattle.shard_disk.specs.Directory.{ChangesAt, Directory, Ends}
use Rattle.shard_disk.specs.HandedOut.{HandedOut}
use Rattle.shard_disk.specs.Health.{HasCause}
use Rattle.shard_disk.specs.declared.disk.Disk.{Ghosts}
use Rattle.shard_disk.specs.declared.trouble.Trouble.{Trouble}
use Rattle.gate_log.specs.Calls.Settle.{Settling}
use Rattle.gate_log.specs.Log.{doubtful}
use Rattle.gate_log.specs.Records.{WithAtMost}
use Rattle.gate_log.proofs.Results.{on_ok_then}
use Rattle.point_model.specs.Histories.{State, state_after}
use Rattle.point_model.specs.Points.{Points}
use Rattle.point_model.specs.declared.entry.Entry.{Entry}
use Rattle.manifest_log.specs.declared.directory.Directory.{Directory as Named}
use Rattle.series_store.specs.Calls.{Kept}
use Rattle.wal_store.specs.Segments.{Segments}
use Rattle.shard_state.specs.declared.logs.Logs.{Logs}
use Rattle.shard_state.specs.Books.{Books, state_in}
use Rattle.shard_state.specs.Calls.{Closes, SettlesDoubt}
use Rattle.shard_state.specs.Crashes.{LeavesOnly}
use Rattle.shard_state.specs.Engine.{AreAdopted, Holds}
use Rattle.shard_state.specs.Layers.{HasLayers, by_age}
use Rattle.shard_state.specs.Meaning.{NamesSeries, StandsWithAtMost}
use Rattle.shard_state.specs.Opening.{IsSoundAtOpening, IsSoundWithAtMost}
use Rattle.shard_state.proofs.Entering.{on_err_then}
use Rattle.shard_state.proofs.GoingOn.{left_now, ran_still}
use Rattle.shard_state.proofs.Images.{image_now, layers_image}
use Rattle.shard_state.proofs.Standing.{StandsAs, StandsAsWithAtMost, image_named, series_named}
use Rattle.shard_state.proofs.Steps.{keeps_left, may_be_next, settle_crash}

-- what is so where a call was accepted and where it was refused
pub either_way : {T E A B C : Type 0} (r : Result T E) → OnOk r A → OnErr r B → (A → C) → (B → C) → C
either_way (Ok x) a b f g = f a
either_way (Err e) a b f g = g b

module _ {D R W : Type 0} (g : Ghosts D R W) (old : Logs D) (disk : D) (wal : Segments) (result : Result (Unit {0}) Trouble) (settling : Settling g old.wal.log wal.log old.disk disk result) (files : wal.files ≡ old.wal.files) where
  abbrev settled : Logs D
  settled = record old { disk = disk; wal = wal }

  adopted_still : (books : Books) (doubt : Option Entry) → Holds g old books doubt → AreAdopted (g.handed_out disk) books.named
  adopted_still books doubt holds = subst (λ (h : HandedOut). AreAdopted h books.named) (sym settling.handed_out) holds.adopted

  module _ (told : IsTrue g.tells) (books : Books) (doubt : Option Entry) (holds : Holds g old books doubt) where
    abbrev settle_run : Leaves (ChangesAt old.wal.log.file (Ends (WithAtMost holds.keeps.latest.records (doubtful holds.keeps.latest.body)))) (g.crashes old.disk) (g.crashes disk)
    settle_run = settling.crash told holds.keeps.latest.gate holds.keeps.latest.records holds.keeps.latest.body holds.keeps.latest.stands

    crash_settle : LeavesOnly (StandsWithAtMost (state_in books) (option_to_list doubt)) (g.crashes old.disk) (g.crashes disk)
    crash_settle =
        settle_crash (IsTrue g.tells) told (g.files old.disk) (g.files disk) (g.crashes old.disk) (g.crashes disk) old.manifest.log old.series old.wal wal books doubt holds.keeps settle_run

  settles_ok : OnOk result (IsTrue g.tells → (books : Books) (doubt : Option Entry) → Holds g old books doubt → Holds g settled books None)
  settles_ok = on_ok_then result
      (λ settles. λ told books doubt holds. record {
        keeps = keeps_left (IsTrue g.tells) told (g.files old.disk) (g.files disk) (g.crashes old.disk) (g.crashes disk) old.manifest.log old.series old.wal wal books doubt holds.keeps _ (settle_run told books doubt holds) settling.kept files None None tt
            (settles.stands told holds.keeps.latest.records holds.keeps.latest.body holds.keeps.latest.stands);
        adopted = adopted_still books doubt holds;
        number = holds.number;
      })
      settling.ok

  settles_none : OnErr result (IsTrue g.tells → (books : Books) (doubt : Option Entry) → Holds g old books doubt → Holds g settled books doubt)
  settles_none = on_err_then result
      (λ remains. λ told books doubt holds. record {
        keeps = keeps_left (IsTrue g.tells) told (g.files old.disk) (g.files disk) (g.crashes old.disk) (g.crashes disk) old.manifest.log old.series old.wal wal books doubt holds.keeps _ (settle_run told books doubt holds) settling.kept files doubt
            holds.keeps.latest.body holds.keeps.latest.doubts (remains.stands told holds.keeps.latest.records holds.keeps.latest.body holds.keeps.latest.stands);
        adopted = adopted_still books doubt holds;
        number = holds.number;
      })
      settling.refused

  pub settles : SettlesDoubt g old settled result
  settles = record {
    ok = settles_ok;
    refused = settles_none;
    crash = crash_settle;
    ran = on_ok_then result
        (λ ok. λ told start since made refused doubt ran. ran_still g old settled start since made refused doubt ran ran.books None tt (crash_settle told ran.books doubt ran.holds) (ok told ran.books doubt ran.holds) refl) settles_ok;
    ran_refused = on_err_then result
        (λ remains. λ told start since made refused doubt ran. ran_still g old settled start since made refused doubt ran ran.books doubt ran.asked (crash_settle told ran.books doubt ran.holds) (remains told ran.books doubt ran.holds) refl) settles_none;
  }

-- A disk whose logs hold the books is sound as it is opened, whether the entry in doubt is there or not.
module _ {D R W : Type 0} (g : Ghosts D R W) (logs : Logs D) (books : Books) (doubt : Option Entry) (holds : Holds g logs books doubt) where
  layers_left : (c : Directory) → (g.crashes logs.disk).now c → HasLayers c (by_age books.named.files) books.layers
  layers_left = layers_image (g.files logs.disk) (g.crashes logs.disk) (by_age books.named.files) books.layers holds.keeps.layers

  sound_as : (state : State) → StandsAs books.named books.layers state (g.files logs.disk) → IsSoundAtOpening g logs.disk state
  sound_as state stands = inr (record {
    stands = stands.0;
    adopted = subst (λ (n : Named). AreAdopted (g.handed_out logs.disk) n) (sym stands.1) holds.adopted;
    layers = λ c now. subst (λ (n : Named). HasLayers c (by_age n.files) stands.0.meaning.layers) (sym stands.1) (subst (λ (l : List Points). HasLayers c (by_age books.named.files) l) (sym stands.2) (layers_left c now));
  })

  sound_each : (state : State) (next : List Entry) → StandsAsWithAtMost books.named books.layers state next (g.files logs.disk) → IsSoundWithAtMost g logs.disk state next
  sound_each state [] stands = sound_as state stands
  sound_each state (entry ∷ next) stands = ⊎_elim (λ here. inl (sound_as (state_after state (entry ∷ [])) here)) (λ rest. inr (sound_each state next rest)) stands

  pub sound_again : (g.crashes logs.disk).now (g.files logs.disk) → IsSoundWithAtMost g logs.disk (state_in books) (option_to_list doubt)
  sound_again as_read = sound_each (state_in books) (option_to_list doubt)
      (image_named books (option_to_list doubt) holds.keeps.sound (may_be_next books doubt holds.keeps.latest.body holds.keeps.latest.doubts) (g.files logs.disk)
      (image_now (g.files logs.disk) (g.crashes logs.disk) logs.manifest.log logs.series logs.wal books doubt holds.keeps (g.files logs.disk) as_read))

-- the series file that its manifest names has the series that are held, and maybe more
series_there : {D R W : Type 0} (g : Ghosts D R W) (logs : Logs D) (books : Books) (doubt : Option Entry) → (g.crashes logs.disk).now (g.files logs.disk) → Holds g logs books doubt
    → (more : List (List ℕ)) × NamesSeries (g.files logs.disk) (logs.series.keys ++ more)
series_there g logs books doubt as_read holds =
    let image = image_now (g.files logs.disk) (g.crashes logs.disk) logs.manifest.log logs.series logs.wal books doubt holds.keeps (g.files logs.disk) as_read in
    subst (λ (l : List (List ℕ)). (more : List (List ℕ)) × NamesSeries (g.files logs.disk) (l ++ more)) (sym holds.keeps.keys) (series_named books (g.files logs.disk) (option_to_list doubt) holds.keeps.sound image)

pub closes : {D R W : Type 0} (g : Ghosts D R W) (old new : Logs D) (result : Result (Unit {0}) Trouble) → SettlesDoubt g old new result → new ≡ record old { disk = new.disk; wal = new.wal } → (IsTrue g.tells → (g.crashes new.disk).now (g.files new.disk))
    → g.handed_out new.disk ≡ g.handed_out old.disk → HasCause result (g.health old.disk) (g.health new.disk) → Closes g old new.disk result
closes g old new result settles same as_read handed fault = record {
  ok = on_ok_then result
      (λ ok. λ told books doubt holds.
      let after = ok told books doubt holds in
      record { sound = sound_again g new books None after (as_read told); images = λ c now. left_now g new books None after c now }) settles.ok;
  refused = on_err_then result
      (λ refused. λ told books doubt holds.
      let after = refused told books doubt holds in
      (sound_again g new books doubt after (as_read told), (λ c now. left_now g new books doubt after c now))) settles.refused;
  crash = settles.crash;
  ran = λ told start since made refused doubt ran. either_way result settles.ran settles.ran_refused
      (λ ok. (ok told start since made refused doubt ran).survives) (λ stays. (stays told start since made refused doubt ran).survives);
  series = λ told books doubt holds. subst (λ (k : Kept). (more : List (List ℕ)) × NamesSeries (g.files new.disk) (k.keys ++ more)) (ap (λ (l : Logs _). l.series) same)
      (either_way result settles.ok settles.refused (λ ok. series_there g new books None (as_read told) (ok told books doubt holds)) (λ stays. series_there g new books doubt (as_read told) (stays told books doubt holds)));
  handed_out = handed;
  fault = fault;
}
