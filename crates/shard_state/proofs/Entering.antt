-- An engine's logs hold what its books say, after series or an entry were added to them.
use Rattle.std.proofs.Common.{◌≡◌, inl, inr, ℕ, ◌+◌, List, [], ◌∷◌, ◌++◌, refl, sym, ap, ◌∙◌, subst, Option}
use Rattle.std.proofs.lemmas.List.{append-nil}
use Rattle.std.specs.Prelude.{OnErr, OnOk, IsTrue, Result}
use Rattle.std.specs.declared.result.Result.TheVariants.{Ok, Err}
use Rattle.std.specs.List.{AllByRecursion}
use Rattle.std.specs.Option.{option_to_list}
use Rattle.shard_disk.specs.Crash.{Leaves}
use Rattle.shard_disk.specs.Directory.{ChangesAt, Ends}
use Rattle.shard_disk.specs.HandedOut.{HandedOut}
use Rattle.shard_disk.specs.declared.disk.Disk.{Ghosts}
use Rattle.shard_disk.specs.declared.trouble.Trouble.{Trouble}
use Rattle.gate_log.specs.Calls.Append.{Appends}
use Rattle.gate_log.specs.Log.{doubtful}
use Rattle.gate_log.specs.Records.{WithAtMost}
use Rattle.gate_log.proofs.Results.{on_ok_both, on_ok_then}
use Rattle.point_model.specs.Histories.{State}
use Rattle.point_model.specs.declared.entry.Entry.{Entry}
use Rattle.series_store.specs.Calls.{Kept}
use Rattle.series_store.specs.Format.{IsKey}
use Rattle.series_store.specs.Format.{record_bytes as series_record}
use Rattle.series_store.specs.Lists.{MayAdd}
use Rattle.wal_store.specs.Segments.{Recorded, Segments, SpellsRecord}
use Rattle.shard_state.specs.declared.logs.Logs.{Logs}
use Rattle.shard_state.specs.declared.prepare.Prepared.{Prepared}
use Rattle.shard_state.specs.Books.{Books, IsNext, state_in, with_series}
use Rattle.shard_state.specs.Calls.{AddsEntry, AddsSeries, Enters}
use Rattle.shard_state.specs.Crashes.{LeavesOnly}
use Rattle.shard_state.specs.Engine.{AreAdopted, Holds, series_in}
use Rattle.shard_state.specs.Meaning.{StandsWithAtMost}
use Rattle.shard_state.proofs.Leaving.{leaves_then, leaves_weaker}
use Rattle.shard_state.proofs.Standing.{state_entry}
use Rattle.shard_state.proofs.Steps.{entry_added, entry_crash, entry_refused, series_added, series_crash, series_refused}

pub on_err_then : {T E A B : Type 0} (r : Result T E) → (A → B) → OnErr r A → OnErr r B
on_err_then (Ok x) leads a = a
on_err_then (Err e) leads a = leads a

pub on_err_both : {T E A B C : Type 0} (r : Result T E) → (A → B → C) → OnErr r A → OnErr r B → OnErr r C
on_err_both (Ok x) leads a b = a
on_err_both (Err e) leads a b = leads a b

-- series were added, or not
module _ {D R W : Type 0} (g : Ghosts D R W) (old : Logs D) (disk : D) (series : Kept) (result : Result (Unit {0}) Trouble) (more : List (List ℕ)) (may : MayAdd old.series.keys more) (each : AllByRecursion IsKey more)
    (appends : Appends g (series_record more) old.series.log series.log old.disk disk result) where
  abbrev after_series : Logs D
  after_series = record old { disk = disk; series = series }

  adopted_series : (books : Books) (doubt : Option Entry) → Holds g old books doubt → AreAdopted (g.handed_out disk) books.named
  adopted_series books doubt holds = subst (λ (h : HandedOut). AreAdopted h books.named) (sym appends.handed_out) holds.adopted

  module _ (told : IsTrue g.tells) (books : Books) (doubt : Option Entry) (holds : Holds g old books doubt) where
    abbrev series_run : Leaves (ChangesAt old.series.log.file (Ends (WithAtMost holds.keeps.series.records (series_record more ∷ doubtful holds.keeps.series.doubt)))) (g.crashes old.disk) (g.crashes disk)
    series_run = appends.crash told holds.keeps.series.gate holds.keeps.series.records holds.keeps.series.doubt holds.keeps.series.stands

    crash_series : LeavesOnly (StandsWithAtMost (state_in books) (option_to_list doubt)) (g.crashes old.disk) (g.crashes disk)
    crash_series =
        series_crash (IsTrue g.tells) told (g.files old.disk) (g.files disk) (g.crashes old.disk) (g.crashes disk) old.manifest.log old.series series old.wal books doubt holds.keeps more series_run may each

  pub adds_series : OnOk result (series.keys ≡ old.series.keys ++ more) → OnErr result (series.keys ≡ old.series.keys) → AddsSeries g more old after_series result
  adds_series keys same_keys = record {
    ok = on_ok_both result
        (λ adds same. λ told books doubt holds. record {
          keeps = series_added (IsTrue g.tells) told (g.files old.disk) (g.files disk) (g.crashes old.disk) (g.crashes disk) old.manifest.log old.series series old.wal books doubt holds.keeps more (series_run told books doubt holds) may each appends.kept same
              (adds.stands told holds.keeps.series.records holds.keeps.series.doubt holds.keeps.series.stands);
          adopted = adopted_series books doubt holds;
          number = holds.number;
        })
        appends.ok keys;
    refused = on_err_both result
        (λ adds same. λ told books doubt holds.
        let left = adds.stands told holds.keeps.series.records holds.keeps.series.doubt holds.keeps.series.stands in
        record {
          keeps = series_refused (IsTrue g.tells) told (g.files old.disk) (g.files disk) (g.crashes old.disk) (g.crashes disk) old.manifest.log old.series series old.wal books doubt holds.keeps more (series_run told books doubt holds) may each appends.kept same
              _ left.0 left.1 left.2;
          adopted = adopted_series books doubt holds;
          number = holds.number;
        })
        appends.refused same_keys;
    crash = crash_series;
  }

-- an entry was added, or not
module _ {D R W : Type 0} (g : Ghosts D R W) (old : Logs D) (disk : D) (wal : Segments) (number : ℕ) (result : Result (Unit {0}) Trouble) (added : Recorded) (is : added.number ≡ old.number + 1)
    (appends : Appends g added.body old.wal.log wal.log old.disk disk result) (files : wal.files ≡ old.wal.files) where
  abbrev after_entry : Logs D
  after_entry = record old { disk = disk; wal = wal; number = number }

  adopted_entry : (books : Books) (doubt : Option Entry) → Holds g old books doubt → AreAdopted (g.handed_out disk) books.named
  adopted_entry books doubt holds = subst (λ (h : HandedOut). AreAdopted h books.named) (sym appends.handed_out) holds.adopted

  module _ (told : IsTrue g.tells) (books : Books) (doubt : Option Entry) (entry : Entry) (holds : Holds g old books doubt) (spelled : SpellsRecord added.number entry added.body) (next : IsNext books entry) where
    spells : SpellsRecord ((state_in books).number + 1) entry added.body
    spells = subst (λ (n : ℕ). SpellsRecord n entry added.body) (is ∙ ap (λ (n : ℕ). n + 1) holds.number) spelled

    abbrev entry_run : Leaves (ChangesAt old.wal.log.file (Ends (WithAtMost holds.keeps.latest.records (added.body ∷ doubtful holds.keeps.latest.body)))) (g.crashes old.disk) (g.crashes disk)
    entry_run = appends.crash told holds.keeps.latest.gate holds.keeps.latest.records holds.keeps.latest.body holds.keeps.latest.stands

    crash_entry : LeavesOnly (StandsWithAtMost (state_in books) (entry ∷ option_to_list doubt)) (g.crashes old.disk) (g.crashes disk)
    crash_entry =
        entry_crash (IsTrue g.tells) told (g.files old.disk) (g.files disk) (g.crashes old.disk) (g.crashes disk) old.manifest.log old.series old.wal wal books doubt holds.keeps entry added.body entry_run next spells

  pub adds_entry : OnOk result (number ≡ old.number + 1) → OnErr result (number ≡ old.number) → AddsEntry g added old after_entry result
  adds_entry counted same = record {
    ok = on_ok_both result
        (λ adds up. λ told books doubt entry holds spelled next. record {
          keeps = entry_added (IsTrue g.tells) told (g.files old.disk) (g.files disk) (g.crashes old.disk) (g.crashes disk) old.manifest.log old.series old.wal wal books doubt holds.keeps entry added.body
              (entry_run told books doubt entry holds spelled next) next (spells told books doubt entry holds spelled next) appends.kept files
              (adds.stands told holds.keeps.latest.records holds.keeps.latest.body holds.keeps.latest.stands);
          adopted = adopted_entry books doubt holds;
          number = up ∙ ap (λ (n : ℕ). n + 1) holds.number ∙ ap (λ (s : State). s.number) (state_entry books entry);
        })
        appends.ok counted;
    refused = on_err_both result
        (λ adds stays. λ told books doubt entry holds spelled next.
        let left = adds.stands told holds.keeps.latest.records holds.keeps.latest.body holds.keeps.latest.stands in
        let after = entry_refused (IsTrue g.tells) told (g.files old.disk) (g.files disk) (g.crashes old.disk) (g.crashes disk) old.manifest.log old.series old.wal wal books doubt holds.keeps entry added.body
        (entry_run told books doubt entry holds spelled next) next (spells told books doubt entry holds spelled next) appends.kept files _ left.0 left.1 left.2 in
        (after.0, after.1, record { keeps = after.2; adopted = adopted_entry books doubt holds; number = stays ∙ holds.number }))
        appends.refused same;
    crash = crash_entry;
  }

-- no series more are held
pub no_more : {D R W : Type 0} (g : Ghosts D R W) (logs : Logs D) (books : Books) (doubt : Option Entry) → Holds g logs books doubt → Holds g logs (with_series books []) doubt
no_more g logs books doubt holds = subst (λ (b : Books). Holds g logs b doubt) (λ i. record books { series = sym (append-nil books.series) i }) holds

-- an entry without series was entered
pub enters_alone : {D R W : Type 0} (g : Ghosts D R W) (prepared : Prepared) (old new : Logs D) (result : Result (Unit {0}) Trouble) → series_in prepared.series ≡ [] → AddsEntry g prepared.record old new result → Enters g prepared old new result
enters_alone g prepared old new result none adds = record {
  ok = on_ok_then result
      (λ ok. λ told books doubt entry holds may. ok told (with_series books (series_in prepared.series)) doubt entry (held books doubt holds) may.spells may.next) adds.ok;
  refused = on_err_then result
      (λ refused. λ told books doubt entry holds may.
      let left = refused told (with_series books (series_in prepared.series)) doubt entry (held books doubt holds) may.spells may.next in
      record { held = series_in prepared.series; are = inr refl; left = left.0; is_left = left.1; holds = left.2 }) adds.refused;
  crash = λ told books doubt entry holds may. adds.crash told (with_series books (series_in prepared.series)) doubt entry (held books doubt holds) may.spells may.next;
}
  where
    held : (books : Books) (doubt : Option Entry) → Holds g old books doubt → Holds g old (with_series books (series_in prepared.series)) doubt
    held books doubt holds = subst (λ (l : List (List ℕ)). Holds g old (with_series books l) doubt) (sym none) (no_more g old books doubt holds)

-- the series were refused
pub enters_no_series : {D R W : Type 0} (g : Ghosts D R W) (prepared : Prepared) (old new : Logs D) (e : Trouble) → AddsSeries g (series_in prepared.series) old new (Err e) → Enters g prepared old new (Err e)
enters_no_series g prepared old new e adds = record {
  ok = record {};
  refused = λ told books doubt entry holds may. record { held = []; are = inl refl; left = doubt; is_left = inr (inl refl); holds = no_more g new books doubt (adds.refused told books doubt holds) };
  crash = λ told books doubt entry holds may.
      leaves_weaker (StandsWithAtMost (state_in books) (option_to_list doubt)) (StandsWithAtMost (state_in books) (entry ∷ option_to_list doubt)) _ _ (λ d is. inr is) (adds.crash told books doubt holds);
}

-- the series were added, and then the entry or not
module _ {D R W : Type 0} (g : Ghosts D R W) (prepared : Prepared) (old mid new : Logs D) (result : Result (Unit {0}) Trouble) (series : AddsSeries g (series_in prepared.series) old mid (Ok tt)) (adds : AddsEntry g prepared.record mid new result) where
  pub enters_both : Enters g prepared old new result
  enters_both = record {
    ok = on_ok_then result
        (λ ok. λ told books doubt entry holds may. ok told (with_series books (series_in prepared.series)) doubt entry (series.ok told books doubt holds) may.spells may.next) adds.ok;
    refused = on_err_then result
        (λ refused. λ told books doubt entry holds may.
        let left = refused told (with_series books (series_in prepared.series)) doubt entry (series.ok told books doubt holds) may.spells may.next in
        record { held = series_in prepared.series; are = inr refl; left = left.0; is_left = left.1; holds = left.2 }) adds.refused;
    crash = λ told books doubt entry holds may. leaves_then (StandsWithAtMost (state_in books) (entry ∷ option_to_list doubt)) _ _ _
        (leaves_weaker (StandsWithAtMost (state_in books) (option_to_list doubt)) (StandsWithAtMost (state_in books) (entry ∷ option_to_list doubt)) _ _ (λ d is. inr is) (series.crash told books doubt holds))
        (adds.crash told (with_series books (series_in prepared.series)) doubt entry (series.ok told books doubt holds) may.spells may.next);
  }
