-- A directory that names nothing yet.
use Rattle.std.proofs.Common.{◌≡◌, inl, inr, ⊎_elim, ℕ, ◌+◌, List, [], ◌∷◌, length, refl, sym, ap, subst, arith, Option, None, Some, IsTrue}
use Rattle.std.specs.Prelude.{IsSomeAnd}
use Rattle.std.specs.FinMap.{get, keys}
use Rattle.shard_disk.specs.Crash.{Crashes, Leaves, Same}
use Rattle.shard_disk.specs.Directory.{Directory, HasFile}
use Rattle.shard_disk.specs.HandedOut.{HandedOut}
use Rattle.shard_disk.specs.declared.disk.Disk.{Ghosts}
use Rattle.gate_log.specs.Records.{IsGated}
use Rattle.file_table.specs.declared.row.FileRow.{FileRow}
use Rattle.point_model.specs.Histories.{State, nothing}
use Rattle.point_model.specs.Points.{Points}
use Rattle.manifest_log.specs.Reading.{IsFresh, manifest}
use Rattle.shard_state.specs.declared.logs.Logs.{Logs}
use Rattle.shard_state.specs.Creating.{Creates}
use Rattle.shard_state.specs.Crashes.{LeavesOnly}
use Rattle.shard_state.specs.Engine.{IsOpened}
use Rattle.shard_state.specs.Keeping.{KeepsLayers}
use Rattle.shard_state.specs.Layers.{by_age}
use Rattle.shard_state.specs.Meaning.{IsBlank, Stands}
use Rattle.shard_state.specs.Opening.{IsBlankAtOpening, IsSoundAtOpening, IsSoundThroughout}
use Rattle.shard_state.proofs.Leaving.{leaves_of, leaves_then}
use Rattle.shard_recover.specs.Opening.{Opens}
use Rattle.shard_recover.proofs.ReadLemmas.{fresh_unnamed}

nowhere : (o : Option (List ℕ)) → IsSomeAnd o (λ bytes. ⊥) → ⊥
nowhere None had = had
nowhere (Some bytes) had = had

-- no file is a layer yet
no_layers_kept : (files : Directory) (crashes : Crashes) (rows : List FileRow) (layers : List Points) → KeepsLayers files crashes rows layers → layers ≡ []
no_layers_kept files crashes [] [] had = refl
no_layers_kept files crashes [] (l ∷ layers) had = absurd had
no_layers_kept files crashes (row ∷ rows) [] had = absurd had
no_layers_kept files crashes (row ∷ rows) (l ∷ layers) had = absurd (nowhere (get files row.no) had.0.read)

-- logs that stand for nothing have no points in TSM files
pub nothing_opens : {D R W : Type 0} (g : Ghosts D R W) (logs : Logs D) → IsOpened g nothing logs → Opens g nothing logs
nothing_opens g logs opened = record {
  books = opened.books;
  holds = opened.holds;
  is = opened.is;
  layers = no_layers_kept (g.files logs.disk) (g.crashes logs.disk) (by_age opened.books.named.files) opened.books.layers opened.holds.keeps.layers;
}

-- where nothing is named a disk that is sound stands for nothing
fresh_blank : {D R W : Type 0} (g : Ghosts D R W) (disk : D) (state : State) → IsFresh (g.files disk) → IsSoundAtOpening g disk state → IsBlankAtOpening (g.files disk) (g.crashes disk) (g.handed_out disk) × (state ≡ nothing)
fresh_blank g disk state fresh sound = ⊎_elim (λ blank. blank) (λ named. absurd (fresh_unnamed (g.files disk) named.stands.meaning.named fresh named.stands.says.manifest)) sound

-- the same disk behind calls that added nothing
blank_since : {D R W : Type 0} (g : Ghosts D R W) (old new : D) → g.files new ≡ g.files old → Leaves Same (g.crashes old) (g.crashes new) → g.handed_out new ≡ g.handed_out old
    → IsBlankAtOpening (g.files old) (g.crashes old) (g.handed_out old) → IsBlankAtOpening (g.files new) (g.crashes new) (g.handed_out new)
blank_since g old new same run handed blank = ⊎_elim
    (λ none. inl (
      subst (λ (f : Directory). keys f ≡ []) (sym same) none.0,
      subst (λ (h : HandedOut). h.next_number ≡ manifest) (sym handed) none.1,
      λ c now. let from = run.now c now in subst IsBlank (sym from.2) (none.2 from.0 from.1),
    ))
    (λ file. inr (subst (λ (f : Directory). HasFile f manifest (IsGated [])) (sym same) file.0, subst (λ (h : HandedOut). IsTrue (h.adopted manifest)) (sym handed) file.1))
    blank

module _ {D R W : Type 0} (g : Ghosts D R W) (told : IsTrue g.tells) (old mid : D) (same : g.files mid ≡ g.files old) (run : Leaves Same (g.crashes old) (g.crashes mid)) (handed : g.handed_out mid ≡ g.handed_out old) where
  pub sound_since : (state : State) → IsFresh (g.files old) → IsSoundAtOpening g old state → IsBlankAtOpening (g.files mid) (g.crashes mid) (g.handed_out mid) × (state ≡ nothing)
  sound_since state fresh sound = let blank = fresh_blank g old state fresh sound in (blank_since g old mid same run handed blank.0, blank.1)

  pub read_leaves : (state : State) → IsSoundThroughout g old state → LeavesOnly (λ (c : Directory). Stands c state) (g.crashes old) (g.crashes mid)
  read_leaves state throughout = leaves_of Same (λ (c : Directory). Stands c state) (g.crashes old) (g.crashes mid) (λ d c now is. subst (λ (x : Directory). Stands x state) (sym is) (throughout.images d now)) run

  pub new_leaves : (new : D) (state : State) → IsFresh (g.files old) → Creates g mid new → IsSoundThroughout g old state → LeavesOnly (λ (c : Directory). Stands c state) (g.crashes old) (g.crashes new)
  new_leaves new state fresh creates throughout =
      let blank = sound_since state fresh throughout.sound in
      leaves_then (λ (c : Directory). Stands c state) (g.crashes old) (g.crashes mid) (g.crashes new) (read_leaves state throughout)
      (subst (λ (s : State). LeavesOnly (λ (c : Directory). Stands c s) (g.crashes mid) (g.crashes new)) (sym blank.1)
      (creates told blank.0 (λ c now. let from = run.now c now in subst (λ (s : State). Stands c s) blank.1 (subst (λ (x : Directory). Stands x state) (sym from.2) (throughout.images from.0 from.1)))))
