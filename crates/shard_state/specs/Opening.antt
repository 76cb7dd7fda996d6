-- When is a directory sound as it is opened?
use Rattle.std.specs.Prelude.{◌≡◌, ◌⊎◌, List, [], ◌∷◌, IsTrue}
use Rattle.std.specs.FinMap.{keys}
use Rattle.shard_disk.specs.Crash.{Crashes}
use Rattle.shard_disk.specs.Directory.{Directory, HasFile}
use Rattle.shard_disk.specs.HandedOut.{HandedOut}
use Rattle.shard_disk.specs.declared.disk.Disk.{Ghosts}
use Rattle.gate_log.specs.Records.{IsGated}
use Rattle.point_model.specs.Histories.{State, nothing, state_after}
use Rattle.point_model.specs.declared.entry.Entry.{Entry}
use Rattle.manifest_log.specs.Reading.{manifest}
use Rattle.shard_state.specs.Engine.{AreAdopted}
use Rattle.shard_state.specs.Layers.{HasLayers, by_age}
use Rattle.shard_state.specs.Meaning.{IsBlank, Stands, StandsFor}

-- Nothing is named yet, and a crash leaves nothing that is: no file is there and the manifest will have its number, or the manifest is
-- there and adopted.
abbrev pub IsBlankAtOpening : Directory → Crashes → HandedOut → Type 0
IsBlankAtOpening files crashes handed =
    ((keys files ≡ []) × (handed.next_number ≡ manifest) × ((c : Directory) → crashes.now c → IsBlank c)) ⊎ (HasFile files manifest (IsGated []) × IsTrue (handed.adopted manifest))

-- The files stand for the state, the logs are adopted, and each crash leaves the TSM files as they are.
pub record IsNamedAtOpening (files : Directory) (crashes : Crashes) (handed : HandedOut) (state : State) : Type 0 where
  pub stands : StandsFor files state
  pub adopted : AreAdopted handed stands.meaning.named
  pub layers : (c : Directory) → crashes.now c → HasLayers c (by_age stands.meaning.named.files) stands.meaning.layers

-- The disk stands for the state and goes on to do so: what an engine reads of it, no crash takes away.
abbrev pub IsSoundAtOpening : {D R W : Type 0} → Ghosts D R W → D → State → Type 0
IsSoundAtOpening g disk state =
    (IsBlankAtOpening (g.files disk) (g.crashes disk) (g.handed_out disk) × (state ≡ nothing)) ⊎ IsNamedAtOpening (g.files disk) (g.crashes disk) (g.handed_out disk) state

-- It is sound, and what a crash leaves before it is opened stands for the same.
pub record IsSoundThroughout {D R W : Type 0} (g : Ghosts D R W) (disk : D) (state : State) : Type 0 where
  pub sound : IsSoundAtOpening g disk state
  pub images : (c : Directory) → (g.crashes disk).now c → Stands c state

-- it is sound for the state, or for that behind one of these entries
abbrev pub IsSoundWithAtMost : {D R W : Type 0} → Ghosts D R W → D → State → List Entry → Type 0
IsSoundWithAtMost g disk state [] = IsSoundAtOpening g disk state
IsSoundWithAtMost g disk state (entry ∷ entries) = IsSoundAtOpening g disk (state_after state (entry ∷ [])) ⊎ IsSoundWithAtMost g disk state entries
