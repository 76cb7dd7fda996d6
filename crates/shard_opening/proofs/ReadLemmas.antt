-- All that a manifest names was read.
use Rattle.std.proofs.Common.{◌≡◌, inl, inr, ℕ, List, [], ◌∷◌, ◌++◌, refl, sym, ap, ◌∙◌, subst, None, Some, IsTrue}
use Rattle.std.specs.declared.alloc.Global.{Global}
use Rattle.shard_disk.specs.Crash.{Leaves, Same}
use Rattle.shard_disk.specs.Directory.{Directory, HasFile}
use Rattle.shard_disk.specs.HandedOut.{KeepsAdopted}
use Rattle.shard_disk.specs.declared.damage.Damage.{Damage}
use Rattle.shard_disk.specs.declared.damage.Why.TheVariants.{Body}
use Rattle.shard_disk.specs.declared.disk.Disk.{Ghosts}
use Rattle.point_model.specs.Histories.{State}
use Rattle.manifest_log.specs.Calls.{Finds as FindsNamed}
use Rattle.manifest_log.specs.Reading.{IsManifest, manifest}
use Rattle.series_store.specs.Reading.{IsSeriesFile}
use Rattle.wal_store.specs.Replay.{HasSegments}
use Rattle.wal_store.specs.Segments.{Segments}
use Rattle.wal_store.specs.declared.replay.Place.{Place}
use Rattle.shard_state.specs.Opening.{IsSoundAtOpening}
use Rattle.shard_recover.specs.Damage.{IsFirstDamage, IsWrongLog, RefusesAt}
use Rattle.shard_recover.specs.Opening.{IsBegun, OpensParts, ReadsLogs, ReadyParts}
use Rattle.shard_recover.specs.Standing.{Stood}
use Rattle.shard_recover.specs.declared.parts.Begun.{Begun}
use Rattle.shard_recover.specs.declared.parts.Parts.{Parts}
use Rattle.shard_recover.proofs.FileLemmas.{same_then}
use Rattle.shard_recover.proofs.OpeningLemmas.{reads_all, replays_have, replays_hold}
use Rattle.shard_recover.proofs.ReadLemmas.{found_manifest, found_series, parts_open, parts_ready, parts_stand}
use Rattle.shard_opening.specs.Filling.{FillsAll}
use Rattle.shard_opening.specs.declared.filling.Filling.{Filling}

module _ {D R W : Type 0} (g : Ghosts D R W) (old mid : D) (begun : Begun) (b : IsBegun (IsTrue g.tells) begun (g.files old) (g.crashes old) (g.crashes mid)) where
  pub manifest_is : IsTrue g.tells → HasFile (g.files old) manifest (IsManifest begun.named)
  manifest_is told = found_manifest (IsTrue g.tells) told begun.manifest begun.named (g.files old) (g.crashes old) (g.crashes mid) b.manifest

  series_is : IsTrue g.tells → HasFile (g.files old) b.file (IsSeriesFile begun.series.keys)
  series_is told = found_series (IsTrue g.tells) told b.file begun.series (g.files old) (g.crashes old) (g.crashes mid) b.series

  -- a segment is missing or wrong
  pub log_wrong : (damage : Damage) → IsTrue g.tells → g.files mid ≡ g.files old → IsWrongLog damage begun.named.floor (g.files mid) begun.named.segments → IsFirstDamage damage (g.files old)
  log_wrong damage told same wrong =
      inr (begun.named, manifest_is told, inr (b.file, b.is, b.no_files, inr (inr (begun.series.keys, series_is told, inl (subst (λ (f : Directory). IsWrongLog damage begun.named.floor f begun.named.segments) same wrong)))))

  module _ (alloc : Global) (new : D) (wal : Segments) (filling : Filling) (same_mid : g.files mid ≡ g.files old) (same_new : g.files new ≡ g.files mid) (first : Leaves Same (g.crashes old) (g.crashes mid)) (second : Leaves Same (g.crashes mid) (g.crashes new))
      (segments : List ℕ) (are : segments ≡ begun.named.segments) (filled : FillsAll (IsTrue g.tells) begun.series.keys begun.named.floor segments wal filling (g.files new) (g.crashes mid) (g.crashes new)) where
    f : FillsAll (IsTrue g.tells) begun.series.keys begun.named.floor begun.named.segments wal filling (g.files new) (g.crashes mid) (g.crashes new)
    f = subst (λ (l : List ℕ). FillsAll (IsTrue g.tells) begun.series.keys begun.named.floor l wal filling (g.files new) (g.crashes mid) (g.crashes new)) are filled

    abbrev parts : Parts
    parts = record { manifest = begun.manifest; named = begun.named; series = begun.series; wal = wal }

    same : g.files new ≡ g.files old
    same = same_new ∙ same_mid

    read : FindsNamed (IsTrue g.tells) begun.manifest begun.named (g.files old) (g.crashes old) (g.crashes new) × ReadsLogs (IsTrue g.tells) begun.named begun.series wal f.entries (g.files old) (g.crashes old) (g.crashes new)
    read = reads_all (IsTrue g.tells) begun wal f.entries (g.files old) (g.files new) (g.crashes old) (g.crashes mid) (g.crashes new) same first second b f.replays

    pub read_ready : ReadyParts g alloc new parts
    read_ready = parts_ready g alloc new parts f.entries (g.files old) (g.crashes old) (g.crashes new) same read.0 read.1

    pub read_opens : KeepsAdopted (g.files old) (g.crashes old) (g.handed_out old) → g.handed_out new ≡ g.handed_out old → IsTrue g.tells → (state : State) → IsSoundAtOpening g old state → OpensParts g state alloc new parts
    read_opens keeps handed told state sound =
        parts_open g told alloc old new keeps parts f.entries state same handed (same_then (g.crashes old) (g.crashes mid) (g.crashes new) first second) read.0 read.1 sound

    pub read_stands : filling.refused ≡ None → IsTrue g.tells → Stood (g.files old) (record { points = filling.live.points; number = wal.last }) begun.series.keys
    read_stands none told =
        let t = f.taken none in
        parts_stand (IsTrue g.tells) told parts f.entries filling.live.points (g.files old) (g.crashes old) (g.crashes new) read.0 read.1 t.0 t.1

    -- an entry was refused
    pub entry_refused : (place : Place) (damage : Damage) → filling.refused ≡ Some place → damage ≡ record { file = place.file; offset = place.offset; why = Body } → IsTrue g.tells → IsFirstDamage damage (g.files old)
    entry_refused place damage refused is told =
        let r = f.replays in
        subst (λ (d : Damage). IsFirstDamage d (g.files old)) (sym is)
        (inr (
          begun.named,
          manifest_is told,
          inr (
            b.file,
            b.is,
            b.no_files,
            inr (inr (
              begun.series.keys,
              series_is told,
              inr (record {
                logged = r.earlier ++ r.latest ∷ [];
                have = subst (λ (d : Directory). HasSegments d begun.named.segments (r.earlier ++ r.latest ∷ [])) same
                    (replays_have (IsTrue g.tells) told begun.named.floor begun.named.segments wal f.entries (g.files new) (g.crashes mid) (g.crashes new) r);
                counted = let holds = replays_hold (IsTrue g.tells) begun.named.floor begun.named.segments wal f.entries (g.files new) (g.crashes mid) (g.crashes new) r in holds.counted;
                refuses = subst (λ (d : Directory). RefusesAt begun.series.keys begun.named.floor d begun.named.segments place.file place.offset) same (f.refuses told place refused);
                why = refl;
              }),
            )),
          ),
        ))
