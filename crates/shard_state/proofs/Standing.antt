-- An image of an engine's books stands for its points, or for those behind one entry more.
use Rattle.std.proofs.Common.{◌≡◌, inl, inr, ⊎_elim, ℕ, List, [], ◌∷◌, ◌++◌, refl, sym, ap, ◌∙◌, subst, arith, append_assoc}
use Rattle.std.specs.Prelude.{◌⊎◌, IsSomeAnd, Option, None, Some}
use Rattle.std.specs.FinMap.{get}
use Rattle.std.specs.List.{AllByRecursion}
use Rattle.std.proofs.lemmas.List.{append-nil}
use Rattle.std.proofs.lemmas.List.Elements.{Contains-append_left}
use Rattle.std.proofs.lemmas.Grind.{flat_map-append}
use Rattle.tsdb_types.specs.declared.point.Point.{Point}
use Rattle.shard_disk.specs.Directory.{Directory, HasFile}
use Rattle.shard_disk.proofs.Everywhere.{file_weaker}
use Rattle.point_model.specs.Histories.{State, after, after_entry, state_after}
use Rattle.point_model.specs.Points.{Points}
use Rattle.point_model.specs.declared.entry.Entry.{Entry}
use Rattle.point_model.specs.declared.entry.Entry.TheVariants.{Write, Delete}
use Rattle.point_model.proofs.HistoryLemmas.{state_after-append}
use Rattle.manifest_log.specs.declared.directory.Directory.{Directory as Named}
use Rattle.manifest_log.specs.Reading.{IsManifest, manifest}
use Rattle.series_store.specs.Reading.{IsSeriesFile}
use Rattle.wal_store.specs.Replay.{HasSegments, Holds, IsSegment, Logged, joined}
use Rattle.shard_state.proofs.Counting.{holds_next}
use Rattle.shard_state.specs.Layers.{HasLayers, by_age, overlay}
use Rattle.gate_log.specs.Records.{IsClosed}
use Rattle.shard_state.specs.Meaning.{AreHeld, AreTaken, IsTaken, NamesSeries, StandsFor, StandsWithAtMost, floor_of}
use Rattle.shard_state.specs.Books.{AreBooks, Books, HasClosedSegments, IsClosedLog, IsImage, IsLatest, IsNext, IsSeriesFrom, meaning_of, next_logged, state_in, with_entry, with_series}

held_more : (series more : List (List ℕ)) (points : List Point) → AreHeld series points → AreHeld (series ++ more) points
held_more series more [] held = tt
held_more series more (point ∷ points) held = (Contains-append_left series more point.cell.series held.0, held_more series more points held.1)

pub taken_more : (series more : List (List ℕ)) (points : Points) (entry : Entry) → IsTaken series points entry → IsTaken (series ++ more) points entry
taken_more series more points (Write client written) taken = (held_more series more written taken.0, taken.1, taken.2)
taken_more series more points (Delete client deletion) taken = tt

all_taken_more : (series more : List (List ℕ)) (points : Points) (entries : List Entry) → AreTaken series points entries → AreTaken (series ++ more) points entries
all_taken_more series more points [] taken = tt
all_taken_more series more points (entry ∷ entries) taken = (taken_more series more points entry taken.0, all_taken_more series more (after_entry points entry) entries taken.1)

taken_next : (series : List (List ℕ)) (points : Points) (entries : List Entry) (entry : Entry) → AreTaken series points entries → IsTaken series (after points entries) entry → AreTaken series points (entries ++ entry ∷ [])
taken_next series points [] entry all taken = (taken, tt)
taken_next series points (e ∷ entries) entry all taken = (all.0, taken_next series (after_entry points e) entries entry all.1 taken)

-- books of more series
pub sound_series : (books : Books) (more : List (List ℕ)) → AreBooks books → AreBooks (with_series books more)
sound_series books more sound = record {
  segments = sound.segments;
  series = sound.series;
  apart = record {
    series_manifest = sound.apart.series_manifest;
    last_manifest = sound.apart.last_manifest;
    last_series = sound.apart.last_series;
    series_before = sound.apart.series_before;
    last_before = sound.apart.last_before;
    manifest_before = sound.apart.manifest_before;
    series_rows = sound.apart.series_rows;
    last_rows = sound.apart.last_rows;
    manifest_rows = sound.apart.manifest_rows;
  };
  sound = record {
    holds = sound.sound.holds;
    taken = all_taken_more books.series more (overlay books.layers) books.entries sound.sound.taken;
  };
}

pub next_series : (books : Books) (more : List (List ℕ)) (entry : Entry) → IsNext books entry → IsNext (with_series books more) entry
next_series books more entry next = record { taken = taken_more books.series more (state_in books).points entry next.taken; limit = next.limit }

joined_more : (earlier : List (List Logged)) (latest : List Logged) (l : Logged) → joined (earlier ++ (latest ++ l ∷ []) ∷ []) ≡ joined (earlier ++ latest ∷ []) ++ l ∷ []
joined_more earlier latest l =
    flat_map-append (λ (x : List Logged). x) earlier ((latest ++ l ∷ []) ∷ [])
    ∙ ap (λ (x : List Logged). joined earlier ++ x) (append-nil (latest ++ l ∷ []) ∙ ap (λ (x : List Logged). x ++ l ∷ []) (sym (append-nil latest)))
    ∙ sym (append_assoc (joined earlier) (latest ++ []) (l ∷ []))
    ∙ ap (λ (x : List Logged). x ++ l ∷ []) (sym (flat_map-append (λ (x : List Logged). x) earlier (latest ∷ [])))

-- books of one entry more
pub sound_entry : (books : Books) (entry : Entry) → AreBooks books → IsNext books entry → AreBooks (with_entry books entry)
sound_entry books entry sound next = record {
  segments = sound.segments;
  series = sound.series;
  apart = record {
    series_manifest = sound.apart.series_manifest;
    last_manifest = sound.apart.last_manifest;
    last_series = sound.apart.last_series;
    series_before = sound.apart.series_before;
    last_before = sound.apart.last_before;
    manifest_before = sound.apart.manifest_before;
    series_rows = sound.apart.series_rows;
    last_rows = sound.apart.last_rows;
    manifest_rows = sound.apart.manifest_rows;
  };
  sound = record {
    holds = subst (λ (l : List Logged). Holds books.named.floor l (books.entries ++ entry ∷ [])) (sym (joined_more books.earlier books.latest (next_logged books entry)))
        (holds_next books.named.floor (joined (books.earlier ++ books.latest ∷ [])) (next_logged books entry) books.entries (omega arith) (omega (arith, next.limit)) (omega arith) sound.sound.holds);
    taken = taken_next books.series (overlay books.layers) books.entries entry sound.sound.taken next.taken;
  };
}

pub state_entry : (books : Books) (entry : Entry) → state_after (state_in books) (entry ∷ []) ≡ state_in (with_entry books entry)
state_entry books entry = sym (state_after-append (floor_of (meaning_of books)) books.entries (entry ∷ []))

-- each closed segment is a segment
pub segments_are : (files : Directory) (segments : List ℕ) (logged : List (List Logged)) → HasClosedSegments files segments logged → HasSegments files segments logged
segments_are files [] [] had = tt
segments_are files [] (l ∷ logged) had = had
segments_are files (file ∷ segments) [] had = had
segments_are files (file ∷ segments) (l ∷ logged) had = (file_weaker file (IsClosedLog (IsSegment l)) (IsSegment l) (λ bytes is. is.0) files had.0, segments_are files segments logged had.1)

-- and is closed
pub segments_closed : (files : Directory) (segments : List ℕ) (logged : List (List Logged)) → HasClosedSegments files segments logged → AllByRecursion (λ file. HasFile files file IsClosed) segments
segments_closed files [] [] had = tt
segments_closed files [] (l ∷ logged) had = absurd had
segments_closed files (file ∷ segments) [] had = absurd had
segments_closed files (file ∷ segments) (l ∷ logged) had = (file_weaker file (IsClosedLog (IsSegment l)) IsClosed (λ bytes is. is.1) files had.0, segments_closed files segments logged had.1)

pub closed_last : (files : Directory) (before : List ℕ) (earlier : List (List Logged)) (last : ℕ) (latest : List Logged) → HasClosedSegments files before earlier → HasFile files last (IsClosedLog (IsSegment latest))
    → HasClosedSegments files (before ++ last ∷ []) (earlier ++ latest ∷ [])
closed_last files [] [] last latest had here = (here, tt)
closed_last files [] (l ∷ earlier) last latest had here = absurd had
closed_last files (file ∷ before) [] last latest had here = absurd had
closed_last files (file ∷ before) (l ∷ earlier) last latest had here = (had.0, closed_last files before earlier last latest had.1 here)

-- the directory of an image stands for what the books say, where the last segment has these entries
abbrev pub says_so : (books : Books) (files : Directory) → AreBooks books → HasFile files manifest (IsClosedLog (IsManifest books.named)) → HasFile files books.series_file (IsClosedLog (IsSeriesFile books.series)) → HasLayers files (by_age books.named.files) books.layers
    → HasClosedSegments files books.before books.earlier → HasFile files books.last (IsClosedLog (IsSegment books.latest)) → StandsFor files (state_in books)
says_so books files sound named series layers earlier latest =
    let all : HasClosedSegments files books.named.segments (books.earlier ++ books.latest ∷ []) =
    subst (λ (l : List ℕ). HasClosedSegments files l (books.earlier ++ books.latest ∷ [])) (sym sound.segments) (closed_last files books.before books.earlier books.last books.latest earlier latest) in
    record {
      meaning = meaning_of books;
      says = record {
        manifest = file_weaker manifest (IsClosedLog (IsManifest books.named)) (IsManifest books.named) (λ bytes is. is.0) files named;
        series = subst (λ (o : Option ℕ). IsSomeAnd o (λ file. HasFile files file (IsSeriesFile books.series))) (sym sound.series)
            (file_weaker books.series_file (IsClosedLog (IsSeriesFile books.series)) (IsSeriesFile books.series) (λ bytes is. is.0) files series);
        layers = layers;
        segments = segments_are files books.named.segments (books.earlier ++ books.latest ∷ []) all;
      };
      closed = record {
        first = file_weaker manifest (IsClosedLog (IsManifest books.named)) IsClosed (λ bytes is. is.1) files named;
        series = subst (λ (o : Option ℕ). IsSomeAnd o (λ file. HasFile files file IsClosed)) (sym sound.series)
            (file_weaker books.series_file (IsClosedLog (IsSeriesFile books.series)) IsClosed (λ bytes is. is.1) files series);
        segments = segments_closed files books.named.segments (books.earlier ++ books.latest ∷ []) all;
      };
      sound = sound.sound;
      is = refl;
    }

-- the series that a file is of
series_of : (series : List (List ℕ)) (o : Option (List ℕ)) → IsSomeAnd o (IsClosedLog (IsSeriesFrom series)) → (more : List (List ℕ)) × IsSomeAnd o (IsClosedLog (IsSeriesFile (series ++ more)))
series_of series None had = absurd had
series_of series (Some bytes) had = (had.0.0, (had.0.1, had.1))

-- an image names a series file that has the series of the books, and maybe more
pub series_named : (books : Books) (files : Directory) (next : List Entry) → AreBooks books → IsImage books next files → (more : List (List ℕ)) × NamesSeries files (books.series ++ more)
series_named books files next sound image =
    let series = series_of books.series (get files books.series_file) image.series in (
      series.0,
      record {
        named = books.named;
        manifest = file_weaker manifest (IsClosedLog (IsManifest books.named)) (IsManifest books.named) (λ bytes is. is.0) files image.manifest;
        held = subst (λ (o : Option ℕ). IsSomeAnd o (λ file. HasFile files file (IsSeriesFile (books.series ++ series.0)))) (sym sound.series)
            (file_weaker books.series_file (IsClosedLog (IsSeriesFile (books.series ++ series.0))) (IsSeriesFile (books.series ++ series.0)) (λ bytes is. is.0) files series.1);
      },
    )

either_of : (P Q : List ℕ → Type 0) (o : Option (List ℕ)) → IsSomeAnd o (IsClosedLog (λ bytes. P bytes ⊎ Q bytes)) → IsSomeAnd o (IsClosedLog P) ⊎ IsSomeAnd o (IsClosedLog Q)
either_of P Q None had = absurd had
either_of P Q (Some bytes) had = ⊎_elim (λ p. inl (p, had.1)) (λ q. inr (q, had.1)) had.0

-- the files stand for the state, by what is named so and by these layers
abbrev pub StandsAs : Named → List Points → State → Directory → Type 0
StandsAs named layers state files = (stands : StandsFor files state) × (stands.meaning.named ≡ named) × (stands.meaning.layers ≡ layers)

-- so for the state, or for that behind one of these entries
abbrev pub StandsAsWithAtMost : Named → List Points → State → List Entry → Directory → Type 0
StandsAsWithAtMost named layers state [] files = StandsAs named layers state files
StandsAsWithAtMost named layers state (entry ∷ entries) files = StandsAs named layers (state_after state (entry ∷ [])) files ⊎ StandsAsWithAtMost named layers state entries files

stands_latest : (books : Books) (next : List Entry) (files : Directory) → AreBooks books → AllByRecursion (IsNext books) next → HasFile files manifest (IsClosedLog (IsManifest books.named)) → HasFile files books.series_file (IsClosedLog (IsSeriesFile books.series))
    → HasLayers files (by_age books.named.files) books.layers → HasClosedSegments files books.before books.earlier → HasFile files books.last (IsClosedLog (IsLatest books next)) → StandsAsWithAtMost books.named books.layers (state_in books) next files
stands_latest books [] files sound may named series layers earlier latest = (says_so books files sound named series layers earlier latest, refl, refl)
stands_latest books (entry ∷ next) files sound may named series layers earlier latest =
    ⊎_elim
    (λ more. inl (subst (λ (s : State). StandsAs books.named books.layers s files) (sym (state_entry books entry)) (says_so (with_entry books entry) files (sound_entry books entry sound may.0) named series layers earlier more, refl, refl)))
    (λ rest. inr (stands_latest books next files sound may.1 named series layers earlier rest))
    (either_of (IsSegment (books.latest ++ next_logged books entry ∷ [])) (IsLatest books next) (get files books.last) latest)

all_next : (books : Books) (more : List (List ℕ)) (next : List Entry) → AllByRecursion (IsNext books) next → AllByRecursion (IsNext (with_series books more)) next
all_next books more [] may = tt
all_next books more (entry ∷ next) may = (next_series books more entry may.0, all_next books more next may.1)

latest_series : (books : Books) (more : List (List ℕ)) (next : List Entry) (bytes : List ℕ) → IsLatest books next bytes → IsLatest (with_series books more) next bytes
latest_series books more [] bytes is = is
latest_series books more (entry ∷ next) bytes is = ⊎_elim (λ here. inl here) (λ rest. inr (latest_series books more next bytes rest)) is

-- an image stands for what the books say, or for that behind one of the entries
pub image_named : (books : Books) (next : List Entry) → AreBooks books → AllByRecursion (IsNext books) next → (files : Directory) → IsImage books next files → StandsAsWithAtMost books.named books.layers (state_in books) next files
image_named books next sound may files image =
    let series = series_of books.series (get files books.series_file) image.series in
    stands_latest (with_series books series.0) next files (sound_series books series.0 sound) (all_next books series.0 next may) image.manifest series.1 image.layers image.earlier
    (file_weaker books.last (IsClosedLog (IsLatest books next)) (IsClosedLog (IsLatest (with_series books series.0) next)) (λ bytes is. (latest_series books series.0 next bytes is.0, is.1)) files image.latest)

stands_named : (named : Named) (layers : List Points) (state : State) (next : List Entry) (files : Directory) → StandsAsWithAtMost named layers state next files → StandsWithAtMost state next files
stands_named named layers state [] files stands = inr stands.0
stands_named named layers state (entry ∷ next) files stands = ⊎_elim (λ here. inl (inr here.0)) (λ rest. inr (stands_named named layers state next files rest)) stands

pub image_stands : (books : Books) (next : List Entry) → AreBooks books → AllByRecursion (IsNext books) next → (files : Directory) → IsImage books next files → StandsWithAtMost (state_in books) next files
image_stands books next sound may files image = stands_named books.named books.layers (state_in books) next files (image_named books next sound may files image)
