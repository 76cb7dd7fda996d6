-- Files that a directory stands for aren't damaged.
use Rattle.std.proofs.Common.{◌≡◌, ℕ, zero, suc, ◌<◌, Bool, true, false, List, [], ◌∷◌, ◌++◌, length, get_or, take, drop, take-append-drop, arith, refl, sym, ap, ◌∙◌, subst, append_assoc, nat_lt, Option, None, Some, IsSome, if◌then◌else◌}
use Rattle.std.proofs.lemmas.Grind.{flat_map-append}
use Rattle.std.specs.Prelude.{IsSomeAnd}
use Rattle.std.specs.FinMap.{get}
use Rattle.std.specs.List.{AllByRecursion}
use Rattle.shard_disk.specs.Directory.{Directory, HasFile, IsPresent}
use Rattle.shard_disk.specs.declared.damage.Damage.{Damage}
use Rattle.file_table.specs.declared.row.FileRow.{FileRow}
use Rattle.point_model.specs.Points.{Points}
use Rattle.wal_store.specs.Replay.{AreCounted, HasSegments, IsSegment, IsWrong, IsWrongSegment, Logged, joined}
use Rattle.wal_store.proofs.OnceLemmas.{never_wrong}
use Rattle.wal_store.proofs.ReplayLemmas.{counted_front}
use Rattle.shard_state.specs.Layers.{HasLayers, by_age, with_row}
use Rattle.shard_recover.proofs.OpeningLemmas.{both, segments_once}

nowhere : (o : Option (List ℕ)) → IsSomeAnd o (λ bytes. ⊥) → ⊥
nowhere None had = had
nowhere (Some bytes) had = had

-- no file is a layer yet
none_first : (files : Directory) (row : FileRow) (rows : List FileRow) (layers : List Points) → HasLayers files (row ∷ rows) layers → ⊥
none_first files row rows [] had = had
none_first files row rows (l ∷ layers) had = nowhere (get files row.no) had.0

none_of : (files : Directory) (b : Bool) (row other : FileRow) (some others : List FileRow) (layers : List Points) → HasLayers files (if b then row ∷ some else other ∷ others) layers → ⊥
none_of files true row other some others layers had = none_first files row some layers had
none_of files false row other some others layers had = none_first files other others layers had

none_with : (files : Directory) (row : FileRow) (rows : List FileRow) (layers : List Points) → HasLayers files (with_row row rows) layers → ⊥
none_with files row [] layers had = none_first files row [] layers had
none_with files row (other ∷ rows) layers had = none_of files (nat_lt row.generation other.generation) row other (other ∷ rows) (with_row row rows) layers had

pub no_rows : (files : Directory) (rows : List FileRow) (layers : List Points) → HasLayers files (by_age rows) layers → rows ≡ []
no_rows files [] layers had = refl
no_rows files (row ∷ rows) layers had = absurd (none_with files row (by_age rows) layers had)

-- a segment, those before it and those behind it
pub record Cut (files : Directory) (before : List ℕ) (file : ℕ) (all : List (List Logged)) : Type 0 where
  pub earlier : List (List Logged)
  pub here : List Logged
  pub later : List (List Logged)
  pub parts : all ≡ earlier ++ here ∷ later
  pub have : HasSegments files before earlier
  pub is : HasFile files file (IsSegment here)

pub cut : (files : Directory) (before : List ℕ) (file : ℕ) (others : List ℕ) (all : List (List Logged)) → HasSegments files (before ++ file ∷ others) all → Cut files before file all
cut files [] file others [] had = absurd had
cut files [] file others (l ∷ all) had = record { earlier = []; here = l; later = all; parts = refl; have = tt; is = had.0 }
cut files (b ∷ before) file others [] had = absurd had
cut files (b ∷ before) file others (l ∷ all) had =
    let more = cut files before file others all had.1 in
    record { earlier = l ∷ more.earlier; here = more.here; later = more.later; parts = ap (λ (x : List (List Logged)). l ∷ x) more.parts; have = (had.0, more.have); is = more.is }

pub joined_cut : (earlier : List (List Logged)) (here : List Logged) (later : List (List Logged)) → joined (earlier ++ here ∷ later) ≡ (joined earlier ++ here) ++ joined later
joined_cut earlier here later = flat_map-append (λ (x : List Logged). x) earlier (here ∷ later) ∙ sym (append_assoc (joined earlier) here (joined later))

there : (P : List ℕ → Type 0) (o : Option (List ℕ)) → IsSomeAnd o P → IsSome o
there P None had = absurd had
there P (Some bytes) had = refl

pub had_by_files : (files : Directory) (file : ℕ) (P : List ℕ → Type 0) → HasFile files file P → IsPresent files file
had_by_files files file P had = there P (get files file) had
