-- The first files of a directory, as they are made one after another.
use Rattle.std.proofs.Common.{◌≡◌, ◌≢◌, inl, inr, ⊎_elim, ℕ, zero, suc, ◌<◌, List, [], ◌∷◌, refl, sym, ap, ◌∙◌, subst, arith, Bool, Option, Some, None, IsSome}
use Rattle.std.specs.Prelude.{IsSomeAnd, IsTrue}
use Rattle.std.specs.FinMap.{get}
use Rattle.shard_disk.specs.Crash.{Crashes, Leaves}
use Rattle.shard_disk.specs.Directory.{Appears, ChangesAt, Directory, HasFile, IsPresent, MadeOrNot}
use Rattle.shard_disk.specs.HandedOut.{HandedOut, KeepsAdopted}
use Rattle.shard_disk.specs.declared.disk.Disk.{Ghosts}
use Rattle.shard_disk.proofs.Everywhere.{file_weaker}
use Rattle.gate_log.specs.declared.log.Log.{Log}
use Rattle.gate_log.specs.Calls.Make.{Makes}
use Rattle.gate_log.specs.Log.{EndsBy, HasGate, IsPlaced, Stands}
use Rattle.gate_log.specs.Records.{IsClosed, IsGated, Spells}
use Rattle.gate_log.proofs.Images.{log_image, shut_has}
use Rattle.point_model.specs.Histories.{nothing}
use Rattle.manifest_log.specs.declared.change.Change.{Change}
use Rattle.manifest_log.specs.declared.manifest.Manifest.{Manifest}
use Rattle.manifest_log.specs.Calls.{Begins, CanFollow}
use Rattle.manifest_log.specs.Reading.{bodies_of, manifest}
use Rattle.manifest_log.proofs.BeginLemmas.{begun_file, begun_gate, begun_placed, begun_stands, first_follows}
use Rattle.manifest_log.proofs.LookLemmas.{none_there}
use Rattle.shard_state.specs.Crashes.{LeavesOnly}
use Rattle.shard_state.specs.Creating.{AreFirst, AreNew}
use Rattle.shard_state.specs.Meaning.{Stands as StandsAs}
use Rattle.shard_state.specs.Opening.{IsBlankAtOpening}
use Rattle.shard_state.proofs.Alike.{stands_alike}
use Rattle.shard_state.proofs.Elsewhere.{file_elsewhere, stands_elsewhere}
use Rattle.shard_state.proofs.Leaving.{leaves_of}

-- a manifest was begun, and no reader is out more than before
pub begun_readers : (tells : Type 0) (m : Manifest) (files files' : Directory) (crashes crashes' : Crashes) (handed handed' : HandedOut) → Begins tells m files files' crashes crashes' handed handed' → handed'.readers ≡ handed.readers
begun_readers tells m files files' crashes crashes' handed handed' begins = ⊎_elim (λ as_it_is. ap (λ (h : HandedOut). h.readers) as_it_is.handed_out) (λ new. new.log.number.readers) begins

some_of : {X : Type 0} (P : X → Type 0) (o : Option X) → IsSomeAnd o P → IsSome o
some_of P None had = absurd had
some_of P (Some x) had = refl

there : (files : Directory) (file : ℕ) (P : List ℕ → Type 0) → HasFile files file P → IsPresent files file
there files file P had = some_of P (get files file) had

-- it stands for nothing yet
abbrev pub Empty : Directory → Type 0
Empty c = StandsAs c nothing

pub blank_left : (c : Directory) → HasFile c manifest (IsGated []) → Empty c
blank_left c had = inl (inr had, refl)

-- a manifest without an edit, in a crash now
pub gated_now : (files : Directory) (crashes : Crashes) (log : Log) → log.file ≡ manifest → HasGate log → Stands files crashes log [] None → (c : Directory) → crashes.now c → HasFile c manifest (IsGated [])
gated_now files crashes log file gate stands = log_image files crashes log [] None manifest (IsGated []) file gate stands (λ bytes is. is)

-- the manifest's file is made, or was there
pub begin_leaves : (old new : Crashes) → ((c : Directory) → old.now c → Empty c) → Leaves (ChangesAt manifest (MadeOrNot (Appears (0 ∷ [])))) old new → LeavesOnly Empty old new
begin_leaves old new images run = leaves_of (ChangesAt manifest (MadeOrNot (Appears (0 ∷ [])))) Empty old new
    (λ d c now made. ⊎_elim (λ same. stands_alike d c (at d c same made.others) nothing (images d now))
    (λ appears. blank_left c (subst (λ (o : Option (List ℕ)). IsSomeAnd o (IsGated [])) (sym appears) gated)) made.here) run
  where
    gated : IsGated [] (0 ∷ [])
    gated = record { rest = 0 ∷ []; spelling = refl; ending = record { gate = 0; behind = []; bytes = refl; shut = λ e. cc e } }

    at : (d c : Directory) → get c manifest ≡ get d manifest → ((n : ℕ) → n ≢ manifest → get c n ≡ get d n) → (n : ℕ) → get c n ≡ get d n
    at d c here others zero = here
    at d c here others (suc n) = others (suc n) (λ e. cc e)

-- a file more is made while the manifest has no edit
pub make_leaves : (files : Directory) (old new : Crashes) (log : Log) (number : ℕ) → log.file ≡ manifest → HasGate log → Stands files old log [] None → manifest ≢ number → Leaves (ChangesAt number (MadeOrNot (Appears (0 ∷ [])))) old new → LeavesOnly Empty old new
make_leaves files old new log number file gate stands apart run = leaves_of (ChangesAt number (MadeOrNot (Appears (0 ∷ [])))) Empty old new
    (λ d c now made. blank_left c (file_elsewhere manifest number (MadeOrNot (Appears (0 ∷ []))) (IsGated []) d c apart made (gated_now files old log file gate stands d now))) run

-- what one file more leaves of the others
module _ {D R W : Type 0} (g : Ghosts D R W) (numbered : (d : D) (n : ℕ) → IsTrue g.tells → IsPresent (g.files d) n → n < (g.handed_out d).next_number) (old new : D) (log : Log)
    (makes : Makes (IsTrue g.tells) log (g.files old) (g.files new) (g.crashes new) (g.handed_out old) (g.handed_out new)) (told : IsTrue g.tells)
    (run : Leaves (ChangesAt (g.handed_out old).next_number (MadeOrNot (Appears (0 ∷ [])))) (g.crashes old) (g.crashes new)) (other : Log) (placed : IsPlaced (g.files old) other) where
  pub apart_made : other.file ≢ log.file
  apart_made e = below other.file (g.handed_out old).next_number (numbered old other.file told (there (g.files old) other.file _ placed)) (e ∙ makes.number.is_next)
    where
      below : (a b : ℕ) → a < b → a ≡ b → ⊥
      below a b lt same = omega (arith, lt, same)

  pub placed_made : IsPlaced (g.files new) other
  placed_made = file_elsewhere other.file log.file (Appears (0 ∷ [])) _ (g.files old) (g.files new) apart_made (makes.file told) placed

  pub stands_made : (records : List (List ℕ)) (doubt : Option (List ℕ)) → Stands (g.files old) (g.crashes old) other records doubt → Stands (g.files new) (g.crashes new) other records doubt
  stands_made records doubt had =
      stands_elsewhere log.file (Appears (0 ∷ [])) (MadeOrNot (Appears (0 ∷ []))) (g.files old) (g.files new) (g.crashes old) (g.crashes new) (makes.file told)
      (subst (λ (n : ℕ). Leaves (ChangesAt n (MadeOrNot (Appears (0 ∷ [])))) (g.crashes old) (g.crashes new)) (sym makes.number.is_next) run) other records doubt apart_made had

  pub adopted_made : IsTrue ((g.handed_out old).adopted other.file) → IsTrue ((g.handed_out new).adopted other.file)
  adopted_made had = subst (λ (b : Bool). IsTrue b) (sym (makes.number.others other.file apart_made)) had

  pub follow_made : (changes : List Change) (manifest_log : Manifest) → manifest_log.log ≡ other → CanFollow changes manifest_log (g.files old) → CanFollow changes manifest_log (g.files new)
  follow_made changes manifest_log is had = record {
    edits = had.edits;
    doubt = had.doubt;
    directory = had.directory;
    next = had.next;
    lead = had.lead;
    place = had.place;
    reads = file_elsewhere manifest_log.log.file log.file (Appears (0 ∷ [])) (Spells (bodies_of had.edits) (EndsBy manifest_log.log.gate had.doubt)) (g.files old) (g.files new)
        (subst (λ (l : Log). l.file ≢ log.file) (sym is) apart_made) (makes.file told) had.reads;
    follows = had.follows;
    segment = had.segment;
  }

module _ {D R W : Type 0} (g : Ghosts D R W) (numbered : (d : D) (n : ℕ) → IsTrue g.tells → IsPresent (g.files d) n → n < (g.handed_out d).next_number)
    (keeps : (d : D) → IsTrue g.tells → KeepsAdopted (g.files d) (g.crashes d) (g.handed_out d)) (start begun : D) where
  abbrev IsBlankThere : Type 0
  IsBlankThere = IsBlankAtOpening (g.files start) (g.crashes start) (g.handed_out start)

  -- a crash until the manifest is there
  pub crash_begin : (IsTrue g.tells → Leaves (ChangesAt manifest (MadeOrNot (Appears (0 ∷ [])))) (g.crashes start) (g.crashes begun))
      → IsTrue g.tells → ((c : Directory) → (g.crashes start).now c → Empty c) → LeavesOnly Empty (g.crashes start) (g.crashes begun)
  crash_begin run told images = begin_leaves (g.crashes start) (g.crashes begun) images (run told)

  module _ (m : Manifest) (begins : Begins (IsTrue g.tells) m (g.files start) (g.files begun) (g.crashes start) (g.crashes begun) (g.handed_out start) (g.handed_out begun)) (told : IsTrue g.tells) (blank : IsBlankThere) where
    pub stands_begun : Stands (g.files begun) (g.crashes begun) m.log [] None
    stands_begun = begun_stands (IsTrue g.tells) told m (g.files start) (g.files begun) (g.crashes start) (g.crashes begun) (g.handed_out start) (g.handed_out begun) begins
        (⊎_elim (λ none. inl none.0) (λ gated. inr (λ c now. (keeps start told).left manifest gated.1 c now)) blank)

    pub gate_begun : HasGate m.log
    gate_begun = begun_gate (IsTrue g.tells) told m (g.files start) (g.files begun) (g.crashes start) (g.crashes begun) (g.handed_out start) (g.handed_out begun) begins
        (⊎_elim (λ none. inl none.0) (λ gated. inr (file_weaker manifest (IsGated []) IsClosed (λ bytes is. record { records = []; fit = tt; gated = is }) (g.files start) gated.0)) blank)

    file_begun : m.log.file ≡ manifest
    file_begun = begun_file (IsTrue g.tells) told m (g.files start) (g.files begun) (g.crashes start) (g.crashes begun) (g.handed_out start) (g.handed_out begun) begins

    pub adopted_begun : IsTrue ((g.handed_out begun).adopted m.log.file)
    adopted_begun = ⊎_elim
        (λ as_it_is. subst (λ (n : ℕ). IsTrue ((g.handed_out begun).adopted n)) (sym file_begun)
        (subst (λ (h : HandedOut). IsTrue (h.adopted manifest)) (sym as_it_is.handed_out) (⊎_elim (λ none. absurd (none_there (g.files start) none.0 (as_it_is.there told))) (λ gated. gated.1) blank)))
        (λ new. new.log.adopted told) begins

    -- a crash while a file more is made
    pub crash_make : (new : D) → Leaves (ChangesAt (g.handed_out begun).next_number (MadeOrNot (Appears (0 ∷ [])))) (g.crashes begun) (g.crashes new) → LeavesOnly Empty (g.crashes begun) (g.crashes new)
    crash_make new run = make_leaves (g.files begun) (g.crashes begun) (g.crashes new) m.log (g.handed_out begun).next_number file_begun gate_begun stands_begun
        (λ e. below manifest (g.handed_out begun).next_number (numbered begun manifest told (there (g.files begun) manifest (Spells [] (EndsBy m.log.gate None)) (subst (λ (n : ℕ). HasFile (g.files begun) n (Spells [] (EndsBy m.log.gate None))) file_begun stands_begun.file.read))) e) run
      where
        below : (a b : ℕ) → a < b → a ≡ b → ⊥
        below a b lt same = omega (arith, lt, same)

-- all three files, over the disks between
module _ {D R W : Type 0} (g : Ghosts D R W) (numbered : (d : D) (n : ℕ) → IsTrue g.tells → IsPresent (g.files d) n → n < (g.handed_out d).next_number)
    (keeps : (d : D) → IsTrue g.tells → KeepsAdopted (g.files d) (g.crashes d) (g.handed_out d)) (start begun mid end : D) (m : Manifest) (series segment : Log)
    (begins : Begins (IsTrue g.tells) m (g.files start) (g.files begun) (g.crashes start) (g.crashes begun) (g.handed_out start) (g.handed_out begun))
    (one : Makes (IsTrue g.tells) series (g.files begun) (g.files mid) (g.crashes mid) (g.handed_out begun) (g.handed_out mid))
    (two : Makes (IsTrue g.tells) segment (g.files mid) (g.files end) (g.crashes end) (g.handed_out mid) (g.handed_out end))
    (run : IsTrue g.tells → Leaves (ChangesAt (g.handed_out begun).next_number (MadeOrNot (Appears (0 ∷ [])))) (g.crashes begun) (g.crashes mid))
    (more : IsTrue g.tells → Leaves (ChangesAt (g.handed_out mid).next_number (MadeOrNot (Appears (0 ∷ [])))) (g.crashes mid) (g.crashes end)) where
  file_0 : m.log.file ≡ manifest
  file_0 = ⊎_elim (λ as_it_is. as_it_is.log.file) (λ new. new.file) begins

  placed_0 : IsTrue g.tells → IsPlaced (g.files begun) m.log
  placed_0 told = begun_placed (IsTrue g.tells) told m (g.files start) (g.files begun) (g.crashes start) (g.crashes begun) (g.handed_out start) (g.handed_out begun) begins

  placed_1 : IsTrue g.tells → IsPlaced (g.files mid) m.log
  placed_1 told = placed_made g numbered begun mid series one told (run told) m.log (placed_0 told)

  pub are_first : AreFirst g end (record { manifest = m; series = series; segment = segment })
  are_first = record {
    manifest_file = file_0;
    series_small = omega (arith, one.number.limit);
    segment_small = omega (arith, two.number.limit);
    series_empty = one.empty;
    segment_empty = two.empty;
    manifest_placed = λ told. placed_made g numbered mid end segment two told (more told) m.log (placed_1 told);
    series_placed = λ told. placed_made g numbered mid end segment two told (more told) series (one.placed told);
    segment_placed = two.placed;
    series_manifest = λ told e. apart_made g numbered begun mid series one told (run told) m.log (placed_0 told) (file_0 ∙ e);
    segment_manifest = λ told e. apart_made g numbered mid end segment two told (more told) m.log (placed_1 told) (file_0 ∙ e);
    segment_series = λ told. apart_made g numbered mid end segment two told (more told) series (one.placed told);
    first = λ told changes next follows some. follow_made g numbered mid end segment two told (more told) m.log (placed_1 told) changes m refl
        (follow_made g numbered begun mid series one told (run told) m.log (placed_0 told) changes m refl
        (first_follows (IsTrue g.tells) told m (g.files start) (g.files begun) (g.crashes start) (g.crashes begun) (g.handed_out start) (g.handed_out begun) begins changes next follows some));
  }

  module _ (told : IsTrue g.tells) (blank : IsBlankAtOpening (g.files start) (g.crashes start) (g.handed_out start)) where
    stands_0 : Stands (g.files begun) (g.crashes begun) m.log [] None
    stands_0 = stands_begun g numbered keeps start begun m begins told blank

    gate_0 : HasGate m.log
    gate_0 = gate_begun g numbered keeps start begun m begins told blank

    stands_1 : Stands (g.files mid) (g.crashes mid) m.log [] None
    stands_1 = stands_made g numbered begun mid series one told (run told) m.log (placed_0 told) [] None stands_0

    pub are_new : AreNew g end (record { manifest = m; series = series; segment = segment })
    are_new = record {
      manifest = stands_made g numbered mid end segment two told (more told) m.log (placed_1 told) [] None stands_1;
      series = stands_made g numbered mid end segment two told (more told) series (one.placed told) [] None (one.stands told);
      segment = two.stands told;
      manifest_gate = gate_0;
      series_gate = shut_has series one.shut;
      segment_gate = shut_has segment two.shut;
      manifest_adopted = adopted_made g numbered mid end segment two told (more told) m.log (placed_1 told)
          (adopted_made g numbered begun mid series one told (run told) m.log (placed_0 told) (adopted_begun g numbered keeps start begun m begins told blank));
      series_adopted = adopted_made g numbered mid end segment two told (more told) series (one.placed told) (one.adopted told);
      segment_adopted = two.adopted told;
    }

-- a crash while the last of them is made
pub crash_last : {D R W : Type 0} (g : Ghosts D R W) (numbered : (d : D) (n : ℕ) → IsTrue g.tells → IsPresent (g.files d) n → n < (g.handed_out d).next_number) (keeps : (d : D) → IsTrue g.tells → KeepsAdopted (g.files d) (g.crashes d) (g.handed_out d))
    (start begun mid end : D) (m : Manifest) (series : Log) → Begins (IsTrue g.tells) m (g.files start) (g.files begun) (g.crashes start) (g.crashes begun) (g.handed_out start) (g.handed_out begun)
    → Makes (IsTrue g.tells) series (g.files begun) (g.files mid) (g.crashes mid) (g.handed_out begun) (g.handed_out mid) → (told : IsTrue g.tells) → IsBlankAtOpening (g.files start) (g.crashes start) (g.handed_out start)
    → Leaves (ChangesAt (g.handed_out begun).next_number (MadeOrNot (Appears (0 ∷ [])))) (g.crashes begun) (g.crashes mid) → Leaves (ChangesAt (g.handed_out mid).next_number (MadeOrNot (Appears (0 ∷ [])))) (g.crashes mid) (g.crashes end)
    → LeavesOnly Empty (g.crashes mid) (g.crashes end)
crash_last g numbered keeps start begun mid end m series begins one told blank run more =
    make_leaves (g.files mid) (g.crashes mid) (g.crashes end) m.log (g.handed_out mid).next_number file gate stands
    (λ e. below manifest (g.handed_out mid).next_number (numbered mid manifest told (there (g.files mid) manifest (Spells [] (EndsBy m.log.gate None)) (subst (λ (n : ℕ). HasFile (g.files mid) n (Spells [] (EndsBy m.log.gate None))) file stands.file.read))) e) more
  where
    file : m.log.file ≡ manifest
    file = ⊎_elim (λ as_it_is. as_it_is.log.file) (λ new. new.file) begins

    gate : HasGate m.log
    gate = gate_begun g numbered keeps start begun m begins told blank

    stands : Stands (g.files mid) (g.crashes mid) m.log [] None
    stands = stands_made g numbered begun mid series one told run m.log
        (begun_placed (IsTrue g.tells) told m (g.files start) (g.files begun) (g.crashes start) (g.crashes begun) (g.handed_out start) (g.handed_out begun) begins) [] None
        (stands_begun g numbered keeps start begun m begins told blank)

    below : (a b : ℕ) → a < b → a ≡ b → ⊥
    below a b lt same = omega (arith, lt, same)
