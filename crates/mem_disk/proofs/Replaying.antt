-- Files in maps, one change further.
use Rattle.std.proofs.Common.{◌≡◌, ◌≢◌, inl, inr, ℕ, ◌+◌, ◌<◌, List, [], ◌∷◌, ◌++◌, length, get_or, take, refl, sym, ◌∙◌, ap, subst, Option, Vec}
use Rattle.std.specs.Prelude.{reverse}
use Rattle.std.specs.declared.alloc.Global.{Global}
use Rattle.std.specs.declared.option.Option.TheVariants.{None, Some}
use Rattle.std.proofs.lemmas.Bool.{cases_eq}
use Rattle.std.proofs.lemmas.List.{take_more}
use Rattle.std.specs.BTreeMap as tree
use Rattle.std.specs.FinMap.{empty, get, get-empty}
use Rattle.std.specs.Map.{lookup}
use Rattle.std.specs.Ordering.{nat_cmp}
use Rattle.shard_disk.specs.Directory.{Directory, Step, ChangesAt, Appears, Vanishes, MadeOrNot, IfThere, Overwritten, Torn, spliced}
use Rattle.shard_disk.proofs.Steps.{changes_same, get_inserted, get_inserted_other, get_removed, get_removed_other}
use Rattle.mem_disk.specs.declared.change.Change.{Change}
use Rattle.mem_disk.specs.declared.change.Change.TheVariants.{Added, Offered, Wrote, Tore, Synced, Removed, Condemned}
use Rattle.mem_disk.specs.History.{bytes_of, leaves, reads, written}
use Rattle.mem_disk.specs.Replayed.{Files, AreFiles, ChangesFile, Determines, Replays}
use Rattle.mem_disk.proofs.Changes.{newest_first}
use Rattle.mem_disk.proofs.Images.{set_file, get_set, get_set_other, as_read, same_directory}
use Rattle.mem_disk.proofs.Settled.{written_other}

abbrev file_at : Files → ℕ → Option (List ℕ)
file_at files number = bytes_of (tree.get nat_cmp files number)

-- before the first change
pub replays_none : (read left : Files) → read.entries ≡ [] → left.entries ≡ [] → Replays [] read left
replays_none read left no_read no_left = record { reading = none read no_read; image = empty; allowed = refl; leaving = none left no_left }
  where
    none : (files : Files) → files.entries ≡ [] → AreFiles empty files
    none files is n = ap (λ (es : List (ℕ × Vec ℕ Global)). bytes_of (lookup (tree.is_at (nat_cmp n)) es)) is ∙ sym (get-empty nat_cmp n)

-- a change more of a list, the newest first
pub one_more : (changes : List Change) (i : ℕ) (change : Change) → i < length changes → change ≡ get_or changes i change → change ∷ reverse (take i changes) ≡ reverse (take (i + 1) changes)
one_more changes i change lt is =
    sym (ap (λ (l : List Change). reverse l) (take_more changes i change lt ∙ ap (λ (x : Change). take i changes ++ x ∷ []) (sym is)) ∙ newest_first (take i changes) change)

-- a directory of the files that are left is one that a crash may leave
pub image_left : (past : List Change) (read left left' : Files) (d : Directory) → Replays past read left → left' ≡ left → AreFiles d left' → leaves past d
image_left past read left left' d was is are =
    subst (λ (c : Directory). leaves past c) (same_directory was.image d (λ n. sym (was.leaving n) ∙ ap (λ (files : Files). file_at files n) (sym is) ∙ are n)) was.allowed

module _ (old new : Files) (number : ℕ) (step : Step) (made : ChangesFile number step old new) (d : Directory) (are : AreFiles d old) where
  -- the directory after the step
  after : Directory
  after = set_file d number (file_at new number)

  after_files : AreFiles after new
  unfolding after
  after_files n = elim (cases_eq n number) [
    | inl same ↦ subst (λ (k : ℕ). file_at new k ≡ get (set_file d number (file_at new number)) k) (sym same) (sym (get_set d number (file_at new number)))
    | inr apart ↦ ap bytes_of (made.others n apart) ∙ are n ∙ sym (get_set_other d number (file_at new number) n apart)
  ]

  after_step : ChangesAt number step d after
  unfolding after
  after_step = record {
    here =
        subst (λ (o : Option (List ℕ)). step o (get (set_file d number (file_at new number)) number)) (are number)
        (subst (λ (o : Option (List ℕ)). step (file_at old number) o) (sym (get_set d number (file_at new number))) made.here);
    others = get_set_other d number (file_at new number);
  }

  -- of a directory that has the file as the map has it
  same_after : (d' : Directory) → get d' number ≡ file_at new number → ((n : ℕ) → n ≢ number → get d' n ≡ get d n) → AreFiles d' new
  same_after d' here others n = elim (cases_eq n number) [
    | inl same ↦ subst (λ (k : ℕ). file_at new k ≡ get d' k) (sym same) (sym here)
    | inr apart ↦ ap bytes_of (made.others n apart) ∙ are n ∙ sym (others n apart)
  ]

wrote_here : (files : Directory) (number at : ℕ) (bytes : List ℕ) (old new : Option (List ℕ)) → get files number ≡ old → IfThere (Overwritten at bytes) old new → get (written (get files number) at bytes files number) number ≡ new
wrote_here files number at bytes None None is made = subst (λ (o : Option (List ℕ)). get (written o at bytes files number) number ≡ None) (sym is) is
wrote_here files number at bytes (Some file) (Some file') is made =
    subst (λ (o : Option (List ℕ)). get (written o at bytes files number) number ≡ Some file') (sym is)
    (get_inserted files number (spliced file at (length bytes) bytes) ∙ ap (λ (b : List ℕ). Some b) (sym made))
wrote_here files number at bytes (Some file) None is made = absurd made
wrote_here files number at bytes None (Some file') is made = absurd made

module _ (past : List Change) (read left : Files) (was : Replays past read left) where
  pub replays_added : (number : ℕ) (bytes : Vec ℕ Global) (read' left' : Files) → ChangesFile number (Appears bytes.items) read read' → ChangesFile number (Appears bytes.items) left left' → Replays (Added number bytes ∷ past) read' left'
  replays_added number bytes read' left' reading leaving = record {
    reading = same_after read read' number (Appears bytes.items) reading (reads past) was.reading (reads (Added number bytes ∷ past))
        (get_inserted (reads past) number bytes.items ∙ sym reading.here) (get_inserted_other (reads past) number bytes.items);
    image = after left left' number (Appears bytes.items) leaving was.image was.leaving;
    allowed = (was.image, was.allowed, after_step left left' number (Appears bytes.items) leaving was.image was.leaving);
    leaving = after_files left left' number (Appears bytes.items) leaving was.image was.leaving;
  }

  or_not : (number : ℕ) (step : Step) (left' : Files) → ChangesFile number step left left' → ChangesFile number (MadeOrNot step) left left'
  or_not number step left' leaving = record { here = inr leaving.here; others = leaving.others }

  pub replays_offered : (number : ℕ) (bytes : Vec ℕ Global) (left' : Files) → ChangesFile number (Appears bytes.items) left left' → Replays (Offered number bytes ∷ past) read left'
  replays_offered number bytes left' leaving =
      let may = or_not number (Appears bytes.items) left' leaving in record {
        reading = was.reading;
        image = after left left' number (MadeOrNot (Appears bytes.items)) may was.image was.leaving;
        allowed = (was.image, was.allowed, after_step left left' number (MadeOrNot (Appears bytes.items)) may was.image was.leaving);
        leaving = after_files left left' number (MadeOrNot (Appears bytes.items)) may was.image was.leaving;
      }

  pub replays_not_offered : (number : ℕ) (bytes : Vec ℕ Global) → Replays (Offered number bytes ∷ past) read left
  replays_not_offered number bytes = record {
    reading = was.reading;
    image = was.image;
    allowed = (was.image, was.allowed, changes_same number (MadeOrNot (Appears bytes.items)) (λ file. inl refl) was.image);
    leaving = was.leaving;
  }

  pub replays_wrote : (number at : ℕ) (bytes : Vec ℕ Global) (read' left' : Files) → ChangesFile number (IfThere (Overwritten at bytes.items)) read read' → ChangesFile number (IfThere (Torn at (length bytes.items))) left left'
      → Replays (Wrote number at bytes ∷ past) read' left'
  replays_wrote number at bytes read' left' reading leaving = record {
    reading = same_after read read' number (IfThere (Overwritten at bytes.items)) reading (reads past) was.reading (reads (Wrote number at bytes ∷ past))
        (wrote_here (reads past) number at bytes.items (file_at read number) (file_at read' number) (sym (was.reading number)) reading.here)
        (λ n apart. written_other number at bytes.items (get (reads past) number) (reads past) n apart);
    image = after left left' number (IfThere (Torn at (length bytes.items))) leaving was.image was.leaving;
    allowed = (was.image, was.allowed, after_step left left' number (IfThere (Torn at (length bytes.items))) leaving was.image was.leaving);
    leaving = after_files left left' number (IfThere (Torn at (length bytes.items))) leaving was.image was.leaving;
  }

  pub replays_tore : (number at n : ℕ) (left' : Files) → ChangesFile number (IfThere (Torn at n)) left left' → Replays (Tore number at n ∷ past) read left'
  replays_tore number at n left' leaving = record {
    reading = was.reading;
    image = after left left' number (IfThere (Torn at n)) leaving was.image was.leaving;
    allowed = (was.image, was.allowed, after_step left left' number (IfThere (Torn at n)) leaving was.image was.leaving);
    leaving = after_files left left' number (IfThere (Torn at n)) leaving was.image was.leaving;
  }

  pub replays_synced : (number : ℕ) (left' : Files) → ChangesFile number (Determines (file_at read number)) left left' → Replays (Synced number ∷ past) read left'
  replays_synced number left' leaving = elim leaving.here [
    | inl absent ↦
        let gone : get was.image number ≡ None = sym (was.leaving number) ∙ absent.0 in record {
          reading = was.reading;
          image = was.image;
          allowed = (was.allowed, inl gone);
          leaving = same_after left left' number (Determines (file_at read number)) leaving was.image was.leaving was.image (gone ∙ sym absent.1) (λ n apart. refl);
        }
    | inr as_it_reads ↦
        let image = after left left' number (Determines (file_at read number)) leaving was.image was.leaving in
        let made = after_step left left' number (Determines (file_at read number)) leaving was.image was.leaving in
        let here : get image number ≡ get (reads past) number =
        sym (after_files left left' number (Determines (file_at read number)) leaving was.image was.leaving number) ∙ as_it_reads ∙ was.reading number in record {
          reading = was.reading;
          image = image;
          allowed = (as_read past number was.image image was.allowed (record { here = here; others = made.others }), inr here);
          leaving = after_files left left' number (Determines (file_at read number)) leaving was.image was.leaving;
        }
  ]

  -- a map without the file reads as the directory without it
  without : (number : ℕ) (read' : Files) → ChangesFile number Vanishes read read' → AreFiles (reads (Removed number ∷ past)) read'
  without number read' reading =
      same_after read read' number Vanishes reading (reads past) was.reading (reads (Removed number ∷ past))
      (get_removed (reads past) number ∙ sym reading.here) (get_removed_other (reads past) number)

  pub replays_removed : (number : ℕ) (read' left' : Files) → ChangesFile number Vanishes read read' → ChangesFile number Vanishes left left' → Replays (Removed number ∷ past) read' left'
  replays_removed number read' left' reading leaving =
      let may = or_not number Vanishes left' leaving in record {
        reading = without number read' reading;
        image = after left left' number (MadeOrNot Vanishes) may was.image was.leaving;
        allowed = (was.image, was.allowed, after_step left left' number (MadeOrNot Vanishes) may was.image was.leaving);
        leaving = after_files left left' number (MadeOrNot Vanishes) may was.image was.leaving;
      }

  pub replays_not_removed : (number : ℕ) (read' : Files) → ChangesFile number Vanishes read read' → Replays (Removed number ∷ past) read' left
  replays_not_removed number read' reading = record {
    reading = without number read' reading;
    image = was.image;
    allowed = (was.image, was.allowed, changes_same number (MadeOrNot Vanishes) (λ file. inl refl) was.image);
    leaving = was.leaving;
  }

  pub replays_condemned : (number : ℕ) (left' : Files) → ChangesFile number Vanishes left left' → Replays (Condemned number ∷ past) read left'
  replays_condemned number left' leaving =
      let may = or_not number Vanishes left' leaving in record {
        reading = was.reading;
        image = after left left' number (MadeOrNot Vanishes) may was.image was.leaving;
        allowed = (was.image, was.allowed, after_step left left' number (MadeOrNot Vanishes) may was.image was.leaving);
        leaving = after_files left left' number (MadeOrNot Vanishes) may was.image was.leaving;
      }

  pub replays_not_condemned : (number : ℕ) → Replays (Condemned number ∷ past) read left
  replays_not_condemned number = record {
    reading = was.reading;
    image = was.image;
    allowed = (was.image, was.allowed, changes_same number (MadeOrNot Vanishes) (λ file. inl refl) was.image);
    leaving = was.leaving;
  }
