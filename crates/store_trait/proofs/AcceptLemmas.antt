-- What a store in memory tells when it makes an entry.
use Rattle.std.proofs.Common.{◌≡◌, ◌∙◌, ap, sym, subst, refl, ℕ, ◌+◌, ◌<◌, T, List, [], ◌∷◌, ◌++◌, length, None, arith, append-nil, length-append}
use Rattle.std.specs.FinMap.Entries.{is_sorted}
use Rattle.tsdb_types.specs.Moments.{IsMoment}
use Rattle.tsdb_types.specs.declared.point.Point.{Point}
use Rattle.point_model.specs.Acceptance.{conflict, IsWritable}
use Rattle.point_model.specs.declared.entry.Entry.{Entry}
use Rattle.point_model.specs.Histories.{after, after_entry, with_points}
use Rattle.point_model.specs.Points.{Points, no_points, cell_cmp}
use Rattle.point_model.proofs.HistoryLemmas.{after-append}
use Rattle.store_trait.specs.declared.note.EntryNote.{EntryNote}
use Rattle.store_trait.specs.Notes.{entry_noted, entries_of}
use Rattle.store_trait.specs.Slots.{Slots, Samples}
use Rattle.store_trait.specs.Told.{Told, Keeps, state_now, last_number, numbers_from}
use Rattle.store_trait.specs.Calls.Entry.{Accepts, TakesEntry}
use Rattle.store_trait.specs.Plain.{Fits, Agrees, Holds, IsIn, IsSampled, told_of}
use Rattle.point_model.proofs.PointLemmas.{sorted-after}
use Rattle.store_trait.proofs.CommitLemmas.{committed}

pub entries-last : (client : ℕ) (notes : List EntryNote) (note : EntryNote) → entries_of client (notes ++ note ∷ []) ≡ entries_of client notes ++ entry_noted client note ∷ []
entries-last client [] note = refl
entries-last client (first ∷ notes) note = ap (λ (es : List Entry). entry_noted client first ∷ es) (entries-last client notes note)

pub length-entries : (client : ℕ) (notes : List EntryNote) → length (entries_of client notes) ≡ length notes
length-entries client [] = refl
length-entries client (first ∷ notes) = let e = length-entries client notes in omega (arith, e)

pub numbers-last : (number : ℕ) (entries : List Entry) (entry : Entry) → numbers_from number (entries ++ entry ∷ []) ≡ numbers_from number entries ++ (number + length entries) ∷ []
numbers-last number [] entry = ap (λ (n : ℕ). n ∷ []) (omega arith)
numbers-last number (first ∷ entries) entry =
    ap (λ (ns : List ℕ). number ∷ ns) (numbers-last (number + 1) entries entry ∙ ap (λ (n : ℕ). numbers_from (number + 1) entries ++ n ∷ []) (omega arith))

-- the points behind one entry more
pub points-last : (client : ℕ) (notes : List EntryNote) (note : EntryNote)
    → after no_points (entries_of client (notes ++ note ∷ [])) ≡ after_entry (after no_points (entries_of client notes)) (entry_noted client note)
points-last client notes note =
    ap (λ (es : List Entry). after no_points es) (entries-last client notes note) ∙ after-append no_points (entries_of client notes) (entry_noted client note ∷ [])

pub in_order : (client : ℕ) (notes : List EntryNote) → T (is_sorted cell_cmp (after no_points (entries_of client notes)))
in_order client notes = sorted-after no_points (entries_of client notes) tt

-- fields that hold the points behind one entry more
pub holds_more : (client number : ℕ) (notes more : List EntryNote) (slots set : Slots) (samples taken : Samples) (note : EntryNote)
    → Holds client notes number slots samples → more ≡ notes ++ note ∷ [] → number < last_number
    → Fits set taken (after_entry (after no_points (entries_of client notes)) (entry_noted client note))
    → Holds client more (number + 1) set taken
holds_more client number notes more slots set samples taken note holds is below fits = record {
  counted = let len = ap length is in let joined = length-append notes (note ∷ []) in let before = holds.counted in omega (arith, len, joined, before);
  limit = omega (arith, below);
  fits = subst (λ (ps : Points). Fits set taken ps) (sym (ap (λ (ns : List EntryNote). after no_points (entries_of client ns)) is ∙ points-last client notes note)) fits;
}

-- fields that a batch was set in
pub fits_batch : (slots kept set : Slots) (samples taken : Samples) (stored : Points) (batch points : List Point)
    → Fits slots samples stored
    → ((stored : Points) → Fits slots samples stored → Fits kept taken stored)
    → ((p : Point) → IsIn points p → IsSampled kept points taken p) → ((p : Point) → IsIn points p → IsMoment p.cell.time)
    → ((stored : Points) → Agrees kept stored → Agrees set (with_points stored points))
    → points ≡ batch → conflict stored batch ≡ None → IsWritable batch
    → Fits set taken (with_points stored batch)
fits_batch slots kept set samples taken stored batch points holds keeps sampled timed sets same accepted writable =
    let fits = keeps stored holds in
    subst (λ (ps : List Point). Fits set taken (with_points stored ps)) same
    (committed kept set taken stored points fits sampled (ap (λ (ps : List Point). conflict stored ps) same ∙ accepted)
    (subst (λ (ps : List Point). IsWritable ps) (sym same) writable) timed (sets stored fits.agrees))

pub accepts_more : (client number views : ℕ) (notes more : List EntryNote) (note : EntryNote) (made : Entry) (told : Told)
    → told_of client notes views ≡ told → number ≡ length notes → entry_noted client note ≡ made → more ≡ notes ++ note ∷ []
    → TakesEntry (state_now told).points made → (state_now told).number < last_number
    → Accepts made (number + 1) told (told_of client more views)
accepts_more client number views notes more note made told was counted value is taken below =
    subst (λ (t : Told). TakesEntry (state_now t).points made → (state_now t).number < last_number → Accepts made (number + 1) t (told_of client more views)) was by taken below
  where
    history : entries_of client more ≡ entries_of client notes ++ made ∷ []
    history = ap (λ (ns : List EntryNote). entries_of client ns) is ∙ entries-last client notes note ∙ ap (λ (e : Entry). entries_of client notes ++ e ∷ []) value

    by : TakesEntry (state_now (told_of client notes views)).points made → (state_now (told_of client notes views)).number < last_number
        → Accepts made (number + 1) (told_of client notes views) (told_of client more views)
    by taken below = record {
      before = entries_of client notes;
      later = record { since = []; begins = sym (append-nil (entries_of client notes)) };
      entry = history;
      accepted = λ tells. taken;
      given = let len = ap length history in let joined = length-append (entries_of client notes) (made ∷ []) in let old = length-entries client notes in omega (arith, len, joined, old, counted);
      limit = let old = length-entries client notes in omega (arith, below, old, counted);
      own =
          let old = length-entries client notes in
          ap (λ (es : List Entry). numbers_from 1 es) history ∙ numbers-last 1 (entries_of client notes) made
          ∙ ap (λ (n : ℕ). numbers_from 1 (entries_of client notes) ++ n ∷ []) (omega (arith, old, counted));
      out = refl;
      tried = refl;
    }

-- a store that tells one entry more keeps the rest
pub keeps_more : (client views : ℕ) (notes more : List EntryNote) (note : EntryNote) (told : Told)
    → told_of client notes views ≡ told → more ≡ notes ++ note ∷ [] → Keeps told (told_of client more views)
keeps_more client views notes more note told was is =
    subst (λ (t : Told). Keeps t (told_of client more views)) was (record {
      client = refl;
      start = refl;
      tells = refl;
      is_alone = refl;
      alone = λ alone owns. refl;
      limits = refl;
      history = record { since = entry_noted client note ∷ []; begins = ap (λ (ns : List EntryNote). entries_of client ns) is ∙ entries-last client notes note };
      series = omega arith;
    })

-- the number of a store that may make an entry is below the last
pub below_last : (client number views : ℕ) (notes : List EntryNote) (told : Told) → told_of client notes views ≡ told → number ≡ length notes
    → (state_now told).number < last_number → number < last_number
below_last client number views notes told was counted below =
    let n = subst (λ (t : Told). (state_now t).number < last_number) (sym was) below in
    let l = length-entries client notes in
    omega (arith, n, l, counted)
