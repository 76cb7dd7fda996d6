-- How many series a store knows and how many are new to it, how many points its entries leave, and the numbers of its entries.
use Rattle.std.proofs.Common.{◌≡◌, ◌∙◌, ℕ, ◌+◌, ◌≤◌, Bool, true, false, not, ◌&&◌, ◌||◌, List, [], ◌∷◌, ◌++◌, length, refl, sym, ap, subst, arith, length-append, append-nil, Contains, ◌⊎◌, inl, inr, ⊎_elim, Ordering, Less, Equal, Greater}
use Rattle.std.specs.List.{IsDistinct}
use Rattle.std.specs.Ordering.{match_ordering}
use Rattle.std.specs.Str.{bytes_eq}
use Rattle.std.proofs.lemmas.Bool.{false≢true}
use Rattle.std.proofs.lemmas.Cmp.{nat_list_eq_equiv}
use Rattle.std.proofs.lemmas.List.Filters.{length-filter_both}
use Rattle.std.proofs.lemmas.List.Folds.{list_any-append}
use Rattle.std.proofs.lemmas.List.Sums.{sum_by-append}
use Rattle.std.proofs.lemmas.Map.Made.{length-le_from_is_member, is_member-Decides}
use Rattle.std.proofs.lemmas.Slice.Eq.{bytes_eq-Decides}
use Rattle.tsdb_types.specs.declared.point.Cell.{Cell}
use Rattle.tsdb_types.specs.declared.point.Point.{Point}
use Rattle.tsdb_types.specs.declared.value.Value.{Value}
use Rattle.point_model.specs.declared.entry.Entry.{Entry}
use Rattle.point_model.specs.declared.deletion.Deletion.{Deletion}
use Rattle.point_model.specs.declared.entry.Entry.TheVariants.{Write, Delete}
use Rattle.point_model.specs.Deletions.{is_deleted, without}
use Rattle.point_model.specs.Histories.{after, with_points}
use Rattle.point_model.specs.Points.{Points, cell_cmp, with_point}
use Rattle.store_trait.specs.Calls.Write.{AreKnown, AreNew}
use Rattle.store_trait.specs.Notes.{entries_of, entry_noted}
use Rattle.store_trait.specs.declared.note.EntryNote.{EntryNote}
use Rattle.store_trait.specs.Told.{Limits, numbers_from, points_in, points_written}
use Rattle.shard_steps.specs.Series.{AreUnheld, is_among, series_of}
use Rattle.shard_calls.proofs.SeriesLemmas.{among_from_has, among_from_written, by_case, fresh, fresh_member, fresh_onto, has_from_among, texts_in, written_from_among}

-- Entries and their numbers.

pub entries-last : (client : ℕ) (notes : List EntryNote) (note : EntryNote) → entries_of client (notes ++ note ∷ []) ≡ entries_of client notes ++ entry_noted client note ∷ []
entries-last client [] note = refl
entries-last client (first ∷ notes) note = ap (λ (es : List Entry). entry_noted client first ∷ es) (entries-last client notes note)

-- a note that was put behind the others, where room was made for it
pub noted : (client : ℕ) (old mid new : List EntryNote) (note : EntryNote) (entry : Entry) → mid ≡ old → new ≡ mid ++ note ∷ [] → entry_noted client note ≡ entry
    → entries_of client new ≡ entries_of client old ++ entry ∷ []
noted client old mid new note entry room put is =
    ap (λ (l : List EntryNote). entries_of client l) put
    ∙ ap (λ (l : List EntryNote). entries_of client (l ++ note ∷ [])) room
    ∙ entries-last client old note
    ∙ ap (λ (e : Entry). entries_of client old ++ e ∷ []) is

pub numbers-last : (number : ℕ) (entries : List Entry) (entry : Entry) → numbers_from number (entries ++ entry ∷ []) ≡ numbers_from number entries ++ (number + length entries) ∷ []
numbers-last number [] entry = ap (λ (n : ℕ). n ∷ []) (omega arith)
numbers-last number (first ∷ entries) entry =
    ap (λ (ns : List ℕ). number ∷ ns) (numbers-last (number + 1) entries entry ∙ ap (λ (n : ℕ). numbers_from (number + 1) entries ++ n ∷ []) (omega arith))

-- Points.

at_most : (o : Ordering) (set : Cell × Value) (first : Cell × Value) (other : Cell × Value) (points inner : Points) → length inner ≤ length points + 1
    → length (match_ordering o (set ∷ first ∷ points) (other ∷ points) (first ∷ inner)) ≤ length points + 2
at_most Less set first other points inner less = omega arith
at_most Equal set first other points inner less = omega arith
at_most Greater set first other points inner less = omega (arith, less)

one_set : (points : Points) (point : Point) → length (with_point points point) ≤ length points + 1
one_set [] point = omega arith
one_set (first ∷ points) point =
    let more = at_most (cell_cmp point.cell first.0) (point.cell, point.value) first (first.0, point.value) points (with_point points point) (one_set points point) in
    omega (arith, more)

all_set : (points : Points) (batch : List Point) → length (with_points points batch) ≤ length points + length batch
all_set points [] = omega arith
all_set points (point ∷ batch) = let one = one_set points point in let more = all_set (with_point points point) batch in omega (arith, one, more)

few_deleted : (deletion : Deletion) (points : Points) → length (without points deletion) ≤ length points
few_deleted deletion points =
    let kept : Cell × Value → Bool = λ point. not (is_deleted deletion point.0) in
    let both = length-filter_both kept (λ (point : Cell × Value). not (kept point)) (λ point. refl) points in
    omega (arith, both)

-- entries leave no more points than there were and were written
pub few_left : (points : Points) (entries : List Entry) → length (after points entries) ≤ length points + points_written entries
few_left points [] = omega arith
few_left points (Write client batch ∷ entries) =
    let one = all_set points batch in
    let more : length (after (with_points points batch) entries) ≤ length (with_points points batch) + points_written entries = few_left (with_points points batch) entries in
    let sum : points_written (Write client batch ∷ entries) ≡ points_written (Write client batch ∷ []) + points_written entries = sum_by-append points_in (Write client batch ∷ []) entries in
    omega (arith, one, more, sum)
few_left points (Delete client deletion ∷ entries) =
    let one = few_deleted deletion points in
    let more : length (after (without points deletion) entries) ≤ length (without points deletion) + points_written entries = few_left (without points deletion) entries in
    let sum : points_written (Delete client deletion ∷ entries) ≡ points_written (Delete client deletion ∷ []) + points_written entries = sum_by-append points_in (Delete client deletion ∷ []) entries in
    omega (arith, one, more, sum)

-- Series.

pub contains_among : (texts : List (List ℕ)) (text : List ℕ) → Contains texts text → is_among texts text ≡ true
contains_among texts text at = (is_member-Decides bytes_eq-Decides texts text).1 at

pub among_contains : (texts : List (List ℕ)) (text : List ℕ) → is_among texts text ≡ true → Contains texts text
among_contains texts text is = (is_member-Decides bytes_eq-Decides texts text).0 is

pub and_true : (a b : Bool) → (a && not b) ≡ true → (a ≡ true) × (b ≡ false)
and_true true true is = absurd (false≢true is)
and_true true false is = (refl, refl)
and_true false b is = absurd (false≢true is)

true_and : (a b : Bool) → a ≡ true → b ≡ false → (a && not b) ≡ true
true_and a b is none = ap (λ (x : Bool). x && not b) is ∙ ap (λ (x : Bool). true && not x) none

pub or_true : (a b : Bool) → (a || b) ≡ true → (a ≡ true) ⊎ (b ≡ true)
or_true true b is = inl refl
or_true false b is = inr is

pub left_true : (a b : Bool) → a ≡ true → (a || b) ≡ true
left_true a b is = ap (λ (x : Bool). x || b) is

right_true : (a b : Bool) → b ≡ true → (a || b) ≡ true
right_true true b is = refl
right_true false b is = is

module _ (limits : Limits) (history : List Entry) where
  abbrev pub all_texts : List (List ℕ)
  all_texts = limits.series ++ texts_in history

  abbrev pub known_of : List (List ℕ)
  known_of = fresh [] all_texts

  abbrev pub new_of : List Point → List (List ℕ)
  new_of points = fresh all_texts (series_of points)

  joined : (text : List ℕ) → is_among all_texts text ≡ (is_among limits.series text || is_among (texts_in history) text)
  joined text = list_any-append (bytes_eq text) limits.series (texts_in history)

  known_distinct : IsDistinct bytes_eq known_of
  unfolding IsDistinct
  known_distinct = subst (λ (l : List (List ℕ)). IsDistinct bytes_eq l) (append-nil known_of) (fresh_onto [] [] (λ q there. absurd (false≢true there)) tt all_texts)

  new_distinct : (points : List Point) → IsDistinct bytes_eq (new_of points)
  unfolding IsDistinct
  new_distinct points = subst (λ (l : List (List ℕ)). IsDistinct bytes_eq l) (append-nil (new_of points)) (fresh_onto all_texts [] (λ q there. absurd (false≢true there)) tt (series_of points))

  known_all : (text : List ℕ) → is_among known_of text ≡ true → is_among all_texts text ≡ true
  known_all text there = (and_true (is_among all_texts text) false (sym (fresh_member [] all_texts text) ∙ there)).0

  all_known : (text : List ℕ) → is_among all_texts text ≡ true → is_among known_of text ≡ true
  all_known text there = fresh_member [] all_texts text ∙ true_and (is_among all_texts text) false there refl

  pub are_known : AreKnown limits history known_of
  are_known = record {
    distinct = known_distinct;
    exact = λ text. (
      (λ at. ⊎_elim (λ there. inl (among_contains limits.series text there)) (λ there. inr (written_from_among history text there))
          (or_true (is_among limits.series text) (is_among (texts_in history) text) (sym (joined text) ∙ known_all text (contains_among known_of text at)))),
      (λ either. among_contains known_of text (all_known text (joined text ∙ ⊎_elim
          (λ at. left_true (is_among limits.series text) (is_among (texts_in history) text) (contains_among limits.series text at))
          (λ wrote. right_true (is_among limits.series text) (is_among (texts_in history) text) (among_from_written history text wrote)) either))),
    );
  }

  pub are_new : (points : List Point) → AreNew points limits history (new_of points)
  are_new points = record {
    distinct = new_distinct points;
    exact = λ text. (
      (λ at.
          let both = and_true (is_among (series_of points) text) (is_among all_texts text) (sym (fresh_member all_texts (series_of points) text) ∙ contains_among (new_of points) text at) in (
            has_from_among points text both.0,
            (λ there. false≢true (sym both.1 ∙ joined text ∙ left_true (is_among limits.series text) (is_among (texts_in history) text) (contains_among limits.series text there))),
            (λ wrote. false≢true (sym both.1 ∙ joined text ∙ right_true (is_among limits.series text) (is_among (texts_in history) text) (among_from_written history text wrote))),
          )),
      (λ is. among_contains (new_of points) text (fresh_member all_texts (series_of points) text
          ∙ true_and (is_among (series_of points) text) (is_among all_texts text) (among_from_has points text is.0)
          (by_case (is_among all_texts text)
          (λ there. absurd (⊎_elim (λ first. is.1 (among_contains limits.series text first)) (λ wrote. is.2 (written_from_among history text wrote))
          (or_true (is_among limits.series text) (is_among (texts_in history) text) (sym (joined text) ∙ there))))
          (λ absent. absent)))),
    );
  }

  module _ (points : List Point) (keys unheld : List (List ℕ)) (are : AreUnheld keys points unheld)
      (within : (text : List ℕ) → is_among all_texts text ≡ true → is_among keys text ≡ true) where
    -- what isn't held is new
    pub unheld_few : length unheld ≤ length (new_of points)
    unheld_few = length-le_from_is_member nat_list_eq_equiv unheld (new_of points) are.distinct (λ text there.
        let both = and_true (is_among (series_of points) text) (is_among keys text) (sym (are.exact text) ∙ there) in
        fresh_member all_texts (series_of points) text
        ∙ true_and (is_among (series_of points) text) (is_among all_texts text) both.0
        (by_case (is_among all_texts text) (λ known. absurd (false≢true (sym both.1 ∙ within text known))) (λ absent. absent)))

    -- what is known is held
    pub known_few : length known_of ≤ length keys
    known_few = length-le_from_is_member nat_list_eq_equiv known_of keys known_distinct (λ text there. within text (known_all text there))

    -- what is known and what is new is held, or isn't
    pub all_few : length known_of + length (new_of points) ≤ length keys + length unheld
    all_few =
        let a = length-append (new_of points) known_of in
        let b = length-append keys unheld in
        let c = length-le_from_is_member nat_list_eq_equiv (new_of points ++ known_of) (keys ++ unheld) (fresh_onto all_texts known_of known_all known_distinct (series_of points)) among in
        omega (arith, a, b, c)
      where
        among : (text : List ℕ) → is_among (new_of points ++ known_of) text ≡ true → is_among (keys ++ unheld) text ≡ true
        among text there =
            list_any-append (bytes_eq text) keys unheld ∙ ⊎_elim
            (λ new.
            let both = and_true (is_among (series_of points) text) (is_among all_texts text) (sym (fresh_member all_texts (series_of points) text) ∙ new) in
            by_case (is_among keys text)
            (λ held. left_true (is_among keys text) (is_among unheld text) held)
            (λ absent. right_true (is_among keys text) (is_among unheld text) (are.exact text ∙ true_and (is_among (series_of points) text) (is_among keys text) both.0 absent)))
            (λ known. left_true (is_among keys text) (is_among unheld text) (within text (known_all text known)))
            (or_true (is_among (new_of points) text) (is_among known_of text) (sym (list_any-append (bytes_eq text) (new_of points) known_of) ∙ there))
