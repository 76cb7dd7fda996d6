-- Entries that are taken one after another, and one that is refused.
use Rattle.std.proofs.Common.{◌≡◌, ◌⊎◌, ⊎_elim, inl, inr, ℕ, List, [], ◌∷◌, ◌++◌, refl, sym, ap, ◌∙◌, subst, None, Some}
use Rattle.std.proofs.lemmas.List.{append-nil}
use Rattle.point_model.specs.Histories.{after, after_entry}
use Rattle.point_model.specs.Points.{Points}
use Rattle.point_model.specs.declared.entry.Entry.{Entry}
use Rattle.wal_store.specs.Reading.{Ends, Gives, Reads, Replaying}
use Rattle.wal_store.specs.declared.replay.Place.{Place}
use Rattle.wal_store.proofs.ReadingLemmas.{reads_none, reads_then}
use Rattle.shard_state.specs.Meaning.{AreTaken, IsTaken}
use Rattle.shard_opening.specs.Filling.{Fills, Meets, RefusesIn}
use Rattle.shard_opening.specs.declared.filling.Filling.{Filling}

pub after_both : (points : Points) (some more : List Entry) → after points (some ++ more) ≡ after (after points some) more
after_both points [] more = refl
after_both points (e ∷ some) more = after_both (after_entry points e) some more

pub taken_both : (series : List (List ℕ)) (points : Points) (some more : List Entry) → AreTaken series points some → AreTaken series (after points some) more → AreTaken series points (some ++ more)
taken_both series points [] more a b = b
taken_both series points (e ∷ some) more a b = (a.0, taken_both series (after_entry points e) some more a.1 b)

-- nothing was read
pub fills_none : (series : List (List ℕ)) (r : Replaying) (f : Filling) → Fills series r r [] f f
fills_none series r f = record { given = []; reads = reads_none r; taken = λ none. (none, tt, refl); refuses = λ place is. inl is }

-- an entry more
pub fills_more : (series : List (List ℕ)) (first now new : Replaying) (read : List (List ℕ)) (place : Place) (entry : Entry) (old mid next : Filling) → Fills series first now read old mid → (gives : Gives now new place entry) → Meets series place entry mid next
    → Fills series first new (read ++ (gives.passed ++ gives.body ∷ [])) old next
fills_more series first now new read place entry old mid next f gives meets = record {
  given = f.given ++ entry ∷ [];
  reads = reads_then first now new read (gives.passed ++ gives.body ∷ []) f.given (entry ∷ []) f.reads gives.reads;
  taken = λ none.
      let m = meets.taken none in
      let t = f.taken m.0 in (
        t.0,
        taken_both series old.live.points f.given (entry ∷ []) t.1 (subst (λ (p : Points). IsTaken series p entry) t.2 m.1, tt),
        m.2 ∙ ap (λ (p : Points). after_entry p entry) t.2 ∙ sym (after_both old.live.points f.given (entry ∷ [])),
      );
  refuses = λ other is. ⊎_elim
      (λ had. f.refuses other had)
      (λ here.
      let t = f.taken here.0 in
      inr (
        t.0,
        record {
          before = now;
          behind = new;
          read = read;
          given = f.given;
          entry = entry;
          reads = f.reads;
          gives = subst (λ (p : Place). Gives now new p entry) (sym here.1) gives;
          taken = t.1;
          refused = λ taken. here.2 (subst (λ (p : Points). IsTaken series p entry) (sym t.2) taken);
        },
      ))
      (meets.refuses other is);
}

-- no entry is left
pub fills_end : (series : List (List ℕ)) (first now new : Replaying) (read : List (List ℕ)) (old mid : Filling) → Fills series first now read old mid → Ends now new → Fills series first new first.left old mid × (new.left ≡ [])
fills_end series first now new read old mid f ends = (
  record {
    given = f.given;
    reads = subst (λ (es : List Entry). Reads first new first.left es) (append-nil f.given)
        (subst (λ (l : List (List ℕ)). Reads first new l (f.given ++ [])) (sym f.reads.parts) (reads_then first now new read now.left f.given [] f.reads ends.reads));
    taken = f.taken;
    refuses = f.refuses;
  },
  ends.none,
)
