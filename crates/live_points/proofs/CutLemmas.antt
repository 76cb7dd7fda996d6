-- A composite key is cut where it was joined.
use Rattle.std.proofs.Common.{◌≡◌, ◌∙◌, ap, refl, ⊎_elim, ℕ, suc, true, false, List, [], ◌∷◌, length, take, arith}
use Rattle.std.proofs.lemmas.Bool.{cases_Bool, cond-false}
use Rattle.tsdb_types.specs.Keys.{mark, key_of, MarkAt, IsFirstMark}
use Rattle.point_model.specs.Cursors.{Key}
use Rattle.point_model.proofs.FieldLemmas.{text_same}
use Rattle.live_points.specs.Held.{begins_with_mark, before_mark, behind_mark, cut, composite}

no_mark : (bytes : List ℕ) → ¬ (MarkAt bytes 0) → begins_with_mark bytes ≡ false
no_mark bytes never =
    ⊎_elim
    (λ (e : begins_with_mark bytes ≡ true). absurd (never (text_same (take 4 bytes) mark e)))
    (λ (e : begins_with_mark bytes ≡ false). e)
    (cases_Bool (begins_with_mark bytes))

first_behind : (byte : ℕ) (bytes : List ℕ) (at : ℕ) → IsFirstMark (byte ∷ bytes) (suc at) → IsFirstMark bytes at
first_behind byte bytes at first = record {
  stands = first.stands;
  first = λ before below. first.first (suc before) (omega (arith, below));
}

before : (series field : List ℕ) → IsFirstMark (key_of series field) (length series) → before_mark (key_of series field) ≡ series
before [] field first = refl
before (byte ∷ series) field first =
    cond-false (begins_with_mark (key_of (byte ∷ series) field)) [] (byte ∷ before_mark (key_of series field)) (no_mark (key_of (byte ∷ series) field) (first.first 0 (omega arith)))
    ∙ ap (λ (t : List ℕ). byte ∷ t) (before series field (first_behind byte (key_of series field) (length series) first))

behind : (series field : List ℕ) → IsFirstMark (key_of series field) (length series) → behind_mark (key_of series field) ≡ field
behind [] field first = refl
behind (byte ∷ series) field first =
    cond-false (begins_with_mark (key_of (byte ∷ series) field)) _ (behind_mark (key_of series field)) (no_mark (key_of (byte ∷ series) field) (first.first 0 (omega arith)))
    ∙ behind series field (first_behind byte (key_of series field) (length series) first)

pub cut_composite : (key : Key) → IsFirstMark (composite key) (length key.0) → cut (composite key) ≡ key
cut_composite key first = λ i. (before key.0 key.1 first i, behind key.0 key.1 first i)
