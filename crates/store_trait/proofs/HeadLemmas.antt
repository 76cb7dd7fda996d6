-- The measurement at the head of a series.
use Rattle.std.proofs.Common.{◌≡◌, ◌≢◌, ◌∙◌, ap, sym, refl, subst, ⊎_elim, ◌⊎◌, ℕ, suc, ◌-◌, Bool, true, false, not, cond, ◌&&◌, eqb, List, [], ◌∷◌, ◌++◌, length, get_or, append-nil, arith, eqb→eq, T}
use Rattle.std.specs.Prelude.{nat_eq}
use Rattle.std.specs.Cmp.Lexicographic.{pointwise}
use Rattle.std.proofs.lemmas.List.Sorted.{length_permutation}
use Rattle.std.proofs.lemmas.Bool.{cases_Bool, cond-true, cond-false, false≢true}
use Rattle.tsdb_types.specs.Names.{IsName}
use Rattle.tsdb_types.specs.Series.{escaped, measurement_ends_at, measurement_text, series_text, tags_text, is_key_with, is_series_of, IsKeyOf}
use Rattle.tsdb_types.specs.declared.tag.Tag.{Tag}
use Rattle.point_model.specs.Measurements.{head_behind, measurement_head}

no_tags : (tags : List Tag) → length tags ≡ 0 → tags ≡ []
no_tags [] e = refl
no_tags (tag ∷ tags) e = absurd (omega (arith, e))

-- the text of a series without tags
pub untagged_text : (measurement key : List ℕ) (tags : List Tag) → IsKeyOf measurement tags key → tags ≡ [] → key ≡ measurement_text measurement
untagged_text measurement key tags is none =
    let len = length_permutation tags is.sorted is.same in
    let zero : length tags ≡ 0 = ap (λ (ts : List Tag). length ts) none in
    is.spelled ∙ ap (λ (ts : List Tag). series_text measurement ts) (no_tags is.sorted (omega (arith, len, zero))) ∙ append-nil (measurement_text measurement)

-- whether a backslash may stand before the name: where there is no more of it, none does
abbrev Open : Bool → List ℕ → Type 0
Open slash [] = slash ≡ false
Open slash (byte ∷ name) = get_or (byte ∷ name) (length (byte ∷ name) - 1) 0 ≢ 92

eqb_true : (a b : ℕ) → eqb a b ≡ true → a ≡ b
eqb_true a b e = eqb→eq a b (subst (λ (t : Bool). T t) (sym e) tt)

open_tail : (b : ℕ) (slash : Bool) (name : List ℕ) → Open slash (b ∷ name) → Open (eqb b 92) name
open_tail b slash [] h = ⊎_elim (λ (e : eqb b 92 ≡ true). absurd (h (eqb_true b 92 e))) (λ (e : eqb b 92 ≡ false). e) (cases_Bool (eqb b 92))
open_tail b slash (c ∷ name) h = λ f.
    let shorter : length (c ∷ name) - 1 ≡ length name = omega arith in
    let longer : length (b ∷ c ∷ name) - 1 ≡ suc (length name) = omega arith in
    h (ap (λ (k : ℕ). get_or (b ∷ c ∷ name) k 0) longer ∙ sym (ap (λ (k : ℕ). get_or (c ∷ name) k 0) shorter) ∙ f)

and_false : (b : Bool) → (b && false) ≡ false
and_false true = refl
and_false false = refl

false_and : (a b : Bool) → a ≡ false → (a && b) ≡ false
false_and true b e = absurd (false≢true (sym e))
false_and false b e = refl

-- a byte that isn't escaped is no comma
no_comma : (byte : ℕ) → measurement_ends_at byte ≡ false → eqb byte 44 ≡ false
no_comma byte e = ⊎_elim (λ (t : eqb byte 44 ≡ true). absurd (false≢true (sym e ∙ ap measurement_ends_at (eqb_true byte 44 t)))) (λ (f : eqb byte 44 ≡ false). f) (cases_Bool (eqb byte 44))

abbrev text_of : List ℕ → List ℕ
text_of name = escaped measurement_ends_at name

picked : (c : ℕ) (name : List ℕ) → measurement_ends_at c ≡ true → text_of (c ∷ name) ≡ 92 ∷ c ∷ text_of name
picked c name e = ap (λ (t : Bool). cond t (92 ∷ c ∷ text_of name) (c ∷ text_of name)) e

left : (c : ℕ) (name : List ℕ) → measurement_ends_at c ≡ false → text_of (c ∷ name) ≡ c ∷ text_of name
left c name e = ap (λ (t : Bool). cond t (92 ∷ c ∷ text_of name) (c ∷ text_of name)) e

-- an escaped byte is of the head
behind_slash : (d : ℕ) (key : List ℕ) → head_behind true (d ∷ key) ≡ d ∷ head_behind (eqb d 92) key
behind_slash d key = ap (λ (t : Bool). cond t [] (d ∷ head_behind (eqb d 92) key)) (and_false (eqb d 44))

plain_byte : (slash : Bool) (c : ℕ) (key : List ℕ) → measurement_ends_at c ≡ false → head_behind slash (c ∷ key) ≡ c ∷ head_behind (eqb c 92) key
plain_byte slash c key e = ap (λ (t : Bool). cond t [] (c ∷ head_behind (eqb c 92) key)) (false_and (eqb c 44) (not slash) (no_comma c e))

-- the text of a measurement is its own head
whole_head : (slash : Bool) (name : List ℕ) → Open slash name → head_behind slash (text_of name) ≡ text_of name
whole_head slash [] o = refl
whole_head slash (c ∷ name) o =
    ⊎_elim
    (λ (e : measurement_ends_at c ≡ true).
    ap (λ (t : List ℕ). head_behind slash t) (picked c name e) ∙ ap (λ (t : List ℕ). 92 ∷ t) (behind_slash c (text_of name) ∙ ap (λ (t : List ℕ). c ∷ t) (whole_head (eqb c 92) name (open_tail c slash name o))) ∙ sym (picked c name e))
    (λ (e : measurement_ends_at c ≡ false).
    ap (λ (t : List ℕ). head_behind slash t) (left c name e) ∙ plain_byte slash c (text_of name) e ∙ ap (λ (t : List ℕ). c ∷ t) (whole_head (eqb c 92) name (open_tail c slash name o)) ∙ sym (left c name e))
    (cases_Bool (measurement_ends_at c))

opened : (name : List ℕ) → IsName name → Open false name
opened [] named = refl
opened (c ∷ name) named = named.closed

pub head_of_measurement : (measurement : List ℕ) → IsName measurement → measurement_head (measurement_text measurement) ≡ measurement_text measurement
head_of_measurement measurement named = whole_head false measurement (opened measurement named)

differ_first : (b c : ℕ) (t : Bool) (more text : List ℕ) → eqb b c ≡ false → pointwise nat_eq (cond t [] (b ∷ more)) (c ∷ text) ≡ false
differ_first b c true more text e = refl
differ_first b c false more text e = false_and (eqb b c) (pointwise nat_eq more text) e

same_first : (b c : ℕ) (more text : List ℕ) → eqb b c ≡ true → pointwise nat_eq (b ∷ more) (c ∷ text) ≡ pointwise nat_eq more text
same_first b c more text e = ap (λ (t : Bool). t && pointwise nat_eq more text) e

-- a key is of the measurement whose text is its head
key_head : (slash : Bool) (name key : List ℕ) → Open slash name → is_key_with (text_of name) key ≡ pointwise nat_eq (head_behind slash key) (text_of name)
key_head slash [] [] o = refl
key_head slash [] (b ∷ key) o =
    ⊎_elim
    (λ (e : eqb b 44 ≡ true). e ∙ sym (ap (λ (t : Bool). pointwise nat_eq (cond t [] (b ∷ head_behind (eqb b 92) key)) []) (ap (λ (t : Bool). t && not slash) e ∙ ap not o)))
    (λ (e : eqb b 44 ≡ false). e ∙ sym (ap (λ (t : Bool). pointwise nat_eq (cond t [] (b ∷ head_behind (eqb b 92) key)) []) (false_and (eqb b 44) (not slash) e)))
    (cases_Bool (eqb b 44))
key_head slash (c ∷ name) [] o =
    ⊎_elim
    (λ (e : measurement_ends_at c ≡ true). ap (λ (t : List ℕ). is_key_with t []) (picked c name e) ∙ sym (ap (λ (t : List ℕ). pointwise nat_eq [] t) (picked c name e)))
    (λ (e : measurement_ends_at c ≡ false). ap (λ (t : List ℕ). is_key_with t []) (left c name e) ∙ sym (ap (λ (t : List ℕ). pointwise nat_eq [] t) (left c name e)))
    (cases_Bool (measurement_ends_at c))
key_head slash (c ∷ name) (b ∷ key) o =
    ⊎_elim
    (λ (e : measurement_ends_at c ≡ true).
    ap (λ (t : List ℕ). is_key_with t (b ∷ key)) (picked c name e)
    ∙ slashed (λ k. key_head (eqb c 92) name k (open_tail c slash name o)) (cases_Bool (eqb b 92)) key
    ∙ sym (ap (λ (t : List ℕ). pointwise nat_eq (head_behind slash (b ∷ key)) t) (picked c name e)))
    (λ (e : measurement_ends_at c ≡ false).
    ap (λ (t : List ℕ). is_key_with t (b ∷ key)) (left c name e)
    ∙ plainly (λ k. key_head (eqb c 92) name k (open_tail c slash name o)) e (cases_Bool (eqb b c))
    ∙ sym (ap (λ (t : List ℕ). pointwise nat_eq (head_behind slash (b ∷ key)) t) (left c name e)))
    (cases_Bool (measurement_ends_at c))
  where
    behind : ((k : List ℕ) → is_key_with (text_of name) k ≡ pointwise nat_eq (head_behind (eqb c 92) k) (text_of name)) → (k : List ℕ) → is_key_with (c ∷ text_of name) k ≡ pointwise nat_eq (head_behind true k) (c ∷ text_of name)
    behind later [] = refl
    behind later (d ∷ k) =
        ⊎_elim
        (λ (e : eqb d c ≡ true).
        cond-true (eqb d c) (is_key_with (text_of name) k) false e
        ∙ later k
        ∙ ap (λ (x : ℕ). pointwise nat_eq (head_behind (eqb x 92) k) (text_of name)) (sym (eqb_true d c e))
        ∙ sym (same_first d c (head_behind (eqb d 92) k) (text_of name) e)
        ∙ sym (ap (λ (t : List ℕ). pointwise nat_eq t (c ∷ text_of name)) (behind_slash d k)))
        (λ (e : eqb d c ≡ false).
        cond-false (eqb d c) (is_key_with (text_of name) k) false e
        ∙ sym (differ_first d c (eqb d 44 && not true) (head_behind (eqb d 92) k) (text_of name) e))
        (cases_Bool (eqb d c))

    slashed : ((k : List ℕ) → is_key_with (text_of name) k ≡ pointwise nat_eq (head_behind (eqb c 92) k) (text_of name)) → (eqb b 92 ≡ true) ⊎ (eqb b 92 ≡ false) → (k : List ℕ) → is_key_with (92 ∷ c ∷ text_of name) (b ∷ k) ≡ pointwise nat_eq (head_behind slash (b ∷ k)) (92 ∷ c ∷ text_of name)
    slashed later which k =
        ⊎_elim
        (λ (e : eqb b 92 ≡ true).
        subst (λ (x : ℕ). is_key_with (92 ∷ c ∷ text_of name) (x ∷ k) ≡ pointwise nat_eq (head_behind slash (x ∷ k)) (92 ∷ c ∷ text_of name)) (sym (eqb_true b 92 e)) (behind later k))
        (λ (e : eqb b 92 ≡ false).
        cond-false (eqb b 92) (is_key_with (c ∷ text_of name) k) false e
        ∙ sym (differ_first b 92 (eqb b 44 && not slash) (head_behind (eqb b 92) k) (c ∷ text_of name) e))
        which

    plainly : ((k : List ℕ) → is_key_with (text_of name) k ≡ pointwise nat_eq (head_behind (eqb c 92) k) (text_of name)) → measurement_ends_at c ≡ false → (eqb b c ≡ true) ⊎ (eqb b c ≡ false) → is_key_with (c ∷ text_of name) (b ∷ key) ≡ pointwise nat_eq (head_behind slash (b ∷ key)) (c ∷ text_of name)
    plainly later p which =
        ⊎_elim
        (λ (e : eqb b c ≡ true).
        cond-true (eqb b c) (is_key_with (text_of name) key) false e
        ∙ later key
        ∙ ap (λ (x : ℕ). pointwise nat_eq (head_behind (eqb x 92) key) (text_of name)) (sym (eqb_true b c e))
        ∙ sym (same_first b c (head_behind (eqb b 92) key) (text_of name) e)
        ∙ sym (ap (λ (t : List ℕ). pointwise nat_eq t (c ∷ text_of name)) (subst (λ (x : ℕ). head_behind slash (x ∷ key) ≡ x ∷ head_behind (eqb x 92) key) (sym (eqb_true b c e)) (plain_byte slash c key p))))
        (λ (e : eqb b c ≡ false).
        cond-false (eqb b c) (is_key_with (text_of name) key) false e
        ∙ sym (differ_first b c (eqb b 44 && not slash) (head_behind (eqb b 92) key) (text_of name) e))
        which

-- a series is of the measurement whose text is at its head
pub of_measurement : (measurement series : List ℕ) → IsName measurement → is_series_of measurement series ≡ pointwise nat_eq (measurement_head series) (measurement_text measurement)
of_measurement measurement series named = key_head false measurement series (opened measurement named)

-- no byte, or a comma
abbrev StopsAt : List ℕ → Type 0
StopsAt [] = Unit {0}
StopsAt (byte ∷ text) = byte ≡ 44

stopped : (slash : Bool) (rest : List ℕ) → slash ≡ false → StopsAt rest → head_behind slash rest ≡ []
stopped slash [] o s = refl
stopped slash (byte ∷ rest) o s =
    ap (λ (t : Bool). cond t [] (byte ∷ head_behind (eqb byte 92) rest)) (ap (λ (b : ℕ). eqb b 44 && not slash) s ∙ ap not o)

head_with : (slash : Bool) (name rest : List ℕ) → Open slash name → StopsAt rest → head_behind slash (text_of name ++ rest) ≡ text_of name
head_with slash [] rest o s = stopped slash rest o s
head_with slash (c ∷ name) rest o s =
    ⊎_elim
    (λ (e : measurement_ends_at c ≡ true).
    ap (λ (t : List ℕ). head_behind slash (t ++ rest)) (picked c name e)
    ∙ ap (λ (t : List ℕ). 92 ∷ t) (behind_slash c (text_of name ++ rest) ∙ ap (λ (t : List ℕ). c ∷ t) (head_with (eqb c 92) name rest (open_tail c slash name o) s)) ∙ sym (picked c name e))
    (λ (e : measurement_ends_at c ≡ false).
    ap (λ (t : List ℕ). head_behind slash (t ++ rest)) (left c name e) ∙ plain_byte slash c (text_of name ++ rest) e
    ∙ ap (λ (t : List ℕ). c ∷ t) (head_with (eqb c 92) name rest (open_tail c slash name o) s) ∙ sym (left c name e))
    (cases_Bool (measurement_ends_at c))

tags_stop : (tags : List Tag) → StopsAt (tags_text tags)
tags_stop [] = tt
tags_stop (tag ∷ tags) = refl

-- the head of a series is its measurement
pub head_of_series : (measurement : List ℕ) (tags : List Tag) → IsName measurement → measurement_head (series_text measurement tags) ≡ measurement_text measurement
head_of_series measurement tags named = head_with false measurement (tags_text tags) (opened measurement named) (tags_stop tags)
