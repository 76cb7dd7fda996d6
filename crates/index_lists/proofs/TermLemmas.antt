-- Which terms are of a series and a field, and where do they stand?
use Rattle.std.proofs.Common.{◌≡◌, ℕ, ◌<◌, ◌&&◌, true, false, nat_eq, List, [], ◌∷◌, ◌++◌, map, Some, slice_get, inl, inr, refl, sym, ap, ◌∙◌, subst, ⊎_elim}
use Rattle.std.specs.List.{count_by}
use Rattle.std.specs.Str.{bytes_eq}
use Rattle.tsdb_types.specs.declared.tag.Tag.{Tag}
use Rattle.point_model.specs.Tags.{tags_in}
use Rattle.index_lists.specs.declared.term.Term.{Term}
use Rattle.index_lists.specs.declared.term.Term.TheVariants.{Measurement, Field, TagKey, TagValue}
use Rattle.index_lists.specs.Ready.{StandAt}
use Rattle.index_lists.specs.Terms.{has_key, has_value, is_field, is_of, measurement_of, series_terms, tag_terms, tags_terms, terms_of}
use Rattle.index_lists.proofs.PairLemmas.{In, and_both, and_first, and_second, any_in, in_any, nat_same, same_nat, same_text, some_counted, text_same, none_counted}

-- ---- the terms of a series and a field are those that list it

in_left : (xs ys : List Term) (t : Term) → In xs t → In (xs ++ ys) t
in_left [] ys t m = absurd m
in_left (x ∷ xs) ys t m = ⊎_elim (λ (e : x ≡ t). inl e) (λ (n : In xs t). inr (in_left xs ys t n)) m

in_right : (xs ys : List Term) (t : Term) → In ys t → In (xs ++ ys) t
in_right [] ys t m = m
in_right (x ∷ xs) ys t m = inr (in_right xs ys t m)

key_in : (m key : List ℕ) (tags : List Tag) (tag : Tag) → In tags tag → tag.key ≡ key → In (tags_terms m tags) (TagKey m key)
key_in m key [] tag n e = absurd n
key_in m key (first ∷ tags) tag n e =
    ⊎_elim
    (λ (own : first ≡ tag). in_left (tag_terms m first) (tags_terms m tags) (TagKey m key) (inl (ap (λ (k : List ℕ). TagKey m k) (ap (λ (t : Tag). t.key) own ∙ e))))
    (λ (later : In tags tag). in_right (tag_terms m first) (tags_terms m tags) (TagKey m key) (key_in m key tags tag later e)) n

value_in : (m key value : List ℕ) (tags : List Tag) (tag : Tag) → In tags tag → tag.key ≡ key → tag.value ≡ value → In (tags_terms m tags) (TagValue m key value)
value_in m key value [] tag n e f = absurd n
value_in m key value (first ∷ tags) tag n e f =
    ⊎_elim
    (λ (own : first ≡ tag).
    in_left (tag_terms m first) (tags_terms m tags) (TagValue m key value)
    (inr (inl (λ i. TagValue m ((ap (λ (t : Tag). t.key) own ∙ e) i) ((ap (λ (t : Tag). t.value) own ∙ f) i)))))
    (λ (later : In tags tag). in_right (tag_terms m first) (tags_terms m tags) (TagValue m key value) (value_in m key value tags tag later e f)) n

pub of_in : (term : Term) (s f : List ℕ) → is_of term s f ≡ true → In (terms_of s f) term
of_in (Measurement m) s f e = inr (inl (ap Measurement (same_text (measurement_of s) m e)))
of_in (Field m n) s f e =
    let b = bytes_eq (measurement_of s) m in
    let is = same_text (measurement_of s) m (and_first b (bytes_eq f n) e) in
    let field = same_text f n (and_second b (bytes_eq f n) e) in
    inl (λ i. Field (is i) (field i))
of_in (TagKey m k) s f e =
    let b = bytes_eq (measurement_of s) m in
    let is = same_text (measurement_of s) m (and_first b (has_key k (tags_in s)) e) in
    let t = any_in (λ (tag : Tag). bytes_eq tag.key k) (tags_in s) (and_second b (has_key k (tags_in s)) e) in
    subst (λ (x : List ℕ). In (terms_of s f) (TagKey x k)) is (inr (inr (key_in (measurement_of s) k (tags_in s) t.0 t.1 (same_text t.0.key k t.2))))
of_in (TagValue m k v) s f e =
    let b = bytes_eq (measurement_of s) m in
    let is = same_text (measurement_of s) m (and_first b (has_value k v (tags_in s)) e) in
    let t = any_in (λ (tag : Tag). bytes_eq tag.key k && bytes_eq tag.value v) (tags_in s) (and_second b (has_value k v (tags_in s)) e) in
    let key = same_text t.0.key k (and_first (bytes_eq t.0.key k) (bytes_eq t.0.value v) t.2) in
    let value = same_text t.0.value v (and_second (bytes_eq t.0.key k) (bytes_eq t.0.value v) t.2) in
    subst (λ (x : List ℕ). In (terms_of s f) (TagValue x k v)) is (inr (inr (value_in (measurement_of s) k v (tags_in s) t.0 t.1 key value)))

itself : (t : List ℕ) → bytes_eq t t ≡ true
itself t = text_same t t refl

tags_of : (s f : List ℕ) (tags : List Tag) (term : Term) → ((tag : Tag) → In tags tag → In (tags_in s) tag) → In (tags_terms (measurement_of s) tags) term → is_of term s f ≡ true
tags_of s f [] term part n = absurd n
tags_of s f (tag ∷ tags) term part (inl e) =
    subst (λ (t : Term). is_of t s f ≡ true) e
    (and_both (bytes_eq (measurement_of s) (measurement_of s)) (has_key tag.key (tags_in s)) (itself (measurement_of s)) (in_any (λ (t : Tag). bytes_eq t.key tag.key) (tags_in s) tag (part tag (inl refl)) (itself tag.key)))
tags_of s f (tag ∷ tags) term part (inr (inl e)) =
    subst (λ (t : Term). is_of t s f ≡ true) e
    (and_both (bytes_eq (measurement_of s) (measurement_of s)) (has_value tag.key tag.value (tags_in s)) (itself (measurement_of s))
    (in_any (λ (t : Tag). bytes_eq t.key tag.key && bytes_eq t.value tag.value) (tags_in s) tag (part tag (inl refl)) (and_both (bytes_eq tag.key tag.key) (bytes_eq tag.value tag.value) (itself tag.key) (itself tag.value))))
tags_of s f (tag ∷ tags) term part (inr (inr n)) = tags_of s f tags term (λ t m. part t (inr m)) n

pub in_of : (term : Term) (s f : List ℕ) → In (terms_of s f) term → is_of term s f ≡ true
in_of term s f (inl e) =
    subst (λ (t : Term). is_of t s f ≡ true) e (and_both (bytes_eq (measurement_of s) (measurement_of s)) (bytes_eq f f) (itself (measurement_of s)) (itself f))
in_of term s f (inr (inl e)) = subst (λ (t : Term). is_of t s f ≡ true) e (itself (measurement_of s))
in_of term s f (inr (inr n)) = tags_of s f (tags_in s) term (λ t m. m) n

-- the terms behind the first name no field
pub tags_plain : (m : List ℕ) (tags : List Tag) (term : Term) → In (tags_terms m tags) term → is_field term ≡ false
tags_plain m [] term n = absurd n
tags_plain m (tag ∷ tags) term (inl e) = sym (ap is_field e)
tags_plain m (tag ∷ tags) term (inr (inl e)) = sym (ap is_field e)
tags_plain m (tag ∷ tags) term (inr (inr n)) = tags_plain m tags term n

pub series_plain : (s : List ℕ) (term : Term) → In (series_terms s) term → is_field term ≡ false
series_plain s term (inl e) = sym (ap is_field e)
series_plain s term (inr n) = tags_plain (measurement_of s) (tags_in s) term n

-- ---- places of terms

-- no term stands at two places
abbrev pub Apart : List Term → Type 0
Apart terms = (p q : ℕ) (term : Term) → slice_get terms p ≡ Some term → slice_get terms q ≡ Some term → p ≡ q

heads_of : {X : Type 0} (x y : X) (xs ys : List X) → x ∷ xs ≡ y ∷ ys → (x ≡ y) × (xs ≡ ys)
heads_of x y xs ys e = (cc e, cc e)

-- the place of a wanted term is one of the places
pub wanted_at : (terms wanted : List Term) (places : List ℕ) (term : Term) → StandAt terms wanted places → In wanted term → (place : ℕ) × In places place × (slice_get terms place ≡ Some term)
wanted_at terms [] places term at m = absurd m
wanted_at terms (w ∷ wanted) [] term at m = absurd cc
wanted_at terms (w ∷ wanted) (p ∷ places) term at m =
    let parts = heads_of (slice_get terms p) (Some w) (map (slice_get terms) places) (map (λ (t : Term). Some t) wanted) at in
    ⊎_elim (λ (e : w ≡ term). (p, inl refl, parts.0 ∙ ap (λ (t : Term). Some t) e)) (λ (n : In wanted term). let r = wanted_at terms wanted places term parts.1 n in (r.0, inr r.1, r.2)) m

-- and at each of the places stands a wanted term
pub place_of : (terms wanted : List Term) (places : List ℕ) (place : ℕ) → StandAt terms wanted places → In places place → (term : Term) × In wanted term × (slice_get terms place ≡ Some term)
place_of terms wanted [] place at m = absurd m
place_of terms [] (p ∷ places) place at m = absurd cc
place_of terms (w ∷ wanted) (p ∷ places) place at m =
    let parts = heads_of (slice_get terms p) (Some w) (map (slice_get terms) places) (map (λ (t : Term). Some t) wanted) at in
    ⊎_elim (λ (e : p ≡ place). (w, inl refl, ap (slice_get terms) (sym e) ∙ parts.0)) (λ (n : In places place). let r = place_of terms wanted places place parts.1 n in (r.0, inr r.1, r.2)) m

some_is : (x y : Term) → Some x ≡ Some y → x ≡ y
some_is x y e = cc e

-- a place is counted among those of wanted terms exactly where its term is wanted
pub counted_at : (terms wanted : List Term) (places : List ℕ) (place : ℕ) (term : Term) → Apart terms → StandAt terms wanted places → slice_get terms place ≡ Some term → In wanted term → 0 < count_by (nat_eq place) places
counted_at terms wanted places place term apart at is m =
    let w = wanted_at terms wanted places term at m in
    some_counted (nat_eq place) places w.0 w.1 (nat_same place w.0 (apart place w.0 term is w.2))

pub not_counted : (terms wanted : List Term) (places : List ℕ) (place : ℕ) (term : Term) → StandAt terms wanted places → slice_get terms place ≡ Some term → (In wanted term → ⊥) → count_by (nat_eq place) places ≡ 0
not_counted terms wanted places place term at is none =
    none_counted (nat_eq place) places
    (λ p m e.
    let w = place_of terms wanted places p at m in
    none (subst (In wanted) (some_is w.0 term (sym w.2 ∙ ap (slice_get terms) (sym (same_nat place p e)) ∙ is)) w.1))
