-- Places are equal exactly where the names that they spell are, so that the sorted map of places is one of names.
use Rattle.std.proofs.Common.{◌≡◌, ◌≢◌, ℕ, suc, Bool, true, false, cond, ◌&&◌, ⊎_elim, Option, Some, None, List, [], ◌∷◌, is_eq, Ordering, Less, Equal, Greater, refl, sym, ap, ◌∙◌, arith}
use Rattle.std.specs.List.{All}
use Rattle.std.specs.Map.{lookup}
use Rattle.std.specs.BTreeMap.{is_at, insert_entry}
use Rattle.std.specs.Cmp.Lexicographic.{slice_cmp}
use Rattle.std.specs.Ordering.{nat_cmp, ordering_then, match_ordering}
use Rattle.std.specs.Str.{bytes_eq}
use Rattle.std.proofs.lemmas.Bool.{false≢true}
use Rattle.std.proofs.lemmas.Map.Text.{is_eq-slice_cmp}
use Rattle.std.proofs.lemmas.Slice.Eq.{bytes_eq-Decides}
use Rattle.tsdb_types.specs.Series.{escaped, measurement_ends_at, tag_ends_at}
use Rattle.tsdb_types.specs.Spelled.{unescaped}
use Rattle.tsdb_types.specs.declared.value.Kind.{Kind}
use Rattle.line_protocol.specs.declared.place.Place.{Place}
use Rattle.line_protocol.specs.Kinds.{place_of, place_spelled}
use Rattle.line_protocol.specs.Texts.{IsSpelling}
use Rattle.line_protocol.proofs.PartLemmas.{decided}

-- parts that spell one name are one
spelling-same : (picks : ℕ → Bool) (a b : List ℕ) → IsSpelling picks a → IsSpelling picks b → unescaped picks a ≡ unescaped picks b → a ≡ b
spelling-same picks a b of_a of_b e = of_a.escapes ∙ ap (λ (t : List ℕ). escaped picks t) e ∙ sym of_b.escapes

abbrev Unbroken : List ℕ → Type 0
Unbroken text = All (λ byte. byte ≢ 10) text

unbroken-behind : (b : ℕ) (text : List ℕ) → Unbroken (b ∷ text) → Unbroken text
unbroken-behind b text h = λ k d l. h (suc k) d (omega arith)

cons-head : (x y : ℕ) (xs ys : List ℕ) → x ∷ xs ≡ y ∷ ys → x ≡ y
cons-head x y xs ys e = cc

cons-tail : (x y : ℕ) (xs ys : List ℕ) → x ∷ xs ≡ y ∷ ys → xs ≡ ys
cons-tail x y xs ys e = cc

-- a place is of one measurement and one field
place_of-same : (m n f g : List ℕ) → Unbroken m → Unbroken n → place_of m f ≡ place_of n g → (f ≡ g) × (m ≡ n)
place_of-same [] [] f g hm hn e = (cons-tail 10 10 f g e, refl)
place_of-same [] (y ∷ n) f g hm hn e = absurd (hn 0 10 (omega arith) (sym (cons-head 10 y f (place_of n g) e)))
place_of-same (x ∷ m) [] f g hm hn e = absurd (hm 0 10 (omega arith) (cons-head x 10 (place_of m f) g e))
place_of-same (x ∷ m) (y ∷ n) f g hm hn e =
    let rest = place_of-same m n f g (unbroken-behind x m hm) (unbroken-behind y n hn) (cons-tail x y (place_of m f) (place_of n g) e) in
    let first = cons-head x y (place_of m f) (place_of n g) e in
    (rest.0, ap (λ (b : ℕ). b ∷ m) first ∙ ap (λ (t : List ℕ). y ∷ t) rest.1)

-- how places compare: by the key, then by the measurement
abbrev pub place_cmp : Place → Place → Ordering
place_cmp a b = ordering_then (slice_cmp nat_cmp a.key.now b.key.now) (slice_cmp nat_cmp a.measurement.now b.measurement.now)

then-equal : (a b : Ordering) → is_eq (ordering_then a b) ≡ (is_eq a && is_eq b)
then-equal Less b = refl
then-equal Equal b = refl
then-equal Greater b = refl

place-same : (a b : Place) → place_spelled a ≡ place_spelled b → (a.key.now ≡ b.key.now) × (a.measurement.now ≡ b.measurement.now)
place-same a b e =
    let names = place_of-same (unescaped measurement_ends_at a.measurement.now) (unescaped measurement_ends_at b.measurement.now) (unescaped tag_ends_at a.key.now) (unescaped tag_ends_at b.key.now)
    a.measurement_spelling.spells.name.one_line b.measurement_spelling.spells.name.one_line e
    in (
      spelling-same tag_ends_at a.key.now b.key.now a.key_spelling b.key_spelling names.0,
      spelling-same measurement_ends_at a.measurement.now b.measurement.now a.measurement_spelling b.measurement_spelling names.1,
    )

both-true : (a b : Bool) → a ≡ true → b ≡ true → (a && b) ≡ true
both-true a b e f = ap (λ (t : Bool). t && b) e ∙ f

both-first : (a b : Bool) → (a && b) ≡ true → a ≡ true
both-first true b e = refl
both-first false b e = absurd (false≢true e)

both-second : (a b : Bool) → (a && b) ≡ true → b ≡ true
both-second true b e = e
both-second false b e = absurd (false≢true e)

abbrev same_bytes : Place → Place → Bool
same_bytes a b = bytes_eq a.key.now b.key.now && bytes_eq a.measurement.now b.measurement.now

place-equal : (a b : Place) → is_eq (place_cmp a b) ≡ same_bytes a b
place-equal a b =
    then-equal (slice_cmp nat_cmp a.key.now b.key.now) (slice_cmp nat_cmp a.measurement.now b.measurement.now)
    ∙ ap (λ (t : Bool). t && is_eq (slice_cmp nat_cmp a.measurement.now b.measurement.now)) (is_eq-slice_cmp a.key.now b.key.now)
    ∙ ap (λ (t : Bool). bytes_eq a.key.now b.key.now && t) (is_eq-slice_cmp a.measurement.now b.measurement.now)

spelled-equal : (a b : Place) → same_bytes a b ≡ true → place_spelled a ≡ place_spelled b
spelled-equal a b e =
    let key = (bytes_eq-Decides a.key.now b.key.now).0 (both-first (bytes_eq a.key.now b.key.now) (bytes_eq a.measurement.now b.measurement.now) e) in
    let measurement = (bytes_eq-Decides a.measurement.now b.measurement.now).0 (both-second (bytes_eq a.key.now b.key.now) (bytes_eq a.measurement.now b.measurement.now) e) in
    ap (λ (m : List ℕ). place_of (unescaped measurement_ends_at m) (unescaped tag_ends_at a.key.now)) measurement
    ∙ ap (λ (k : List ℕ). place_of (unescaped measurement_ends_at b.measurement.now) (unescaped tag_ends_at k)) key

-- the order of places tells them apart as their names do
pub place-told : (a b : Place) → is_eq (place_cmp a b) ≡ bytes_eq (place_spelled b) (place_spelled a)
place-told a b =
    place-equal a b
    ∙ ⊎_elim
    (λ (t : same_bytes a b ≡ true). t ∙ sym ((bytes_eq-Decides (place_spelled b) (place_spelled a)).1 (sym (spelled-equal a b t))))
    (λ (f : same_bytes a b ≡ false).
    f
    ∙ ⊎_elim
    (λ (t : bytes_eq (place_spelled b) (place_spelled a) ≡ true).
    let same = place-same a b (sym ((bytes_eq-Decides (place_spelled b) (place_spelled a)).0 t)) in
    let both = both-true (bytes_eq a.key.now b.key.now) (bytes_eq a.measurement.now b.measurement.now) ((bytes_eq-Decides a.key.now b.key.now).1 same.0) ((bytes_eq-Decides a.measurement.now b.measurement.now).1 same.1) in
    absurd (false≢true (sym f ∙ both)))
    (λ (g : bytes_eq (place_spelled b) (place_spelled a) ≡ false). sym g)
    (decided (bytes_eq (place_spelled b) (place_spelled a))))
    (decided (same_bytes a b))

abbrev Entries : Type 0
Entries = List (Place × Kind)

-- the kind that the entries have for names
abbrev pub kind_of_names : Entries → List ℕ → Option Kind
kind_of_names entries at = lookup (λ place. bytes_eq (place_spelled place) at) entries

-- what is found at a place is what its names have
pub place-found : (entries : Entries) (a : Place) → lookup (is_at (place_cmp a)) entries ≡ kind_of_names entries (place_spelled a)
place-found [] a = refl
place-found (e ∷ entries) a =
    ap (λ (t : Bool). cond t (Some e.1) (lookup (is_at (place_cmp a)) entries)) (place-told a e.0)
    ∙ ap (λ (o : Option Kind). cond (bytes_eq (place_spelled e.0) (place_spelled a)) (Some e.1) o) (place-found entries a)

some≢none : (kind : Kind) (b : Bool) (other : Option Kind) → b ≡ true → cond b (Some kind) other ≡ None → ⊥
some≢none kind b other t e =
    let one : Option Kind = Some kind in
    let wrong : one ≡ None = sym (ap (λ (x : Bool). let o : Option Kind = cond x (Some kind) other in o) t) ∙ e in
    cc

-- two ways to pass a first entry, of which one is taken at most
cond-swapped : (a b : Bool) (x y rest : Option Kind) → (a ≡ true → b ≡ true → ⊥) → cond a x (cond b y rest) ≡ cond b y (cond a x rest)
cond-swapped true true x y rest h = absurd (h refl refl)
cond-swapped true false x y rest h = refl
cond-swapped false b x y rest h = refl

cond-behind : (b : Bool) (x other : Option Kind) → b ≡ false → cond b x other ≡ None → other ≡ None
cond-behind b x other f e = sym (ap (λ (t : Bool). let o : Option Kind = cond t x other in o) f) ∙ e

-- the entries with a kind at a new place have what they had, and that
abbrev Keeps : Entries → Place → Kind → List ℕ → Type 0
Keeps entries a kind at =
    kind_of_names entries (place_spelled a) ≡ None
    → kind_of_names (insert_entry place_cmp entries a kind) at ≡ cond (bytes_eq (place_spelled a) at) (Some kind) (kind_of_names entries at)

kept-at : (o : Ordering) (e : Place × Kind) (entries : Entries) (a : Place) (kind : Kind) (at : List ℕ) → o ≡ place_cmp a e.0
    → kind_of_names (e ∷ entries) (place_spelled a) ≡ None → Keeps entries a kind at
    → kind_of_names (match_ordering o ((a, kind) ∷ e ∷ entries) ((e.0, kind) ∷ entries) (e ∷ insert_entry place_cmp entries a kind)) at
    ≡ cond (bytes_eq (place_spelled a) at) (Some kind) (kind_of_names (e ∷ entries) at)
kept-at Less e entries a kind at is none keeps = refl
kept-at Equal e entries a kind at is none keeps =
    absurd (some≢none e.1 (bytes_eq (place_spelled e.0) (place_spelled a)) (kind_of_names entries (place_spelled a)) (sym (place-told a e.0) ∙ sym (ap (λ (o : Ordering). is_eq o) is)) none)
kept-at Greater e entries a kind at is none keeps =
    let other : bytes_eq (place_spelled e.0) (place_spelled a) ≡ false = sym (place-told a e.0) ∙ sym (ap (λ (o : Ordering). is_eq o) is) in
    let behind = cond-behind (bytes_eq (place_spelled e.0) (place_spelled a)) (Some e.1) (kind_of_names entries (place_spelled a)) other none in
    ap (λ (o : Option Kind). cond (bytes_eq (place_spelled e.0) at) (Some e.1) o) (keeps behind)
    ∙ cond-swapped (bytes_eq (place_spelled e.0) at) (bytes_eq (place_spelled a) at) (Some e.1) (Some kind) (kind_of_names entries at)
    (λ t u.
    let same = (bytes_eq-Decides (place_spelled e.0) at).0 t ∙ sym ((bytes_eq-Decides (place_spelled a) at).0 u) in
    false≢true (sym other ∙ (bytes_eq-Decides (place_spelled e.0) (place_spelled a)).1 same))

pub place-kept : (entries : Entries) (a : Place) (kind : Kind) (at : List ℕ) → Keeps entries a kind at
place-kept [] a kind at none = refl
place-kept (e ∷ entries) a kind at none = kept-at (place_cmp a e.0) e entries a kind at refl none (place-kept entries a kind at)
