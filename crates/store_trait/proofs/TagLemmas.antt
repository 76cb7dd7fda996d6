-- The keys that are cut out of the text of a series are those of its tags.
use Rattle.std.proofs.Common.{rules, append_assoc, ◌≡◌, ℕ, zero, suc, ◌<◌, ◌⊎◌, inl, inr, ⊎_elim, Bool, true, false, ◌&&◌, Option, Some, None, List, [], ◌∷◌, ◌++◌, length, get_or, map, refl, sym, ap, subst, ◌∙◌, arith}
use Rattle.std.specs.List.{slice_get, Any, Contains}
use Rattle.std.specs.Map.{keys_of}
use Rattle.tsdb_types.specs.Names.{IsName}
use Rattle.tsdb_types.specs.Series.{measurement_ends_at, tags_text, series_text, is_series_of, IsSeriesText}
use Rattle.tsdb_types.specs.declared.tag.Tag.{Tag}
use Rattle.point_model.specs.Conditions.{True, meets}
use Rattle.point_model.specs.Cursors.{Key}
use Rattle.point_model.specs.Tags.{parts_behind}
use Rattle.point_model.proofs.TagLemmas.{Named, over-rest, tags-rest, one-tag, key-of-part}
use Rattle.store_trait.specs.Slots.{Rows}
use Rattle.store_trait.specs.Tags.{IsTagKeyOf, tag_key, keys_in, keys_within}
use Rattle.store_trait.proofs.InLemmas.{In as Among}

abbrev key_of : Tag → List ℕ
key_of tag = tag.key

tags-keys : (tags : List Tag) → Named tags → map tag_key (parts_behind 44 (tags_text tags)) ≡ map key_of tags
tags-keys [] named = refl
tags-keys (tag ∷ tags) named =
    let first = named 0 tag (omega arith) in
    ap (λ (ps : List (List ℕ)). map tag_key ps) (one-tag tag tags first)
    ∙ ap (λ (k : List ℕ). k ∷ map tag_key (parts_behind 44 (tags_text tags))) (key-of-part tag first)
    ∙ ap (λ (ks : List (List ℕ)). tag.key ∷ ks) (tags-keys tags (λ k d l. named (suc k) d (omega arith)))

series-keys : (measurement : List ℕ) (tags : List Tag) → IsName measurement → Named tags → keys_in (series_text measurement tags) ≡ map key_of tags
series-keys measurement tags named tags_named =
    ap (λ (t : List ℕ). map tag_key (parts_behind 44 t)) (over-rest 44 measurement_ends_at refl refl measurement (tags_text tags) named ∙ tags-rest tags)
    ∙ tags-keys tags tags_named

-- the item is one of these
abbrev In : List ℕ → List (List ℕ) → Type 0
In x [] = ⊥
In x (y ∷ ys) = (y ≡ x) ⊎ In x ys

in-at : (k : ℕ) (xs : List (List ℕ)) (x : List ℕ) → k < length xs → get_or xs k x ≡ x → In x xs
in-at k [] x l e = absurd (omega arith)
in-at zero (y ∷ ys) x l e = inl e
in-at (suc k) (y ∷ ys) x l e = inr (in-at k ys x (omega arith) e)

contains-in : (xs : List (List ℕ)) (x : List ℕ) → Contains xs x → In x xs
contains-in xs x is = in-at is.0 xs x is.1 is.2

in-contains : (xs : List (List ℕ)) (x : List ℕ) → In x xs → Contains xs x
in-contains [] x is = absurd is
in-contains (y ∷ ys) x (inl e) = (0, omega arith, e)
in-contains (y ∷ ys) x (inr is) = let there = in-contains ys x is in (suc there.0, omega (arith, there.1), there.2)

in-both : (xs ys : List (List ℕ)) (x : List ℕ) → In x (xs ++ ys) → In x xs ⊎ In x ys
in-both [] ys x is = inr is
in-both (y ∷ xs) ys x (inl e) = inl (inl e)
in-both (y ∷ xs) ys x (inr is) = ⊎_elim (λ (a : In x xs). let there : In x (y ∷ xs) ⊎ In x ys = inl (inr a) in there) (λ (b : In x ys). let there : In x (y ∷ xs) ⊎ In x ys = inr b in there) (in-both xs ys x is)

in-left : (xs ys : List (List ℕ)) (x : List ℕ) → In x xs → In x (xs ++ ys)
in-left [] ys x is = absurd is
in-left (y ∷ xs) ys x (inl e) = inl e
in-left (y ∷ xs) ys x (inr is) = inr (in-left xs ys x is)

in-right : (xs ys : List (List ℕ)) (x : List ℕ) → In x ys → In x (xs ++ ys)
in-right [] ys x is = is
in-right (y ∷ xs) ys x is = inr (in-right xs ys x is)

abbrev HasKey : List ℕ → List Tag → Type 0
HasKey key tags = Any (λ tag. tag.key ≡ key) tags

in-any : (key : List ℕ) (tags : List Tag) → In key (map key_of tags) → HasKey key tags
in-any key [] is = absurd is
in-any key (tag ∷ tags) (inl e) = (0, tag, omega arith, refl, e)
in-any key (tag ∷ tags) (inr is) = let there = in-any key tags is in (suc there.0, there.1, omega (arith, there.2), there.3, there.4)

any-at : (k : ℕ) (key : List ℕ) (tags : List Tag) (tag : Tag) → k < length tags → get_or tags k tag ≡ tag → tag.key ≡ key → In key (map key_of tags)
any-at k key [] tag l e is = absurd (omega arith)
any-at zero key (first ∷ tags) tag l e is = inl (ap key_of e ∙ is)
any-at (suc k) key (first ∷ tags) tag l e is = inr (any-at k key tags tag (omega arith) e is)

any-in : (key : List ℕ) (tags : List Tag) → HasKey key tags → In key (map key_of tags)
any-in key tags is = any-at is.0 key tags is.1 is.2 is.3 is.4

-- a key that is cut out of a series is one of its tags
in-key : (key series : List ℕ) → IsSeriesText series → In key (keys_in series) → IsTagKeyOf key series
in-key key series is found =
    let keys = ap keys_in is.spelled ∙ series-keys is.measurement is.tags is.named is.tags_named in
    record {
      measurement = is.measurement;
      tags = is.tags;
      named = is.named;
      tags_named = is.tags_named;
      spelled = is.spelled;
      has = in-any key is.tags (subst (λ (ks : List (List ℕ)). In key ks) keys found);
    }

key-in : (key series : List ℕ) → IsTagKeyOf key series → In key (keys_in series)
key-in key series is =
    let keys = ap keys_in is.spelled ∙ series-keys is.measurement is.tags is.named is.tags_named in
    subst (λ (ks : List (List ℕ)). In key ks) (sym keys) (any-in key is.tags is.has)

abbrev Entries : Type 0
Entries = List (List ℕ × List ℕ)

-- some of the series has a tag with this key
abbrev Found : List ℕ → Entries → Type 0
Found key entries = (place : ℕ) × (series : List ℕ) × (field : List ℕ) × (slice_get entries place ≡ Some (series, field)) × IsTagKeyOf key series

found-in : (key : List ℕ) (entries : Entries) → ((series field : List ℕ) → Among (series, field) entries → IsSeriesText series) → In key (keys_within entries) → Found key entries
found-in key [] texts is = absurd is
found-in key (entry ∷ entries) texts is =
    ⊎_elim
    (λ (here : In key (keys_in entry.0)). let found : Found key (entry ∷ entries) = (0, entry.0, entry.1, refl, in-key key entry.0 (texts entry.0 entry.1 (inl refl)) here) in found)
    (λ (behind : In key (keys_within entries)).
    let there = found-in key entries (λ series field m. texts series field (inr m)) behind in
    let found : Found key (entry ∷ entries) = (suc there.0, there.1, there.2, there.3, there.4) in
    found)
    (in-both (keys_in entry.0) (keys_within entries) key is)

abbrev some_entry : List ℕ × List ℕ → Option (List ℕ × List ℕ)
some_entry entry = Some entry

entry-same : (entry other : List ℕ × List ℕ) → some_entry entry ≡ some_entry other → entry ≡ other
entry-same entry other e = cc

none≢entry : (entry : List ℕ × List ℕ) → let none : Option (List ℕ × List ℕ) = None in none ≡ some_entry entry → ⊥
none≢entry entry e = cc

in-found : (key : List ℕ) (entries : Entries) (place : ℕ) (series field : List ℕ) → slice_get entries place ≡ Some (series, field) → IsTagKeyOf key series → In key (keys_within entries)
in-found key [] place series field e is = absurd (none≢entry (series, field) e)
in-found key (entry ∷ entries) zero series field e is =
    let same = entry-same entry (series, field) e in
    in-left (keys_in entry.0) (keys_within entries) key
    (subst (λ (s : List ℕ). In key (keys_in s)) (sym (ap (λ (p : List ℕ × List ℕ). p.0) same)) (key-in key series is))
in-found key (entry ∷ entries) (suc place) series field e is =
    in-right (keys_in entry.0) (keys_within entries) key (in-found key entries place series field e is)

-- the keys that are found are those of the series
pub keys-found : (key : List ℕ) (entries : Entries) (found : List (List ℕ)) → found ≡ keys_within entries → ((series field : List ℕ) → Among (series, field) entries → IsSeriesText series) → Contains found key → Found key entries
keys-found key entries found same texts is =
    found-in key entries texts (subst (λ (ks : List (List ℕ)). In key ks) same (contains-in found key is))

pub found-keys : (key : List ℕ) (entries : Entries) (found : List (List ℕ)) → found ≡ keys_within entries → Found key entries → Contains found key
found-keys key entries found same is =
    in-contains found key (subst (λ (ks : List (List ℕ)). In key ks) (sym same) (in-found key entries is.0 is.1 is.2 is.3 is.4))

and_true : (a : Bool) → a ≡ (a && true)
and_true true = refl
and_true false = refl

-- each series meets it
pub always_met : (series : List ℕ) → meets True series ≡ true
always_met series = refl

pub of_whole : (measurement series : List ℕ) → is_series_of measurement series ≡ (is_series_of measurement series && meets True series)
of_whole measurement series =
    and_true (is_series_of measurement series) ∙ ap (λ (b : Bool). is_series_of measurement series && b) (sym (always_met series))

within-append : (xs ys : List (Key × Rows)) → keys_within (keys_of (xs ++ ys)) ≡ keys_within (keys_of xs) ++ keys_within (keys_of ys)
within-append [] ys = refl
within-append (x ∷ xs) ys =
    ap (λ (ks : List (List ℕ)). keys_in x.0.0 ++ ks) (within-append xs ys) ∙ sym (append_assoc (keys_in x.0.0) (keys_within (keys_of xs)) (keys_within (keys_of ys)))

-- the keys of one series more
pub within_next : (found more : List (List ℕ)) (xs ys : List (Key × Rows)) → more ≡ found ++ keys_within (keys_of xs)
    → more ++ keys_within (keys_of ys) ≡ found ++ keys_within (keys_of (xs ++ ys))
within_next found more xs ys is =
    ap (λ (ks : List (List ℕ)). ks ++ keys_within (keys_of ys)) is
    ∙ append_assoc found (keys_within (keys_of xs)) (keys_within (keys_of ys))
    ∙ ap (λ (ks : List (List ℕ)). found ++ ks) (sym (within-append xs ys))
