use Rattle.std.proofs.Common.{◌≡◌, ℕ, suc, ◌+◌, Bool, true, false, cond, ◌&&◌, ⊎_elim, List, [], ◌∷◌, get_or, refl, sym, ap, subst, ◌∙◌, Ordering, arith}
use Rattle.std.specs.declared.cmp.Ordering.TheVariants.{Less, Equal, Greater}
use Rattle.std.specs.Ordering.{nat_cmp, is_eq, ordering_reverse}
use Rattle.std.specs.Cmp.Lexicographic.{slice_cmp}
use Rattle.std.specs.List.{sum_by}
use Rattle.std.specs.Str.{bytes_eq}
use Rattle.std.proofs.lemmas.Bool.{false≢true}
use Rattle.std.proofs.lemmas.Cmp.{nat_list_cmp_total, tied_itself}
use Rattle.std.proofs.lemmas.List.Sorted.{sum_by-IsPermutation}
use Rattle.std.proofs.lemmas.List.Sums.{sum_by-cons}
use Rattle.std.proofs.lemmas.Slice.Eq.{bytes_eq-Decides}
use Rattle.std.proofs.lemmas.Map.Text.{is_eq-slice_cmp}
use Rattle.tsdb_types.specs.Series.{Ascend, IsKeyOf, series_text}
use Rattle.tsdb_types.specs.declared.tag.Tag.{Tag}
use Rattle.line_protocol.proofs.PartLemmas.{decided}

abbrev pub order : List ℕ → List ℕ → Ordering
order key other = slice_cmp nat_cmp key other

-- the key is below that of each tag
abbrev pub Below : List ℕ → List Tag → Type 0
Below key [] = Unit {0}
Below key (tag ∷ tags) = (order key tag.key ≡ Less) × Below key tags

-- each key is below all later ones
abbrev pub Chain : List Tag → Type 0
Chain [] = Unit {0}
Chain (tag ∷ tags) = Below tag.key tags × Chain tags

pub below-lower : (key other : List ℕ) (tags : List Tag) → order key other ≡ Less → Below other tags → Below key tags
below-lower key other [] less below = tt
below-lower key other (tag ∷ tags) less below =
    (nat_list_cmp_total.trans key other tag.key less below.0, below-lower key other tags less below.1)

ascend-rest : (tag : Tag) (tags : List Tag) → Ascend (tag ∷ tags) → Ascend tags
ascend-rest tag tags up = λ k d l.
    let step = up (suc k) d (omega arith) in
    let e : suc k + 1 ≡ suc (k + 1) = omega arith in
    subst (λ (n : ℕ). order (get_or tags k d).key (get_or (tag ∷ tags) n d).key ≡ Less) e step

chain : (tags : List Tag) → Ascend tags → Chain tags
chain [] up = tt
chain (tag ∷ []) up = (tt, tt)
chain (tag ∷ next ∷ tags) up =
    let rest = chain (next ∷ tags) (ascend-rest tag (next ∷ tags) up) in
    let first : order tag.key next.key ≡ Less = up 0 tag (omega arith) in
    ((first, below-lower tag.key next.key tags first rest.0), rest)

less≢equal : Less ≡ Equal → ⊥
less≢equal e = false≢true (ap is_eq e)

-- 1 for a tag that the test picks
abbrev pub one : (Tag → Bool) → Tag → ℕ
one picks tag = cond (picks tag) 1 0

-- a test that picks tags of one key picks none of tags that are all above that key
pub absent : (picks : Tag → Bool) (key : List ℕ) → ((tag : Tag) → picks tag ≡ true → tag.key ≡ key) → (tags : List Tag) → Below key tags → sum_by (one picks) tags ≡ 0
absent picks key same [] below = refl
absent picks key same (tag ∷ tags) below =
    let rest = absent picks key same tags below.1 in
    let first : one picks tag ≡ 0 =
    ⊎_elim
    (λ (e : picks tag ≡ true).
    absurd (less≢equal (sym (subst (λ (k : List ℕ). order key k ≡ Less) (same tag e) below.0) ∙ tied_itself nat_list_cmp_total key)))
    (λ (e : picks tag ≡ false). ap (λ (b : Bool). cond b 1 0) e)
    (decided (picks tag))
    in
    omega (arith, sum_by-cons (one picks) tag tags, rest, first)

-- the tag has this key
abbrev pub has_key : List ℕ → Tag → Bool
has_key key tag = bytes_eq tag.key key

pub key-of : (key : List ℕ) (tag : Tag) → has_key key tag ≡ true → tag.key ≡ key
key-of key tag e = (bytes_eq-Decides tag.key key).0 e

-- the tag is this one
abbrev is_tag : Tag → Tag → Bool
is_tag tag other = bytes_eq other.key tag.key && bytes_eq other.value tag.value

both-first : (a b : Bool) → (a && b) ≡ true → a ≡ true
both-first true b e = refl
both-first false b e = absurd (false≢true e)

both-second : (a b : Bool) → (a && b) ≡ true → b ≡ true
both-second true b e = e
both-second false b e = absurd (false≢true e)

both-true : (a b : Bool) → a ≡ true → b ≡ true → (a && b) ≡ true
both-true a b e f = ap (λ (t : Bool). t && b) e ∙ f

pub one-picked : (picks : Tag → Bool) (tag : Tag) → picks tag ≡ true → one picks tag ≡ 1
one-picked picks tag e = ap (λ (b : Bool). cond b 1 0) e

-- as many tags of each kind stand in both lists
abbrev SameCounts : List Tag → List Tag → Type 0
SameCounts tags others = (count : Tag → ℕ) → sum_by count tags ≡ sum_by count others

-- the first key of one list isn't below all keys of the other
first-not-below : (tag : Tag) (tags others : List Tag) → Below tag.key others → SameCounts (tag ∷ tags) others → ⊥
first-not-below tag tags others below same =
    let picks = has_key tag.key in
    let none = absent picks tag.key (key-of tag.key) others below in
    let some = one-picked picks tag ((bytes_eq-Decides tag.key tag.key).1 refl) in
    absurd (omega (arith, none, some, sum_by-cons (one picks) tag tags, same (one picks)))

abbrev tag_with : List ℕ → List ℕ → Tag
tag_with key value = record { key = key; value = value }

-- the first tags are one where their keys are
first-same : (tag : Tag) (tags : List Tag) (other : Tag) (others : List Tag) → tag.key ≡ other.key → Below other.key others → SameCounts (tag ∷ tags) (other ∷ others) → tag ≡ other
first-same tag tags other others key below same =
    let picks = is_tag tag in
    let of_key = λ (t : Tag) (e : picks t ≡ true). (bytes_eq-Decides t.key tag.key).0 (both-first (bytes_eq t.key tag.key) (bytes_eq t.value tag.value) e) ∙ key in
    let none = absent picks other.key of_key others below in
    let itself = both-true (bytes_eq tag.key tag.key) (bytes_eq tag.value tag.value) ((bytes_eq-Decides tag.key tag.key).1 refl) ((bytes_eq-Decides tag.value tag.value).1 refl) in
    let some = one-picked picks tag itself in
    ⊎_elim
    (λ (e : picks other ≡ true).
    let value = (bytes_eq-Decides other.value tag.value).0 (both-second (bytes_eq other.key tag.key) (bytes_eq other.value tag.value) e) in
    ap (λ (k : List ℕ). tag_with k tag.value) key ∙ ap (λ (v : List ℕ). tag_with other.key v) (sym value))
    (λ (e : picks other ≡ false).
    let no : one picks other ≡ 0 = ap (λ (b : Bool). cond b 1 0) e in
    absurd (omega (arith, none, some, no, sum_by-cons (one picks) tag tags, sum_by-cons (one picks) other others, same (one picks))))
    (decided (picks other))

rest-same : (tag : Tag) (tags others : List Tag) → SameCounts (tag ∷ tags) (tag ∷ others) → SameCounts tags others
rest-same tag tags others same = λ count.
    omega (arith, sum_by-cons count tag tags, sum_by-cons count tag others, same count)

-- tags have one ascending order
one_order : (tags others : List Tag) → Chain tags → Chain others → SameCounts tags others → tags ≡ others
one_order [] [] up above same = refl
one_order [] (other ∷ others) up above same = absurd (first-not-below other others [] tt (λ count. sym (same count)))
one_order (tag ∷ tags) [] up above same = absurd (first-not-below tag tags [] tt same)
one_order (tag ∷ tags) (other ∷ others) up above same =
    let P : Ordering → Type 0 = λ o. order tag.key other.key ≡ o → tag ∷ tags ≡ other ∷ others in
    (elim (order tag.key other.key) as P [
      | Less ↦ λ e. absurd (first-not-below tag tags (other ∷ others) (e, below-lower tag.key other.key others e above.0) same)
      | Equal ↦ λ e.
          let tied : bytes_eq tag.key other.key ≡ true = sym (is_eq-slice_cmp tag.key other.key) ∙ ap is_eq e in
          let key = (bytes_eq-Decides tag.key other.key).0 tied in
          let first = first-same tag tags other others key above.0 same in
          let rest = one_order tags others up.1 above.1 (rest-same other tags others (subst (λ (t : Tag). SameCounts (t ∷ tags) (other ∷ others)) first same)) in
          ap (λ (t : Tag). t ∷ tags) first ∙ ap (λ (ts : List Tag). other ∷ ts) rest
      | Greater ↦ λ e.
          let back : order other.key tag.key ≡ Less = nat_list_cmp_total.antisymm other.key tag.key ∙ ap ordering_reverse e in
          absurd (first-not-below other others (tag ∷ tags) (back, below-lower other.key tag.key tags back up.0) (λ count. sym (same count)))
    ]) refl

-- a measurement and tags, in whatever order, have one key
pub one_key : (measurement : List ℕ) (tags : List Tag) (key other : List ℕ) → IsKeyOf measurement tags key → IsKeyOf measurement tags other → key ≡ other
one_key measurement tags key other is that =
    let same : SameCounts is.sorted that.sorted = λ count. sum_by-IsPermutation count tags is.sorted is.same ∙ sym (sum_by-IsPermutation count tags that.sorted that.same) in
    let sorted = one_order is.sorted that.sorted (chain is.sorted is.ascend) (chain that.sorted that.ascend) same in
    is.spelled ∙ ap (λ (ts : List Tag). series_text measurement ts) sorted ∙ sym that.spelled
