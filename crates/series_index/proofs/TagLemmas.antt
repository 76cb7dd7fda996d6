-- What the tags of a series tell of the terms that list it.
use Rattle.std.proofs.Common.{◌≡◌, ◌≢◌, ℕ, suc, ◌+◌, ◌≤◌, ◌&&◌, ◌||◌, Bool, true, false, not, List, [], ◌∷◌, length, All, ◌⊎◌, inl, inr, if◌then◌else◌, refl, sym, ap, ◌∙◌, subst, arith}
use Rattle.std.specs.List.{count_by}
use Rattle.std.specs.Str.{bytes_eq}
use Rattle.std.proofs.lemmas.List.Sorted.{IsPermutation-refl}
use Rattle.tsdb_types.specs.Names.{IsName}
use Rattle.tsdb_types.specs.Series.{IsSeriesText}
use Rattle.tsdb_types.specs.declared.tag.Tag.{Tag}
use Rattle.tsdb_types.proofs.TagLemmas.{differ_from_ascend}
use Rattle.point_model.specs.Tags.{tag_text, tags_in, text_of}
use Rattle.point_model.proofs.TagLemmas.{tags-read}
use Rattle.index_lists.specs.Terms.{has_key, has_value}
use Rattle.index_lists.proofs.PairLemmas.{and_first, any_in, not_false, same_text, some_counted}
use Rattle.index_lists.proofs.StepLemmas.{bit, count_cons}

abbrev pub Named : List Tag → Type 0
Named tags = All (λ tag. IsName tag.key × IsName tag.value) tags

rest_named : (tag : Tag) (tags : List Tag) → Named (tag ∷ tags) → Named tags
rest_named tag tags named = λ k d less. named (suc k) d (omega (arith, less))

value_named : (tag : Tag) (tags : List Tag) → Named (tag ∷ tags) → IsName tag.value
value_named tag tags named = (named 0 tag (omega arith)).1

not_none : (text : List ℕ) → IsName text → bytes_eq text [] ≡ false
not_none text is = not_false (bytes_eq text []) (λ e. omega (arith, is.not_empty, ap length (same_text text [] e)))

none_not : (text : List ℕ) → text ≢ [] → bytes_eq [] text ≡ false
none_not text some = not_false (bytes_eq [] text) (λ e. some (sym (same_text [] text e)))

-- ---- a tag that is lacking

lacks_key : (key : List ℕ) (tags : List Tag) → Named tags → not (has_key key tags) ≡ bytes_eq (text_of key tags) []
lacks_key key [] named = refl
lacks_key key (tag ∷ tags) named = by (bytes_eq tag.key key) (lacks_key key tags (rest_named tag tags named))
  where
    by : (b : Bool) → not (has_key key tags) ≡ bytes_eq (text_of key tags) [] → not (b || has_key key tags) ≡ bytes_eq (if b then tag.value else text_of key tags) []
    by true rest = sym (not_none tag.value (value_named tag tags named))
    by false rest = rest

-- ---- a tag with a value

no_value : (key value : List ℕ) (tags : List Tag) → count_by (λ tag. bytes_eq tag.key key) tags ≡ 0 → has_value key value tags ≡ false
no_value key value tags none =
    not_false (has_value key value tags)
    (λ e. let f = any_in (λ (tag : Tag). bytes_eq tag.key key && bytes_eq tag.value value) tags e in
    let some = some_counted (λ (tag : Tag). bytes_eq tag.key key) tags f.0 f.1 (and_first (bytes_eq f.0.key key) (bytes_eq f.0.value value) f.2) in omega (arith, some, none))

or_none : (b c : Bool) → c ≡ false → b || c ≡ b
or_none true c e = refl
or_none false c e = e

has_text : (key value : List ℕ) (tags : List Tag) → value ≢ [] → count_by (λ tag. bytes_eq tag.key key) tags ≤ 1 → has_value key value tags ≡ bytes_eq (text_of key tags) value
has_text key value [] some few = sym (none_not value some)
has_text key value (tag ∷ tags) some few = by (bytes_eq tag.key key) refl (λ few. has_text key value tags some few)
  where
    counted : count_by (λ t. bytes_eq t.key key) (tag ∷ tags) ≡ bit (bytes_eq tag.key key) + count_by (λ t. bytes_eq t.key key) tags
    counted = count_cons (λ (t : Tag). bytes_eq t.key key) tag tags

    by : (b : Bool) → bytes_eq tag.key key ≡ b → (count_by (λ t. bytes_eq t.key key) tags ≤ 1 → has_value key value tags ≡ bytes_eq (text_of key tags) value) → (b && bytes_eq tag.value value) || has_value key value tags ≡ bytes_eq (if b then tag.value else text_of key tags) value
    by true e rest = let one : bit (bytes_eq tag.key key) ≡ 1 = ap bit e in or_none (bytes_eq tag.value value) (has_value key value tags) (no_value key value tags (omega (arith, few, counted, one)))
    by false e rest = let none : bit (bytes_eq tag.key key) ≡ 0 = ap bit e in rest (omega (arith, few, counted, none))

-- a text is empty or a name
named_text : (key : List ℕ) (tags : List Tag) → Named tags → (text_of key tags ≡ []) ⊎ IsName (text_of key tags)
named_text key [] named = inl refl
named_text key (tag ∷ tags) named = by (bytes_eq tag.key key) (named_text key tags (rest_named tag tags named))
  where
    by : (b : Bool) → (text_of key tags ≡ []) ⊎ IsName (text_of key tags) → ((if b then tag.value else text_of key tags) ≡ []) ⊎ IsName (if b then tag.value else text_of key tags)
    by true rest = inr (value_named tag tags named)
    by false rest = rest

-- ---- of a series

tags_are : (series : List ℕ) (is : IsSeriesText series) → tags_in series ≡ is.tags
tags_are series is = ap tags_in is.spelled ∙ tags-read is.measurement is.tags is.named is.tags_named

pub lacks_tag : (key series : List ℕ) → IsSeriesText series → not (has_key key (tags_in series)) ≡ bytes_eq (tag_text key series) []
lacks_tag key series is = subst (λ (ts : List Tag). not (has_key key ts) ≡ bytes_eq (text_of key ts) []) (sym (tags_are series is)) (lacks_key key is.tags is.tags_named)

pub tag_is : (key value series : List ℕ) → value ≢ [] → IsSeriesText series → has_value key value (tags_in series) ≡ bytes_eq (tag_text key series) value
tag_is key value series some is =
    subst (λ (ts : List Tag). has_value key value ts ≡ bytes_eq (text_of key ts) value) (sym (tags_are series is))
    (has_text key value is.tags some (differ_from_ascend is.tags is.tags (IsPermutation-refl is.tags) is.ascend key))

pub no_name : (key text series : List ℕ) → text ≢ [] → (IsName text → ⊥) → IsSeriesText series → bytes_eq (tag_text key series) text ≡ false
no_name key text series some bad is =
    subst (λ (ts : List Tag). bytes_eq (text_of key ts) text ≡ false) (sym (tags_are series is)) (by (named_text key is.tags is.tags_named))
  where
    by : (text_of key is.tags ≡ []) ⊎ IsName (text_of key is.tags) → bytes_eq (text_of key is.tags) text ≡ false
    by (inl none) = not_false (bytes_eq (text_of key is.tags) text) (λ e. some (sym (same_text (text_of key is.tags) text e) ∙ none))
    by (inr name) = not_false (bytes_eq (text_of key is.tags) text) (λ e. bad (subst IsName (same_text (text_of key is.tags) text e) name))
