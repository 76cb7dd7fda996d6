use Rattle.std.proofs.Common.{◌≡◌, ℕ, ◌+◌, ◌<◌, Bool, true, false, List, [], ◌∷◌, ◌++◌, map, length, get_or, refl, sym, ap, subst, ◌∙◌, Ordering, lit<, arith}
use Rattle.std.specs.Prelude.{◌↔◌}
use Rattle.std.specs.List.{All, AllAdjacentBelow}
use Rattle.std.specs.List.Sorted.{IsPermutation, IsSorted}
use Rattle.std.specs.Ordering.{nat_cmp, is_lt}
use Rattle.std.specs.declared.cmp.Ordering.TheVariants.{Less}
use Rattle.std.specs.Cmp.Lexicographic.{slice_cmp}
use Rattle.std.specs.Str.{IsUtf8}
use Rattle.std.proofs.lemmas.List.{get_or-map, length-map}
use Rattle.std.proofs.lemmas.List.Elements.{All-head, All-tail}
use Rattle.std.proofs.lemmas.List.Sorted.{IsPermutation-map, All-permutation}
use Rattle.std.proofs.lemmas.Str.{IsUtf8-append, IsUtf8-nil}
use Rattle.tsdb_types.specs.Names.{IsName}
use Rattle.tsdb_types.specs.Series.{escaped, measurement_text, tag_ends_at, tags_text, Ascend, KeysDiffer, IsKeyOf, IsSeriesText}
use Rattle.tsdb_types.specs.Spelled.{unescaped}
use Rattle.tsdb_types.specs.declared.tag.Tag.{Tag}
use Rattle.tsdb_types.proofs.EscapeLemmas.{IsUtf8-cons}
use Rattle.tsdb_types.proofs.TagLemmas.{ascend_from_differ, differ_from_ascend}
use Rattle.line_protocol.specs.declared.sorted.Part.{Part}
use Rattle.line_protocol.specs.Heads.{measurement_of, tag_parts, tag_of, tags_of}
use Rattle.line_protocol.specs.Names.{key_part}
use Rattle.line_protocol.specs.Sorted.{texts_of, AreCut, part_cmp, joined}
use Rattle.line_protocol.specs.Tokens.{SpellsTag, IsNamed}

abbrev tag_at : Part → Tag
tag_at part = tag_of true part.text.now

abbrev tags_in : List Part → List Tag
tags_in parts = map (tag_of true) (texts_of parts)

mapped : (parts : List Part) → map tag_at parts ≡ tags_in parts
mapped [] = refl
mapped (part ∷ parts) = ap (λ (ts : List Tag). tag_at part ∷ ts) (mapped parts)

abbrev key_cmp : Tag → Tag → Ordering
key_cmp tag other = slice_cmp nat_cmp tag.key other.key

-- parts compare as their tags do
same-cmp : (part other : Part) → part.key.now ≡ key_part part.text.now → other.key.now ≡ key_part other.text.now → part_cmp part other ≡ key_cmp (tag_at part) (tag_at other)
same-cmp part other e f =
    ap (λ (k : List ℕ). slice_cmp nat_cmp (unescaped tag_ends_at k) (unescaped tag_ends_at other.key.now)) e
    ∙ ap (λ (k : List ℕ). slice_cmp nat_cmp (unescaped tag_ends_at (key_part part.text.now)) (unescaped tag_ends_at k)) f

-- what holds of each two neighbours, of the parts and of their tags
module _ (R : Tag → Tag → Type 0) where
  to-tags : (parts : List Part) → ((k : ℕ) (d : Part) → k + 1 < length parts → R (tag_at (get_or parts k d)) (tag_at (get_or parts (k + 1) d))) → (k : ℕ) (e : Tag) → k + 1 < length (tags_in parts) → R (get_or (tags_in parts) k e) (get_or (tags_in parts) (k + 1) e)
  to-tags [] h k e l = absurd (omega arith)
  to-tags (first ∷ parts) h k e l =
      let all = first ∷ parts in
      let same : map tag_at all ≡ tags_in all = mapped all in
      let long : length (tags_in all) ≡ length all = ap (λ (ts : List Tag). length ts) (sym same) ∙ length-map all tag_at in
      let one : get_or (tags_in all) k e ≡ tag_at (get_or all k first) = ap (λ (ts : List Tag). get_or ts k e) (sym same) ∙ get_or-map tag_at all k first e (omega (arith, long, l)) in
      let two : get_or (tags_in all) (k + 1) e ≡ tag_at (get_or all (k + 1) first) = ap (λ (ts : List Tag). get_or ts (k + 1) e) (sym same) ∙ get_or-map tag_at all (k + 1) first e (omega (arith, long, l)) in
      let is = h k first (omega (arith, long, l)) in
      subst (λ (t : Tag). R t (get_or (tags_in all) (k + 1) e)) (sym one) (subst (λ (t : Tag). R (tag_at (get_or all k first)) t) (sym two) is)

  to-parts : (parts : List Part) → ((k : ℕ) (e : Tag) → k + 1 < length (tags_in parts) → R (get_or (tags_in parts) k e) (get_or (tags_in parts) (k + 1) e)) → (k : ℕ) (d : Part) → k + 1 < length parts → R (tag_at (get_or parts k d)) (tag_at (get_or parts (k + 1) d))
  to-parts parts h k d l =
      let same : map tag_at parts ≡ tags_in parts = mapped parts in
      let long : length (tags_in parts) ≡ length parts = ap (λ (ts : List Tag). length ts) (sym same) ∙ length-map parts tag_at in
      let one : get_or (tags_in parts) k (tag_at d) ≡ tag_at (get_or parts k d) = ap (λ (ts : List Tag). get_or ts k (tag_at d)) (sym same) ∙ get_or-map tag_at parts k d (tag_at d) (omega (arith, l)) in
      let two : get_or (tags_in parts) (k + 1) (tag_at d) ≡ tag_at (get_or parts (k + 1) d) = ap (λ (ts : List Tag). get_or ts (k + 1) (tag_at d)) (sym same) ∙ get_or-map tag_at parts (k + 1) d (tag_at d) l in
      subst (λ (t : Tag). R t (tag_at (get_or parts (k + 1) d))) one (subst (λ (t : Tag). R (get_or (tags_in parts) k (tag_at d)) t) two (h k (tag_at d) (omega (arith, long, l))))

abbrev pub PartsAscend : List Part → Type 0
PartsAscend parts = AllAdjacentBelow (λ part next. part_cmp part next ≡ Less) parts (length parts)

up-tags : (parts : List Part) → AreCut parts → PartsAscend parts → Ascend (tags_in parts)
up-tags parts cut up =
    to-tags (λ tag next. key_cmp tag next ≡ Less) parts
    (λ k d l. sym (same-cmp (get_or parts k d) (get_or parts (k + 1) d) (cut k d (omega (arith, l))) (cut (k + 1) d l)) ∙ up k d l)

up-parts : (parts : List Part) → AreCut parts → Ascend (tags_in parts) → PartsAscend parts
up-parts parts cut up = λ k d l.
    same-cmp (get_or parts k d) (get_or parts (k + 1) d) (cut k d (omega (arith, l))) (cut (k + 1) d l) ∙ to-parts (λ tag next. key_cmp tag next ≡ Less) parts up k d l

sorted-tags : (parts : List Part) → AreCut parts → IsSorted part_cmp parts → IsSorted key_cmp (tags_in parts)
sorted-tags parts cut sorted = λ k e low l.
    to-tags (λ tag next. is_lt (key_cmp next tag) ≡ false) parts
    (λ k d l. ap is_lt (sym (same-cmp (get_or parts (k + 1) d) (get_or parts k d) (cut (k + 1) d l) (cut k d (omega (arith, l))))) ∙ sorted k d (omega arith) l)
    k e l

-- parts in order ascend exactly where the keys of the tags differ
pub ascend-differ : (head : List ℕ) (parts : List Part) → IsPermutation (tag_parts head) (texts_of parts) → AreCut parts → IsSorted part_cmp parts → PartsAscend parts ↔ KeysDiffer (tags_of head)
ascend-differ head parts same cut sorted =
    let tags = IsPermutation-map (tag_of true) (tag_parts head) (texts_of parts) same in (
      λ up. differ_from_ascend (tags_of head) (tags_in parts) tags (up-tags parts cut up),
      λ differ. up-parts parts cut (ascend_from_differ key_cmp (λ a b less. less) (tags_of head) (tags_in parts) tags (sorted-tags parts cut sorted) differ),
    )

tags-joined : (texts : List (List ℕ)) → All SpellsTag texts → joined texts ≡ tags_text (map (tag_of true) texts)
tags-joined [] h = refl
tags-joined (text ∷ texts) h =
    let tag = tag_of true text in
    let spelled : List ℕ = escaped tag_ends_at tag.key ++ 61 ∷ escaped tag_ends_at tag.value in
    ap (λ (t : List ℕ). (44 ∷ t) ++ joined texts) (All-head SpellsTag text texts h) ∙ ap (λ (t : List ℕ). (44 ∷ spelled) ++ t) (tags-joined texts (All-tail SpellsTag text texts h))

-- the key of a head whose tags were put in order
pub sorted-key : (head measurement key : List ℕ) (ascend : Bool) (parts : List Part) → IsNamed head measurement ascend → All SpellsTag (tag_parts head) → IsPermutation (tag_parts head) (texts_of parts) → AreCut parts → PartsAscend parts
    → key ≡ measurement ++ joined (texts_of parts) → IsKeyOf (measurement_of head) (tags_of head) key × IsSeriesText key
sorted-key head measurement key ascend parts named spells same cut up e =
    let tags = IsPermutation-map (tag_of true) (tag_parts head) (texts_of parts) same in
    let text = e ∙ ap (λ (t : List ℕ). t ++ joined (texts_of parts)) named.measured ∙ ap (λ (t : List ℕ). measurement_text (measurement_of head) ++ t) (tags-joined (texts_of parts) (All-permutation SpellsTag (tag_parts head) (texts_of parts) same spells)) in
    let ascends = up-tags parts cut up in (
      record { sorted = tags_in parts; same = tags; ascend = ascends; spelled = text },
      record {
        measurement = measurement_of head;
        tags = tags_in parts;
        named = named.measurement_named;
        tags_named = All-permutation (λ (tag : Tag). IsName tag.key × IsName tag.value) (tags_of head) (tags_in parts) tags named.tags_named;
        ascend = ascends;
        spelled = text;
      },
    )

pub joined-utf8 : (parts : List Part) → All (λ part. IsUtf8 part.text.now) parts → IsUtf8 (joined (texts_of parts))
joined-utf8 [] h = IsUtf8-nil
joined-utf8 (part ∷ parts) h =
    IsUtf8-append (44 ∷ part.text.now) (joined (texts_of parts)) (IsUtf8-cons 44 part.text.now (lit< tt) (All-head (λ (p : Part). IsUtf8 p.text.now) part parts h))
    (joined-utf8 parts (All-tail (λ (p : Part). IsUtf8 p.text.now) part parts h))
