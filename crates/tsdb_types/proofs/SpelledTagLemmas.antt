use Rattle.std.proofs.Common.{◌≡◌, ℕ, zero, suc, ◌+◌, ◌<◌, false, eqb, Option, Some, None, List, [], ◌∷◌, ◌++◌, length, get_or, drop, refl, sym, ap, subst, ◌∙◌, arith}
use Rattle.std.specs.Prelude.{IfNone, ◌↔◌}
use Rattle.std.specs.declared.cmp.Ordering.TheVariants.{Less}
use Rattle.std.specs.Ordering.{nat_cmp}
use Rattle.std.specs.Cmp.Lexicographic.{slice_cmp}
use Rattle.std.proofs.lemmas.Bool.Decides.{nat_tests}
use Rattle.std.proofs.lemmas.List.{append-nil, append_assoc}
use Rattle.tsdb_types.specs.Names.{IsName}
use Rattle.tsdb_types.specs.Series.{escaped, measurement_ends_at, tag_ends_at, tags_text, Ascend, IsSeriesText}
use Rattle.tsdb_types.specs.Spelled.{unescaped, EndsName, IsNameFirst, IsTagFirst, IsTagsText}
use Rattle.tsdb_types.specs.declared.tag.Tag.{Tag}
use Rattle.tsdb_types.proofs.ReadingLemmas.{Named, named-first, named-rest, tags_text-shape, tags-stop, measurement-stops, nil≢cons, one_name}
use Rattle.tsdb_types.proofs.SpelledLemmas.{unescaped-escaped}

-- what holds may be said of an answer that tells nothing
pub if-none : {X P : Type 0} (r : Option X) → P → IfNone r P
if-none (Some x) p = tt
if-none None p = p

behind-first : (b c : ℕ) (text other : List ℕ) → b ∷ text ≡ c ∷ other → text ≡ other
behind-first b c text other e = ap (λ (t : List ℕ). drop 1 t) e

-- a tag before a text
tag-behind : (tag : Tag) (rest : List ℕ) → tags_text (tag ∷ []) ++ rest ≡ 44 ∷ (escaped tag_ends_at tag.key ++ 61 ∷ (escaped tag_ends_at tag.value ++ rest))
tag-behind tag rest =
    let k = escaped tag_ends_at tag.key in
    let v = escaped tag_ends_at tag.value in
    ap (λ (t : List ℕ). t ++ rest) (tags_text-shape tag [])
    ∙ ap (λ (t : List ℕ). 44 ∷ t) (append_assoc k (61 ∷ (v ++ [])) rest)
    ∙ ap (λ (t : List ℕ). 44 ∷ (k ++ 61 ∷ (t ++ rest))) (append-nil v)

abbrev tag_with : List ℕ → List ℕ → Tag
tag_with key value = record { key = key; value = value }

-- a comma, a name, an equals sign and a name are a tag
pub tag-made : (text behind key at after value rest : List ℕ) → text ≡ 44 ∷ behind → IsNameFirst tag_ends_at key at behind → at ≡ 61 ∷ after → IsNameFirst tag_ends_at value rest after → IsTagFirst key rest text
tag-made text behind key at after value rest comma first equals second = record {
  tag = tag_with first.name second.name;
  named = (first.named, second.named);
  spelling = first.spelling;
  whole =
      comma
      ∙ ap (λ (t : List ℕ). 44 ∷ t) first.whole
      ∙ ap (λ (t : List ℕ). 44 ∷ (key ++ t)) (equals ∙ ap (λ (t : List ℕ). 61 ∷ t) second.whole)
      ∙ ap (λ (t : List ℕ). 44 ∷ (t ++ 61 ∷ (value ++ rest))) first.spelling
      ∙ ap (λ (t : List ℕ). 44 ∷ (escaped tag_ends_at first.name ++ 61 ∷ (t ++ rest))) second.spelling
      ∙ sym (tag-behind (tag_with first.name second.name) rest);
  ends = second.ends;
}

-- behind the key of a tag stand an equals sign, the value and the other tags
key-told : (text behind key at : List ℕ) → text ≡ 44 ∷ behind → IsNameFirst tag_ends_at key at behind → (tag : Tag) (tags : List Tag) → IsName tag.key → text ≡ tags_text (tag ∷ tags)
    → (first : Unit {0}) → at ≡ 61 ∷ (escaped tag_ends_at tag.value ++ tags_text tags)
key-told text behind key at comma first tag tags named e _ =
    let whole : behind ≡ escaped tag_ends_at tag.key ++ 61 ∷ (escaped tag_ends_at tag.value ++ tags_text tags) = behind-first 44 44 _ _ (sym comma ∙ e ∙ tags_text-shape tag tags) in
    let same : escaped tag_ends_at first.name ++ at ≡ escaped tag_ends_at tag.key ++ 61 ∷ (escaped tag_ends_at tag.value ++ tags_text tags) =
    ap (λ (t : List ℕ). t ++ at) (sym first.spelling) ∙ sym first.whole ∙ whole in
    (one_name tag_ends_at refl first.name tag.key at (61 ∷ (escaped tag_ends_at tag.value ++ tags_text tags)) first.named.closed named.closed first.ends refl same).1

pub no-equals : (text behind key at : List ℕ) → text ≡ 44 ∷ behind → IsNameFirst tag_ends_at key at behind → ((after : List ℕ) → at ≡ 61 ∷ after → ⊥)
    → (tag : Tag) (tags : List Tag) → IsName tag.key → IsName tag.value → text ≡ tags_text (tag ∷ tags) → ⊥
no-equals text behind key at comma first none tag tags named value e = none _ (key-told text behind key at comma first tag tags named e tt)

pub no-value : (text behind key at after : List ℕ) → text ≡ 44 ∷ behind → IsNameFirst tag_ends_at key at behind → at ≡ 61 ∷ after
    → ((name rest : List ℕ) → IsName name → EndsName tag_ends_at rest → after ≡ escaped tag_ends_at name ++ rest → ⊥)
    → (tag : Tag) (tags : List Tag) → IsName tag.key → IsName tag.value → text ≡ tags_text (tag ∷ tags) → ⊥
no-value text behind key at after comma first equals none tag tags named value e =
    none tag.value (tags_text tags) value (tags-stop tags) (behind-first 61 61 _ _ (sym equals ∙ key-told text behind key at comma first tag tags named e tt))

-- the keys of tags behind a last one ascend from that
abbrev pub Follow : List ℕ → List Tag → Type 0
Follow last [] = Unit {0}
Follow last (tag ∷ tags) = (slice_cmp nat_cmp last tag.key ≡ Less) × Follow tag.key tags

-- a text is tags with keys above the last one
pub record TagsBehind (last text : List ℕ) : Type 0 where
  pub tags : List Tag
  pub named : Named tags
  pub follow : Follow last tags
  pub spelled : text ≡ tags_text tags

below-more : (tag : Tag) (tags : List Tag) (k : ℕ) (d : Tag) → slice_cmp nat_cmp (get_or tags k d).key (get_or tags (k + 1) d).key ≡ Less
    → slice_cmp nat_cmp (get_or (tag ∷ tags) (suc k) d).key (get_or (tag ∷ tags) (suc k + 1) d).key ≡ Less
below-more tag tags k d is =
    let e : suc (k + 1) ≡ suc k + 1 = omega arith in
    subst (λ (n : ℕ). slice_cmp nat_cmp (get_or tags k d).key (get_or (tag ∷ tags) n d).key ≡ Less) e is

below-fewer : (tag : Tag) (tags : List Tag) (k : ℕ) (d : Tag) → slice_cmp nat_cmp (get_or (tag ∷ tags) (suc k) d).key (get_or (tag ∷ tags) (suc k + 1) d).key ≡ Less
    → slice_cmp nat_cmp (get_or tags k d).key (get_or tags (k + 1) d).key ≡ Less
below-fewer tag tags k d is =
    let e : suc k + 1 ≡ suc (k + 1) = omega arith in
    subst (λ (n : ℕ). slice_cmp nat_cmp (get_or tags k d).key (get_or (tag ∷ tags) n d).key ≡ Less) e is

ascend-rest : (tag : Tag) (tags : List Tag) → Ascend (tag ∷ tags) → Ascend tags
ascend-rest tag tags up = λ k d l. below-fewer tag tags k d (up (suc k) d (omega arith))

pub ascend-cons : (tag next : Tag) (tags : List Tag) → slice_cmp nat_cmp tag.key next.key ≡ Less → Ascend (next ∷ tags) → Ascend (tag ∷ next ∷ tags)
ascend-cons tag next tags less up zero d l = less
ascend-cons tag next tags less up (suc k) d l = below-more tag (next ∷ tags) k d (up k d (omega arith))

-- such tags ascend
pub follow-ascend : (last : List ℕ) (tags : List Tag) → Follow last tags → Ascend tags
follow-ascend last [] f = λ k d l. absurd (omega arith)
follow-ascend last (tag ∷ []) f = λ k d l. absurd (omega arith)
follow-ascend last (tag ∷ next ∷ tags) f = ascend-cons tag next tags f.1.0 (follow-ascend tag.key (next ∷ tags) f.1)

pub ascend-follow : (tag : Tag) (tags : List Tag) → Ascend (tag ∷ tags) → Follow tag.key tags
ascend-follow tag [] up = tt
ascend-follow tag (next ∷ tags) up = (up 0 tag (omega arith), ascend-follow next tags (ascend-rest tag (next ∷ tags) up))

above-nothing : (name : List ℕ) → IsName name → slice_cmp nat_cmp [] name ≡ Less
above-nothing [] named = absurd (omega (arith, named.not_empty))
above-nothing (b ∷ name) named = refl

all-follow : (tags : List Tag) → Named tags → Ascend tags → Follow [] tags
all-follow [] named up = tt
all-follow (tag ∷ tags) named up = (above-nothing tag.key (named-first tag tags named).0, ascend-follow tag tags up)

-- all tags stand behind no last one
pub tags-begin : (text : List ℕ) → IsTagsText text ↔ TagsBehind (unescaped tag_ends_at []) text
tags-begin text = (
  λ is. record { tags = is.tags; named = is.named; follow = all-follow is.tags is.named is.ascend; spelled = is.spelled },
  λ is. record { tags = is.tags; named = is.named; ascend = follow-ascend [] is.tags is.follow; spelled = is.spelled },
)

-- where nothing is left, no tag is
pub tags-end : (last : List ℕ) → TagsBehind last []
tags-end last = record { tags = []; named = λ k d l. absurd (omega arith); follow = tt; spelled = refl }

-- the tags of a text that begins with a tag
record Next (tag : Tag) (rest : List ℕ) (tags : List Tag) : Type 0 where
  pub others : List Tag
  pub same : tags ≡ tag ∷ others
  pub spelled : rest ≡ tags_text others

some-tag : (tag : Tag) (rest : List ℕ) → tags_text (tag ∷ []) ++ rest ≡ [] → ⊥
some-tag tag rest e = nil≢cons _ _ (sym e ∙ tag-behind tag rest)

next-tag : (tag : Tag) (rest : List ℕ) (tags : List Tag) → IsName tag.key → IsName tag.value → EndsName tag_ends_at rest → Named tags → tags_text (tag ∷ []) ++ rest ≡ tags_text tags → Next tag rest tags
next-tag tag rest [] key value ends named e = absurd (some-tag tag rest e)
next-tag tag rest (first ∷ others) key value ends named e =
    let is = named-first first others named in
    let same = sym (tag-behind tag rest) ∙ e ∙ tags_text-shape first others in
    let keys = one_name tag_ends_at refl tag.key first.key (61 ∷ (escaped tag_ends_at tag.value ++ rest)) (61 ∷ (escaped tag_ends_at first.value ++ tags_text others)) key.closed is.0.closed refl refl
    (behind-first 44 44 _ _ same) in
    let values = one_name tag_ends_at refl tag.value first.value rest (tags_text others) value.closed is.1.closed ends (tags-stop others) (behind-first 61 61 _ _ keys.1) in
    record {
      others = others;
      same = sym (ap (λ (k : List ℕ). tag_with k tag.value ∷ others) keys.0 ∙ ap (λ (v : List ℕ). tag_with first.key v ∷ others) values.0);
      spelled = values.1;
    }

pub named-cons : (tag : Tag) (tags : List Tag) → IsName tag.key × IsName tag.value → Named tags → Named (tag ∷ tags)
named-cons tag tags is named zero d l = is
named-cons tag tags is named (suc k) d l = named k d (omega arith)

key-of : (spelled : List ℕ) (tag : Tag) → spelled ≡ escaped tag_ends_at tag.key → unescaped tag_ends_at spelled ≡ tag.key
key-of spelled tag e = ap (λ (t : List ℕ). unescaped tag_ends_at t) e ∙ unescaped-escaped tag_ends_at refl refl tag.key

-- a tag with a key above the last one, and the tags behind it
pub tags-next : (last text key rest : List ℕ) → IsTagFirst key rest text → slice_cmp nat_cmp last (unescaped tag_ends_at key) ≡ Less → TagsBehind last text ↔ TagsBehind (unescaped tag_ends_at key) rest
tags-next last text key rest first less =
    let is : unescaped tag_ends_at key ≡ first.tag.key = key-of key first.tag first.spelling in (
      λ all.
          let next = next-tag first.tag rest all.tags first.named.0 first.named.1 first.ends all.named (sym first.whole ∙ all.spelled) in
          let follow : Follow last (first.tag ∷ next.others) = subst (λ (ts : List Tag). Follow last ts) next.same all.follow in
          record {
            tags = next.others;
            named = named-rest first.tag next.others (subst Named next.same all.named);
            follow = subst (λ (k : List ℕ). Follow k next.others) (sym is) follow.1;
            spelled = next.spelled;
          },
      λ behind. record {
        tags = first.tag ∷ behind.tags;
        named = named-cons first.tag behind.tags first.named behind.named;
        follow = (subst (λ (k : List ℕ). slice_cmp nat_cmp last k ≡ Less) is less, subst (λ (k : List ℕ). Follow k behind.tags) is behind.follow);
        spelled = first.whole ∙ ap (λ (t : List ℕ). tags_text (first.tag ∷ []) ++ t) behind.spelled ∙ tag-behind first.tag (tags_text behind.tags) ∙ sym (tags_text-shape first.tag behind.tags);
      },
    )

-- no tags go on where a key isn't above the last one
pub not-above : (last text key rest : List ℕ) → IsTagFirst key rest text → ¬ (slice_cmp nat_cmp last (unescaped tag_ends_at key) ≡ Less) → TagsBehind last text → ⊥
not-above last text key rest first other all =
    let next = next-tag first.tag rest all.tags first.named.0 first.named.1 first.ends all.named (sym first.whole ∙ all.spelled) in
    let follow : Follow last (first.tag ∷ next.others) = subst (λ (ts : List Tag). Follow last ts) next.same all.follow in
    other (ap (λ (k : List ℕ). slice_cmp nat_cmp last k) (key-of key first.tag first.spelling) ∙ follow.0)

no-tags : (text : List ℕ) (tags : List Tag) → 0 < length text → Named tags → ((tag : Tag) (tags : List Tag) → IsName tag.key → IsName tag.value → text ≡ tags_text (tag ∷ tags) → ⊥) → text ≡ tags_text tags → ⊥
no-tags text [] some named none e = omega (arith, ap (λ (t : List ℕ). length t) e, some)
no-tags text (tag ∷ tags) some named none e = let is = named-first tag tags named in none tag tags is.0 is.1 e

-- nor where no tag is next
pub none-next : (last text : List ℕ) → 0 < length text → ((tag : Tag) (tags : List Tag) → IsName tag.key → IsName tag.value → text ≡ tags_text (tag ∷ tags) → ⊥) → TagsBehind last text → ⊥
none-next last text some none all = no-tags text all.tags some all.named none all.spelled

-- a measurement and the tags behind it
pub series-text : (text measurement tags : List ℕ) → IsNameFirst measurement_ends_at measurement tags text → IsTagsText tags ↔ IsSeriesText text
series-text text measurement tags first = (
  λ is. record {
    measurement = first.name;
    tags = is.tags;
    named = first.named;
    tags_named = is.named;
    ascend = is.ascend;
    spelled = first.whole ∙ ap (λ (t : List ℕ). t ++ tags) first.spelling ∙ ap (λ (t : List ℕ). escaped measurement_ends_at first.name ++ t) is.spelled;
  },
  λ is.
      let both = one_name measurement_ends_at refl first.name is.measurement tags (tags_text is.tags) first.named.closed is.named.closed first.ends (measurement-stops is.tags)
      (ap (λ (t : List ℕ). t ++ tags) (sym first.spelling) ∙ sym first.whole ∙ is.spelled) in
      record { tags = is.tags; named = is.tags_named; ascend = is.ascend; spelled = both.1 },
)

pub no-series : (text : List ℕ) → ((name rest : List ℕ) → IsName name → EndsName measurement_ends_at rest → text ≡ escaped measurement_ends_at name ++ rest → ⊥) → IsSeriesText text → ⊥
no-series text none is = none is.measurement (tags_text is.tags) is.named (measurement-stops is.tags) is.spelled

pub some-left : (text : List ℕ) → eqb (length text) 0 ≡ false → 0 < length text
some-left text e = grind (arith, nat_tests)
