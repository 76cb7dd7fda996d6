-- The tags that are cut out of the text of a series are those that it was made of.
use Rattle.std.proofs.Common.{◌≡◌, ◌≢◌, ℕ, suc, ◌-◌, ◌≤◌, Bool, true, false, cond, not, ◌&&◌, eqb, ◌⊎◌, inl, inr, ⊎_elim, List, [], ◌∷◌, ◌++◌, length, get_or, map, refl, sym, ap, subst, ◌∙◌, arith}
use Rattle.std.proofs.lemmas.Bool.{false≢true, eqb-true}
use Rattle.std.proofs.lemmas.List.{append-nil, append_assoc}
use Rattle.std.specs.List.{onto_first, All}
use Rattle.std.specs.Str.{bytes_eq}
use Rattle.tsdb_types.specs.Names.{IsName}
use Rattle.tsdb_types.specs.Series.{escaped, measurement_ends_at, tag_ends_at, tags_text}
use Rattle.tsdb_types.specs.Spelled.{unescaped}
use Rattle.tsdb_types.specs.declared.tag.Tag.{Tag}
use Rattle.tsdb_types.proofs.SpelledLemmas.{unescaped-escaped}
use Rattle.point_model.specs.Measurements.{head_behind}
use Rattle.point_model.specs.Tags.{front, rest, behind, parts, parts_behind, tag_of, text_of, TagsAreRead}

decided : (b : Bool) → (b ≡ true) ⊎ (b ≡ false)
decided true = inl refl
decided false = inr refl

-- whether a backslash stands right before what follows the text
abbrev slashed : Bool → List ℕ → Bool
slashed slash [] = slash
slashed slash (byte ∷ text) = slashed (eqb byte 92) text

last-closed : (slash : Bool) (byte : ℕ) (text : List ℕ) → get_or (byte ∷ text) (length text) 0 ≢ 92 → slashed slash (byte ∷ text) ≡ false
last-closed slash byte [] h =
    ⊎_elim (λ (t : eqb byte 92 ≡ true). absurd (h (eqb-true byte 92 t))) (λ (f : eqb byte 92 ≡ false). f) (decided (eqb byte 92))
last-closed slash byte (next ∷ text) h = last-closed (eqb byte 92) next text h

-- a name ends with no backslash
name-closed : (name : List ℕ) → IsName name → slashed false name ≡ false
name-closed [] is = refl
name-closed (byte ∷ text) is =
    let e : length (byte ∷ text) - 1 ≡ length text = omega arith in
    last-closed false byte text (subst (λ (n : ℕ). get_or (byte ∷ text) n 0 ≢ 92) e is.closed)

and-false : (a : Bool) → (a && false) ≡ false
and-false true = refl
and-false false = refl

module _ (mark : ℕ) (picks : ℕ → Bool) (marked : picks mark ≡ true) (plain : picks 92 ≡ false) where
  not-mark : (byte : ℕ) → picks byte ≡ false → eqb byte mark ≡ false
  not-mark byte e =
      ⊎_elim
      (λ (t : eqb byte mark ≡ true). absurd (false≢true (sym e ∙ ap picks (eqb-true byte mark t) ∙ marked)))
      (λ (f : eqb byte mark ≡ false). f)
      (decided (eqb byte mark))

  -- an escaped name holds no mark
  pub pass-rest : (slash : Bool) (name behind : List ℕ) → rest mark slash (escaped picks name ++ behind) ≡ rest mark (slashed slash name) behind
  pass-rest slash [] behind = refl
  pass-rest slash (byte ∷ name) behind =
      let more = escaped picks name ++ behind in
      ⊎_elim
      (λ (e : picks byte ≡ true).
      ap (λ (t : Bool). rest mark slash (cond t (92 ∷ byte ∷ escaped picks name) (byte ∷ escaped picks name) ++ behind)) e
      ∙ ap (λ (t : Bool). cond (t && not slash) (92 ∷ byte ∷ more) (rest mark true (byte ∷ more))) (not-mark 92 plain)
      ∙ ap (λ (t : Bool). cond t (byte ∷ more) (rest mark (eqb byte 92) more)) (and-false (eqb byte mark))
      ∙ pass-rest (eqb byte 92) name behind)
      (λ (e : picks byte ≡ false).
      ap (λ (t : Bool). rest mark slash (cond t (92 ∷ byte ∷ escaped picks name) (byte ∷ escaped picks name) ++ behind)) e
      ∙ ap (λ (t : Bool). cond (t && not slash) (byte ∷ more) (rest mark (eqb byte 92) more)) (not-mark byte e)
      ∙ pass-rest (eqb byte 92) name behind)
      (decided (picks byte))

  pub pass-front : (slash : Bool) (name behind : List ℕ) → front mark slash (escaped picks name ++ behind) ≡ escaped picks name ++ front mark (slashed slash name) behind
  pass-front slash [] behind = refl
  pass-front slash (byte ∷ name) behind =
      let more = escaped picks name ++ behind in
      let end = front mark (slashed (eqb byte 92) name) behind in
      ⊎_elim
      (λ (e : picks byte ≡ true).
      ap (λ (t : Bool). front mark slash (cond t (92 ∷ byte ∷ escaped picks name) (byte ∷ escaped picks name) ++ behind)) e
      ∙ ap (λ (t : Bool). cond (t && not slash) [] (92 ∷ front mark true (byte ∷ more))) (not-mark 92 plain)
      ∙ ap (λ (t : Bool). 92 ∷ cond t [] (byte ∷ front mark (eqb byte 92) more)) (and-false (eqb byte mark))
      ∙ ap (λ (t : List ℕ). 92 ∷ byte ∷ t) (pass-front (eqb byte 92) name behind)
      ∙ sym (ap (λ (t : Bool). cond t (92 ∷ byte ∷ escaped picks name) (byte ∷ escaped picks name) ++ end) e))
      (λ (e : picks byte ≡ false).
      ap (λ (t : Bool). front mark slash (cond t (92 ∷ byte ∷ escaped picks name) (byte ∷ escaped picks name) ++ behind)) e
      ∙ ap (λ (t : Bool). cond (t && not slash) [] (byte ∷ front mark (eqb byte 92) more)) (not-mark byte e)
      ∙ ap (λ (t : List ℕ). byte ∷ t) (pass-front (eqb byte 92) name behind)
      ∙ sym (ap (λ (t : Bool). cond t (92 ∷ byte ∷ escaped picks name) (byte ∷ escaped picks name) ++ end) e))
      (decided (picks byte))

-- the same, of a name behind which none of its bytes escapes the next
pub over-rest : (mark : ℕ) (picks : ℕ → Bool) → picks mark ≡ true → picks 92 ≡ false → (name behind : List ℕ) → IsName name → rest mark false (escaped picks name ++ behind) ≡ rest mark false behind
over-rest mark picks marked plain name behind is =
    pass-rest mark picks marked plain false name behind ∙ ap (λ (s : Bool). rest mark s behind) (name-closed name is)

pub over-front : (mark : ℕ) (picks : ℕ → Bool) → picks mark ≡ true → picks 92 ≡ false → (name behind : List ℕ) → IsName name → front mark false (escaped picks name ++ behind) ≡ escaped picks name ++ front mark false behind
over-front mark picks marked plain name behind is =
    pass-front mark picks marked plain false name behind ∙ ap (λ (s : Bool). escaped picks name ++ front mark s behind) (name-closed name is)

-- the first part, and the parts behind its mark
parts-first : (mark : ℕ) (slash : Bool) (text : List ℕ) → parts mark slash text ≡ front mark slash text ∷ parts_behind mark (rest mark slash text)
parts-first mark slash [] = refl
parts-first mark slash (byte ∷ text) =
    let Whole : Bool → Type 0 = λ t. cond t ([] ∷ parts mark false text) (onto_first byte (parts mark (eqb byte 92) text)) ≡ cond t [] (byte ∷ front mark (eqb byte 92) text) ∷ parts_behind mark (cond t (byte ∷ text) (rest mark (eqb byte 92) text)) in
    ⊎_elim
    (λ (e : (eqb byte mark && not slash) ≡ true). subst Whole (sym e) refl)
    (λ (e : (eqb byte mark && not slash) ≡ false). subst Whole (sym e) (ap (λ (ps : List (List ℕ)). onto_first byte ps) (parts-first mark (eqb byte 92) text)))
    (decided (eqb byte mark && not slash))

pub parts-step : (left : List ℕ) (first : ℕ) (behind part after : List ℕ) → left ≡ first ∷ behind → part ≡ front 44 false behind → after ≡ rest 44 false behind → parts_behind 44 left ≡ part ∷ parts_behind 44 after
parts-step left first behind part after e p a =
    ap (λ (t : List ℕ). parts_behind 44 t) e
    ∙ parts-first 44 false behind
    ∙ ap (λ (t : List ℕ). t ∷ parts_behind 44 (rest 44 false behind)) (sym p)
    ∙ ap (λ (t : List ℕ). part ∷ parts_behind 44 t) (sym a)

pub rest-le : (mark : ℕ) (slash : Bool) (text : List ℕ) → length (rest mark slash text) ≤ length text
rest-le mark slash [] = omega arith
rest-le mark slash (byte ∷ text) =
    let behind = rest-le mark (eqb byte 92) text in
    let Less : Bool → Type 0 = λ t. length (cond t (byte ∷ text) (rest mark (eqb byte 92) text)) ≤ length (byte ∷ text) in
    ⊎_elim
    (λ (e : (eqb byte mark && not slash) ≡ true). subst Less (sym e) (omega arith))
    (λ (e : (eqb byte mark && not slash) ≡ false). subst Less (sym e) (omega (arith, behind)))
    (decided (eqb byte mark && not slash))

pub tags-rest : (tags : List Tag) → rest 44 false (tags_text tags) ≡ tags_text tags
tags-rest [] = refl
tags-rest (tag ∷ tags) = refl

pub tags-front : (tags : List Tag) → front 44 false (tags_text tags) ≡ []
tags-front [] = refl
tags-front (tag ∷ tags) = refl

abbrev pub tag_part : Tag → List ℕ
tag_part tag = escaped tag_ends_at tag.key ++ 61 ∷ escaped tag_ends_at tag.value

abbrev pub AreNamed : Tag → Type 0
AreNamed tag = IsName tag.key × IsName tag.value

-- the key, and what stands behind it
tags-shape : (tag : Tag) (tags : List Tag) → tags_text (tag ∷ tags) ≡ 44 ∷ (escaped tag_ends_at tag.key ++ 61 ∷ (escaped tag_ends_at tag.value ++ tags_text tags))
tags-shape tag tags = ap (λ (t : List ℕ). 44 ∷ t) (append_assoc (escaped tag_ends_at tag.key) (61 ∷ escaped tag_ends_at tag.value) (tags_text tags))

pub one-tag : (tag : Tag) (tags : List Tag) → AreNamed tag → parts_behind 44 (tags_text (tag ∷ tags)) ≡ tag_part tag ∷ parts_behind 44 (tags_text tags)
one-tag tag tags named =
    let key = escaped tag_ends_at tag.key in
    let value = escaped tag_ends_at tag.value in
    let behind = key ++ 61 ∷ (value ++ tags_text tags) in
    let first : front 44 false behind ≡ tag_part tag =
    over-front 44 tag_ends_at refl refl tag.key (61 ∷ (value ++ tags_text tags)) named.0
    ∙ ap (λ (t : List ℕ). key ++ 61 ∷ t) (over-front 44 tag_ends_at refl refl tag.value (tags_text tags) named.1 ∙ ap (λ (t : List ℕ). value ++ t) (tags-front tags) ∙ append-nil value)
    in
    let after : rest 44 false behind ≡ tags_text tags =
    over-rest 44 tag_ends_at refl refl tag.key (61 ∷ (value ++ tags_text tags)) named.0
    ∙ over-rest 44 tag_ends_at refl refl tag.value (tags_text tags) named.1
    ∙ tags-rest tags
    in
    parts-step (tags_text (tag ∷ tags)) 44 behind (tag_part tag) (tags_text tags) (tags-shape tag tags) (sym first) (sym after)

-- the key and the value that are cut out of a tag
pub key-of-part : (tag : Tag) → AreNamed tag → unescaped tag_ends_at (front 61 false (tag_part tag)) ≡ tag.key
key-of-part tag named =
    ap (λ (t : List ℕ). unescaped tag_ends_at t) (over-front 61 tag_ends_at refl refl tag.key (61 ∷ escaped tag_ends_at tag.value) named.0 ∙ append-nil (escaped tag_ends_at tag.key))
    ∙ unescaped-escaped tag_ends_at refl refl tag.key

value-of-part : (tag : Tag) → AreNamed tag → unescaped tag_ends_at (behind (rest 61 false (tag_part tag))) ≡ tag.value
value-of-part tag named =
    ap (λ (t : List ℕ). unescaped tag_ends_at (behind t)) (over-rest 61 tag_ends_at refl refl tag.key (61 ∷ escaped tag_ends_at tag.value) named.0)
    ∙ unescaped-escaped tag_ends_at refl refl tag.value

abbrev tag_with : List ℕ → List ℕ → Tag
tag_with key value = record { key = key; value = value }

tag-of-part : (tag : Tag) → AreNamed tag → tag_of (tag_part tag) ≡ tag
tag-of-part tag named =
    ap (λ (k : List ℕ). tag_with k (unescaped tag_ends_at (behind (rest 61 false (tag_part tag))))) (key-of-part tag named)
    ∙ ap (λ (v : List ℕ). tag_with tag.key v) (value-of-part tag named)

abbrev pub Named : List Tag → Type 0
Named tags = All (λ tag. IsName tag.key × IsName tag.value) tags

tags-behind : (tags : List Tag) → Named tags → map tag_of (parts_behind 44 (tags_text tags)) ≡ tags
tags-behind [] named = refl
tags-behind (tag ∷ tags) named =
    let first = named 0 tag (omega arith) in
    ap (λ (ps : List (List ℕ)). map tag_of ps) (one-tag tag tags first)
    ∙ ap (λ (t : Tag). t ∷ map tag_of (parts_behind 44 (tags_text tags))) (tag-of-part tag first)
    ∙ ap (λ (ts : List Tag). tag ∷ ts) (tags-behind tags (λ k d l. named (suc k) d (omega arith)))

pub tags-read : TagsAreRead
tags-read measurement tags named tags_named =
    ap (λ (t : List ℕ). map tag_of (parts_behind 44 t)) (over-rest 44 measurement_ends_at refl refl measurement (tags_text tags) named ∙ tags-rest tags)
    ∙ tags-behind tags tags_named

-- the tag that stands first is looked at, and then those behind it
pub text-step : (key left : List ℕ) (first : ℕ) (more part after spelled : List ℕ) (is : Bool) → left ≡ first ∷ more → part ≡ front 44 false more → after ≡ rest 44 false more
    → spelled ≡ front 61 false part → is ≡ bytes_eq (unescaped tag_ends_at spelled) key
    → text_of key (map tag_of (parts_behind 44 left)) ≡ cond is (unescaped tag_ends_at (behind (rest 61 false part))) (text_of key (map tag_of (parts_behind 44 after)))
text-step key left first more part after spelled is e p a s t =
    let others = text_of key (map tag_of (parts_behind 44 after)) in
    ap (λ (ps : List (List ℕ)). text_of key (map tag_of ps)) (parts-step left first more part after e p a)
    ∙ ap (λ (b : Bool). cond b (unescaped tag_ends_at (behind (rest 61 false part))) others)
    (sym (t ∙ ap (λ (k : List ℕ). bytes_eq (unescaped tag_ends_at k) key) s))

-- the measurement ends before the first comma that isn't escaped
pub front-head : (slash : Bool) (text : List ℕ) → front 44 slash text ≡ head_behind slash text
front-head slash [] = refl
front-head slash (byte ∷ text) = ap (λ (t : List ℕ). cond (eqb byte 44 && not slash) [] (byte ∷ t)) (front-head (eqb byte 92) text)
