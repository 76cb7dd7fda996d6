use Rattle.std.proofs.Common.{◌≡◌, ℕ, suc, ◌+◌, ◌<◌, ◌≤◌, Bool, true, false, cond, ◌&&◌, ◌⊎◌, inl, inr, ⊎_elim, List, [], ◌∷◌, ◌++◌, length, get_or, drop, refl, sym, ap, subst, ◌∙◌, lit<, arith}
use Rattle.std.proofs.lemmas.Bool.{cases_lt, false≢true}
use Rattle.std.proofs.lemmas.Bool.Decides.{nat_tests}
use Rattle.std.proofs.lemmas.List.{append-nil, append_assoc, at_drop_more}
use Rattle.std.proofs.lemmas.Str.{IsUtf8-append, IsUtf8-nil, IsUtf8-encode, IsUtf8-from_ascii, encode_ascii, inside_one}
use Rattle.std.proofs.lemmas.Str.Ascii.{IsAscii-nil, IsAscii-cons}
use Rattle.std.proofs.Math.Utf8.{encode, encodes, scalar, scalars}
use Rattle.std.specs.Str.{IsUtf8}
use Rattle.tsdb_types.specs.Series.{escaped, measurement_ends_at, measurement_text, tag_ends_at, tags_text}
use Rattle.tsdb_types.specs.declared.tag.Tag.{Tag}

pub decided : (b : Bool) → (b ≡ true) ⊎ (b ≡ false)
decided true = inl refl
decided false = inr refl

both-first : (a b : Bool) → (a && b) ≡ true → a ≡ true
both-first true b e = refl
both-first false b e = absurd (false≢true e)

both-second : (a b : Bool) → (a && b) ≡ true → b ≡ true
both-second true b e = e
both-second false b e = absurd (false≢true e)

pub escaped-picked : (picks : ℕ → Bool) (b : ℕ) (text : List ℕ) → picks b ≡ true → escaped picks (b ∷ text) ≡ 92 ∷ b ∷ escaped picks text
escaped-picked picks b text e = ap (λ (t : Bool). cond t (92 ∷ b ∷ escaped picks text) (b ∷ escaped picks text)) e

pub escaped-left : (picks : ℕ → Bool) (b : ℕ) (text : List ℕ) → picks b ≡ false → escaped picks (b ∷ text) ≡ b ∷ escaped picks text
escaped-left picks b text e = ap (λ (t : Bool). cond t (92 ∷ b ∷ escaped picks text) (b ∷ escaped picks text)) e

pub escaped-append : (picks : ℕ → Bool) (xs ys : List ℕ) → escaped picks (xs ++ ys) ≡ escaped picks xs ++ escaped picks ys
escaped-append picks [] ys = refl
escaped-append picks (x ∷ xs) ys =
    ⊎_elim
    (λ (e : picks x ≡ true). escaped-picked picks x (xs ++ ys) e ∙ ap (λ (t : List ℕ). 92 ∷ x ∷ t) (escaped-append picks xs ys) ∙ ap (λ (t : List ℕ). t ++ escaped picks ys) (sym (escaped-picked picks x xs e)))
    (λ (e : picks x ≡ false). escaped-left picks x (xs ++ ys) e ∙ ap (λ (t : List ℕ). x ∷ t) (escaped-append picks xs ys) ∙ ap (λ (t : List ℕ). t ++ escaped picks ys) (sym (escaped-left picks x xs e)))
    (decided (picks x))

-- a text of which no byte is picked is written as it is
escaped-same : (picks : ℕ → Bool) (xs : List ℕ) → ((k : ℕ) → k < length xs → picks (get_or xs k 0) ≡ false) → escaped picks xs ≡ xs
escaped-same picks [] h = refl
escaped-same picks (x ∷ xs) h =
    escaped-left picks x xs (h 0 (omega arith)) ∙ ap (λ (t : List ℕ). x ∷ t) (escaped-same picks xs (λ k l. h (suc k) (omega arith)))

IsUtf8-one : (c : ℕ) → c < 128 → IsUtf8 (c ∷ [])
IsUtf8-one c l = IsUtf8-from_ascii (c ∷ []) (IsAscii-cons c [] l IsAscii-nil)

-- a byte below 128 and a text
pub IsUtf8-cons : (c : ℕ) (text : List ℕ) → c < 128 → IsUtf8 text → IsUtf8 (c ∷ text)
IsUtf8-cons c text l u = IsUtf8-append (c ∷ []) text (IsUtf8-one c l) u

module _ (picks : ℕ → Bool) (below : (b : ℕ) → picks b ≡ true → b < 128) where
  escaped-low : (c : ℕ) → c < 128 → IsUtf8 (escaped picks (encode c))
  escaped-low c l =
      let P : List ℕ → Type 0 = λ t. IsUtf8 (escaped picks t) in
      let Q : List ℕ → Type 0 = λ t. IsUtf8 t in
      subst P (sym (encode_ascii c l))
      (⊎_elim
      (λ (e : picks c ≡ true). subst Q (sym (escaped-picked picks c [] e)) (IsUtf8-cons 92 (c ∷ []) (lit< tt) (IsUtf8-one c l)))
      (λ (e : picks c ≡ false). subst Q (sym (escaped-left picks c [] e)) (IsUtf8-one c l))
      (decided (picks c)))

  high-left : (c : ℕ) → 128 ≤ c → (k : ℕ) → k < length (encode c) → picks (get_or (encode c) k 0) ≡ false
  high-left c high k l =
      ⊎_elim
      (λ (e : picks (get_or (encode c) k 0) ≡ true).
      let low = below (get_or (encode c) k 0) e in
      let same = inside_one c [] (encode c) k (sym (append-nil (encode c))) l low in
      absurd (omega (arith, same, low, high)))
      (λ (e : picks (get_or (encode c) k 0) ≡ false). e)
      (decided (picks (get_or (encode c) k 0)))

  escaped-char : (c : ℕ) → scalar c ≡ true → IsUtf8 (escaped picks (encode c))
  escaped-char c s =
      let Q : List ℕ → Type 0 = λ t. IsUtf8 t in
      ⊎_elim
      (λ (l : c < 128). escaped-low c l)
      (λ (h : 128 ≤ c). subst Q (sym (escaped-same picks (encode c) (high-left c h))) (IsUtf8-encode c s))
      (cases_lt c 128)

  escaped-encodes : (cs : List ℕ) → scalars cs ≡ true → IsUtf8 (escaped picks (encodes cs))
  escaped-encodes [] s = IsUtf8-nil
  escaped-encodes (c ∷ cs) s =
      let Q : List ℕ → Type 0 = λ t. IsUtf8 t in
      subst Q (sym (escaped-append picks (encode c) (encodes cs)))
      (IsUtf8-append (escaped picks (encode c)) (escaped picks (encodes cs)) (escaped-char c (both-first (scalar c) (scalars cs) s)) (escaped-encodes cs (both-second (scalar c) (scalars cs) s)))

  -- backslashes before bytes below 128 leave a text a text
  pub escaped-IsUtf8 : (text : List ℕ) → IsUtf8 text → IsUtf8 (escaped picks text)
  escaped-IsUtf8 text u =
      let P : List ℕ → Type 0 = λ t. IsUtf8 (escaped picks t) in
      subst P u.1.1 (escaped-encodes u.0 u.1.0)

ends-low : (b : ℕ) → tag_ends_at b ≡ true → b < 128
ends-low b e = grind (arith, nat_tests)

-- the text of a tag is a text
pub IsUtf8-tag : (tag : Tag) → IsUtf8 tag.key → IsUtf8 tag.value → IsUtf8 (tags_text (tag ∷ []))
IsUtf8-tag tag key value =
    IsUtf8-append (44 ∷ escaped tag_ends_at tag.key ++ 61 ∷ escaped tag_ends_at tag.value) []
    (IsUtf8-append (44 ∷ escaped tag_ends_at tag.key) (61 ∷ escaped tag_ends_at tag.value)
    (IsUtf8-cons 44 (escaped tag_ends_at tag.key) (lit< tt) (escaped-IsUtf8 tag_ends_at ends-low tag.key key))
    (IsUtf8-cons 61 (escaped tag_ends_at tag.value) (lit< tt) (escaped-IsUtf8 tag_ends_at ends-low tag.value value)))
    IsUtf8-nil

measurement-low : (b : ℕ) → measurement_ends_at b ≡ true → b < 128
measurement-low b e = grind (arith, nat_tests)

-- the text of a measurement is a text
pub IsUtf8-measurement : (measurement : List ℕ) → IsUtf8 measurement → IsUtf8 (measurement_text measurement)
IsUtf8-measurement measurement named = escaped-IsUtf8 measurement_ends_at measurement-low measurement named

tags_text-cons : (tag : Tag) (tags : List Tag) → tags_text (tag ∷ tags) ≡ tags_text (tag ∷ []) ++ tags_text tags
tags_text-cons tag tags = ap (λ (t : List ℕ). t ++ tags_text tags) (sym (append-nil (44 ∷ escaped tag_ends_at tag.key ++ 61 ∷ escaped tag_ends_at tag.value)))

-- one more tag is written, one fewer is left
pub tags_text-step : (old new : List ℕ) (tags : List Tag) (i : ℕ) (tag : Tag) → i < length tags → tag ≡ get_or tags i tag → new ≡ old ++ tags_text (tag ∷ []) → new ++ tags_text (drop (i + 1) tags) ≡ old ++ tags_text (drop i tags)
tags_text-step old new tags i tag l is e =
    let left = drop (i + 1) tags in
    let one : tags_text (drop i tags) ≡ tags_text (tag ∷ []) ++ tags_text left = at_drop_more tags_text tags i tag l ∙ ap (λ (t : Tag). tags_text (t ∷ left)) (sym is) ∙ tags_text-cons tag left in
    ap (λ (t : List ℕ). t ++ tags_text left) e ∙ append_assoc old (tags_text (tag ∷ [])) (tags_text left) ∙ ap (λ (t : List ℕ). old ++ t) (sym one)
