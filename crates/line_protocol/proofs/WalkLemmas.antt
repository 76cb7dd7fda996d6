use Rattle.std.proofs.Common.{◌≡◌, ◌≢◌, ℕ, Bool, true, false, not, ◌&&◌, ◌||◌, eqb, List, [], ◌∷◌, ◌++◌, length, refl, sym, ap, subst, ◌∙◌, arith}
use Rattle.std.proofs.lemmas.Bool.{false≢true}
use Rattle.std.proofs.lemmas.Bool.Decides.{nat_tests}
use Rattle.std.proofs.lemmas.List.{append-nil}
use Rattle.std.specs.List.{All}
use Rattle.tsdb_types.specs.Series.{escaped, measurement_ends_at, tag_ends_at}
use Rattle.tsdb_types.specs.Spelled.{unescaped, EndsName}
use Rattle.line_protocol.specs.Names.{key_part, value_part, behind_first, is_tag}
use Rattle.line_protocol.specs.Parts.{front, rest, parts, parts_behind}
use Rattle.line_protocol.specs.Tokens.{front_where, rest_where, part_at, parts_at, starts_with, IsTagAt}
use Rattle.line_protocol.proofs.PartLemmas.{parts-first}
use Rattle.line_protocol.proofs.TokenLemmas.{mark_of, front-both, rest-both, front-nested, rest-nested, rest-ends, ended-front, ended-rest, measurement-union, tag-union, measurement-within, space-within, space-measurement, tag-end, front-spelled}

part-where : (text : List ℕ) → part_at text ≡ front_where measurement_ends_at false text
part-where text = front-nested (mark_of 44) (mark_of 32) measurement_ends_at measurement-union false text

pub key-where : (text : List ℕ) → key_part (part_at text) ≡ front_where tag_ends_at false text
key-where text = ap (λ (t : List ℕ). front 61 false t) (part-where text) ∙ front-nested (mark_of 61) measurement_ends_at tag_ends_at tag-union false text

or-self : (a b : Bool) → (b ≡ true → a ≡ true) → a ≡ (a || b)
or-self true b h = refl
or-self false true h = h refl
or-self false false h = refl

-- the key of a field is spelled as it stands
pub key-escapes : (text : List ℕ) → All (λ byte. byte ≢ 10) (part_at text) → key_part (part_at text) ≡ escaped tag_ends_at (unescaped tag_ends_at (key_part (part_at text)))
key-escapes text unbroken =
    let part = part_at text in
    let key : key_part part ≡ front_where tag_ends_at false part =
    key-where text
    ∙ sym (ap (λ (t : List ℕ). front_where tag_ends_at false t) (part-where text) ∙ front-nested tag_ends_at measurement_ends_at tag_ends_at (λ b. or-self (tag_ends_at b) (measurement_ends_at b) (measurement-within b)) false text)
    in
    subst (λ (t : List ℕ). t ≡ escaped tag_ends_at (unescaped tag_ends_at t)) (sym key) (sym (front-spelled tag_ends_at refl refl part unbroken))

pub equals-where : (text : List ℕ) → rest 61 false (part_at text) ≡ front_where measurement_ends_at false (rest_where tag_ends_at false text)
equals-where text = ap (λ (t : List ℕ). rest 61 false t) (part-where text) ∙ rest-nested (mark_of 61) measurement_ends_at tag_ends_at tag-union false text

-- the value of a part with an equals sign behind its key
value-where : (text behind : List ℕ) → rest_where tag_ends_at false text ≡ 61 ∷ behind → value_part (part_at text) ≡ front_where measurement_ends_at false behind
value-where text behind e = ap (λ (t : List ℕ). behind_first t) (equals-where text ∙ ap (λ (t : List ℕ). front_where measurement_ends_at false t) e)

-- in that value: up to its own end, and on from there
value-parts : (behind : List ℕ) → front_where measurement_ends_at false behind ≡ front_where tag_ends_at false behind ++ front_where measurement_ends_at false (rest_where tag_ends_at false behind)
value-parts behind = front-both measurement_ends_at tag_ends_at measurement-within false behind

second-equals : (behind : List ℕ) → rest 61 false (front_where measurement_ends_at false behind) ≡ front_where measurement_ends_at false (rest_where tag_ends_at false behind)
second-equals behind = rest-nested (mark_of 61) measurement_ends_at tag_ends_at tag-union false behind

abbrev test_of : List ℕ → List ℕ → List ℕ → Bool
test_of key value more = not (eqb (length key) 0) && (not (eqb (length value) 0) && eqb (length more) 0)

-- whether the part is a tag, by its tokens
tag-test : (text key behind value left : List ℕ) → key ≡ front_where tag_ends_at false text → rest_where tag_ends_at false text ≡ 61 ∷ behind → value ≡ front_where tag_ends_at false behind → left ≡ rest_where tag_ends_at false behind
    → is_tag (part_at text) ≡ test_of key (value ++ front_where measurement_ends_at false left) (front_where measurement_ends_at false left)
tag-test text key behind value left k e v l =
    let more = front_where measurement_ends_at false left in
    let whole : value_part (part_at text) ≡ value ++ more =
    value-where text behind e ∙ value-parts behind ∙ ap (λ (t : List ℕ). t ++ front_where measurement_ends_at false (rest_where tag_ends_at false behind)) (sym v) ∙ ap (λ (t : List ℕ). value ++ front_where measurement_ends_at false t) (sym l) in
    let second : rest 61 false (value_part (part_at text)) ≡ more =
    ap (λ (t : List ℕ). rest 61 false t) (value-where text behind e) ∙ second-equals behind ∙ ap (λ (t : List ℕ). front_where measurement_ends_at false t) (sym l) in
    ap (λ (t : List ℕ). test_of t (value_part (part_at text)) (rest 61 false (value_part (part_at text)))) (key-where text ∙ sym k)
    ∙ ap (λ (t : List ℕ). test_of key (value_part (part_at text)) t) second
    ∙ ap (λ (t : List ℕ). test_of key t more) whole

some-bytes : (text : List ℕ) → text ≢ [] → eqb (length text) 0 ≡ false
some-bytes [] h = absurd (h refl)
some-bytes (b ∷ text) h = grind (arith, nat_tests)

pub record TagStep (text key left : List ℕ) : Type 0 where
  pub part : List ℕ
  pub value : List ℕ
  pub parts : parts_at (44 ∷ text) ≡ part ∷ parts_at left
  pub part_is : part ≡ key ++ 61 ∷ value
  pub is : is_tag part ≡ true
  pub key_is : key_part part ≡ key
  pub value_is : value_part part ≡ value
  pub some_value : value ≢ []
  pub value_at : List ℕ
  pub value_front : value ≡ front_where tag_ends_at false value_at
  pub value_rest : left ≡ rest_where tag_ends_at false value_at
  pub equals : rest_where tag_ends_at false text ≡ 61 ∷ value_at
  pub whole : front 32 false (44 ∷ text) ≡ 44 ∷ (key ++ 61 ∷ (value ++ front 32 false left))
  pub behind : rest 32 false (44 ∷ text) ≡ rest 32 false left

pub parts-step : (text : List ℕ) → parts_at (44 ∷ text) ≡ part_at text ∷ parts_at (rest_where measurement_ends_at false text)
parts-step text =
    parts-first 44 false (front 32 false text)
    ∙ ap (λ (t : List ℕ). part_at text ∷ parts_behind 44 t) (rest-nested (mark_of 44) (mark_of 32) measurement_ends_at measurement-union false text)

-- a tag behind a comma, and what stands behind it
pub tag-step : (text key left : List ℕ) → IsTagAt text key left → TagStep text key left
tag-step text key left at =
    let M = measurement_ends_at in
    let T = tag_ends_at in
    let none : front_where M false left ≡ [] = ended-front M left at.ends in
    let after : rest_where M false text ≡ left =
    rest-both M T measurement-within false text
    ∙ ap (λ (t : List ℕ). rest_where M false t) at.equals
    ∙ rest-both M T measurement-within false at.behind
    ∙ ap (λ (t : List ℕ). rest_where M false t) (sym at.left_is)
    ∙ ended-rest M left at.ends
    in
    let valued : front_where M false at.behind ≡ at.value =
    value-parts at.behind
    ∙ ap (λ (t : List ℕ). t ++ front_where M false (rest_where T false at.behind)) (sym at.value_is)
    ∙ ap (λ (t : List ℕ). at.value ++ front_where M false t) (sym at.left_is)
    ∙ ap (λ (t : List ℕ). at.value ++ t) none
    ∙ append-nil at.value
    in
    record {
      part_is =
          part-where text
          ∙ front-both M T measurement-within false text
          ∙ ap (λ (t : List ℕ). t ++ front_where M false (rest_where T false text)) (sym at.key_is)
          ∙ ap (λ (t : List ℕ). key ++ front_where M false t) at.equals
          ∙ ap (λ (t : List ℕ). key ++ 61 ∷ t) valued;
      part = part_at text;
      value = at.value;
      parts = parts-step text ∙ ap (λ (t : List ℕ). part_at text ∷ parts_at t) after;
      is =
          tag-test text key at.behind at.value left at.key_is at.equals at.value_is at.left_is
          ∙ ap (λ (t : List ℕ). test_of key (at.value ++ t) t) none
          ∙ ap (λ (t : List ℕ). test_of key t []) (append-nil at.value)
          ∙ ap (λ (t : Bool). not t && (not (eqb (length at.value) 0) && true)) (some-bytes key at.some_key)
          ∙ ap (λ (t : Bool). not t && true) (some-bytes at.value at.some_value);
      key_is = key-where text ∙ sym at.key_is;
      value_is = value-where text at.behind at.equals ∙ valued;
      some_value = at.some_value;
      value_at = at.behind;
      value_front = at.value_is;
      value_rest = at.left_is;
      equals = at.equals;
      whole =
          ap (λ (t : List ℕ). 44 ∷ t)
          (front-both (mark_of 32) T space-within false text
          ∙ ap (λ (t : List ℕ). t ++ front_where (mark_of 32) false (rest_where T false text)) (sym at.key_is)
          ∙ ap (λ (t : List ℕ). key ++ front_where (mark_of 32) false t) at.equals
          ∙ ap (λ (t : List ℕ). key ++ 61 ∷ t)
          (front-both (mark_of 32) T space-within false at.behind
          ∙ ap (λ (t : List ℕ). t ++ front_where (mark_of 32) false (rest_where T false at.behind)) (sym at.value_is)
          ∙ ap (λ (t : List ℕ). at.value ++ front_where (mark_of 32) false t) (sym at.left_is)));
      behind =
          rest-both (mark_of 32) T space-within false text
          ∙ ap (λ (t : List ℕ). rest_where (mark_of 32) false t) at.equals
          ∙ rest-both (mark_of 32) T space-within false at.behind
          ∙ ap (λ (t : List ℕ). rest_where (mark_of 32) false t) (sym at.left_is);
    }

-- no tag without a key
pub no-key : (text key : List ℕ) → key ≡ front_where tag_ends_at false text → eqb (length key) 0 ≡ true → is_tag (part_at text) ≡ false
no-key text key k none =
    ap (λ (t : List ℕ). test_of t (value_part (part_at text)) (rest 61 false (value_part (part_at text)))) (key-where text ∙ sym k)
    ∙ ap (λ (t : Bool). not t && (not (eqb (length (value_part (part_at text))) 0) && eqb (length (rest 61 false (value_part (part_at text)))) 0)) none

and-none : (a : Bool) → (a && false) ≡ false
and-none true = refl
and-none false = refl

-- nor without an equals sign behind it
pub no-equals : (text behind : List ℕ) → behind ≡ rest_where tag_ends_at false text → starts_with 61 behind ≡ false → is_tag (part_at text) ≡ false
no-equals text behind b none =
    let ends = tag-end behind (subst (EndsName tag_ends_at) (sym b) (rest-ends tag_ends_at false text)) none in
    let value : value_part (part_at text) ≡ [] =
    ap (λ (t : List ℕ). behind_first t) (equals-where text ∙ ap (λ (t : List ℕ). front_where measurement_ends_at false t) (sym b) ∙ ended-front measurement_ends_at behind ends)
    in
    ap (λ (t : List ℕ). test_of (key_part (part_at text)) t (rest 61 false (value_part (part_at text)))) value ∙ and-none (not (eqb (length (key_part (part_at text))) 0))

no-and : (a : Bool) → (not a && a) ≡ false
no-and true = refl
no-and false = refl

-- nor without a value
pub no-value : (text key behind value left : List ℕ) → key ≡ front_where tag_ends_at false text → rest_where tag_ends_at false text ≡ 61 ∷ behind → value ≡ front_where tag_ends_at false behind → left ≡ rest_where tag_ends_at false behind
    → value ≡ [] → is_tag (part_at text) ≡ false
no-value text key behind value left k e v l none =
    let more = front_where measurement_ends_at false left in
    tag-test text key behind value left k e v l
    ∙ ap (λ (t : List ℕ). test_of key (t ++ more) more) none
    ∙ ap (λ (t : Bool). not (eqb (length key) 0) && t) (no-and (eqb (length more) 0))
    ∙ and-none (not (eqb (length key) 0))

equals-first : (text : List ℕ) → starts_with 61 text ≡ true → eqb (length (front_where measurement_ends_at false text)) 0 ≡ false
equals-first [] e = absurd (false≢true e)
equals-first (b ∷ text) e =
    let is : b ≡ 61 = grind (arith, nat_tests) in
    subst (λ (c : ℕ). eqb (length (front_where measurement_ends_at false (c ∷ text))) 0 ≡ false) (sym is) (some-bytes (61 ∷ front_where measurement_ends_at false text) (λ n. some-first n))
  where
    some-first : 61 ∷ front_where measurement_ends_at false text ≡ [] → ⊥
    some-first n = cc

-- nor with a second equals sign
pub two-equals : (text key behind value left : List ℕ) → key ≡ front_where tag_ends_at false text → rest_where tag_ends_at false text ≡ 61 ∷ behind → value ≡ front_where tag_ends_at false behind → left ≡ rest_where tag_ends_at false behind
    → starts_with 61 left ≡ true → is_tag (part_at text) ≡ false
two-equals text key behind value left k e v l second =
    let more = front_where measurement_ends_at false left in
    tag-test text key behind value left k e v l
    ∙ ap (λ (t : Bool). not (eqb (length key) 0) && (not (eqb (length (value ++ more)) 0) && t)) (equals-first left second)
    ∙ ap (λ (t : Bool). not (eqb (length key) 0) && t) (and-none (not (eqb (length (value ++ more)) 0)))
    ∙ and-none (not (eqb (length key) 0))

-- the tokens of a tag
pub tag-tokens : (text key behind value left : List ℕ) → key ≡ front_where tag_ends_at false text → rest_where tag_ends_at false text ≡ 61 ∷ behind → value ≡ front_where tag_ends_at false behind → left ≡ rest_where tag_ends_at false behind
    → eqb (length key) 0 ≡ false → eqb (length value) 0 ≡ false → starts_with 61 left ≡ false → IsTagAt text key left
tag-tokens text key behind value left k e v l some_key some_value one = record {
  behind = behind;
  value = value;
  key_is = k;
  equals = e;
  value_is = v;
  left_is = l;
  some_key = λ none. false≢true (sym some_key ∙ ap (λ (t : List ℕ). eqb (length t) 0) none);
  some_value = λ none. false≢true (sym some_value ∙ ap (λ (t : List ℕ). eqb (length t) 0) none);
  ends = tag-end left (subst (EndsName tag_ends_at) (sym l) (rest-ends tag_ends_at false behind)) one;
}

-- the part that fields begin with, and those behind it
pub fields-step : (left : List ℕ) → parts 44 false (front 32 false left) ≡ part_at left ∷ parts_behind 44 (front 32 false (rest_where measurement_ends_at false left))
fields-step left =
    parts-first 44 false (front 32 false left)
    ∙ ap (λ (t : List ℕ). part_at left ∷ parts_behind 44 t) (rest-nested (mark_of 44) (mark_of 32) measurement_ends_at measurement-union false left)

-- where no comma stands behind a part, a space does, or nothing
fields-end : (behind : List ℕ) → EndsName measurement_ends_at behind → starts_with 44 behind ≡ false → EndsName (mark_of 32) behind
fields-end [] ends other = tt
fields-end (b ∷ text) ends other = ap (λ (t : Bool). t || mark_of 32 b) (sym other) ∙ sym (measurement-union b) ∙ ends

-- the key, the value and the end of a part, by its tokens
pub field-value : (text behind value : List ℕ) → behind ≡ rest_where tag_ends_at false text → value ≡ front_where measurement_ends_at false behind → behind_first value ≡ value_part (part_at text)
field-value text behind value b v =
    ap (λ (t : List ℕ). behind_first t) (v ∙ ap (λ (t : List ℕ). front_where measurement_ends_at false t) b) ∙ sym (ap (λ (t : List ℕ). behind_first t) (equals-where text))

pub field-rest : (text behind left : List ℕ) → behind ≡ rest_where tag_ends_at false text → left ≡ rest_where measurement_ends_at false behind → left ≡ rest_where measurement_ends_at false text
field-rest text behind left b l =
    l ∙ ap (λ (t : List ℕ). rest_where measurement_ends_at false t) b ∙ sym (rest-both measurement_ends_at tag_ends_at measurement-within false text)

-- the fields behind a part, and what stands behind all fields
pub fields-rest : (left : List ℕ) → rest 44 false (front 32 false left) ≡ front 32 false (rest_where measurement_ends_at false left)
fields-rest left = rest-nested (mark_of 44) (mark_of 32) measurement_ends_at measurement-union false left

pub fields-behind : (left : List ℕ) → rest 32 false left ≡ rest 32 false (rest_where measurement_ends_at false left)
fields-behind left = rest-both (mark_of 32) measurement_ends_at space-measurement false left

-- what stands behind the last field
module _ (left behind : List ℕ) (is : behind ≡ rest_where measurement_ends_at false left) (last : starts_with 44 behind ≡ false) where
  last-ends : EndsName (mark_of 32) (rest_where measurement_ends_at false left)
  last-ends = fields-end (rest_where measurement_ends_at false left) (rest-ends measurement_ends_at false left) (ap (λ (t : List ℕ). starts_with 44 t) (sym is) ∙ last)

  pub last-front : front 32 false (rest_where measurement_ends_at false left) ≡ []
  last-front = ended-front (mark_of 32) (rest_where measurement_ends_at false left) last-ends

  pub last-behind : behind ≡ rest 32 false left
  last-behind = is ∙ sym (ended-rest (mark_of 32) (rest_where measurement_ends_at false left) last-ends) ∙ sym (fields-behind left)
