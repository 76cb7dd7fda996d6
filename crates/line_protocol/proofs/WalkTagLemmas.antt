use Rattle.std.proofs.Common.{◌≡◌, ◌≢◌, ℕ, zero, suc, ◌-◌, ◌<◌, ◌≤◌, Bool, true, false, cond, not, ◌&&◌, ◌||◌, eqb, Option, Some, None, ⊎_elim, List, [], ◌∷◌, ◌++◌, map, length, take, drop, refl, sym, ap, subst, ◌∙◌, arith}
use Rattle.std.specs.List.{All, list_all}
use Rattle.std.specs.Prelude.{IsTrue}
use Rattle.std.specs.Str.{bytes_eq}
use Rattle.std.specs.declared.cmp.Ordering.TheVariants.{Less}
use Rattle.std.specs.Ordering.{nat_cmp}
use Rattle.std.specs.Cmp.Lexicographic.{slice_cmp}
use Rattle.std.proofs.lemmas.Bool.{false≢true}
use Rattle.std.proofs.lemmas.List.{take_at, drop_at, length-append}
use Rattle.std.proofs.lemmas.List.Elements.{All-cons}
use Rattle.std.proofs.lemmas.List.Sorted.{IsPermutation-refl}
use Rattle.std.proofs.lemmas.Slice.Eq.{bytes_eq-Decides}
use Rattle.tsdb_types.specs.Names.{IsName}
use Rattle.tsdb_types.specs.Series.{escaped, measurement_ends_at, tag_ends_at, tags_text, series_text, Ascend}
use Rattle.tsdb_types.specs.Spelled.{unescaped, EndsName}
use Rattle.tsdb_types.specs.declared.tag.Tag.{Tag}
use Rattle.tsdb_types.proofs.ReadingLemmas.{Named, tags_text-shape}
use Rattle.tsdb_types.proofs.SpelledLemmas.{named-spelling}
use Rattle.tsdb_types.proofs.SpelledTagLemmas.{Follow, follow-ascend, named-cons}
use Rattle.line_protocol.specs.declared.fault.LineCode.{LineCode}
use Rattle.line_protocol.specs.declared.fault.LineCode.TheVariants.{NoMeasurement, BadTag}
use Rattle.line_protocol.specs.Heads.{head_code, measurement_part, measurement_of, tag_parts, tag_of, tags_of, time_word, has_time_tag}
use Rattle.line_protocol.specs.Names.{is_tag}
use Rattle.line_protocol.specs.Parts.{front, rest, parts_behind, slashed}
use Rattle.line_protocol.specs.Tokens.{front_where, rest_where, parts_at, tags_at, starts_with, IsTagAt, SpellsTag, AreTags, IsWalk, part_at}
use Rattle.line_protocol.proofs.PartLemmas.{decided}
use Rattle.line_protocol.proofs.TextLemmas.{closed-end}
use Rattle.line_protocol.proofs.TokenLemmas.{mark_of, front-at, front-on, rest-on, open-slash, front-both, rest-both, front-nested, rest-nested, ended-front, ended-rest, measurement-union, space-measurement, front-spelled, rest-unbroken, front-rest, rest-le}
use Rattle.line_protocol.proofs.WalkLemmas.{tag-step, parts-step}

abbrev Unbroken : List ℕ → Type 0
Unbroken text = All (λ byte. byte ≢ 10) text

unbroken-behind : (b : ℕ) (text : List ℕ) → Unbroken (b ∷ text) → Unbroken text
unbroken-behind b text h = λ k d l. h (suc k) d (omega arith)

unbroken-cons : (b : ℕ) (text : List ℕ) → b ≢ 10 → Unbroken text → Unbroken (b ∷ text)
unbroken-cons b text n h zero d l = n
unbroken-cons b text n h (suc k) d l = h k d (omega arith)

front-unbroken : (P : ℕ → Bool) (s : Bool) (text : List ℕ) → Unbroken text → Unbroken (front_where P s text)
front-unbroken P s [] h = h
front-unbroken P s (b ∷ text) h =
    ⊎_elim
    (λ (e : (P b && not s) ≡ true). subst Unbroken (sym (front-at P s b text e)) (λ k d l. absurd (omega arith)))
    (λ (e : (P b && not s) ≡ false). subst Unbroken (sym (front-on P s b text e)) (unbroken-cons b (front_where P (eqb b 92) text) (h 0 0 (omega arith)) (front-unbroken P (eqb b 92) text (unbroken-behind b text h))))
    (decided (P b && not s))

-- a front that something stands behind ends with no backslash
closed-where : (P : ℕ → Bool) (s : Bool) (text : List ℕ) → rest_where P s text ≢ [] → slashed s (front_where P s text) ≡ false
closed-where P s [] some = absurd (some refl)
closed-where P s (b ∷ text) some =
    ⊎_elim
    (λ (e : (P b && not s) ≡ true). ap (λ (t : List ℕ). slashed s t) (front-at P s b text e) ∙ open-slash (P b) s e)
    (λ (e : (P b && not s) ≡ false). ap (λ (t : List ℕ). slashed s t) (front-on P s b text e) ∙ closed-where P (eqb b 92) text (λ none. some (rest-on P s b text e ∙ none)))
    (decided (P b && not s))

some-length : (text : List ℕ) → text ≢ [] → 0 < length text
some-length [] some = absurd (some refl)
some-length (b ∷ text) some = omega arith

-- a front that isn't empty spells a name where something stands behind it
pub front-named : (P : ℕ → Bool) → P 92 ≡ false → P 10 ≡ false → (text front : List ℕ) → Unbroken text → front ≡ front_where P false text → front ≢ [] → rest_where P false text ≢ [] → IsName (unescaped P front)
front-named P slash newline text front unbroken e some behind =
    let again : escaped P (unescaped P front) ≡ front = subst (λ (t : List ℕ). escaped P (unescaped P t) ≡ t) (sym e) (front-spelled P slash newline text unbroken) in
    let long = some-length front some in
    named-spelling P (unescaped P front) front again (subst Unbroken (sym e) (front-unbroken P false text unbroken)) long
    (closed-end front long (ap (λ (t : List ℕ). slashed false t) e ∙ closed-where P false text behind))

-- what holds of a text if it holds of what is left of it
pub record Left (text last left : List ℕ) (ascend reserved : Bool) : Type 0 where
  pub start : EndsName measurement_ends_at left
  pub unbroken : Unbroken left
  pub sound : list_all is_tag (parts_at text) ≡ list_all is_tag (parts_at left)
  pub behind : rest 32 false text ≡ rest 32 false left
  pub spelled : front 32 false left ≡ tags_text (tags_at left) → front 32 false text ≡ tags_text (tags_at text)
  pub named : left ≢ [] → Named (tags_at left) → Named (tags_at text)
  pub follow : IsTrue ascend → Follow (unescaped tag_ends_at last) (tags_at left) → Follow [] (tags_at text)
  pub reserves : has_time_tag (tags_at text) ≡ (reserved || has_time_tag (tags_at left))
  pub spells : All SpellsTag (parts_at left) → All SpellsTag (parts_at text)

pub left-all : (text : List ℕ) → EndsName measurement_ends_at text → Unbroken text → Left text [] text true false
left-all text start unbroken = record {
  start = start;
  unbroken = unbroken;
  sound = refl;
  behind = refl;
  spelled = λ is. is;
  named = λ some is. is;
  follow = λ up is. is;
  reserves = refl;
  spells = λ is. is;
}

some-cons : (b : ℕ) (text : List ℕ) → b ∷ text ≢ []
some-cons b text = λ is. cc

or-false : (a : Bool) → (a || false) ≡ a
or-false true = refl
or-false false = refl

or-grouped : (a b c : Bool) → (a || (b || c)) ≡ ((a || b) || c)
or-grouped true b c = refl
or-grouped false b c = refl

-- a key is `time` exactly where it is spelled so
pub time-spelled : (key : List ℕ) → escaped tag_ends_at (unescaped tag_ends_at key) ≡ key → bytes_eq (unescaped tag_ends_at key) time_word ≡ bytes_eq key time_word
time-spelled key again =
    ⊎_elim
    (λ (e : bytes_eq key time_word ≡ true). ap (λ (t : List ℕ). bytes_eq (unescaped tag_ends_at t) time_word) ((bytes_eq-Decides key time_word).0 e) ∙ sym e)
    (λ (e : bytes_eq key time_word ≡ false).
    ⊎_elim
    (λ (f : bytes_eq (unescaped tag_ends_at key) time_word ≡ true).
    let word : key ≡ time_word = sym again ∙ ap (λ (t : List ℕ). escaped tag_ends_at t) ((bytes_eq-Decides (unescaped tag_ends_at key) time_word).0 f) in
    absurd (false≢true (sym e ∙ (bytes_eq-Decides key time_word).1 word)))
    (λ (f : bytes_eq (unescaped tag_ends_at key) time_word ≡ false). f ∙ sym e)
    (decided (bytes_eq (unescaped tag_ends_at key) time_word)))
    (decided (bytes_eq key time_word))

-- one tag more is read, one fewer is left
pub left-next : (text last left behind key rest_of : List ℕ) (ascend reserved goes time : Bool) → Left text last left ascend reserved → left ≡ 44 ∷ behind → IsTagAt behind key rest_of
    → (goes ≡ true → ascend ≡ true) → (goes ≡ true → slice_cmp nat_cmp (unescaped tag_ends_at last) (unescaped tag_ends_at key) ≡ Less) → time ≡ (reserved || bytes_eq key time_word)
    → Left text key rest_of goes time
left-next text last left behind key after ascend reserved goes time was e at before below is_time =
    let now = subst (λ (t : List ℕ). Left text last t ascend reserved) e was in
    let step = tag-step behind key after at in
    let tag = tag_of true step.part in
    let tags : tags_at (44 ∷ behind) ≡ tag ∷ tags_at after = ap (λ (ps : List (List ℕ)). map (tag_of true) ps) step.parts in
    let open_text = unbroken-behind 44 behind now.unbroken in
    let open_value : Unbroken step.value_at = unbroken-behind 61 step.value_at (subst Unbroken step.equals (rest-unbroken tag_ends_at false behind open_text)) in
    let key_again : escaped tag_ends_at (unescaped tag_ends_at key) ≡ key =
    subst (λ (t : List ℕ). escaped tag_ends_at (unescaped tag_ends_at t) ≡ t) (sym at.key_is) (front-spelled tag_ends_at refl refl behind open_text) in
    let value_again : escaped tag_ends_at (unescaped tag_ends_at step.value) ≡ step.value =
    subst (λ (t : List ℕ). escaped tag_ends_at (unescaped tag_ends_at t) ≡ t) (sym step.value_front) (front-spelled tag_ends_at refl refl step.value_at open_value) in
    let key_is : tag.key ≡ unescaped tag_ends_at key = ap (λ (t : List ℕ). unescaped tag_ends_at t) step.key_is in
    let value_is : tag.value ≡ unescaped tag_ends_at step.value = ap (λ (t : List ℕ). unescaped tag_ends_at t) step.value_is in
    record {
      start = at.ends;
      unbroken = subst Unbroken (sym step.value_rest) (rest-unbroken tag_ends_at false step.value_at open_value);
      sound = now.sound ∙ ap (λ (ps : List (List ℕ)). list_all is_tag ps) step.parts ∙ ap (λ (t : Bool). t && list_all is_tag (parts_at after)) step.is;
      behind = now.behind ∙ step.behind;
      spelled = λ is.
          now.spelled
          (step.whole
          ∙ ap (λ (t : List ℕ). 44 ∷ (key ++ 61 ∷ (step.value ++ t))) is
          ∙ ap (λ (t : List ℕ). 44 ∷ (t ++ 61 ∷ (step.value ++ tags_text (tags_at after)))) (sym (ap (λ (t : List ℕ). escaped tag_ends_at t) key_is ∙ key_again))
          ∙ ap (λ (t : List ℕ). 44 ∷ (escaped tag_ends_at tag.key ++ 61 ∷ (t ++ tags_text (tags_at after)))) (sym (ap (λ (t : List ℕ). escaped tag_ends_at t) value_is ∙ value_again))
          ∙ sym (tags_text-shape tag (tags_at after))
          ∙ ap (λ (ts : List Tag). tags_text ts) (sym tags));
      named = λ some is.
          let key_named : IsName tag.key = subst IsName (sym key_is) (front-named tag_ends_at refl refl behind key open_text at.key_is at.some_key (λ none. some-cons 61 step.value_at (sym step.equals ∙ none))) in
          let value_named : IsName tag.value =
          subst IsName (sym value_is)
          (front-named tag_ends_at refl refl step.value_at step.value open_value step.value_front step.some_value (λ none. some (step.value_rest ∙ none)))
          in
          now.named (some-cons 44 behind) (subst Named (sym tags) (named-cons tag (tags_at after) (key_named, value_named) is));
      follow = λ up is.
          let less : slice_cmp nat_cmp (unescaped tag_ends_at last) tag.key ≡ Less = ap (λ (k : List ℕ). slice_cmp nat_cmp (unescaped tag_ends_at last) k) key_is ∙ below up in
          now.follow (before up) (subst (λ (ts : List Tag). Follow (unescaped tag_ends_at last) ts) (sym tags) (less, subst (λ (k : List ℕ). Follow k (tags_at after)) (sym key_is) is));
      reserves =
          now.reserves
          ∙ ap (λ (ts : List Tag). reserved || has_time_tag ts) tags
          ∙ ap (λ (k : List ℕ). reserved || (bytes_eq k time_word || has_time_tag (tags_at after))) key_is
          ∙ ap (λ (t : Bool). reserved || (t || has_time_tag (tags_at after))) (time-spelled key key_again)
          ∙ or-grouped reserved (bytes_eq key time_word) (has_time_tag (tags_at after))
          ∙ ap (λ (t : Bool). t || has_time_tag (tags_at after)) (sym is_time);
      spells = λ is.
          let part : SpellsTag step.part =
          step.part_is
          ∙ ap (λ (t : List ℕ). t ++ 61 ∷ step.value) (sym (ap (λ (t : List ℕ). escaped tag_ends_at t) key_is ∙ key_again))
          ∙ ap (λ (t : List ℕ). escaped tag_ends_at tag.key ++ 61 ∷ t) (sym (ap (λ (t : List ℕ). escaped tag_ends_at t) value_is ∙ value_again))
          in
          now.spells (subst (λ (ps : List (List ℕ)). All SpellsTag ps) (sym step.parts) (All-cons SpellsTag step.part (parts_at after) part is));
    }

no-comma : (text : List ℕ) → EndsName measurement_ends_at text → starts_with 44 text ≡ false → EndsName (mark_of 32) text
no-comma [] ends other = tt
no-comma (b ∷ text) ends other = ap (λ (t : Bool). t || mark_of 32 b) (sym other) ∙ sym (measurement-union b) ∙ ends

-- nothing is left but what stands behind the head
pub left-end : (text last left : List ℕ) (ascend reserved : Bool) → Left text last left ascend reserved → starts_with 44 left ≡ false → AreTags text left ascend reserved
left-end text last left ascend reserved is other =
    let ends = no-comma left is.start other in
    let none : front 32 false left ≡ [] = ended-front (mark_of 32) left ends in
    let no_parts : parts_at left ≡ [] = ap (λ (t : List ℕ). parts_behind 44 t) none in
    let no_tags : tags_at left ≡ [] = ap (λ (ps : List (List ℕ)). map (tag_of true) ps) no_parts in
    record {
      sound = is.sound ∙ ap (λ (ps : List (List ℕ)). list_all is_tag ps) no_parts;
      behind_is = sym (is.behind ∙ ended-rest (mark_of 32) left ends);
      spelled = is.spelled (none ∙ ap (λ (ts : List Tag). tags_text ts) (sym no_tags));
      named = λ some. is.named some (subst Named (sym no_tags) (λ k d l. absurd (omega arith)));
      ascends = λ up. follow-ascend [] (tags_at text) (is.follow up (subst (λ (ts : List Tag). Follow (unescaped tag_ends_at last) ts) (sym no_tags) tt));
      reserves = sym (is.reserves ∙ ap (λ (ts : List Tag). reserved || has_time_tag ts) no_tags ∙ or-false reserved);
      spells = is.spells (subst (λ (ps : List (List ℕ)). All SpellsTag ps) (sym no_parts) (λ k d l. absurd (omega arith)));
    }

-- a comma behind which no tag stands
pub left-bad : (text last left behind : List ℕ) (ascend reserved : Bool) → Left text last left ascend reserved → left ≡ 44 ∷ behind → is_tag (part_at behind) ≡ false → list_all is_tag (parts_at text) ≡ false
left-bad text last left behind ascend reserved is e bad =
    is.sound
    ∙ ap (λ (t : List ℕ). list_all is_tag (parts_at t)) e
    ∙ ap (λ (ps : List (List ℕ)). list_all is_tag ps) (parts-step behind)
    ∙ ap (λ (t : Bool). t && list_all is_tag (parts_at (rest_where measurement_ends_at false behind))) bad

pub tag-shorter : (left behind key after : List ℕ) → left ≡ 44 ∷ behind → IsTagAt behind key after → length after < length left
tag-shorter left behind key after e at =
    omega (arith, ap (λ (t : List ℕ). length t) e, ap (λ (t : List ℕ). length t) at.equals, ap (λ (t : List ℕ). length t) at.left_is, rest-le tag_ends_at false behind, rest-le tag_ends_at false at.behind)

-- where a text is cut before what stands behind its front
pub cut-before : (line front behind : List ℕ) → line ≡ front ++ behind → (take (length line - length behind) line ≡ front) × (drop (length line - length behind) line ≡ behind)
cut-before line front behind e =
    let n : length front ≡ length line - length behind = omega (arith, ap (λ (t : List ℕ). length t) e, length-append front behind) in (
      ap (λ (t : List ℕ). take (length line - length behind) t) e ∙ take_at front behind (length line - length behind) n,
      ap (λ (t : List ℕ). drop (length line - length behind) t) e ∙ drop_at front behind (length line - length behind) n,
    )

tag-parts : (line : List ℕ) → tag_parts (front 32 false line) ≡ parts_at (rest_where measurement_ends_at false line)
tag-parts line = ap (λ (t : List ℕ). parts_behind 44 t) (rest-nested (mark_of 44) (mark_of 32) measurement_ends_at measurement-union false line)

pub measurement-where : (line : List ℕ) → measurement_part (front 32 false line) ≡ front_where measurement_ends_at false line
measurement-where line = front-nested (mark_of 44) (mark_of 32) measurement_ends_at measurement-union false line

abbrev code_of : Bool → Bool → Option LineCode
code_of empty sound = cond empty (Some NoMeasurement) (cond (not sound) (Some BadTag) None)

code-where : (line measurement : List ℕ) → measurement ≡ front_where measurement_ends_at false line
    → head_code (front 32 false line) ≡ code_of (eqb (length measurement) 0) (list_all is_tag (parts_at (rest_where measurement_ends_at false line)))
code-where line measurement m =
    ap (λ (t : List ℕ). code_of (eqb (length t) 0) (list_all is_tag (tag_parts (front 32 false line)))) (measurement-where line ∙ sym m)
    ∙ ap (λ (ps : List (List ℕ)). code_of (eqb (length measurement) 0) (list_all is_tag ps)) (tag-parts line)

pub no-measurement : (line measurement : List ℕ) → measurement ≡ front_where measurement_ends_at false line → eqb (length measurement) 0 ≡ true → head_code (front 32 false line) ≡ Some NoMeasurement
no-measurement line measurement m none = code-where line measurement m ∙ ap (λ (t : Bool). code_of t (list_all is_tag (parts_at (rest_where measurement_ends_at false line)))) none

pub bad-tag : (line measurement tags : List ℕ) → measurement ≡ front_where measurement_ends_at false line → tags ≡ rest_where measurement_ends_at false line → eqb (length measurement) 0 ≡ false → list_all is_tag (parts_at tags) ≡ false
    → head_code (front 32 false line) ≡ Some BadTag
bad-tag line measurement tags m t some bad =
    code-where line measurement m
    ∙ ap (λ (e : Bool). code_of e (list_all is_tag (parts_at (rest_where measurement_ends_at false line)))) some
    ∙ ap (λ (b : Bool). code_of false b) (ap (λ (t : List ℕ). list_all is_tag (parts_at t)) (sym t) ∙ bad)

-- a head is walked by its measurement and its tags
pub head-walked : (line measurement tags head behind after : List ℕ) (ascend reserved : Bool) → Unbroken line → measurement ≡ front_where measurement_ends_at false line → tags ≡ rest_where measurement_ends_at false line
    → eqb (length measurement) 0 ≡ false → AreTags tags behind ascend reserved → head ≡ take (length line - length behind) line → after ≡ drop (length line - length behind) line → IsWalk line head measurement after ascend reserved
head-walked line measurement tags head behind after ascend reserved unbroken m t some are h a =
    let M = measurement_ends_at in
    let behind_is : rest 32 false line ≡ behind = rest-both (mark_of 32) M space-measurement false line ∙ ap (λ (t : List ℕ). rest 32 false t) (sym t) ∙ sym are.behind_is in
    let whole : line ≡ front 32 false line ++ behind = sym (front-rest (mark_of 32) false line) ∙ ap (λ (t : List ℕ). front 32 false line ++ t) behind_is in
    let cut = cut-before line (front 32 false line) behind whole in
    let head_is : head ≡ front 32 false line = h ∙ cut.0 in
    let after_is : after ≡ behind = a ∙ cut.1 in
    let tags_is : tags_of head ≡ tags_at tags =
    ap (λ (t : List ℕ). tags_of t) head_is ∙ ap (λ (ps : List (List ℕ)). map (tag_of true) ps) (tag-parts line) ∙ ap (λ (t : List ℕ). tags_at t) (sym t) in
    let measurement_is : measurement ≡ measurement_part head = m ∙ sym (ap (λ (t : List ℕ). measurement_part t) head_is ∙ measurement-where line) in
    let name : measurement_of head ≡ unescaped M measurement = ap (λ (t : List ℕ). unescaped M t) (sym measurement_is) in
    let again : escaped M (unescaped M measurement) ≡ measurement = subst (λ (t : List ℕ). escaped M (unescaped M t) ≡ t) (sym m) (front-spelled M refl refl line unbroken) in
    let spelled : head ≡ series_text (measurement_of head) (tags_of head) =
    head_is
    ∙ front-both (mark_of 32) M space-measurement false line
    ∙ ap (λ (t : List ℕ). t ++ front 32 false (rest_where M false line)) (sym m)
    ∙ ap (λ (t : List ℕ). measurement ++ front 32 false t) (sym t)
    ∙ ap (λ (t : List ℕ). measurement ++ t) are.spelled
    ∙ ap (λ (t : List ℕ). t ++ tags_text (tags_at tags)) (sym again)
    ∙ ap (λ (t : List ℕ). escaped M t ++ tags_text (tags_at tags)) (sym name)
    ∙ ap (λ (ts : List Tag). escaped M (measurement_of head) ++ tags_text ts) (sym tags_is)
    in
    record {
      head_is = head_is;
      sound = ap (λ (t : List ℕ). head_code t) head_is ∙ code-where line measurement m ∙ ap (λ (e : Bool). code_of e (list_all is_tag (parts_at (rest_where M false line)))) some
          ∙ ap (λ (b : Bool). code_of false b) (ap (λ (t : List ℕ). list_all is_tag (parts_at t)) (sym t) ∙ are.sound);
      measurement_is = measurement_is;
      behind_is = after_is ∙ sym behind_is;
      ascends = λ up. subst Ascend (sym tags_is) (are.ascends up);
      reserves = are.reserves ∙ ap (λ (ts : List Tag). has_time_tag ts) (sym tags_is);
      spells = subst (λ (ps : List (List ℕ)). All SpellsTag ps) (sym (ap (λ (t : List ℕ). tag_parts t) head_is ∙ tag-parts line ∙ ap (λ (t : List ℕ). parts_at t) (sym t))) are.spells;
      named = λ something.
          let something_behind : behind ≢ [] = λ none. something (after_is ∙ none) in
          let some_tags : rest_where M false line ≢ [] = λ none. something_behind (are.behind_is ∙ ap (λ (t : List ℕ). rest 32 false t) (t ∙ none)) in
          let some_measurement : measurement ≢ [] = λ none. false≢true (sym some ∙ ap (λ (t : List ℕ). eqb (length t) 0) none) in
          let is_name : IsName (measurement_of head) = subst IsName (sym name) (front-named M refl refl line measurement unbroken m some_measurement some_tags) in
          let are_names = subst Named (sym tags_is) (are.named something_behind) in
          record {
            measured = sym (ap (λ (t : List ℕ). escaped M t) name ∙ again);
            measurement_named = is_name;
            tags_named = are_names;
            key = λ up.
                let ascend_all = subst Ascend (sym tags_is) (are.ascends up) in (
                  record { sorted = tags_of head; same = IsPermutation-refl (tags_of head); ascend = ascend_all; spelled = spelled },
                  record { measurement = measurement_of head; tags = tags_of head; named = is_name; tags_named = are_names; ascend = ascend_all; spelled = spelled },
                );
          };
    }

pub behind-le : (line tags behind : List ℕ) (ascend reserved : Bool) → tags ≡ rest_where measurement_ends_at false line → AreTags tags behind ascend reserved → length behind ≤ length line
behind-le line tags behind ascend reserved t are =
    omega (arith, ap (λ (x : List ℕ). length x) t, ap (λ (x : List ℕ). length x) are.behind_is, rest-le (mark_of 32) false tags, rest-le measurement_ends_at false line)
