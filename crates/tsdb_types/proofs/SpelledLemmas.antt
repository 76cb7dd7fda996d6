use Rattle.std.proofs.Common.{◌≡◌, ◌≢◌, ℕ, zero, suc, ◌-◌, ◌<◌, Bool, true, false, cond, not, ◌&&◌, ◌||◌, eqb, ⊎_elim, List, [], ◌∷◌, ◌++◌, length, get_or, refl, sym, ap, subst, ◌∙◌, arith}
use Rattle.std.specs.List.{All}
use Rattle.std.proofs.lemmas.Bool.{false≢true}
use Rattle.std.proofs.lemmas.Bool.Decides.{nat_tests}
use Rattle.tsdb_types.specs.Names.{IsName}
use Rattle.tsdb_types.specs.Series.{escaped}
use Rattle.tsdb_types.specs.Spelled.{begins_with, unescaped, stops_name, name_front, name_rest, EndsName, IsNameFirst}
use Rattle.tsdb_types.proofs.EscapeLemmas.{decided, escaped-picked, escaped-left}

either-first : (a b : Bool) → (a || b) ≡ false → a ≡ false
either-first true b e = absurd (false≢true (sym e))
either-first false b e = refl

either-second : (a b : Bool) → (a || b) ≡ false → b ≡ false
either-second true b e = absurd (false≢true (sym e))
either-second false b e = e

and-open : (a : Bool) → (a && true) ≡ a
and-open true = refl
and-open false = refl

and-shut : (a : Bool) → (a && false) ≡ false
and-shut true = refl
and-shut false = refl

or-true : (a : Bool) → (a || true) ≡ true
or-true true = refl
or-true false = refl

both-first : (a b : Bool) → (a && b) ≡ true → a ≡ true
both-first true b e = refl
both-first false b e = absurd (false≢true e)

not-newline : (b : ℕ) → b ≢ 10 → eqb b 10 ≡ false
not-newline b h = grind (arith, nat_tests)

same-byte : (b c : ℕ) → eqb b c ≡ true → b ≡ c
same-byte b c e = grind (arith, nat_tests)

abbrev Unbroken : List ℕ → Type 0
Unbroken text = All (λ byte. byte ≢ 10) text

unbroken-behind : (b : ℕ) (text : List ℕ) → Unbroken (b ∷ text) → Unbroken text
unbroken-behind b text h = λ k d l. h (suc k) d (omega arith)

unbroken-cons : (b : ℕ) (text : List ℕ) → b ≢ 10 → Unbroken text → Unbroken (b ∷ text)
unbroken-cons b text n h zero d l = n
unbroken-cons b text n h (suc k) d l = h k d (omega arith)

-- the last byte of a text behind another
abbrev last_of : ℕ → List ℕ → ℕ
last_of b [] = b
last_of b (c ∷ text) = last_of c text

last-get : (b : ℕ) (text : List ℕ) → get_or (b ∷ text) (length text) 0 ≡ last_of b text
last-get b [] = refl
last-get b (c ∷ text) = last-get c text

-- the last byte of a text, as a name tells it
last-name : (b : ℕ) (text : List ℕ) → get_or (b ∷ text) (length (b ∷ text) - 1) 0 ≡ last_of b text
last-name b text =
    let e : length (b ∷ text) - 1 ≡ length text = omega arith in
    ap (λ (k : ℕ). get_or (b ∷ text) k 0) e ∙ last-get b text

module _ (picks : ℕ → Bool) where
  front-stops : (s : Bool) (b : ℕ) (text : List ℕ) → stops_name picks s b ≡ true → name_front picks s (b ∷ text) ≡ []
  front-stops s b text e = ap (λ (t : Bool). cond t [] (b ∷ name_front picks (eqb b 92) text)) e

  rest-stops : (s : Bool) (b : ℕ) (text : List ℕ) → stops_name picks s b ≡ true → name_rest picks s (b ∷ text) ≡ b ∷ text
  rest-stops s b text e = ap (λ (t : Bool). cond t (b ∷ text) (name_rest picks (eqb b 92) text)) e

  front-goes : (s : Bool) (b : ℕ) (text : List ℕ) → stops_name picks s b ≡ false → name_front picks s (b ∷ text) ≡ b ∷ name_front picks (eqb b 92) text
  front-goes s b text e = ap (λ (t : Bool). cond t [] (b ∷ name_front picks (eqb b 92) text)) e

  rest-goes : (s : Bool) (b : ℕ) (text : List ℕ) → stops_name picks s b ≡ false → name_rest picks s (b ∷ text) ≡ name_rest picks (eqb b 92) text
  rest-goes s b text e = ap (λ (t : Bool). cond t (b ∷ text) (name_rest picks (eqb b 92) text)) e

  -- both parts make the whole
  pub front-rest : (s : Bool) (text : List ℕ) → name_front picks s text ++ name_rest picks s text ≡ text
  front-rest s [] = refl
  front-rest s (b ∷ text) =
      ⊎_elim
      (λ (e : stops_name picks s b ≡ true). ap (λ (t : List ℕ). t ++ name_rest picks s (b ∷ text)) (front-stops s b text e) ∙ rest-stops s b text e)
      (λ (e : stops_name picks s b ≡ false).
      ap (λ (t : List ℕ). t ++ name_rest picks s (b ∷ text)) (front-goes s b text e)
      ∙ ap (λ (t : List ℕ). b ∷ (name_front picks (eqb b 92) text ++ t)) (rest-goes s b text e)
      ∙ ap (λ (t : List ℕ). b ∷ t) (front-rest (eqb b 92) text))
      (decided (stops_name picks s b))

  -- no newline is in the front
  front-unbroken : (s : Bool) (text : List ℕ) → Unbroken (name_front picks s text)
  front-unbroken s [] = λ k d l. absurd (omega arith)
  front-unbroken s (b ∷ text) =
      ⊎_elim
      (λ (e : stops_name picks s b ≡ true). subst Unbroken (sym (front-stops s b text e)) (λ k d l. absurd (omega arith)))
      (λ (e : stops_name picks s b ≡ false).
      let other : b ≢ 10 = λ is. let no_mark = either-first (eqb b 10) (picks b && not s) e in absurd (grind (arith, nat_tests)) in
      subst Unbroken (sym (front-goes s b text e)) (unbroken-cons b (name_front picks (eqb b 92) text) other (front-unbroken (eqb b 92) text)))
      (decided (stops_name picks s b))

  -- what stands behind the front begins with a newline, or ends a name
  pub rest-ends : (s : Bool) (text : List ℕ) → begins_with (λ byte. eqb byte 10) (name_rest picks s text) ≡ false → EndsName picks (name_rest picks s text)
  rest-ends s [] none = tt
  rest-ends s (b ∷ text) none =
      ⊎_elim
      (λ (e : stops_name picks s b ≡ true).
      let other : eqb b 10 ≡ false = subst (λ (t : List ℕ). begins_with (λ byte. eqb byte 10) t ≡ false) (rest-stops s b text e) none in
      let mark : (picks b && not s) ≡ true = ap (λ (t : Bool). t || (picks b && not s)) (sym other) ∙ e in
      subst (EndsName picks) (sym (rest-stops s b text e)) (both-first (picks b) (not s) mark))
      (λ (e : stops_name picks s b ≡ false).
      subst (EndsName picks) (sym (rest-goes s b text e)) (rest-ends (eqb b 92) text (subst (λ (t : List ℕ). begins_with (λ byte. eqb byte 10) t ≡ false) (rest-goes s b text e) none)))
      (decided (stops_name picks s b))

  unescaped-kept : (b : ℕ) (text : List ℕ) → (eqb b 92 && begins_with picks text) ≡ false → unescaped picks (b ∷ text) ≡ b ∷ unescaped picks text
  unescaped-kept b text e = ap (λ (t : Bool). cond t (unescaped picks text) (b ∷ unescaped picks text)) e

  unescaped-dropped : (b : ℕ) (text : List ℕ) → (eqb b 92 && begins_with picks text) ≡ true → unescaped picks (b ∷ text) ≡ unescaped picks text
  unescaped-dropped b text e = ap (λ (t : Bool). cond t (unescaped picks text) (b ∷ unescaped picks text)) e

  -- a name that ends with no backslash, behind one or none
  abbrev ends_slash : Bool → List ℕ → Bool
  ends_slash s [] = s
  ends_slash s (b ∷ text) = ends_slash (eqb b 92) text

  slash-last : (s : Bool) (b : ℕ) (text : List ℕ) → last_of b text ≢ 92 → ends_slash s (b ∷ text) ≡ false
  slash-last s b [] h = ⊎_elim (λ (e : eqb b 92 ≡ true). absurd (h (same-byte b 92 e))) (λ (e : eqb b 92 ≡ false). e) (decided (eqb b 92))
  slash-last s b (c ∷ text) h = slash-last (eqb b 92) c text h

  escaped-some : (name : List ℕ) → 0 < length (escaped picks name) → 0 < length name
  escaped-some [] l = l
  escaped-some (b ∷ name) l = omega arith

  pub some-escaped : (name : List ℕ) → 0 < length name → 0 < length (escaped picks name)
  some-escaped [] l = l
  some-escaped (b ∷ name) l =
      ⊎_elim
      (λ (e : picks b ≡ true). omega (arith, ap (λ (t : List ℕ). length t) (escaped-picked picks b name e)))
      (λ (e : picks b ≡ false). omega (arith, ap (λ (t : List ℕ). length t) (escaped-left picks b name e)))
      (decided (picks b))

  unbroken-escaped : (name : List ℕ) → Unbroken (escaped picks name) → Unbroken name
  unbroken-escaped [] h = h
  unbroken-escaped (b ∷ name) h =
      ⊎_elim
      (λ (e : picks b ≡ true).
      let here = unbroken-behind 92 (b ∷ escaped picks name) (subst Unbroken (escaped-picked picks b name e) h) in
      unbroken-cons b name (here 0 0 (omega arith)) (unbroken-escaped name (unbroken-behind b (escaped picks name) here)))
      (λ (e : picks b ≡ false).
      let here = subst Unbroken (escaped-left picks b name e) h in
      unbroken-cons b name (here 0 0 (omega arith)) (unbroken-escaped name (unbroken-behind b (escaped picks name) here)))
      (decided (picks b))

  last-escaped : (d : ℕ) (name : List ℕ) → last_of d (escaped picks name) ≡ last_of d name
  last-escaped d [] = refl
  last-escaped d (b ∷ name) =
      ⊎_elim
      (λ (e : picks b ≡ true). ap (λ (t : List ℕ). last_of d t) (escaped-picked picks b name e) ∙ last-escaped b name)
      (λ (e : picks b ≡ false). ap (λ (t : List ℕ). last_of d t) (escaped-left picks b name e) ∙ last-escaped b name)
      (decided (picks b))

  -- the last byte of a name is that of its spelling
  pub same-last : (name : List ℕ) → get_or (escaped picks name) (length (escaped picks name) - 1) 0 ≡ get_or name (length name - 1) 0
  same-last [] = refl
  same-last (b ∷ name) =
      ⊎_elim
      (λ (e : picks b ≡ true).
      ap (λ (t : List ℕ). get_or t (length t - 1) 0) (escaped-picked picks b name e) ∙ last-name 92 (b ∷ escaped picks name) ∙ last-escaped b name ∙ sym (last-name b name))
      (λ (e : picks b ≡ false).
      ap (λ (t : List ℕ). get_or t (length t - 1) 0) (escaped-left picks b name e) ∙ last-name b (escaped picks name) ∙ last-escaped b name ∙ sym (last-name b name))
      (decided (picks b))

  -- a text that spells a name, by what its spelling is
  pub named-spelling : (name spelled : List ℕ) → escaped picks name ≡ spelled → Unbroken spelled → 0 < length spelled → get_or spelled (length spelled - 1) 0 ≢ 92 → IsName name
  named-spelling name spelled e unbroken some closed = record {
    not_empty = escaped-some name (subst (λ (t : List ℕ). 0 < length t) (sym e) some);
    one_line = unbroken-escaped name (subst Unbroken (sym e) unbroken);
    closed = λ is. closed (ap (λ (t : List ℕ). get_or t (length t - 1) 0) (sym e) ∙ same-last name ∙ is);
  }

  module _ (slash : picks 92 ≡ false) (newline : picks 10 ≡ false) where
    picked-stops : (b : ℕ) → picks b ≡ true → stops_name picks true b ≡ false
    picked-stops b p =
        let other : eqb b 10 ≡ false = ⊎_elim (λ (e : eqb b 10 ≡ true). absurd (false≢true (sym newline ∙ ap picks (sym (same-byte b 10 e)) ∙ p))) (λ (e : eqb b 10 ≡ false). e) (decided (eqb b 10)) in
        ap (λ (t : Bool). t || (picks b && false)) other ∙ and-shut (picks b)

    picked-slash : (b : ℕ) → picks b ≡ true → eqb b 92 ≡ false
    picked-slash b p = ⊎_elim (λ (e : eqb b 92 ≡ true). absurd (false≢true (sym slash ∙ ap picks (sym (same-byte b 92 e)) ∙ p))) (λ (e : eqb b 92 ≡ false). e) (decided (eqb b 92))

    left-stops : (s : Bool) (b : ℕ) → picks b ≡ false → stops_name picks s b ≡ stops_name picks false b
    left-stops s b p = ap (λ (t : Bool). eqb b 10 || (t && not s)) p ∙ sym (ap (λ (t : Bool). eqb b 10 || (t && true)) p)

    -- a name is found in its spelling
    pub front-of : (s : Bool) (name rest : List ℕ) → ends_slash s name ≡ false → Unbroken name → EndsName picks rest
        → (name_front picks s (escaped picks name ++ rest) ≡ escaped picks name) × (name_rest picks s (escaped picks name ++ rest) ≡ rest)
    front-of s [] [] closed unbroken ends = (refl, refl)
    front-of s [] (r ∷ rest) closed unbroken ends =
        let stop : stops_name picks s r ≡ true = ap (λ (t : Bool). eqb r 10 || (picks r && not t)) closed ∙ ap (λ (t : Bool). eqb r 10 || (t && true)) ends ∙ or-true (eqb r 10) in
        (front-stops s r rest stop, rest-stops s r rest stop)
    front-of s (b ∷ name) rest closed unbroken ends =
        let both = front-of (eqb b 92) name rest closed (unbroken-behind b name unbroken) ends in
        ⊎_elim
        (λ (p : picks b ≡ true).
        let stop : stops_name picks s 92 ≡ false = ap (λ (t : Bool). t && not s) slash in
        let is = escaped-picked picks b name p in (
          ap (λ (t : List ℕ). name_front picks s (t ++ rest)) is
              ∙ front-goes s 92 (b ∷ (escaped picks name ++ rest)) stop
              ∙ ap (λ (t : List ℕ). 92 ∷ t) (front-goes true b (escaped picks name ++ rest) (picked-stops b p))
              ∙ ap (λ (t : List ℕ). 92 ∷ b ∷ t) both.0
              ∙ sym is,
          ap (λ (t : List ℕ). name_rest picks s (t ++ rest)) is
              ∙ rest-goes s 92 (b ∷ (escaped picks name ++ rest)) stop
              ∙ rest-goes true b (escaped picks name ++ rest) (picked-stops b p)
              ∙ both.1,
        ))
        (λ (p : picks b ≡ false).
        let stop : stops_name picks s b ≡ false = left-stops s b p ∙ ap (λ (t : Bool). t || (picks b && true)) (not-newline b (unbroken 0 0 (omega arith))) ∙ and-open (picks b) ∙ p in
        let is = escaped-left picks b name p in (
          ap (λ (t : List ℕ). name_front picks s (t ++ rest)) is ∙ front-goes s b (escaped picks name ++ rest) stop ∙ ap (λ (t : List ℕ). b ∷ t) both.0 ∙ sym is,
          ap (λ (t : List ℕ). name_rest picks s (t ++ rest)) is ∙ rest-goes s b (escaped picks name ++ rest) stop ∙ both.1,
        ))
        (decided (picks b))

    begins-left : (s : Bool) (b : ℕ) (text : List ℕ) → picks b ≡ false → begins_with picks (name_front picks s (b ∷ text)) ≡ false
    begins-left s b text p =
        ⊎_elim
        (λ (e : stops_name picks s b ≡ true). ap (λ (t : List ℕ). begins_with picks t) (front-stops s b text e))
        (λ (e : stops_name picks s b ≡ false). ap (λ (t : List ℕ). begins_with picks t) (front-goes s b text e) ∙ p)
        (decided (stops_name picks s b))

    same-front : (s : Bool) (b : ℕ) (text : List ℕ) → picks b ≡ false → name_front picks s (b ∷ text) ≡ name_front picks false (b ∷ text)
    same-front s b text p = ap (λ (t : Bool). cond t [] (b ∷ name_front picks (eqb b 92) text)) (left-stops s b p)

    goes-left : (b : ℕ) → stops_name picks false b ≡ false → picks b ≡ false
    goes-left b e = sym (and-open (picks b)) ∙ either-second (eqb b 10) (picks b && true) e

    kept-again : (b : ℕ) (front : List ℕ) → picks b ≡ false → (eqb b 92 && begins_with picks front) ≡ false → escaped picks (unescaped picks front) ≡ front → escaped picks (unescaped picks (b ∷ front)) ≡ b ∷ front
    kept-again b front p e again =
        ap (λ (t : List ℕ). escaped picks t) (unescaped-kept b front e) ∙ escaped-left picks b (unescaped picks front) p ∙ ap (λ (t : List ℕ). b ∷ t) again

    -- the front of a text is the spelling of the name that it spells
    pub spelled-again : (text : List ℕ) → escaped picks (unescaped picks (name_front picks false text)) ≡ name_front picks false text
    spelled-again [] = refl
    spelled-again (b ∷ []) =
        ⊎_elim
        (λ (e : stops_name picks false b ≡ true). ap (λ (t : List ℕ). escaped picks (unescaped picks t)) (front-stops false b [] e) ∙ sym (front-stops false b [] e))
        (λ (e : stops_name picks false b ≡ false).
        let is = front-goes false b [] e in
        ap (λ (t : List ℕ). escaped picks (unescaped picks t)) is ∙ kept-again b [] (goes-left b e) (and-shut (eqb b 92)) refl ∙ sym is)
        (decided (stops_name picks false b))
    spelled-again (b ∷ c ∷ text) =
        ⊎_elim
        (λ (e : stops_name picks false b ≡ true). ap (λ (t : List ℕ). escaped picks (unescaped picks t)) (front-stops false b (c ∷ text) e) ∙ sym (front-stops false b (c ∷ text) e))
        (λ (e : stops_name picks false b ≡ false).
        let is = front-goes false b (c ∷ text) e in
        let P : List ℕ → Type 0 = λ t. escaped picks (unescaped picks t) ≡ t in
        subst P (sym is)
        (⊎_elim
        (λ (q : picks c ≡ true).
        ⊎_elim
        (λ (f : eqb b 92 ≡ true).
        let one = picked-slash c q in
        let next : name_front picks (eqb b 92) (c ∷ text) ≡ c ∷ name_front picks false text =
        ap (λ (s : Bool). name_front picks s (c ∷ text)) f ∙ front-goes true c text (picked-stops c q) ∙ ap (λ (s : Bool). c ∷ name_front picks s text) one
        in
        subst (λ (t : List ℕ). P (b ∷ t)) (sym next)
        (ap (λ (t : List ℕ). escaped picks t) (unescaped-dropped b (c ∷ name_front picks false text) (ap (λ (t : Bool). t && picks c) f ∙ q))
        ∙ ap (λ (t : List ℕ). escaped picks t) (unescaped-kept c (name_front picks false text) (ap (λ (t : Bool). t && begins_with picks (name_front picks false text)) one))
        ∙ escaped-picked picks c (unescaped picks (name_front picks false text)) q
        ∙ ap (λ (t : List ℕ). 92 ∷ c ∷ t) (spelled-again text)
        ∙ ap (λ (x : ℕ). x ∷ c ∷ name_front picks false text) (sym (same-byte b 92 f))))
        (λ (f : eqb b 92 ≡ false).
        subst (λ (s : Bool). P (b ∷ name_front picks s (c ∷ text))) (sym f)
        (kept-again b (name_front picks false (c ∷ text)) (goes-left b e) (ap (λ (t : Bool). t && begins_with picks (name_front picks false (c ∷ text))) f) (spelled-again (c ∷ text))))
        (decided (eqb b 92)))
        (λ (q : picks c ≡ false).
        subst (λ (t : List ℕ). P (b ∷ t)) (sym (same-front (eqb b 92) c text q))
        (kept-again b (name_front picks false (c ∷ text)) (goes-left b e) (ap (λ (t : Bool). eqb b 92 && t) (begins-left false c text q) ∙ and-shut (eqb b 92)) (spelled-again (c ∷ text))))
        (decided (picks c))))
        (decided (stops_name picks false b))

    begins-escaped : (name : List ℕ) → begins_with picks (escaped picks name) ≡ false
    begins-escaped [] = refl
    begins-escaped (b ∷ name) =
        ⊎_elim
        (λ (p : picks b ≡ true). ap (λ (t : List ℕ). begins_with picks t) (escaped-picked picks b name p) ∙ slash)
        (λ (p : picks b ≡ false). ap (λ (t : List ℕ). begins_with picks t) (escaped-left picks b name p) ∙ p)
        (decided (picks b))

    -- a spelling spells its name
    pub unescaped-escaped : (name : List ℕ) → unescaped picks (escaped picks name) ≡ name
    unescaped-escaped [] = refl
    unescaped-escaped (b ∷ name) =
        ⊎_elim
        (λ (p : picks b ≡ true).
        ap (λ (t : List ℕ). unescaped picks t) (escaped-picked picks b name p)
        ∙ unescaped-dropped 92 (b ∷ escaped picks name) p
        ∙ unescaped-kept b (escaped picks name) (ap (λ (t : Bool). t && begins_with picks (escaped picks name)) (picked-slash b p))
        ∙ ap (λ (t : List ℕ). b ∷ t) (unescaped-escaped name))
        (λ (p : picks b ≡ false).
        ap (λ (t : List ℕ). unescaped picks t) (escaped-left picks b name p)
        ∙ unescaped-kept b (escaped picks name) (ap (λ (t : Bool). eqb b 92 && t) (begins-escaped name) ∙ and-shut (eqb b 92))
        ∙ ap (λ (t : List ℕ). b ∷ t) (unescaped-escaped name))
        (decided (picks b))

    -- the first name of a text, by its front and its rest
    pub name-first : (text spelled rest : List ℕ) → spelled ≡ name_front picks false text → rest ≡ name_rest picks false text → 0 < length spelled → get_or spelled (length spelled - 1) 0 ≢ 92
        → begins_with (λ byte. eqb byte 10) rest ≡ false → IsNameFirst picks spelled rest text
    name-first text spelled rest f r some closed unbroken =
        let again : escaped picks (unescaped picks spelled) ≡ spelled = subst (λ (t : List ℕ). escaped picks (unescaped picks t) ≡ t) (sym f) (spelled-again text) in
        record {
          name = unescaped picks spelled;
          named = named-spelling (unescaped picks spelled) spelled again (subst Unbroken (sym f) (front-unbroken false text)) some closed;
          spelling = sym again;
          whole = sym (front-rest false text) ∙ ap (λ (t : List ℕ). t ++ name_rest picks false text) (sym f) ∙ ap (λ (t : List ℕ). spelled ++ t) (sym r);
          ends = subst (EndsName picks) (sym r) (rest-ends false text (subst (λ (t : List ℕ). begins_with (λ byte. eqb byte 10) t ≡ false) r unbroken));
        }

    closed-name : (name : List ℕ) → IsName name → ends_slash false name ≡ false
    closed-name [] is = refl
    closed-name (b ∷ name) is = slash-last false b name (λ e. is.closed (last-name b name ∙ e))

    -- what a text begins with that begins with a name
    pub name-found : (text name rest : List ℕ) → IsName name → EndsName picks rest → text ≡ escaped picks name ++ rest → (name_front picks false text ≡ escaped picks name) × (name_rest picks false text ≡ rest)
    name-found text name rest is ends e =
        let both = front-of false name rest (closed-name name is) is.one_line ends in
        (ap (λ (t : List ℕ). name_front picks false t) e ∙ both.0, ap (λ (t : List ℕ). name_rest picks false t) e ∙ both.1)

    ends-line : (rest : List ℕ) → EndsName picks rest → begins_with (λ byte. eqb byte 10) rest ≡ false
    ends-line [] ends = refl
    ends-line (b ∷ rest) ends = ⊎_elim (λ (e : eqb b 10 ≡ true). absurd (false≢true (sym newline ∙ ap picks (sym (same-byte b 10 e)) ∙ ends))) (λ (e : eqb b 10 ≡ false). e) (decided (eqb b 10))

    -- no name stands where the front is empty or ends with a backslash
    pub open-front : (text spelled : List ℕ) → spelled ≡ name_front picks false text → (0 < length spelled → get_or spelled (length spelled - 1) 0 ≡ 92)
        → (name rest : List ℕ) → IsName name → EndsName picks rest → text ≡ escaped picks name ++ rest → ⊥
    open-front text spelled f open_end name rest is ends e =
        let same : spelled ≡ escaped picks name = f ∙ (name-found text name rest is ends e).0 in
        is.closed (sym (same-last name) ∙ ap (λ (t : List ℕ). get_or t (length t - 1) 0) (sym same) ∙ open_end (subst (λ (t : List ℕ). 0 < length t) (sym same) (some-escaped name is.not_empty)))

    -- nor where a newline stands behind it
    pub broken-rest : (text behind : List ℕ) → behind ≡ name_rest picks false text → begins_with (λ byte. eqb byte 10) behind ≡ true
        → (name rest : List ℕ) → IsName name → EndsName picks rest → text ≡ escaped picks name ++ rest → ⊥
    broken-rest text behind r broken name rest is ends e =
        false≢true (sym (ends-line rest ends) ∙ ap (λ (t : List ℕ). begins_with (λ byte. eqb byte 10) t) (sym (r ∙ (name-found text name rest is ends e).1)) ∙ broken)
