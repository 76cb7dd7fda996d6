use Rattle.std.proofs.Common.{◌≡◌, ◌≢◌, ℕ, suc, ◌≤◌, Bool, true, false, cond, not, ◌&&◌, ◌||◌, eqb, ⊎_elim, List, [], ◌∷◌, ◌++◌, length, refl, sym, ap, subst, ◌∙◌, arith}
use Rattle.std.specs.List.{All}
use Rattle.std.proofs.lemmas.Bool.{false≢true}
use Rattle.std.proofs.lemmas.Bool.Decides.{nat_tests}
use Rattle.tsdb_types.specs.Series.{escaped, measurement_ends_at, tag_ends_at}
use Rattle.tsdb_types.specs.Spelled.{unescaped, EndsName, name_front}
use Rattle.tsdb_types.proofs.SpelledLemmas.{spelled-again}
use Rattle.line_protocol.specs.Parts.{front, rest}
use Rattle.line_protocol.specs.Tokens.{front_where, rest_where, starts_with}
use Rattle.line_protocol.proofs.PartLemmas.{decided}

module _ (P : ℕ → Bool) where
  pub front-at : (s : Bool) (b : ℕ) (text : List ℕ) → (P b && not s) ≡ true → front_where P s (b ∷ text) ≡ []
  front-at s b text e = ap (λ (t : Bool). cond t [] (b ∷ front_where P (eqb b 92) text)) e

  pub rest-at : (s : Bool) (b : ℕ) (text : List ℕ) → (P b && not s) ≡ true → rest_where P s (b ∷ text) ≡ b ∷ text
  rest-at s b text e = ap (λ (t : Bool). cond t (b ∷ text) (rest_where P (eqb b 92) text)) e

  pub front-on : (s : Bool) (b : ℕ) (text : List ℕ) → (P b && not s) ≡ false → front_where P s (b ∷ text) ≡ b ∷ front_where P (eqb b 92) text
  front-on s b text e = ap (λ (t : Bool). cond t [] (b ∷ front_where P (eqb b 92) text)) e

  pub rest-on : (s : Bool) (b : ℕ) (text : List ℕ) → (P b && not s) ≡ false → rest_where P s (b ∷ text) ≡ rest_where P (eqb b 92) text
  rest-on s b text e = ap (λ (t : Bool). cond t (b ∷ text) (rest_where P (eqb b 92) text)) e

both-first : (a b : Bool) → (a && b) ≡ true → a ≡ true
both-first true b e = refl
both-first false b e = absurd (false≢true e)

pub open-slash : (a s : Bool) → (a && not s) ≡ true → s ≡ false
open-slash true true e = absurd (false≢true e)
open-slash true false e = refl
open-slash false s e = absurd (false≢true e)

or-first : (a b s : Bool) → (a && not s) ≡ true → ((a || b) && not s) ≡ true
or-first true b s e = e
or-first false b s e = absurd (false≢true e)

or-second : (a b s : Bool) → (b && not s) ≡ true → ((a || b) && not s) ≡ true
or-second true true s e = e
or-second true false s e = absurd (false≢true e)
or-second false b s e = e

or-neither : (a b s : Bool) → (a && not s) ≡ false → (b && not s) ≡ false → ((a || b) && not s) ≡ false
or-neither true b s e f = e
or-neither false b s e f = f

-- where each mark of P is one of Q
module _ (P Q : ℕ → Bool) (within : (b : ℕ) → P b ≡ true → Q b ≡ true) where
  within-shut : (s : Bool) (b : ℕ) → (Q b && not s) ≡ false → (P b && not s) ≡ false
  within-shut s b e =
      ⊎_elim
      (λ (p : P b ≡ true). ap (λ (t : Bool). t && not s) p ∙ ap (λ (t : Bool). t && not s) (sym (within b p)) ∙ e)
      (λ (p : P b ≡ false). ap (λ (t : Bool). t && not s) p)
      (decided (P b))

  -- up to a mark of P is up to a mark of Q, and on from there
  pub front-both : (s : Bool) (text : List ℕ) → front_where P s text ≡ front_where Q s text ++ front_where P false (rest_where Q s text)
  front-both s [] = refl
  front-both s (b ∷ text) =
      ⊎_elim
      (λ (e : (Q b && not s) ≡ true).
      ap (λ (t : Bool). front_where P t (b ∷ text)) (open-slash (Q b) s e)
      ∙ sym (ap (λ (t : List ℕ). t ++ front_where P false (rest_where Q s (b ∷ text))) (front-at Q s b text e) ∙ ap (λ (t : List ℕ). front_where P false t) (rest-at Q s b text e)))
      (λ (e : (Q b && not s) ≡ false).
      front-on P s b text (within-shut s b e)
      ∙ ap (λ (t : List ℕ). b ∷ t) (front-both (eqb b 92) text)
      ∙ sym (ap (λ (t : List ℕ). t ++ front_where P false (rest_where Q s (b ∷ text))) (front-on Q s b text e) ∙ ap (λ (t : List ℕ). b ∷ (front_where Q (eqb b 92) text ++ front_where P false t)) (rest-on Q s b text e)))
      (decided (Q b && not s))

  pub rest-both : (s : Bool) (text : List ℕ) → rest_where P s text ≡ rest_where P false (rest_where Q s text)
  rest-both s [] = refl
  rest-both s (b ∷ text) =
      ⊎_elim
      (λ (e : (Q b && not s) ≡ true).
      ap (λ (t : Bool). rest_where P t (b ∷ text)) (open-slash (Q b) s e) ∙ sym (ap (λ (t : List ℕ). rest_where P false t) (rest-at Q s b text e)))
      (λ (e : (Q b && not s) ≡ false).
      rest-on P s b text (within-shut s b e) ∙ rest-both (eqb b 92) text ∙ sym (ap (λ (t : List ℕ). rest_where P false t) (rest-on Q s b text e)))
      (decided (Q b && not s))

-- where the marks of U are those of P and those of Q
module _ (P Q U : ℕ → Bool) (union : (b : ℕ) → U b ≡ (P b || Q b)) where
  -- a cut at a mark of Q and then at one of P
  pub front-nested : (s : Bool) (text : List ℕ) → front_where P s (front_where Q s text) ≡ front_where U s text
  front-nested s [] = refl
  front-nested s (b ∷ text) =
      ⊎_elim
      (λ (q : (Q b && not s) ≡ true).
      ap (λ (t : List ℕ). front_where P s t) (front-at Q s b text q)
      ∙ sym (front-at U s b text (ap (λ (t : Bool). t && not s) (union b) ∙ or-second (P b) (Q b) s q)))
      (λ (q : (Q b && not s) ≡ false).
      ap (λ (t : List ℕ). front_where P s t) (front-on Q s b text q)
      ∙ ⊎_elim
      (λ (p : (P b && not s) ≡ true).
      front-at P s b (front_where Q (eqb b 92) text) p ∙ sym (front-at U s b text (ap (λ (t : Bool). t && not s) (union b) ∙ or-first (P b) (Q b) s p)))
      (λ (p : (P b && not s) ≡ false).
      front-on P s b (front_where Q (eqb b 92) text) p
      ∙ ap (λ (t : List ℕ). b ∷ t) (front-nested (eqb b 92) text)
      ∙ sym (front-on U s b text (ap (λ (t : Bool). t && not s) (union b) ∙ or-neither (P b) (Q b) s p q)))
      (decided (P b && not s)))
      (decided (Q b && not s))

  pub rest-nested : (s : Bool) (text : List ℕ) → rest_where P s (front_where Q s text) ≡ front_where Q false (rest_where U s text)
  rest-nested s [] = refl
  rest-nested s (b ∷ text) =
      ⊎_elim
      (λ (q : (Q b && not s) ≡ true).
      let u = ap (λ (t : Bool). t && not s) (union b) ∙ or-second (P b) (Q b) s q in
      ap (λ (t : List ℕ). rest_where P s t) (front-at Q s b text q)
      ∙ sym (ap (λ (t : List ℕ). front_where Q false t) (rest-at U s b text u) ∙ front-at Q false b text (ap (λ (t : Bool). Q b && not t) (sym (open-slash (Q b) s q)) ∙ q)))
      (λ (q : (Q b && not s) ≡ false).
      ap (λ (t : List ℕ). rest_where P s t) (front-on Q s b text q)
      ∙ ⊎_elim
      (λ (p : (P b && not s) ≡ true).
      let u = ap (λ (t : Bool). t && not s) (union b) ∙ or-first (P b) (Q b) s p in
      let none : (Q b && true) ≡ false = ap (λ (t : Bool). Q b && not t) (sym (open-slash (P b) s p)) ∙ q in
      rest-at P s b (front_where Q (eqb b 92) text) p
      ∙ sym (ap (λ (t : List ℕ). front_where Q false t) (rest-at U s b text u) ∙ front-on Q false b text none))
      (λ (p : (P b && not s) ≡ false).
      rest-on P s b (front_where Q (eqb b 92) text) p
      ∙ rest-nested (eqb b 92) text
      ∙ sym (ap (λ (t : List ℕ). front_where Q false t) (rest-on U s b text (ap (λ (t : Bool). t && not s) (union b) ∙ or-neither (P b) (Q b) s p q))))
      (decided (P b && not s)))
      (decided (Q b && not s))

-- a rest is empty, or begins with a mark
pub rest-ends : (P : ℕ → Bool) (s : Bool) (text : List ℕ) → EndsName P (rest_where P s text)
rest-ends P s [] = tt
rest-ends P s (b ∷ text) =
    ⊎_elim
    (λ (e : (P b && not s) ≡ true). subst (EndsName P) (sym (rest-at P s b text e)) (both-first (P b) (not s) e))
    (λ (e : (P b && not s) ≡ false). subst (EndsName P) (sym (rest-on P s b text e)) (rest-ends P (eqb b 92) text))
    (decided (P b && not s))

and-open : (a : Bool) → (a && true) ≡ a
and-open true = refl
and-open false = refl

-- nothing stands before a mark
pub ended-front : (P : ℕ → Bool) (text : List ℕ) → EndsName P text → front_where P false text ≡ []
ended-front P [] e = refl
ended-front P (b ∷ text) e = front-at P false b text (and-open (P b) ∙ e)

pub ended-rest : (P : ℕ → Bool) (text : List ℕ) → EndsName P text → rest_where P false text ≡ text
ended-rest P [] e = refl
ended-rest P (b ∷ text) e = rest-at P false b text (and-open (P b) ∙ e)

abbrev pub mark_of : ℕ → ℕ → Bool
mark_of mark byte = eqb byte mark

pub front-mark : (mark : ℕ) (s : Bool) (text : List ℕ) → front mark s text ≡ front_where (mark_of mark) s text
front-mark mark s text = refl

pub rest-mark : (mark : ℕ) (s : Bool) (text : List ℕ) → rest mark s text ≡ rest_where (mark_of mark) s text
rest-mark mark s text = refl

same-byte : (b c : ℕ) → eqb b c ≡ true → b ≡ c
same-byte b c e = grind (arith, nat_tests)

byte-turned : (b c : ℕ) → eqb b c ≡ eqb c b
byte-turned b c = grind (arith, nat_tests)

within-mark : (mark : ℕ) (Q : ℕ → Bool) → Q mark ≡ true → (b : ℕ) → mark_of mark b ≡ true → Q b ≡ true
within-mark mark Q is b e = ap Q (same-byte b mark e) ∙ is

or-none : (x y : Bool) → (x || (y || false)) ≡ (x || y)
or-none true y = refl
or-none false true = refl
or-none false false = refl

or-moved : (x y z : Bool) → (x || (y || z)) ≡ (y || (x || z))
or-moved true true z = refl
or-moved true false z = refl
or-moved false y z = refl

-- what ends a measurement: a comma or a space
pub measurement-union : (b : ℕ) → measurement_ends_at b ≡ (mark_of 44 b || mark_of 32 b)
measurement-union b = or-none (eqb 44 b) (eqb 32 b) ∙ ap (λ (t : Bool). t || eqb 32 b) (byte-turned 44 b) ∙ ap (λ (t : Bool). eqb b 44 || t) (byte-turned 32 b)

-- and what ends a part of a tag: that, or an equals sign
pub tag-union : (b : ℕ) → tag_ends_at b ≡ (mark_of 61 b || measurement_ends_at b)
tag-union b = or-moved (eqb 44 b) (eqb 61 b) (eqb 32 b || false) ∙ ap (λ (t : Bool). t || measurement_ends_at b) (byte-turned 61 b)

or-true : (a : Bool) → (a || true) ≡ true
or-true true = refl
or-true false = refl

pub measurement-within : (b : ℕ) → measurement_ends_at b ≡ true → tag_ends_at b ≡ true
measurement-within b e = tag-union b ∙ ap (λ (t : Bool). mark_of 61 b || t) e ∙ or-true (mark_of 61 b)

pub space-within : (b : ℕ) → mark_of 32 b ≡ true → tag_ends_at b ≡ true
space-within = within-mark 32 tag_ends_at refl

pub space-measurement : (b : ℕ) → mark_of 32 b ≡ true → measurement_ends_at b ≡ true
space-measurement = within-mark 32 measurement_ends_at refl

-- a tag's end without an equals sign is that of a measurement
pub tag-end : (text : List ℕ) → EndsName tag_ends_at text → starts_with 61 text ≡ false → EndsName measurement_ends_at text
tag-end [] ends other = tt
tag-end (b ∷ text) ends other = ap (λ (t : Bool). t || measurement_ends_at b) (sym other) ∙ sym (tag-union b) ∙ ends

-- the front of a text without a newline spells a name
abbrev Unbroken : List ℕ → Type 0
Unbroken text = All (λ byte. byte ≢ 10) text

unbroken-behind : (b : ℕ) (text : List ℕ) → Unbroken (b ∷ text) → Unbroken text
unbroken-behind b text h = λ k d l. h (suc k) d (omega arith)

not-newline : (b : ℕ) → b ≢ 10 → eqb b 10 ≡ false
not-newline b h = grind (arith, nat_tests)

name-where : (P : ℕ → Bool) (s : Bool) (text : List ℕ) → Unbroken text → name_front P s text ≡ front_where P s text
name-where P s [] h = refl
name-where P s (b ∷ text) h =
    ap (λ (t : Bool). cond (t || (P b && not s)) [] (b ∷ name_front P (eqb b 92) text)) (not-newline b (h 0 0 (omega arith)))
    ∙ ap (λ (t : List ℕ). cond (P b && not s) [] (b ∷ t)) (name-where P (eqb b 92) text (unbroken-behind b text h))

pub front-spelled : (P : ℕ → Bool) → P 92 ≡ false → P 10 ≡ false → (text : List ℕ) → Unbroken text → escaped P (unescaped P (front_where P false text)) ≡ front_where P false text
front-spelled P slash newline text h =
    subst (λ (t : List ℕ). escaped P (unescaped P t) ≡ t) (name-where P false text h) (spelled-again P slash newline text)

pub rest-unbroken : (P : ℕ → Bool) (s : Bool) (text : List ℕ) → Unbroken text → Unbroken (rest_where P s text)
rest-unbroken P s [] h = h
rest-unbroken P s (b ∷ text) h =
    ⊎_elim
    (λ (e : (P b && not s) ≡ true). subst Unbroken (sym (rest-at P s b text e)) h)
    (λ (e : (P b && not s) ≡ false). subst Unbroken (sym (rest-on P s b text e)) (rest-unbroken P (eqb b 92) text (unbroken-behind b text h)))
    (decided (P b && not s))

pub front-rest : (P : ℕ → Bool) (s : Bool) (text : List ℕ) → front_where P s text ++ rest_where P s text ≡ text
front-rest P s [] = refl
front-rest P s (b ∷ text) =
    ⊎_elim
    (λ (e : (P b && not s) ≡ true). ap (λ (t : List ℕ). t ++ rest_where P s (b ∷ text)) (front-at P s b text e) ∙ rest-at P s b text e)
    (λ (e : (P b && not s) ≡ false).
    ap (λ (t : List ℕ). t ++ rest_where P s (b ∷ text)) (front-on P s b text e)
    ∙ ap (λ (t : List ℕ). b ∷ (front_where P (eqb b 92) text ++ t)) (rest-on P s b text e)
    ∙ ap (λ (t : List ℕ). b ∷ t) (front-rest P (eqb b 92) text))
    (decided (P b && not s))

pub rest-le : (P : ℕ → Bool) (s : Bool) (text : List ℕ) → length (rest_where P s text) ≤ length text
rest-le P s [] = omega arith
rest-le P s (b ∷ text) =
    ⊎_elim
    (λ (e : (P b && not s) ≡ true). omega (arith, ap (λ (t : List ℕ). length t) (rest-at P s b text e)))
    (λ (e : (P b && not s) ≡ false). omega (arith, ap (λ (t : List ℕ). length t) (rest-on P s b text e), rest-le P (eqb b 92) text))
    (decided (P b && not s))
