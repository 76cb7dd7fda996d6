use Rattle.std.proofs.Common.{◌≡◌, ℕ, zero, suc, ◌<◌, ◌≤◌, Bool, true, false, cond, not, ◌&&◌, eqb, ◌⊎◌, inl, inr, ⊎_elim, List, [], ◌∷◌, ◌++◌, length, get_or, take, drop, refl, sym, ap, ◌∙◌, arith}
use Rattle.std.proofs.lemmas.Bool.{false≢true}
use Rattle.std.proofs.lemmas.Bool.Decides.{nat_tests}
use Rattle.std.specs.List.{onto_first, slice_split}
use Rattle.line_protocol.specs.Parts.{front, rest, parts, parts_behind, line_front, line_rest, lines_behind, slashed, is_blank, unspaced_end}

pub decided : (b : Bool) → (b ≡ true) ⊎ (b ≡ false)
decided true = inl refl
decided false = inr refl

pub front-stops : (mark : ℕ) (slash : Bool) (byte : ℕ) (text : List ℕ) → (eqb byte mark && not slash) ≡ true → front mark slash (byte ∷ text) ≡ []
front-stops mark slash byte text e = ap (λ (t : Bool). cond t [] (byte ∷ front mark (eqb byte 92) text)) e

pub rest-stops : (mark : ℕ) (slash : Bool) (byte : ℕ) (text : List ℕ) → (eqb byte mark && not slash) ≡ true → rest mark slash (byte ∷ text) ≡ byte ∷ text
rest-stops mark slash byte text e = ap (λ (t : Bool). cond t (byte ∷ text) (rest mark (eqb byte 92) text)) e

is_blank-space : (xs : List ℕ) → is_blank (xs ++ 32 ∷ []) ≡ is_blank xs
is_blank-space [] = refl
is_blank-space (b ∷ xs) = ap (λ (t : Bool). eqb b 32 && t) (is_blank-space xs)

and-no : (b : Bool) → (b && false) ≡ false
and-no true = refl
and-no false = refl

is_blank-other : (xs : List ℕ) (c : ℕ) → eqb c 32 ≡ false → is_blank (xs ++ c ∷ []) ≡ false
is_blank-other [] c e = ap (λ (t : Bool). t && true) e
is_blank-other (b ∷ xs) c e = ap (λ (t : Bool). eqb b 32 && t) (is_blank-other xs c e) ∙ and-no (eqb b 32)

first : (a b : Bool) → (a && b) ≡ true → a ≡ true
first true b e = refl
first false b e = absurd (false≢true e)

second : (a b : Bool) → (a && b) ≡ true → b ≡ true
second true b e = e
second false b e = absurd (false≢true e)

not-slash : (b : ℕ) → eqb b 32 ≡ true → eqb b 92 ≡ false
not-slash b e = grind (arith, nat_tests)

-- a text of spaces alone ends with no backslash
blank-open : (slash : Bool) (b : ℕ) (xs : List ℕ) → is_blank (b ∷ xs) ≡ true → slashed slash (b ∷ xs) ≡ false
blank-open slash b [] e = not-slash b (first (eqb b 32) true e)
blank-open slash b (c ∷ xs) e = blank-open (eqb b 92) c xs (second (eqb b 32) (is_blank (c ∷ xs)) e)

pub end-space : (slash : Bool) (xs : List ℕ) → slashed slash xs ≡ false → unspaced_end slash (xs ++ 32 ∷ []) ≡ unspaced_end slash xs
end-space slash [] e = ap (λ (t : Bool). cond (not t) [] (32 ∷ [])) e
end-space slash (b ∷ xs) e =
    ap (λ (t : Bool). cond (t && not slash) [] (b ∷ unspaced_end (eqb b 92) (xs ++ 32 ∷ []))) (is_blank-space (b ∷ xs))
    ∙ ap (λ (t : List ℕ). cond (is_blank (b ∷ xs) && not slash) [] (b ∷ t)) (end-space (eqb b 92) xs e)

pub end-kept : (slash : Bool) (xs : List ℕ) (c : ℕ) → eqb c 32 ≡ false → unspaced_end slash (xs ++ c ∷ []) ≡ xs ++ c ∷ []
end-kept slash [] c e = ap (λ (t : Bool). cond ((t && true) && not slash) [] (c ∷ [])) e
end-kept slash (b ∷ xs) c e =
    ap (λ (t : Bool). cond (t && not slash) [] (b ∷ unspaced_end (eqb b 92) (xs ++ c ∷ []))) (is_blank-other (b ∷ xs) c e)
    ∙ ap (λ (t : List ℕ). b ∷ t) (end-kept (eqb b 92) xs c e)

pub end-escaped : (slash : Bool) (xs : List ℕ) → slashed slash xs ≡ true → unspaced_end slash (xs ++ 32 ∷ []) ≡ xs ++ 32 ∷ []
end-escaped slash [] e = ap (λ (t : Bool). cond (not t) [] (32 ∷ [])) e
end-escaped slash (b ∷ xs) e =
    let open_end : is_blank (b ∷ xs) ≡ false = ⊎_elim (λ (t : is_blank (b ∷ xs) ≡ true). absurd (false≢true (sym (blank-open slash b xs t) ∙ e))) (λ (f : is_blank (b ∷ xs) ≡ false). f) (decided (is_blank (b ∷ xs))) in
    ap (λ (t : Bool). cond (t && not slash) [] (b ∷ unspaced_end (eqb b 92) (xs ++ 32 ∷ []))) (is_blank-space (b ∷ xs) ∙ open_end)
    ∙ ap (λ (t : List ℕ). b ∷ t) (end-escaped (eqb b 92) xs e)

-- the last byte tells it
pub slashed-last : (slash : Bool) (xs : List ℕ) (c : ℕ) → slashed slash (xs ++ c ∷ []) ≡ eqb c 92
slashed-last slash [] c = refl
slashed-last slash (b ∷ xs) c = slashed-last (eqb b 92) xs c

parts-stop : (mark : ℕ) (slash : Bool) (byte : ℕ) (text : List ℕ) → (eqb byte mark && not slash) ≡ true → parts mark slash (byte ∷ text) ≡ [] ∷ parts mark false text
parts-stop mark slash byte text e = ap (λ (t : Bool). cond t ([] ∷ parts mark false text) (onto_first byte (parts mark (eqb byte 92) text))) e

parts-go : (mark : ℕ) (slash : Bool) (byte : ℕ) (text : List ℕ) → (eqb byte mark && not slash) ≡ false → parts mark slash (byte ∷ text) ≡ onto_first byte (parts mark (eqb byte 92) text)
parts-go mark slash byte text e = ap (λ (t : Bool). cond t ([] ∷ parts mark false text) (onto_first byte (parts mark (eqb byte 92) text))) e

pub front-goes : (mark : ℕ) (slash : Bool) (byte : ℕ) (text : List ℕ) → (eqb byte mark && not slash) ≡ false → front mark slash (byte ∷ text) ≡ byte ∷ front mark (eqb byte 92) text
front-goes mark slash byte text e = ap (λ (t : Bool). cond t [] (byte ∷ front mark (eqb byte 92) text)) e

pub rest-goes : (mark : ℕ) (slash : Bool) (byte : ℕ) (text : List ℕ) → (eqb byte mark && not slash) ≡ false → rest mark slash (byte ∷ text) ≡ rest mark (eqb byte 92) text
rest-goes mark slash byte text e = ap (λ (t : Bool). cond t (byte ∷ text) (rest mark (eqb byte 92) text)) e

-- the first part, and the parts behind its mark
pub parts-first : (mark : ℕ) (slash : Bool) (text : List ℕ) → parts mark slash text ≡ front mark slash text ∷ parts_behind mark (rest mark slash text)
parts-first mark slash [] = refl
parts-first mark slash (byte ∷ text) =
    ⊎_elim
    (λ (e : (eqb byte mark && not slash) ≡ true).
    parts-stop mark slash byte text e
    ∙ ap (λ (t : List ℕ). t ∷ parts mark false text) (sym (front-stops mark slash byte text e))
    ∙ ap (λ (t : List ℕ). front mark slash (byte ∷ text) ∷ parts_behind mark t) (sym (rest-stops mark slash byte text e)))
    (λ (e : (eqb byte mark && not slash) ≡ false).
    parts-go mark slash byte text e
    ∙ ap (λ (ps : List (List ℕ)). onto_first byte ps) (parts-first mark (eqb byte 92) text)
    ∙ ap (λ (t : List ℕ). t ∷ parts_behind mark (rest mark (eqb byte 92) text)) (sym (front-goes mark slash byte text e))
    ∙ ap (λ (t : List ℕ). front mark slash (byte ∷ text) ∷ parts_behind mark t) (sym (rest-goes mark slash byte text e)))
    (decided (eqb byte mark && not slash))

-- a mark, the first part behind it, and the parts behind that
pub parts-step : (mark : ℕ) (left : List ℕ) (first : ℕ) (behind part after : List ℕ) → left ≡ first ∷ behind → part ≡ front mark false behind → after ≡ rest mark false behind → parts_behind mark left ≡ part ∷ parts_behind mark after
parts-step mark left first behind part after e p a =
    ap (λ (t : List ℕ). parts_behind mark t) e
    ∙ parts-first mark false behind
    ∙ ap (λ (t : List ℕ). t ∷ parts_behind mark (rest mark false behind)) (sym p)
    ∙ ap (λ (t : List ℕ). part ∷ parts_behind mark t) (sym a)

-- what stands from a mark on is no longer than the whole
pub rest-le : (mark : ℕ) (slash : Bool) (text : List ℕ) → length (rest mark slash text) ≤ length text
rest-le mark slash [] = omega arith
rest-le mark slash (byte ∷ text) =
    ⊎_elim
    (λ (e : (eqb byte mark && not slash) ≡ true). omega (arith, ap (λ (t : List ℕ). length t) (rest-stops mark slash byte text e)))
    (λ (e : (eqb byte mark && not slash) ≡ false). omega (arith, ap (λ (t : List ℕ). length t) (rest-goes mark slash byte text e), rest-le mark (eqb byte 92) text))
    (decided (eqb byte mark && not slash))

-- the first line, and the lines behind its newline
pub lines-first : (text : List ℕ) → slice_split (λ byte. eqb byte 10) text ≡ line_front text ∷ lines_behind (line_rest text)
lines-first [] = refl
lines-first (byte ∷ text) =
    ⊎_elim
    (λ (e : eqb byte 10 ≡ true).
    ap (λ (t : Bool). cond t ([] ∷ slice_split (λ b. eqb b 10) text) (onto_first byte (slice_split (λ b. eqb b 10) text))) e
    ∙ sym (ap (λ (t : Bool). cond t [] (byte ∷ line_front text) ∷ lines_behind (cond t (byte ∷ text) (line_rest text))) e))
    (λ (e : eqb byte 10 ≡ false).
    ap (λ (t : Bool). cond t ([] ∷ slice_split (λ b. eqb b 10) text) (onto_first byte (slice_split (λ b. eqb b 10) text))) e
    ∙ ap (λ (ls : List (List ℕ)). onto_first byte ls) (lines-first text)
    ∙ sym (ap (λ (t : Bool). cond t [] (byte ∷ line_front text) ∷ lines_behind (cond t (byte ∷ text) (line_rest text))) e))
    (decided (eqb byte 10))

pub line_rest-le : (text : List ℕ) → length (line_rest text) ≤ length text
line_rest-le [] = omega arith
line_rest-le (byte ∷ text) =
    ⊎_elim
    (λ (e : eqb byte 10 ≡ true). omega (arith, ap (λ (t : Bool). length (cond t (byte ∷ text) (line_rest text))) e))
    (λ (e : eqb byte 10 ≡ false). omega (arith, ap (λ (t : Bool). length (cond t (byte ∷ text) (line_rest text))) e, line_rest-le text))
    (decided (eqb byte 10))

-- the first part, and the parts behind it
pub parts-cut : (mark : ℕ) (left part after : List ℕ) → part ≡ front mark false left → after ≡ rest mark false left → parts mark false left ≡ part ∷ parts_behind mark after
parts-cut mark left part after p a =
    parts-first mark false left
    ∙ ap (λ (t : List ℕ). t ∷ parts_behind mark (rest mark false left)) (sym p)
    ∙ ap (λ (t : List ℕ). part ∷ parts_behind mark t) (sym a)

-- the first line of a text, where its newline was found
pub line-at : (text : List ℕ) (at : ℕ) → at < length text → ((k : ℕ) → k < at → eqb (get_or text k 0) 10 ≡ true → ⊥) → eqb (get_or text at 0) 10 ≡ true → (take at text ≡ line_front text) × (drop at text ≡ line_rest text)
line-at [] at l before is = absurd (omega arith)
line-at (b ∷ text) zero l before is = (
  sym (ap (λ (t : Bool). cond t [] (b ∷ line_front text)) is),
  sym (ap (λ (t : Bool). cond t (b ∷ text) (line_rest text)) is),
)
line-at (b ∷ text) (suc at) l before is =
    let other : eqb b 10 ≡ false = ⊎_elim (λ (e : eqb b 10 ≡ true). absurd (before 0 (omega arith) e)) (λ (e : eqb b 10 ≡ false). e) (decided (eqb b 10)) in
    let behind = line-at text at (omega arith) (λ k m. before (suc k) (omega arith)) is in (
      ap (λ (t : List ℕ). b ∷ t) behind.0 ∙ sym (ap (λ (t : Bool). cond t [] (b ∷ line_front text)) other),
      behind.1 ∙ sym (ap (λ (t : Bool). cond t (b ∷ text) (line_rest text)) other),
    )

-- and where none was
pub line-whole : (text : List ℕ) → ((k : ℕ) → k < length text → eqb (get_or text k 0) 10 ≡ true → ⊥) → (text ≡ line_front text) × ([] ≡ line_rest text)
line-whole [] none = (refl, refl)
line-whole (b ∷ text) none =
    let other : eqb b 10 ≡ false = ⊎_elim (λ (e : eqb b 10 ≡ true). absurd (none 0 (omega arith) e)) (λ (e : eqb b 10 ≡ false). e) (decided (eqb b 10)) in
    let behind = line-whole text (λ k l. none (suc k) (omega arith)) in (
      ap (λ (t : List ℕ). b ∷ t) behind.0 ∙ sym (ap (λ (t : Bool). cond t [] (b ∷ line_front text)) other),
      behind.1 ∙ sym (ap (λ (t : Bool). cond t (b ∷ text) (line_rest text)) other),
    )
