-- Where a line is cut no backslash stands before the mark, so that names don't end with one and a series begins with its measurement.
use Rattle.std.proofs.Common.{◌≡◌, ◌≢◌, ℕ, Bool, true, false, cond, not, ◌&&◌, eqb, ⊎_elim, List, [], ◌∷◌, ◌++◌, refl, sym, ap, ◌∙◌, arith}
use Rattle.std.proofs.lemmas.Bool.{false≢true}
use Rattle.std.proofs.lemmas.Bool.Decides.{nat_tests}
use Rattle.std.proofs.lemmas.List.{append-nil}
use Rattle.tsdb_types.specs.Series.{escaped, measurement_ends_at, measurement_text, tags_text, IsKeyOf}
use Rattle.tsdb_types.specs.declared.tag.Tag.{Tag}
use Rattle.point_model.specs.Measurements.{head_behind, measurement_head}
use Rattle.line_protocol.specs.Heads.{measurement_part, measurement_of}
use Rattle.line_protocol.specs.Lines.{head_of, fields_text}
use Rattle.line_protocol.specs.Names.{begins_with, unescaped}
use Rattle.line_protocol.specs.Parts.{front, rest, unspaced, slashed}
use Rattle.line_protocol.specs.Texts.{IsClosed}
use Rattle.line_protocol.proofs.PartLemmas.{decided, front-stops, rest-stops, front-goes, rest-goes}

no-and : (a b : Bool) → (a && not b) ≡ true → b ≡ false
no-and true true e = absurd (false≢true e)
no-and true false e = refl
no-and false b e = absurd (false≢true e)

-- the front of a text that has a mark is closed
front-closed : (mark : ℕ) (slash : Bool) (text : List ℕ) → rest mark slash text ≢ [] → slashed slash (front mark slash text) ≡ false
front-closed mark slash [] some = absurd (some refl)
front-closed mark slash (byte ∷ text) some =
    ⊎_elim
    (λ (e : (eqb byte mark && not slash) ≡ true).
    ap (λ (t : List ℕ). slashed slash t) (front-stops mark slash byte text e) ∙ no-and (eqb byte mark) slash e)
    (λ (e : (eqb byte mark && not slash) ≡ false).
    ap (λ (t : List ℕ). slashed slash t) (front-goes mark slash byte text e)
    ∙ front-closed mark (eqb byte 92) text (λ none. some (rest-goes mark slash byte text e ∙ none)))
    (decided (eqb byte mark && not slash))

pub front-rest : (mark : ℕ) (slash : Bool) (text : List ℕ) → front mark slash text ++ rest mark slash text ≡ text
front-rest mark slash [] = refl
front-rest mark slash (byte ∷ text) =
    ⊎_elim
    (λ (e : (eqb byte mark && not slash) ≡ true).
    ap (λ (t : List ℕ). t ++ rest mark slash (byte ∷ text)) (front-stops mark slash byte text e) ∙ rest-stops mark slash byte text e)
    (λ (e : (eqb byte mark && not slash) ≡ false).
    ap (λ (t : List ℕ). t ++ rest mark slash (byte ∷ text)) (front-goes mark slash byte text e)
    ∙ ap (λ (t : List ℕ). byte ∷ (front mark (eqb byte 92) text ++ t)) (rest-goes mark slash byte text e)
    ∙ ap (λ (t : List ℕ). byte ∷ t) (front-rest mark (eqb byte 92) text))
    (decided (eqb byte mark && not slash))

nil-or-not : (text : List ℕ) → (text ≢ [] → ⊥) → text ≡ []
nil-or-not [] h = refl
nil-or-not (byte ∷ text) h = absurd (h (λ e. cc))

-- the front of a closed text is closed, mark or none
pub closed-front : (mark : ℕ) (text : List ℕ) → IsClosed text → IsClosed (front mark false text)
closed-front mark text closed =
    let at_end : rest mark false text ≡ [] → IsClosed (front mark false text) = λ none.
    let whole : front mark false text ≡ text =
    sym (append-nil (front mark false text)) ∙ ap (λ (t : List ℕ). front mark false text ++ t) (sym none) ∙ front-rest mark false text in
    ap (λ (t : List ℕ). slashed false t) whole ∙ closed
    in
    ⊎_elim
    (λ (e : slashed false (front mark false text) ≡ true).
    at_end (nil-or-not (rest mark false text) (λ some. false≢true (sym (front-closed mark false text some) ∙ e))))
    (λ (e : slashed false (front mark false text) ≡ false). e)
    (decided (slashed false (front mark false text)))

pub marked-front : (mark : ℕ) (text : List ℕ) → rest mark false text ≢ [] → IsClosed (front mark false text)
marked-front mark text some = front-closed mark false text some

slashed-any : (slash : Bool) (text : List ℕ) → slashed true text ≡ false → slashed slash text ≡ false
slashed-any slash [] e = absurd (false≢true (sym e))
slashed-any slash (byte ∷ text) e = e

slash-at : (byte : ℕ) (more : Bool) → (eqb byte 92 && more) ≡ true → eqb byte 92 ≡ true
slash-at byte more e = ⊎_elim (λ (t : eqb byte 92 ≡ true). t) (λ (f : eqb byte 92 ≡ false). absurd (false≢true (sym (ap (λ (t : Bool). t && more) f) ∙ e))) (decided (eqb byte 92))

-- the name that a closed part spells is closed
spelled-closed : (picks : ℕ → Bool) (slash : Bool) (text : List ℕ) → slashed slash text ≡ false → slashed slash (unescaped picks text) ≡ false
spelled-closed picks slash [] closed = closed
spelled-closed picks slash (byte ∷ text) closed =
    ⊎_elim
    (λ (e : (eqb byte 92 && begins_with picks text) ≡ true).
    let open_end : slashed true text ≡ false = ap (λ (t : Bool). slashed t text) (sym (slash-at byte (begins_with picks text) e)) ∙ closed in
    ap (λ (t : Bool). slashed slash (cond t (unescaped picks text) (byte ∷ unescaped picks text))) e
    ∙ slashed-any slash (unescaped picks text) (spelled-closed picks true text open_end))
    (λ (e : (eqb byte 92 && begins_with picks text) ≡ false).
    ap (λ (t : Bool). slashed slash (cond t (unescaped picks text) (byte ∷ unescaped picks text))) e
    ∙ spelled-closed picks (eqb byte 92) text closed)
    (decided (eqb byte 92 && begins_with picks text))

pub name-closed : (picks : ℕ → Bool) (part : List ℕ) → IsClosed part → IsClosed (unescaped picks part)
name-closed picks part closed = spelled-closed picks false part closed

-- behind the head of a line with fields stands a space
pub head-closed : (line : List ℕ) → fields_text line ≢ [] → IsClosed (head_of line)
head-closed line some =
    marked-front 32 line (λ none. some (ap (λ (t : List ℕ). front 32 false (unspaced t)) none))

pub measurement-closed : (line : List ℕ) → fields_text line ≢ [] → IsClosed (measurement_of (head_of line))
measurement-closed line some = name-closed measurement_ends_at (measurement_part (head_of line)) (closed-front 44 (head_of line) (head-closed line some))

-- the text of a name spells it
escaped-begin : (picks : ℕ → Bool) → picks 92 ≡ false → (name : List ℕ) → begins_with picks (escaped picks name) ≡ false
escaped-begin picks plain [] = refl
escaped-begin picks plain (byte ∷ name) =
    ⊎_elim
    (λ (e : picks byte ≡ true). ap (λ (t : Bool). begins_with picks (cond t (92 ∷ byte ∷ escaped picks name) (byte ∷ escaped picks name))) e ∙ plain)
    (λ (e : picks byte ≡ false). ap (λ (t : Bool). begins_with picks (cond t (92 ∷ byte ∷ escaped picks name) (byte ∷ escaped picks name))) e ∙ e)
    (decided (picks byte))

not-slash : (picks : ℕ → Bool) → picks 92 ≡ false → (byte : ℕ) → picks byte ≡ true → eqb byte 92 ≡ false
not-slash picks plain byte e =
    ⊎_elim
    (λ (t : eqb byte 92 ≡ true). let same : byte ≡ 92 = grind (arith, nat_tests) in absurd (false≢true (sym plain ∙ ap picks (sym same) ∙ e)))
    (λ (f : eqb byte 92 ≡ false). f)
    (decided (eqb byte 92))

and-false : (a : Bool) → (a && false) ≡ false
and-false true = refl
and-false false = refl

pub spells-itself : (picks : ℕ → Bool) → picks 92 ≡ false → (name : List ℕ) → unescaped picks (escaped picks name) ≡ name
spells-itself picks plain [] = refl
spells-itself picks plain (byte ∷ name) =
    ⊎_elim
    (λ (e : picks byte ≡ true).
    ap (λ (t : Bool). unescaped picks (cond t (92 ∷ byte ∷ escaped picks name) (byte ∷ escaped picks name))) e
    ∙ ap (λ (t : Bool). cond t (unescaped picks (byte ∷ escaped picks name)) (92 ∷ unescaped picks (byte ∷ escaped picks name))) e
    ∙ ap (λ (t : Bool). cond (t && begins_with picks (escaped picks name)) (unescaped picks (escaped picks name)) (byte ∷ unescaped picks (escaped picks name))) (not-slash picks plain byte e)
    ∙ ap (λ (t : List ℕ). byte ∷ t) (spells-itself picks plain name))
    (λ (e : picks byte ≡ false).
    ap (λ (t : Bool). unescaped picks (cond t (92 ∷ byte ∷ escaped picks name) (byte ∷ escaped picks name))) e
    ∙ ap (λ (t : Bool). cond (eqb byte 92 && t) (unescaped picks (escaped picks name)) (byte ∷ unescaped picks (escaped picks name))) (escaped-begin picks plain name)
    ∙ ap (λ (t : Bool). cond t (unescaped picks (escaped picks name)) (byte ∷ unescaped picks (escaped picks name))) (and-false (eqb byte 92))
    ∙ ap (λ (t : List ℕ). byte ∷ t) (spells-itself picks plain name))
    (decided (picks byte))

no-comma : (byte : ℕ) → measurement_ends_at byte ≡ false → eqb byte 44 ≡ false
no-comma byte e = grind (arith, nat_tests)

head-at : (slash : Bool) (measurement : List ℕ) (tags : List Tag) → slashed slash measurement ≡ false
    → head_behind slash (measurement_text measurement ++ tags_text tags) ≡ measurement_text measurement
head-at slash [] [] closed = refl
head-at slash [] (tag ∷ tags) closed = ap (λ (t : Bool). head_behind t (tags_text (tag ∷ tags))) closed
head-at slash (byte ∷ measurement) tags closed =
    let more = measurement_text measurement ++ tags_text tags in
    let behind = head-at (eqb byte 92) measurement tags closed in
    ⊎_elim
    (λ (e : measurement_ends_at byte ≡ true).
    ap (λ (t : Bool). head_behind slash (cond t (92 ∷ byte ∷ measurement_text measurement) (byte ∷ measurement_text measurement) ++ tags_text tags)) e
    ∙ ap (λ (t : Bool). 92 ∷ cond t [] (byte ∷ head_behind (eqb byte 92) more)) (and-false (eqb byte 44))
    ∙ ap (λ (t : List ℕ). 92 ∷ byte ∷ t) behind
    ∙ sym (ap (λ (t : Bool). cond t (92 ∷ byte ∷ measurement_text measurement) (byte ∷ measurement_text measurement)) e))
    (λ (e : measurement_ends_at byte ≡ false).
    ap (λ (t : Bool). head_behind slash (cond t (92 ∷ byte ∷ measurement_text measurement) (byte ∷ measurement_text measurement) ++ tags_text tags)) e
    ∙ ap (λ (t : Bool). cond (t && not slash) [] (byte ∷ head_behind (eqb byte 92) more)) (no-comma byte e)
    ∙ ap (λ (t : List ℕ). byte ∷ t) behind
    ∙ sym (ap (λ (t : Bool). cond t (92 ∷ byte ∷ measurement_text measurement) (byte ∷ measurement_text measurement)) e))
    (decided (measurement_ends_at byte))

-- a key of a series begins with its measurement
pub key-measurement : (measurement : List ℕ) (tags : List Tag) (key : List ℕ) → IsClosed measurement → IsKeyOf measurement tags key
    → unescaped measurement_ends_at (measurement_head key) ≡ measurement
key-measurement measurement tags key closed is =
    ap (λ (k : List ℕ). unescaped measurement_ends_at (measurement_head k)) is.spelled
    ∙ ap (λ (m : List ℕ). unescaped measurement_ends_at m) (head-at false measurement is.sorted closed)
    ∙ spells-itself measurement_ends_at refl measurement
