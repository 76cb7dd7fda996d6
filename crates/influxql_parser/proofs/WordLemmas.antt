use Rattle.std.proofs.Common.{◌≡◌, ℕ, Bool, true, false, ⊎_elim, ◌⊎◌, inl, inr, Option, Some, None, List, [], ◌∷◌, ◌++◌, refl, sym, ap, ◌∙◌}
use Rattle.std.proofs.lemmas.Bool.{false≢true}
use Rattle.std.proofs.lemmas.List.{append_assoc, append-nil}
use Rattle.std.proofs.lemmas.Str.{IsUtf8-from_is_utf8}
use Rattle.std.specs.Str.{IsUtf8, is_utf8}
use Rattle.influxql_parser.specs.GrammarWords.{without_escapes, in_front}

pub decided : (b : Bool) → (b ≡ true) ⊎ (b ≡ false)
decided true = inl refl
decided false = inr refl

-- bytes that are no text
pub not-utf8 : (bytes : List ℕ) → (IsUtf8 bytes → false ≡ true) → is_utf8 bytes ≡ false
not-utf8 bytes none = ⊎_elim (λ (yes : is_utf8 bytes ≡ true). absurd (false≢true (none (IsUtf8-from_is_utf8 bytes yes)))) (λ (no_text : is_utf8 bytes ≡ false). no_text) (decided (is_utf8 bytes))

-- the bytes so far before those that the rest stands for
abbrev pub with_front : List ℕ → Option (List ℕ) → Option (List ℕ)
with_front front None = None
with_front front (Some text) = Some (front ++ text)

pub with_front-more : (front : List ℕ) (byte : ℕ) (rest : Option (List ℕ)) → with_front (front ++ byte ∷ []) rest ≡ with_front front (in_front (Some byte) rest)
with_front-more front byte None = refl
with_front-more front byte (Some text) = ap (λ (t : List ℕ). Some t) (append_assoc front (byte ∷ []) text)

pub with_front-all : (rest : Option (List ℕ)) → with_front [] rest ≡ rest
with_front-all None = refl
with_front-all (Some text) = refl

pub with_front-end : (front : List ℕ) → with_front front (Some []) ≡ Some front
with_front-end front = ap (λ (t : List ℕ). Some t) (append-nil front)

-- a byte more, of the text at whose front it is spelled
pub front-next : (front left behind rest next : List ℕ) (first byte : ℕ) (all : Option (List ℕ)) → with_front front (without_escapes left) ≡ all → left ≡ first ∷ behind →
    without_escapes (first ∷ behind) ≡ in_front (Some byte) (without_escapes rest) → next ≡ front ++ byte ∷ [] → with_front next (without_escapes rest) ≡ all
front-next front left behind rest next first byte all so_far split at pushed =
    ap (λ (t : List ℕ). with_front t (without_escapes rest)) pushed ∙ with_front-more front byte (without_escapes rest)
    ∙ ap (λ (o : Option (List ℕ)). with_front front o) (sym at) ∙ ap (λ (t : List ℕ). with_front front (without_escapes t)) (sym split) ∙ so_far

-- where the next byte has no reading, the whole text has none
pub front-none : (front left behind : List ℕ) (first : ℕ) (all : Option (List ℕ)) → with_front front (without_escapes left) ≡ all → left ≡ first ∷ behind →
    without_escapes (first ∷ behind) ≡ None → all ≡ None
front-none front left behind first all so_far split none =
    sym so_far ∙ ap (λ (t : List ℕ). with_front front (without_escapes t)) split ∙ ap (λ (o : Option (List ℕ)). with_front front o) none

pub front-end : (front left : List ℕ) (all : Option (List ℕ)) → with_front front (without_escapes left) ≡ all → left ≡ [] → all ≡ Some front
front-end front left all so_far empty =
    sym so_far ∙ ap (λ (t : List ℕ). with_front front (without_escapes t)) empty ∙ with_front-end front
