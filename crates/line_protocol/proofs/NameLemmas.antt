use Rattle.std.proofs.Common.{◌≡◌, ℕ, Bool, true, false, cond, ◌&&◌, ◌||◌, eqb, List, [], ◌∷◌, refl, sym, ap, ◌∙◌}
use Rattle.std.proofs.lemmas.Bool.{false≢true}
use Rattle.std.specs.List.{list_any}
use Rattle.tsdb_types.specs.Spelled.{begins_with, unescaped}

neither : (a b : Bool) → (a || b) ≡ false → (a ≡ false) × (b ≡ false)
neither true b e = absurd (false≢true (sym e))
neither false b e = (refl, e)

-- a text without a backslash spells itself
pub plain : (picks : ℕ → Bool) (text : List ℕ) → list_any (λ byte. eqb byte 92) text ≡ false → unescaped picks text ≡ text
plain picks [] e = refl
plain picks (byte ∷ text) e =
    let both = neither (eqb byte 92) (list_any (λ b. eqb b 92) text) e in
    ap (λ (t : Bool). cond (t && begins_with picks text) (unescaped picks text) (byte ∷ unescaped picks text)) both.0
    ∙ ap (λ (t : List ℕ). byte ∷ t) (plain picks text both.1)
