-- A test of terms, by their parts, tells equal ones.
use Rattle.std.proofs.Common.{◌≡◌, ◌&&◌, Bool, true, false, ℕ, List, refl, sym, ap, ◌∙◌}
use Rattle.std.specs.Str.{bytes_eq}
use Rattle.std.proofs.lemmas.Bool.{false≢true}
use Rattle.index_lists.specs.contracts.term.TermPartialEq.TheImpl as term_eq
use Rattle.index_lists.specs.declared.term.Term.{Term}
use Rattle.index_lists.specs.declared.term.Term.TheVariants.{Measurement, Field, TagKey, TagValue}
use Rattle.index_lists.proofs.PairLemmas.{and_both, and_first, and_second, same_text, text_same}
use Rattle.index_lists.proofs.PlaceLemmas.{TellsTerms}

itself : (t : List ℕ) → bytes_eq t t ≡ true
itself t = text_same t t refl

pub tells_from : (eq : Term → Term → Bool)
    → ((a b : List ℕ) → eq (Measurement a) (Measurement b) ≡ bytes_eq a b)
    → ((a b x y : List ℕ) → eq (Field a x) (Field b y) ≡ (bytes_eq a b && bytes_eq x y))
    → ((a b x y : List ℕ) → eq (TagKey a x) (TagKey b y) ≡ (bytes_eq a b && bytes_eq x y))
    → ((a b x y z w : List ℕ) → eq (TagValue a x z) (TagValue b y w) ≡ (bytes_eq a b && (bytes_eq x y && bytes_eq z w)))
    → ((a b y : List ℕ) → eq (Measurement a) (Field b y) ≡ false)
    → ((a b y : List ℕ) → eq (Measurement a) (TagKey b y) ≡ false)
    → ((a b y w : List ℕ) → eq (Measurement a) (TagValue b y w) ≡ false)
    → ((a x b : List ℕ) → eq (Field a x) (Measurement b) ≡ false)
    → ((a x b y : List ℕ) → eq (Field a x) (TagKey b y) ≡ false)
    → ((a x b y w : List ℕ) → eq (Field a x) (TagValue b y w) ≡ false)
    → ((a x b : List ℕ) → eq (TagKey a x) (Measurement b) ≡ false)
    → ((a x b y : List ℕ) → eq (TagKey a x) (Field b y) ≡ false)
    → ((a x b y w : List ℕ) → eq (TagKey a x) (TagValue b y w) ≡ false)
    → ((a x z b : List ℕ) → eq (TagValue a x z) (Measurement b) ≡ false)
    → ((a x z b y : List ℕ) → eq (TagValue a x z) (Field b y) ≡ false)
    → ((a x z b y : List ℕ) → eq (TagValue a x z) (TagKey b y) ≡ false)
    → TellsTerms eq
tells_from eq mm ff kk vv mf mk mv fm fk fv km kf kv vm vf vk = record { same = same; itself = own }
  where
    same : (a b : Term) → eq a b ≡ true → a ≡ b
    same (Measurement a) (Measurement b) e = ap Measurement (same_text a b (sym (mm a b) ∙ e))
    same (Measurement a) (Field b y) e = absurd (false≢true (sym (mf a b y) ∙ e))
    same (Measurement a) (TagKey b y) e = absurd (false≢true (sym (mk a b y) ∙ e))
    same (Measurement a) (TagValue b y w) e = absurd (false≢true (sym (mv a b y w) ∙ e))
    same (Field a x) (Measurement b) e = absurd (false≢true (sym (fm a x b) ∙ e))
    same (Field a x) (Field b y) e =
        let both = sym (ff a b x y) ∙ e in
        λ i. Field (same_text a b (and_first (bytes_eq a b) (bytes_eq x y) both) i) (same_text x y (and_second (bytes_eq a b) (bytes_eq x y) both) i)
    same (Field a x) (TagKey b y) e = absurd (false≢true (sym (fk a x b y) ∙ e))
    same (Field a x) (TagValue b y w) e = absurd (false≢true (sym (fv a x b y w) ∙ e))
    same (TagKey a x) (Measurement b) e = absurd (false≢true (sym (km a x b) ∙ e))
    same (TagKey a x) (Field b y) e = absurd (false≢true (sym (kf a x b y) ∙ e))
    same (TagKey a x) (TagKey b y) e =
        let both = sym (kk a b x y) ∙ e in
        λ i. TagKey (same_text a b (and_first (bytes_eq a b) (bytes_eq x y) both) i) (same_text x y (and_second (bytes_eq a b) (bytes_eq x y) both) i)
    same (TagKey a x) (TagValue b y w) e = absurd (false≢true (sym (kv a x b y w) ∙ e))
    same (TagValue a x z) (Measurement b) e = absurd (false≢true (sym (vm a x z b) ∙ e))
    same (TagValue a x z) (Field b y) e = absurd (false≢true (sym (vf a x z b y) ∙ e))
    same (TagValue a x z) (TagKey b y) e = absurd (false≢true (sym (vk a x z b y) ∙ e))
    same (TagValue a x z) (TagValue b y w) e =
        let all = sym (vv a b x y z w) ∙ e in
        let rest = and_second (bytes_eq a b) (bytes_eq x y && bytes_eq z w) all in
        λ i. TagValue (same_text a b (and_first (bytes_eq a b) (bytes_eq x y && bytes_eq z w) all) i) (same_text x y (and_first (bytes_eq x y) (bytes_eq z w) rest) i) (same_text z w (and_second (bytes_eq x y) (bytes_eq z w) rest) i)

    own : (a : Term) → eq a a ≡ true
    own (Measurement a) = mm a a ∙ itself a
    own (Field a x) = ff a a x x ∙ and_both (bytes_eq a a) (bytes_eq x x) (itself a) (itself x)
    own (TagKey a x) = kk a a x x ∙ and_both (bytes_eq a a) (bytes_eq x x) (itself a) (itself x)
    own (TagValue a x z) = vv a a x x z z ∙ and_both (bytes_eq a a) (bytes_eq x x && bytes_eq z z) (itself a) (and_both (bytes_eq x x) (bytes_eq z z) (itself x) (itself z))

-- the test by which a hash table tells terms
abbrev pub same_term : Term → Term → Bool
same_term = (term_eq.ghosts).eq

pub tells : TellsTerms same_term
tells =
    tells_from same_term (λ a b. refl) (λ a b x y. refl) (λ a b x y. refl) (λ a b x y z w. refl) (λ a b y. refl) (λ a b y. refl) (λ a b y w. refl) (λ a x b. refl) (λ a x b y. refl) (λ a x b y w. refl) (λ a x b. refl)
    (λ a x b y. refl) (λ a x b y w. refl) (λ a x z b. refl) (λ a x z b y. refl) (λ a x z b y. refl)
