-- Where a text is cut.
use Rattle.std.proofs.Common.{◌≡◌, ◌≢◌, ◌<◌, ℕ, zero, suc, Bool, true, false, not, ◌==◌, List, [], ◌∷◌, ◌++◌, length, take, drop, get_or, refl, sym, ap, ◌∙◌, arith, inl, inr, nat_eq, Option, Some, None, MatchOption}
use Rattle.std.specs.List.{list_all}
use Rattle.std.specs.Cmp.Lexicographic.{pointwise}
use Rattle.std.proofs.lemmas.Bool.{eqb-true}
use Rattle.std.proofs.lemmas.Bool.Decides.{eqb_tells}
use Rattle.std.proofs.lemmas.List.{take-append-drop}
use Rattle.std.proofs.Math.Seq.{take-append_seam}
use Rattle.session_model.specs.Readable.{Lacks}
use Rattle.session_model.proofs.TextLemmas.{and_parts, both_true}
use Rattle.session_loop.specs.Cuts.{CutsAt}

pub match_option_map : {T : Type 0} (o : Option T) (P R : Type 0) (Q S : T → Type 0) → (P → R) → ((x : T) → Q x → S x) → MatchOption o P Q → MatchOption o R S
match_option_map None P R Q S f g h = f h
match_option_map (Some x) P R Q S f g h = g x h

never_true : (t : Bool) → (t ≡ true → ⊥) → not t ≡ true
never_true true never = absurd (never refl)
never_true false never = refl

-- a byte that stands nowhere
pub lacks_nowhere : (byte : ℕ) (text : List ℕ) → ((k : ℕ) → k < length text → (get_or text k 0 == byte) ≡ true → ⊥) → Lacks byte text
lacks_nowhere byte [] never = refl
lacks_nowhere byte (x ∷ text) never =
    both_true (not (x == byte)) (list_all (λ b. not (b == byte)) text)
    (never_true (x == byte) (λ is. never zero (omega arith) is))
    (lacks_nowhere byte text (λ k below is. never (suc k) (omega arith) is))

-- a byte and its first place
pub cut_found : (byte at : ℕ) (text : List ℕ) → at < length text → (get_or text at 0 == byte) ≡ true
    → ((k : ℕ) → k < at → (get_or text k 0 == byte) ≡ true → ⊥) → CutsAt byte text (take at text) (drop 1 (drop at text))
cut_found byte at [] below is never = absurd (omega arith)
cut_found byte zero (x ∷ text) below is never = record {
  whole = ap (λ (b : ℕ). b ∷ text) (eqb-true x byte is);
  first = refl;
}
cut_found byte (suc at) (x ∷ text) below is never =
    let rest = cut_found byte at text (omega arith) is (λ k low same. never (suc k) (omega arith) same) in
    record {
      whole = ap (λ (l : List ℕ). x ∷ l) rest.whole;
      first = both_true (not (x == byte)) (list_all (λ b. not (b == byte)) (take at text)) (never_true (x == byte) (λ same. never zero (omega arith) same)) rest.first;
    }

pub pointwise_same : (xs ys : List ℕ) → pointwise nat_eq xs ys ≡ true → xs ≡ ys
pointwise_same [] [] h = refl
pointwise_same [] (y ∷ ys) h = cc
pointwise_same (x ∷ xs) [] h = cc
pointwise_same (x ∷ xs) (y ∷ ys) h =
    let both = and_parts (nat_eq x y) (pointwise nat_eq xs ys) h in
    let head = eqb-true x y both.0 in let tail = pointwise_same xs ys both.1 in cc (head, tail)

equal_itself : (x : ℕ) → nat_eq x x ≡ true
equal_itself x = elim (eqb_tells x x) [ inl same ↦ same.0 | inr other ↦ absurd (other.1 refl) ]

pub pointwise_itself : (xs : List ℕ) → pointwise nat_eq xs xs ≡ true
pointwise_itself [] = refl
pointwise_itself (x ∷ xs) = both_true (nat_eq x x) (pointwise nat_eq xs xs) (equal_itself x) (pointwise_itself xs)

pub no_front : (text front : List ℕ) → pointwise nat_eq (take (length front) text) front ≡ false → (rest : List ℕ) → text ≢ front ++ rest
no_front text front differs rest same =
    let e : pointwise nat_eq (take (length front) text) front ≡ true =
    ap (λ (l : List ℕ). pointwise nat_eq (take (length front) l) front) same
    ∙ ap (λ (l : List ℕ). pointwise nat_eq l front) (take-append_seam front rest) ∙ pointwise_itself front in
    cc (e, differs)

pub some_front : (text front rest : List ℕ) → pointwise nat_eq (take (length front) text) front ≡ true → rest ≡ drop (length front) text → text ≡ front ++ rest
some_front text front rest same is =
    sym (take-append-drop (length front) text) ∙ ap (λ (l : List ℕ). l ++ drop (length front) text) (pointwise_same (take (length front) text) front same)
    ∙ ap (λ (l : List ℕ). front ++ l) (sym is)
