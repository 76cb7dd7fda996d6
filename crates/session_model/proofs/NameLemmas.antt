-- A name is told from its text with backslashes.
use Rattle.std.proofs.Common.{◌≡◌, ℕ, Bool, true, false, not, ◌&&◌, ◌==◌, List, [], ◌∷◌, refl, ap, sym, ◌∙◌, if◌then◌else◌}
use Rattle.std.specs.List.{list_all}
use Rattle.tsdb_types.specs.Series.{escaped}
use Rattle.session_model.specs.Readable.{Lacks}
use Rattle.session_model.proofs.TextLemmas.{and_parts, both_true}

-- a byte with a backslash before it, or without
abbrev with_mark : Bool → ℕ → List ℕ → List ℕ
with_mark mark byte behind = if mark then 92 ∷ byte ∷ behind else byte ∷ behind

never_empty : (mark : Bool) (byte : ℕ) (behind : List ℕ) → [] ≡ with_mark mark byte behind → ⊥
never_empty true byte behind same = cc
never_empty false byte behind same = cc

no_mark : (picks : ℕ → Bool) (mark : Bool) (byte c : ℕ) (behind rest : List ℕ) → picks 92 ≡ false → picks byte ≡ mark
    → with_mark mark byte behind ≡ c ∷ rest → picks c ≡ false
no_mark picks true byte c behind rest slash is same = let head : c ≡ 92 = cc same in ap picks head ∙ slash
no_mark picks false byte c behind rest slash is same = let head : c ≡ byte = cc same in ap picks head ∙ is

-- no byte that gets a backslash stands first
first_unmarked : (picks : ℕ → Bool) (name : List ℕ) (c : ℕ) (rest : List ℕ) → picks 92 ≡ false → escaped picks name ≡ c ∷ rest → picks c ≡ false
first_unmarked picks [] c rest slash same = cc same
first_unmarked picks (byte ∷ name) c rest slash same = no_mark picks (picks byte) byte c (escaped picks name) rest slash refl same

one_byte : (picks : ℕ → Bool) (mark other : Bool) (x y : ℕ) (xs ys : List ℕ) → picks 92 ≡ false → picks x ≡ mark → picks y ≡ other
    → with_mark mark x (escaped picks xs) ≡ with_mark other y (escaped picks ys) → (x ≡ y) × (escaped picks xs ≡ escaped picks ys)
one_byte picks true true x y xs ys slash first second same = (cc same, cc same)
one_byte picks true false x y xs ys slash first second same =
    let tail : escaped picks ys ≡ x ∷ escaped picks xs = cc same in
    let none = first_unmarked picks ys x (escaped picks xs) slash tail in cc (none, first)
one_byte picks false true x y xs ys slash first second same =
    let tail : escaped picks xs ≡ y ∷ escaped picks ys = cc same in
    let none = first_unmarked picks xs y (escaped picks ys) slash tail in cc (none, second)
one_byte picks false false x y xs ys slash first second same = (cc same, cc same)

-- two names have two texts
pub one_name : (picks : ℕ → Bool) (name other : List ℕ) → picks 92 ≡ false → escaped picks name ≡ escaped picks other → name ≡ other
one_name picks [] [] slash same = refl
one_name picks [] (y ∷ ys) slash same = absurd (never_empty (picks y) y (escaped picks ys) same)
one_name picks (x ∷ xs) [] slash same = absurd (never_empty (picks x) x (escaped picks xs) (sym same))
one_name picks (x ∷ xs) (y ∷ ys) slash same =
    let here = one_byte picks (picks x) (picks y) x y xs ys slash refl refl same in
    let head = here.0 in
    let tail = one_name picks xs ys slash here.1 in
    cc (head, tail)

mark_lacks : (mark : Bool) (absent byte : ℕ) (behind : List ℕ) → not (92 == absent) ≡ true → not (byte == absent) ≡ true → Lacks absent behind → Lacks absent (with_mark mark byte behind)
mark_lacks true absent byte behind slash first rest =
    both_true (not (92 == absent)) (not (byte == absent) && list_all (λ b. not (b == absent)) behind) slash
    (both_true (not (byte == absent)) (list_all (λ b. not (b == absent)) behind) first rest)
mark_lacks false absent byte behind slash first rest = both_true (not (byte == absent)) (list_all (λ b. not (b == absent)) behind) first rest

-- the text lacks what the name lacks, but for the backslash
pub name_text_lacks : (picks : ℕ → Bool) (absent : ℕ) (name : List ℕ) → not (92 == absent) ≡ true → Lacks absent name → Lacks absent (escaped picks name)
name_text_lacks picks absent [] slash lacks = refl
name_text_lacks picks absent (byte ∷ name) slash lacks =
    let both = and_parts (not (byte == absent)) (list_all (λ b. not (b == absent)) name) lacks in
    mark_lacks (picks byte) absent byte (escaped picks name) slash both.0 (name_text_lacks picks absent name slash both.1)
