-- A text is read off the front of bytes in one way.
use Rattle.std.proofs.Common.{◌≡◌, ◌≢◌, ℕ, ◌^◌, ◌<◌, ◌≤◌, List, [], ◌∷◌, ◌++◌, length, Option, Some, None, Result, Ok, Err, IfNone, IfOk, IfSome, IsNone, ◌↔◌, refl, sym, ap, subst, ◌∙◌, arith}
use Rattle.std.specs.Str.{IsUtf8}
use Rattle.std.proofs.lemmas.List.{append_assoc, length-append}
use Rattle.fixed_width.specs.Fields.{bytes_of_u16}
use Rattle.fixed_width.proofs.Fronts.{length-u16, same_u16}
use Rattle.wal_store.specs.Form.{text_bytes, IsText, IsNameText}

pub if_none : {T : Type 0} {P : Type 0} (r : Option T) → P → IfNone r P
if_none None p = p
if_none (Some x) p = tt

pub same_split : {A : Type 0} (xs ys r s : List A) → length xs ≡ length ys → xs ++ r ≡ ys ++ s → (xs ≡ ys) × (r ≡ s)
same_split [] [] r s l e = (refl, e)
same_split [] (y ∷ ys) r s l e = absurd (omega arith)
same_split (x ∷ xs) [] r s l e = absurd (omega arith)
same_split (x ∷ xs) (y ∷ ys) r s l e =
    let rest : xs ++ r ≡ ys ++ s = cc in
    let head : x ≡ y = cc in
    let both = same_split xs ys r s (omega arith) rest in
    (cc (head, both.0), both.1)

pub text_parts : (text rest : List ℕ) → text_bytes text ++ rest ≡ bytes_of_u16 (length text) ++ (text ++ rest)
text_parts text rest = append_assoc (bytes_of_u16 (length text)) text rest

-- texts with room
pub same_text : (a b r s : List ℕ) → length a ≤ 65535 → length b ≤ 65535 → text_bytes a ++ r ≡ text_bytes b ++ s → (a ≡ b) × (r ≡ s)
same_text a b r s x y is =
    let first = same_u16 (length a) (length b) (a ++ r) (b ++ s) (omega (arith, x)) (omega (arith, y)) (sym (text_parts a r) ∙ is ∙ text_parts b s) in
    same_split a b r s first.0 first.1

pub no_length : (bytes : List ℕ) → length bytes < 2 → (text rest : List ℕ) → bytes ≢ text_bytes text ++ rest
no_length bytes short text rest is =
    omega (arith, short, ap length is ∙ ap length (text_parts text rest), length-append (bytes_of_u16 (length text)) (text ++ rest), length-u16 (length text))

-- the length says which text it is
pub text_front : (bytes behind : List ℕ) (n : ℕ) → n < 2 ^ 16 → bytes ≡ bytes_of_u16 n ++ behind → (text rest : List ℕ) → length text ≤ 65535 → bytes ≡ text_bytes text ++ rest
    → (n ≡ length text) × (behind ≡ text ++ rest)
text_front bytes behind n fits found text rest short is = same_u16 n (length text) behind (text ++ rest) fits (omega (arith, short)) (sym found ∙ is ∙ text_parts text rest)

pub cut_text : (bytes behind : List ℕ) (n : ℕ) → n < 2 ^ 16 → bytes ≡ bytes_of_u16 n ++ behind → length behind < n → (text rest : List ℕ) → IsText text → bytes ≢ text_bytes text ++ rest
cut_text bytes behind n fits found less text rest ok is =
    let both = text_front bytes behind n fits found text rest ok.short is in
    omega (arith, both.0, less, ap length both.1, length-append text rest)

pub bad_text : (bytes behind front back : List ℕ) (n : ℕ) → n < 2 ^ 16 → bytes ≡ bytes_of_u16 n ++ behind → behind ≡ front ++ back → length front ≡ n → (IsUtf8 front → ⊥) → (text rest : List ℕ) → IsText text → bytes ≢ text_bytes text ++ rest
bad_text bytes behind front back n fits found parts len bad text rest ok is =
    let both = text_front bytes behind n fits found text rest ok.short is in
    let same = same_split front text back rest (len ∙ both.0) (sym parts ∙ both.1) in
    bad (subst IsUtf8 (sym same.0) ok.utf8)

pub other_name : (bytes text rest : List ℕ) → bytes ≡ text_bytes text ++ rest → IsText text → (IsNameText text → ⊥) → (name others : List ℕ) → IsNameText name → bytes ≢ text_bytes name ++ others
other_name bytes text rest found ok bad name others named is =
    let same = same_text text name rest others ok.short named.room.short (sym found ∙ is) in
    bad (subst IsNameText (sym same.0) named)

-- what a call that may find nothing says where it did, and where it didn't
pub if_some_at : {T : Type 0} (P : T → Type 0) (r : Option T) (v : T) → r ≡ Some v → IfSome r P → P v
if_some_at {T} P r v is h = let Q : Option T → Type 0 = λ o. IfSome o P in subst Q is h

pub if_none_at : {T : Type 0} (P : Type 0) (r : Option T) → r ≡ None → IfNone r P → P
if_none_at {T} P r is h = let Q : Option T → Type 0 = λ o. IfNone o P in subst Q is h

pub other_series : (Is : List ℕ → Type 0) (bytes text rest : List ℕ) → bytes ≡ text_bytes text ++ rest → IsText text → (Is text → ⊥) → (series others : List ℕ) → IsText series → Is series → bytes ≢ text_bytes series ++ others
other_series Is bytes text rest found ok bad series others fits is whole =
    bad (subst Is (sym (same_text text series rest others ok.short fits.short (sym found ∙ whole)).0) is)

-- from what a call says to what its caller does
pub ok_some_from : {T E : Type 0} {P Q : T → Type 0} (r : Result (Option T) E) → ((v : T) → P v → Q v) → IfOk r (λ taken. IfSome taken P) → IfOk r (λ taken. IfSome taken Q)
ok_some_from (Ok (Some v)) f h = f v h
ok_some_from (Ok None) f h = tt
ok_some_from (Err e) f h = tt

pub ok_none_from : {T E : Type 0} {P Q : Type 0} (r : Result (Option T) E) → (P → Q) → IfOk r (λ taken. IfNone taken P) → IfOk r (λ taken. IfNone taken Q)
ok_none_from (Ok (Some v)) f h = tt
ok_none_from (Ok None) f h = f h
ok_none_from (Err e) f h = tt

-- a fact of the value that is there, and one where none is
pub if_some_is : {T : Type 0} (P : T → Type 0) (r : Option T) (v : T) → IfSome r (λ w. w ≡ v) → P v → IfSome r P
if_some_is P (Some w) v is p = subst P (sym is) p
if_some_is P None v is p = tt

pub if_none_is : {T : Type 0} {P : Type 0} (r : Option T) → (IsNone r → P) → IfNone r P
if_none_is (Some w) f = tt
if_none_is None f = f refl

pub ok_some_is : {X E : Type 0} (P : X → Type 0) (r : Result (Option X) E) (x : X) → IfOk r (λ m. IfSome m (λ b. b ≡ x)) → P x → IfOk r (λ m. IfSome m P)
ok_some_is P (Ok None) x e p = tt
ok_some_is P (Ok (Some b)) x e p = subst P (sym e) p
ok_some_is P (Err e) x i p = tt

pub ok_none_is : {X E Q : Type 0} (R : Type 0) (r : Result (Option X) E) → IfOk r (λ m. IsNone m ↔ Q) → (Q → ⊥) → IfOk r (λ m. IfNone m R)
ok_none_is R (Ok None) e never = absurd (never (e.0 refl))
ok_none_is R (Ok (Some b)) e never = tt
ok_none_is R (Err e) i never = tt
