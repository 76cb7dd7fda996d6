-- A change is read off the front of bytes in one way.
use Rattle.std.proofs.Common.{◌≡◌, ◌≢◌, ℕ, ◌^◌, ◌<◌, ◌≤◌, ◌==◌, ◌||◌, cond, List, ◌∷◌, ◌++◌, length, get_or, drop, Option, Some, None, IfNone, refl, sym, ap, ◌∙◌, arith}
use Rattle.std.proofs.lemmas.List.{append_assoc, length-append}
use Rattle.fixed_width.specs.Fields.{bytes_of_u32, bytes_of_u64}
use Rattle.fixed_width.proofs.Fronts.{length-u32, length-u64, same_u32, same_u64}
use Rattle.manifest_log.specs.declared.change.Change.{Change}
use Rattle.manifest_log.specs.declared.change.Change.TheVariants.{AddSegment, ForgetSegment, AddFile, RemoveFile, NameTombs, SetFloor, NameSeries, NameIndex}
use Rattle.manifest_log.specs.Format.{kind_of, fields_of, change_bytes, HasRoom, number_of}

pub if_none : {T : Type 0} {P : Type 0} (r : Option T) → P → IfNone r P
if_none None p = p
if_none (Some x) p = tt

pub if_none_from : {T : Type 0} {P Q : Type 0} (r : Option T) → (P → Q) → IfNone r P → IfNone r Q
if_none_from None f p = f p
if_none_from (Some x) f p = tt

-- how many bytes the fields of a kind take
abbrev pub width : ℕ → ℕ
width kind = cond (kind == 3) 33 (cond ((kind == 5) || (kind == 6) || (kind == 8)) 8 4)

two_long : (a b : ℕ) → length (bytes_of_u32 a ++ bytes_of_u32 b) ≡ 8
two_long a b = omega (arith, length-append (bytes_of_u32 a) (bytes_of_u32 b), length-u32 a, length-u32 b)

file_long : (a g s l p m t : ℕ) → length (bytes_of_u32 a ++ (bytes_of_u64 g ++ (bytes_of_u32 s ++ (l ∷ (bytes_of_u64 p ++ (bytes_of_u32 m ++ bytes_of_u32 t)))))) ≡ 33
file_long a g s l p m t =
    let e = two_long m t in
    let d = length-append (bytes_of_u64 p) (bytes_of_u32 m ++ bytes_of_u32 t) in
    let c = length-append (bytes_of_u32 s) (l ∷ (bytes_of_u64 p ++ (bytes_of_u32 m ++ bytes_of_u32 t))) in
    let b = length-append (bytes_of_u64 g) (bytes_of_u32 s ++ (l ∷ (bytes_of_u64 p ++ (bytes_of_u32 m ++ bytes_of_u32 t)))) in
    let f = length-append (bytes_of_u32 a) (bytes_of_u64 g ++ (bytes_of_u32 s ++ (l ∷ (bytes_of_u64 p ++ (bytes_of_u32 m ++ bytes_of_u32 t))))) in
    omega (arith, b, c, d, e, f, length-u32 a, length-u64 g, length-u32 s, length-u64 p)

fields_long : (change : Change) → length (fields_of change) ≡ width (kind_of change)
fields_long (AddSegment a) = length-u32 a
fields_long (ForgetSegment a) = length-u32 a
fields_long (AddFile a g s l p m t) = file_long a g s l p m (number_of t)
fields_long (RemoveFile a) = length-u32 a
fields_long (NameTombs a t) = two_long a t
fields_long (SetFloor n) = length-u64 n
fields_long (NameSeries a) = length-u32 a
fields_long (NameIndex a t) = two_long a (number_of t)

head : (k : ℕ) (fields : List ℕ) (change : Change) (rest : List ℕ) → k ∷ fields ≡ change_bytes change ++ rest → k ≡ kind_of change
head k fields change rest is = ap (λ (l : List ℕ). get_or l 0 0) is

-- no change stands where there are too few bytes for its kind
pub cut : (k n : ℕ) (fields : List ℕ) → n ≡ width k → length fields < n → (change : Change) (rest : List ℕ) → k ∷ fields ≢ change_bytes change ++ rest
cut k n fields wide short change rest is =
    let tail : fields ≡ fields_of change ++ rest = ap (λ (l : List ℕ). drop 1 l) is in
    omega (arith, wide, short, ap width (head k fields change rest is), ap length tail, length-append (fields_of change) rest, fields_long change)

known : (change : Change) → (1 ≤ kind_of change) × (kind_of change ≤ 8)
known (AddSegment a) = (omega arith, omega arith)
known (ForgetSegment a) = (omega arith, omega arith)
known (AddFile a g s l p m t) = (omega arith, omega arith)
known (RemoveFile a) = (omega arith, omega arith)
known (NameTombs a t) = (omega arith, omega arith)
known (SetFloor n) = (omega arith, omega arith)
known (NameSeries a) = (omega arith, omega arith)
known (NameIndex a t) = (omega arith, omega arith)

-- no change has another kind
pub strange : (k : ℕ) (fields : List ℕ) → (1 ≤ k → k ≤ 8 → ⊥) → (change : Change) (rest : List ℕ) → k ∷ fields ≢ change_bytes change ++ rest
strange k fields none change rest is =
    let same = head k fields change rest is in
    let kinds = known change in
    none (omega (arith, same, kinds.0)) (omega (arith, same, kinds.1))

-- ---- one way

same_two : (a b a' b' : ℕ) (r s : List ℕ) → a < 2 ^ 32 → b < 2 ^ 32 → a' < 2 ^ 32 → b' < 2 ^ 32 → (bytes_of_u32 a ++ bytes_of_u32 b) ++ r ≡ (bytes_of_u32 a' ++ bytes_of_u32 b') ++ s → (a ≡ a') × (b ≡ b') × (r ≡ s)
same_two a b a' b' r s ha hb ha' hb' is =
    let first = same_u32 a a' (bytes_of_u32 b ++ r) (bytes_of_u32 b' ++ s) ha ha' (sym (append_assoc (bytes_of_u32 a) (bytes_of_u32 b) r) ∙ is ∙ append_assoc (bytes_of_u32 a') (bytes_of_u32 b') s) in
    let second = same_u32 b b' r s hb hb' first.1 in
    (first.0, second.0, second.1)

same_file : (a b : Option ℕ) → number_of a ≡ number_of b → a ≡ b
same_file None None is = refl
same_file None (Some b) is = absurd (omega (arith, is))
same_file (Some a) None is = absurd (omega (arith, is))
same_file (Some a) (Some b) is = let e : a ≡ b = omega (arith, is) in ap (λ (n : ℕ). Some n) e

spread : (a b rest : List ℕ) → (a ++ b) ++ rest ≡ a ++ (b ++ rest)
spread a b rest = append_assoc a b rest

-- the fields of one kind are those of one change
pub same_fields : (one other : Change) (r s : List ℕ) → HasRoom one → HasRoom other → kind_of one ≡ kind_of other → fields_of one ++ r ≡ fields_of other ++ s → (one ≡ other) × (r ≡ s)
same_fields (AddSegment a) (AddSegment b) r s x y k is = let e = same_u32 a b r s x y is in (ap (λ (n : ℕ). AddSegment n) e.0, e.1)
same_fields (ForgetSegment a) (ForgetSegment b) r s x y k is = let e = same_u32 a b r s x y is in (ap (λ (n : ℕ). ForgetSegment n) e.0, e.1)
same_fields (RemoveFile a) (RemoveFile b) r s x y k is = let e = same_u32 a b r s x y is in (ap (λ (n : ℕ). RemoveFile n) e.0, e.1)
same_fields (NameSeries a) (NameSeries b) r s x y k is = let e = same_u32 a b r s x y is in (ap (λ (n : ℕ). NameSeries n) e.0, e.1)
same_fields (SetFloor a) (SetFloor b) r s x y k is = let e = same_u64 a b r s x y is in (ap (λ (n : ℕ). SetFloor n) e.0, e.1)
same_fields (NameTombs a t) (NameTombs b u) r s x y k is = let e = same_two a t b u r s x.0 x.1 y.0 y.1 is in (λ i. NameTombs (e.0 i) (e.1 i), e.2)
same_fields (NameIndex a t) (NameIndex b u) r s x y k is =
    let e = same_two a (number_of t) b (number_of u) r s x.0 x.1 y.0 y.1 is in
    let f : t ≡ u = same_file t u e.1 in
    (λ i. NameIndex (e.0 i) (f i), e.2)
same_fields (AddFile a g n l p m t) (AddFile a' g' n' l' p' m' t') r s x y k is =
    let two : List ℕ = bytes_of_u32 m ++ bytes_of_u32 (number_of t) in
    let two' : List ℕ = bytes_of_u32 m' ++ bytes_of_u32 (number_of t') in
    let e1 = same_u32 a a' _ _ x.0 y.0 (sym (spread (bytes_of_u32 a) (bytes_of_u64 g ++ (bytes_of_u32 n ++ (l ∷ (bytes_of_u64 p ++ two)))) r) ∙ is ∙ spread (bytes_of_u32 a') (bytes_of_u64 g' ++ (bytes_of_u32 n' ++ (l' ∷ (bytes_of_u64 p' ++ two')))) s) in
    let e2 = same_u64 g g' _ _ x.1 y.1 (sym (spread (bytes_of_u64 g) (bytes_of_u32 n ++ (l ∷ (bytes_of_u64 p ++ two))) r) ∙ e1.1 ∙ spread (bytes_of_u64 g') (bytes_of_u32 n' ++ (l' ∷ (bytes_of_u64 p' ++ two'))) s) in
    let e3 = same_u32 n n' _ _ x.2 y.2 (sym (spread (bytes_of_u32 n) (l ∷ (bytes_of_u64 p ++ two)) r) ∙ e2.1 ∙ spread (bytes_of_u32 n') (l' ∷ (bytes_of_u64 p' ++ two')) s) in
    let e4 : l ≡ l' = ap (λ (b : List ℕ). get_or b 0 0) e3.1 in
    let rest : (bytes_of_u64 p ++ two) ++ r ≡ (bytes_of_u64 p' ++ two') ++ s = ap (λ (b : List ℕ). drop 1 b) e3.1 in
    let e5 = same_u64 p p' _ _ x.4 y.4 (sym (spread (bytes_of_u64 p) two r) ∙ rest ∙ spread (bytes_of_u64 p') two' s) in
    let e6 = same_two m (number_of t) m' (number_of t') r s x.5 x.6 y.5 y.6 e5.1 in
    let e7 : t ≡ t' = same_file t t' e6.1 in
    (λ i. AddFile (e1.0 i) (e2.0 i) (e3.0 i) (e4 i) (e5.0 i) (e6.0 i) (e7 i), e6.2)
same_fields one other r s x y k is = absurd (omega (arith, k))

pub same_change : (one other : Change) (r s : List ℕ) → HasRoom one → HasRoom other → change_bytes one ++ r ≡ change_bytes other ++ s → (one ≡ other) × (r ≡ s)
same_change one other r s x y is = same_fields one other r s x y (ap (λ (l : List ℕ). get_or l 0 0) is) (ap (λ (l : List ℕ). drop 1 l) is)
