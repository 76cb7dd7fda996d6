-- The bytes of rows: parts put one behind the other, and taken from the front.
use Rattle.std.proofs.Common.{◌≡◌, ◌≢◌, ℕ, ℤ, ◌+◌, ◌<◌, ◌^◌, List, [], ◌∷◌, ◌++◌, length, Option, Some, None, IfNone, IfSome, is_some, true, false, refl, sym, ap, ◌∙◌, subst, arith, rules, FitsSigned, w64, take, drop, get_or}
use Rattle.std.proofs.lemmas.List.{append_assoc, append-nil, length-append, take-append-drop}
use Rattle.std.proofs.lemmas.Int.{ints}
use Rattle.std.proofs.Math.Seq.{drop-append_seam}
use Rattle.tsdb_types.specs.Moments.{IsMoment}
use Rattle.tsm_format.specs.Rows.{IsEntry, IsLater}
use Rattle.tsm_format.specs.Places.{StandsFor}
use Rattle.fixed_width.specs.Fields.{bytes_of_u16, bytes_of_u32, bytes_of_u64, bytes_of_i64}
use Rattle.fixed_width.proofs.Fronts.{length-u16, length-u32, length-u64, length-i64, same_u16, same_u32, same_u64, same_i64}
use Rattle.tsdb_types.specs.declared.value.Kind.{Kind}
use Rattle.tsdb_types.specs.declared.value.Kind.TheVariants.{Integer, Unsigned, Boolean}
use Rattle.tsm_format.specs.declared.entry.Entry.{Entry}
use Rattle.tsm_format.specs.Format.{byte_of, entry_bytes, head_bytes}

-- ---- lists in parts

pub regroup : (out a b c d : List ℕ) → (((out ++ a) ++ b) ++ c) ++ d ≡ out ++ (((a ++ b) ++ c) ++ d)
regroup out a b c d = simp append_assoc

-- four parts, put one behind the other
pub put_all : (out a b c d x y z w : List ℕ) → x ≡ out ++ a → y ≡ x ++ b → z ≡ y ++ c → w ≡ z ++ d → w ≡ out ++ (((a ++ b) ++ c) ++ d)
put_all out a b c d x y z w e f g h =
    h ∙ ap (λ (l : List ℕ). l ++ d) (g ∙ ap (λ (l : List ℕ). l ++ c) (f ∙ ap (λ (l : List ℕ). l ++ b) e)) ∙ regroup out a b c d

from_right : (a b c d rest : List ℕ) → (((a ++ b) ++ c) ++ d) ++ rest ≡ a ++ (b ++ (c ++ (d ++ rest)))
from_right a b c d rest = simp append_assoc

-- four parts and a rest, taken one behind the other
pub take_all : (bytes a b c d one two three rest : List ℕ) → bytes ≡ a ++ one → one ≡ b ++ two → two ≡ c ++ three → three ≡ d ++ rest → bytes ≡ (((a ++ b) ++ c) ++ d) ++ rest
take_all bytes a b c d one two three rest e f g h =
    e ∙ ap (λ (l : List ℕ). a ++ l) (f ∙ ap (λ (l : List ℕ). b ++ l) (g ∙ ap (λ (l : List ℕ). c ++ l) h)) ∙ sym (from_right a b c d rest)

pub if_none : {T : Type 0} {P : Type 0} (r : Option T) → P → IfNone r P
if_none None p = p
if_none (Some x) p = tt

pub same_split : (xs ys r s : List ℕ) → length xs ≡ length ys → xs ++ r ≡ ys ++ s → (xs ≡ ys) × (r ≡ s)
same_split [] [] r s l e = (refl, e)
same_split [] (y ∷ ys) r s l e = absurd (omega arith)
same_split (x ∷ xs) [] r s l e = absurd (omega arith)
same_split (x ∷ xs) (y ∷ ys) r s l e =
    let rest : xs ++ r ≡ ys ++ s = cc in
    let head : x ≡ y = cc in
    let both = same_split xs ys r s (omega arith) rest in
    (cc (head, both.0), both.1)

-- ---- entries

pub entry_parts : (entry : Entry) (rest : List ℕ) → entry_bytes entry ++ rest ≡ bytes_of_i64 entry.min ++ (bytes_of_i64 entry.max ++ (bytes_of_u64 entry.offset ++ (bytes_of_u32 entry.size ++ rest)))
unfolding entry_bytes
entry_parts entry rest = from_right (bytes_of_i64 entry.min) (bytes_of_i64 entry.max) (bytes_of_u64 entry.offset) (bytes_of_u32 entry.size) rest

pub entry_long : (entry : Entry) (rest : List ℕ) → length (entry_bytes entry ++ rest) ≡ 28 + length rest
entry_long entry rest =
    let parts = ap length (entry_parts entry rest) in
    let a = length-append (bytes_of_i64 entry.min) (bytes_of_i64 entry.max ++ (bytes_of_u64 entry.offset ++ (bytes_of_u32 entry.size ++ rest))) in
    let b = length-append (bytes_of_i64 entry.max) (bytes_of_u64 entry.offset ++ (bytes_of_u32 entry.size ++ rest)) in
    let c = length-append (bytes_of_u64 entry.offset) (bytes_of_u32 entry.size ++ rest) in
    let d = length-append (bytes_of_u32 entry.size) rest in
    let e = length-i64 entry.min in
    let f = length-i64 entry.max in
    let g = length-u64 entry.offset in
    let h = length-u32 entry.size in
    omega arith

-- its numbers have the widths of their fields
pub record HasWidths (entry : Entry) : Type 0 where
  pub min : FitsSigned w64 entry.min
  pub max : FitsSigned w64 entry.max
  pub offset : entry.offset < 2 ^ 64
  pub size : entry.size < 2 ^ 32

same_numbers : (x y : Entry) → x.min ≡ y.min → x.max ≡ y.max → x.offset ≡ y.offset → x.size ≡ y.size → x ≡ y
same_numbers x y a b c d = λ i. record { min = a i; max = b i; offset = c i; size = d i }

pub same_entry : (x y : Entry) (r s : List ℕ) → HasWidths x → HasWidths y → entry_bytes x ++ r ≡ entry_bytes y ++ s → (x ≡ y) × (r ≡ s)
same_entry x y r s w v e =
    let a = same_i64 x.min y.min (bytes_of_i64 x.max ++ (bytes_of_u64 x.offset ++ (bytes_of_u32 x.size ++ r))) (bytes_of_i64 y.max ++ (bytes_of_u64 y.offset ++ (bytes_of_u32 y.size ++ s)))
    w.min v.min (sym (entry_parts x r) ∙ e ∙ entry_parts y s) in
    let b = same_i64 x.max y.max (bytes_of_u64 x.offset ++ (bytes_of_u32 x.size ++ r)) (bytes_of_u64 y.offset ++ (bytes_of_u32 y.size ++ s)) w.max v.max a.1 in
    let c = same_u64 x.offset y.offset (bytes_of_u32 x.size ++ r) (bytes_of_u32 y.size ++ s) w.offset v.offset b.1 in
    let d = same_u32 x.size y.size r s w.size v.size c.1 in
    (same_numbers x y a.0 b.0 c.0 d.0, d.1)

-- ---- heads

pub head_parts : (key : List ℕ) (kind : Kind) (count : ℕ) (rest : List ℕ) → head_bytes key kind count ++ rest ≡ bytes_of_u16 (length key) ++ (key ++ (byte_of kind ∷ (bytes_of_u16 count ++ rest)))
unfolding head_bytes
head_parts key kind count rest = from_right (bytes_of_u16 (length key)) key (byte_of kind ∷ []) (bytes_of_u16 count) rest

pub behind_length : (key : List ℕ) (kind : Kind) (count : ℕ) (rest : List ℕ) → length (key ++ (byte_of kind ∷ (bytes_of_u16 count ++ rest))) ≡ length key + 3 + length rest
behind_length key kind count rest =
    let a = length-append key (byte_of kind ∷ (bytes_of_u16 count ++ rest)) in
    let b = length-append (bytes_of_u16 count) rest in
    let c = length-u16 count in
    omega arith

pub head_long : (key : List ℕ) (kind : Kind) (count : ℕ) (rest : List ℕ) → length (head_bytes key kind count ++ rest) ≡ length key + 5 + length rest
head_long key kind count rest =
    let parts = ap length (head_parts key kind count rest) in
    let a = length-append (bytes_of_u16 (length key)) (key ++ (byte_of kind ∷ (bytes_of_u16 count ++ rest))) in
    let b = length-u16 (length key) in
    let c = behind_length key kind count rest in
    omega arith

same_kind : (x y : Kind) → byte_of x ≡ byte_of y → x ≡ y
same_kind Integer Integer e = refl
same_kind Integer Boolean e = absurd (omega arith)
same_kind Integer Unsigned e = absurd (omega arith)
same_kind Boolean Integer e = absurd (omega arith)
same_kind Boolean Boolean e = refl
same_kind Boolean Unsigned e = absurd (omega arith)
same_kind Unsigned Integer e = absurd (omega arith)
same_kind Unsigned Boolean e = absurd (omega arith)
same_kind Unsigned Unsigned e = refl

-- what a length at the front says of the head behind it
pub at_head : (key behind : List ℕ) (kind : Kind) (count n : ℕ) (rest : List ℕ) → n < 2 ^ 16 → length key < 2 ^ 16 → bytes_of_u16 n ++ behind ≡ head_bytes key kind count ++ rest
    → (n ≡ length key) × (behind ≡ key ++ (byte_of kind ∷ (bytes_of_u16 count ++ rest)))
at_head key behind kind count n rest fits short e =
    same_u16 n (length key) behind (key ++ (byte_of kind ∷ (bytes_of_u16 count ++ rest))) fits short (e ∙ head_parts key kind count rest)

pub same_head : (key other : List ℕ) (kind kind' : Kind) (count count' : ℕ) (r s : List ℕ) → length key < 2 ^ 16 → length other < 2 ^ 16 → count < 2 ^ 16 → count' < 2 ^ 16
    → head_bytes key kind count ++ r ≡ head_bytes other kind' count' ++ s → (key ≡ other) × (kind ≡ kind') × (count ≡ count') × (r ≡ s)
same_head key other kind kind' count count' r s short short' fits fits' e =
    let a = at_head other (key ++ (byte_of kind ∷ (bytes_of_u16 count ++ r))) kind' count' (length key) s short short' (sym (head_parts key kind count r) ∙ e) in
    let b = same_split key other (byte_of kind ∷ (bytes_of_u16 count ++ r)) (byte_of kind' ∷ (bytes_of_u16 count' ++ s)) a.0 a.1 in
    let bytes = b.1 in
    let byte : byte_of kind ≡ byte_of kind' = cc in
    let tail : bytes_of_u16 count ++ r ≡ bytes_of_u16 count' ++ s = cc in
    let c = same_u16 count count' r s fits fits' tail in
    (b.0, same_kind kind kind' byte, c.0, c.1)

-- ---- what isn't there

pub no_head_short : (bytes : List ℕ) → length bytes < 5 → (key : List ℕ) (kind : Kind) (count : ℕ) (rest : List ℕ) → length key < 2 ^ 16 → bytes ≢ head_bytes key kind count ++ rest
no_head_short bytes h key kind count rest short e = let long = ap length e ∙ head_long key kind count rest in omega arith

pub no_head_cut : (bytes behind : List ℕ) (n : ℕ) → n < 2 ^ 16 → bytes ≡ bytes_of_u16 n ++ behind → length behind < n + 3
    → (key : List ℕ) (kind : Kind) (count : ℕ) (rest : List ℕ) → length key < 2 ^ 16 → bytes ≢ head_bytes key kind count ++ rest
no_head_cut bytes behind n fits is h key kind count rest short e =
    let at = at_head key behind kind count n rest fits short (sym is ∙ e) in
    let same = at.0 in
    let long = ap length at.1 ∙ behind_length key kind count rest in
    omega arith

pub no_head_kind : (bytes behind own tail : List ℕ) (n b : ℕ) → n < 2 ^ 16 → bytes ≡ bytes_of_u16 n ++ behind → behind ≡ own ++ (b ∷ tail) → length own ≡ n → ((kind : Kind) → byte_of kind ≢ b)
    → (key : List ℕ) (kind : Kind) (count : ℕ) (rest : List ℕ) → length key < 2 ^ 16 → bytes ≢ head_bytes key kind count ++ rest
no_head_kind bytes behind own tail n b fits is split len not key kind count rest short e =
    let at = at_head key behind kind count n rest fits short (sym is ∙ e) in
    let both = same_split own key (b ∷ tail) (byte_of kind ∷ (bytes_of_u16 count ++ rest)) (len ∙ at.0) (sym split ∙ at.1) in
    let cells = both.1 in
    let same : b ≡ byte_of kind = cc in
    not kind (sym same)

-- a slice is its front and its back
pub split_of : (xs front back : List ℕ) (n : ℕ) → front ≡ take n xs → back ≡ drop n xs → xs ≡ front ++ back
split_of xs front back n e f = sym (take-append-drop n xs) ∙ ap (λ (l : List ℕ). l ++ drop n xs) (sym e) ∙ ap (λ (l : List ℕ). front ++ l) (sym f)

-- a list of one item
pub one_of : (xs : List ℕ) → length xs ≡ 1 → xs ≡ get_or xs 0 0 ∷ []
one_of [] e = absurd (omega arith)
one_of (x ∷ []) e = refl
one_of (x ∷ y ∷ xs) e = absurd (omega arith)

pub moment_fits : (z : ℤ) → IsMoment z → FitsSigned w64 z
moment_fits z m = let low = m.least in let high = m.greatest in search (arith, rules, ints)

pub entry_widths : (at : ℕ) (entry : Entry) → IsEntry at entry → HasWidths entry
entry_widths at entry is = record { min = moment_fits entry.min is.first; max = moment_fits entry.max is.last; offset = is.held; size = is.fits }

pub no_entry_short : (bytes : List ℕ) (last : Option ℤ) (place : Option ℕ) → length bytes < 28
    → (entry : Entry) (rest : List ℕ) (at : ℕ) → StandsFor place at → IsEntry at entry → IsLater last entry.min → bytes ≢ entry_bytes entry ++ rest
no_entry_short bytes last place short entry rest at stands is later e = let long = ap length e ∙ entry_long entry rest in omega arith

pub no_entry_other : (bytes behind : List ℕ) (raw : Entry) (last : Option ℤ) (place : Option ℕ) → HasWidths raw → bytes ≡ entry_bytes raw ++ behind
    → ((at : ℕ) → StandsFor place at → IsEntry at raw × IsLater last raw.min → ⊥)
    → (entry : Entry) (rest : List ℕ) (at : ℕ) → StandsFor place at → IsEntry at entry → IsLater last entry.min → bytes ≢ entry_bytes entry ++ rest
no_entry_other bytes behind raw last place widths is none entry rest at stands good later e =
    let same = same_entry entry raw rest behind (entry_widths at entry good) widths (sym e ∙ is) in
    none at stands (subst (λ (x : Entry). IsEntry at x × IsLater last x.min) same.0 (good, later))

-- ---- the footer

pub whole_foot : (foot rest : List ℕ) (place : ℕ) → length foot ≡ 8 → foot ≡ bytes_of_u64 place ++ rest → foot ≡ bytes_of_u64 place
whole_foot foot [] place len e = e ∙ append-nil (bytes_of_u64 place)
whole_foot foot (x ∷ rest) place len e =
    let long = ap length e ∙ length-append (bytes_of_u64 place) (x ∷ rest) in
    let eight = length-u64 place in
    absurd (omega arith)

pub other_foot : (foot rest : List ℕ) (place other : ℕ) → place < 2 ^ 64 → other < 2 ^ 64 → foot ≡ bytes_of_u64 place ++ rest → foot ≡ bytes_of_u64 other → place ≡ other
other_foot foot rest place other fits fits' e f = (same_u64 place other rest [] fits fits' (sym e ∙ f ∙ sym (append-nil (bytes_of_u64 other)))).0

pub none_weaker : {T : Type 0} {P Q : Type 0} (r : Option T) → (P → Q) → IfNone r P → IfNone r Q
none_weaker None f p = f p
none_weaker (Some x) f p = tt

pub entry_behind : (bytes behind : List ℕ) (raw : Entry) (r : Option Entry) → bytes ≡ entry_bytes raw ++ behind → IfSome r (λ entry. entry ≡ raw) → IfSome r (λ entry. bytes ≡ entry_bytes entry ++ drop 28 bytes)
entry_behind bytes behind raw None e same = tt
entry_behind bytes behind raw (Some entry) e same =
    let len : length (entry_bytes raw) ≡ 28 = let long = entry_long raw [] in let nil = ap length (append-nil (entry_bytes raw)) in omega arith in
    let rest : behind ≡ drop 28 bytes = sym (drop-append_seam (entry_bytes raw) behind) ∙ ap (λ (k : ℕ). drop k (entry_bytes raw ++ behind)) len ∙ ap (drop 28) (sym e) in
    e ∙ ap (λ (x : Entry). entry_bytes x ++ behind) (sym same) ∙ ap (λ (l : List ℕ). entry_bytes entry ++ l) rest

-- ---- options that were tested

pub none_from_test : {T : Type 0} {P : Type 0} (o : Option T) → is_some o ≡ false → IfNone o P → P
none_from_test None e p = p
none_from_test (Some x) e p = absurd cc

pub some_from_test : {T : Type 0} (o : Option T) → is_some o ≡ true → (x : T) × (o ≡ Some x)
some_from_test None e = absurd cc
some_from_test (Some x) e = (x, refl)
