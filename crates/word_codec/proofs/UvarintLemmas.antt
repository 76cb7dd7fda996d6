-- The spelling of a number as groups that go on and a last one, and back.
use Rattle.std.proofs.Common.{◌≡◌, ℕ, zero, suc, ◌+◌, ◌-◌, ◌*◌, ◌/◌, ◌%◌, ◌^◌, ◌<◌, ◌≤◌, List, [], ◌∷◌, ◌++◌, ◌⊎◌, inl, inr, length, take, drop, get_or, refl, sym, ◌∙◌, ap, subst, arith, append_assoc, length-append, add-one}
use Rattle.std.specs.Prelude.{All}
use Rattle.std.proofs.Math.Seq.{take-append_seam, drop-append_seam}
use Rattle.std.proofs.Math.Nat.{pow-succ', pow-le-pow_right, mul-le-mul_right, mul-le-mul_left}
use Rattle.std.proofs.lemmas.Bool.{cases_lt, cond_below, cond_above}
use Rattle.std.proofs.lemmas.List.{drop_more, take_more, length-take-le, take_all, take-append-le, take-append-drop, length_push, length-take, take-take}
use Rattle.std.proofs.lemmas.List.Elements.{All-nil, All-cons}
use Rattle.word_codec.specs.Uvarint.{groups, uvarint, IsShort}

-- each byte has the high bit
abbrev pub GoOn : List ℕ → Type 0
GoOn [] = Unit {0}
GoOn (byte ∷ bytes) = (128 ≤ byte) × (byte < 256) × GoOn bytes

-- the number of the groups of these bytes, below the last group
abbrev pub value_of : List ℕ → ℕ → ℕ
value_of [] last = last
value_of (byte ∷ bytes) last = (byte - 128) + 128 * value_of bytes last

-- a number, taken apart into its groups
pub record Shape (bytes : List ℕ) (number : ℕ) : Type 0 where
  pub front : List ℕ
  pub last : ℕ
  pub go_on : GoOn front
  pub ends : last < 128
  pub shortest : 0 < length front → 0 < last
  pub value : value_of front last ≡ number
  pub is : bytes ≡ front ++ last ∷ []

below : (number more : ℕ) → number < 128 → groups (suc more) number ≡ number ∷ []
below number more small = sym (cond_below number 128 _ _ small)

beyond : (number more : ℕ) → 128 ≤ number → groups (suc more) number ≡ (128 + number % 128) ∷ groups more (number / 128)
beyond number more large = sym (cond_above number 128 _ _ _ large refl)

positive : (front : List ℕ) (last : ℕ) → 0 < value_of front last → (0 < length front → 0 < last) → 0 < last
positive [] last h shortest = h
positive (byte ∷ bytes) last h shortest = shortest (omega arith)

pub shape_of : (more number : ℕ) → number ≤ more → Shape (groups more number) number
shape_of zero number le = record { front = []; last = number; go_on = tt; ends = omega arith; shortest = λ h. absurd (omega arith); value = refl; is = refl }
shape_of (suc more) number le = elim (cases_lt number 128) [
  | inl small ↦ record { front = []; last = number; go_on = tt; ends = small; shortest = λ h. absurd (omega arith); value = refl; is = below number more small }
  | inr large ↦
      let rest = shape_of more (number / 128) (omega arith) in
      record {
        front = (128 + number % 128) ∷ rest.front;
        last = rest.last;
        go_on = (omega arith, omega arith, rest.go_on);
        ends = rest.ends;
        shortest = λ h. positive rest.front rest.last (omega (arith, rest.value)) rest.shortest;
        value = omega (arith, rest.value);
        is = beyond number more large ∙ ap (λ bytes. (128 + number % 128) ∷ bytes) rest.is;
      }
]

pub shape : (number : ℕ) → Shape (uvarint number) number
unfolding uvarint
shape number = shape_of number number (omega arith)

enough : (a b number : ℕ) → number ≤ a → number ≤ b → groups a number ≡ groups b number
enough zero zero number p q = refl
enough zero (suc b) number p q = sym (below number b (omega arith))
enough (suc a) zero number p q = below number a (omega arith)
enough (suc a) (suc b) number p q = elim (cases_lt number 128) [
  | inl small ↦ below number a small ∙ sym (below number b small)
  | inr large ↦ beyond number a large ∙ ap (λ bytes. (128 + number % 128) ∷ bytes) (enough a b (number / 128) (omega arith) (omega arith)) ∙ sym (beyond number b large)
]

-- a number below 128 is its own spelling
pub uvarint_small : (number : ℕ) → number < 128 → uvarint number ≡ number ∷ []
unfolding uvarint
uvarint_small number small = enough number (suc number) number (omega arith) (omega arith) ∙ below number number small

-- a greater one begins with its lowest seven bits
pub uvarint_step : (number : ℕ) → 128 ≤ number → uvarint number ≡ (128 + number % 128) ∷ uvarint (number / 128)
unfolding uvarint
uvarint_step number large =
    enough number (suc number) number (omega arith) (omega arith)
    ∙ beyond number number large
    ∙ ap (λ bytes. (128 + number % 128) ∷ bytes) (enough number (number / 128) (number / 128) (omega arith) (omega arith))

value_ge : (front : List ℕ) (last : ℕ) → 128 ^ length front * last ≤ value_of front last
value_ge [] last = omega arith
value_ge (byte ∷ bytes) last =
    let more = value_ge bytes last in
    let power = pow-succ' 128 (length bytes) in
    omega (arith, more, ap (λ p. p * last) power)

some_value : (front : List ℕ) (last : ℕ) → 0 < last → 0 < value_of front last
some_value [] last h = h
some_value (byte ∷ bytes) last h = omega (arith, some_value bytes last h)

-- groups that go on, and a last one that is not 0 behind others, are the spelling of their number
pub spelled : (front : List ℕ) (last : ℕ) → GoOn front → last < 128 → (0 < length front → 0 < last) → uvarint (value_of front last) ≡ front ++ last ∷ []
spelled [] last go_on ends shortest = uvarint_small last ends
spelled (byte ∷ bytes) last go_on ends shortest =
    let rest = value_of bytes last in
    let number = (byte - 128) + 128 * rest in
    let some : 0 < rest = some_value bytes last (shortest (omega arith)) in
    let large : 128 ≤ number = omega (arith, some) in
    let low : 128 + number % 128 ≡ byte = omega (arith, go_on.0, go_on.1) in
    let high : number / 128 ≡ rest = omega (arith, go_on.0, go_on.1) in
    uvarint_step number large
    ∙ ap (λ first. first ∷ uvarint (number / 128)) low
    ∙ ap (λ left. byte ∷ uvarint left) high
    ∙ ap (λ spelling. byte ∷ spelling) (spelled bytes last go_on.2 ends (λ h. shortest (omega arith)))

-- what goes on and a last byte are found again in what begins with them
pub one_end : (first second : List ℕ) (last other : ℕ) (rest more : List ℕ) → GoOn first → GoOn second → last < 128 → other < 128 → first ++ last ∷ rest ≡ second ++ other ∷ more → (first ≡ second) × (last ≡ other) × (rest ≡ more)
one_end [] [] last other rest more p q s t e = (refl, cc, cc)
one_end [] (byte ∷ bytes) last other rest more p q s t e = let same : last ≡ byte = cc in absurd (omega (arith, q.0))
one_end (byte ∷ bytes) [] last other rest more p q s t e = let same : byte ≡ other = cc in absurd (omega (arith, p.0))
one_end (byte ∷ bytes) (byte' ∷ bytes') last other rest more p q s t e =
    let tails : bytes ++ last ∷ rest ≡ bytes' ++ other ∷ more = cc in
    let same : byte ≡ byte' = cc in
    let ends = one_end bytes bytes' last other rest more p.2 q.2 s t tails in
    (cc, ends.1, ends.2)

-- a spelling with what follows it, taken apart
pub followed : (number : ℕ) (rest : List ℕ) → uvarint number ++ rest ≡ (shape number).front ++ (shape number).last ∷ rest
followed number rest =
    ap (λ bytes. bytes ++ rest) (shape number).is ∙ append_assoc (shape number).front ((shape number).last ∷ []) rest

-- no spelling begins another
pub apart : (first second : ℕ) (rest other : List ℕ) → uvarint first ++ rest ≡ uvarint second ++ other → (first ≡ second) × (rest ≡ other)
apart first second rest other e =
    let a = shape first in
    let b = shape second in
    let same = one_end a.front b.front a.last b.last rest other a.go_on b.go_on a.ends b.ends (sym (followed first rest) ∙ e ∙ followed second other) in
    (sym a.value ∙ ap (λ front. value_of front a.last) same.0 ∙ ap (value_of b.front) same.1 ∙ b.value, same.2)

value_push : (front : List ℕ) (byte last : ℕ) → value_of (front ++ byte ∷ []) last ≡ value_of front ((byte - 128) + 128 * last)
value_push [] byte last = refl
value_push (first ∷ front) byte last = ap (λ value. (first - 128) + 128 * value) (value_push front byte last)

value_split : (front : List ℕ) (last : ℕ) → value_of front last ≡ value_of front 0 + last * 128 ^ length front
value_split [] last = omega arith
value_split (byte ∷ bytes) last = omega (arith, value_split bytes last, ap (λ p. p * last) (pow-succ' 128 (length bytes)))

value_below : (front : List ℕ) → GoOn front → value_of front 0 < 128 ^ length front
value_below [] p = omega arith
value_below (byte ∷ bytes) p = omega (arith, value_below bytes p.2, pow-succ' 128 (length bytes), p.0, p.1)

go_on_push : (front : List ℕ) (byte : ℕ) → GoOn front → 128 ≤ byte → byte < 256 → GoOn (front ++ byte ∷ [])
go_on_push [] byte p low high = (low, high, tt)
go_on_push (first ∷ front) byte p low high = (p.0, p.1, go_on_push front byte p.2 low high)

pub all_go_on : (front : List ℕ) → GoOn front → All (λ byte. 128 ≤ byte) front
all_go_on [] p = All-nil (λ byte. 128 ≤ byte)
all_go_on (byte ∷ bytes) p = All-cons (λ byte. 128 ≤ byte) byte bytes p.0 (all_go_on bytes p.2)

-- so many bytes have been read, each of them asks for a further one, and they are the low bits of the number
pub record Begun (bytes : List ℕ) (index low scale : ℕ) : Type 0 where
  pub room : index ≤ 9
  pub within : index ≤ length bytes
  pub go_on : GoOn (take index bytes)
  pub low_is : low ≡ value_of (take index bytes) 0
  pub scale_is : scale ≡ 128 ^ index

pub begun : (bytes : List ℕ) → Begun bytes 0 0 1
begun bytes = record { room = omega arith; within = omega arith; go_on = tt; low_is = refl; scale_is = refl }

power_of : (bytes : List ℕ) (index : ℕ) → index ≤ length bytes → 128 ^ index ≡ 128 ^ length (take index bytes)
power_of bytes index le = ap (λ n. 128 ^ n) (sym (length-take-le index bytes le))

-- what fits into 64 bits while it is read
pub record Fits (index low scale : ℕ) : Type 0 where
  pub low_below : low < scale
  pub last_scale : scale ≤ 2 ^ 63
  pub scale_before : index ≤ 8 → scale ≤ 2 ^ 56

pub fits : (bytes : List ℕ) (index low scale : ℕ) → Begun bytes index low scale → Fits index low scale
fits bytes index low scale b = record {
  low_below = omega (arith, value_below (take index bytes) b.go_on, power_of bytes index b.within, b.low_is, b.scale_is);
  last_scale = omega (arith, pow-le-pow_right {n = 128} (omega arith) {i = index} {j = 9} b.room, b.scale_is);
  scale_before = λ le. omega (arith, pow-le-pow_right {n = 128} (omega arith) {i = index} {j = 8} le, b.scale_is);
}

pub begun_more : (bytes : List ℕ) (index low scale byte : ℕ) → Begun bytes index low scale → index < length bytes → byte ≡ get_or bytes index 0 → 128 ≤ byte → byte < 256 → index + 1 ≤ 9 → Begun bytes (index + 1) (low + (byte - 128) * scale) (scale * 128)
begun_more bytes index low scale byte b lt is large small room =
    let more : take (index + 1) bytes ≡ take index bytes ++ byte ∷ [] = take_more bytes index 0 lt ∙ ap (λ x. take index bytes ++ x ∷ []) (sym is) in
    record {
      room = room;
      within = omega arith;
      go_on = subst GoOn (sym more) (go_on_push (take index bytes) byte b.go_on large small);
      low_is =
          let pushed : value_of (take (index + 1) bytes) 0 ≡ value_of (take index bytes) ((byte - 128) + 128 * 0) =
          ap (λ front. value_of front 0) more ∙ value_push (take index bytes) byte 0 in
          omega (arith, pushed, value_split (take index bytes) ((byte - 128) + 128 * 0), b.low_is, ap (λ p. (byte - 128) * p) (b.scale_is ∙ power_of bytes index b.within));
      scale_is = omega (arith, ap (λ n. 128 ^ n) (add-one index), pow-succ' 128 index, b.scale_is);
    }

module _ (bytes : List ℕ) (index low scale last : ℕ) (b : Begun bytes index low scale) (lt : index < length bytes) (is : last ≡ get_or bytes index 0) (ends : last < 128) where
  cut : bytes ≡ take index bytes ++ last ∷ drop (index + 1) bytes
  cut = sym (take-append-drop index bytes) ∙ ap (λ rest. take index bytes ++ rest) (drop_more bytes index 0 lt ∙ ap (λ x. x ∷ drop (index + 1) bytes) (sym is))

  value_here : value_of (take index bytes) last ≡ low + last * scale
  value_here = omega (arith, value_split (take index bytes) last, b.low_is, ap (λ p. last * p) (b.scale_is ∙ power_of bytes index b.within))

  spelled_here : (0 < index → 0 < last) → uvarint (low + last * scale) ≡ take index bytes ++ last ∷ []
  spelled_here shortest =
      ap uvarint (sym value_here) ∙ spelled (take index bytes) last b.go_on ends (λ h. shortest (omega (arith, length-take-le index bytes b.within)))

  -- the number ends here, and what follows it is left
  pub found_here : (0 < index → 0 < last) → (bytes ≡ uvarint (low + last * scale) ++ drop (index + 1) bytes) × (index + 1 ≡ length (uvarint (low + last * scale)))
  found_here shortest = let spelling = spelled_here shortest in (
    cut ∙ sym (append_assoc (take index bytes) (last ∷ []) (drop (index + 1) bytes)) ∙ ap (λ front. front ++ drop (index + 1) bytes) (sym spelling),
    omega (arith, ap length spelling, length-append (take index bytes) (last ∷ []), length-take-le index bytes b.within),
  )

  ended_here : (number : ℕ) (rest : List ℕ) → bytes ≡ uvarint number ++ rest → ((shape number).front ≡ take index bytes) × ((shape number).last ≡ last)
  ended_here number rest e =
      let same = one_end (shape number).front (take index bytes) (shape number).last last rest (drop (index + 1) bytes) (shape number).go_on b.go_on (shape number).ends ends (sym (followed number rest) ∙ sym e ∙ cut) in
      (same.0, same.1)

  -- no other number is there
  pub only_here : (number : ℕ) (rest : List ℕ) → bytes ≡ uvarint number ++ rest → low + last * scale ≡ number
  only_here number rest e =
      let same = ended_here number rest e in
      sym value_here ∙ sym (ap (λ front. value_of front last) same.0) ∙ sym (ap (value_of (shape number).front) same.1) ∙ (shape number).value

  -- a last group of 0 behind others spells nothing
  pub none_padded : 0 < index → last ≡ 0 → (number : ℕ) (rest : List ℕ) → bytes ≡ uvarint number ++ rest → ⊥
  none_padded more none number rest e =
      let same = ended_here number rest e in
      let some = (shape number).shortest (omega (arith, ap length same.0, length-take-le index bytes b.within)) in
      omega (arith, some, same.1, none)

  -- nor a tenth group of two bits or more
  pub none_too_great : index ≡ 9 → 2 ≤ last → (number : ℕ) (rest : List ℕ) → number < 2 ^ 64 → bytes ≡ uvarint number ++ rest → ⊥
  none_too_great tenth large number rest small e =
      let value = only_here number rest e in
      let most = ap (λ n. 128 ^ n) tenth in
      omega (arith, value, small, b.scale_is ∙ most, mul-le-mul_right scale large)

  pub none_here : ((0 < index) × (last ≡ 0)) ⊎ ((index ≡ 9) × (2 ≤ last)) → (number : ℕ) (rest : List ℕ) → number < 2 ^ 64 → bytes ≡ uvarint number ++ rest → ⊥
  none_here (inl padded) number rest small e = none_padded padded.0 padded.1 number rest e
  none_here (inr great) number rest small e = none_too_great great.0 great.1 number rest small e

  pub sum_fits : (index ≡ 9 → last ≤ 1) → last * scale + low < 2 ^ 64
  sum_fits tenth =
      let f = fits bytes index low scale b in
      elim (cases_lt index 9) [
        | inl before ↦ omega (arith, f.low_below, f.scale_before (omega arith), mul-le-mul_right scale (let le : last ≤ 127 = omega arith in le))
        | inr nine ↦ omega (arith, f.low_below, f.last_scale, mul-le-mul_right scale (tenth (omega (arith, b.room))))
      ]

runs_past : (k : ℕ) (front : List ℕ) (last : ℕ) (rest : List ℕ) → GoOn (take k (front ++ last ∷ rest)) → last < 128 → k ≤ length front
runs_past zero front last rest p ends = omega arith
runs_past (suc k) [] last rest p ends = absurd (omega (arith, p.0))
runs_past (suc k) (byte ∷ front) last rest p ends = omega (arith, runs_past k front last rest p.2 ends)

past : (k : ℕ) (bytes : List ℕ) → GoOn (take k bytes) → (number : ℕ) (rest : List ℕ) → bytes ≡ uvarint number ++ rest → k ≤ length (shape number).front
past k bytes p number rest e =
    runs_past k (shape number).front (shape number).last rest (subst (λ text. GoOn (take k text)) (e ∙ followed number rest) p) (shape number).ends

-- bytes that all go on spell nothing
-- a whole text that goes on is one that is cut short
pub is_short : (bytes : List ℕ) (index low scale : ℕ) → Begun bytes index low scale → length bytes ≤ index → (GoOn bytes) × IsShort bytes
is_short bytes index low scale b all =
    let go_on : GoOn bytes = subst GoOn (take_all index bytes all) b.go_on in
    (go_on, record { room = omega (arith, b.room, b.within); all_go_on = all_go_on bytes go_on })

pub none_short : (bytes : List ℕ) → GoOn bytes → (number : ℕ) (rest : List ℕ) → bytes ≡ uvarint number ++ rest → ⊥
none_short bytes p number rest e =
    let far = past (length bytes) bytes (subst GoOn (sym (take_all (length bytes) bytes (omega arith))) p) number rest e in
    omega (arith, far, ap length (e ∙ followed number rest), length-append (shape number).front ((shape number).last ∷ rest))

-- nor do ten of them spell a number of 64 bits
pub ten_go_on : (bytes : List ℕ) (index low scale byte : ℕ) → Begun bytes index low scale → index < length bytes → byte ≡ get_or bytes index 0 → 128 ≤ byte → byte < 256 → index ≡ 9 → GoOn (take 10 bytes)
ten_go_on bytes index low scale byte b lt is large small nine =
    let more : take (index + 1) bytes ≡ take index bytes ++ byte ∷ [] = take_more bytes index 0 lt ∙ ap (λ x. take index bytes ++ x ∷ []) (sym is) in
    let ten : index + 1 ≡ 10 = omega (arith, nine) in
    subst GoOn (sym more ∙ ap (λ n. take n bytes) ten) (go_on_push (take index bytes) byte b.go_on large small)

pub none_tenth : (bytes : List ℕ) → GoOn (take 10 bytes) → (number : ℕ) (rest : List ℕ) → number < 2 ^ 64 → bytes ≡ uvarint number ++ rest → ⊥
none_tenth bytes p number rest small e =
    let far = past 10 bytes p number rest e in
    let some = (shape number).shortest (omega (arith, far)) in
    let size = value_ge (shape number).front (shape number).last in
    let power = pow-le-pow_right {n = 128} (omega arith) {i = 10} {j = length (shape number).front} far in
    omega (arith, size, (shape number).value, small, power, mul-le-mul_left (128 ^ length (shape number).front) some)

length_is : (number : ℕ) → length (uvarint number) ≡ length (shape number).front + 1
length_is number = ap length (shape number).is ∙ length_push (shape number).front (shape number).last

-- a number of 64 bits takes ten bytes at most
pub length_most : (number : ℕ) → number < 2 ^ 64 → length (uvarint number) ≤ 10
length_most number small = elim (cases_lt (length (shape number).front) 10) [
  | inl few ↦ omega (arith, length_is number, few)
  | inr many ↦
      let some = (shape number).shortest (omega (arith, many)) in
      let size = value_ge (shape number).front (shape number).last in
      let power = pow-le-pow_right {n = 128} (omega arith) {i = 10} {j = length (shape number).front} many in
      absurd (omega (arith, size, (shape number).value, small, power, mul-le-mul_left (128 ^ length (shape number).front) some))
]

-- ---- the first ten bytes tell as much as all

pub front_number : (bytes : List ℕ) (number : ℕ) (rest : List ℕ) → number < 2 ^ 64 → bytes ≡ uvarint number ++ rest → take 10 bytes ≡ uvarint number ++ drop (length (uvarint number)) (take 10 bytes)
front_number bytes number rest small is =
    let size = length (uvarint number) in
    let front : take size (take 10 bytes) ≡ uvarint number =
    take-take size 10 bytes (length_most number small) ∙ ap (take size) is ∙ take-append_seam (uvarint number) rest in
    sym (take-append-drop size (take 10 bytes)) ∙ ap (λ ns. ns ++ drop size (take 10 bytes)) front

pub whole_number : (bytes rest : List ℕ) (number : ℕ) → take 10 bytes ≡ uvarint number ++ rest → bytes ≡ uvarint number ++ (rest ++ drop 10 bytes)
whole_number bytes rest number is =
    sym (take-append-drop 10 bytes) ∙ ap (λ ns. ns ++ drop 10 bytes) is ∙ append_assoc (uvarint number) rest (drop 10 bytes)

pub whole_found : (bytes : List ℕ) (number size : ℕ) → take 10 bytes ≡ uvarint number ++ drop size (take 10 bytes) → size ≡ length (uvarint number) → bytes ≡ uvarint number ++ drop size bytes
whole_found bytes number size is same =
    let rest = drop size (take 10 bytes) ++ drop 10 bytes in
    let whole = whole_number bytes (drop size (take 10 bytes)) number is in
    let left : drop size bytes ≡ rest = ap (λ (n : ℕ). drop n bytes) same ∙ ap (drop (length (uvarint number))) whole ∙ drop-append_seam (uvarint number) rest in
    whole ∙ ap (λ ns. uvarint number ++ ns) (sym left)

-- ---- one group more is written

pub kept_all : (items : List ℕ) → take (length items) items ≡ items
kept_all items = take_all (length items) items (omega arith)

pub kept_more : (items out new : List ℕ) (byte : ℕ) → new ≡ out ++ byte ∷ [] → take (length items) out ≡ items → take (length items) new ≡ items
kept_more items out new byte pushed kept =
    let within : length items ≤ length out = omega (arith, ap length kept, length-take (length items) out) in
    ap (take (length items)) pushed ∙ take-append-le (length items) out (byte ∷ []) within ∙ kept

pub group_more : (out new all : List ℕ) (rest byte : ℕ) → 128 ≤ rest → byte ≡ rest % 128 + 128 → new ≡ out ++ byte ∷ [] → out ++ uvarint rest ≡ all → new ++ uvarint (rest / 128) ≡ all
group_more out new all rest byte wide is pushed so_far =
    let same : byte ≡ 128 + rest % 128 = omega (arith, is) in
    ap (λ ns. ns ++ uvarint (rest / 128)) pushed
    ∙ append_assoc out (byte ∷ []) (uvarint (rest / 128))
    ∙ ap (λ b. out ++ b ∷ uvarint (rest / 128)) same
    ∙ ap (λ ns. out ++ ns) (sym (uvarint_step rest wide))
    ∙ so_far

pub group_last : (out new all : List ℕ) (rest : ℕ) → rest < 128 → new ≡ out ++ rest ∷ [] → out ++ uvarint rest ≡ all → new ≡ all
group_last out new all rest small pushed so_far = pushed ∙ ap (λ ns. out ++ ns) (sym (uvarint_small rest small)) ∙ so_far
