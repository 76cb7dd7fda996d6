-- Booleans in bytes.
use Rattle.std.proofs.Common.{◌≡◌, ℕ, suc, zero, ◌+◌, ◌*◌, ◌/◌, ◌^◌, ◌<◌, ◌≤◌, ⊎_elim, Bool, cond, List, [], ◌∷◌, ◌++◌, length, take, drop, get_or, min, sym, ◌∙◌, ap, refl, arith, length-append}
use Rattle.std.proofs.lemmas.Bool.{cases_Bool, cases_lt}
use Rattle.std.proofs.lemmas.List.{take_all, drop_all, length-drop, drop-drop, drop-append-le, take-append-le}
use Rattle.word_codec.specs.Uvarint.{uvarint}
use Rattle.value_codec.specs.Booleans.{byte_of, bytes_behind, coded_booleans}

pub byte_of-nil : (weight : ℕ) → byte_of weight [] ≡ 0
unfolding byte_of
byte_of-nil weight = refl

pub byte_of-cons : (weight : ℕ) (truth : Bool) (truths : List Bool) → byte_of weight (truth ∷ truths) ≡ cond truth weight 0 + byte_of (weight / 2) truths
unfolding byte_of
byte_of-cons weight truth truths = refl

pub byte_of-zero : (truths : List Bool) → byte_of 0 truths ≡ 0
byte_of-zero [] = byte_of-nil 0
byte_of-zero (truth ∷ truths) = byte_of-cons 0 truth truths ∙ (let rest : byte_of (0 / 2) truths ≡ 0 = byte_of-zero truths in ⊎_elim
    (λ yes. ap (λ (b : Bool). cond b 0 0 + byte_of (0 / 2) truths) yes ∙ omega (arith, rest))
    (λ no. ap (λ (b : Bool). cond b 0 0 + byte_of (0 / 2) truths) no ∙ omega (arith, rest))
    (cases_Bool truth))

-- Booleans from a weight down are below twice the weight
pub byte_of-lt : (weight : ℕ) (truths : List Bool) → 1 ≤ weight → byte_of weight truths < 2 * weight
byte_of-lt weight [] some = omega (arith, byte_of-nil weight)
byte_of-lt weight (truth ∷ truths) some =
    let rest : byte_of (weight / 2) truths < weight =
    ⊎_elim
    (λ none. let is : weight / 2 ≡ 0 = omega arith in omega (arith, ap (λ (w : ℕ). byte_of w truths) is, byte_of-zero truths))
    (λ more. omega (arith, byte_of-lt (weight / 2) truths more))
    (cases_lt (weight / 2) 1) in
    ⊎_elim
    (λ yes. omega (arith, byte_of-cons weight truth truths, ap (λ (b : Bool). cond b weight 0) yes, rest))
    (λ no. omega (arith, byte_of-cons weight truth truths, ap (λ (b : Bool). cond b weight 0) no, rest))
    (cases_Bool truth)

pub half_lt : (weight : ℕ) (truths : List Bool) → 1 ≤ weight → byte_of (weight / 2) truths < weight
half_lt weight truths some =
    ⊎_elim
    (λ none. let is : weight / 2 ≡ 0 = omega arith in omega (arith, ap (λ (w : ℕ). byte_of w truths) is, byte_of-zero truths))
    (λ more. omega (arith, byte_of-lt (weight / 2) truths more))
    (cases_lt (weight / 2) 1)

-- those behind the weight 1 don't count
pub byte_of-take : (n weight : ℕ) (truths : List Bool) → weight < 2 ^ n → byte_of weight (take n truths) ≡ byte_of weight truths
byte_of-take zero weight truths low = let none : weight ≡ 0 = omega arith in
    ap (λ (w : ℕ). byte_of w []) none ∙ byte_of-zero [] ∙ sym (byte_of-zero truths) ∙ ap (λ (w : ℕ). byte_of w truths) (sym none)
byte_of-take (suc n) weight [] low = refl
byte_of-take (suc n) weight (truth ∷ truths) low =
    let half : weight / 2 < 2 ^ n = omega (arith, low, double n) in
    byte_of-cons weight truth (take n truths) ∙ ap (λ (b : ℕ). cond truth weight 0 + b) (byte_of-take n (weight / 2) truths half) ∙ sym (byte_of-cons weight truth truths)
  where
    double : (n : ℕ) → 2 ^ suc n ≡ 2 * 2 ^ n
    double n = Rattle.std.proofs.Math.Nat.pow-succ' 2 n

-- ---- the bytes one after another

pub bytes-nil : bytes_behind 0 [] ≡ []
unfolding bytes_behind
bytes-nil = refl

bytes-drop : (held : ℕ) (truths : List Bool) → bytes_behind held truths ≡ bytes_behind 0 (drop held truths)
unfolding bytes_behind
bytes-drop zero truths = refl
bytes-drop (suc held) [] = refl
bytes-drop (suc held) (truth ∷ truths) = bytes-drop held truths

bytes-cons : (truth : Bool) (truths : List Bool) → bytes_behind 0 (truth ∷ truths) ≡ byte_of 128 (truth ∷ truths) ∷ bytes_behind 0 (drop 7 truths)
unfolding bytes_behind
bytes-cons truth truths = ap (λ (bs : List ℕ). byte_of 128 (truth ∷ truths) ∷ bs) (bytes-drop 7 truths)

-- the first byte, and those of what it doesn't hold
pub bytes-step : (truths : List Bool) → 0 < length truths → bytes_behind 0 truths ≡ byte_of 128 truths ∷ bytes_behind 0 (drop 8 truths)
bytes-step [] some = absurd (omega arith)
bytes-step (truth ∷ truths) some = bytes-cons truth truths

-- bytes that are full, and those behind them
pub bytes-append : (full : ℕ) (front back : List Bool) → length front ≡ 8 * full → bytes_behind 0 (front ++ back) ≡ bytes_behind 0 front ++ bytes_behind 0 back
bytes-append zero [] back size = ap (λ (bs : List ℕ). bs ++ bytes_behind 0 back) (sym bytes-nil)
bytes-append zero (truth ∷ front) back size = absurd (omega arith)
bytes-append (suc full) [] back size = absurd (omega arith)
bytes-append (suc full) (truth ∷ front) back size =
    let all = truth ∷ front in
    let long : 8 ≤ length all = omega arith in
    bytes-step (all ++ back) (omega (arith, length-append all back))
    ∙ ap (λ (b : ℕ). b ∷ bytes_behind 0 (drop 8 (all ++ back))) (sym (byte_of-take 8 128 (all ++ back) (omega arith)) ∙ ap (byte_of 128) (take-append-le 8 all back long) ∙ byte_of-take 8 128 all (omega arith))
    ∙ ap (λ (ts : List Bool). byte_of 128 all ∷ bytes_behind 0 ts) (drop-append-le 8 all back long)
    ∙ ap (λ (bs : List ℕ). byte_of 128 all ∷ bs) (bytes-append full (drop 8 all) back (omega (arith, length-drop 8 all)))
    ∙ ap (λ (bs : List ℕ). bs ++ bytes_behind 0 back) (sym (bytes-step all (omega arith)))

-- one byte, which is not full or full
pub one_byte : (truths : List Bool) → 0 < length truths → length truths ≤ 8 → bytes_behind 0 truths ≡ byte_of 128 truths ∷ []
one_byte truths some most = bytes-step truths some ∙ ap (λ (ts : List Bool). byte_of 128 truths ∷ bytes_behind 0 ts) (drop_all 8 truths most) ∙ ap (λ (bs : List ℕ). byte_of 128 truths ∷ bs) bytes-nil

-- a byte of as many as are there, or eight
pub byte_of-front : (size : ℕ) (truths : List Bool) → size ≡ min (length truths) 8 → byte_of 128 (take size truths) ≡ byte_of 128 truths
byte_of-front size truths is =
    ⊎_elim
    (λ short. ap (byte_of 128) (take_all size truths (omega arith)))
    (λ long. let full : size ≡ 8 = omega arith in ap (λ (n : ℕ). byte_of 128 (take n truths)) full ∙ byte_of-take 8 128 truths (omega arith))
    (cases_lt (length truths) 8)

pub coded-is : (truths : List Bool) → coded_booleans truths ≡ (16 ∷ uvarint (length truths)) ++ bytes_behind 0 truths
unfolding coded_booleans
coded-is truths = refl

-- the byte at a place
pub byte_at : (index : ℕ) (truths : List Bool) → 8 * index < length truths → get_or (bytes_behind 0 truths) index 0 ≡ byte_of 128 (drop (8 * index) truths)
byte_at zero truths below = ap (λ (bs : List ℕ). get_or bs 0 0) (bytes-step truths (omega arith))
byte_at (suc index) truths below =
    ap (λ (bs : List ℕ). get_or bs (suc index) 0) (bytes-step truths (omega arith))
    ∙ byte_at index (drop 8 truths) (omega (arith, length-drop 8 truths))
    ∙ ap (byte_of 128) (drop-drop (8 * index) 8 truths ∙ ap (λ (n : ℕ). drop n truths) (let e : 8 + 8 * index ≡ 8 * suc index = omega arith in e))

-- how many bytes there are
pub length-bytes : (fuel : ℕ) (truths : List Bool) → length truths ≤ fuel → length (bytes_behind 0 truths) ≡ (length truths + 7) / 8
length-bytes fuel [] within = ap length bytes-nil
length-bytes zero (truth ∷ truths) within = absurd (omega arith)
length-bytes (suc fuel) (truth ∷ truths) within =
    let all = truth ∷ truths in
    ap length (bytes-step all (omega arith)) ∙ omega (arith, length-bytes fuel (drop 8 all) (omega (arith, length-drop 8 all)), length-drop 8 all)

-- the parts of the bytes of Booleans
pub parts_of : (truths : List Bool) (bytes : List ℕ) (head : ℕ) (behind : List ℕ) → coded_booleans truths ≡ bytes → bytes ≡ head ∷ behind → (head ≡ 16) × (uvarint (length truths) ++ bytes_behind 0 truths ≡ behind)
parts_of truths bytes head behind spelled front =
    let whole : 16 ∷ (uvarint (length truths) ++ bytes_behind 0 truths) ≡ head ∷ behind = sym (coded-is truths) ∙ spelled ∙ front in
    (heads 16 head (uvarint (length truths) ++ bytes_behind 0 truths) behind whole)
  where
    heads : (one two : ℕ) (front back : List ℕ) → one ∷ front ≡ two ∷ back → (two ≡ one) × (front ≡ back)
    heads one two front back same = (cc, cc)
