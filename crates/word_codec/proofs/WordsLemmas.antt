-- Words of eight bytes, and back.
use Rattle.std.proofs.Common.{◌≡◌, ℕ, zero, suc, ◌%◌, ◌+◌, ◌*◌, ◌^◌, ◌<◌, ◌≤◌, List, [], ◌∷◌, ◌++◌, length, take, drop, get_or, inl, inr, All, refl, sym, ◌∙◌, ap, arith, append_assoc}
use Rattle.std.specs.List.{flat_map}
use Rattle.std.specs.Int.{to_be_bytes, from_be_bytes, w64}
use Rattle.byteorder.specs.Endian.{big_from, big_bytes, big_number, IsRead}
use Rattle.byteorder.specs.Numbers.{big_from-lt}
use Rattle.fixed_width.proofs.Fronts.{AreBytes, big_bytes-big_number}
use Rattle.std.proofs.lemmas.Nat.{from_be_bytes-to_be_bytes_8}
use Rattle.std.proofs.lemmas.List.{take_at, drop_at, take_more, take-append-drop, length-take-le, length-take, length-drop, drop-drop, append-nil, nil_from_length, get_or-take, get_or-drop, get_or_past, get_or_default, drop_all, take_all}
use Rattle.std.proofs.lemmas.Bool.{cases_lt}
use Rattle.std.proofs.lemmas.List.Concat.{flat_map-append}
use Rattle.std.proofs.lemmas.List.Elements.{All-head, All-tail}

pub length-words : (words : List ℕ) → length (flat_map (to_be_bytes w64) words) ≡ 8 * length words
length-words [] = refl
length-words (word ∷ words) = omega (arith, length-words words)

same_front : (a b r s : List ℕ) → length a ≡ length b → a ++ r ≡ b ++ s → (a ≡ b) × (r ≡ s)
same_front a b r s same e = (
  sym (take_at a r (length a) refl) ∙ ap (take (length a)) e ∙ take_at b s (length a) (sym same),
  sym (drop_at a r (length a) refl) ∙ ap (drop (length a)) e ∙ drop_at b s (length a) (sym same),
)

-- a word and what stands behind it are told apart
pub same_word : (a b : ℕ) (r s : List ℕ) → a < 2 ^ 64 → b < 2 ^ 64 → to_be_bytes w64 a ++ r ≡ to_be_bytes w64 b ++ s → (a ≡ b) × (r ≡ s)
same_word a b r s p q e =
    let parts = same_front (to_be_bytes w64 a) (to_be_bytes w64 b) r s refl e in
    (sym (from_be_bytes-to_be_bytes_8 a p) ∙ ap (from_be_bytes w64) parts.0 ∙ from_be_bytes-to_be_bytes_8 b q, parts.1)

-- no two lists of words have the same bytes
pub words_apart : (words others : List ℕ) → All (λ word. word < 2 ^ 64) words → All (λ word. word < 2 ^ 64) others → flat_map (to_be_bytes w64) words ≡ flat_map (to_be_bytes w64) others → words ≡ others
words_apart [] [] p q e = refl
words_apart [] (other ∷ others) p q e = absurd (omega (arith, ap length e))
words_apart (word ∷ words) [] p q e = absurd (omega (arith, ap length e))
words_apart (word ∷ words) (other ∷ others) p q e =
    let parts = same_word word other (flat_map (to_be_bytes w64) words) (flat_map (to_be_bytes w64) others) (All-head (λ w. w < 2 ^ 64) word words p) (All-head (λ w. w < 2 ^ 64) other others q) e in
    ap (λ w. w ∷ words) parts.0 ∙ ap (λ ws. other ∷ ws) (words_apart words others (All-tail (λ w. w < 2 ^ 64) word words p) (All-tail (λ w. w < 2 ^ 64) other others q) parts.1)

-- one more word is written
pub one_written : (words : List ℕ) (index : ℕ) (start out new bytes : List ℕ) → index < length words → bytes ≡ to_be_bytes w64 (get_or words index 0) → new ≡ out ++ bytes → out ≡ start ++ flat_map (to_be_bytes w64) (take index words)
    → new ≡ start ++ flat_map (to_be_bytes w64) (take (index + 1) words)
one_written words index start out new bytes below is pushed before =
    pushed
    ∙ ap (λ (o : List ℕ). o ++ bytes) before
    ∙ append_assoc start (flat_map (to_be_bytes w64) (take index words)) bytes
    ∙ ap (λ (b : List ℕ). start ++ (flat_map (to_be_bytes w64) (take index words) ++ b)) (is ∙ sym (append-nil (to_be_bytes w64 (get_or words index 0))))
    ∙ ap (λ (b : List ℕ). start ++ b) (sym (flat_map-append (to_be_bytes w64) (take index words) (get_or words index 0 ∷ [])))
    ∙ ap (λ (ws : List ℕ). start ++ flat_map (to_be_bytes w64) ws) (sym (take_more words index 0 below))

-- the number in the first bytes is told by those alone
big_from-take : (n i : ℕ) (bytes : List ℕ) → big_from i n (take (i + n) bytes) ≡ big_from i n bytes
big_from-take zero i bytes = refl
big_from-take (suc n) i bytes =
    let first : get_or (take (i + suc n) bytes) i 0 ≡ get_or bytes i 0 = get_or-take (i + suc n) bytes i 0 (omega arith) in
    let rest : big_from (suc i) n (take (i + suc n) bytes) ≡ big_from (suc i) n bytes =
    ap (λ (k : ℕ). big_from (suc i) n (take k bytes)) (let e : i + suc n ≡ suc i + n = omega arith in e) ∙ big_from-take n (suc i) bytes in
    ap (λ (x : ℕ). x * 256 ^ n + big_from (suc i) n (take (i + suc n) bytes)) first ∙ ap (λ (x : ℕ). get_or bytes i 0 * 256 ^ n + x) rest

-- a number of eight bytes has these bytes
word_bytes : (bytes : List ℕ) → 8 ≤ length bytes → AreBytes bytes → to_be_bytes w64 (big_number 8 bytes) ≡ take 8 bytes
word_bytes bytes long are =
    ap (big_bytes 8) (sym (big_from-take 8 0 bytes)) ∙ big_bytes-big_number 8 (take 8 bytes) (length-take-le 8 bytes long) (front_bytes bytes are)
  where
    front_bytes : (bytes : List ℕ) → AreBytes bytes → AreBytes (take 8 bytes)
    front_bytes bytes are i = elim (cases_lt i 8) [
      | inl near ↦ omega (arith, get_or-take 8 bytes i 0 near, are i)
      | inr far ↦ omega (arith, get_or_past (take 8 bytes) i 0 (omega (arith, length-take 8 bytes, far)))
    ]

-- the words that stand in bytes have these bytes
pub whole_read : (words bytes : List ℕ) → length bytes ≡ 8 * length words → AreBytes bytes → IsRead big_number 8 bytes words → flat_map (to_be_bytes w64) words ≡ bytes
whole_read [] bytes size are read = sym (nil_from_length bytes (omega (arith, size)))
whole_read (word ∷ words) bytes size are read =
    let behind = drop 8 bytes in
    let first : to_be_bytes w64 word ≡ take 8 bytes = ap (to_be_bytes w64) (read 0 (omega arith)) ∙ word_bytes bytes (omega (arith, size)) are in
    let later : (k : ℕ) → k < length words → get_or words k 0 ≡ big_number 8 (drop (8 * k) behind) = λ k below.
    read (suc k) (omega (arith, below)) ∙ ap (big_number 8) (ap (λ (n : ℕ). drop n bytes) (let e : 8 * suc k ≡ 8 + 8 * k = omega arith in e) ∙ sym (drop-drop (8 * k) 8 bytes)) in
    let rest = whole_read words behind (omega (arith, size, length-drop 8 bytes)) (λ i. omega (arith, get_or-drop 8 bytes i 0, are (8 + i))) later in
    ap (λ (front : List ℕ). front ++ flat_map (to_be_bytes w64) words) first ∙ ap (λ (back : List ℕ). take 8 bytes ++ back) rest ∙ take-append-drop 8 bytes

pub read_fits : (words bytes : List ℕ) → AreBytes bytes → IsRead big_number 8 bytes words → All (λ word. word < 2 ^ 64) words
read_fits words bytes are read k d below =
    omega (arith, get_or_default words k 0 d below, read k below, big_from-lt 0 8 (drop (8 * k) bytes) (λ i. omega (arith, get_or-drop (8 * k) bytes i 0, are (8 * k + i))))

-- a list that was written over one of its length
pub written_over : (len : ℕ) (new old : List ℕ) → len ≡ length old → length new ≡ length old → take len (new ++ drop (length new) old) ≡ new
written_over len new old len_is same =
    ap (λ (back : List ℕ). take len (new ++ back)) (drop_all (length new) old (omega (arith, same))) ∙ ap (take len) (append-nil new) ∙ take_all len new (omega (arith, same, len_is))

-- bytes that are cut within a word belong to no words
pub none_cut : (words bytes : List ℕ) → flat_map (to_be_bytes w64) words ≡ bytes → length bytes % 8 ≡ 0
none_cut words bytes is = omega (arith, ap length is, length-words words)
