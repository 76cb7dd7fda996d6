-- The bytes of a record are read in one way.
use Rattle.std.proofs.Common.{◌≡◌, ◌≢◌, ℕ, ◌+◌, ◌^◌, ◌<◌, ◌≤◌, List, [], ◌∷◌, ◌++◌, length, get_or, take, drop, refl, sym, ap, ◌∙◌, arith}
use Rattle.std.specs.List.{flat_map, AllByRecursion}
use Rattle.std.proofs.lemmas.List.{append_assoc, length-append}
use Rattle.std.proofs.lemmas.List.Folds.{length-flat_map-take}
use Rattle.std.proofs.Math.Seq.{take-append_seam, drop-append_seam}
use Rattle.fixed_width.specs.Fields.{bytes_of_u16, bytes_of_u32}
use Rattle.fixed_width.proofs.Fronts.{length-u16, length-u32, same_u16, same_u32}
use Rattle.series_store.specs.Format.{HasRoom, IsWritable, series_bytes, record_bytes}

-- fronts of one length are cut off in one way
same_split : (a b r s : List ℕ) → length a ≡ length b → a ++ r ≡ b ++ s → (a ≡ b) × (r ≡ s)
same_split a b r s long is = (
  sym (take-append_seam a r) ∙ ap (take (length a)) is ∙ ap (λ (n : ℕ). take n (b ++ s)) long ∙ take-append_seam b s,
  sym (drop-append_seam a r) ∙ ap (drop (length a)) is ∙ ap (λ (n : ℕ). drop n (b ++ s)) long ∙ drop-append_seam b s,
)

behind : (text rest : List ℕ) → series_bytes text ++ rest ≡ bytes_of_u16 (length text) ++ (text ++ rest)
behind text rest = append_assoc (bytes_of_u16 (length text)) text rest

pub length-series_bytes : (text : List ℕ) → length (series_bytes text) ≡ 2 + length text
length-series_bytes text = omega (arith, length-append (bytes_of_u16 (length text)) text, length-u16 (length text))

pub same_text : (a b r s : List ℕ) → HasRoom a → HasRoom b → series_bytes a ++ r ≡ series_bytes b ++ s → (a ≡ b) × (r ≡ s)
same_text a b r s x y is =
    let front = same_u16 (length a) (length b) (a ++ r) (b ++ s) x y (sym (behind a r) ∙ is ∙ behind b s) in
    same_split a b r s front.0 front.1

-- no text stands where there isn't a length
pub no_length : (bytes : List ℕ) → length bytes < 2 → (text rest : List ℕ) → HasRoom text → bytes ≢ series_bytes text ++ rest
no_length bytes short text rest room is =
    omega (arith, short, ap length is, length-append (series_bytes text) rest, length-series_bytes text)

-- nor where fewer bytes stand behind it
pub no_text : (bytes : List ℕ) (size : ℕ) (others : List ℕ) → size < 2 ^ 16 → bytes ≡ bytes_of_u16 size ++ others → length others < size → (text rest : List ℕ) → HasRoom text → bytes ≢ series_bytes text ++ rest
no_text bytes size others fits found short text rest room is =
    let front = same_u16 size (length text) others (text ++ rest) fits room (sym found ∙ is ∙ behind text rest) in
    omega (arith, short, front.0, ap length front.1, length-append text rest)

-- ---- records

few_texts : (series : List (List ℕ)) → length series ≤ length (flat_map series_bytes series)
few_texts [] = omega arith
few_texts (text ∷ series) = omega (arith, few_texts series, length-append (series_bytes text) (flat_map series_bytes series), length-series_bytes text)

pub length-record_bytes : (series : List (List ℕ)) → length (record_bytes series) ≡ 4 + length (flat_map series_bytes series)
length-record_bytes series = omega (arith, length-append (bytes_of_u32 (length series)) (flat_map series_bytes series), length-u32 (length series))

pub few : (series : List (List ℕ)) → length (record_bytes series) ≤ 2 ^ 30 → length series < 2 ^ 32
few series short = omega (arith, few_texts series, length-record_bytes series, short)

pub same_texts : (a b : List (List ℕ)) → AllByRecursion HasRoom a → AllByRecursion HasRoom b → flat_map series_bytes a ≡ flat_map series_bytes b → a ≡ b
same_texts [] [] x y is = refl
same_texts [] (t ∷ b) x y is = absurd (omega (arith, ap length is, length-append (series_bytes t) (flat_map series_bytes b), length-series_bytes t))
same_texts (t ∷ a) [] x y is = absurd (omega (arith, ap length is, length-append (series_bytes t) (flat_map series_bytes a), length-series_bytes t))
same_texts (t ∷ a) (u ∷ b) x y is =
    let both = same_text t u (flat_map series_bytes a) (flat_map series_bytes b) x.0 y.0 is in
    λ i. both.0 i ∷ same_texts a b x.1 y.1 both.1 i

-- what the count and the bytes behind it say of a record
pub same_parts : (count : ℕ) (rest : List ℕ) (series : List (List ℕ)) → count < 2 ^ 32 → length (record_bytes series) ≤ 2 ^ 30 → bytes_of_u32 count ++ rest ≡ record_bytes series → (length series ≡ count) × (rest ≡ flat_map series_bytes series)
same_parts count rest series fits short is =
    let front = same_u32 count (length series) rest (flat_map series_bytes series) fits (few series short) is in
    (sym front.0, front.1)

pub same_record : (a b : List (List ℕ)) → IsWritable a → IsWritable b → record_bytes a ≡ record_bytes b → a ≡ b
same_record a b x y is =
    let parts = same_parts (length a) (flat_map series_bytes a) b (few a x.short) y.short is in
    same_texts a b x.room y.room parts.1

-- a record up to one of its series is no longer than the whole
pub up_to : (series : List (List ℕ)) (i : ℕ) (key : List ℕ) → i < length series → key ≡ get_or series i key → length (record_bytes series) ≤ 2 ^ 30 → 4 + length (flat_map series_bytes (take i series)) + length (series_bytes key) ≤ 2 ^ 30
up_to series i key within here short =
    omega (arith, short, length-record_bytes series, length-flat_map-take series_bytes series i key within, ap (λ (k : List ℕ). length (series_bytes k)) here)
