-- A name is read in one way.
use Rattle.std.proofs.Common.{◌≡◌, ℕ, ◌+◌, ◌^◌, ◌<◌, List, ◌++◌, length, take, drop, Result, Ok, Err, IfOk, IsErrOf, refl, sym, ap, ◌∙◌, subst, arith}
use Rattle.std.proofs.lemmas.List.{append_assoc, length-append}
use Rattle.std.proofs.Math.Seq.{take-append_seam, drop-append_seam}
use Rattle.std.specs.Str.{IsUtf8}
use Rattle.tsdb_types.specs.Names.{IsName}
use Rattle.fixed_width.specs.Fields.{bytes_of_u16, bytes_of_u32}
use Rattle.fixed_width.proofs.Fronts.{length-u16, length-u32, same_u16}
use Rattle.index_file.specs.Contents.{IsText}
use Rattle.index_file.specs.Format.{text_bytes}
use Rattle.index_file.specs.Taking.{Takes}
use Rattle.index_file.specs.declared.stop.Stop.{Stop}
use Rattle.index_file.specs.declared.stop.Stop.TheVariants.{Wrong, Memory}
use Rattle.index_file.proofs.TakeLemmas.{StandsNone}

-- fronts of one length are cut off in one way
pub same_split : (a b r s : List ℕ) → length a ≡ length b → a ++ r ≡ b ++ s → (a ≡ b) × (r ≡ s)
same_split a b r s long is = (
  sym (take-append_seam a r) ∙ ap (take (length a)) is ∙ ap (λ (n : ℕ). take n (b ++ s)) long ∙ take-append_seam b s,
  sym (drop-append_seam a r) ∙ ap (drop (length a)) is ∙ ap (λ (n : ℕ). drop n (b ++ s)) long ∙ drop-append_seam b s,
)

pub short_u16 : (bytes : List ℕ) → length bytes < 2 → StandsNone (λ (n : ℕ). n < 2 ^ 16) bytes_of_u16 bytes
short_u16 bytes short n more fits is = omega (arith, short, ap length is, length-append (bytes_of_u16 n) more, length-u16 n)

pub short_u32 : (bytes : List ℕ) → length bytes < 4 → StandsNone (λ (n : ℕ). n < 2 ^ 32) bytes_of_u32 bytes
short_u32 bytes short n more fits is = omega (arith, short, ap length is, length-append (bytes_of_u32 n) more, length-u32 n)

pub text_parts : (text rest : List ℕ) → text_bytes text ++ rest ≡ bytes_of_u16 (length text) ++ (text ++ rest)
unfolding text_bytes
text_parts text rest = append_assoc (bytes_of_u16 (length text)) text rest

pub same_text : (a b r s : List ℕ) → IsText a → IsText b → text_bytes a ++ r ≡ text_bytes b ++ s → (a ≡ b) × (r ≡ s)
same_text a b r s x y is =
    let front = same_u16 (length a) (length b) (a ++ r) (b ++ s) x.short y.short (sym (text_parts a r) ∙ is ∙ text_parts b s) in
    same_split a b r s front.0 front.1

pub text_long : (text : List ℕ) → length (text_bytes text) ≡ 2 + length text
unfolding text_bytes
text_long text = omega (arith, length-append (bytes_of_u16 (length text)) text, length-u16 (length text))

pub no_length : (bytes : List ℕ) → StandsNone (λ (n : ℕ). n < 2 ^ 16) bytes_of_u16 bytes → StandsNone IsText text_bytes bytes
no_length bytes none text more is e = none (length text) (text ++ more) is.short (e ∙ text_parts text more)

-- fewer bytes stand behind the length
pub no_text : (bytes behind : List ℕ) (len : ℕ) → len < 2 ^ 16 → bytes ≡ bytes_of_u16 len ++ behind → length behind < len → StandsNone IsText text_bytes bytes
no_text bytes behind len fits is short text more good e =
    let front = same_u16 len (length text) behind (text ++ more) fits good.short (sym is ∙ e ∙ text_parts text more) in
    omega (arith, short, front.0, ap length front.1, length-append text more)

-- what stands there is no name
pub other_text : (bytes behind taken rest : List ℕ) (len : ℕ) → len < 2 ^ 16 → bytes ≡ bytes_of_u16 len ++ behind → behind ≡ taken ++ rest → length taken ≡ len → ¬ (IsName taken × IsUtf8 taken) → StandsNone IsText text_bytes bytes
other_text bytes behind taken rest len fits is cut many none text more good e =
    let front = same_u16 len (length text) behind (text ++ more) fits good.short (sym is ∙ e ∙ text_parts text more) in
    let both = same_split taken text rest more (many ∙ front.0) (sym cut ∙ front.1) in
    none (subst (λ (t : List ℕ). IsName t × IsUtf8 t) (sym both.0) (good.named, good.utf8))

pub whole_text : (bytes behind taken rest : List ℕ) (len : ℕ) → bytes ≡ bytes_of_u16 len ++ behind → behind ≡ taken ++ rest → length taken ≡ len → bytes ≡ text_bytes taken ++ rest
whole_text bytes behind taken rest len is cut many =
    is ∙ ap (λ (n : ℕ). bytes_of_u16 n ++ behind) (sym many) ∙ ap (λ (l : List ℕ). bytes_of_u16 (length taken) ++ l) cut ∙ sym (text_parts taken rest)

-- a name that was made of the bytes, or wasn't
pub made_text : (bytes behind taken rest : List ℕ) (len : ℕ) (r : Result (List ℕ) Stop) → len < 2 ^ 16 → bytes ≡ bytes_of_u16 len ++ behind → behind ≡ taken ++ rest → length taken ≡ len
    → IfOk r (λ name. name ≡ taken) → IfOk r (λ name. IsName taken × IsUtf8 taken) → (IsErrOf r Wrong → ¬ (IsName taken × IsUtf8 taken)) → Takes IsText text_bytes r bytes rest
made_text bytes behind taken rest len (Ok name) fits is cut many same named none = (
  subst IsText (sym same) (record { named = named.0; utf8 = named.1; short = subst (λ (n : ℕ). n < 2 ^ 16) (sym many) fits }),
  subst (λ (t : List ℕ). bytes ≡ text_bytes t ++ rest) (sym same) (whole_text bytes behind taken rest len is cut many),
)
made_text bytes behind taken rest len (Err Wrong) fits is cut many same named none = other_text bytes behind taken rest len fits is cut many (none refl)
made_text bytes behind taken rest len (Err Memory) fits is cut many same named none = tt
