-- What is known of a BATCH when a line of it comes.
use Rattle.std.proofs.Common.{◌≡◌, ◌<◌, ◌≤◌, ◌+◌, ℕ, Bool, true, false, not, nat_lt, ◌||◌, List, [], ◌∷◌, ◌++◌, length, refl, sym, ap, ◌∙◌, subst, append_assoc, arith, inl, inr, Some, None, length-append, if◌then◌else◌}
use Rattle.std.specs.List.{flat_map, list_any}
use Rattle.std.specs.Str.{is_utf8}
use Rattle.std.specs.Str.Lines.{strip_carriage_return}
use Rattle.std.proofs.lemmas.Bool.{false≢true}
use Rattle.std.proofs.lemmas.Bool.Decides.{nat_tests}
use Rattle.std.proofs.lemmas.List.{append-nil}
use Rattle.std.proofs.lemmas.Grind.{flat_map-append}
use Rattle.session_model.specs.declared.statement.Refusal.TheVariants.{LineTooLong, BatchCut, NotText}
use Rattle.session_model.specs.Lines.Request.{Batch}
use Rattle.session_model.specs.Requests.{is_long, has_long, batch_text, came, first_of, too_long, refusal_of}
use Rattle.session_loop.specs.declared.gathering.Fate.{Fate}
use Rattle.session_loop.specs.LineAsItComes.{StandsFor}
use Rattle.session_loop.specs.Gathered.{FateIs}
use Rattle.session_loop.proofs.KeepingLemmas.{strip_len}

or_true : (b : Bool) → (b || true) ≡ true
or_true true = refl
or_true false = refl

or_false : (b : Bool) → (b || false) ≡ b
or_false true = refl
or_false false = refl

pub long_now : (was long : Bool) → long ≡ true → (was || long) ≡ true
long_now was long is = ap (λ (b : Bool). was || b) is ∙ or_true was

pub not_long : (was long : Bool) → was ≡ false → long ≡ false → (was || long) ≡ false
not_long was long first second = ap (λ (b : Bool). b || long) first ∙ second

pub was_long : (was long : Bool) → was ≡ true → (was || long) ≡ true
was_long was long is = ap (λ (b : Bool). b || long) is

-- what is long
pub is_long_at : (l : List ℕ) → 65536 < length l → is_long l ≡ true
is_long_at l high = grind (arith, nat_tests)

pub long_stripped : (l : List ℕ) → 65537 < length l → is_long (strip_carriage_return l) ≡ true
long_stripped l high = is_long_at (strip_carriage_return l) (let len = strip_len l in omega arith)

-- a line that stands for a part of a BATCH tells whether that is too long, and is the part where it isn't
pub record LineTells (line part : List ℕ) (told known : Bool) : Type 0 where
  pub same : told ≡ known
  pub is : known ≡ false → line ≡ part

pub line_tells : (line part : List ℕ) → StandsFor 65537 line part → LineTells line part (is_long (strip_carriage_return line)) (is_long (strip_carriage_return part))
line_tells line part (inl same) = record { same = ap (λ (l : List ℕ). is_long (strip_carriage_return l)) same; is = λ short. same }
line_tells line part (inr long) = record {
  same = long_stripped line long.0 ∙ sym (long_stripped part long.1);
  is = λ short. absurd (false≢true (sym short ∙ long_stripped part long.1));
}

pub rest_tells : (line part : List ℕ) → StandsFor 65537 line part → LineTells line part (is_long line) (is_long part)
rest_tells line part (inl same) = record { same = ap is_long same; is = λ short. same }
rest_tells line part (inr long) = record {
  same = is_long_at line (omega arith) ∙ sym (is_long_at part (omega arith));
  is = λ short. absurd (false≢true (sym short ∙ is_long_at part (omega arith)));
}

pub stands_empty : (line part : List ℕ) → StandsFor 65537 line part → length line ≡ 0 → part ≡ []
stands_empty [] part (inl same) none = sym same
stands_empty [] part (inr long) none = absurd (omega arith)
stands_empty (b ∷ line) part stands none = absurd (omega arith)

pub stands_some : (line part : List ℕ) → StandsFor 65537 line part → 0 < length line → 0 < length part
stands_some line part (inl same) some = let e = ap length same in omega arith
stands_some line part (inr long) some = omega arith

-- one more line
any_more : (p : List ℕ → Bool) (lines : List (List ℕ)) (part : List ℕ) → list_any p (lines ++ part ∷ []) ≡ (list_any p lines || p part)
any_more p [] part = or_false (p part)
any_more p (line ∷ lines) part = ap (λ (b : Bool). p line || b) (any_more p lines part) ∙ or_assoc (p line) (list_any p lines) (p part)
  where
    or_assoc : (a b c : Bool) → (a || (b || c)) ≡ ((a || b) || c)
    or_assoc true b c = refl
    or_assoc false b c = refl

pub long_more : (lines : List (List ℕ)) (part : List ℕ) → has_long (lines ++ part ∷ []) [] ≡ (has_long lines [] || is_long (strip_carriage_return part))
long_more lines part =
    or_false (list_any (λ line. is_long (strip_carriage_return line)) (lines ++ part ∷ []))
    ∙ any_more (λ line. is_long (strip_carriage_return line)) lines part
    ∙ ap (λ (b : Bool). b || is_long (strip_carriage_return part)) (sym (or_false (list_any (λ line. is_long (strip_carriage_return line)) lines)))

pub long_rest : (lines : List (List ℕ)) (part : List ℕ) → has_long lines part ≡ (has_long lines [] || is_long part)
long_rest lines part = ap (λ (b : Bool). b || is_long part) (sym (or_false (list_any (λ line. is_long (strip_carriage_return line)) lines)))

pub text_more : (lines : List (List ℕ)) (part : List ℕ) → batch_text (lines ++ part ∷ []) [] ≡ batch_text lines [] ++ part ++ 10 ∷ []
text_more lines part =
    append-nil (flat_map (λ line. line ++ 10 ∷ []) (lines ++ part ∷ []))
    ∙ flat_map-append (λ (line : List ℕ). line ++ 10 ∷ []) lines (part ∷ [])
    ∙ ap (λ (l : List ℕ). flat_map (λ line. line ++ 10 ∷ []) lines ++ l) (append-nil (part ++ 10 ∷ []))
    ∙ sym (append_assoc (flat_map (λ line. line ++ 10 ∷ []) lines) part (10 ∷ []))
    ∙ ap (λ (l : List ℕ). (l ++ part) ++ 10 ∷ []) (sym (append-nil (flat_map (λ line. line ++ 10 ∷ []) lines)))

pub text_rest : (lines : List (List ℕ)) (part : List ℕ) → batch_text lines part ≡ batch_text lines [] ++ part ++ []
text_rest lines part =
    ap (λ (l : List ℕ). l ++ part) (sym (append-nil (flat_map (λ line. line ++ 10 ∷ []) lines)))
    ∙ sym (append-nil (batch_text lines [] ++ part))

pub came_more : (lines : List (List ℕ)) (part : List ℕ) → came (lines ++ part ∷ []) [] ≡ length lines + 1
came_more lines part = length-append lines (part ∷ [])

pub came_rest : (lines : List (List ℕ)) (part : List ℕ) → 0 < length part → came lines part ≡ length lines + 1
came_rest lines [] some = absurd (omega arith)
came_rest lines (b ∷ part) some = refl

-- a text that is known stays known under equal texts
pub fate_same : (fate : Fate) (kept text other : List ℕ) (long also : Bool) → text ≡ other → long ≡ also → FateIs fate kept text long → FateIs fate kept other also
fate_same fate kept text other long also same alike known = subst (λ (l : List ℕ). FateIs fate kept l also) same (subst (λ (b : Bool). FateIs fate kept text b) alike known)

-- Refusals, in their order.

pub refused_lines : (count : ℕ) (lines : List (List ℕ)) (rest : List ℕ) → 5000 < count → refusal_of (Batch count lines rest) ≡ Some too_long
unfolding refusal_of
refused_lines count lines rest high =
    let test : nat_lt 5000 count ≡ true = grind (arith, nat_tests) in
    ap (λ (t : Bool). first_of ((t, too_long) ∷ (nat_lt (came lines rest) count, BatchCut)
    ∷ (has_long lines rest, LineTooLong) ∷ (nat_lt 16777216 (length (batch_text lines rest)), too_long)
    ∷ (not (is_utf8 (batch_text lines rest)), NotText) ∷ [])) test

pub refused_cut : (count : ℕ) (lines : List (List ℕ)) (rest : List ℕ) → count ≤ 5000 → came lines rest < count → refusal_of (Batch count lines rest) ≡ Some BatchCut
unfolding refusal_of
refused_cut count lines rest low few =
    let first : nat_lt 5000 count ≡ false = grind (arith, nat_tests) in
    let second : nat_lt (came lines rest) count ≡ true = grind (arith, nat_tests) in
    ap (λ (t : Bool). first_of ((t, too_long) ∷ (nat_lt (came lines rest) count, BatchCut)
    ∷ (has_long lines rest, LineTooLong) ∷ (nat_lt 16777216 (length (batch_text lines rest)), too_long)
    ∷ (not (is_utf8 (batch_text lines rest)), NotText) ∷ [])) first
    ∙ ap (λ (t : Bool). first_of ((t, BatchCut)
    ∷ (has_long lines rest, LineTooLong) ∷ (nat_lt 16777216 (length (batch_text lines rest)), too_long)
    ∷ (not (is_utf8 (batch_text lines rest)), NotText) ∷ [])) second

-- a BATCH whose lines all came
whole : (count : ℕ) (lines : List (List ℕ)) (rest : List ℕ) → count ≤ 5000 → count ≤ came lines rest
    → refusal_of (Batch count lines rest) ≡ first_of ((has_long lines rest, LineTooLong) ∷ (nat_lt 16777216 (length (batch_text lines rest)), too_long)
    ∷ (not (is_utf8 (batch_text lines rest)), NotText) ∷ [])
unfolding refusal_of
whole count lines rest low all =
    let first : nat_lt 5000 count ≡ false = grind (arith, nat_tests) in
    let second : nat_lt (came lines rest) count ≡ false = grind (arith, nat_tests) in
    ap (λ (t : Bool). first_of ((t, too_long) ∷ (nat_lt (came lines rest) count, BatchCut)
    ∷ (has_long lines rest, LineTooLong) ∷ (nat_lt 16777216 (length (batch_text lines rest)), too_long)
    ∷ (not (is_utf8 (batch_text lines rest)), NotText) ∷ [])) first
    ∙ ap (λ (t : Bool). first_of ((t, BatchCut)
    ∷ (has_long lines rest, LineTooLong) ∷ (nat_lt 16777216 (length (batch_text lines rest)), too_long)
    ∷ (not (is_utf8 (batch_text lines rest)), NotText) ∷ [])) second

pub refused_long : (count : ℕ) (lines : List (List ℕ)) (rest : List ℕ) → count ≤ 5000 → count ≤ came lines rest → has_long lines rest ≡ true
    → refusal_of (Batch count lines rest) ≡ Some LineTooLong
refused_long count lines rest low all long = whole count lines rest low all
    ∙ ap (λ (t : Bool). first_of ((t, LineTooLong) ∷ (nat_lt 16777216 (length (batch_text lines rest)), too_long) ∷ (not (is_utf8 (batch_text lines rest)), NotText) ∷ [])) long

pub refused_bytes : (count : ℕ) (lines : List (List ℕ)) (rest : List ℕ) → count ≤ 5000 → count ≤ came lines rest → has_long lines rest ≡ false
    → 16777216 < length (batch_text lines rest) → refusal_of (Batch count lines rest) ≡ Some too_long
refused_bytes count lines rest low all short high =
    let test : nat_lt 16777216 (length (batch_text lines rest)) ≡ true = grind (arith, nat_tests) in
    whole count lines rest low all
    ∙ ap (λ (t : Bool). first_of ((t, LineTooLong) ∷ (nat_lt 16777216 (length (batch_text lines rest)), too_long) ∷ (not (is_utf8 (batch_text lines rest)), NotText) ∷ [])) short
    ∙ ap (λ (t : Bool). first_of ((t, too_long) ∷ (not (is_utf8 (batch_text lines rest)), NotText) ∷ [])) test

pub refused_text : (count : ℕ) (lines : List (List ℕ)) (rest : List ℕ) → count ≤ 5000 → count ≤ came lines rest → has_long lines rest ≡ false
    → length (batch_text lines rest) ≤ 16777216 → refusal_of (Batch count lines rest) ≡ (if not (is_utf8 (batch_text lines rest)) then Some NotText else None)
refused_text count lines rest low all short fits =
    let test : nat_lt 16777216 (length (batch_text lines rest)) ≡ false = grind (arith, nat_tests) in
    whole count lines rest low all
    ∙ ap (λ (t : Bool). first_of ((t, LineTooLong) ∷ (nat_lt 16777216 (length (batch_text lines rest)), too_long) ∷ (not (is_utf8 (batch_text lines rest)), NotText) ∷ [])) short
    ∙ ap (λ (t : Bool). first_of ((t, too_long) ∷ (not (is_utf8 (batch_text lines rest)), NotText) ∷ [])) test
