-- What a coding says, and the times that follow from its differences.
use Rattle.std.proofs.Common.{◌≡◌, ℕ, ◌+◌, ◌*◌, ◌/◌, ◌%◌, ◌^◌, ◌<◌, ◌≤◌, zero, suc, true, eqb, List, [], ◌∷◌, ◌++◌, length, take, drop, get_or, replicate, refl, sym, ◌∙◌, ap, subst, arith}
use Rattle.std.specs.Prelude.{Result, Ok, Err, Option, Some, None, IfOk, IfSome, IfNone, IsSomeAnd, All, ℤ}
use Rattle.std.specs.List.{list_all}
use Rattle.std.specs.Cmp.{first_so, second_so}
use Rattle.std.specs.Int.{to_be_bytes, cast_unsigned, w64}
use Rattle.std.specs.Cmp.Derive.{both_true}
use Rattle.std.proofs.lemmas.Bool.{eqb-true, eq-eqb}
use Rattle.std.proofs.lemmas.List.{take_at, drop_at, take-append-drop, append-nil}
use Rattle.std.proofs.lemmas.List.Elements.{All-head}
use Rattle.time_codec.specs.declared.form.Form.{Form}
use Rattle.time_codec.specs.declared.form.Form.TheVariants.{Raw, Packed, RunLength}
use Rattle.time_codec.specs.Times.{AreTimes, differences, exponent_of, scaled, unscaled, all_same, exponent_in, number_of, body_of, coded_times}
use Rattle.time_codec.specs.Reading.{Follow, AreRead}
use Rattle.time_codec.proofs.ScaleLemmas.{same_unscaled}
use Rattle.time_codec.proofs.TimesLemmas.{Coded, taken_apart, followed_coded, same_exponent}

-- what holds for each coding of a first and later times holds for each coding
pub only_of : (bytes : List ℕ) (Q : List ℤ → Type 0) → ((first : ℤ) (later : List ℤ) → AreTimes (first ∷ later) → Coded bytes first later → Q (first ∷ later)) → (times : List ℤ) → AreTimes times → bytes ≡ coded_times times → Q times
only_of bytes Q each [] are e = absurd (omega (arith, are.some))
only_of bytes Q each (first ∷ later) are e = each first later are (taken_apart bytes first later e)

-- the fields of a coding
pub record Fields (head : ℕ) (body : List ℕ) (form : Form) (exponent : ℕ) (first : ℤ) (rest : List ℕ) : Type 0 where
  pub high : head / 16 ≡ number_of form
  pub low : head % 16 ≡ exponent
  pub long : 8 ≤ length body
  pub time : take 8 body ≡ to_be_bytes w64 (cast_unsigned w64 first)
  pub behind : drop 8 body ≡ rest

pub fields : (bytes : List ℕ) (head : ℕ) (body : List ℕ) (first : ℤ) (later : List ℤ) (c : Coded bytes first later) → bytes ≡ head ∷ body → Fields head body c.form c.exponent first c.rest
fields bytes head body first later c e =
    let whole : head ∷ body ≡ (16 * number_of c.form + c.exponent) ∷ (to_be_bytes w64 (cast_unsigned w64 first) ++ c.rest) = sym e ∙ c.is in
    let head_is : head ≡ 16 * number_of c.form + c.exponent = cc whole in
    let body_is : body ≡ to_be_bytes w64 (cast_unsigned w64 first) ++ c.rest = cc whole in
    record {
      high = omega (arith, head_is, c.exponent_most);
      low = omega (arith, head_is, c.exponent_most);
      long = omega (arith, ap length body_is);
      time = ap (take 8) body_is ∙ take_at (to_be_bytes w64 (cast_unsigned w64 first)) c.rest 8 refl;
      behind = ap (drop 8) body_is ∙ drop_at (to_be_bytes w64 (cast_unsigned w64 first)) c.rest 8 refl;
    }

pub some_bytes : (bytes : List ℕ) (first : ℤ) (later : List ℤ) → Coded bytes first later → 0 < length bytes
some_bytes bytes first later c = omega (arith, ap length c.is)

-- the form with a number
pub form_with : (number : ℕ) (form : Form) → number ≡ number_of form → (number ≡ 2 → form ≡ RunLength) × (number ≡ 1 → form ≡ Packed) × (number ≡ 0 → form ≡ Raw) × (number ≤ 2)
form_with number RunLength is = (λ _. refl, λ n. absurd (omega arith), λ n. absurd (omega arith), omega arith)
form_with number Packed is = (λ n. absurd (omega arith), λ _. refl, λ n. absurd (omega arith), omega arith)
form_with number Raw is = (λ n. absurd (omega arith), λ n. absurd (omega arith), λ _. refl, omega arith)

-- the same said of what was read
pub follow_as : (form also : Form) (exponent low : ℕ) (rest behind : List ℕ) (times : List ℤ) → form ≡ also → low ≡ exponent → behind ≡ rest → Follow form exponent rest times → Follow also low behind times
follow_as form also exponent low rest behind times form_is low_is behind_is follow = record {
  chosen = follow.chosen ∙ form_is;
  scale = ap (λ f. exponent_in f (differences times)) (sym form_is) ∙ follow.scale ∙ sym low_is;
  spelled = behind_is ∙ follow.spelled ∙ ap (λ e. body_of form (scaled e (differences times))) (sym low_is) ∙ ap (λ f. body_of f (scaled low (differences times))) form_is;
}

-- the bytes that were taken apart, put together
pub whole_bytes : (bytes : List ℕ) (head : ℕ) (body eight rest : List ℕ) (first : ℤ) → bytes ≡ head ∷ body → eight ≡ take 8 body → rest ≡ drop 8 body → eight ≡ to_be_bytes w64 (cast_unsigned w64 first) → bytes ≡ head ∷ (to_be_bytes w64 (cast_unsigned w64 first) ++ rest)
whole_bytes bytes head body eight rest first is eight_is rest_is time =
    is
    ∙ ap (λ b. head ∷ b) (sym (take-append-drop 8 body))
    ∙ ap (λ f. head ∷ (f ++ drop 8 body)) (sym eight_is ∙ time)
    ∙ ap (λ r. head ∷ (to_be_bytes w64 (cast_unsigned w64 first) ++ r)) (sym rest_is)

pub are_coded : (bytes : List ℕ) (head : ℕ) (form : Form) (exponent : ℕ) (first : ℤ) (rest : List ℕ) (times : List ℤ) → head ≡ 16 * number_of form + exponent → bytes ≡ head ∷ (to_be_bytes w64 (cast_unsigned w64 first) ++ rest) → AreRead form exponent first rest times → AreTimes times × (bytes ≡ coded_times times)
are_coded bytes head form exponent first rest times head_is is read = (
  read.are,
  followed_coded bytes head form exponent first rest read.later head_is is (subst (Follow form exponent rest) read.starts read.follow) ∙ ap coded_times (sym read.starts),
)

-- what was found is something else too
pub also_found : {A E : Type 0} (result : Result (Option A) E) (P Q : A → Type 0) → ((x : A) → P x → Q x) → IfOk result (λ found. IfSome found P) → IfOk result (λ found. IfSome found Q)
also_found (Ok (Some x)) P Q also h = also x h
also_found (Ok None) P Q also h = h
also_found (Err e) P Q also h = h

-- ---- equal steps

all_replicate : (first : ℕ) (steps : List ℕ) → list_all (λ step. eqb step first) steps ≡ true → steps ≡ replicate (length steps) first
all_replicate first [] all = refl
all_replicate first (step ∷ steps) all =
    let here = eqb-true step first (first_so (eqb step first) (list_all (λ s. eqb s first) steps) all) in
    ap (λ s. s ∷ steps) here ∙ ap (λ ss. first ∷ ss) (all_replicate first steps (second_so (eqb step first) (list_all (λ s. eqb s first) steps) all))

-- equal steps are one step, again and again
pub same_replicate : (steps : List ℕ) → all_same steps ≡ true → steps ≡ replicate (length steps) (get_or steps 0 0)
same_replicate [] all = refl
same_replicate (first ∷ steps) all = ap (λ ss. first ∷ ss) (all_replicate first steps all)

all_equal : (count step : ℕ) → list_all (λ s. eqb s step) (replicate count step) ≡ true
all_equal zero step = refl
all_equal (suc count) step = both_true (eq-eqb step step refl) (all_equal count step)

pub replicate_same : (count step : ℕ) → 1 ≤ count → all_same (replicate count step) ≡ true
replicate_same zero step some = absurd (omega arith)
replicate_same (suc count) step some = all_equal count step

-- equal steps have the scale of one of them
pub run_exponent : (exponent : ℕ) (steps : List ℕ) → all_same steps ≡ true → exponent_of (unscaled exponent (get_or steps 0 0 ∷ [])) ≡ exponent_of (unscaled exponent steps)
run_exponent exponent [] same = absurd (cc same)
run_exponent exponent (first ∷ rest) same = same_exponent (unscaled exponent (first ∷ rest)) (same_unscaled exponent (first ∷ rest) ∙ same)

pub first_fits : (steps : List ℕ) → All (λ step. step < 2 ^ 64) steps → get_or steps 0 0 < 2 ^ 64
first_fits [] all = omega arith
first_fits (step ∷ steps) all = All-head (λ s. s < 2 ^ 64) step steps all

-- what is there is something
pub some_and : {A : Type 0} (o : Option A) (P : A → Type 0) → IsSomeAnd o P → (x : A) × (o ≡ Some x) × P x
some_and None P h = absurd h
some_and (Some x) P h = (x, refl, h)

pub of_some : {A : Type 0} (o : Option A) (x : A) (P : A → Type 0) → o ≡ Some x → IsSomeAnd o P → P x
of_some o x P is h = subst (λ v. IsSomeAnd v P) is h

pub of_if_some : {A : Type 0} (o : Option A) (x : A) (P : A → Type 0) → o ≡ Some x → IfSome o P → P x
of_if_some o x P is h = subst (λ v. IfSome v P) is h

pub of_if_none : {A : Type 0} (o : Option A) (P : Type 0) → ((x : A) → o ≡ Some x → ⊥) → IfNone o P → P
of_if_none None P not_some h = h
of_if_none (Some x) P not_some h = absurd (not_some x refl)

-- two answers that are one have the same parts
pub ok_pair : {E : Type 0} (a b c d : ℕ) → ◌≡◌ {A = Result (ℕ × ℕ) E} (Ok (a, b)) (Ok (c, d)) → (a ≡ c) × (b ≡ d)
ok_pair a b c d e =
    let pair : ◌≡◌ {A = ℕ × ℕ} (a, b) (c, d) = cc e in
    (ap (λ (p : ℕ × ℕ). p.0) pair, ap (λ (p : ℕ × ℕ). p.1) pair)

pub some_pair : (a b c d : ℕ) → ◌≡◌ {A = Option (ℕ × ℕ)} (Some (a, b)) (Some (c, d)) → (a ≡ c) × (b ≡ d)
some_pair a b c d e =
    let pair : ◌≡◌ {A = ℕ × ℕ} (a, b) (c, d) = cc e in
    (ap (λ (p : ℕ × ℕ). p.0) pair, ap (λ (p : ℕ × ℕ). p.1) pair)

-- what stands behind the first of two numbers
pub behind_first : (rest front back : List ℕ) (len : ℕ) → rest ≡ front ++ back → len ≡ length front → drop len rest ≡ back ++ []
behind_first rest front back len is len_is =
    ap (λ n. drop n rest) len_is ∙ ap (drop (length front)) is ∙ drop_at front back (length front) refl ∙ sym (append-nil back)
