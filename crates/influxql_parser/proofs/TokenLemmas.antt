use Rattle.std.proofs.Common.{◌≡◌, ℕ, ◌<◌, Bool, true, cond, ◌||◌, length, arith, Option, Some, None, List, [], ◌∷◌, ◌++◌, refl, sym, ap, subst, ◌∙◌}
use Rattle.std.proofs.lemmas.List.{append_assoc, append-nil}
use Rattle.std.specs.Char.{is_ascii_digit}
use Rattle.influxql_parser.specs.Numbers.{behind_passing}
use Rattle.influxql_parser.specs.Tokens.{Token, AreTokens, begins_word, is_blank, is_of_word, token_at}
use Rattle.influxql_parser.proofs.NumberLemmas.{behind-shorter}

-- The tokens so far, with those of the rest behind them, are those of the whole text, and it has no others.
pub record TokensLeft (text : List ℕ) (tokens : List Token) (left : List ℕ) : Type 0 where
  pub sound : (more : List Token) → AreTokens more left → AreTokens (tokens ++ more) text
  pub only : (all : List Token) → AreTokens all text → (more : List Token) × (all ≡ tokens ++ more) × AreTokens more left

pub tokens-all : (text : List ℕ) → TokensLeft text [] text
tokens-all text = record { sound = λ more are. are; only = λ all are. (all, refl, are) }

-- the token and what stands behind it are told by the text
same-cut : (text behind : List ℕ) (token : Token) (found : Option (Token × List ℕ)) → found ≡ Some (token, behind) →
    (other : Token) (rest : List ℕ) → found ≡ Some (other, rest) → (other ≡ token) × (rest ≡ behind)
same-cut text behind token found at other rest cut =
    let same : Some (other, rest) ≡ Some (token, behind) = sym cut ∙ at in
    (ap (λ (o : Option (Token × List ℕ)). first token o) same, ap (λ (o : Option (Token × List ℕ)). second behind o) same)
  where
    first : Token → Option (Token × List ℕ) → Token
    first d None = d
    first d (Some p) = p.0

    second : List ℕ → Option (Token × List ℕ) → List ℕ
    second d None = d
    second d (Some p) = p.1

none-cut : (text : List ℕ) → behind_passing is_blank text ≡ [] → (token : Token) (behind : List ℕ) → token_at (behind_passing is_blank text) ≡ Some (token, behind) → ⊥
none-cut text blank token behind cut =
    let none : None ≡ Some (token, behind) = sym (ap (λ (t : List ℕ). token_at t) blank) ∙ cut in
    cc

pub tokens-next : (text : List ℕ) (tokens : List Token) (left ahead behind : List ℕ) (token : Token) → TokensLeft text tokens left → ahead ≡ behind_passing is_blank left →
    token_at ahead ≡ Some (token, behind) → TokensLeft text (tokens ++ token ∷ []) behind
tokens-next text tokens left ahead behind token before past cut = record {
  sound = λ more are. subst (λ (ts : List Token). AreTokens ts text) (sym (append_assoc tokens (token ∷ []) more)) (before.sound (token ∷ more) (behind, at, are));
  only = λ all are. go all (before.only all are);
}
  where
    at : token_at (behind_passing is_blank left) ≡ Some (token, behind)
    at = ap (λ (t : List ℕ). token_at t) (sym past) ∙ cut

    step : (all more : List Token) → all ≡ tokens ++ more → AreTokens more left →
        (rest : List Token) × (all ≡ (tokens ++ token ∷ []) ++ rest) × AreTokens rest behind
    step all [] same blank = absurd (none-cut left blank token behind at)
    step all (other ∷ more) same (rest, found, are) =
        let is = same-cut left behind token (token_at (behind_passing is_blank left)) at other rest found in (
          more,
          same ∙ ap (λ (t : Token). tokens ++ t ∷ more) is.0 ∙ sym (append_assoc tokens (token ∷ []) more),
          subst (λ (t : List ℕ). AreTokens more t) is.1 are,
        )

    go : (all : List Token) → (more : List Token) × (all ≡ tokens ++ more) × AreTokens more left →
        (rest : List Token) × (all ≡ (tokens ++ token ∷ []) ++ rest) × AreTokens rest behind
    go all (more, same, are) = step all more same are

-- where no token can be cut, no tokens are those of the text
pub tokens-none : (text : List ℕ) (tokens : List Token) (left ahead : List ℕ) → TokensLeft text tokens left → ahead ≡ behind_passing is_blank left → (ahead ≡ [] → ⊥) →
    token_at ahead ≡ None → (all : List Token) → AreTokens all text → ⊥
tokens-none text tokens left ahead before past some none all are = go (before.only all are)
  where
    step : (more : List Token) → AreTokens more left → ⊥
    step [] blank = some (past ∙ blank)
    step (other ∷ more) (rest, found, rests) =
        let no_cut : None ≡ Some (other, rest) = sym none ∙ ap (λ (t : List ℕ). token_at t) past ∙ found in
        cc

    go : (more : List Token) × (all ≡ tokens ++ more) × AreTokens more left → ⊥
    go (more, same, mores) = step more mores

pub tokens-end : (text : List ℕ) (tokens : List Token) (left : List ℕ) → TokensLeft text tokens left → behind_passing is_blank left ≡ [] → AreTokens tokens text
tokens-end text tokens left before blank = subst (λ (ts : List Token). AreTokens ts text) (append-nil tokens) (before.sound [] blank)

-- a text has one list of tokens
pub same-tokens : (text : List ℕ) (tokens others : List Token) → AreTokens tokens text → AreTokens others text → tokens ≡ others
same-tokens text [] [] blank empty = refl
same-tokens text [] (other ∷ others) blank (rest, found, are) = absurd (none-cut text blank other rest found)
same-tokens text (token ∷ tokens) [] (rest, found, are) blank = absurd (none-cut text blank token rest found)
same-tokens text (token ∷ tokens) (other ∷ others) (behind, at, are) (rest, found, ares) =
    let is = same-cut text behind token (token_at (behind_passing is_blank text)) at other rest found in
    let tail = same-tokens behind tokens others are (subst (λ (t : List ℕ). AreTokens others t) is.1 ares) in
    ap (λ (t : Token). t ∷ tokens) (sym is.0) ∙ ap (λ (ts : List Token). other ∷ ts) tail

-- what stands behind bytes that pass is shorter than a text that begins with one
passing-shorter : (passes : ℕ → Bool) (byte : ℕ) (behind : List ℕ) → passes byte ≡ true → length (behind_passing passes (byte ∷ behind)) < length (byte ∷ behind)
passing-shorter passes byte behind is =
    let same : behind_passing passes (byte ∷ behind) ≡ behind_passing passes behind = ap (λ (b : Bool). cond b (behind_passing passes behind) (byte ∷ behind)) is in
    let sizes : length (behind_passing passes (byte ∷ behind)) ≡ length (behind_passing passes behind) = ap (λ (t : List ℕ). length t) same in
    omega (arith, sizes, behind-shorter passes behind)

shorter-by : (passes : ℕ → Bool) (text : List ℕ) (byte : ℕ) (behind rest : List ℕ) → text ≡ byte ∷ behind → passes byte ≡ true → rest ≡ behind_passing passes text → length rest < length text
shorter-by passes text byte behind rest same is left =
    subst (λ (t : List ℕ). length t < length text) (sym left)
    (subst (λ (t : List ℕ). length (behind_passing passes t) < length t) (sym same) (passing-shorter passes byte behind is))

pub word-shorter : (text : List ℕ) (byte : ℕ) (behind rest : List ℕ) → text ≡ byte ∷ behind → begins_word byte ≡ true → rest ≡ behind_passing is_of_word text → length rest < length text
word-shorter text byte behind rest same is left =
    shorter-by is_of_word text byte behind rest same (ap (λ (b : Bool). b || is_ascii_digit byte) is) left

pub digits-shorter : (text : List ℕ) (byte : ℕ) (behind rest : List ℕ) → text ≡ byte ∷ behind → is_ascii_digit byte ≡ true → rest ≡ behind_passing is_ascii_digit text → length rest < length text
digits-shorter text byte behind rest same is left = shorter-by is_ascii_digit text byte behind rest same is left
