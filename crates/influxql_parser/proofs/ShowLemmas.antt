use Rattle.std.proofs.Common.{◌≡◌, ℕ, eqb, ⊎_elim, arith, length, Bool, true, false, cond, ◌&&◌, Option, Some, None, List, [], ◌∷◌, ◌++◌, refl, sym, ap, subst, ◌∙◌}
use Rattle.std.proofs.lemmas.Bool.{false≢true, eqb-true}
use Rattle.std.proofs.lemmas.Slice.Eq.{bytes_eq-Decides}
use Rattle.std.specs.Prelude.{option_and_then, IfSome, IfNone}
use Rattle.std.specs.Str.{bytes_eq, str_to_ascii_lowercase}
use Rattle.query_model.specs.declared.show.Show.{Show}
use Rattle.query_model.specs.declared.show.Show.TheVariants as show
use Rattle.influxql_parser.proofs.TokenLemmas.{same-tokens}
use Rattle.influxql_parser.specs.Tokens.{Token, AreTokens, Word, Quoted, Text, Number, Duration, Sign}
use Rattle.influxql_parser.specs.GrammarWords.{is_keyword, is_semicolon, without_semicolon, symbol_in, behind_keyword, behind_keywords, name_in, only_name, show_word, measurements_word, series_word, tag_word, keys_word, values_word, field_word, files_word, from_word, with_word, key_word}
use Rattle.influxql_parser.specs.GrammarShows.{IsFromName, IsListing, IsNoShow, IsShow, IsOfKey, IsShowStatement, HasNone, is_equal, key_in, named_with_key, behind_equal}
use Rattle.influxql_parser.proofs.WordLemmas.{decided}

-- two keywords have the same letters
abbrev pub are_same : List ℕ → List ℕ → Bool
are_same a b = bytes_eq (str_to_ascii_lowercase a) (str_to_ascii_lowercase b)

same-lower : (a b : List ℕ) → are_same a b ≡ true → str_to_ascii_lowercase a ≡ str_to_ascii_lowercase b
same-lower a b e = (bytes_eq-Decides (str_to_ascii_lowercase a) (str_to_ascii_lowercase b)).0 e

-- a token is one keyword
one-keyword : (k l : List ℕ) (token : Token) → is_keyword k token ≡ true → is_keyword l token ≡ true → are_same k l ≡ true
one-keyword k l (Word w) first second =
    (bytes_eq-Decides (str_to_ascii_lowercase k) (str_to_ascii_lowercase l)).1 (sym (same-lower w k first) ∙ same-lower w l second)
one-keyword k l (Quoted raw) first second = absurd (false≢true first)
one-keyword k l (Text raw) first second = absurd (false≢true first)
one-keyword k l (Number number) first second = absurd (false≢true first)
one-keyword k l (Duration nanoseconds) first second = absurd (false≢true first)
one-keyword k l (Sign symbol) first second = absurd (false≢true first)

-- the keywords of two lists are the same as far as both go
abbrev pub agree : List (List ℕ) → List (List ℕ) → Bool
agree [] others = true
agree (k ∷ ks) [] = true
agree (k ∷ ks) (l ∷ ls) = are_same k l && agree ks ls

pub none≢some : {A : Type 0} (x : A) → None ≡ Some x → ⊥
none≢some x e = cc

-- a keyword that stands first, and what is behind it
pub behind-step : (k : List ℕ) (ks : List (List ℕ)) (token : Token) (tokens rest : List Token) → behind_keywords (k ∷ ks) (token ∷ tokens) ≡ Some rest →
    (is_keyword k token ≡ true) × (behind_keywords ks tokens ≡ Some rest)
behind-step k ks token tokens rest e = by (is_keyword k token) refl e
  where
    by : (b : Bool) → is_keyword k token ≡ b → option_and_then (behind_keywords ks) (cond b (Some tokens) None) ≡ Some rest →
        (is_keyword k token ≡ true) × (behind_keywords ks tokens ≡ Some rest)
    by true is at = (is, at)
    by false is at = absurd (none≢some rest at)

pub keywords-agree : (ks ls : List (List ℕ)) (tokens rest others : List Token) → behind_keywords ks tokens ≡ Some rest → behind_keywords ls tokens ≡ Some others → agree ks ls ≡ true
keywords-agree [] ls tokens rest others first second = refl
keywords-agree (k ∷ ks) [] tokens rest others first second = refl
keywords-agree (k ∷ ks) (l ∷ ls) [] rest others first second = absurd (none≢some rest first)
keywords-agree (k ∷ ks) (l ∷ ls) (token ∷ tokens) rest others first second =
    let a = behind-step k ks token tokens rest first in
    let b = behind-step l ls token tokens others second in
    ap (λ (t : Bool). t && agree ks ls) (one-keyword k l token a.0 b.0) ∙ keywords-agree ks ls tokens rest others a.1 b.1

pub same-some : {A : Type 0} (o : Option A) (x y : A) → o ≡ Some x → o ≡ Some y → x ≡ y
same-some o x y first second = let same : Some x ≡ Some y = sym first ∙ second in cc

abbrev tail_of : List Token → List Token
tail_of [] = []
tail_of (t ∷ ts) = ts

abbrev head_or : Token → List Token → Token
head_or d [] = d
head_or d (t ∷ ts) = t

-- FROM and a name at the end of the tokens are of one name or none
pub one-from : (tokens : List Token) (name other : Option (List ℕ)) → IsFromName tokens name [] → IsFromName tokens other [] → name ≡ other
one-from tokens None None first second = refl
one-from tokens None (Some other) first (named, at, name_is) =
    absurd (none≢some (named ∷ []) (sym (ap (λ (ts : List Token). behind_keywords (from_word ∷ []) ts) first) ∙ at))
one-from tokens (Some name) None (named, at, name_is) second =
    absurd (none≢some (named ∷ []) (sym (ap (λ (ts : List Token). behind_keywords (from_word ∷ []) ts) second) ∙ at))
one-from tokens (Some name) (Some other) (named, at, name_is) (named', at', other_is) =
    let lists = same-some (behind_keywords (from_word ∷ []) tokens) (named ∷ []) (named' ∷ []) at at' in
    let same : named ≡ named' = ap (λ (ts : List Token). head_or named ts) lists in
    ap (λ (n : List ℕ). Some n) (same-some (name_in named) name other name_is (ap (λ (t : Token). name_in t) same ∙ other_is))

pub one-listing : (ks : List (List ℕ)) (tokens : List Token) (name other : Option (List ℕ)) → IsListing ks tokens name [] → IsListing ks tokens other [] → name ≡ other
one-listing ks tokens name other (rest, at, from) (rest', at', from') =
    one-from rest name other from (subst (λ (ts : List Token). IsFromName ts other []) (sym (same-some (behind_keywords ks tokens) rest rest' at at')) from')

-- the keywords that a SHOW begins with
abbrev pub keywords_of : Show → List (List ℕ)
keywords_of show.Measurements = show_word ∷ measurements_word ∷ []
keywords_of (show.Series a) = show_word ∷ series_word ∷ []
keywords_of (show.TagKeys a) = show_word ∷ tag_word ∷ keys_word ∷ []
keywords_of (show.TagValues a k) = show_word ∷ tag_word ∷ values_word ∷ []
keywords_of (show.FieldKeys a) = show_word ∷ field_word ∷ keys_word ∷ []
keywords_of show.Files = show_word ∷ files_word ∷ []

pub begins : (tokens : List Token) (what : Show) → IsShowStatement tokens what → (rest : List Token) × (behind_keywords (keywords_of what) tokens ≡ Some rest)
begins tokens show.Measurements is = ([], is)
begins tokens (show.Series a) (rest, at, more) = (rest, at)
begins tokens (show.TagKeys a) (rest, at, more) = (rest, at)
begins tokens (show.TagValues a k) (rest, at, more) = (rest, at)
begins tokens (show.FieldKeys a) (rest, at, more) = (rest, at)
begins tokens show.Files is = ([], is)

agreeing : (tokens : List Token) (what other : Show) → IsShowStatement tokens what → IsShowStatement tokens other → agree (keywords_of what) (keywords_of other) ≡ true
agreeing tokens what other first second =
    let a = begins tokens what first in
    let b = begins tokens other second in
    keywords-agree (keywords_of what) (keywords_of other) tokens a.0 b.0 a.1 b.1

-- a token that is FROM isn't WITH
from-not-with : (tokens rest others : List Token) → behind_keywords (from_word ∷ []) tokens ≡ Some rest → behind_keywords (with_word ∷ key_word ∷ []) tokens ≡ Some others → ⊥
from-not-with tokens rest others first second = false≢true (keywords-agree (from_word ∷ []) (with_word ∷ key_word ∷ []) tokens rest others first second)

key-behind : (tokens : List Token) (key : List ℕ) → key_in tokens ≡ Some key → (others : List Token) × (behind_keywords (with_word ∷ key_word ∷ []) tokens ≡ Some others)
key-behind tokens key e = by (behind_keywords (with_word ∷ key_word ∷ []) tokens) refl e
  where
    by : (o : Option (List Token)) → behind_keywords (with_word ∷ key_word ∷ []) tokens ≡ o → option_and_then only_name (option_and_then behind_equal o) ≡ Some key →
        (others : List Token) × (behind_keywords (with_word ∷ key_word ∷ []) tokens ≡ Some others)
    by None is at = absurd (none≢some key at)
    by (Some others) is at = (others, is)

-- FROM doesn't begin WITH KEY =
pub from-no-key : (tokens rest : List Token) (key : List ℕ) → behind_keywords (from_word ∷ []) tokens ≡ Some rest → key_in tokens ≡ Some key → ⊥
from-no-key tokens rest key from at = let with = key-behind tokens key at in from-not-with tokens rest with.0 from with.1

one-of-key : (tokens : List Token) (name other : Option (List ℕ)) (key key' : List ℕ) → IsOfKey tokens name key → IsOfKey tokens other key' → (name ≡ other) × (key ≡ key')
one-of-key tokens None None key key' (behind, same, at) (behind', same', at') =
    (refl, same-some (key_in tokens) key key' (ap (λ (ts : List Token). key_in ts) same ∙ at) (ap (λ (ts : List Token). key_in ts) same' ∙ at'))
one-of-key tokens None (Some other) key key' (behind, same, at) (behind', (named, from, name_is), at') =
    absurd (from-no-key tokens (named ∷ behind') key from (ap (λ (ts : List Token). key_in ts) same ∙ at))
one-of-key tokens (Some name) None key key' (behind, (named, from, name_is), at) (behind', same, at') =
    absurd (from-no-key tokens (named ∷ behind) key' from (ap (λ (ts : List Token). key_in ts) same ∙ at'))
one-of-key tokens (Some name) (Some other) key key' (behind, (named, from, name_is), at) (behind', (named', from', other_is), at') =
    let lists = same-some (behind_keywords (from_word ∷ []) tokens) (named ∷ behind) (named' ∷ behind') from from' in
    let same : named ≡ named' = ap (λ (ts : List Token). head_or named ts) lists in
    let rests : behind ≡ behind' = ap (λ (ts : List Token). tail_of ts) lists in (
      ap (λ (n : List ℕ). Some n) (same-some (name_in named) name other name_is (ap (λ (t : Token). name_in t) same ∙ other_is)),
      same-some (key_in behind) key key' at (ap (λ (ts : List Token). key_in ts) rests ∙ at'),
    )

one-values : (tokens : List Token) (name other : Option (List ℕ)) (key key' : List ℕ) → IsShowStatement tokens (show.TagValues name key) → IsShowStatement tokens (show.TagValues other key') →
    show.TagValues name key ≡ show.TagValues other key'
one-values tokens name other key key' (rest, at, of) (rest', at', of') =
    let rests = same-some (behind_keywords (show_word ∷ tag_word ∷ values_word ∷ []) tokens) rest rest' at at' in
    let both = one-of-key rest name other key key' of (subst (λ (ts : List Token). IsOfKey ts other key') (sym rests) of') in
    ap (λ (n : Option (List ℕ)). show.TagValues n key) both.0 ∙ ap (λ (k : List ℕ). show.TagValues other k) both.1

-- tokens are one SHOW at most
pub one-statement : (tokens : List Token) (what other : Show) → IsShowStatement tokens what → IsShowStatement tokens other → what ≡ other
one-statement tokens show.Measurements show.Measurements first second = refl
one-statement tokens show.Measurements (show.Series a') first second = absurd (false≢true (agreeing tokens show.Measurements (show.Series a') first second))
one-statement tokens show.Measurements (show.TagKeys a') first second = absurd (false≢true (agreeing tokens show.Measurements (show.TagKeys a') first second))
one-statement tokens show.Measurements (show.TagValues a' k') first second = absurd (false≢true (agreeing tokens show.Measurements (show.TagValues a' k') first second))
one-statement tokens show.Measurements (show.FieldKeys a') first second = absurd (false≢true (agreeing tokens show.Measurements (show.FieldKeys a') first second))
one-statement tokens show.Measurements show.Files first second = absurd (false≢true (agreeing tokens show.Measurements show.Files first second))
one-statement tokens (show.Series a) show.Measurements first second = absurd (false≢true (agreeing tokens (show.Series a) show.Measurements first second))
one-statement tokens (show.Series a) (show.Series a') first second = ap (λ (n : Option (List ℕ)). show.Series n) (one-listing (show_word ∷ series_word ∷ []) tokens a a' first second)
one-statement tokens (show.Series a) (show.TagKeys a') first second = absurd (false≢true (agreeing tokens (show.Series a) (show.TagKeys a') first second))
one-statement tokens (show.Series a) (show.TagValues a' k') first second = absurd (false≢true (agreeing tokens (show.Series a) (show.TagValues a' k') first second))
one-statement tokens (show.Series a) (show.FieldKeys a') first second = absurd (false≢true (agreeing tokens (show.Series a) (show.FieldKeys a') first second))
one-statement tokens (show.Series a) show.Files first second = absurd (false≢true (agreeing tokens (show.Series a) show.Files first second))
one-statement tokens (show.TagKeys a) show.Measurements first second = absurd (false≢true (agreeing tokens (show.TagKeys a) show.Measurements first second))
one-statement tokens (show.TagKeys a) (show.Series a') first second = absurd (false≢true (agreeing tokens (show.TagKeys a) (show.Series a') first second))
one-statement tokens (show.TagKeys a) (show.TagKeys a') first second = ap (λ (n : Option (List ℕ)). show.TagKeys n) (one-listing (show_word ∷ tag_word ∷ keys_word ∷ []) tokens a a' first second)
one-statement tokens (show.TagKeys a) (show.TagValues a' k') first second = absurd (false≢true (agreeing tokens (show.TagKeys a) (show.TagValues a' k') first second))
one-statement tokens (show.TagKeys a) (show.FieldKeys a') first second = absurd (false≢true (agreeing tokens (show.TagKeys a) (show.FieldKeys a') first second))
one-statement tokens (show.TagKeys a) show.Files first second = absurd (false≢true (agreeing tokens (show.TagKeys a) show.Files first second))
one-statement tokens (show.TagValues a k) show.Measurements first second = absurd (false≢true (agreeing tokens (show.TagValues a k) show.Measurements first second))
one-statement tokens (show.TagValues a k) (show.Series a') first second = absurd (false≢true (agreeing tokens (show.TagValues a k) (show.Series a') first second))
one-statement tokens (show.TagValues a k) (show.TagKeys a') first second = absurd (false≢true (agreeing tokens (show.TagValues a k) (show.TagKeys a') first second))
one-statement tokens (show.TagValues a k) (show.TagValues a' k') first second = one-values tokens a a' k k' first second
one-statement tokens (show.TagValues a k) (show.FieldKeys a') first second = absurd (false≢true (agreeing tokens (show.TagValues a k) (show.FieldKeys a') first second))
one-statement tokens (show.TagValues a k) show.Files first second = absurd (false≢true (agreeing tokens (show.TagValues a k) show.Files first second))
one-statement tokens (show.FieldKeys a) show.Measurements first second = absurd (false≢true (agreeing tokens (show.FieldKeys a) show.Measurements first second))
one-statement tokens (show.FieldKeys a) (show.Series a') first second = absurd (false≢true (agreeing tokens (show.FieldKeys a) (show.Series a') first second))
one-statement tokens (show.FieldKeys a) (show.TagKeys a') first second = absurd (false≢true (agreeing tokens (show.FieldKeys a) (show.TagKeys a') first second))
one-statement tokens (show.FieldKeys a) (show.TagValues a' k') first second = absurd (false≢true (agreeing tokens (show.FieldKeys a) (show.TagValues a' k') first second))
one-statement tokens (show.FieldKeys a) (show.FieldKeys a') first second = ap (λ (n : Option (List ℕ)). show.FieldKeys n) (one-listing (show_word ∷ field_word ∷ keys_word ∷ []) tokens a a' first second)
one-statement tokens (show.FieldKeys a) show.Files first second = absurd (false≢true (agreeing tokens (show.FieldKeys a) show.Files first second))
one-statement tokens show.Files show.Measurements first second = absurd (false≢true (agreeing tokens show.Files show.Measurements first second))
one-statement tokens show.Files (show.Series a') first second = absurd (false≢true (agreeing tokens show.Files (show.Series a') first second))
one-statement tokens show.Files (show.TagKeys a') first second = absurd (false≢true (agreeing tokens show.Files (show.TagKeys a') first second))
one-statement tokens show.Files (show.TagValues a' k') first second = absurd (false≢true (agreeing tokens show.Files (show.TagValues a' k') first second))
one-statement tokens show.Files (show.FieldKeys a') first second = absurd (false≢true (agreeing tokens show.Files (show.FieldKeys a') first second))
one-statement tokens show.Files show.Files first second = refl

-- tokens that are none of the six are no SHOW
pub no-statement : (tokens : List Token) → (behind_keywords (show_word ∷ measurements_word ∷ []) tokens ≡ Some [] → ⊥) → (behind_keywords (show_word ∷ files_word ∷ []) tokens ≡ Some [] → ⊥) →
    HasNone (λ name. IsListing (show_word ∷ series_word ∷ []) tokens name []) → HasNone (λ name. IsListing (show_word ∷ tag_word ∷ keys_word ∷ []) tokens name []) →
    HasNone (λ name. IsListing (show_word ∷ field_word ∷ keys_word ∷ []) tokens name []) →
    ((name : Option (List ℕ)) (key : List ℕ) → IsShowStatement tokens (show.TagValues name key) → ⊥) → (what : Show) → IsShowStatement tokens what → ⊥
no-statement tokens measurements files series tags fields values show.Measurements is = measurements is
no-statement tokens measurements files series tags fields values (show.Series name) is = series name is
no-statement tokens measurements files series tags fields values (show.TagKeys name) is = tags name is
no-statement tokens measurements files series tags fields values (show.TagValues name key) is = values name key is
no-statement tokens measurements files series tags fields values (show.FieldKeys name) is = fields name is
no-statement tokens measurements files series tags fields values show.Files is = files is

-- where these keywords don't stand first, no listing is there
pub no-listing : (ks : List (List ℕ)) (tokens : List Token) → behind_keywords ks tokens ≡ None → HasNone (λ name. IsListing ks tokens name [])
no-listing ks tokens none name (rest, at, from) = none≢some rest (sym none ∙ at)

-- where they do, it is that of the rest
pub rest-listing : (ks : List (List ℕ)) (tokens rest : List Token) → behind_keywords ks tokens ≡ Some rest → HasNone (λ name. IsFromName rest name []) → HasNone (λ name. IsListing ks tokens name [])
rest-listing ks tokens rest at none name (rest', at', from) =
    none name (subst (λ (ts : List Token). IsFromName ts name []) (same-some (behind_keywords ks tokens) rest' rest at' at) from)

pub no-values : (tokens : List Token) → behind_keywords (show_word ∷ tag_word ∷ values_word ∷ []) tokens ≡ None → (name : Option (List ℕ)) (key : List ℕ) → IsShowStatement tokens (show.TagValues name key) → ⊥
no-values tokens none name key (rest, at, of) = none≢some rest (sym none ∙ at)

pub rest-values : (tokens rest : List Token) → behind_keywords (show_word ∷ tag_word ∷ values_word ∷ []) tokens ≡ Some rest → ((name : Option (List ℕ)) (key : List ℕ) → IsOfKey rest name key → ⊥) →
    (name : Option (List ℕ)) (key : List ℕ) → IsShowStatement tokens (show.TagValues name key) → ⊥
rest-values tokens rest at none name key (rest', at', of) =
    none name key (subst (λ (ts : List Token). IsOfKey ts name key) (same-some (behind_keywords (show_word ∷ tag_word ∷ values_word ∷ []) tokens) rest' rest at' at) of)

-- FROM that doesn't stand first
pub without-from : (tokens : List Token) → behind_keyword from_word tokens ≡ None → behind_keywords (from_word ∷ []) tokens ≡ None
without-from tokens none = ap (λ (o : Option (List Token)). option_and_then (λ (ts : List Token). Some ts) o) none

pub with-from : (tokens rest : List Token) → behind_keyword from_word tokens ≡ Some rest → behind_keywords (from_word ∷ []) tokens ≡ Some rest
with-from tokens rest at = ap (λ (o : Option (List Token)). option_and_then (λ (ts : List Token). Some ts) o) at

-- FROM and a name at the end: where tokens are none, there is no name; else FROM comes first and its one token is the name
pub no-from : (tokens : List Token) → (tokens ≡ [] → ⊥) → behind_keyword from_word tokens ≡ None → HasNone (λ name. IsFromName tokens name [])
no-from tokens some none None is = some is
no-from tokens some none (Some name) (named, at, name_is) = none≢some (named ∷ []) (sym (without-from tokens none) ∙ at)

pub no-name : (tokens rest : List Token) → (tokens ≡ [] → ⊥) → behind_keyword from_word tokens ≡ Some rest → only_name rest ≡ None → HasNone (λ name. IsFromName tokens name [])
no-name tokens rest some from none None is = some is
no-name tokens rest some from none (Some name) (named, at, name_is) =
    let same : named ∷ [] ≡ rest = same-some (behind_keywords (from_word ∷ []) tokens) (named ∷ []) rest at (with-from tokens rest from) in
    none≢some name (sym (ap (λ (ts : List Token). only_name ts) same ∙ none) ∙ name_is)

pub from-only : (tokens rest : List Token) (name : List ℕ) → behind_keyword from_word tokens ≡ Some rest → only_name rest ≡ Some name → IsFromName tokens (Some name) []
from-only tokens [] name from at = absurd (none≢some name at)
from-only tokens (named ∷ []) name from at = (named, with-from tokens (named ∷ []) from, at)
from-only tokens (named ∷ next ∷ rest) name from at = absurd (none≢some name at)

-- WITH KEY = and a name, without FROM before it
pub key-alone : (tokens : List Token) (key : List ℕ) → key_in tokens ≡ Some key → IsOfKey tokens None key
key-alone tokens key at = (tokens, refl, at)

pub no-key-alone : (tokens : List Token) → behind_keyword from_word tokens ≡ None → key_in tokens ≡ None → (name : Option (List ℕ)) (key : List ℕ) → IsOfKey tokens name key → ⊥
no-key-alone tokens no_from no_key None key (behind, same, at) = none≢some key (sym no_key ∙ ap (λ (ts : List Token). key_in ts) same ∙ at)
no-key-alone tokens no_from no_key (Some name) key (behind, (named, from, name_is), at) = none≢some (named ∷ behind) (sym (without-from tokens no_from) ∙ from)

-- FROM with nothing behind it
pub no-named : (tokens rest : List Token) → behind_keyword from_word tokens ≡ Some rest → rest ≡ [] → (name : Option (List ℕ)) (key : List ℕ) → IsOfKey tokens name key → ⊥
no-named tokens rest from empty None key (behind, same, at) =
    from-no-key tokens rest key (with-from tokens rest from) (ap (λ (ts : List Token). key_in ts) same ∙ at)
no-named tokens rest from empty (Some name) key (behind, (named, from', name_is), at) =
    let same : named ∷ behind ≡ [] = same-some (behind_keywords (from_word ∷ []) tokens) (named ∷ behind) rest from' (with-from tokens rest from) ∙ empty in
    cc

-- FROM and a name before WITH KEY =
with-both : (named : Token) (rest : List Token) (name : Option (List ℕ)) (key : List ℕ) → named_with_key named rest ≡ Some (name, key) →
    (n : List ℕ) × (name ≡ Some n) × (name_in named ≡ Some n) × (key_in rest ≡ Some key)
with-both named rest name key e = by (name_in named) refl (key_in rest) refl e
  where
    by : (a : Option (List ℕ)) → name_in named ≡ a → (b : Option (List ℕ)) → key_in rest ≡ b →
        option_and_then {U = Option (List ℕ) × List ℕ} (λ (n : List ℕ). option_and_then {U = Option (List ℕ) × List ℕ} (λ (k : List ℕ). Some (Some n, k)) b) a ≡ Some (name, key) →
        (n : List ℕ) × (name ≡ Some n) × (name_in named ≡ Some n) × (key_in rest ≡ Some key)
    by None a_is b b_is at = absurd (none≢some (name, key) at)
    by (Some n) a_is None b_is at = absurd (none≢some (name, key) at)
    by (Some n) a_is (Some k) b_is at =
        let pairs = same-some {A = Option (List ℕ) × List ℕ} (Some (Some n, k)) (Some n, k) (name, key) refl at in
        (n, sym (ap (λ (p : Option (List ℕ) × List ℕ). p.0) pairs), a_is, b_is ∙ ap (λ (p : Option (List ℕ) × List ℕ). Some p.1) pairs)

pub named-key : (tokens rest behind : List Token) (named : Token) (name : Option (List ℕ)) (key : List ℕ) → behind_keyword from_word tokens ≡ Some rest → rest ≡ named ∷ behind →
    named_with_key named behind ≡ Some (name, key) → IsOfKey tokens name key
named-key tokens rest behind named name key from split at = go (with-both named behind name key at)
  where
    go : (n : List ℕ) × (name ≡ Some n) × (name_in named ≡ Some n) × (key_in behind ≡ Some key) → IsOfKey tokens name key
    go (n, name_is, named_is, key_is) =
        subst (λ (o : Option (List ℕ)). IsOfKey tokens o key) (sym name_is)
        (behind, (named, with-from tokens rest from ∙ ap (λ (ts : List Token). Some ts) split, named_is), key_is)

pub no-named-key : (tokens rest behind : List Token) (named : Token) → behind_keyword from_word tokens ≡ Some rest → rest ≡ named ∷ behind →
    named_with_key named behind ≡ None → (name : Option (List ℕ)) (key : List ℕ) → IsOfKey tokens name key → ⊥
no-named-key tokens rest behind named from split none None key (others, same, at) =
    from-no-key tokens rest key (with-from tokens rest from) (ap (λ (ts : List Token). key_in ts) same ∙ at)
no-named-key tokens rest behind named from split none (Some name) key (others, (named', from', name_is), at) =
    let lists : named' ∷ others ≡ named ∷ behind = same-some (behind_keywords (from_word ∷ []) tokens) (named' ∷ others) rest from' (with-from tokens rest from) ∙ split in
    let first : named' ≡ named = ap (λ (ts : List Token). head_or named ts) lists in
    let rests : others ≡ behind = ap (λ (ts : List Token). tail_of ts) lists in
    let name_at : name_in named ≡ Some name = ap (λ (t : Token). name_in t) (sym first) ∙ name_is in
    let key_at : key_in behind ≡ Some key = ap (λ (ts : List Token). key_in ts) (sym rests) ∙ at in
    none≢some (Some name, key)
    (sym none
    ∙ ap (λ (o : Option (List ℕ)). option_and_then {U = Option (List ℕ) × List ℕ} (λ (n : List ℕ). option_and_then {U = Option (List ℕ) × List ℕ} (λ (k : List ℕ). Some (Some n, k)) (key_in behind)) o) name_at
    ∙ ap (λ (o : Option (List ℕ)). option_and_then {U = Option (List ℕ) × List ℕ} (λ (k : List ℕ). Some (Some name, k)) o) key_at)

-- what stands before a semicolon at the end
pub semicolon-last : (front : List Token) (last : Token) → without_semicolon (front ++ last ∷ []) ≡ cond (is_semicolon (symbol_in last)) front (front ++ last ∷ [])
semicolon-last [] last = refl
semicolon-last (t ∷ []) last = by (is_semicolon (symbol_in last))
  where
    by : (b : Bool) → t ∷ cond b [] (last ∷ []) ≡ cond b (t ∷ []) (t ∷ last ∷ [])
    by true = refl
    by false = refl
semicolon-last (t ∷ u ∷ front) last = ap (λ (ts : List Token). t ∷ ts) (semicolon-last (u ∷ front) last) ∙ by (is_semicolon (symbol_in last))
  where
    by : (b : Bool) → t ∷ cond b (u ∷ front) (u ∷ (front ++ last ∷ [])) ≡ cond b (t ∷ u ∷ front) (t ∷ u ∷ (front ++ last ∷ []))
    by true = refl
    by false = refl

-- whether nothing stands behind keywords is told by what does
pub empty-iff : (o : Option (List Token)) (rest : List Token) (b : Bool) → o ≡ Some rest → b ≡ eqb (length rest) 0 → (b ≡ true → o ≡ Some []) × (o ≡ Some [] → b ≡ true)
empty-iff o [] b at is = ((λ t. at), (λ t. is))
empty-iff o (token ∷ rest) b at is =
    ((λ t. absurd (false≢true (sym (is ∙ some) ∙ t))), (λ none. absurd (cons≢nil token rest (same-some o (token ∷ rest) [] at none))))
  where
    some : eqb (length (token ∷ rest)) 0 ≡ false
    some = ⊎_elim (λ (t : eqb (length (token ∷ rest)) 0 ≡ true). absurd (omega (arith, eqb-true (length (token ∷ rest)) 0 t))) (λ (f : eqb (length (token ∷ rest)) 0 ≡ false). f) (decided (eqb (length (token ∷ rest)) 0))

    cons≢nil : (t : Token) (ts : List Token) → t ∷ ts ≡ [] → ⊥
    cons≢nil t ts e = cc

pub not-empty : (tokens : List Token) → eqb (length tokens) 0 ≡ false → tokens ≡ [] → ⊥
not-empty tokens some none = false≢true (sym some ∙ ap (λ (ts : List Token). eqb (length ts) 0) none)

pub is-empty : (tokens : List Token) → eqb (length tokens) 0 ≡ true → tokens ≡ []
is-empty [] e = refl
is-empty (token ∷ tokens) e = absurd (omega (arith, eqb-true (length (token ∷ tokens)) 0 e))

-- the only token of one, and what is no only token
pub only-of : (tokens behind : List Token) (named : Token) → tokens ≡ named ∷ behind → eqb (length behind) 0 ≡ true → only_name tokens ≡ name_in named
only-of tokens behind named split empty =
    ap (λ (ts : List Token). only_name ts) split ∙ ap (λ (ts : List Token). only_name (named ∷ ts)) (is-empty behind empty)

pub only-none : (tokens behind : List Token) (named : Token) → tokens ≡ named ∷ behind → eqb (length behind) 0 ≡ false → only_name tokens ≡ None
only-none tokens behind named split some = ap (λ (ts : List Token). only_name ts) split ∙ by behind some
  where
    by : (ts : List Token) → eqb (length ts) 0 ≡ false → only_name (named ∷ ts) ≡ None
    by [] e = absurd (false≢true (sym e))
    by (t ∷ ts) e = refl

-- what FROM and a name behind keywords come to
pub listing-found : (ks : List (List ℕ)) (tokens rest : List Token) (found : Option (Option (List ℕ))) → behind_keywords ks tokens ≡ Some rest →
    IfSome found (λ name. IsFromName rest name []) → IfSome found (λ name. IsListing ks tokens name [])
listing-found ks tokens rest None at is = is
listing-found ks tokens rest (Some name) at is = (rest, at, is)

pub listing-none : (ks : List (List ℕ)) (tokens rest : List Token) (found : Option (Option (List ℕ))) → behind_keywords ks tokens ≡ Some rest →
    IfNone found (HasNone (λ name. IsFromName rest name [])) → IfNone found (HasNone (λ name. IsListing ks tokens name []))
listing-none ks tokens rest None at none = rest-listing ks tokens rest at none
listing-none ks tokens rest (Some name) at none = none

pub semicolon-chosen : (tokens front : List Token) (last : Token) (b : Bool) → tokens ≡ front ++ last ∷ [] → is_semicolon (symbol_in last) ≡ b → without_semicolon tokens ≡ cond b front tokens
semicolon-chosen tokens front last b split is =
    ap (λ (ts : List Token). without_semicolon ts) split ∙ semicolon-last front last ∙ ap (λ (t : Bool). cond t front (front ++ last ∷ [])) is ∙ ap (λ (ts : List Token). cond b front ts) (sym split)

pub nil-of : (tokens : List Token) → length tokens ≡ 0 → tokens ≡ []
nil-of [] e = refl
nil-of (token ∷ tokens) e = absurd (omega (arith, e))

-- FROM, a name and WITH KEY =, as they were read or not
pub values-found : (tokens rest behind : List Token) (named : Token) (found : Option (Option (List ℕ) × List ℕ)) → behind_keyword from_word tokens ≡ Some rest → rest ≡ named ∷ behind →
    found ≡ named_with_key named behind → IfSome found (λ parts. IsOfKey tokens parts.0 parts.1)
values-found tokens rest behind named None from split is = tt
values-found tokens rest behind named (Some parts) from split is = named-key tokens rest behind named parts.0 parts.1 from split (sym is)

pub values-none : (tokens rest behind : List Token) (named : Token) (found : Option (Option (List ℕ) × List ℕ)) → behind_keyword from_word tokens ≡ Some rest → rest ≡ named ∷ behind →
    found ≡ named_with_key named behind → IfNone found ((name : Option (List ℕ)) (key : List ℕ) → IsOfKey tokens name key → ⊥)
values-none tokens rest behind named None from split is = no-named-key tokens rest behind named from split (sym is)
values-none tokens rest behind named (Some parts) from split is = tt

pub tags-found : (tokens rest : List Token) (found : Option (Option (List ℕ) × List ℕ)) → behind_keywords (show_word ∷ tag_word ∷ values_word ∷ []) tokens ≡ Some rest →
    IfSome found (λ parts. IsOfKey rest parts.0 parts.1) → IfSome found (λ parts. IsShowStatement tokens (show.TagValues parts.0 parts.1))
tags-found tokens rest None at is = is
tags-found tokens rest (Some parts) at is = (rest, at, is)

pub tags-none : (tokens rest : List Token) (found : Option (Option (List ℕ) × List ℕ)) → behind_keywords (show_word ∷ tag_word ∷ values_word ∷ []) tokens ≡ Some rest →
    IfNone found ((name : Option (List ℕ)) (key : List ℕ) → IsOfKey rest name key → ⊥) → IfNone found ((name : Option (List ℕ)) (key : List ℕ) → IsShowStatement tokens (show.TagValues name key) → ⊥)
tags-none tokens rest None at none = rest-values tokens rest at none
tags-none tokens rest (Some parts) at none = none

-- what WITH KEY = and a name come to
pub key-none : (tokens : List Token) → behind_keywords (with_word ∷ key_word ∷ []) tokens ≡ None → key_in tokens ≡ None
key-none tokens none = ap (λ (o : Option (List Token)). option_and_then only_name (option_and_then behind_equal o)) none

pub key-empty : (tokens rest : List Token) → behind_keywords (with_word ∷ key_word ∷ []) tokens ≡ Some rest → length rest ≡ 0 → key_in tokens ≡ None
key-empty tokens rest at empty =
    ap (λ (o : Option (List Token)). option_and_then only_name (option_and_then behind_equal o)) at
    ∙ ap (λ (ts : List Token). option_and_then only_name (behind_equal ts)) (nil-of rest empty)

pub key-equal : (tokens rest more : List Token) (equals : Token) (b : Bool) → behind_keywords (with_word ∷ key_word ∷ []) tokens ≡ Some rest → rest ≡ equals ∷ more → is_equal (symbol_in equals) ≡ b →
    key_in tokens ≡ cond b (only_name more) None
key-equal tokens rest more equals b at split is =
    ap (λ (o : Option (List Token)). option_and_then only_name (option_and_then behind_equal o)) at
    ∙ ap (λ (ts : List Token). option_and_then only_name (behind_equal ts)) split ∙ by (is_equal (symbol_in equals)) is
  where
    by : (t : Bool) → t ≡ b → option_and_then only_name (cond t (Some more) None) ≡ cond b (only_name more) None
    by true e = ap (λ (t : Bool). cond t (only_name more) None) e
    by false e = ap (λ (t : Bool). cond t (only_name more) None) e

-- what holds where nothing was found
pub none-at : {A : Type 0} (P : Type 0) (o : Option A) → o ≡ None → IfNone o P → P
none-at P None is holds = holds
none-at P (Some x) is holds = absurd (none≢some x (sym is))

pub some-at : {A : Type 0} (P : A → Type 0) (o : Option A) (x : A) → o ≡ Some x → IfSome o P → P x
some-at P None x is holds = absurd (none≢some x is)
some-at P (Some y) x is holds = subst P (same-some (Some y) y x refl is) holds

pub none-of : {A : Type 0} (P : Type 0) (o : Option A) → ((x : A) → o ≡ Some x → ⊥) → IfNone o P → P
none-of P None not holds = holds
none-of P (Some x) not holds = absurd (not x refl)

-- what the tokens of a text are, the text is
pub text-found : (text : List ℕ) (tokens body : List Token) (found : Option Show) → AreTokens tokens text → body ≡ without_semicolon tokens →
    IfSome found (IsShowStatement body) → IfSome found (IsShow text)
text-found text tokens body None cut is shows = tt
text-found text tokens body (Some what) cut is shows = (tokens, cut, subst (λ (ts : List Token). IsShowStatement ts what) is shows)

-- and where they are no SHOW, it is none
pub text-none : (text : List ℕ) (tokens body : List Token) (found : Option Show) → AreTokens tokens text → body ≡ without_semicolon tokens →
    IfNone found ((what : Show) → IsShowStatement body what → ⊥) → IfNone found (IsNoShow text)
text-none text tokens body (Some what) cut is none = tt
text-none text tokens body None cut is none = λ what (others, cuts, shows).
    none what (subst (λ (ts : List Token). IsShowStatement ts what) (ap (λ (ts : List Token). without_semicolon ts) (same-tokens text others tokens cuts cut) ∙ sym is) shows)

-- what isn't cut into tokens is no SHOW
pub uncut : (text : List ℕ) → ((tokens : List Token) → AreTokens tokens text → ⊥) → IsNoShow text
uncut text none = λ what (tokens, cut, shows). none tokens cut
