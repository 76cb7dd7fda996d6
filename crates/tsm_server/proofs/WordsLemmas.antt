-- The words of a run are its name, its path and the names of one client to eight.
use Rattle.std.proofs.Common.{◌≡◌, ◌≤◌, ◌*◌, ◌%◌, ℕ, List, [], ◌∷◌, map, length, refl, sym, ap, ◌∙◌, subst, arith}
use Rattle.std.proofs.lemmas.List.{length-map}
use Rattle.std.specs.Prelude.{codes}
use Rattle.std.specs.List.{AllByRecursion}
use Rattle.std.specs.String.{string_bytes}
use Rattle.session_io.specs.declared.client.Word.{Word}
use Rattle.tsm_server.specs.Words.{AsksRun, IsPlain, Names, names_in, texts_of}

abbrev text : Word → List ℕ
text word = string_bytes word.text

abbrev pub IsPlainWord : Word → Type 0
IsPlainWord word = IsPlain (string_bytes word.text)

texts_length : (clients : List Names) → length (texts_of clients) ≡ 2 * length clients
texts_length [] = refl
texts_length (names ∷ clients) = let rest = texts_length clients in omega (arith, rest)

names_spell : (names : List Word) → length names % 2 ≡ 0 → texts_of (names_in names) ≡ map text names
names_spell [] even = refl
names_spell (one ∷ []) even = absurd (omega (arith, even))
names_spell (one ∷ other ∷ names) even = cc (names_spell names (omega (arith, even)))

names_count : (names : List Word) → length names % 2 ≡ 0 → 2 * length (names_in names) ≡ length names
names_count [] even = refl
names_count (one ∷ []) even = absurd (omega (arith, even))
names_count (one ∷ other ∷ names) even = let rest = names_count names (omega (arith, even)) in omega (arith, rest)

plain_texts : (words : List Word) → AllByRecursion IsPlainWord words → AllByRecursion IsPlain (map text words)
plain_texts [] plain = tt
plain_texts (word ∷ words) plain = (plain.0, plain_texts words plain.1)

plain_words : (words : List Word) → AllByRecursion IsPlain (map text words) → AllByRecursion IsPlainWord words
plain_words [] plain = tt
plain_words (word ∷ words) plain = (plain.0, plain_words words plain.1)

run_is_plain : IsPlain (codes "run")
run_is_plain = record { not_empty = omega arith; no_option = λ is. absurd (omega (arith, is)) }

abbrev behind_two : List (List ℕ) → List (List ℕ)
behind_two [] = []
behind_two (one ∷ []) = []
behind_two (one ∷ other ∷ more) = more

module _ (words : List Word) (name path : Word) (names : List Word) (is : words ≡ name ∷ path ∷ names) where
  pub asks_run : string_bytes name.text ≡ codes "run" → length names % 2 ≡ 0 → 2 ≤ length names → length names ≤ 16 → AllByRecursion IsPlainWord words → AsksRun words (string_bytes path.text) (names_in names)
  asks_run run even some few plain =
      let count = names_count names even in
      let all : AllByRecursion IsPlainWord (name ∷ path ∷ names) = subst (AllByRecursion IsPlainWord) is plain in
      record {
        spelled = ap (map text) is ∙ cc (run, names_spell names even);
        some = omega (arith, count, some);
        few = omega (arith, count, few);
        plain = (all.1.0, subst (AllByRecursion IsPlain) (sym (names_spell names even)) (plain_texts names all.1.1));
      }

  module _ (at : List ℕ) (clients : List Names) (asks : AsksRun words at clients) where
    spelled : text name ∷ text path ∷ map text names ≡ codes "run" ∷ at ∷ texts_of clients
    spelled = sym (ap (map text) is) ∙ asks.spelled

    pub run_count : length names ≡ 2 * length clients
    run_count = sym (length-map names text) ∙ ap length (ap behind_two spelled) ∙ texts_length clients

    pub run_plain : AllByRecursion IsPlainWord words
    run_plain = plain_words words (subst (AllByRecursion IsPlain) (sym asks.spelled) (run_is_plain, asks.plain))
