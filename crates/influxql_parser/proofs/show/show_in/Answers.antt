use Rattle.std.proofs.Common.{ℕ, Option, List, [], ◌∷◌, sym, ◌∙◌}
use Rattle.std.proofs.lemmas.Bool.{false≢true}
use Rattle.query_model.specs.declared.show.Show.TheVariants.{TagValues}
use Rattle.influxql_parser.specs.GrammarWords.{show_word, series_word, tag_word, field_word, keys_word}
use Rattle.influxql_parser.specs.GrammarShows.{HasNone, IsListing, IsShowStatement}
use Rattle.influxql_parser.proofs.ShowLemmas.{none-at, none-of, no-statement}
use Rattle.influxql_parser.proofs.show.show_in.Goals as goal

pub returns-in-None-clause-none : goal.returns-in-None-clause-none
returns-in-None-clause-none c =
    let tokens = c.args.tokens.now in
    no-statement tokens
    (λ is. false≢true (sym c.if-are_two.false ∙ c.are_two.ensures.1 is))
    (λ is. false≢true (sym c.if-are_two-2.false ∙ c.are_two-2.ensures.1 is))
    (none-of (HasNone (λ name. IsListing (show_word ∷ series_word ∷ []) tokens name [])) c.in_ok-name.field-0 c.in_default.not-Some c.in_ok-name.ensures.none)
    (none-of (HasNone (λ name. IsListing (show_word ∷ tag_word ∷ keys_word ∷ []) tokens name [])) c.in_ok-name-2.field-0 c.in_default-2.not-Some c.in_ok-name-2.ensures.none)
    (none-of (HasNone (λ name. IsListing (show_word ∷ field_word ∷ keys_word ∷ []) tokens name [])) c.in_ok-name-3.field-0 c.in_default-3.not-Some c.in_ok-name-3.ensures.none)
    (none-at ((name : Option (List ℕ)) (key : List ℕ) → IsShowStatement tokens (TagValues name key) → ⊥) c.in_ok-name-4.field-0 c.in-None.is c.in_ok-name-4.ensures.none)
