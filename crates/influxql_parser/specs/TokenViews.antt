-- Which token does the code's form of one stand for?
use Rattle.influxql_parser.specs.declared.token.Form.{Form}
use Rattle.influxql_parser.specs.declared.token.Form.TheVariants as form
use Rattle.influxql_parser.specs.Tokens.{Token, Word, Quoted, Text, Number, Duration, Sign}

abbrev pub token_of : Form → Token
token_of (form.Word word) = Word word.now
token_of (form.Quoted raw) = Quoted raw.now
token_of (form.Text raw) = Text raw.now
token_of (form.Number number) = Number number
token_of (form.Duration nanoseconds) = Duration nanoseconds
token_of (form.Sign symbol) = Sign symbol
