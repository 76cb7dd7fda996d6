use Rattle.std.proofs.Common.{ℕ, List}
use Rattle.std.proofs.lemmas.Bool.{false≢true}
use Rattle.index_file.specs.Contents.{IsText, name_cmp}
use Rattle.index_file.specs.Format.{text_bytes}
use Rattle.index_file.specs.Taking.{IsBehind}
use Rattle.index_file.proofs.TakeLemmas.{stopped}
use Rattle.index_file.proofs.ItemLemmas.{name_not_behind}
use Rattle.index_file.proofs.take.take_name_behind.Goals as goal

pub returns-in_err-name : goal.returns-in_err-name
returns-in_err-name c =
    stopped IsText text_bytes (λ (n : List ℕ). IsText n × IsBehind name_cmp c.args.last.now n) text_bytes c.from_residual.result c.in_err-name.field-0.0 c.args.rest.now c.take_name.new.rest c.args.rest.now c.take_name.new.rest
    c.from_residual.ensures.1 c.in_err-name.ensures (λ none n more next is. none n more next.0 is)

pub returns-then-not-is_behind : goal.returns-then-not-is_behind
returns-then-not-is_behind c =
    name_not_behind c.args.rest.now c.take_name.new.rest c.args.last.now c.in_ok-name.name c.in_ok-name.ensures.0 c.in_ok-name.ensures.1 (λ behind. false≢true (c.if-not-is_behind.ensures.1 behind))
