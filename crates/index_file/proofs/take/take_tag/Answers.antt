use Rattle.std.proofs.Common.{ℕ, List}
use Rattle.index_file.specs.declared.content.TagIds.{TagIds}
use Rattle.index_file.specs.Contents.{AreNamed, IsText, name_cmp}
use Rattle.index_file.specs.Format.{counted_bytes, named_bytes, tag_bytes, text_bytes}
use Rattle.index_file.specs.Taking.{IsBehind}
use Rattle.index_file.proofs.TakeLemmas.{stopped}
use Rattle.index_file.proofs.ItemLemmas.{MayBeNextTagIds, tag_no_key, tag_no_values, tag_whole}
use Rattle.index_file.proofs.take.take_tag.Goals as goal

pub returns-in_err-key : goal.returns-in_err-key
returns-in_err-key c =
    stopped (λ (n : List ℕ). IsText n × IsBehind name_cmp c.args.last.now n) text_bytes (MayBeNextTagIds c.args.last.now) tag_bytes c.from_residual.result c.in_err-key.field-0.0 c.args.rest.now c.take_name_behind.new.rest
    c.args.rest.now c.take_name_behind.new.rest c.from_residual.ensures.1 c.in_err-key.ensures (tag_no_key c.args.rest.now c.args.last.now)

pub returns-in_err-values : goal.returns-in_err-values
returns-in_err-values c =
    stopped AreNamed (counted_bytes named_bytes) (MayBeNextTagIds c.args.last.now) tag_bytes c.from_residual-in_err-values.result c.in_err-values.field-0.0 c.take_name_behind.new.rest c.take_lists.new.rest
    c.args.rest.now c.take_lists.new.rest c.from_residual-in_err-values.ensures.1 c.in_err-values.ensures
    (tag_no_values c.args.rest.now c.take_name_behind.new.rest c.args.last.now c.in_ok-key.key c.in_ok-key.ensures.0.0 c.in_ok-key.ensures.1)

pub returns : goal.returns
returns c =
    let item : TagIds = record { key = c.in_ok-key.key; values = c.in_ok-values.values } in (
      (record { key = c.in_ok-key.ensures.0.0; values = c.in_ok-values.ensures.0 }, c.in_ok-key.ensures.0.1),
      tag_whole c.args.rest.now c.take_name_behind.new.rest c.take_lists.new.rest item c.in_ok-key.ensures.1 c.in_ok-values.ensures.1,
    )
