use Rattle.std.proofs.Common.{ℕ, List}
use Rattle.index_file.specs.declared.content.NameIds.{NameIds}
use Rattle.index_file.specs.Contents.{AreIds, IsText, name_cmp}
use Rattle.index_file.specs.Format.{ids_bytes, named_bytes, text_bytes}
use Rattle.index_file.specs.Taking.{IsBehind}
use Rattle.index_file.proofs.TakeLemmas.{stopped}
use Rattle.index_file.proofs.ItemLemmas.{MayBeNextNameIds, list_no_name, list_no_ids, list_whole}
use Rattle.index_file.proofs.take.take_list.Goals as goal

pub returns-in_err-name : goal.returns-in_err-name
returns-in_err-name c =
    stopped (λ (n : List ℕ). IsText n × IsBehind name_cmp c.args.last.now n) text_bytes (MayBeNextNameIds c.args.last.now) named_bytes c.from_residual.result c.in_err-name.field-0.0 c.args.rest.now c.take_name_behind.new.rest
    c.args.rest.now c.take_name_behind.new.rest c.from_residual.ensures.1 c.in_err-name.ensures (list_no_name c.args.rest.now c.args.last.now)

pub returns-in_err-ids : goal.returns-in_err-ids
returns-in_err-ids c =
    stopped AreIds ids_bytes (MayBeNextNameIds c.args.last.now) named_bytes c.from_residual-in_err-ids.result c.in_err-ids.field-0.0 c.take_name_behind.new.rest c.take_ids.new.rest
    c.args.rest.now c.take_ids.new.rest c.from_residual-in_err-ids.ensures.1 c.in_err-ids.ensures
    (list_no_ids c.args.rest.now c.take_name_behind.new.rest c.args.last.now c.in_ok-name.name c.in_ok-name.ensures.0.0 c.in_ok-name.ensures.1)

pub returns : goal.returns
returns c =
    let item : NameIds = record { name = c.in_ok-name.name; ids = c.in_ok-ids.ids } in (
      (record { name = c.in_ok-name.ensures.0.0; ids = c.in_ok-ids.ensures.0 }, c.in_ok-name.ensures.0.1),
      list_whole c.args.rest.now c.take_name_behind.new.rest c.take_ids.new.rest item c.in_ok-name.ensures.1 c.in_ok-ids.ensures.1,
    )
