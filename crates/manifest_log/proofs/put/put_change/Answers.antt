use Rattle.std.proofs.Common.{◌∙◌, ◌++◌, sym, ap}
use Rattle.fixed_width.specs.Fields.{bytes_of_u32, bytes_of_u64}
use Rattle.manifest_log.specs.declared.change.Change.{Change}
use Rattle.manifest_log.specs.Format.{change_bytes}
use Rattle.manifest_log.proofs.ApplyLemmas.{on_ok_then, put_seven}
use Rattle.manifest_log.proofs.put.put_change.Goals as goal

pub returns-in_ok-put_u32-in-AddFile-2 : goal.returns-in_ok-put_u32-in-AddFile-2
returns-in_ok-put_u32-in-AddFile-2 c =
    on_ok_then c.put_u32-in-AddFile-2.result
    (λ last. put_seven c.args.out.now.items (bytes_of_u32 c.in-AddFile.no) (bytes_of_u64 c.in-AddFile.generation) (bytes_of_u32 c.in-AddFile.sequence) (bytes_of_u64 c.in-AddFile.points) (bytes_of_u32 c.in-AddFile.most_entries) _ _ _ _ _ _ _ _ c.in-AddFile.level
    c.in_ok-put_one-in-AddFile.ensures c.in_ok-put_u64-in-AddFile.ensures.ok c.in_ok-put_u32-in-AddFile.ensures.ok c.in_ok-push-in-AddFile.ensures.items c.in_ok-put_u64-in-AddFile-2.ensures.ok c.in_ok-put_u32-in-AddFile-2.ensures.ok
    (last ∙ ap (λ n. c.put_u32-in-AddFile.new.out.items ++ bytes_of_u32 n) c.plus_one.ensures)
    ∙ ap (λ (change : Change). c.args.out.now.items ++ change_bytes change) (sym c.in-AddFile.is))
    c.put_u32-in-AddFile-2.ensures.ok
