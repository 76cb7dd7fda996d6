use Rattle.std.proofs.Common.{length, ap, arith}
use Rattle.std.proofs.lemmas.List.{length-append}
use Rattle.fixed_width.specs.Fields.{bytes_of_u64}
use Rattle.fixed_width.proofs.Fronts.{length-u64}
use Rattle.point_model.specs.declared.entry.Entry.TheVariants.{Delete}
use Rattle.wal_store.specs.Runs.{entry_bytes}
use Rattle.wal_store.proofs.wal.Wal.delete_record.Goals as goal

pub framed-requires : goal.framed-requires
framed-requires c =
    omega (
      arith,
      ap length c.deref.ensures.value,
      ap length c.in_ok-put_delete.ensures.bytes,
      ap length c.in_ok-put_u64.ensures.ok,
      ap length c.in_ok-body.ensures.items,
      length-append c.put_u64.new.out.items (entry_bytes (Delete c.args.client c.args.deletion.now)),
      length-append c.in_ok-body.body.items (bytes_of_u64 c.args.number),
      length-u64 c.args.number,
      c.requires.writable.short,
    )
