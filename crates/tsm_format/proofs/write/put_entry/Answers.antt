use Rattle.std.proofs.Common.{◌≡◌, ℤ, ◌++◌, ap, ◌∙◌, rules, FitsSigned, w64, to_z, of_z}
use Rattle.std.proofs.lemmas.Int.{to_z-of_z}
use Rattle.std.proofs.lemmas.Result.{on_ok_weaker}
use Rattle.fixed_width.specs.Fields.{bytes_of_u32, bytes_of_u64, bytes_of_i64}
use Rattle.tsm_format.specs.Format.{entry_bytes}
use Rattle.tsm_format.proofs.FormatLemmas.{put_all}
use Rattle.tsm_format.proofs.write.put_entry.Goals as goal

pub returns : goal.returns
unfolding entry_bytes
returns c =
    let entry = c.args.entry in
    let fits : FitsSigned w64 c.get.result = search rules in
    let fits' : FitsSigned w64 c.get-2.result = search rules in
    let min : to_z w64 (of_z w64 c.get.result) ≡ entry.min = to_z-of_z w64 c.get.result fits ∙ c.get.ensures.value in
    let max : to_z w64 (of_z w64 c.get-2.result) ≡ entry.max = to_z-of_z w64 c.get-2.result fits' ∙ c.get-2.ensures.value in
    on_ok_weaker c.put_u32.result (λ e. put_all c.args.out.now.items (bytes_of_i64 entry.min) (bytes_of_i64 entry.max) (bytes_of_u64 entry.offset) (bytes_of_u32 entry.size)
    c.put_i64.new.out.items c.put_i64-2.new.out.items c.put_u64.new.out.items c.put_u32.new.out.items
    (c.in_ok-put_i64.ensures.ok ∙ ap (λ (z : ℤ). c.args.out.now.items ++ bytes_of_i64 z) min)
    (c.in_ok-put_i64-2.ensures.ok ∙ ap (λ (z : ℤ). c.put_i64.new.out.items ++ bytes_of_i64 z) max)
    c.in_ok-put_u64.ensures.ok e) c.put_u32.ensures.ok
