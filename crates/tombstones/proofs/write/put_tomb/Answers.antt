use Rattle.std.proofs.Common.{◌≡◌, ℤ, ◌++◌, length, ap, ◌∙◌, rules, FitsSigned, w64, to_z, of_z}
use Rattle.std.proofs.lemmas.Int.{to_z-of_z}
use Rattle.std.proofs.lemmas.Result.{on_ok_weaker}
use Rattle.fixed_width.specs.Fields.{bytes_of_u32, bytes_of_i64}
use Rattle.tombstones.specs.Format.{tomb_bytes}
use Rattle.tombstones.proofs.FormatLemmas.{put_all}
use Rattle.tombstones.proofs.write.put_tomb.Goals as goal

pub returns : goal.returns
unfolding tomb_bytes
returns c =
    let range = c.args.range.now in
    let fits : FitsSigned w64 c.get.result = search rules in
    let fits' : FitsSigned w64 c.get-2.result = search rules in
    let from : to_z w64 (of_z w64 c.get.result) ≡ range.from = to_z-of_z w64 c.get.result fits ∙ c.get.ensures.value in
    let to : to_z w64 (of_z w64 c.get-2.result) ≡ range.to = to_z-of_z w64 c.get-2.result fits' ∙ c.get-2.ensures.value in
    on_ok_weaker c.put_i64-2.result (λ e. put_all c.args.out.now.items (bytes_of_u32 (length c.args.key.now)) c.args.key.now (bytes_of_i64 range.from) (bytes_of_i64 range.to)
    c.put_u32.new.out.items c.extend_from_slice.new.self.items c.put_i64.new.out.items c.put_i64-2.new.out.items
    c.in_ok-put_u32.ensures.ok c.in_ok-extend_from_slice.ensures.items
    (c.in_ok-put_i64.ensures.ok ∙ ap (λ (z : ℤ). c.extend_from_slice.new.self.items ++ bytes_of_i64 z) from)
    (e ∙ ap (λ (z : ℤ). c.put_i64.new.out.items ++ bytes_of_i64 z) to)) c.put_i64-2.ensures.ok
