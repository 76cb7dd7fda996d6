use Rattle.std.proofs.Common.{ℕ, [], ◌∷◌, ◌++◌, length, ap, ◌∙◌}
use Rattle.std.proofs.lemmas.Result.{on_ok_weaker}
use Rattle.fixed_width.specs.Fields.{bytes_of_u16}
use Rattle.tsm_format.specs.Format.{byte_of, head_bytes}
use Rattle.tsm_format.proofs.FormatLemmas.{put_all}
use Rattle.tsm_format.proofs.write.put_head.Goals as goal

pub returns : goal.returns
unfolding head_bytes
returns c =
    on_ok_weaker c.put_u16-2.result (λ e. put_all c.args.out.now.items (bytes_of_u16 (length c.args.key.now)) c.args.key.now (byte_of c.args.kind ∷ []) (bytes_of_u16 c.args.count)
    c.put_u16.new.out.items c.extend_from_slice.new.self.items c.push.new.self.items c.put_u16-2.new.out.items
    c.in_ok-put_u16.ensures.ok c.in_ok-extend_from_slice.ensures.items
    (c.in_ok-push.ensures.items ∙ ap (λ (b : ℕ). c.extend_from_slice.new.self.items ++ (b ∷ [])) c.kind_byte.ensures) e) c.put_u16-2.ensures.ok
