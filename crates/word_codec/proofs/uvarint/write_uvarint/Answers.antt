use Rattle.std.proofs.Common.{◌≡◌, length, take, ap, ◌∙◌}
use Rattle.word_codec.proofs.uvarint.write_uvarint.Goals as goal

pub returns-in-Err-clause-err : goal.returns-in-Err-clause-err
returns-in-Err-clause-err c =
    let len : c.len-len.result ≡ length c.args.out.now.items = c.len-len.ensures ∙ c.args.out.now.ok.0 in
    c.truncate.ensures.items ∙ ap (λ n. take n c.append.new.out.items) len ∙ c.in-Err.ensures.err
