use Rattle.std.proofs.Common.{◌≡◌, ◌<◌, ◌^◌, ◌*◌, length, sym, ◌∙◌, ap, subst, arith, rules}
use Rattle.std.specs.Prelude.{All}
use Rattle.std.specs.List.{flat_map}
use Rattle.std.specs.Int.{to_be_bytes, w64}
use Rattle.word_codec.proofs.WordsLemmas.{whole_read, read_fits, written_over, none_cut}
use Rattle.word_codec.proofs.words.read_words.Goals as goal

pub returns-then-bytes-ne0-clause-cut : goal.returns-then-bytes-ne0-clause-cut
returns-then-bytes-ne0-clause-cut c = λ words is. omega (arith, c.if-bytes-ne0.true, none_cut words c.args.bytes.now is)

pub returns-clause-found : goal.returns-clause-found
returns-clause-found c =
    let bytes = c.args.bytes.now in
    let old = c.in_ok-words.words.items in
    let new = c.read_u64_into.new.dst in
    let same : length new ≡ length old = search rules in
    let size : length bytes ≡ 8 * length new = search rules in
    ap (flat_map (to_be_bytes w64)) (written_over c.in_ok-words.words.len new old c.in_ok-words.words.ok.0 same) ∙ whole_read new bytes size (λ i. omega (arith, c.type_inv.bytes i)) c.read_u64_into.ensures

pub returns-clause-fit : goal.returns-clause-fit
returns-clause-fit c =
    let old = c.in_ok-words.words.items in
    let new = c.read_u64_into.new.dst in
    let same : length new ≡ length old = search rules in
    subst (All (λ word. word < 2 ^ 64)) (sym (written_over c.in_ok-words.words.len new old c.in_ok-words.words.ok.0 same)) (read_fits new c.args.bytes.now (λ i. omega (arith, c.type_inv.bytes i)) c.read_u64_into.ensures)
