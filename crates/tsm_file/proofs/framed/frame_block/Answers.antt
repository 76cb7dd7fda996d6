use Rattle.std.proofs.Common.{◌≡◌, ℕ, List, ◌++◌, ◌∙◌, ap}
use Rattle.fixed_width.specs.Fields.{bytes_of_u32}
use Rattle.word_codec.specs.Crc32.{crc32_of}
use Rattle.block_codec.specs.Blocks.{coded_block}
use Rattle.tsm_file.specs.Written.{block_bytes}
use Rattle.tsm_file.proofs.framed.frame_block.Goals as goal

pub returns : goal.returns
unfolding block_bytes
returns c = λ kind alike.
    let block : c.in_ok-block.block.items ≡ coded_block kind c.args.points.now = c.in_ok-block.ensures.ok kind alike in
    let sum : c.crc32.result ≡ crc32_of (coded_block kind c.args.points.now) = c.crc32.ensures ∙ ap crc32_of (c.deref.ensures.value ∙ block) in
    c.in_ok-extend_from_slice.ensures.items
    ∙ ap (λ (l : List ℕ). l ++ c.deref-2.result.now) (c.in_ok-put_u32.ensures.ok ∙ ap (λ (l : List ℕ). l ++ bytes_of_u32 c.crc32.result) c.clear.ensures.items ∙ ap bytes_of_u32 sum)
    ∙ ap (λ (l : List ℕ). bytes_of_u32 (crc32_of (coded_block kind c.args.points.now)) ++ l) (c.deref-2.ensures.value ∙ block)
