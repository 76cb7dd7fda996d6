use Rattle.std.proofs.Common.{◌≡◌, ◌+◌, ◌∷◌, ◌++◌, [], List, ℕ, length, subst, sym, ap, ◌∙◌, refl, arith}
use Rattle.value_codec.specs.Coding.{AreOf}
use Rattle.block_codec.specs.Blocks.{values_of}
use Rattle.point_model.specs.Rows.{Row}
use Rattle.tsm_format.specs.declared.entry.Entry.{Entry}
use Rattle.tsm_file.specs.ReadBlocks.{last_time}
use Rattle.tsm_file.specs.Written.{block_bytes, first_time, entry_of}
use Rattle.tsm_file.proofs.WrittenLemmas.{entry_is}
use Rattle.tsm_file.proofs.writer.TsmWriter.end_block.Goals as goal

pub frame_block-requires-clause-one_kind : goal.frame_block-requires-clause-one_kind
frame_block-requires-clause-one_kind g c = (c.args.self.now.kind, subst (λ (l : List Row). AreOf c.args.self.now.kind (values_of l)) (sym c.deref.ensures.value) c.requires.held.are_points.alike)

entry_same : (points points' : List Row) (offset size size' : ℕ) → points ≡ points' → size ≡ size'
    → ◌≡◌ {A = Entry} (record { min = first_time points; max = last_time (first_time points) points; offset = offset; size = size }) (record { min = first_time points'; max = last_time (first_time points') points'; offset = offset; size = size' })
entry_same points points' offset size size' a b = λ i. record { min = first_time (a i); max = last_time (first_time (a i)) (a i); offset = offset; size = b i }

pub returns-clause-ends : goal.returns-clause-ends
returns-clause-ends g c =
    let self = c.args.self.now in
    let points = self.points.items in
    let kind = self.kind in
    let alike : AreOf kind (values_of c.deref.result.now) = subst (λ (l : List Row). AreOf kind (values_of l)) (sym c.deref.ensures.value) c.requires.held.are_points.alike in
    let framed : c.frame_block.new.buffer.items ≡ block_bytes kind points = c.in_ok-frame_block.ensures kind alike ∙ ap (block_bytes kind) c.deref.ensures.value in
    let size : c.in-Some.size ≡ length (block_bytes kind points) = c.in-Some.ensures.is.0 ∙ c.len.ensures ∙ c.frame_block.new.buffer.ok.0 ∙ ap length framed in
    let end = c.in-Some.ensures.is.1 in
    let fits = c.in-Some.ensures.fits in
    let entry : c.entry_at-entry.result ≡ entry_of kind self.end points = c.entry_at-entry.ensures ∙ entry_same c.deref-2.result.now points self.end c.in-Some.size (length (block_bytes kind points)) c.deref-2.ensures.value size in
    record {
      fits = entry_is kind self.end points c.requires.held (omega (arith, fits.1, end)) (omega (arith, fits.0, size));
      entries = c.in_ok-push.ensures.items ∙ ap (λ (e : Entry). self.entries.items ++ (e ∷ [])) entry;
      end = end ∙ ap (λ (n : ℕ). self.end + n) (sym c.in-Some.ensures.is.0 ∙ size);
      count = c.in-Some-checked_add.ensures.1 ∙ ap (λ (n : ℕ). self.count + n) (c.len-2.ensures ∙ self.points.ok.0);
      left = c.clear.ensures.items;
      rows = refl;
      key = refl;
      kind = refl;
      bytes = λ told. c.in_ok-append.ensures.appended told ∙ ap (λ (l : List ℕ). g.W.Writer.content self.device ++ l) (c.deref-3.ensures.value ∙ framed);
    }
