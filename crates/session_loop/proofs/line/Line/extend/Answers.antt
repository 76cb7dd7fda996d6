-- What there is room for is kept, and the whole is known.
use Rattle.std.proofs.Common.{◌≡◌, ◌≤◌, ◌-◌, ℕ, min, List, ◌++◌, length, take, sym, ap, ◌∙◌, arith, true, Bool, if◌then◌else◌, is_ok, vec_len, vec_capacity}
use Rattle.std.proofs.lemmas.List.{length-take}
use Rattle.session_loop.specs.declared.shape.Shape.{Shape}
use Rattle.session_loop.specs.Shapes.{shape_behind}
use Rattle.session_loop.specs.LineAsItComes.{most_kept}
use Rattle.session_loop.proofs.KeepingLemmas.{kept_extended, shape_extended}
use Rattle.session_loop.proofs.line.Line.extend.Goals as goal

pub returns : goal.returns
unfolding most_kept
returns c = λ text held.
    let kept : List ℕ = c.args.self.now.kept.items in
    let bytes : List ℕ = c.args.bytes.now in
    let room : 65538 ≤ vec_capacity c.args.self.now.kept = c.args.self.now.room in
    let len : vec_len c.args.self.now.kept ≡ length kept = c.args.self.now.kept.ok.0 in
    let free : c.saturating_sub-room.result ≡ 65538 - length kept = omega (arith, c.saturating_sub-room.ensures, c.len.ensures) in
    let count : c.min.result ≡ min (65538 - length kept) (length bytes) = c.min.ensures ∙ ap (λ (n : ℕ). min n (length bytes)) free in
    let front : c.front.result.now ≡ take (min (65538 - length kept) (length bytes)) bytes = c.front.ensures ∙ ap (λ (n : ℕ). take n bytes) count in
    let front_len : length c.front.result.now ≡ min (min (65538 - length kept) (length bytes)) (length bytes) = ap length front ∙ length-take (min (65538 - length kept) (length bytes)) bytes in
    let short : length kept ≤ 65538 = (let taken = length-take 65538 text in let same = ap length held.kept in omega (arith, taken, same)) in
    let ok : is_ok c.extend_from_slice.result ≡ true = c.extend_from_slice.ensures.succeeds (omega arith) in
    record {
      kept = c.extend_from_slice.ensures.items ∙ ap (λ (t : Bool). if t then kept ++ c.front.result.now else kept) ok
          ∙ ap (λ (l : List ℕ). kept ++ l) front ∙ kept_extended 65538 text kept bytes held.kept;
      shape = c.shape_behind-self.ensures ∙ ap (λ (s : Shape). shape_behind s bytes) held.shape ∙ sym (shape_extended text bytes);
    }
