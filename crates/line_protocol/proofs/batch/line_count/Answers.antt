use Rattle.std.proofs.Common.{◌≡◌, ℕ, ◌+◌, Bool, cond, List, length, sym, ap, ◌∙◌, arith}
use Rattle.std.specs.List.{count_by}
use Rattle.memchr.specs.Find.{is_byte}
use Rattle.memchr.proofs.lemmas.CallerLemmas.{length-places}
use Rattle.line_protocol.proofs.batch.line_count.Goals as goal

pub returns-then-is_open : goal.returns-then-is_open
returns-then-is_open c =
    let bytes = c.args.bytes.now in
    let counted = c.count-ended.ensures ∙ ap (λ (ps : List ℕ). length ps) c.memchr_iter.ensures.value ∙ length-places (is_byte 10) bytes in
    ap (λ (n : ℕ). n + 1) counted ∙ ap (λ (b : Bool). count_by (is_byte 10) bytes + cond b 1 0) (sym (sym c.is_open.ensures ∙ c.if-is_open.true))

pub returns : goal.returns
returns c =
    let bytes = c.args.bytes.now in
    let counted = c.count-ended.ensures ∙ ap (λ (ps : List ℕ). length ps) c.memchr_iter.ensures.value ∙ length-places (is_byte 10) bytes in
    let none : count_by (is_byte 10) bytes ≡ count_by (is_byte 10) bytes + 0 = omega arith in
    counted ∙ none ∙ ap (λ (b : Bool). count_by (is_byte 10) bytes + cond b 1 0) (sym (sym c.is_open.ensures ∙ c.if-is_open.false))
