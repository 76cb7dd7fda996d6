use Rattle.std.proofs.Common.{◌≡◌, ◌<◌, ◌^◌, ◌++◌, ℕ, List, length, drop, sym, ap, ◌∙◌, arith, rules, FitsSigned, w64, to_z, of_z}
use Rattle.std.proofs.lemmas.List.{take-append-drop, length-append}
use Rattle.std.proofs.lemmas.Int.{to_z-of_z}
use Rattle.fixed_width.specs.Fields.{bytes_of_u32, bytes_of_i64}
use Rattle.fixed_width.proofs.Fronts.{length-i64}
use Rattle.tombstones.proofs.FormatLemmas.{if_none, too_short, cut_short, whole_tomb}
use Rattle.tombstones.proofs.raw.take_tomb.Goals as goal

pub returns-in_err-len-clause-cut : goal.returns-in_err-len-clause-cut
returns-in_err-len-clause-cut c = if_none c.from_residual.result (too_short c.args.bytes.now (omega (arith, c.in_err-len.ensures.cut)))

pub returns-then-rest-len-clause-cut : goal.returns-then-rest-len-clause-cut
returns-then-rest-len-clause-cut c =
    let fits : c.in_ok-len.len < 2 ^ 32 = search rules in
    cut_short c.args.bytes.now c.in_ok-len.rest.now c.in_ok-len.len fits c.in_ok-len.ensures.found (omega arith)

pub returns-in_err-from-clause-cut : goal.returns-in_err-from-clause-cut
returns-in_err-from-clause-cut c =
    let fits : c.in_ok-len.len < 2 ^ 32 = search rules in
    let short = c.in_err-from.ensures.cut in
    let back = c.split_at.ensures.back_len in
    if_none c.from_residual-in_err-from.result (cut_short c.args.bytes.now c.in_ok-len.rest.now c.in_ok-len.len fits c.in_ok-len.ensures.found (omega arith))

pub returns-in_err-to-clause-cut : goal.returns-in_err-to-clause-cut
returns-in_err-to-clause-cut c =
    let fits : c.in_ok-len.len < 2 ^ 32 = search rules in
    let short = c.in_err-to.ensures.cut in
    let back = c.split_at.ensures.back_len in
    let from = ap length c.in_ok-from.ensures.found ∙ length-append (bytes_of_i64 c.in_ok-from.from) c.in_ok-from.rest.now in
    let eight = length-i64 c.in_ok-from.from in
    if_none c.from_residual-in_err-to.result (cut_short c.args.bytes.now c.in_ok-len.rest.now c.in_ok-len.len fits c.in_ok-len.ensures.found (omega arith))

pub returns-clause-found : goal.returns-clause-found
returns-clause-found c =
    let key : List ℕ = c.split_at.result.0.now in
    let len : length c.split_at.result.0.now ≡ c.in_ok-len.len = c.split_at.ensures.front_len in
    let split : c.in_ok-len.rest.now ≡ c.split_at.result.0.now ++ c.split_at.result.1.now =
    sym (take-append-drop c.in_ok-len.len c.in_ok-len.rest.now) ∙ ap (λ (l : List ℕ). l ++ drop c.in_ok-len.len c.in_ok-len.rest.now) (sym c.split_at.ensures.front)
    ∙ ap (λ (l : List ℕ). c.split_at.result.0.now ++ l) (sym c.split_at.ensures.back) in
    let fits : FitsSigned w64 c.in_ok-from.from = search rules in
    let fits' : FitsSigned w64 c.in_ok-to.to = search rules in
    let from : bytes_of_i64 c.in_ok-from.from ≡ bytes_of_i64 (to_z w64 (of_z w64 c.in_ok-from.from)) = ap bytes_of_i64 (sym (to_z-of_z w64 c.in_ok-from.from fits)) in
    let to : bytes_of_i64 c.in_ok-to.to ≡ bytes_of_i64 (to_z w64 (of_z w64 c.in_ok-to.to)) = ap bytes_of_i64 (sym (to_z-of_z w64 c.in_ok-to.to fits')) in
    whole_tomb (record { key = c.split_at.result.0.now; range = record { from = to_z w64 (of_z w64 c.in_ok-from.from); to = to_z w64 (of_z w64 c.in_ok-to.to) } })
    c.args.bytes.now c.in_ok-len.rest.now c.split_at.result.1.now c.in_ok-from.rest.now c.in_ok-to.behind.now
    (c.in_ok-len.ensures.found ∙ ap (λ (n : ℕ). bytes_of_u32 n ++ c.in_ok-len.rest.now) (sym len)) split
    (c.in_ok-from.ensures.found ∙ ap (λ (l : List ℕ). l ++ c.in_ok-from.rest.now) from) (c.in_ok-to.ensures.found ∙ ap (λ (l : List ℕ). l ++ c.in_ok-to.behind.now) to)
