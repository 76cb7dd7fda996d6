use Rattle.std.proofs.Common.{◌≡◌, ℕ, List, ◌++◌, length, sym, ap, ◌∙◌, arith, rules, FitsSigned, w64, to_z, of_z}
use Rattle.std.proofs.lemmas.Int.{to_z-of_z}
use Rattle.std.proofs.lemmas.List.{length-append}
use Rattle.fixed_width.specs.Fields.{bytes_of_i64, bytes_of_u64, bytes_of_u32}
use Rattle.fixed_width.proofs.Fronts.{length-i64, length-u64}
use Rattle.tsm_format.specs.Format.{entry_bytes}
use Rattle.tsm_format.proofs.FormatLemmas.{if_none, take_all}
use Rattle.tsm_format.proofs.take.take_raw.Goals as goal

pub returns-in_err-max-clause-cut : goal.returns-in_err-max-clause-cut
returns-in_err-max-clause-cut c =
    let a = ap length c.in_ok-min.ensures.found ∙ length-append (bytes_of_i64 c.in_ok-min.min) c.in_ok-min.rest.now in
    let b = length-i64 c.in_ok-min.min in
    let cut = c.in_err-max.ensures.cut in
    if_none c.from_residual-in_err-max.result (omega arith)

pub returns-in_err-offset-clause-cut : goal.returns-in_err-offset-clause-cut
returns-in_err-offset-clause-cut c =
    let a = ap length c.in_ok-min.ensures.found ∙ length-append (bytes_of_i64 c.in_ok-min.min) c.in_ok-min.rest.now in
    let b = length-i64 c.in_ok-min.min in
    let d = ap length c.in_ok-max.ensures.found ∙ length-append (bytes_of_i64 c.in_ok-max.max) c.in_ok-max.rest.now in
    let e = length-i64 c.in_ok-max.max in
    let cut = c.in_err-offset.ensures.cut in
    if_none c.from_residual-in_err-offset.result (omega arith)

pub returns-in_err-size-clause-cut : goal.returns-in_err-size-clause-cut
returns-in_err-size-clause-cut c =
    let a = ap length c.in_ok-min.ensures.found ∙ length-append (bytes_of_i64 c.in_ok-min.min) c.in_ok-min.rest.now in
    let b = length-i64 c.in_ok-min.min in
    let d = ap length c.in_ok-max.ensures.found ∙ length-append (bytes_of_i64 c.in_ok-max.max) c.in_ok-max.rest.now in
    let e = length-i64 c.in_ok-max.max in
    let f = ap length c.in_ok-offset.ensures.found ∙ length-append (bytes_of_u64 c.in_ok-offset.offset) c.in_ok-offset.rest.now in
    let g = length-u64 c.in_ok-offset.offset in
    let cut = c.in_err-size.ensures.cut in
    if_none c.from_residual-in_err-size.result (omega arith)

pub returns-clause-found : goal.returns-clause-found
unfolding entry_bytes
returns-clause-found c =
    let fits : FitsSigned w64 c.in_ok-min.min = search rules in
    let fits' : FitsSigned w64 c.in_ok-max.max = search rules in
    let min : bytes_of_i64 c.in_ok-min.min ≡ bytes_of_i64 (to_z w64 (of_z w64 c.in_ok-min.min)) = ap bytes_of_i64 (sym (to_z-of_z w64 c.in_ok-min.min fits)) in
    let max : bytes_of_i64 c.in_ok-max.max ≡ bytes_of_i64 (to_z w64 (of_z w64 c.in_ok-max.max)) = ap bytes_of_i64 (sym (to_z-of_z w64 c.in_ok-max.max fits')) in
    take_all c.args.bytes.now (bytes_of_i64 (to_z w64 (of_z w64 c.in_ok-min.min))) (bytes_of_i64 (to_z w64 (of_z w64 c.in_ok-max.max))) (bytes_of_u64 c.in_ok-offset.offset) (bytes_of_u32 c.in_ok-size.size)
    c.in_ok-min.rest.now c.in_ok-max.rest.now c.in_ok-offset.rest.now c.in_ok-size.behind.now
    (c.in_ok-min.ensures.found ∙ ap (λ (l : List ℕ). l ++ c.in_ok-min.rest.now) min) (c.in_ok-max.ensures.found ∙ ap (λ (l : List ℕ). l ++ c.in_ok-max.rest.now) max)
    c.in_ok-offset.ensures.found c.in_ok-size.ensures.found
