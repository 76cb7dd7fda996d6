use Rattle.std.proofs.Common.{◌≡◌, ℕ, ◌<◌, ◌^◌, List, [], ◌∷◌, ◌++◌, length, sym, ap, ◌∙◌, arith, rules, get_or}
use Rattle.fixed_width.specs.Fields.{bytes_of_u16}
use Rattle.tsm_format.specs.Format.{byte_of, head_bytes}
use Rattle.tsm_format.proofs.FormatLemmas.{if_none, take_all, no_head_short, no_head_cut, no_head_kind, split_of, one_of}
use Rattle.tsm_format.proofs.head.take_head.Goals as goal

pub returns-in_err-len-clause-none : goal.returns-in_err-len-clause-none
returns-in_err-len-clause-none c = let cut = c.in_err-len.ensures.cut in if_none c.from_residual.result (no_head_short c.args.bytes.now (omega arith))

pub returns-then-rest-len-clause-none : goal.returns-then-rest-len-clause-none
returns-then-rest-len-clause-none c =
    let fits : c.in_ok-len.len < 2 ^ 16 = search rules in
    no_head_cut c.args.bytes.now c.in_ok-len.rest.now c.in_ok-len.len fits c.in_ok-len.ensures.found (omega arith)

pub returns-in_err-kind-clause-none : goal.returns-in_err-kind-clause-none
returns-in_err-kind-clause-none c =
    let fits : c.in_ok-len.len < 2 ^ 16 = search rules in
    let key : List ℕ = c.split_at.result.0.now in
    let tail : List ℕ = c.split_at-2.result.1.now in
    let len : length c.split_at.result.0.now ≡ c.in_ok-len.len = c.split_at.ensures.front_len in
    let first : c.in_ok-len.rest.now ≡ c.split_at.result.0.now ++ c.split_at.result.1.now = split_of c.in_ok-len.rest.now c.split_at.result.0.now c.split_at.result.1.now c.in_ok-len.len c.split_at.ensures.front c.split_at.ensures.back in
    let second : c.split_at.result.1.now ≡ c.split_at-2.result.0.now ++ c.split_at-2.result.1.now = split_of c.split_at.result.1.now c.split_at-2.result.0.now c.split_at-2.result.1.now 1 c.split_at-2.ensures.front c.split_at-2.ensures.back in
    let byte : c.split_at-2.result.0.now ≡ get_or c.split_at-2.result.0.now 0 0 ∷ [] = one_of c.split_at-2.result.0.now c.split_at-2.ensures.front_len in
    let third : c.split_at.result.1.now ≡ get_or c.split_at-2.result.0.now 0 0 ∷ c.split_at-2.result.1.now = second ∙ ap (λ (l : List ℕ). l ++ c.split_at-2.result.1.now) byte in
    if_none c.from_residual-in_err-kind.result (no_head_kind c.args.bytes.now c.in_ok-len.rest.now c.split_at.result.0.now c.split_at-2.result.1.now c.in_ok-len.len (get_or c.split_at-2.result.0.now 0 0)
    fits c.in_ok-len.ensures.found (first ∙ ap (λ (l : List ℕ). c.split_at.result.0.now ++ l) third) len c.in_err-kind.ensures.none)

pub returns-clause-found : goal.returns-clause-found
unfolding head_bytes
returns-clause-found c =
    let fits : c.in_ok-len.len < 2 ^ 16 = search rules in
    let key : List ℕ = c.split_at.result.0.now in
    let tail : List ℕ = c.split_at-2.result.1.now in
    let len : length c.split_at.result.0.now ≡ c.in_ok-len.len = c.split_at.ensures.front_len in
    let first : c.in_ok-len.rest.now ≡ c.split_at.result.0.now ++ c.split_at.result.1.now = split_of c.in_ok-len.rest.now c.split_at.result.0.now c.split_at.result.1.now c.in_ok-len.len c.split_at.ensures.front c.split_at.ensures.back in
    let second : c.split_at.result.1.now ≡ c.split_at-2.result.0.now ++ c.split_at-2.result.1.now = split_of c.split_at.result.1.now c.split_at-2.result.0.now c.split_at-2.result.1.now 1 c.split_at-2.ensures.front c.split_at-2.ensures.back in
    let byte : c.split_at-2.result.0.now ≡ get_or c.split_at-2.result.0.now 0 0 ∷ [] = one_of c.split_at-2.result.0.now c.split_at-2.ensures.front_len in
    let third : c.split_at.result.1.now ≡ get_or c.split_at-2.result.0.now 0 0 ∷ c.split_at-2.result.1.now = second ∙ ap (λ (l : List ℕ). l ++ c.split_at-2.result.1.now) byte in
    take_all c.args.bytes.now (bytes_of_u16 (length c.split_at.result.0.now)) c.split_at.result.0.now (byte_of c.in_ok-kind.kind ∷ []) (bytes_of_u16 c.in_ok-count.count)
    c.in_ok-len.rest.now c.split_at.result.1.now c.split_at-2.result.1.now c.in_ok-count.behind.now
    (c.in_ok-len.ensures.found ∙ ap (λ (n : ℕ). bytes_of_u16 n ++ c.in_ok-len.rest.now) (sym len)) first
    (third ∙ ap (λ (b : ℕ). b ∷ c.split_at-2.result.1.now) (sym c.in_ok-kind.ensures.found)) c.in_ok-count.ensures.found
