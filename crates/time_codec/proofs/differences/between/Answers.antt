use Rattle.std.proofs.Common.{◌≡◌, ◌++◌, ℕ, List, length, take, drop, ap, sym, ◌∙◌, arith, rules}
use Rattle.std.proofs.lemmas.List.{append-nil, drop_all, take_all}
use Rattle.time_codec.proofs.TimesLemmas.{length-differences}
use Rattle.time_codec.proofs.differences.between.Goals as goal

-- a list that was written over one of its length
written_over : (len : ℕ) (new old : List ℕ) → len ≡ length old → length new ≡ length old → take len (new ++ drop (length new) old) ≡ new
written_over len new old len_is same =
    ap (λ (back : List ℕ). take len (new ++ back)) (drop_all (length new) old (omega (arith, same)))
    ∙ ap (take len) (append-nil new)
    ∙ take_all len new (omega (arith, same, len_is))

pub returns : goal.returns
returns c =
    let size : length c.in_ok-found.found.items ≡ length c.args.later.now = search rules in
    let same = ap length c.tell_apart.ensures ∙ length-differences c.args.first c.args.later.now ∙ sym size in
    written_over c.in_ok-found.found.len c.tell_apart.new.found c.in_ok-found.found.items c.in_ok-found.found.ok.0 same ∙ c.tell_apart.ensures
