use Rattle.std.proofs.Common.{◌≡◌, ◌<◌, ◌^◌, ◌++◌, length, rules, arith}
use Rattle.index_file.specs.Format.{head}
use Rattle.index_file.proofs.ReadLemmas.{parts_framed, front_cut}
use Rattle.index_file.proofs.frame.framed.Goals as goal

pub returns-clause-found : goal.returns-clause-found
returns-clause-found c =
    let behind : c.args.bytes.now ≡ head ++ c.in_ok-behind.behind.now = search rules in
    let cut : c.in_ok-behind.behind.now ≡ c.split_at-2.result.0.now ++ c.split_at-2.result.1.now = search rules in
    let count : c.in_ok-count.count < 2 ^ 32 = search rules in
    let stored : c.in_ok-stored.stored < 2 ^ 32 = search rules in
    let four : length c.split_at-2.result.1.now ≡ 4 = omega (arith, c.split_at-2.ensures.back_len, c.if-behind-lt8.false) in
    parts_framed c.args.bytes.now c.in_ok-behind.behind.now c.split_at-2.result.0.now c.split_at-2.result.1.now c.in_ok-count.body.now c.in_ok-stored._end.now c.in_ok-count.count c.in_ok-stored.stored
    count stored behind cut c.in_ok-count.ensures.found c.in_ok-stored.ensures.found four

pub returns-clause-front : goal.returns-clause-front
returns-clause-front c =
    front_cut c.args.bytes.now c.split_at.result.0.now c.in_ok-count.count c.in_ok-count.body.now c.in_ok-stored.stored (returns-clause-found c) c.split_at.ensures.front
