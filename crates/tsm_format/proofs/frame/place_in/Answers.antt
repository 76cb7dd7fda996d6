use Rattle.std.proofs.Common.{◌<◌, ◌^◌, arith, rules}
use Rattle.tsm_format.proofs.FormatLemmas.{whole_foot, other_foot}
use Rattle.tsm_format.proofs.frame.place_in.Goals as goal
use Rattle.tsm_format.proofs.frame.place_in.Goals.{then-place-lt5-via-then-place-lt5, then-place-lt5-via-else-place-lt5+then-place-len}

pub returns-in_err-place-clause-none : goal.returns-in_err-place-clause-none
returns-in_err-place-clause-none c = let cut = c.in_err-place.ensures.cut in let long = c.requires.foot in absurd (omega arith)

pub returns-then-place-lt5-clause-none : goal.returns-then-place-lt5-clause-none
returns-then-place-lt5-clause-none c place fits is =
    let own : c.in_ok-place.place < 2 ^ 64 = search rules in
    let same = other_foot c.args.foot.now c.in_ok-place.field-0-1.now c.in_ok-place.place place own fits c.in_ok-place.ensures.found is.written in
    let low = is.from in
    let high = is.to in
    elim c.then-place-lt5.branch [ then-place-lt5-via-then-place-lt5 w ↦ omega arith | then-place-lt5-via-else-place-lt5+then-place-len w ↦ omega arith ]

pub returns-clause-found : goal.returns-clause-found
returns-clause-found c =
    let long = c.requires.long in
    record {
      written = whole_foot c.args.foot.now c.in_ok-place.field-0-1.now c.in_ok-place.place c.requires.foot c.in_ok-place.ensures.found;
      from = c.if-place-lt5.false;
      to = omega arith;
    }
