use Rattle.std.proofs.Common.{◌≡◌, ◌+◌, ◌-◌, ◌∷◌, ℕ, length, replicate, ap, sym, subst, ◌∙◌, arith, rules}
use Rattle.std.proofs.lemmas.List.{length-replicate}
use Rattle.time_codec.specs.Reading.{Lead, times_behind}
use Rattle.time_codec.proofs.FollowingLemmas.{written_back}
use Rattle.time_codec.proofs.following.late_times.Goals as goal

pub follow_evenly-requires-clause-on : goal.follow_evenly-requires-clause-on
follow_evenly-requires-clause-on c =
    let size : length c.as_mut_slice.result.now ≡ c.args.later + 1 = search rules in
    let less : c.args.later ≡ length c.as_mut_slice.result.now - 1 = omega (arith, size) in
    subst (λ (n : ℕ). Lead c.args.first (replicate n c.args.distance)) less c.requires.on

pub returns : goal.returns
returns c =
    let gaps = replicate c.args.later c.args.distance in
    let size : length c.in_ok-times.times.items ≡ c.args.later + 1 = search rules in
    let slice : length c.as_mut_slice.result.now ≡ c.args.later + 1 = search rules in
    let less : length c.as_mut_slice.result.now - 1 ≡ c.args.later = omega (arith, slice) in
    let new = c.follow_evenly.ensures ∙ ap (λ (n : ℕ). c.args.first ∷ times_behind c.args.first (replicate n c.args.distance)) less in
    written_back c.in_ok-times.times.len c.args.first gaps c.follow_evenly.new.times c.in_ok-times.times.items (c.in_ok-times.times.ok.0)
    (size ∙ ap (λ (n : ℕ). n + 1) (sym (length-replicate c.args.later c.args.distance))) new
    ∙ new
