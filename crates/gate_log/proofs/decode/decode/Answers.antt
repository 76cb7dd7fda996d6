use Rattle.std.proofs.Common.{◌≡◌, ◌∷◌, ◌++◌, drop, rules, arith, length-drop}
use Rattle.gate_log.specs.Records.{framed}
use Rattle.gate_log.proofs.Decoding.{fit_more, one_more, sizes, taken_whole}
use Rattle.gate_log.proofs.decode.decode.Goals as goal

pub loop-rest-preserved : goal.loop-rest-preserved
loop-rest-preserved c =
    let rest = c.loop-rest.rest.now in
    let body = c.in-Ok.found.0.now in
    let after = c.in-Ok.found.1.now in
    let copied : c.in_ok-to_vec.field-0.items ≡ body = search rules in
    let gate : rest ≡ 1 ∷ drop 1 rest = search rules in
    let found : drop 1 rest ≡ framed body ++ after = taken_whole _ (drop 1 rest) _ c.in-Ok.ensures.found (omega (arith, length-drop 1 rest)) in
    let read = one_more c.loop-rest.records.items c.push.new.self.items c.in_ok-to_vec.field-0 c.args.bytes.now rest (drop 1 rest) after body c.loop-rest.invariant.read gate found c.in_ok-push.ensures.items copied in
    record { fit = fit_more c.loop-rest.records.items c.push.new.self.items c.in_ok-to_vec.field-0 body c.in_ok-push.ensures.items copied c.loop-rest.invariant.fit c.in-Ok.ensures.fits; read = read; size = sizes c.loop-rest.records.items c.push.new.self.items c.in_ok-to_vec.field-0 c.args.bytes.now rest (drop 1 rest) after body read }
