use Rattle.std.proofs.Common.{◌+◌, ◌%◌, refl}
use Rattle.word_codec.proofs.UvarintLemmas.{kept_all, kept_more, group_more, group_last}
use Rattle.word_codec.proofs.uvarint.append.Goals as goal

pub loop-rest-init : goal.loop-rest-init
loop-rest-init c = record { spelled = refl; kept = kept_all c.args.out.now.items }

pub loop-rest-preserved : goal.loop-rest-preserved
loop-rest-preserved c =
    let at = c.loop-rest in
    let new = c.push.new.self.items in
    let byte = at.rest % 128 + 128 in
    record {
      spelled = group_more at.out.items new _ at.rest byte c.loop-rest-test.true refl c.in_ok-push.ensures.items at.invariant.spelled;
      kept = kept_more c.args.out.now.items at.out.items new byte c.in_ok-push.ensures.items at.invariant.kept;
    }

pub returns-clause-ok : goal.returns-clause-ok
returns-clause-ok c =
    group_last c.loop-rest.out.items c.push-2.new.self.items _ c.loop-rest.rest c.loop-rest-test.false c.in_ok-push-2.ensures.items c.loop-rest.invariant.spelled
