use Rattle.std.proofs.Common.{◌≡◌, ◌<◌, length, refl, arith}
use Rattle.std.specs.Prelude.{IsTrue}
use Rattle.tsm_file.proofs.WrittenLemmas.{held_most}
use Rattle.tsm_file.proofs.WritingLemmas.{goes_full, goes_on}
use Rattle.tsm_file.proofs.writer.TsmWriter.add.Goals as goal

pub returns-then-len-lt-BLOCK_POINTS-clause-goes_on : goal.returns-then-len-lt-BLOCK_POINTS-clause-goes_on
returns-then-len-lt-BLOCK_POINTS-clause-goes_on g c = λ pushed holds.
    let few : length c.args.self.now.points.items < 1000 = omega (arith, c.if-len-lt-BLOCK_POINTS.true, c.len.ensures, c.args.self.now.points.ok.0) in
    goes_on (IsTrue g.W.Writer.tells) (g.W.Writer.content c.args.self.now.device) c.args.self.now _ pushed c.args.time c.args.value
    holds c.requires.may few c.kind_in.ensures.moment c.kind_in.ensures.range refl refl refl refl c.in_ok-push.ensures.items refl refl

pub returns-clause-goes_on : goal.returns-clause-goes_on
returns-clause-goes_on g c = λ pushed holds.
    let most = held_most c.args.self.now.kind c.args.self.now.points.items holds.begun.left_are in
    let full : length c.args.self.now.points.items ≡ 1000 = omega (arith, most, c.if-len-lt-BLOCK_POINTS.false, c.len.ensures, c.args.self.now.points.ok.0) in
    goes_full (IsTrue g.W.Writer.tells) g.W.Writer.content c.args.self.now c.end_block.new.self _ pushed c.args.time c.args.value
    holds c.requires.may full c.kind_in.ensures.moment c.kind_in.ensures.range c.in_ok-end_block.ensures.ends refl refl refl refl c.in_ok-push-2.ensures.items refl refl
