use Rattle.std.proofs.Common.{refl}
use Rattle.std.specs.Prelude.{IsTrue}
use Rattle.tsm_file.proofs.WritingLemmas.{opens}
use Rattle.tsm_file.proofs.writer.TsmWriter.begin.Goals as goal

pub returns-clause-opens : goal.returns-clause-opens
returns-clause-opens g c = λ pushed may closed.
    opens (IsTrue g.W.Writer.tells) (g.W.Writer.content c.args.self.now.device) c.args.self.now _ pushed (record { key = c.args.key.now; time = c.args.time; value = c.args.value })
    closed may c.kind_in-self.ensures.moment c.kind_in-self.ensures.range
    refl c.in_ok-self.ensures.items c.kind_in-self.ensures.kind c.new.ensures.items c.in_ok-push.ensures.items refl refl
