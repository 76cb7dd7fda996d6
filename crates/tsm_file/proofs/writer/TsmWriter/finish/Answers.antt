use Rattle.std.proofs.Common.{List, refl, sym, subst}
use Rattle.std.specs.Prelude.{IsTrue}
use Rattle.tsm_file.specs.Written.{KeyedPoint}
use Rattle.tsm_file.specs.Writing.{Holds, IsOutput}
use Rattle.tsm_file.proofs.ReadBack.{read_back}
use Rattle.tsm_file.proofs.WritingLemmas.{output, pushed_is_open}
use Rattle.tsm_file.proofs.writer.TsmWriter.finish.Goals as goal

pub into_facts-requires-after_bounds : goal.into_facts-requires-after_bounds
into_facts-requires-after_bounds g c κs within =
    let held = c.requires.1 in
    let holds = pushed_is_open (IsTrue g.W.Writer.tells) (g.W.Writer.content c.args.self.device) c.args.self c.requires.0 c.requires.0 c.requires.2 held.points held.points in
    let ended = c.in-Ok.ensures.ends c.requires.0 holds in
    record { some = ended.index.some; good = ended.index.good; ends = refl }

is_output : (g : _) (c : goal.After-into_facts g) (pushed : List KeyedPoint) → Holds (IsTrue g.W.Writer.tells) g.W.Writer.content g.W.Writer.stage c.args.self pushed → IsOutput (IsTrue g.W.Writer.tells) (g.W.Writer.content c.into_facts.result.0) c.into_facts.result.1 pushed
is_output g c pushed held =
    let before = c.requires.1 in
    let holds = pushed_is_open (IsTrue g.W.Writer.tells) (g.W.Writer.content c.args.self.device) c.args.self c.requires.0 pushed c.requires.2 before.points held.points in
    let facts = c.into_facts.result.1 in
    subst (λ (d : g.row.W.Denot). IsOutput (IsTrue g.W.Writer.tells) (g.W.Writer.content d) facts pushed) (sym c.into_facts.ensures.device)
    (output (IsTrue g.W.Writer.tells) (g.W.Writer.content c.end_file.new.self.device) c.end_file.new.self facts pushed (c.in-Ok.ensures.ends pushed holds)
    c.into_facts.ensures.points c.into_facts.ensures.most_entries c.into_facts.ensures.index)

pub returns-in-Ok-clause-ok : goal.returns-in-Ok-clause-ok
returns-in-Ok-clause-ok g c = λ pushed held. is_output g c pushed held

pub returns-in-Ok-clause-read_back : goal.returns-in-Ok-clause-read_back
returns-in-Ok-clause-read_back g c = λ pushed held. read_back (IsTrue g.W.Writer.tells) (g.W.Writer.content c.into_facts.result.0) c.into_facts.result.1 pushed (is_output g c pushed held)
