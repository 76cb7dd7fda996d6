-- The bytes copied are those that come next.
use Rattle.std.proofs.Common.{◌≡◌, ap, ◌∙◌, take, drop}
use Rattle.session_io.proofs.Pieces.{given_more, left_less}
use Rattle.session_io.proofs.mem_source.MemSourceSource.read.Goals as goal

pub returns-clause-given : goal.returns-clause-given
returns-clause-given c =
    let rest : c.split_at.result.1.now ≡ drop c.args.self.now.at c.args.self.now.bytes.items =
    c.split_at.ensures.back ∙ ap (drop c.args.self.now.at) c.deref.ensures.value in
    given_more c.args.self.now.at c.copy_front-count.result c.args.self.now.bytes.items
    (take c.copy_front-count.result c.copy_front-count.new.buffer)
    (c.copy_front-count.ensures.copied ∙ ap (take c.copy_front-count.result) rest)

pub returns-clause-left : goal.returns-clause-left
returns-clause-left c =
    let rest : c.split_at.result.1.now ≡ drop c.args.self.now.at c.args.self.now.bytes.items =
    c.split_at.ensures.back ∙ ap (drop c.args.self.now.at) c.deref.ensures.value in
    left_less c.args.self.now.at c.copy_front-count.result c.args.self.now.bytes.items
    (take c.copy_front-count.result c.copy_front-count.new.buffer)
    (c.copy_front-count.ensures.copied ∙ ap (take c.copy_front-count.result) rest)
