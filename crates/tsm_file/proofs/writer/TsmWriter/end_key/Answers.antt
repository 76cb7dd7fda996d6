use Rattle.std.proofs.Common.{ℕ, refl, ap, ◌∙◌}
use Rattle.std.specs.Prelude.{IsTrue}
use Rattle.std.specs.declared.vec.Vec.{Vec}
use Rattle.std.specs.declared.alloc.Global.{Global}
use Rattle.tsm_format.specs.declared.entry.Entry.{Entry}
use Rattle.tsm_file.proofs.WritingLemmas.{closes, last_closed}
use Rattle.tsm_file.proofs.writer.TsmWriter.end_key.Goals as goal

pub returns-clause-closes : goal.returns-clause-closes
returns-clause-closes g c = λ pushed holds.
    closes (IsTrue g.W.Writer.tells) g.W.Writer.content c.args.self.now c.end_block.new.self _ (record { key = c.new-3.result; kind = c.end_block.new.self.kind; entries = c.new-4.result }) pushed
    holds c.in_ok-end_block.ensures.ends c.in_ok-push.ensures.items
    (c.new-3.ensures ∙ ap (λ (v : Vec ℕ Global). v.items) c.replace-key.ensures.value) refl
    (c.new-4.ensures ∙ ap (λ (v : Vec Entry Global). v.items) c.replace-entries.ensures.value) refl refl refl

pub returns-clause-last : goal.returns-clause-last
returns-clause-last g c =
    last_closed c.push.new.self.items c.end_block.new.self.rows.items (record { key = c.new-3.result; kind = c.end_block.new.self.kind; entries = c.new-4.result }) c.args.self.now.key.items
    c.in_ok-push.ensures.items
    (c.new-3.ensures ∙ ap (λ (v : Vec ℕ Global). v.items) c.replace-key.ensures.value ∙ c.in_ok-end_block.ensures.ends.key)
