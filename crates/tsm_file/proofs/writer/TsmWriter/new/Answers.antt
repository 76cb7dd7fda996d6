use Rattle.std.proofs.Common.{◌≡◌, ◌++◌, List, ℕ, refl, ap, ◌∙◌, inl}
use Rattle.std.specs.Prelude.{IsTrue}
use Rattle.shard_disk.specs.Stage.{Stage, Open, Refused}
use Rattle.tsm_format.specs.Frame.{header}
use Rattle.tsm_file.proofs.WritingLemmas.{starts}
use Rattle.tsm_file.proofs.writer.TsmWriter.new.Goals as goal

apart : (stage : Stage) → stage ≡ Open → stage ≡ Refused → ⊥
apart stage holds refused = cc

pub returns-in-Ok-clause-ok : goal.returns-in-Ok-clause-ok
returns-in-Ok-clause-ok g c = record {
  usable = apart (g.W.Writer.stage c.append.new.self) c.in-Ok.ensures.open;
  points = inl (starts (IsTrue g.W.Writer.tells) (g.W.Writer.content c.append.new.self) _ c.new.ensures.items c.new-in-Ok-3.ensures.items refl refl
      (λ told. c.in-Ok.ensures.appended told ∙ ap (λ (l : List ℕ). l ++ header) (c.requires.empty told)));
}
