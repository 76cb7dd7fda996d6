use Rattle.std.proofs.Common.{◌∷◌, ◌++◌, [], List, ℕ, refl, ◌∙◌, ap}
use Rattle.shard_disk.specs.Crash.{Same}
use Rattle.shard_disk.proofs.Runs.{starts, keeps_on}
use Rattle.gate_log.proofs.Making.{nothing_yet, nothing_more, adopted, not_adopted, makes_nothing, makes_none}
use Rattle.gate_log.proofs.Results.{on_err}
use Rattle.gate_log.proofs.log.Log.make.Goals as goal

pub returns-in_err-writer-clause-crash : goal.returns-in_err-writer-clause-crash
returns-in_err-writer-clause-crash g c =
    let laws = g.met.D.Disk g.world.𝓛 g.world.𝓜 g.world.𝓡 ((λ s x. x), (λ x. x), (λ x. x), (λ x. x)) in
    λ tells. nothing_yet (g.D.Disk.handed_out c.args.disk.now).next_number (0 ∷ []) _ _ (laws.only_now c.args.disk.now) c.begin.ensures.crash

pub returns-in-Err-clause-crash : goal.returns-in-Err-clause-crash
returns-in-Err-clause-crash g c =
    let laws = g.met.D.Disk g.world.𝓛 g.world.𝓜 g.world.𝓡 ((λ s x. x), (λ x. x), (λ x. x), (λ x. x)) in
    λ tells. nothing_more (g.D.Disk.handed_out c.args.disk.now).next_number (0 ∷ []) _ _ _
    (nothing_yet (g.D.Disk.handed_out c.args.disk.now).next_number (0 ∷ []) _ _ (laws.only_now c.args.disk.now) c.begin.ensures.crash) c.drop_writer.ensures.crash

pub returns-in-Ok-clause-crash : goal.returns-in-Ok-clause-crash
returns-in-Ok-clause-crash g c =
    let laws = g.met.D.Disk g.world.𝓛 g.world.𝓜 g.world.𝓡 ((λ s x. x), (λ x. x), (λ x. x), (λ x. x)) in
    λ tells. adopted (g.D.Disk.handed_out c.args.disk.now).next_number (0 ∷ []) c.in-Ok.file
    (c.in-Ok.ensures.ok.takes.is_next ∙ ap (λ h. h.next_number) c.begin.ensures.handed_out)
    (g.D.Writer.Writer.content c.fill.new.writer) (c.in_default.ensures.content (laws.writer_tells tells) ∙ ap (λ (l : List ℕ). l ++ 0 ∷ []) c.in_ok-writer.ensures.empty) _ _ _ (laws.only_now c.args.disk.now) c.begin.ensures.crash c.in-Ok.ensures.ok.crash

pub returns-in-Err-adopt-clause-crash : goal.returns-in-Err-adopt-clause-crash
returns-in-Err-adopt-clause-crash g c =
    let laws = g.met.D.Disk g.world.𝓛 g.world.𝓜 g.world.𝓡 ((λ s x. x), (λ x. x), (λ x. x), (λ x. x)) in
    λ tells. nothing_more (g.D.Disk.handed_out c.args.disk.now).next_number (0 ∷ []) _ _ _
    (not_adopted (g.D.Disk.handed_out c.args.disk.now).next_number (0 ∷ []) (g.D.Disk.handed_out c.begin.new.self).next_number
    (ap (λ h. h.next_number) c.begin.ensures.handed_out)
    (g.D.Writer.Writer.content c.fill.new.writer) (c.in_default.ensures.content (laws.writer_tells tells) ∙ ap (λ (l : List ℕ). l ++ 0 ∷ []) c.in_ok-writer.ensures.empty) _ _ _ (laws.only_now c.args.disk.now) c.begin.ensures.crash c.in-Err-adopt.ensures.refused.crash)
    c.drop_writer-in-Err-adopt.ensures.crash

pub returns-in_err-writer-clause-refused : goal.returns-in_err-writer-clause-refused
returns-in_err-writer-clause-refused g c =
    let laws = g.met.D.Disk g.world.𝓛 g.world.𝓜 g.world.𝓡 ((λ s x. x), (λ x. x), (λ x. x), (λ x. x)) in
    on_err c.from_residual.result
    (makes_nothing _ _ _ (g.D.Disk.crashes c.args.disk.now) (g.D.Disk.crashes c.begin.new.self) _ _ c.begin.ensures.files
    (starts Same _ _ (laws.only_now c.args.disk.now) (λ d. refl) c.begin.ensures.crash) c.begin.ensures.handed_out)

pub returns-in-Err-clause-refused : goal.returns-in-Err-clause-refused
returns-in-Err-clause-refused g c =
    let laws = g.met.D.Disk g.world.𝓛 g.world.𝓜 g.world.𝓡 ((λ s x. x), (λ x. x), (λ x. x), (λ x. x)) in
    makes_nothing _ _ _ (g.D.Disk.crashes c.args.disk.now) (g.D.Disk.crashes c.drop_writer.new.self) _ _ (c.drop_writer.ensures.files ∙ c.begin.ensures.files)
    (keeps_on Same _ (g.D.Disk.crashes c.begin.new.self) _ (starts Same _ _ (laws.only_now c.args.disk.now) (λ d. refl) c.begin.ensures.crash) c.drop_writer.ensures.crash)
    (c.drop_writer.ensures.handed_out ∙ c.begin.ensures.handed_out)

pub returns-in-Err-adopt-clause-refused : goal.returns-in-Err-adopt-clause-refused
returns-in-Err-adopt-clause-refused g c =
    let laws = g.met.D.Disk g.world.𝓛 g.world.𝓜 g.world.𝓡 ((λ s x. x), (λ x. x), (λ x. x), (λ x. x)) in
    makes_none _ _ _ _ _ (g.D.Disk.crashes c.args.disk.now) (g.D.Disk.crashes c.begin.new.self) (g.D.Disk.crashes c.adopt.new.self) (g.D.Disk.crashes c.drop_writer-in-Err-adopt.new.self) _ _ _ _
    c.begin.ensures.files c.in-Err-adopt.ensures.refused.same c.drop_writer-in-Err-adopt.ensures.files
    c.begin.ensures.handed_out c.in-Err-adopt.ensures.refused.skips c.drop_writer-in-Err-adopt.ensures.handed_out
    (starts Same _ _ (laws.only_now c.args.disk.now) (λ d. refl) c.begin.ensures.crash) c.drop_writer-in-Err-adopt.ensures.crash
    (λ memory. let n = c.in-Err-adopt.ensures.memory (cc memory) in (n.crash, n.handed_out))
