use Rattle.std.proofs.Common.{subst, sym, ◌∙◌}
use Rattle.shard_state.specs.Calls.{Closes}
use Rattle.shard_state.specs.declared.logs.Logs.{Logs}
use Rattle.engine_session.proofs.ServedLemmas.{serves}
use Rattle.engine_session.proofs.serving.serve_at.Goals as goal

pub returns-clause-serves : goal.returns-clause-serves
returns-clause-serves g c =
    serves g.D.Disk _ _ g.B.Site.start g.B.Site.series c.args.shard c.requires.start c.requires.series (record { told = c.new-store.result.told; health = c.new-store.result.health })
    (record { told = c.session-report.new.store.told; health = c.session-report.new.store.health }) c.new-store.ensures.told c.new-store.ensures.health _ c.session-report.ensures.served c.number-number.new.self.told
    c.number-number.ensures.kept c.number-number.ensures.alike c.number-number.ensures.number c.into_shard-shard.result
    (λ told since run. c.into_shard-shard.ensures.ran told since (c.requires.is_sound since run)) c.into_shard-shard.ensures.holds c.into_shard-shard.ensures.series (subst (λ (l : Logs _). Closes g.D.Disk l c.close-disk.result.0 c.close-disk.result.1) c.into_logs.ensures c.close-disk.ensures)
    (sym c.number-number.ensures.health ∙ c.into_shard-shard.ensures.health) (c.into_shard-shard.ensures.handed_out ∙ sym c.requires.handed_out)
