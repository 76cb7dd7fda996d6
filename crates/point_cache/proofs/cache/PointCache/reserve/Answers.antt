use Rattle.std.proofs.Common.{List, [], take, Some, None, sym, ap, ◌∙◌, subst}
use Rattle.std.specs.List.{AllByRecursion}
use Rattle.tsdb_types.specs.declared.point.Point.{Point}
use Rattle.point_cache.specs.declared.key_points.KeyRun.{KeyRun}
use Rattle.point_cache.specs.Cache.{HasRoom}
use Rattle.point_cache.specs.Cached.{Cached, IsRun}
use Rattle.point_cache.specs.Staged.{Staging, lives, plain}
use Rattle.point_cache.proofs.StateLemmas.{cache_plain, cache_grown, front_grown, front_long, front_plain, plain_own, plain_rows}
use Rattle.point_cache.proofs.cache.PointCache.reserve.Goals as goal

pub stage_batch-requires-clause-plain : goal.stage_batch-requires-clause-plain
stage_batch-requires-clause-plain c = ap (λ (s : Staging). s.entries) (plain_own c.discard.new.self _ c.discard.ensures)

pub stage_batch-requires-clause-each : goal.stage_batch-requires-clause-each
stage_batch-requires-clause-each c = subst (AllByRecursion IsRun) (sym (plain_rows c.discard.new.self _ c.discard.ensures)) c.self.invariant.each

pub invariant_of-self : goal.invariant_of-self
invariant_of-self c =
    let k = c.self.inside.keys in
    let es = c.self.inside.runs.entries in
    let long = front_long es k c.self.invariant.within in
    let room = subst (λ (l : List Point). HasRoom l c.stage_batch.new.runs.entries) (c.points.ensures.points ∙ sym c.of.ensures) c.in-Ok.ensures.ok in
    cache_grown c.discard.new.self c.stage_batch.new.runs (take k (lives es)) k c.self.inside.snapshot_points c.of.result.value _ c.discard.ensures c.self.invariant.each long c.stage_batch.ensures.grows room c.self.invariant.snapshot

pub invariant_of-self-in-Err : goal.invariant_of-self-in-Err
invariant_of-self-in-Err c =
    let k = c.self.inside.keys in
    let es = c.self.inside.runs.entries in
    let long = front_long es k c.self.invariant.within in
    let front = front_grown c.discard.new.self c.stage_batch.new.runs (take k (lives es)) k c.discard.ensures long c.stage_batch.ensures.grows in
    let back = c.discard-in-Err.ensures ∙ ap (λ (l : List KeyRun). record { entries = plain l; touched = [] }) front in
    cache_plain c.discard-in-Err.new.self (take k (lives es)) k c.self.inside.snapshot_points _ back c.self.invariant.each long c.self.invariant.snapshot

pub returns-in-Ok-clause-ok : goal.returns-in-Ok-clause-ok
returns-in-Ok-clause-ok c =
    let k = c.self.inside.keys in
    let es = c.self.inside.runs.entries in
    let long = front_long es k c.self.invariant.within in
    let front = front_grown c.discard.new.self c.stage_batch.new.runs (take k (lives es)) k c.discard.ensures long c.stage_batch.ensures.grows in
    let runs = front ∙ ap (λ (v : Cached). v.runs) c.self.view_is in
    let room = ap Some c.of.ensures in
    λ i. record { runs = runs i; room = room i; snapshot = (c.self.view_is i).snapshot; tombs = (c.self.view_is i).tombs }

pub returns-in-Err-clause-err : goal.returns-in-Err-clause-err
returns-in-Err-clause-err c =
    let k = c.self.inside.keys in
    let es = c.self.inside.runs.entries in
    let long = front_long es k c.self.invariant.within in
    let front = front_grown c.discard.new.self c.stage_batch.new.runs (take k (lives es)) k c.discard.ensures long c.stage_batch.ensures.grows in
    let back = c.discard-in-Err.ensures ∙ ap (λ (l : List KeyRun). record { entries = plain l; touched = [] }) front in
    let runs = front_plain c.discard-in-Err.new.self (take k (lives es)) k back long ∙ ap (λ (v : Cached). v.runs) c.self.view_is in
    λ i. record { runs = runs i; room = None; snapshot = (c.self.view_is i).snapshot; tombs = (c.self.view_is i).tombs }
