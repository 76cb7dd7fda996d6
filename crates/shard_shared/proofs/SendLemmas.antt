-- May an engine go to another thread? The search for it gives up at points in memory, so each part has its own here.
use Rattle.std.proofs.Common.{rules}
use Rattle.std.proofs.Crossing.{frees}
use Rattle.std.proofs.alloc.Global.TheSendSync as heap
use Rattle.std.proofs.collections.BTreeMap.TheSendSync as map
use Rattle.std.proofs.collections.BTreeSet.TheSendSync as set
use Rattle.std.specs.contracts.impls.GlobalAllocator.TheImpl as global
use Rattle.std.specs.contracts.snapshot.Snapshot as snapshot
use Rattle.std.proofs.sync.Arc.TheSendSync as arc
use Rattle.std.proofs.vec.Vec.TheSendSync as vec
use Rattle.tsdb_types.proofs.name.Name.TheSendSync as name
use Rattle.tsdb_types.proofs.series.SeriesKey.TheSendSync as series
use Rattle.store_trait.proofs.heading.Heading.TheSendSync as heading
use Rattle.point_cache.proofs.runs.Runs.TheSendSync as runs
use Rattle.point_cache.proofs.key_points.KeyPoints.TheSendSync as key_points
use Rattle.tombstones.proofs.set.TombSet.TheSendSync as tombs
use Rattle.live_points.specs.contracts.points.LivePoints as live
use Rattle.live_points.specs.contracts.points.LivePoints.TheInside as inside
use Rattle.point_cache.specs.contracts.cache.PointCache as cache
use Rattle.point_cache.specs.contracts.cache.PointCache.TheInside as cache_inside
use Rattle.shard_state.proofs.logs.Logs.TheSendSync as logs
use Rattle.tsdb_types.proofs.seed.Seed.TheSendSync as seed
use Rattle.shard_steps.proofs.settings.Settings.TheSendSync as settings
use Rattle.shard_steps.specs.contracts.shard.Shard as shard
use Rattle.shard_shared.specs.contracts.engine.Engine as engine
use Rattle.shard_shared.specs.contracts.engine.Refusal as refusal
use denote.RattleType.{RattleType}
use denote.Struct.Declared.{shape}
use denote.Param.Send.{IsSend, owning_send, sendable, struct_send, recorded_send, view_send}

pub cache_send : IsSend cache.the_row
cache_send = view_send cache_inside.the_row _ _ _ _ (recorded_send (cache_inside.the_field).row _ _ (cache_inside.the_type).to_one (struct_send (shape cache_inside.the_type)
    (heap.the_field_send, (runs.the_send, (search rules, (search rules, (search (sendable, arc.the_send, key_points.the_send, key_points.the_sync, heap.the_send, heap.the_sync, frees) depth 40, (search rules, (tombs.the_send, tt)))))))))

pub live_send : IsSend live.the_row
live_send = view_send inside.the_row _ _ _ _ (recorded_send (inside.the_field).row _ _ (inside.the_type).to_one (struct_send (shape inside.the_type) (
  heap.the_field_send,
  (
    cache_send,
    (search (set.the_send, sendable, name.the_send, series.the_send, heap.the_send, frees) depth 12, (search (map.the_send, sendable, heading.the_send, name.the_send, series.the_send, heap.the_send, frees) depth 12, (search sendable, tt))),
  ),
)))

pub shard_field_send : (D : RattleType) → IsSend D → IsSend (shard.the_field D).row
shard_field_send D d = struct_send (shape (shard.the_type D))
    (heap.the_field_send, (seed.the_field_send, (logs.the_field_send D d, (live_send, (settings.the_field_send, (search sendable, tt))))))

pub shard_send : (D : RattleType) → IsSend D → IsSend (shard.the_row D)
shard_send D d = recorded_send (shard.the_field D).row _ _ (shard.the_type D).to_one (shard_field_send D d)

-- a note has no bytes
note_send : IsSend (snapshot.the_row refusal.the_row)
note_send = owning_send (snapshot.the_type refusal.the_row) (search sendable, tt) (λ d. tt) (λ k x w. tt)

pub engine_send : (D : RattleType) → IsSend D → IsSend (engine.the_row D)
engine_send D d = recorded_send (engine.the_field D).row _ _ (engine.the_type D).to_one (struct_send (shape (engine.the_type D)) (shard_field_send D d, (search sendable, (vec.the_send _ _ global.ghosts note_send heap.the_send (search frees), tt))))
