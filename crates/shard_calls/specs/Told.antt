-- What does the store of one client tell, and what is seen of it?
use Rattle.std.specs.Prelude.{ℕ, ◌+◌, true, List, length, replicate, Some}
use Rattle.shard_disk.specs.Health.{Health}
use Rattle.point_model.specs.Histories.{State}
use Rattle.point_model.specs.declared.entry.Entry.{Entry}
use Rattle.store_trait.specs.Told.{Attempt, Limits, Told, numbers_from}
use Rattle.shard_steps.specs.declared.shard.Shard.{Shard}

-- what it tells, and its health
pub record Seen : Type 0 where
  pub told : Told
  pub health : Health

-- the engine's limits, with the points and the series of the start
abbrev pub limits_of : {D : Type 0} → State → List (List ℕ) → Shard D → Limits
limits_of start first shard = record { cached = length start.points; most_cached = shard.settings.cache_points; series = first; most_series = shard.settings.series }

-- Its entries are those that it made, each its own and counted from the start. It has its points in memory, so it tells them.
abbrev pub told_of : {D : Type 0} → ℕ → State → List (List ℕ) → List Entry → List Attempt → Shard D → Told
told_of client start first entries tried shard = record {
  client = client;
  start = start;
  tells = true;
  is_alone = true;
  limits = Some (limits_of start first shard);
  history = entries;
  own = numbers_from (start.number + 1) entries;
  series = length shard.logs.series.keys;
  out = replicate shard.views 0;
  tried = tried;
}
