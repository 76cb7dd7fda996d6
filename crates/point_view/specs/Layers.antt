-- Which contents do a cache and its snapshot have, and what of a key is taken of them?
use Rattle.std.specs.Prelude.{ℕ, ℤ, Bool, false, not, ◌&&◌, List, [], ◌∷◌, filter, None, if◌then◌else◌}
use Rattle.std.specs.Option.{option_map_or}
use Rattle.tsdb_types.specs.Keys.{key_of}
use Rattle.tsdb_types.specs.declared.point.Cell.{Cell}
use Rattle.point_model.specs.declared.need.Need.{Need}
use Rattle.point_model.specs.Contents.{Content, overlay}
use Rattle.point_model.specs.Cursors.{Key, in_order}
use Rattle.point_model.specs.Rows.{Row}
use Rattle.merge_cursor.specs.Overlays as rows
use Rattle.tombstones.specs.Covered.{hides}
use Rattle.point_cache.specs.declared.key_points.KeyRun.{KeyRun}
use Rattle.point_cache.specs.Cached.{Cached, points_at, value_at}
use Rattle.point_view.specs.Seen.{is_asked}

-- the composite key of a cell
abbrev pub key_of_cell : Cell → List ℕ
key_of_cell cell = key_of cell.series cell.field

-- the points of the snapshot, none where none stands
abbrev pub frozen : Cached → List KeyRun
frozen cached = option_map_or (λ (runs : List KeyRun). runs) cached.snapshot []

-- what is live in the cache
abbrev pub cache_content : Cached → Content
cache_content cached cell = value_at cached.runs (key_of_cell cell) cell.time

-- what is live in the snapshot: its points that weren't deleted since it was begun
abbrev pub snapshot_content : Cached → Content
snapshot_content cached cell = if hides cached.tombs (key_of_cell cell) cell.time then None else value_at (frozen cached) (key_of_cell cell) cell.time

-- what both show together
abbrev pub memory_content : Cached → Content
memory_content cached = overlay (snapshot_content cached ∷ cache_content cached ∷ [])

-- what a need asks of rows that ascend, without those that are hidden
abbrev pub layer_rows : Need → (ℤ → Bool) → List Row → List Row
layer_rows need hidden rows = in_order need.descending (filter (λ (row : Row). is_asked need row.0 && not (hidden row.0)) rows)

-- what the need asks of a composite key in the cache
abbrev pub cached_rows : Need → Cached → List ℕ → List Row
cached_rows need cached key = layer_rows need (λ time. false) (points_at cached.runs key)

-- the same of the snapshot
abbrev pub frozen_rows : Need → Cached → List ℕ → List Row
frozen_rows need cached key = layer_rows need (hides cached.tombs key) (points_at (frozen cached) key)

-- what both show together of a composite key
abbrev pub memory_rows : Need → Cached → List ℕ → List Row
memory_rows need cached key = rows.overlay need.descending (cached_rows need cached key ∷ frozen_rows need cached key ∷ [])

-- the same of a key
abbrev pub key_rows : Need → Cached → Key → List Row
key_rows need cached key = memory_rows need cached (key_of key.0 key.1)
