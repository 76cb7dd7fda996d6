-- What was read can be written: one group for each run takes no more bytes than another grouping.
use Rattle.std.specs.Prelude.{Bool}
use Rattle.std.proofs.Common.{◌≡◌, ◌≢◌, ℕ, ◌+◌, ◌^◌, ◌≤◌, true, false, cond, List, [], ◌∷◌, ◌++◌, length, refl, sym, ap, subst, ◌∙◌, arith}
use Rattle.std.specs.List.{flat_map, AllByRecursion}
use Rattle.std.specs.Str.{bytes_eq}
use Rattle.std.proofs.lemmas.List.{length-append}
use Rattle.std.proofs.lemmas.List.Elements.{All-from_recursion, recursion_from_All}
use Rattle.fixed_width.specs.Fields.{bytes_of_u16, bytes_of_u32, bytes_of_u64, bytes_of_i64}
use Rattle.fixed_width.proofs.Fronts.{length-u16, length-u32, length-u64, length-i64}
use Rattle.tsdb_types.specs.declared.point.Point.{Point}
use Rattle.point_model.specs.Conditions.{Condition, True, Eq, Ne, And, Or, texts_of}
use Rattle.point_model.specs.Acceptance.{IsKeyed}
use Rattle.point_model.specs.Acceptance as acceptance
use Rattle.point_model.specs.Deletions.{IsLoggable}
use Rattle.point_model.specs.declared.deletion.Deletion.{Deletion}
use Rattle.point_model.specs.Sizes.{condition_length, deletion_length, head_length, point_length, runs_length, write_length}
use Rattle.tsdb_types.specs.Keys.{mark}
use Rattle.tsdb_types.specs.declared.value.Value.{Value}
use Rattle.tsdb_types.specs.declared.value.Value.TheVariants as value_of
use Rattle.point_model.specs.declared.entry.Entry.{Entry}
use Rattle.point_model.specs.declared.entry.Entry.TheVariants.{Write, Delete}
use Rattle.wal_store.specs.Conditions.{condition_bytes, AreComparisons}
use Rattle.wal_store.specs.Form.{Group, text_bytes, group_bytes, groups_bytes, point_bytes, points_of, value_bytes, IsGroup, IsPointOf}
use Rattle.wal_store.specs.Runs.{entry_bytes, runs_of, with_first, HasShortTexts, IsWritable}
use Rattle.wal_store.specs.Segments.{record_bytes}
use Rattle.wal_store.specs.Spelling.{Spells, SpellsBehind, deletion_bytes}
use Rattle.wal_store.specs.Taking.{AreOf}
use Rattle.wal_store.proofs.GroupLemmas.{StartsWith, starts, joins}
use Rattle.wal_store.proofs.ConditionLemmas.{sides_of_and, sides_of_or, all_both}
use Rattle.wal_store.proofs.PutLemmas.{IsShort}

text_long : (text : List ℕ) → length (text_bytes text) ≡ 2 + length text
text_long text = omega (arith, length-append (bytes_of_u16 (length text)) text, length-u16 (length text))

group_long : (group : Group) → length (group_bytes group) ≡ length (text_bytes group.series) + 4 + length (flat_map point_bytes group.points)
group_long group =
    omega (arith, length-append (text_bytes group.series) (bytes_of_u32 (length group.points) ++ flat_map point_bytes group.points), length-append (bytes_of_u32 (length group.points)) (flat_map point_bytes group.points), length-u32 (length group.points))

-- the bytes of groups
abbrev cost : List Group → ℕ
cost groups = length (flat_map group_bytes groups)

cost_more : (group : Group) (groups : List Group) → cost (group ∷ groups) ≡ length (text_bytes group.series) + 4 + length (flat_map point_bytes group.points) + cost groups
cost_more group groups = omega (arith, length-append (group_bytes group) (flat_map group_bytes groups), group_long group)

points_more : (point : Point) (points : List Point) → length (flat_map point_bytes (point ∷ points)) ≡ length (point_bytes point) + length (flat_map point_bytes points)
points_more point points = length-append (point_bytes point) (flat_map point_bytes points)

choice_cost : (b : Bool) (point : Point) (group : Group) (groups : List Group)
    → cost (cond b (record { series = group.series; points = point ∷ group.points } ∷ groups) (record { series = point.cell.series; points = point ∷ [] } ∷ group ∷ groups)) ≤ length (text_bytes point.cell.series) + 4 + length (point_bytes point) + cost (group ∷ groups)
choice_cost true point group groups = omega (arith, cost_more (record { series = group.series; points = point ∷ group.points }) groups, points_more point group.points, cost_more group groups)
choice_cost false point group groups = omega (arith, cost_more (record { series = point.cell.series; points = point ∷ [] }) (group ∷ groups), points_more point [])

first_cost : (point : Point) (groups : List Group) → cost (with_first point groups) ≤ length (text_bytes point.cell.series) + 4 + length (point_bytes point) + cost groups
first_cost point [] = omega (arith, cost_more (record { series = point.cell.series; points = point ∷ [] }) [], points_more point [])
first_cost point (group ∷ groups) = choice_cost (bytes_eq point.cell.series group.series) point group groups

-- a point before groups that start with its series
join_cost : (point : Point) (series : List ℕ) (groups : List Group) → point.cell.series ≡ series → StartsWith series groups → cost (with_first point groups) ≡ length (point_bytes point) + cost groups
join_cost point series groups same is =
    let one : Group = record { series = series; points = is.points } in
    let more : Group = record { series = series; points = point ∷ is.points } in
    omega (
      arith,
      ap (λ (gs : List Group). cost (with_first point gs)) is.whole,
      ap cost (joins point series is.points is.others same),
      ap cost is.whole,
      cost_more (record { series = series; points = point ∷ is.points }) is.others,
      cost_more (record { series = series; points = is.points }) is.others,
      points_more point is.points,
    )

run_cost : (series : List ℕ) (point : Point) (run behind : List Point) → AreOf series (point ∷ run) → cost (runs_of (point ∷ (run ++ behind))) ≤ length (text_bytes series) + 4 + length (flat_map point_bytes (point ∷ run)) + cost (runs_of behind)
run_cost series point [] behind same = omega (arith, first_cost point (runs_of behind), ap (λ (s : List ℕ). length (text_bytes s)) same.0, points_more point [])
run_cost series point (second ∷ run) behind same =
    let begun = subst (λ (s : List ℕ). StartsWith s (runs_of (second ∷ (run ++ behind)))) same.1.0 (starts second (runs_of (run ++ behind))) in
    omega (arith, join_cost point series (runs_of (second ∷ (run ++ behind))) same.0 begun, run_cost series second run behind same.1, points_more point (second ∷ run))

of_series : (series : List ℕ) (points : List Point) → AllByRecursion (IsPointOf series) points → AreOf series points
of_series series [] all = tt
of_series series (point ∷ points) all = (all.0.of, of_series series points all.1)

group_cost : (series : List ℕ) (points behind : List Point) → points ≢ [] → AllByRecursion (IsPointOf series) points → cost (runs_of (points ++ behind)) ≤ length (text_bytes series) + 4 + length (flat_map point_bytes points) + cost (runs_of behind)
group_cost series [] behind some all = absurd (some refl)
group_cost series (point ∷ run) behind some all = run_cost series point run behind (of_series series (point ∷ run) all)

all_cost : (groups : List Group) → AllByRecursion IsGroup groups → cost (runs_of (points_of groups)) ≤ cost groups
all_cost [] all = omega arith
all_cost (group ∷ groups) all = omega (arith, group_cost group.series group.points (points_of groups) all.0.some all.0.points, all_cost groups all.1, cost_more group groups)

short_points : (series : List ℕ) (points : List Point) → length series ≤ 65535 → AllByRecursion (IsPointOf series) points → AllByRecursion HasShortTexts points
short_points series [] short all = tt
short_points series (point ∷ points) short all = (record { series = omega (arith, short, ap length all.0.of); field = all.0.field.room.short }, short_points series points short all.1)

short_all : (groups : List Group) → AllByRecursion IsGroup groups → AllByRecursion HasShortTexts (points_of groups)
short_all [] all = tt
short_all (group ∷ groups) all = all_both HasShortTexts group.points (points_of groups) (short_points group.series group.points all.0.text.short all.0.points) (short_all groups all.1)

-- ---- the texts of a condition

-- the texts of comparisons are short
has_short : (condition : Condition) → AreComparisons condition → AllByRecursion IsShort (texts_of condition)
has_short True all = tt
has_short (Eq key text) all = (all.0.0.room.short, (all.0.1.short, tt))
has_short (Ne key text) all = (all.0.0.room.short, (all.0.1.short, tt))
has_short (And first second) all =
    let sides = sides_of_and first second all in
    all_both IsShort (texts_of first) (texts_of second) (has_short first sides.0) (has_short second sides.1)
has_short (Or first second) all =
    let sides = sides_of_or first second all in
    all_both IsShort (texts_of first) (texts_of second) (has_short first sides.0) (has_short second sides.1)

condition_long : (condition : Condition) → length (condition_bytes condition) ≡ condition_length condition
condition_long True = refl
condition_long (Eq key text) = omega (arith, length-append (text_bytes key) (text_bytes text), text_long key, text_long text)
condition_long (Ne key text) = omega (arith, length-append (text_bytes key) (text_bytes text), text_long key, text_long text)
condition_long (And first second) = omega (arith, length-append (condition_bytes first) (condition_bytes second), condition_long first, condition_long second)
condition_long (Or first second) = omega (arith, length-append (condition_bytes first) (condition_bytes second), condition_long first, condition_long second)

deletion_long : (deletion : Deletion) → 13 + length (deletion_bytes deletion) ≡ deletion_length deletion
deletion_long deletion =
    omega (
      arith,
      length-append (text_bytes deletion.measurement) (condition_bytes deletion.tags ++ (bytes_of_i64 deletion.from ++ bytes_of_i64 deletion.to)),
      text_long deletion.measurement,
      length-append (condition_bytes deletion.tags) (bytes_of_i64 deletion.from ++ bytes_of_i64 deletion.to),
      condition_long deletion.tags,
      length-append (bytes_of_i64 deletion.from) (bytes_of_i64 deletion.to),
      length-i64 deletion.from,
      length-i64 deletion.to,
    )

-- ---- the points of a write

value_long : (value : Value) → length (value_bytes value) ≡ 9
value_long (value_of.Int number) = omega (arith, length-i64 number)
value_long (value_of.Uint number) = omega (arith, length-u64 number)
value_long (value_of.Bool truth) = omega (arith, length-u64 (cond truth 1 0))

point_long : (point : Point) → length (point_bytes point) ≡ point_length point
point_long point =
    omega (
      arith,
      length-append (text_bytes point.cell.field) (bytes_of_i64 point.cell.time ++ value_bytes point.value),
      text_long point.cell.field,
      length-append (bytes_of_i64 point.cell.time) (value_bytes point.value),
      length-i64 point.cell.time,
      value_long point.value,
    )

choice_long : (b : Bool) (point : Point) (group : Group) (groups : List Group)
    → cost (cond b (record { series = group.series; points = point ∷ group.points } ∷ groups) (record { series = point.cell.series; points = point ∷ [] } ∷ group ∷ groups)) ≡ point_length point + cond b 0 (head_length point) + cost (group ∷ groups)
choice_long true point group groups = omega (arith, cost_more (record { series = group.series; points = point ∷ group.points }) groups, points_more point group.points, cost_more group groups, point_long point)
choice_long false point group groups = omega (arith, cost_more (record { series = point.cell.series; points = point ∷ [] }) (group ∷ groups), points_more point [], point_long point, text_long point.cell.series)

-- the runs of points have the length that is counted
pub runs_long : (points : List Point) → cost (runs_of points) ≡ runs_length points
runs_long [] = refl
runs_long (point ∷ []) = omega (arith, cost_more (record { series = point.cell.series; points = point ∷ [] }) [], points_more point [], point_long point, text_long point.cell.series)
runs_long (point ∷ next ∷ points) =
    let begun = starts next (runs_of points) in
    let group : Group = record { series = next.cell.series; points = begun.points } in
    ap (λ (gs : List Group). cost (with_first point gs)) begun.whole
    ∙ choice_long (bytes_eq point.cell.series next.cell.series) point group begun.others
    ∙ ap (λ (n : ℕ). point_length point + cond (bytes_eq point.cell.series next.cell.series) 0 (head_length point) + n) (ap cost (sym begun.whole) ∙ runs_long (next ∷ points))

-- ---- the records

pub write_long : (client : ℕ) (points : List Point) → 8 + length (entry_bytes (Write client points)) ≡ write_length points
write_long client points =
    omega (
      arith,
      length-append (bytes_of_u32 client) (1 ∷ groups_bytes (runs_of points)),
      length-u32 client,
      length-append (bytes_of_u32 (length (runs_of points))) (flat_map group_bytes (runs_of points)),
      length-u32 (length (runs_of points)),
      runs_long points,
    )

pub delete_long : (client : ℕ) (deletion : Deletion) → 8 + length (entry_bytes (Delete client deletion)) ≡ deletion_length deletion
delete_long client deletion = omega (arith, length-append (bytes_of_u32 client) (2 ∷ deletion_bytes deletion), length-u32 client, deletion_long deletion)

pub write_record_long : (number client : ℕ) (points : List Point) → length (record_bytes number (Write client points)) ≡ write_length points
write_record_long number client points = omega (arith, length-append (bytes_of_u64 number) (entry_bytes (Write client points)), length-u64 number, write_long client points)

pub delete_record_long : (number client : ℕ) (deletion : Deletion) → length (record_bytes number (Delete client deletion)) ≡ deletion_length deletion
delete_record_long number client deletion = omega (arith, length-append (bytes_of_u64 number) (entry_bytes (Delete client deletion)), length-u64 number, delete_long client deletion)

keyed_short : (points : List Point) → AllByRecursion IsKeyed points → AllByRecursion HasShortTexts points
keyed_short [] keyed = tt
keyed_short (point ∷ points) keyed =
    let one = keyed.0 in
    let long = length-append point.cell.series (mark ++ point.cell.field) in
    let fits = one.fits in
    (record { series = omega (arith, fits, long); field = omega (arith, fits, long) }, keyed_short points keyed.1)

-- what may be handed to a store can be written
pub batch_writable : (client : ℕ) (points : List Point) → acceptance.IsWritable points → IsWritable (Write client points)
batch_writable client points may = record {
  room = keyed_short points (recursion_from_All IsKeyed points may.keyed);
  short = let fits = may.fits in omega (arith, fits, write_long client points);
}

pub deletion_writable : (client : ℕ) (deletion : Deletion) → IsLoggable deletion → IsWritable (Delete client deletion)
deletion_writable client deletion may = record { room = may; short = let fits = may.fits in omega (arith, fits, delete_long client deletion) }

-- ---- an entry

writable : (entry : Entry) (bytes : List ℕ) → 8 + length bytes ≤ 2 ^ 30 → SpellsBehind entry bytes → IsWritable entry
writable (Write client points) bytes short is = record {
  room = subst (AllByRecursion HasShortTexts) (sym is.3.all) (short_all is.3.groups is.3.are.each);
  short = omega (
    arith,
    short,
    ap length is.1,
    length-append (bytes_of_u32 client) (1 ∷ is.0),
    length-append (bytes_of_u32 client) (1 ∷ groups_bytes (runs_of points)),
    ap length is.3.spelling,
    length-append (bytes_of_u32 (length is.3.groups)) (flat_map group_bytes is.3.groups),
    length-append (bytes_of_u32 (length (runs_of points))) (flat_map group_bytes (runs_of points)),
    length-u32 (length is.3.groups),
    length-u32 (length (runs_of points)),
    ap (λ (ps : List Point). cost (runs_of ps)) is.3.all,
    all_cost is.3.groups is.3.are.each,
  );
}
writable (Delete client deletion) bytes short is = record {
  room = record {
    measurement = is.3.is.measurement.room.short;
    texts = All-from_recursion IsShort (texts_of deletion.tags) (has_short deletion.tags is.3.is.tags.comparisons);
    nested = is.3.is.tags.nested;
    fits = omega (
      arith,
      short,
      ap length (is.1 ∙ ap (λ (l : List ℕ). bytes_of_u32 client ++ (2 ∷ l)) is.3.spelling),
      length-append (bytes_of_u32 client) (2 ∷ deletion_bytes deletion),
      length-u32 client,
      deletion_long deletion,
    );
  };
  short = omega (arith, short, ap length (is.1 ∙ ap (λ (l : List ℕ). bytes_of_u32 client ++ (2 ∷ l)) is.3.spelling));
}

pub read_is_writable : (entry : Entry) (bytes : List ℕ) → Spells entry bytes → IsWritable entry
read_is_writable entry bytes spells = writable entry bytes spells.short spells.body
