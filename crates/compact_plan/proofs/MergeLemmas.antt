-- The newest row of a group has its greatest generation.
use Rattle.std.proofs.Common.{◌≡◌, ℕ, ◌+◌, ◌-◌, ◌<◌, ◌≤◌, List, length, get_or, drop, ap, ◌∙◌, arith, Some, slice_get, ⊎_elim}
use Rattle.std.specs.List.{All}
use Rattle.std.specs.List.Sorted.{IsStrictlyIncreasing}
use Rattle.std.proofs.lemmas.Bool.{cases_lt}
use Rattle.std.proofs.lemmas.List.{get_or-take, get_or-drop, length-take-le, length-drop, length-map, get_or-map, get_or_default}
use Rattle.std.proofs.lemmas.Map.Keys.{sorted_from_strictly_increasing, below_from_sorted}
use Rattle.std.proofs.lemmas.Option.{get_or_from_slice_get}
use Rattle.file_table.specs.declared.row.FileRow.{FileRow}
use Rattle.file_table.specs.Files.{generations_of}
use Rattle.compact_plan.specs.Plans.{rows_from}

pub newest_is_greatest : (rows : List FileRow) (first count : ℕ) (newest : FileRow) → IsStrictlyIncreasing (generations_of rows) → 0 < count → first + count ≤ length rows
    → slice_get rows (first + count - 1) ≡ Some newest → All (λ (row : FileRow). row.generation ≤ newest.generation) (rows_from first count rows)
newest_is_greatest rows first count newest up some within is k d h =
    let last : ℕ = first + count - 1 in
    let size : length (rows_from first count rows) ≡ count = length-take-le count (drop first rows) (omega (arith, length-drop first rows)) in
    let same : get_or (rows_from first count rows) k d ≡ get_or rows (first + k) d =
    get_or-take count (drop first rows) k d (omega (arith, h, size)) ∙ get_or-drop first rows k d in
    let whole : length (generations_of rows) ≡ length rows = length-map rows (λ (row : FileRow). row.generation) in
    let value : (i : ℕ) → i < length rows → get_or (generations_of rows) i 0 ≡ (get_or rows i newest).generation =
    λ i inside. get_or-map (λ (row : FileRow). row.generation) rows i newest 0 inside in
    let at_last : get_or rows last newest ≡ newest = get_or_from_slice_get rows last newest newest is in
    let here : get_or rows (first + k) d ≡ get_or rows (first + k) newest = get_or_default rows (first + k) d newest (omega (arith, h, size)) in
    let own : (get_or (rows_from first count rows) k d).generation ≡ (get_or rows (first + k) newest).generation = ap (λ (row : FileRow). row.generation) (same ∙ here) in
    ⊎_elim
    (λ before. omega (
      arith,
      own,
      value (first + k) (omega (arith, h, size)),
      value last (omega arith),
      ap (λ (row : FileRow). row.generation) at_last,
      below_from_sorted (generations_of rows) (first + k) last 0 (sorted_from_strictly_increasing (generations_of rows) up) before (omega (arith, whole)),
    ))
    (λ behind. let e : first + k ≡ last = omega (arith, h, size) in
    omega (arith, own, ap (λ (i : ℕ). (get_or rows i newest).generation) e, ap (λ (row : FileRow). row.generation) at_last))
    (cases_lt (first + k) last)
