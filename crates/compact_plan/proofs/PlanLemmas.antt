-- The window of idle rows behind which no group has ended, and how it moves.
use Rattle.std.proofs.Common.{◌≡◌, ℕ, suc, ◌+◌, ◌-◌, ◌*◌, add-one, ◌<◌, ◌≤◌, List, [], ◌∷◌, ◌++◌, length, get_or, take, drop, sym, ap, ◌∙◌, subst, arith, refl, Some, slice_get, ⊎_elim}
use Rattle.std.specs.List.{All}
use Rattle.std.proofs.lemmas.Bool.{cases_lt}
use Rattle.std.proofs.lemmas.List.{take_more, drop_more, get_or-take, get_or-drop, length-take-le, length-drop}
use Rattle.std.proofs.lemmas.List.Elements.{All-push, All-tail, All-nil}
use Rattle.std.proofs.lemmas.List.Sums.{sum_by_push, sum_by-cons, sum_by-le}
use Rattle.std.proofs.lemmas.Option.{get_or_from_slice_get}
use Rattle.file_table.specs.declared.row.FileRow.{FileRow}
use Rattle.compact_plan.specs.Plans.{BeginsGroup, IsIdle, rows_from, entries_of, size_at}

-- the number of entries is one of 32 bits
pub record IsCounted (row : FileRow) : Type 0 where
  pub fits : row.most_entries ≤ 4294967295

-- the rows from the start up to k: idle ones of the level, fewer than a group has, and before the start no group begins
pub record IsWindow (rows : List FileRow) (level size start k entries : ℕ) : Type 0 where
  pub order : start ≤ k
  pub within : k ≤ length rows
  pub short : k < start + size
  pub sized : size ≡ size_at level
  pub small : size ≤ 8
  pub idle : All (IsIdle level) (rows_from start (k - start) rows)
  pub counted : All IsCounted (rows_from start (k - start) rows)
  pub sum : entries ≡ entries_of (rows_from start (k - start) rows)
  pub none : (earlier : ℕ) → earlier < start → ¬ BeginsGroup rows level earlier

-- one row more behind a part
rows_from_more : (start k : ℕ) (rows : List FileRow) (row : FileRow) → start ≤ k → k < length rows → slice_get rows k ≡ Some row
    → rows_from start (k + 1 - start) rows ≡ rows_from start (k - start) rows ++ row ∷ []
rows_from_more start k rows row order within is =
    let n = k - start in
    let more : take (n + 1) (drop start rows) ≡ take n (drop start rows) ++ get_or (drop start rows) n row ∷ [] =
    take_more (drop start rows) n row (omega (arith, length-drop start rows)) in
    let here : get_or (drop start rows) n row ≡ row =
    get_or-drop start rows n row ∙ ap (λ (m : ℕ). get_or rows m row) (let e : start + n ≡ k = omega arith in e) ∙ get_or_from_slice_get rows k row row is in
    let size : k + 1 - start ≡ n + 1 = omega arith in
    ap (λ (m : ℕ). take m (drop start rows)) size ∙ more ∙ ap (λ (r : FileRow). take n (drop start rows) ++ r ∷ []) here

-- the first row of a part, and the others
rows_from_less : (start n : ℕ) (rows : List FileRow) (row : FileRow) → start < length rows → slice_get rows start ≡ Some row
    → rows_from start (n + 1) rows ≡ row ∷ rows_from (start + 1) n rows
rows_from_less start n rows row within is =
    ap (λ (m : ℕ). take m (drop start rows)) (add-one n) ∙ ap (λ (l : List FileRow). take (suc n) l) (drop_more rows start row within)
    ∙ ap (λ (r : FileRow). r ∷ take n (drop (start + 1) rows)) (get_or_from_slice_get rows start row row is)

-- each row of a group is idle
idle_in_group : (rows : List FileRow) (level size first k : ℕ) (row : FileRow) → size ≡ size_at level → BeginsGroup rows level first → first ≤ k → k < first + size
    → slice_get rows k ≡ Some row → IsIdle level row
idle_in_group rows level size first k row sized group order within is =
    let n = k - first in
    let inside : n < size_at level = omega (arith, sized) in
    let length_is : length (rows_from first (size_at level) rows) ≡ size_at level =
    length-take-le (size_at level) (drop first rows) (omega (arith, length-drop first rows, group.within)) in
    let found : IsIdle level (get_or (rows_from first (size_at level) rows) n row) = group.idle n row (omega (arith, length_is, inside)) in
    let same : get_or (rows_from first (size_at level) rows) n row ≡ row =
    get_or-take (size_at level) (drop first rows) n row inside ∙ get_or-drop first rows n row
    ∙ ap (λ (m : ℕ). get_or rows m row) (let e : first + n ≡ k = omega arith in e) ∙ get_or_from_slice_get rows k row row is in
    subst (IsIdle level) same found

-- no row, no group yet
pub window_empty : (rows : List FileRow) (level size : ℕ) → size ≡ size_at level → 0 < size → size ≤ 8 → IsWindow rows level size 0 0 0
window_empty rows level size sized some small = record {
  order = omega arith;
  within = omega arith;
  short = omega arith;
  sized = sized;
  small = small;
  idle = All-nil (IsIdle level);
  counted = All-nil IsCounted;
  sum = refl;
  none = λ earlier before. absurd (omega arith);
}

-- a row that isn't idle ends the window
pub window_restarts : (rows : List FileRow) (level size start k entries : ℕ) (row : FileRow) → IsWindow rows level size start k entries → k < length rows
    → slice_get rows k ≡ Some row → ¬ IsIdle level row → IsWindow rows level size (k + 1) (k + 1) 0
window_restarts rows level size start k entries row window within is busy =
    let nothing : rows_from (k + 1) (k + 1 - (k + 1)) rows ≡ [] = ap (λ (m : ℕ). take m (drop (k + 1) rows)) (let e : k + 1 - (k + 1) ≡ 0 = omega arith in e) in
    record {
      order = omega arith;
      within = omega arith;
      short = omega (arith, window.short, window.order);
      sized = window.sized;
      small = window.small;
      idle = subst (All (IsIdle level)) (sym nothing) (All-nil (IsIdle level));
      counted = subst (All IsCounted) (sym nothing) (All-nil IsCounted);
      sum = sym (ap entries_of nothing);
      none = λ earlier before group. ⊎_elim
          (λ less. window.none earlier less group)
          (λ more. busy (idle_in_group rows level size earlier k row window.sized group (omega arith) (omega (arith, window.short)) is))
          (cases_lt earlier start);
    }

-- the parts of the window with one row more
record HasGrown (rows : List FileRow) (level start k entries : ℕ) : Type 0 where
  pub idle : All (IsIdle level) (rows_from start (k + 1 - start) rows)
  pub counted : All IsCounted (rows_from start (k + 1 - start) rows)
  pub sum : entries ≡ entries_of (rows_from start (k + 1 - start) rows)

has_grown : (rows : List FileRow) (level size start k entries : ℕ) (row : FileRow) → IsWindow rows level size start k entries → k < length rows
    → slice_get rows k ≡ Some row → IsIdle level row → row.most_entries ≤ 4294967295 → HasGrown rows level start k (entries + row.most_entries)
has_grown rows level size start k entries row window within is idle fits =
    let more = rows_from_more start k rows row window.order within is in
    let old : List FileRow = rows_from start (k - start) rows in
    record {
      idle = subst (All (IsIdle level)) (sym more) (All-push (IsIdle level) old row window.idle idle);
      counted = subst (All IsCounted) (sym more) (All-push IsCounted old row window.counted (record { fits = fits }));
      sum = ap (λ (n : ℕ). n + row.most_entries) window.sum ∙ sym (sum_by_push (λ (r : FileRow). r.most_entries) old row) ∙ sym (ap entries_of more);
    }

-- so few entries can be counted
pub entries_fit : (rows : List FileRow) (level size start k entries : ℕ) → IsWindow rows level size start k entries → entries ≤ 34359738360
entries_fit rows level size start k entries window =
    let part : List FileRow = rows_from start (k - start) rows in
    let each : All (λ (r : FileRow). r.most_entries ≤ 4294967295) part = λ i d h. let one : IsCounted (get_or part i d) = window.counted i d h in one.fits in
    let bound : entries_of part ≤ length part * 4294967295 = sum_by-le (λ (r : FileRow). r.most_entries) 4294967295 part each in
    let size_is : length part ≡ k - start = length-take-le (k - start) (drop start rows) (omega (arith, length-drop start rows, window.within)) in
    let few : length part ≤ 8 = omega (arith, size_is, window.short, window.small) in
    omega (arith, bound, few, window.sum)

-- a row more, and still fewer than a group has
pub window_grows : (rows : List FileRow) (level size start k entries : ℕ) (row : FileRow) → IsWindow rows level size start k entries → k < length rows
    → slice_get rows k ≡ Some row → IsIdle level row → row.most_entries ≤ 4294967295 → k + 1 - start < size
    → IsWindow rows level size start (k + 1) (entries + row.most_entries)
window_grows rows level size start k entries row window within is idle fits short =
    let grown = has_grown rows level size start k entries row window within is idle fits in
    record {
      order = omega (arith, window.order);
      within = omega arith;
      short = omega arith;
      sized = window.sized;
      small = window.small;
      idle = grown.idle;
      counted = grown.counted;
      sum = grown.sum;
      none = window.none;
    }

-- as many rows as a group has, with no more entries than one key may have
pub window_is_group : (rows : List FileRow) (level size start k entries : ℕ) (row : FileRow) → IsWindow rows level size start k entries → k < length rows
    → slice_get rows k ≡ Some row → IsIdle level row → row.most_entries ≤ 4294967295 → size ≤ k + 1 - start → entries + row.most_entries ≤ 65535
    → BeginsGroup rows level start
window_is_group rows level size start k entries row window within is idle fits full few =
    let grown = has_grown rows level size start k entries row window within is idle fits in
    let same : k + 1 - start ≡ size_at level = omega (arith, window.short, window.sized) in
    record {
      within = omega (arith, same, window.order);
      idle = subst (λ (n : ℕ). All (IsIdle level) (rows_from start n rows)) same grown.idle;
      entries = subst (λ (n : ℕ). entries_of (rows_from start n rows) ≤ 65535) same (omega (arith, grown.sum, few));
    }

-- as many rows as a group has, with too many entries: the window goes on without the oldest
pub window_moves : (rows : List FileRow) (level size start k entries : ℕ) (row oldest : FileRow) → IsWindow rows level size start k entries → k < length rows
    → slice_get rows k ≡ Some row → IsIdle level row → row.most_entries ≤ 4294967295 → size ≤ k + 1 - start → 65535 < entries + row.most_entries
    → slice_get rows start ≡ Some oldest
    → (oldest.most_entries ≤ entries + row.most_entries) × IsWindow rows level size (start + 1) (k + 1) (entries + row.most_entries - oldest.most_entries)
window_moves rows level size start k entries row oldest window within is idle fits full many first =
    let grown = has_grown rows level size start k entries row window within is idle fits in
    let all : ℕ = entries + row.most_entries in
    let n : ℕ = k - start in
    let rest : List FileRow = rows_from (start + 1) n rows in
    let count : k + 1 - start ≡ n + 1 = omega (arith, window.order) in
    let less : rows_from start (k + 1 - start) rows ≡ oldest ∷ rest =
    ap (λ (m : ℕ). rows_from start m rows) count ∙ rows_from_less start n rows oldest (omega (arith, window.order)) first in
    let left : k + 1 - (start + 1) ≡ n = omega (arith, window.order) in
    let sum : all ≡ oldest.most_entries + entries_of rest = grown.sum ∙ ap entries_of less ∙ sum_by-cons (λ (r : FileRow). r.most_entries) oldest rest in
    let same : k + 1 - start ≡ size_at level = omega (arith, window.short, window.sized) in (
      omega (arith, sum),
      record {
        order = omega (arith, window.order);
        within = omega arith;
        short = omega (arith, window.short);
        sized = window.sized;
        small = window.small;
        idle = subst (λ (m : ℕ). All (IsIdle level) (rows_from (start + 1) m rows)) (sym left) (All-tail (IsIdle level) oldest rest (subst (All (IsIdle level)) less grown.idle));
        counted = subst (λ (m : ℕ). All IsCounted (rows_from (start + 1) m rows)) (sym left) (All-tail IsCounted oldest rest (subst (All IsCounted) less grown.counted));
        sum = let gone : all - oldest.most_entries ≡ entries_of rest = omega (arith, sum) in gone ∙ ap (λ (m : ℕ). entries_of (rows_from (start + 1) m rows)) (sym left);
        none = λ earlier before group. ⊎_elim
            (λ less_than. window.none earlier less_than group)
            (λ more. let at : earlier ≡ start = omega arith in
            let here : BeginsGroup rows level start = subst (BeginsGroup rows level) at group in
            let few : entries_of (rows_from start (k + 1 - start) rows) ≤ 65535 = subst (λ (m : ℕ). entries_of (rows_from start m rows) ≤ 65535) (sym same) here.entries in
            omega (arith, few, grown.sum, many))
            (cases_lt earlier start);
      },
    )

-- behind the last row
pub window_at_end : (rows : List FileRow) (level size start k entries : ℕ) → IsWindow rows level size start k entries → length rows ≤ k → (place : ℕ) → ¬ BeginsGroup rows level place
window_at_end rows level size start k entries window end place group =
    window.none place (omega (arith, group.within, window.short, window.sized)) group
