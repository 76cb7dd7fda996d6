-- A composite key with a time tells its cell.
use Rattle.std.proofs.Common.{◌≡◌, ◌∙◌, ℕ, ℤ, ◌+◌, List, ◌++◌, length, take, drop, refl, sym, ap, subst, arith, append_assoc, length-append}
use Rattle.std.proofs.lemmas.List.{take-append-le, take_all, drop_at}
use Rattle.tsdb_types.specs.Keys.{mark, key_of, IsFirstMark}
use Rattle.tsdb_types.specs.declared.point.Cell.{Cell}
use Rattle.tsdb_types.proofs.KeyLemmas.{one_first}
use Rattle.point_model.specs.Laws.{KeysTellCells, ValuesTellPoints}
use Rattle.point_model.specs.Points.{cell_cmp}
use Rattle.point_model.proofs.PointLemmas.{same_points, sorted_test}

cells_same : (s t : ℤ) (series others field other : List ℕ) → s ≡ t → series ≡ others → field ≡ other
    → (let left : Cell = record { time = s; series = series; field = field } in let right : Cell = record { time = t; series = others; field = other } in left ≡ right)
cells_same s t series others field other times texts fields = cc

front_of : (series field : List ℕ) → take (length series) (key_of series field) ≡ series
front_of series field = take-append-le (length series) series (mark ++ field) (omega arith) ∙ take_all (length series) series (omega arith)

behind_of : (series field : List ℕ) → drop (length series + 4) (key_of series field) ≡ field
behind_of series field =
    ap (λ (t : List ℕ). drop (length series + 4) t) (sym (append_assoc series mark field))
    ∙ drop_at (series ++ mark) field (length series + 4) (let sum = length-append series mark in omega arith)

pub keys_tell : KeysTellCells
keys_tell a b is that same times =
    let long : length a.series ≡ length b.series =
    one_first (key_of a.series a.field) (length a.series) (length b.series) is (subst (λ (k : List ℕ). IsFirstMark k (length b.series)) (sym same) that)
    in
    cells_same a.time b.time a.series b.series a.field b.field times
    (sym (front_of a.series a.field) ∙ ap (λ (k : List ℕ). take (length a.series) k) same ∙ ap (λ (n : ℕ). take n (key_of b.series b.field)) long ∙ front_of b.series b.field)
    (sym (behind_of a.series a.field) ∙ ap (λ (k : List ℕ). drop (length a.series + 4) k) same ∙ ap (λ (n : ℕ). drop (n + 4) (key_of b.series b.field)) long ∙ behind_of b.series b.field)

pub values_tell : ValuesTellPoints
values_tell points others s t same = same_points points others (sorted_test cell_cmp points s) (sorted_test cell_cmp others t) same
