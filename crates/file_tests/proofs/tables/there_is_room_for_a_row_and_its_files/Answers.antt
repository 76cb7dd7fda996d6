use Rattle.std.proofs.Common.{◌≡◌, ℕ, [], ◌∷◌, ◌++◌, refl, sym, ap, ◌∙◌, subst, arith, nat_eq, inl}
use Rattle.std.specs.List.{flat_map, IsDistinct}
use Rattle.std.specs.Option.{option_to_list}
use Rattle.std.proofs.lemmas.List.Sorted.{Contains-permutation}
use Rattle.std.proofs.lemmas.Option.{slice_get_within, get_or_from_slice_get}
use Rattle.file_table.specs.Files.{files_of, numbers_of, generations_of}
use Rattle.file_table.specs.Table.{Table, free_files}
use Rattle.file_tests.proofs.tables.there_is_room_for_a_row_and_its_files.Goals as goal

one : (number : ℕ) → IsDistinct nat_eq (number ∷ [])
unfolding IsDistinct
one number = (tt, tt)

pub place-requires-clause-enters : goal.place-requires-clause-enters
place-requires-clause-enters g c =
    let made = c.in_ok-reserve.ensures.ok in
    let rows : c.reserve.new.self.rows ≡ [] = ap (λ (t : Table). t.rows) made.same ∙ ap (λ (t : Table). t.rows) c.new-table.ensures in
    let condemned : c.reserve.new.self.condemned ≡ [] = ap (λ (t : Table). t.condemned) made.same ∙ ap (λ (t : Table). t.condemned) c.new-table.ensures in
    record {
      room = omega (arith, made.for_rows);
      idle = c.row.ensures.holds;
      files = subst (IsDistinct nat_eq) (λ i. (c.row.result.no ∷ option_to_list ((sym c.row.ensures.tomb) i)) ++ (flat_map files_of ((sym rows) i) ++ numbers_of ((sym condemned) i))) (one c.row.result.no);
    }

pub place-requires-clause-generation : goal.place-requires-clause-generation
place-requires-clause-generation g c =
    let made = c.in_ok-reserve.ensures.ok in
    let rows : c.reserve.new.self.rows ≡ [] = ap (λ (t : Table). t.rows) made.same ∙ ap (λ (t : Table). t.rows) c.new-table.ensures in
    subst (IsDistinct nat_eq) (λ i. c.row.result.generation ∷ generations_of ((sym rows) i)) (one c.row.result.generation)

pub hold-hold-requires : goal.hold-hold-requires
hold-hold-requires g c =
    let there = Contains-permutation (c.row.result ∷ c.reserve.new.self.rows) c.place.new.self.rows c.row.result c.place.ensures.placed.rows (0, omega arith, refl) in
    inl (there.0, c.row.result, there.1, there.2, (c.row.ensures.file, omega (arith, c.row.ensures.holds)))

pub forget-requires : goal.forget-requires
forget-requires g c =
    let free = free_files c.unhold.new.self in
    let first = c.free_at-first.result in
    (0, slice_get_within free 0 first c.free_at-first.ensures, get_or_from_slice_get free 0 first first c.free_at-first.ensures)
