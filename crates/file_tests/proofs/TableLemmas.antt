-- Tables of tests, whose rows are put in by ascending numbers.
use Rattle.std.proofs.Common.{◌≡◌, ℕ, ◌+◌, ◌<◌, ◌≤◌, false, List, [], ◌∷◌, ◌++◌, length, sym, ap, ◌∙◌, subst, arith, nat_eq, Option, None}
use Rattle.std.specs.List.{All, AllByRecursion, flat_map, IsDistinct}
use Rattle.std.specs.Option.{option_to_list}
use Rattle.std.proofs.lemmas.List.{append-nil}
use Rattle.std.proofs.lemmas.List.Elements.{All-cons, All-weaker, recursion_from_All}
use Rattle.std.proofs.lemmas.List.Sorted.{All-permutation, length_permutation}
use Rattle.std.proofs.lemmas.Map.Keys.{IsDistinct-from_apart, sorted_from_strictly_increasing, below_from_sorted}
use Rattle.file_table.specs.declared.row.FileRow.{FileRow}
use Rattle.file_table.specs.Files.{files_of, generations_of, numbers_of}
use Rattle.file_table.specs.Table.{Table, IsTable, names}
use Rattle.file_table.specs.Calls.{MayEnter, IsNewGeneration, Places}

-- the row's file and generation are no greater, and it has no tombstones
pub record IsUpTo (n : ℕ) (row : FileRow) : Type 0 where
  pub file : row.no ≤ n
  pub generation : row.generation ≤ n
  pub bare : row.tomb ≡ None

-- so many rows were put in, and there is room for the others
pub record HasRows (n whole : ℕ) (table : Table) : Type 0 where
  pub sound : IsTable table
  pub counted : length table.rows ≡ n
  pub upto : All (IsUpTo n) table.rows
  pub none : table.condemned ≡ []
  pub room : whole ≤ table.row_room + n

apart : (a b : ℕ) → a < b → nat_eq b a ≡ false
apart a b less = grind (arith)

files_upto : (n : ℕ) (rows : List FileRow) → AllByRecursion (IsUpTo n) rows → AllByRecursion (λ (file : ℕ). nat_eq (n + 1) file ≡ false) (flat_map files_of rows)
files_upto n [] all = tt
files_upto n (row ∷ rows) all =
    let one : IsUpTo n row = all.0 in
    subst (λ (tomb : Option ℕ). AllByRecursion (λ (file : ℕ). nat_eq (n + 1) file ≡ false) ((row.no ∷ option_to_list tomb) ++ flat_map files_of rows)) (sym one.bare)
    (apart row.no (n + 1) (omega (arith, one.file)), files_upto n rows all.1)

generations_upto : (n : ℕ) (rows : List FileRow) → AllByRecursion (IsUpTo n) rows → AllByRecursion (λ (g : ℕ). nat_eq (n + 1) g ≡ false) (generations_of rows)
generations_upto n [] all = tt
generations_upto n (row ∷ rows) all = let one : IsUpTo n row = all.0 in (apart row.generation (n + 1) (omega (arith, one.generation)), generations_upto n rows all.1)

-- the next row may be put in
pub may_enter : (n whole : ℕ) (table : Table) (row : FileRow) → HasRows n whole table → n < whole → row.no ≡ n + 1 → row.tomb ≡ None → row.holds ≡ 0 → MayEnter row table
unfolding IsDistinct
may_enter n whole table row has left file bare idle =
    let files : AllByRecursion (λ (f : ℕ). nat_eq (n + 1) f ≡ false) (names table) =
    subst (λ (l : List ℕ). AllByRecursion (λ (f : ℕ). nat_eq (n + 1) f ≡ false) (flat_map files_of table.rows ++ l)) (sym (ap numbers_of has.none))
    (subst (AllByRecursion (λ (f : ℕ). nat_eq (n + 1) f ≡ false)) (sym (append-nil (flat_map files_of table.rows))) (files_upto n table.rows (recursion_from_All (IsUpTo n) table.rows has.upto))) in
    let fresh : IsDistinct nat_eq ((n + 1) ∷ names table) = (files, has.sound.once) in
    record {
      room = omega (arith, has.room);
      idle = idle;
      files = subst (λ (f : ℕ). IsDistinct nat_eq ((f ∷ option_to_list row.tomb) ++ names table)) (sym file)
          (subst (λ (tomb : Option ℕ). IsDistinct nat_eq (((n + 1) ∷ option_to_list tomb) ++ names table)) (sym bare) fresh);
    }

pub new_generation : (n whole : ℕ) (table : Table) (generation : ℕ) → HasRows n whole table → generation ≡ n + 1 → IsNewGeneration generation table
unfolding IsDistinct
new_generation n whole table generation has is =
    let rising = has.sound.ascending in
    let once : IsDistinct nat_eq (generations_of table.rows) = IsDistinct-from_apart nat_eq (generations_of table.rows) (λ i j d g h.
    let below = below_from_sorted (generations_of table.rows) i j d (sorted_from_strictly_increasing (generations_of table.rows) rising) g h in grind (arith, below)) in
    let fresh : IsDistinct nat_eq ((n + 1) ∷ generations_of table.rows) = (generations_upto n table.rows (recursion_from_All (IsUpTo n) table.rows has.upto), once) in
    subst (λ (g : ℕ). IsDistinct nat_eq (g ∷ generations_of table.rows)) (sym is) fresh

-- one row more was put in
pub one_more : (n whole : ℕ) (old new : Table) (row : FileRow) → HasRows n whole old → Places row old new → IsTable new → row.no ≡ n + 1 → row.generation ≡ n + 1 → row.tomb ≡ None
    → HasRows (n + 1) whole new
one_more n whole old new row has placed sound file generation bare = record {
  sound = sound;
  counted = length_permutation (row ∷ old.rows) new.rows placed.rows ∙ (omega (arith, has.counted));
  upto = All-permutation (IsUpTo (n + 1)) (row ∷ old.rows) new.rows placed.rows
      (All-cons (IsUpTo (n + 1)) row old.rows (record { file = omega (arith, file); generation = omega (arith, generation); bare = bare })
      (All-weaker (IsUpTo n) (IsUpTo (n + 1)) (λ other upto. record { file = omega (arith, upto.file); generation = omega (arith, upto.generation); bare = upto.bare }) old.rows has.upto));
  none = ap (λ (t : Table). t.condemned) placed.same ∙ has.none;
  room = omega (arith, placed.room, has.room);
}
