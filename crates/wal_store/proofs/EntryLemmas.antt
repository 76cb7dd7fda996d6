-- An entry is read of bytes in one way.
use Rattle.std.proofs.Common.{◌≡◌, ◌≢◌, ℕ, ℤ, Bool, true, false, cond, ◌+◌, ◌^◌, ◌<◌, ◌≤◌, List, [], ◌∷◌, ◌++◌, length, get_or, drop, refl, sym, ap, subst, ◌∙◌, arith, w64, FitsSigned}
use Rattle.std.proofs.lemmas.List.{append-nil, length-append}
use Rattle.fixed_width.specs.Fields.{bytes_of_u32, bytes_of_i64}
use Rattle.fixed_width.proofs.Fronts.{length-u32, length-i64, same_u32, same_i64}
use Rattle.tsdb_types.specs.Moments.{IsMoment}
use Rattle.tsdb_types.specs.declared.point.Point.{Point}
use Rattle.point_model.specs.Conditions.{Condition}
use Rattle.point_model.specs.declared.deletion.Deletion.{Deletion}
use Rattle.point_model.specs.declared.entry.Entry.{Entry}
use Rattle.point_model.specs.declared.entry.Entry.TheVariants.{Write, Delete}
use Rattle.std.specs.Str.{bytes_eq}
use Rattle.wal_store.specs.Form.{text_bytes, groups_bytes, points_of, Group, AreGroups, IsNameText}
use Rattle.wal_store.specs.Runs.{runs_of, with_first, entry_bytes, IsWritable}
use Rattle.wal_store.specs.Conditions.{condition_bytes, IsCondition}
use Rattle.wal_store.specs.Spelling.{Spells, SpellsBehind, SpellsPoints, SpellsDeletion, IsDeletion, deletion_bytes, most_nested}
use Rattle.wal_store.proofs.TextLemmas.{same_text}
use Rattle.wal_store.proofs.PointLemmas.{moment_fits}
use Rattle.wal_store.proofs.GroupLemmas.{same_points}
use Rattle.wal_store.proofs.ConditionLemmas.{same_condition}

-- ---- two moments

abbrev pub BeginsNoBounds : List ℕ → Type 0
BeginsNoBounds bytes = (from to : ℤ) → IsMoment from → IsMoment to → bytes ≢ bytes_of_i64 from ++ bytes_of_i64 to

bounds_long : (from to : ℤ) → length (bytes_of_i64 from ++ bytes_of_i64 to) ≡ 16
bounds_long from to = omega (arith, length-append (bytes_of_i64 from) (bytes_of_i64 to), length-i64 from, length-i64 to)

pub other_long : (bytes : List ℕ) → (length bytes ≡ 16 → ⊥) → BeginsNoBounds bytes
other_long bytes other from to one two is = other (ap length is ∙ bounds_long from to)

pub second_long : (bytes behind : List ℕ) (n : ℤ) → bytes ≡ bytes_of_i64 n ++ behind → (length behind ≡ 8 → ⊥) → BeginsNoBounds bytes
second_long bytes behind n found other = other_long bytes (λ long. other (omega (arith, long, ap length found, length-append (bytes_of_i64 n) behind, length-i64 n)))

pub third_long : (bytes behind rest : List ℕ) (n m : ℤ) → bytes ≡ bytes_of_i64 n ++ behind → behind ≡ bytes_of_i64 m ++ rest → (length rest ≡ 0 → ⊥) → BeginsNoBounds bytes
third_long bytes behind rest n m found also other = second_long bytes behind n found (λ long. other (omega (arith, long, ap length also, length-append (bytes_of_i64 m) rest, length-i64 m)))

pub no_from : (bytes behind : List ℕ) (n : ℤ) → FitsSigned w64 n → bytes ≡ bytes_of_i64 n ++ behind → (IsMoment n → ⊥) → BeginsNoBounds bytes
no_from bytes behind n fits found none from to one two is =
    none (subst IsMoment (sym (same_i64 n from behind (bytes_of_i64 to) fits (moment_fits from one) (sym found ∙ is)).0) one)

pub no_to : (bytes behind rest : List ℕ) (n m : ℤ) → FitsSigned w64 n → FitsSigned w64 m → bytes ≡ bytes_of_i64 n ++ behind → behind ≡ bytes_of_i64 m ++ rest → (IsMoment m → ⊥) → BeginsNoBounds bytes
no_to bytes behind rest n m fits also found second none from to one two is =
    let first = same_i64 n from behind (bytes_of_i64 to) fits (moment_fits from one) (sym found ∙ is) in
    none (subst IsMoment (sym (same_i64 m to rest [] also (moment_fits to two) (sym second ∙ first.1 ∙ sym (append-nil (bytes_of_i64 to)))).0) two)

empty_of : (xs : List ℕ) → length xs ≡ 0 → xs ≡ []
empty_of [] e = refl
empty_of (x ∷ xs) e = absurd (omega (arith, e))

pub whole_bounds : (bytes behind rest : List ℕ) (n m : ℤ) → bytes ≡ bytes_of_i64 n ++ behind → behind ≡ bytes_of_i64 m ++ rest → length rest ≡ 0 → bytes ≡ bytes_of_i64 n ++ bytes_of_i64 m
whole_bounds bytes behind rest n m found second none =
    found ∙ ap (λ (l : List ℕ). bytes_of_i64 n ++ l) (second ∙ ap (λ (l : List ℕ). bytes_of_i64 m ++ l) (empty_of rest none) ∙ append-nil (bytes_of_i64 m))

-- ---- a deletion

pub no_measurement : (bytes : List ℕ) → ((text rest : List ℕ) → IsNameText text → bytes ≢ text_bytes text ++ rest) → (deletion : Deletion) → SpellsDeletion deletion bytes → ⊥
no_measurement bytes none deletion spells =
    none deletion.measurement (condition_bytes deletion.tags ++ (bytes_of_i64 deletion.from ++ bytes_of_i64 deletion.to)) spells.is.measurement spells.spelling

behind_measurement : (bytes name behind : List ℕ) → bytes ≡ text_bytes name ++ behind → IsNameText name → (deletion : Deletion) → SpellsDeletion deletion bytes
    → (name ≡ deletion.measurement) × (behind ≡ condition_bytes deletion.tags ++ (bytes_of_i64 deletion.from ++ bytes_of_i64 deletion.to))
behind_measurement bytes name behind found named deletion spells =
    same_text name deletion.measurement behind (condition_bytes deletion.tags ++ (bytes_of_i64 deletion.from ++ bytes_of_i64 deletion.to)) named.room.short spells.is.measurement.room.short (sym found ∙ spells.spelling)

pub no_tags : (bytes name behind : List ℕ) → bytes ≡ text_bytes name ++ behind → IsNameText name → ((condition : Condition) (rest : List ℕ) → IsCondition most_nested condition → behind ≢ condition_bytes condition ++ rest)
    → (deletion : Deletion) → SpellsDeletion deletion bytes → ⊥
no_tags bytes name behind found named none deletion spells =
    none deletion.tags (bytes_of_i64 deletion.from ++ bytes_of_i64 deletion.to) spells.is.tags (behind_measurement bytes name behind found named deletion spells).1

behind_tags : (bytes name behind rest : List ℕ) (tags : Condition) → bytes ≡ text_bytes name ++ behind → IsNameText name → behind ≡ condition_bytes tags ++ rest → IsCondition most_nested tags → (deletion : Deletion) → SpellsDeletion deletion bytes
    → (tags ≡ deletion.tags) × (rest ≡ bytes_of_i64 deletion.from ++ bytes_of_i64 deletion.to)
behind_tags bytes name behind rest tags found named also ok deletion spells =
    same_condition tags deletion.tags rest (bytes_of_i64 deletion.from ++ bytes_of_i64 deletion.to) ok.comparisons spells.is.tags.comparisons (sym also ∙ (behind_measurement bytes name behind found named deletion spells).1)

pub no_bounds : (bytes name behind rest : List ℕ) (tags : Condition) → bytes ≡ text_bytes name ++ behind → IsNameText name → behind ≡ condition_bytes tags ++ rest → IsCondition most_nested tags → BeginsNoBounds rest
    → (deletion : Deletion) → SpellsDeletion deletion bytes → ⊥
no_bounds bytes name behind rest tags found named also ok none deletion spells =
    none deletion.from deletion.to spells.is.from spells.is.to (behind_tags bytes name behind rest tags found named also ok deletion spells).1

same_fields : (a b : Deletion) → a.measurement ≡ b.measurement → a.tags ≡ b.tags → a.from ≡ b.from → a.to ≡ b.to → a ≡ b
same_fields a b measurement tags from to = λ i. record { measurement = measurement i; tags = tags i; from = from i; to = to i }

same_deletion : (a b : Deletion) (bytes : List ℕ) → SpellsDeletion a bytes → SpellsDeletion b bytes → a ≡ b
same_deletion a b bytes x y =
    let behind : List ℕ = condition_bytes a.tags ++ (bytes_of_i64 a.from ++ bytes_of_i64 a.to) in
    let rest : List ℕ = bytes_of_i64 a.from ++ bytes_of_i64 a.to in
    let name = behind_measurement bytes a.measurement (condition_bytes a.tags ++ (bytes_of_i64 a.from ++ bytes_of_i64 a.to)) x.spelling x.is.measurement b y in
    let tags = behind_tags bytes a.measurement (condition_bytes a.tags ++ (bytes_of_i64 a.from ++ bytes_of_i64 a.to)) (bytes_of_i64 a.from ++ bytes_of_i64 a.to) a.tags x.spelling x.is.measurement refl x.is.tags b y in
    let from = same_i64 a.from b.from (bytes_of_i64 a.to) (bytes_of_i64 b.to) (moment_fits a.from x.is.from) (moment_fits b.from y.is.from) tags.1 in
    let to = same_i64 a.to b.to [] [] (moment_fits a.to x.is.to) (moment_fits b.to y.is.to) (ap (λ (l : List ℕ). l ++ []) from.1) in
    same_fields a b name.0 tags.0 from.0 to.0

-- ---- an entry

-- what stands behind the client
abbrev pub Behind : Entry → ℕ → List ℕ → Type 0
Behind (Write client points) n rest = (body : List ℕ) × (rest ≡ 1 ∷ body) × (n ≡ client) × SpellsPoints points body
Behind (Delete client deletion) n rest = (body : List ℕ) × (rest ≡ 2 ∷ body) × (n ≡ client) × SpellsDeletion deletion body

behind_client : (entry : Entry) (bytes rest : List ℕ) (n : ℕ) → n < 2 ^ 32 → bytes ≡ bytes_of_u32 n ++ rest → SpellsBehind entry bytes → Behind entry n rest
behind_client (Write client points) bytes rest n fits found is =
    let both = same_u32 n client rest (1 ∷ is.0) fits is.2 (sym found ∙ is.1) in (is.0, both.1, both.0, is.3)
behind_client (Delete client deletion) bytes rest n fits found is =
    let both = same_u32 n client rest (2 ∷ is.0) fits is.2 (sym found ∙ is.1) in (is.0, both.1, both.0, is.3)

pub too_long : (bytes : List ℕ) → 2 ^ 30 < 8 + length bytes → (entry : Entry) → Spells entry bytes → ⊥
too_long bytes long entry spells = omega (arith, long, spells.short)

cut_behind : (entry : Entry) (bytes : List ℕ) → length bytes < 4 → SpellsBehind entry bytes → ⊥
cut_behind (Write client points) bytes short is = omega (arith, short, ap length is.1, length-append (bytes_of_u32 client) (1 ∷ is.0), length-u32 client)
cut_behind (Delete client deletion) bytes short is = omega (arith, short, ap length is.1, length-append (bytes_of_u32 client) (2 ∷ is.0), length-u32 client)

pub no_client : (bytes : List ℕ) → length bytes < 4 → (entry : Entry) → Spells entry bytes → ⊥
no_client bytes short entry spells = cut_behind entry bytes short spells.body

kindless : (entry : Entry) (n : ℕ) (rest : List ℕ) → rest ≡ [] → Behind entry n rest → ⊥
kindless (Write client points) n rest none is = omega (arith, ap length (sym none ∙ is.1))
kindless (Delete client deletion) n rest none is = omega (arith, ap length (sym none ∙ is.1))

pub no_kind : (bytes rest : List ℕ) (n : ℕ) → n < 2 ^ 32 → bytes ≡ bytes_of_u32 n ++ rest → rest ≡ [] → (entry : Entry) → Spells entry bytes → ⊥
no_kind bytes rest n fits found none entry spells = kindless entry n rest none (behind_client entry bytes rest n fits found spells.body)

head_of : (kind k : ℕ) (body tail rest : List ℕ) → rest ≡ kind ∷ body → rest ≡ k ∷ tail → (kind ≡ k) × (body ≡ tail)
head_of kind k body tail rest one two = (ap (λ (l : List ℕ). get_or l 0 0) (sym one ∙ two), ap (λ (l : List ℕ). drop 1 l) (sym one ∙ two))

writeless : (entry : Entry) (n kind : ℕ) (rest body : List ℕ) → rest ≡ kind ∷ body → kind ≡ 1 → ((points : List Point) → SpellsPoints points body → ⊥) → Behind entry n rest → ⊥
writeless (Write client points) n kind rest body first one none is = none points (subst (SpellsPoints points) (sym (head_of kind 1 body is.0 rest first is.1).1) is.3)
writeless (Delete client deletion) n kind rest body first one none is = omega (arith, one, (head_of kind 2 body is.0 rest first is.1).0)

pub no_write : (bytes rest body : List ℕ) (n kind : ℕ) → n < 2 ^ 32 → bytes ≡ bytes_of_u32 n ++ rest → rest ≡ kind ∷ body → kind ≡ 1 → ((points : List Point) → SpellsPoints points body → ⊥) → (entry : Entry) → Spells entry bytes → ⊥
no_write bytes rest body n kind fits found first one none entry spells = writeless entry n kind rest body first one none (behind_client entry bytes rest n fits found spells.body)

deleteless : (entry : Entry) (n kind : ℕ) (rest body : List ℕ) → rest ≡ kind ∷ body → kind ≡ 2 → ((deletion : Deletion) → SpellsDeletion deletion body → ⊥) → Behind entry n rest → ⊥
deleteless (Write client points) n kind rest body first two none is = omega (arith, two, (head_of kind 1 body is.0 rest first is.1).0)
deleteless (Delete client deletion) n kind rest body first two none is = none deletion (subst (SpellsDeletion deletion) (sym (head_of kind 2 body is.0 rest first is.1).1) is.3)

pub no_delete : (bytes rest body : List ℕ) (n kind : ℕ) → n < 2 ^ 32 → bytes ≡ bytes_of_u32 n ++ rest → rest ≡ kind ∷ body → kind ≡ 2 → ((deletion : Deletion) → SpellsDeletion deletion body → ⊥) → (entry : Entry) → Spells entry bytes → ⊥
no_delete bytes rest body n kind fits found first two none entry spells = deleteless entry n kind rest body first two none (behind_client entry bytes rest n fits found spells.body)

strange : (entry : Entry) (n kind : ℕ) (rest body : List ℕ) → rest ≡ kind ∷ body → (kind ≡ 1 → ⊥) → (kind ≡ 2 → ⊥) → Behind entry n rest → ⊥
strange (Write client points) n kind rest body first one two is = one (head_of kind 1 body is.0 rest first is.1).0
strange (Delete client deletion) n kind rest body first one two is = two (head_of kind 2 body is.0 rest first is.1).0

pub no_other : (bytes rest body : List ℕ) (n kind : ℕ) → n < 2 ^ 32 → bytes ≡ bytes_of_u32 n ++ rest → rest ≡ kind ∷ body → (kind ≡ 1 → ⊥) → (kind ≡ 2 → ⊥) → (entry : Entry) → Spells entry bytes → ⊥
no_other bytes rest body n kind fits found first one two entry spells = strange entry n kind rest body first one two (behind_client entry bytes rest n fits found spells.body)

pub is_write : (bytes rest body : List ℕ) (n kind : ℕ) (points : List Point) → n < 2 ^ 32 → 8 + length bytes ≤ 2 ^ 30 → bytes ≡ bytes_of_u32 n ++ rest → rest ≡ kind ∷ body → kind ≡ 1 → SpellsPoints points body → Spells (Write n points) bytes
is_write bytes rest body n kind points fits short found first one spells = record {
  short = short;
  body = (body, found ∙ ap (λ (l : List ℕ). bytes_of_u32 n ++ l) (first ∙ ap (λ (k : ℕ). k ∷ body) one), fits, spells);
}

pub is_delete : (bytes rest body : List ℕ) (n kind : ℕ) (deletion : Deletion) → n < 2 ^ 32 → 8 + length bytes ≤ 2 ^ 30 → bytes ≡ bytes_of_u32 n ++ rest → rest ≡ kind ∷ body → kind ≡ 2 → SpellsDeletion deletion body → Spells (Delete n deletion) bytes
is_delete bytes rest body n kind deletion fits short found first two spells = record {
  short = short;
  body = (body, found ∙ ap (λ (l : List ℕ). bytes_of_u32 n ++ l) (first ∙ ap (λ (k : ℕ). k ∷ body) two), fits, spells);
}

same_behind : (a b : Entry) (bytes : List ℕ) → SpellsBehind a bytes → SpellsBehind b bytes → a ≡ b
same_behind (Write c ps) b bytes x y = same_write b (behind_client b bytes (1 ∷ x.0) c x.2 x.1 y)
  where
    same_write : (b : Entry) → Behind b c (1 ∷ x.0) → Write c ps ≡ b
    same_write (Write client points) is = let e = same_points ps points x.0 x.3 (subst (SpellsPoints points) (sym (head_of 1 1 x.0 is.0 (1 ∷ x.0) refl is.1).1) is.3) in λ i. Write (is.2 i) (e i)
    same_write (Delete client deletion) is = absurd (omega (arith, (head_of 1 2 x.0 is.0 (1 ∷ x.0) refl is.1).0))
same_behind (Delete c d) b bytes x y = same_delete b (behind_client b bytes (2 ∷ x.0) c x.2 x.1 y)
  where
    same_delete : (b : Entry) → Behind b c (2 ∷ x.0) → Delete c d ≡ b
    same_delete (Write client points) is = absurd (omega (arith, (head_of 2 1 x.0 is.0 (2 ∷ x.0) refl is.1).0))
    same_delete (Delete client deletion) is = let e = same_deletion d deletion x.0 x.3 (subst (SpellsDeletion deletion) (sym (head_of 2 2 x.0 is.0 (2 ∷ x.0) refl is.1).1) is.3) in λ i. Delete (is.2 i) (e i)

pub same_entry : (a b : Entry) (bytes : List ℕ) → Spells a bytes → Spells b bytes → a ≡ b
same_entry a b bytes x y = same_behind a b bytes x.body y.body

-- ---- what is written

first_choice : (b : Bool) (point : Point) (group : Group) (groups : List Group)
    → points_of (cond b (record { series = group.series; points = point ∷ group.points } ∷ groups) (record { series = point.cell.series; points = point ∷ [] } ∷ group ∷ groups)) ≡ point ∷ points_of (group ∷ groups)
first_choice true point group groups = refl
first_choice false point group groups = refl

first_points : (point : Point) (groups : List Group) → points_of (with_first point groups) ≡ point ∷ points_of groups
first_points point [] = refl
first_points point (group ∷ groups) = first_choice (bytes_eq point.cell.series group.series) point group groups

-- the runs have the points in their order
pub runs_whole : (points : List Point) → points_of (runs_of points) ≡ points
runs_whole [] = refl
runs_whole (point ∷ points) = first_points point (runs_of points) ∙ ap (λ (ps : List Point). point ∷ ps) (runs_whole points)

pub spelled_write : (entry : Entry) (client : ℕ) (points : List Point) → entry ≡ Write client points → client < 2 ^ 32 → IsWritable entry → AreGroups (runs_of points) → Spells entry (entry_bytes entry)
spelled_write entry client points is fits writable are =
    subst (λ (e : Entry). Spells e (entry_bytes e)) (sym is) (record {
      short = (subst IsWritable is writable).short;
      body = (groups_bytes (runs_of points), refl, fits, record { groups = runs_of points; are = are; all = sym (runs_whole points); spelling = refl });
    })

pub spelled_delete : (entry : Entry) (client : ℕ) (deletion : Deletion) → entry ≡ Delete client deletion → client < 2 ^ 32 → IsWritable entry → IsDeletion deletion → Spells entry (entry_bytes entry)
spelled_delete entry client deletion is fits writable are =
    subst (λ (e : Entry). Spells e (entry_bytes e)) (sym is) (record {
      short = (subst IsWritable is writable).short;
      body = (deletion_bytes deletion, refl, fits, record { is = are; spelling = refl });
    })
