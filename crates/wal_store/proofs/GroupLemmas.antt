-- Runs of points and groups are put in order, and read off the front of bytes in one way.
use Rattle.std.proofs.Common.{◌≡◌, ◌≢◌, ℕ, zero, suc, get_or, ◌+◌, ◌^◌, ◌<◌, ◌≤◌, Bool, true, false, cond, List, [], ◌∷◌, ◌++◌, length, take, drop, refl, sym, ap, subst, ◌∙◌, arith}
use Rattle.std.specs.List.{flat_map, AllByRecursion}
use Rattle.std.specs.Str.{bytes_eq}
use Rattle.std.proofs.lemmas.List.{append_assoc, append-nil, length-append, take_more}
use Rattle.std.proofs.Math.Seq.{drop-cons}
use Rattle.std.proofs.lemmas.Slice.Eq.{bytes_eq-Decides}
use Rattle.fixed_width.specs.Fields.{bytes_of_u16, bytes_of_u32, bytes_of_i64}
use Rattle.fixed_width.proofs.Fronts.{length-u16, length-u32, same_u32}
use Rattle.tsdb_types.specs.Series.{IsSeriesText}
use Rattle.tsdb_types.specs.declared.point.Point.{Point}
use Rattle.wal_store.specs.Form.{Group, text_bytes, value_bytes, group_bytes, groups_bytes, point_bytes, points_of, AreGroups, IsGroup, IsPointOf, IsText}
use Rattle.wal_store.specs.Runs.{runs_of, with_first, HasShortTexts}
use Rattle.wal_store.specs.Spelling.{SpellsPoints}
use Rattle.wal_store.specs.Taking.{AreGroupsOf, AreOf, BeginsOther, IsRunFirst, TakesGroup, TakesPoints}
use Rattle.wal_store.proofs.TextLemmas.{same_text}
use Rattle.wal_store.proofs.ListLemmas.{Took, took_none, took_one, stuck_none, left_none, same_items, few_items, all_push}
use Rattle.wal_store.proofs.PointLemmas.{same_point, point_parts}

-- ---- runs

eq_true : (a b : List ℕ) → a ≡ b → bytes_eq a b ≡ true
eq_true a b is = (bytes_eq-Decides a b).1 is

bool_false : (b : Bool) → (b ≡ true → ⊥) → b ≡ false
bool_false true none = absurd (none refl)
bool_false false none = refl

eq_false : (a b : List ℕ) → (a ≡ b → ⊥) → bytes_eq a b ≡ false
eq_false a b not_is = bool_false (bytes_eq a b) (λ is. not_is ((bytes_eq-Decides a b).0 is))

-- the first group is of the first point's series
pub record StartsWith (series : List ℕ) (groups : List Group) : Type 0 where
  pub points : List Point
  pub others : List Group
  pub whole : groups ≡ record { series = series; points = points } ∷ others

starts_choice : (b : Bool) (point : Point) (group : Group) (groups : List Group) → (b ≡ true → point.cell.series ≡ group.series)
    → StartsWith point.cell.series (cond b (record { series = group.series; points = point ∷ group.points } ∷ groups) (record { series = point.cell.series; points = point ∷ [] } ∷ group ∷ groups))
starts_choice true point group groups same = let e = same refl in record { points = point ∷ group.points; others = groups; whole = λ i. record { series = sym e i; points = point ∷ group.points } ∷ groups }
starts_choice false point group groups same = record { points = point ∷ []; others = group ∷ groups; whole = refl }

same_of_eq : (a b : List ℕ) → bytes_eq a b ≡ true → a ≡ b
same_of_eq a b is = (bytes_eq-Decides a b).0 is

pub starts : (point : Point) (groups : List Group) → StartsWith point.cell.series (with_first point groups)
starts point [] = record { points = point ∷ []; others = []; whole = refl }
starts point (group ∷ groups) = starts_choice (bytes_eq point.cell.series group.series) point group groups (same_of_eq point.cell.series group.series)

-- a point before groups of its series, and before those of another
pub joins : (point : Point) (series : List ℕ) (points : List Point) (others : List Group) → point.cell.series ≡ series
    → with_first point (record { series = series; points = points } ∷ others) ≡ record { series = series; points = point ∷ points } ∷ others
joins point series points others same =
    ap (λ (b : Bool). cond b (record { series = series; points = point ∷ points } ∷ others) (record { series = point.cell.series; points = point ∷ [] } ∷ record { series = series; points = points } ∷ others)) (eq_true point.cell.series series same)

alone : (point : Point) (series : List ℕ) (points : List Point) (others : List Group) → (point.cell.series ≡ series → ⊥)
    → with_first point (record { series = series; points = points } ∷ others) ≡ record { series = point.cell.series; points = point ∷ [] } ∷ record { series = series; points = points } ∷ others
alone point series points others other =
    ap (λ (b : Bool). cond b (record { series = series; points = point ∷ points } ∷ others) (record { series = point.cell.series; points = point ∷ [] } ∷ record { series = series; points = points } ∷ others)) (eq_false point.cell.series series other)

last_of_run : (series : List ℕ) (point : Point) (behind : List Point) → point.cell.series ≡ series → BeginsOther series behind
    → runs_of (point ∷ behind) ≡ record { series = series; points = point ∷ [] } ∷ runs_of behind
last_of_run series point [] same next = λ i. record { series = same i; points = point ∷ [] } ∷ []
last_of_run series point (other ∷ behind) same next =
    let first = starts other (runs_of behind) in
    ap (with_first point) first.whole
    ∙ alone point other.cell.series first.points first.others (λ is. next (sym is ∙ same))
    ∙ ap (λ (gs : List Group). record { series = point.cell.series; points = point ∷ [] } ∷ gs) (sym first.whole)
    ∙ (λ i. record { series = same i; points = point ∷ [] } ∷ runs_of (other ∷ behind))

run_is : (series : List ℕ) (point : Point) (run behind : List Point) → AreOf series (point ∷ run) → BeginsOther series behind
    → runs_of (point ∷ (run ++ behind)) ≡ record { series = series; points = point ∷ run } ∷ runs_of behind
run_is series point [] behind same next = last_of_run series point behind same.0 next
run_is series point (second ∷ run) behind same next =
    ap (with_first point) (run_is series second run behind same.1 next) ∙ joins point series (second ∷ run) (runs_of behind) same.0

-- the runs of points that begin with a run
pub run_first : (series : List ℕ) (run behind points : List Point) → IsRunFirst series run behind points → runs_of points ≡ record { series = series; points = run } ∷ runs_of behind
run_first series [] behind points is = absurd (is.some refl)
run_first series (point ∷ run) behind points is = ap runs_of is.whole ∙ run_is series point run behind is.same is.next

some_long : (run : List Point) → run ≢ [] → 1 ≤ length run
some_long [] some = absurd (some refl)
some_long (x ∷ xs) some = omega arith

pub run_shorter : (series : List ℕ) (run behind points : List Point) → IsRunFirst series run behind points → length behind < length points
run_shorter series run behind points is = omega (arith, ap length is.whole, length-append run behind, some_long run is.some)

-- ---- many groups and points take as many bytes at least

pub group_some : (group : Group) → 1 ≤ length (group_bytes group)
group_some group =
    omega (arith, length-append (text_bytes group.series) (bytes_of_u32 (length group.points) ++ flat_map point_bytes group.points), length-append (bytes_of_u16 (length group.series)) group.series, length-u16 (length group.series))

pub point_some : (point : Point) → 1 ≤ length (point_bytes point)
point_some point =
    omega (
      arith,
      ap length (append-nil (point_bytes point)),
      ap length (point_parts point []),
      length-append (text_bytes point.cell.field) (bytes_of_i64 point.cell.time ++ (value_bytes point.value ++ [])),
      length-append (bytes_of_u16 (length point.cell.field)) point.cell.field,
      length-u16 (length point.cell.field),
    )

pub few_groups : (groups : List Group) → length groups ≤ length (groups_bytes groups)
few_groups groups = omega (arith, few_items Group group_bytes group_some groups, length-append (bytes_of_u32 (length groups)) (flat_map group_bytes groups))

first_within : (group : Group) (groups : List Group) → length group.points ≤ length (groups_bytes (group ∷ groups))
first_within group groups =
    omega (
      arith,
      few_items Point point_bytes point_some group.points,
      length-append (bytes_of_u32 (length (group ∷ groups))) (flat_map group_bytes (group ∷ groups)),
      length-append (group_bytes group) (flat_map group_bytes groups),
      length-append (text_bytes group.series) (bytes_of_u32 (length group.points) ++ flat_map point_bytes group.points),
      length-append (bytes_of_u32 (length group.points)) (flat_map point_bytes group.points),
    )

-- the bytes of runs that are left
pub rest_within : (group : Group) (groups : List Group) → length (groups_bytes groups) ≤ length (groups_bytes (group ∷ groups))
rest_within group groups =
    omega (
      arith,
      length-u32 (length groups),
      length-u32 (length (group ∷ groups)),
      length-append (bytes_of_u32 (length groups)) (flat_map group_bytes groups),
      length-append (bytes_of_u32 (length (group ∷ groups))) (flat_map group_bytes (group ∷ groups)),
      length-append (group_bytes group) (flat_map group_bytes groups),
    )

-- ---- what is put

short_front : (run behind : List Point) → AllByRecursion HasShortTexts (run ++ behind) → AllByRecursion HasShortTexts run × AllByRecursion HasShortTexts behind
short_front [] behind all = (tt, all)
short_front (x ∷ xs) behind all = let both = short_front xs behind all.1 in ((all.0, both.0), both.1)

-- where the runs from here on are put: the points that are left, and how
pub record Puts (points : List Point) (before out : List ℕ) (rest : List Point) : Type 0 where
  pub done : List Group
  pub are : AllByRecursion IsGroup done
  pub put : out ≡ before ++ flat_map group_bytes done
  pub whole : runs_of points ≡ done ++ runs_of rest
  pub short : AllByRecursion HasShortTexts rest

pub puts_none : (points : List Point) (before : List ℕ) → AllByRecursion HasShortTexts points → Puts points before before points
puts_none points before short = record { done = []; are = tt; put = sym (append-nil before); whole = refl; short = short }

flat_push : (groups : List Group) (group : Group) → flat_map group_bytes (groups ++ group ∷ []) ≡ flat_map group_bytes groups ++ group_bytes group
flat_push [] group = append-nil (group_bytes group)
flat_push (x ∷ xs) group = ap (λ (l : List ℕ). group_bytes x ++ l) (flat_push xs group) ∙ sym (append_assoc (group_bytes x) (flat_map group_bytes xs) (group_bytes group))

pub puts_one : (points : List Point) (before out next : List ℕ) (rest run behind : List Point) (series : List ℕ) → Puts points before out rest → IsRunFirst series run behind rest
    → next ≡ out ++ group_bytes (record { series = series; points = run }) → IsGroup (record { series = series; points = run }) → Puts points before next behind
puts_one points before out next rest run behind series puts is put one = record {
  done = puts.done ++ group ∷ [];
  are = all_push Group IsGroup puts.done group puts.are one;
  put = put ∙ ap (λ (l : List ℕ). l ++ group_bytes group) puts.put ∙ append_assoc before (flat_map group_bytes puts.done) (group_bytes group) ∙ ap (λ (l : List ℕ). before ++ l) (sym (flat_push puts.done group));
  whole = puts.whole ∙ ap (λ (l : List Group). puts.done ++ l) (run_first series run behind rest is) ∙ sym (append_assoc puts.done (group ∷ []) (runs_of behind));
  short = (short_front run behind (subst (AllByRecursion HasShortTexts) is.whole puts.short)).1;
}
  where
    group : Group
    group = record { series = series; points = run }

-- what the next run asks for
pub run_short : (points : List Point) (before out : List ℕ) (rest run behind : List Point) (series : List ℕ) → Puts points before out rest → IsRunFirst series run behind rest → AllByRecursion HasShortTexts run
run_short points before out rest run behind series puts is = (short_front run behind (subst (AllByRecursion HasShortTexts) is.whole puts.short)).0

within_done : (done : List Group) (groups : List Group) → length (flat_map group_bytes groups) ≤ length (flat_map group_bytes (done ++ groups))
within_done [] groups = omega arith
within_done (x ∷ xs) groups = omega (arith, within_done xs groups, length-append (group_bytes x) (flat_map group_bytes (xs ++ groups)))

pub run_few : (points : List Point) (before out : List ℕ) (rest run behind : List Point) (series : List ℕ) → Puts points before out rest → IsRunFirst series run behind rest → length (groups_bytes (runs_of points)) < 2 ^ 32
    → length run < 2 ^ 32
run_few points before out rest run behind series puts is few =
    let group : Group = record { series = series; points = run } in
    let all : runs_of points ≡ puts.done ++ (group ∷ runs_of behind) = puts.whole ∙ ap (λ (l : List Group). puts.done ++ l) (run_first series run behind rest is) in
    omega (
      arith,
      few,
      ap (λ (l : List Group). length (groups_bytes l)) all,
      length-append (bytes_of_u32 (length (puts.done ++ (group ∷ runs_of behind)))) (flat_map group_bytes (puts.done ++ (group ∷ runs_of behind))),
      length-u32 (length (puts.done ++ (group ∷ runs_of behind))),
      within_done puts.done (group ∷ runs_of behind),
      first_within group (runs_of behind),
      length-append (bytes_of_u32 (length (group ∷ runs_of behind))) (flat_map group_bytes (group ∷ runs_of behind)),
      length-u32 (length (group ∷ runs_of behind)),
    )

no_runs : (rest : List Point) (groups : List Group) (done : List Group) → rest ≡ [] → groups ≡ done ++ runs_of rest → groups ≡ done
no_runs rest groups done none whole = whole ∙ ap (λ (l : List Point). done ++ runs_of l) none ∙ append-nil done

pub puts_all : (points : List Point) (first before out : List ℕ) (count : ℕ) (rest : List Point) → Puts points before out rest → rest ≡ [] → before ≡ first ++ bytes_of_u32 count → count ≡ length (runs_of points) → out ≡ first ++ groups_bytes (runs_of points)
puts_all points first before out count rest puts none head many =
    puts.put ∙ (λ i. head i ++ flat_map group_bytes (sym (no_runs rest (runs_of points) puts.done none puts.whole) i))
    ∙ append_assoc first (bytes_of_u32 count) (flat_map group_bytes (runs_of points))
    ∙ ap (λ (n : ℕ). first ++ (bytes_of_u32 n ++ flat_map group_bytes (runs_of points))) many

has_run : (point : Point) (groups : List Group) → with_first point groups ≢ []
has_run point groups is = let first = starts point groups in nil_cons first.others (sym is ∙ first.whole)
  where
    nil_cons : {g : Group} (gs : List Group) → [] ≡ g ∷ gs → ⊥
    nil_cons gs e = cc e

has_runs : (points : List Point) → points ≢ [] → runs_of points ≢ []
has_runs [] some = absurd (some refl)
has_runs (point ∷ points) some = has_run point (runs_of points)

pub are_groups : (points : List Point) (before out : List ℕ) (rest : List Point) → Puts points before out rest → rest ≡ [] → points ≢ [] → length (groups_bytes (runs_of points)) < 2 ^ 32 → AreGroups (runs_of points)
are_groups points before out rest puts none some few = record {
  some = has_runs points some;
  many = omega (arith, few_groups (runs_of points), few);
  each = subst (AllByRecursion IsGroup) (sym (no_runs rest (runs_of points) puts.done none puts.whole)) puts.are;
}

-- the text of a series that has points with room has room
pub series_short : (series : List ℕ) (points : List Point) → points ≢ [] → AreOf series points → AllByRecursion HasShortTexts points → length series ≤ 65535
series_short series [] some same short = absurd (some refl)
series_short series (point ∷ points) some same short = omega (arith, ap length same.0, short.0.series)

pub at_of : {X : Type 0} (P : X → Type 0) (xs : List X) (i : ℕ) (d : X) → AllByRecursion P xs → i < length xs → P (get_or xs i d)
at_of P [] i d all less = absurd (omega (arith, less))
at_of P (x ∷ xs) zero d all less = all.0
at_of P (x ∷ xs) (suc i) d all less = at_of P xs i d all.1 (omega (arith, less))

-- ---- what is taken

pub group_parts : (group : Group) (rest : List ℕ) → group_bytes group ++ rest ≡ text_bytes group.series ++ (bytes_of_u32 (length group.points) ++ (flat_map point_bytes group.points ++ rest))
group_parts group rest =
    append_assoc (text_bytes group.series) (bytes_of_u32 (length group.points) ++ flat_map point_bytes group.points) rest
    ∙ ap (λ (l : List ℕ). text_bytes group.series ++ l) (append_assoc (bytes_of_u32 (length group.points)) (flat_map point_bytes group.points) rest)

pub behind_series : (bytes text behind : List ℕ) → bytes ≡ text_bytes text ++ behind → IsText text → (group : Group) (rest : List ℕ) → IsGroup group → bytes ≡ group_bytes group ++ rest
    → (text ≡ group.series) × (behind ≡ bytes_of_u32 (length group.points) ++ (flat_map point_bytes group.points ++ rest))
behind_series bytes text behind found ok group rest is whole =
    same_text text group.series behind (bytes_of_u32 (length group.points) ++ (flat_map point_bytes group.points ++ rest)) ok.short is.text.short (sym found ∙ whole ∙ group_parts group rest)

pub behind_count : (bytes text behind others : List ℕ) (n : ℕ) → bytes ≡ text_bytes text ++ behind → IsText text → behind ≡ bytes_of_u32 n ++ others → n < 2 ^ 32 → (group : Group) (rest : List ℕ) → IsGroup group → bytes ≡ group_bytes group ++ rest
    → (n ≡ length group.points) × (others ≡ flat_map point_bytes group.points ++ rest)
behind_count bytes text behind others n found ok number fits group rest is whole =
    same_u32 n (length group.points) others (flat_map point_bytes group.points ++ rest) fits is.many (sym number ∙ (behind_series bytes text behind found ok group rest is whole).1)

pub same_group : (a b : Group) (r s : List ℕ) → IsGroup a → IsGroup b → group_bytes a ++ r ≡ group_bytes b ++ s → (a ≡ b) × (r ≡ s)
same_group a b r s x y is =
    let text = behind_series (group_bytes a ++ r) a.series (bytes_of_u32 (length a.points) ++ (flat_map point_bytes a.points ++ r)) (group_parts a r) x.text b s y is in
    let count = behind_count (group_bytes a ++ r) a.series (bytes_of_u32 (length a.points) ++ (flat_map point_bytes a.points ++ r)) (flat_map point_bytes a.points ++ r) (length a.points) (group_parts a r) x.text refl x.many b s y is in
    let points = same_items Point point_bytes (IsPointOf a.series) (same_point a.series) a.points b.points r s x.points (subst (λ (t : List ℕ). AllByRecursion (IsPointOf t) b.points) (sym text.0) y.points) count.0 count.1 in
    (λ i. record { series = text.0 i; points = points.0 i }, points.1)

pub no_group_series : (bytes : List ℕ) → ((text rest : List ℕ) → IsText text → IsSeriesText text → bytes ≢ text_bytes text ++ rest) → (group : Group) (rest : List ℕ) → IsGroup group → bytes ≢ group_bytes group ++ rest
no_group_series bytes none group rest is whole = none group.series (bytes_of_u32 (length group.points) ++ (flat_map point_bytes group.points ++ rest)) is.text is.series (whole ∙ group_parts group rest)

pub no_group_count : (bytes text behind : List ℕ) → bytes ≡ text_bytes text ++ behind → IsText text → length behind < 4 → (group : Group) (rest : List ℕ) → IsGroup group → bytes ≢ group_bytes group ++ rest
no_group_count bytes text behind found ok short group rest is whole =
    omega (arith, short, ap length (behind_series bytes text behind found ok group rest is whole).1, length-append (bytes_of_u32 (length group.points)) (flat_map point_bytes group.points ++ rest), length-u32 (length group.points))

pub no_group_points : (bytes text behind others : List ℕ) (n : ℕ) → bytes ≡ text_bytes text ++ behind → IsText text → behind ≡ bytes_of_u32 n ++ others → n < 2 ^ 32 → n ≡ 0 → (group : Group) (rest : List ℕ) → IsGroup group → bytes ≢ group_bytes group ++ rest
no_group_points bytes text behind others n found ok number fits zero_points group rest is whole =
    omega (arith, zero_points, (behind_count bytes text behind others n found ok number fits group rest is whole).0, some_points group.points is.some)
  where
    some_points : (points : List Point) → points ≢ [] → 1 ≤ length points
    some_points [] some = absurd (some refl)
    some_points (x ∷ xs) some = omega arith

pub no_group_items : (bytes text behind others : List ℕ) (n : ℕ) → bytes ≡ text_bytes text ++ behind → IsText text → behind ≡ bytes_of_u32 n ++ others → n < 2 ^ 32
    → ((points : List Point) (rest : List ℕ) → AllByRecursion (IsPointOf text) points → length points ≡ n → others ≢ flat_map point_bytes points ++ rest)
    → (group : Group) (rest : List ℕ) → IsGroup group → bytes ≢ group_bytes group ++ rest
no_group_items bytes text behind others n found ok number fits none group rest is whole =
    let series = behind_series bytes text behind found ok group rest is whole in
    let count = behind_count bytes text behind others n found ok number fits group rest is whole in
    none group.points rest (subst (λ (t : List ℕ). AllByRecursion (IsPointOf t) group.points) (sym series.0) is.points) (sym count.0) count.1

pub takes_group : (bytes text behind others rest : List ℕ) (n : ℕ) (old new : List Point) → bytes ≡ text_bytes text ++ behind → IsText text → IsSeriesText text → behind ≡ bytes_of_u32 n ++ others → n < 2 ^ 32 → (n ≡ 0 → ⊥) → TakesPoints text n others rest old new
    → TakesGroup bytes rest old new
takes_group bytes text behind others rest n old new found ok series number fits some takes = record {
  group = group;
  is = record { text = ok; series = series; some = λ none. some (sym takes.many ∙ ap (λ (l : List Point). length l) none); many = omega (arith, takes.many, fits); points = takes.are };
  whole = found ∙ ap (λ (l : List ℕ). text_bytes text ++ l) (number ∙ (λ i. bytes_of_u32 (sym takes.many i) ++ takes.whole i)) ∙ sym (group_parts group rest);
  pushed = takes.pushed;
}
  where
    group : Group
    group = record { series = text; points = takes.taken }

-- groups that were taken so far, and their points
pub record TookGroups (bytes rest : List ℕ) (count : ℕ) (points : List Point) : Type 0 where
  pub groups : List Group
  pub took : Took Group group_bytes IsGroup bytes groups rest count
  pub all : points ≡ points_of groups

pub took_no_group : (bytes : List ℕ) → TookGroups bytes bytes 0 []
took_no_group bytes = record { groups = []; took = took_none Group group_bytes IsGroup bytes; all = refl }

points_push : (groups : List Group) (group : Group) → points_of (groups ++ group ∷ []) ≡ points_of groups ++ group.points
points_push [] group = append-nil group.points
points_push (x ∷ xs) group = ap (λ (l : List Point). x.points ++ l) (points_push xs group) ∙ sym (append_assoc x.points (points_of xs) group.points)

pub took_group : (bytes rest behind : List ℕ) (count : ℕ) (old new : List Point) → TookGroups bytes rest count old → TakesGroup rest behind old new → TookGroups bytes behind (count + 1) new
took_group bytes rest behind count old new so_far takes = record {
  groups = so_far.groups ++ takes.group ∷ [];
  took = took_one Group group_bytes IsGroup same_group bytes so_far.groups rest behind count takes.group so_far.took takes.whole takes.is;
  all = takes.pushed ∙ ap (λ (l : List Point). l ++ takes.group.points) so_far.all ∙ sym (points_push so_far.groups takes.group);
}

pub stuck_group : (bytes rest : List ℕ) (count total : ℕ) (points : List Point) → TookGroups bytes rest count points → count < total → ((group : Group) (more : List ℕ) → IsGroup group → rest ≢ group_bytes group ++ more)
    → (groups : List Group) → AllByRecursion IsGroup groups → length groups ≡ total → bytes ≢ flat_map group_bytes groups
stuck_group bytes rest count total points so_far less none groups all same is =
    stuck_none Group group_bytes IsGroup bytes so_far.groups rest count total so_far.took less none groups [] all same (is ∙ sym (append-nil (flat_map group_bytes groups)))

pub left_group : (bytes rest : List ℕ) (total : ℕ) (points : List Point) → TookGroups bytes rest total points → (rest ≡ [] → ⊥) → (groups : List Group) → AllByRecursion IsGroup groups → length groups ≡ total → bytes ≢ flat_map group_bytes groups
left_group bytes rest total points so_far some = left_none Group group_bytes IsGroup bytes so_far.groups rest total so_far.took some

pub all_groups : (bytes rest : List ℕ) (total : ℕ) (points : List Point) → TookGroups bytes rest total points → rest ≡ [] → AreGroupsOf total bytes points
all_groups bytes rest total points so_far none = record {
  groups = so_far.groups;
  are = so_far.took.all;
  many = so_far.took.many;
  whole = so_far.took.whole ∙ ap (λ (l : List ℕ). flat_map group_bytes so_far.groups ++ l) none ∙ append-nil (flat_map group_bytes so_far.groups);
  all = so_far.all;
}

pub spells_points : (bytes groups : List ℕ) (count : ℕ) (points : List Point) → bytes ≡ bytes_of_u32 count ++ groups → count < 2 ^ 32 → (count ≡ 0 → ⊥) → AreGroupsOf count groups points → SpellsPoints points bytes
spells_points bytes groups count points found fits some are = record {
  groups = are.groups;
  are = record { some = λ none. some (sym are.many ∙ ap (λ (l : List Group). length l) none); many = omega (arith, are.many, fits); each = are.are };
  all = are.all;
  spelling = found ∙ (λ i. bytes_of_u32 (sym are.many i) ++ are.whole i);
}

no_point_none : (groups : List Group) → AllByRecursion IsGroup groups → points_of groups ≡ [] → length groups ≡ 0
no_point_none [] all none = refl
no_point_none (g ∷ gs) all none = absurd (all.0.some (front g.points (points_of gs) none))
  where
    front : (xs ys : List Point) → xs ++ ys ≡ [] → xs ≡ []
    front [] ys e = refl
    front (x ∷ xs) ys e = cc e

pub groups_have_points : (groups : List ℕ) (count : ℕ) (points : List Point) → (count ≡ 0 → ⊥) → AreGroupsOf count groups points → points ≡ [] → ⊥
groups_have_points groups count points some are none = some (sym are.many ∙ no_point_none are.groups are.are (sym are.all ∙ none))

-- what the groups of a spelling are, behind their count
pub spelled_groups : (bytes groups : List ℕ) (count : ℕ) → bytes ≡ bytes_of_u32 count ++ groups → count < 2 ^ 32 → (points : List Point) → (spells : SpellsPoints points bytes)
    → (count ≡ length spells.groups) × (groups ≡ flat_map group_bytes spells.groups)
spelled_groups bytes groups count found fits points spells =
    same_u32 count (length spells.groups) groups (flat_map group_bytes spells.groups) fits spells.are.many (sym found ∙ spells.spelling)

pub no_groups_zero : (bytes groups : List ℕ) (count : ℕ) → bytes ≡ bytes_of_u32 count ++ groups → count < 2 ^ 32 → count ≡ 0 → (points : List Point) → SpellsPoints points bytes → ⊥
no_groups_zero bytes groups count found fits none points spells =
    spells.are.some (empty spells.groups (sym (spelled_groups bytes groups count found fits points spells).0 ∙ none))
  where
    empty : (gs : List Group) → length gs ≡ 0 → gs ≡ []
    empty [] e = refl
    empty (g ∷ gs) e = absurd (omega (arith, e))

pub no_groups_cut : (bytes : List ℕ) → length bytes < 4 → (points : List Point) → SpellsPoints points bytes → ⊥
no_groups_cut bytes short points spells =
    omega (arith, short, ap length spells.spelling, length-append (bytes_of_u32 (length spells.groups)) (flat_map group_bytes spells.groups), length-u32 (length spells.groups))

pub no_groups_behind : (bytes groups : List ℕ) (count : ℕ) → bytes ≡ bytes_of_u32 count ++ groups → count < 2 ^ 32 → ((all : List Group) → AllByRecursion IsGroup all → length all ≡ count → groups ≢ flat_map group_bytes all)
    → (points : List Point) → SpellsPoints points bytes → ⊥
no_groups_behind bytes groups count found fits none points spells =
    let both = spelled_groups bytes groups count found fits points spells in
    none spells.groups spells.are.each (sym both.0) both.1

-- bytes are groups of one list of points at most
pub same_points : (a b : List Point) (bytes : List ℕ) → SpellsPoints a bytes → SpellsPoints b bytes → a ≡ b
same_points a b bytes x y =
    let both = spelled_groups bytes (flat_map group_bytes x.groups) (length x.groups) x.spelling x.are.many b y in
    let same = same_items Group group_bytes IsGroup same_group x.groups y.groups [] [] x.are.each y.are.each both.0 (ap (λ (l : List ℕ). l ++ []) both.1) in
    x.all ∙ ap points_of same.0 ∙ sym y.all

-- ---- where a run ends

pub other_at : (series : List ℕ) (points : List Point) (at : ℕ) (d : Point) → at < length points → (((get_or points at d).cell.series ≡ series) → ⊥) → BeginsOther series (drop at points)
other_at series points at d less other = subst (BeginsOther series) (sym (drop-cons points at d less)) other

pub same_more : (series : List ℕ) (points : List Point) (at : ℕ) (d : Point) → at < length points → AreOf series (take at points) → (get_or points at d).cell.series ≡ series → AreOf series (take (at + 1) points)
same_more series points at d less all one =
    subst (AreOf series) (sym (take_more points at d less)) (all_push Point (λ (point : Point). point.cell.series ≡ series) (take at points) (get_or points at d) all one)

pub are_more : (series : List ℕ) (points : List Point) (at : ℕ) (d : Point) → at < length points → AllByRecursion (IsPointOf series) (take at points) → IsPointOf series (get_or points at d) → AllByRecursion (IsPointOf series) (take (at + 1) points)
are_more series points at d less all one = subst (AllByRecursion (IsPointOf series)) (sym (take_more points at d less)) (all_push Point (IsPointOf series) (take at points) (get_or points at d) all one)
