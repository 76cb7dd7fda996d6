-- Lists whose parts are changed one by one.
use Rattle.std.proofs.Common.{◌≡◌, ◌≢◌, ℕ, suc, ◌+◌, ◌≤◌, le_trans, le_refl, zero-add, arith, List, [], ◌∷◌, ◌++◌, map, ◌∙◌, ap, ap₂, sym, refl, append_assoc}
use Rattle.std.specs.List.{AllByRecursion, flat_map}
use Rattle.std.specs.Prelude.{Bool, true, false, cond, filter, ◌==◌, if◌then◌else◌}
use Rattle.std.proofs.lemmas.Bool.{eqb-true}
use Rattle.std.specs.Option.{option_to_list}
use Rattle.std.proofs.lemmas.List.{map-append}
use Rattle.shard_core.specs.MergeEvents.{newest_generation}
use Rattle.shard_core.specs.Numbers.{AreDisjoint, Climbs, ShareNone, count, held_by_merges, held_by_views, names_of}
use Rattle.shard_core.specs.Files.{generation_of, file_number, source_numbers, tombs_of_file}
use Rattle.shard_core.specs.State.{File, Merge, View}

pub all_over : {A : Type 0} (P Q : A → Type 0) → ((x : A) → P x → Q x) → (xs : List A) → AllByRecursion P xs → AllByRecursion Q xs
all_over P Q leads [] all = tt
all_over P Q leads (x ∷ xs) all = (leads x all.0, all_over P Q leads xs all.1)

pub all_over_map : {A B : Type 0} (P : A → Type 0) (Q : B → Type 0) (f : A → B) → ((x : A) → P x → Q (f x)) → (xs : List A) → AllByRecursion P xs → AllByRecursion Q (map f xs)
all_over_map P Q f leads [] all = tt
all_over_map P Q f leads (x ∷ xs) all = (leads x all.0, all_over_map P Q f leads xs all.1)

pub all_append : {A : Type 0} (P : A → Type 0) (xs ys : List A) → AllByRecursion P xs → AllByRecursion P ys → AllByRecursion P (xs ++ ys)
all_append P [] ys a b = b
all_append P (x ∷ xs) ys a b = (a.0, all_append P xs ys a.1 b)

pub all_left : {A : Type 0} (P : A → Type 0) (xs ys : List A) → AllByRecursion P (xs ++ ys) → AllByRecursion P xs
all_left P [] ys all = tt
all_left P (x ∷ xs) ys all = (all.0, all_left P xs ys all.1)

pub all_right : {A : Type 0} (P : A → Type 0) (xs ys : List A) → AllByRecursion P (xs ++ ys) → AllByRecursion P ys
all_right P [] ys all = all
all_right P (x ∷ xs) ys all = all_right P xs ys all.1

pub same_map : {A B : Type 0} (f : A → B) (g : A → A) → ((x : A) → f (g x) ≡ f x) → (xs : List A) → map f (map g xs) ≡ map f xs
same_map f g same [] = refl
same_map f g same (x ∷ xs) = ap₂ (λ y ys. y ∷ ys) (same x) (same_map f g same xs)

-- one map behind the other
pub map_of_map : {A B C : Type 0} (f : A → B) (g : B → C) (h : A → C) → ((x : A) → g (f x) ≡ h x) → (xs : List A) → map g (map f xs) ≡ map h xs
map_of_map f g h same [] = refl
map_of_map f g h same (x ∷ xs) = ap₂ (λ y ys. y ∷ ys) (same x) (map_of_map f g h same xs)

pub some_map : {A B : Type 0} (f : A → B) (xs : List A) → xs ≢ [] → map f xs ≢ []
some_map f [] some none = some refl
some_map f (x ∷ xs) some none = absurd (cc)

pub placed_map : {A B : Type 0} (f : A → B) (before group behind : List A) → map f (before ++ (group ++ behind)) ≡ map f before ++ (map f group ++ map f behind)
placed_map f before group behind = map-append f before (group ++ behind) ∙ ap (λ xs. map f before ++ xs) (map-append f group behind)

pub held_same : (n : ℕ) (g : Merge → Merge) → ((merge : Merge) → source_numbers (g merge) ≡ source_numbers merge) → (merges : List Merge) → held_by_merges n (map g merges) ≡ held_by_merges n merges
held_same n g same [] = refl
held_same n g same (merge ∷ merges) = ap₂ (λ a b. a + b) (ap (count n) (same merge)) (held_same n g same merges)

pub count-append : (n : ℕ) (ms ns : List ℕ) → count n (ms ++ ns) ≡ count n ms + count n ns
count-append n [] ns = omega arith
count-append n (m ∷ ms) ns = let e = count-append n ms ns in omega arith

pub held_without : (n : ℕ) (earlier : List Merge) (merge : Merge) (others : List Merge)
    → held_by_merges n (earlier ++ merge ∷ others) ≡ held_by_merges n (earlier ++ others) + count n (source_numbers merge)
held_without n [] merge others = omega arith
held_without n (other ∷ earlier) merge others = let e = held_without n earlier merge others in omega arith

-- bounds of ascending numbers
pub climbs_le : (low : ℕ) (ns : List ℕ) (high : ℕ) → Climbs low ns high → low ≤ high
climbs_le low [] high climbs = climbs
climbs_le low (n ∷ ns) high climbs = let e = climbs_le (suc n) ns high climbs.1 in let f = climbs.0 in omega arith

pub climbs_from : (low low' : ℕ) (ns : List ℕ) (high : ℕ) → low' ≤ low → Climbs low ns high → Climbs low' ns high
climbs_from low low' [] high le climbs = le_trans le climbs
climbs_from low low' (n ∷ ns) high le climbs = (le_trans le climbs.0, climbs.1)

pub climbs_then : (low : ℕ) (ns : List ℕ) (middle : ℕ) (ms : List ℕ) (high : ℕ) → Climbs low ns middle → Climbs middle ms high → Climbs low (ns ++ ms) high
climbs_then low [] middle ms high first second = climbs_from middle low ms high first second
climbs_then low (n ∷ ns) middle ms high first second = (first.0, climbs_then (suc n) ns middle ms high first.1 second)

pub record ClimbsBy (low : ℕ) (ns ms : List ℕ) (high : ℕ) : Type 0 where
  pub middle : ℕ
  pub first : Climbs low ns middle
  pub second : Climbs middle ms high

pub climbs_split : (low : ℕ) (ns ms : List ℕ) (high : ℕ) → Climbs low (ns ++ ms) high → ClimbsBy low ns ms high
climbs_split low [] ms high climbs = record { middle = low; first = le_refl low; second = climbs }
climbs_split low (n ∷ ns) ms high climbs =
    let rest = climbs_split (suc n) ns ms high climbs.1 in
    record { middle = rest.middle; first = (climbs.0, rest.first); second = rest.second }

pub newest_climbs : (low : ℕ) (file : File) (files : List File) (high : ℕ) → Climbs low (map generation_of (file ∷ files)) high → Climbs low (newest_generation (file ∷ files) ∷ []) high
newest_climbs low file [] high climbs = climbs
newest_climbs low file (other ∷ files) high climbs =
    let rest = newest_climbs (suc file.stored.generation) other files high climbs.1 in
    (let e = climbs.0 in let f = rest.0 in omega arith, rest.1)

-- what shares no number with a list, the list shares none with
share_first : (n : ℕ) (others some : List ℕ) → ShareNone some (n ∷ others) → AllByRecursion (λ other. n ≢ other) some
share_first n others [] share = tt
share_first n others (m ∷ some) share = ((λ e. share.0.0 (sym e)), share_first n others some share.1)

share_rest : (n : ℕ) (others some : List ℕ) → ShareNone some (n ∷ others) → ShareNone some others
share_rest n others [] share = tt
share_rest n others (m ∷ some) share = (share.0.1, share_rest n others some share.1)

pub share_turned : (others some : List ℕ) → ShareNone some others → ShareNone others some
share_turned [] some share = tt
share_turned (n ∷ others) some share = (share_first n others some share, share_turned others some (share_rest n others some share))

-- two groups of one list without a common number: one stands before the other
head_same : {A : Type 0} (x y : A) (xs ys : List A) → x ∷ xs ≡ y ∷ ys → x ≡ y
head_same x y xs ys e = cc

tail_same : {A : Type 0} (x y : A) (xs ys : List A) → x ∷ xs ≡ y ∷ ys → xs ≡ ys
tail_same x y xs ys e = cc

pub record Before (first ends before second behind : List File) : Type 0 where
  pub between : List File
  pub is_before : before ≡ first ++ between
  pub is_behind : ends ≡ between ++ (second ++ behind)

pub front : (group behind before other rest : List File) → group ++ behind ≡ before ++ (other ++ rest) → ShareNone (map file_number group) (map file_number other) → other ≢ []
    → Before group behind before other rest
front [] behind before other rest e share some = record { between = before; is_before = refl; is_behind = e }
front (x ∷ group) behind [] [] rest e share some = absurd (some refl)
front (x ∷ group) behind [] (y ∷ other) rest e share some = absurd (share.0.0 (ap file_number (head_same x y (group ++ behind) (other ++ rest) e)))
front (x ∷ group) behind (y ∷ before) other rest e share some =
    let later = front group behind before other rest (tail_same x y (group ++ behind) (before ++ (other ++ rest)) e) share.1 some in
    record {
      between = later.between;
      is_before = ap₂ (λ z zs. z ∷ zs) (sym (head_same x y (group ++ behind) (before ++ (other ++ rest)) e)) later.is_before;
      is_behind = later.is_behind;
    }

-- the group in a list in which another group has given place
pub record Stays (group made before behind : List File) : Type 0 where
  pub before_it : List File
  pub behind_it : List File
  pub placed : before ++ (made ++ behind) ≡ before_it ++ (group ++ behind_it)

three : (a b c d : List File) → (a ++ (b ++ c)) ++ d ≡ a ++ (b ++ (c ++ d))
three a b c d = append_assoc a (b ++ c) d ∙ ap (λ xs. a ++ xs) (append_assoc b c d)

pub group_stays : (made front_of group behind_of before other behind : List File) → front_of ++ (group ++ behind_of) ≡ before ++ (other ++ behind)
    → ShareNone (map file_number group) (map file_number other) → group ≢ [] → other ≢ []
    → Stays group made before behind
group_stays made [] group behind_of before other behind e share some some_other =
    let is = front group behind_of before other behind e share some_other in
    record {
      before_it = [];
      behind_it = is.between ++ (made ++ behind);
      placed = ap (λ xs. xs ++ (made ++ behind)) is.is_before ∙ append_assoc group is.between (made ++ behind);
    }
group_stays made (x ∷ front_of) group behind_of [] other behind e share some some_other =
    let is = front other behind (x ∷ front_of) group behind_of (sym e) (share_turned (map file_number other) (map file_number group) share) some in
    record {
      before_it = made ++ is.between;
      behind_it = behind_of;
      placed = ap (λ xs. made ++ xs) is.is_behind ∙ sym (append_assoc made is.between (group ++ behind_of));
    }
group_stays made (x ∷ front_of) group behind_of (y ∷ before) other behind e share some some_other =
    let later = group_stays made front_of group behind_of before other behind (tail_same x y (front_of ++ (group ++ behind_of)) (before ++ (other ++ behind)) e) share some some_other in
    record {
      before_it = y ∷ later.before_it;
      behind_it = later.behind_it;
      placed = ap (λ xs. y ∷ xs) later.placed;
    }

-- of lists that are apart, one is taken out
pub record Without (some : List ℕ) (rest : List (List ℕ)) : Type 0 where
  pub apart : AreDisjoint rest
  pub from_it : AllByRecursion (λ others. ShareNone others some) rest

pub apart_without : (earlier : List (List ℕ)) (some : List ℕ) (others : List (List ℕ)) → AreDisjoint (earlier ++ some ∷ others) → Without some (earlier ++ others)
apart_without [] some others apart = record {
  apart = apart.1;
  from_it = all_over (ShareNone some) (λ other. ShareNone other some) (λ other s. share_turned other some s) others apart.0;
}
apart_without (first ∷ earlier) some others apart =
    let rest = apart_without earlier some others apart.1 in
    let all = apart.0 in
    let right = all_right (ShareNone first) earlier (some ∷ others) all in
    record {
      apart = (all_append (ShareNone first) earlier others (all_left (ShareNone first) earlier (some ∷ others) all) right.1, rest.apart);
      from_it = (right.0, rest.from_it);
    }

pub names_same : (g : File → File) → ((file : File) → file_number (g file) ≡ file_number file) → ((file : File) → tombs_of_file (g file) ≡ tombs_of_file file) → (files : List File) → names_of (map g files) ≡ names_of files
names_same g numbers tombs [] = refl
names_same g numbers tombs (file ∷ files) =
    ap₂ (λ (n : ℕ) (ns : List ℕ). n ∷ ns) (numbers file) (ap₂ (λ (a b : List ℕ). a ++ b) (tombs file) (names_same g numbers tombs files))

pub names-append : (files others : List File) → names_of (files ++ others) ≡ names_of files ++ names_of others
names-append [] others = refl
names-append (file ∷ files) others =
    ap (λ (ns : List ℕ). file.stored.no ∷ ns) (ap (λ (ns : List ℕ). option_to_list file.stored.tomb ++ ns) (names-append files others) ∙ sym (append_assoc (option_to_list file.stored.tomb) (names_of files) (names_of others)))

pub count_names : (n : ℕ) (files : List File) → count n (names_of files) ≡ count n (map file_number files) + count n (flat_map tombs_of_file files)
count_names n [] = refl
count_names n (file ∷ files) =
    let e = count_names n files in
    let a = count-append n (tombs_of_file file) (names_of files) in
    let b = count-append n (tombs_of_file file) (flat_map tombs_of_file files) in
    omega arith

pub held_without_view : (n : ℕ) (earlier : List View) (view : View) (others : List View)
    → held_by_views n (earlier ++ view ∷ others) ≡ held_by_views n (earlier ++ others) + count n view.held
held_without_view n [] view others = omega arith
held_without_view n (other ∷ earlier) view others = let e = held_without_view n earlier view others in omega arith

-- a number that a test lets through is there as often as before, and no number more often
count_one : (b : Bool) (m n : ℕ) (ms : List ℕ) → count n (cond b (m ∷ ms) ms) ≤ count n (m ∷ ms)
count_one true m n ms = le_refl (count n (m ∷ ms))
count_one false m n ms = omega arith

pub count_filtered : (test : ℕ → Bool) (n : ℕ) (ms : List ℕ) → count n (filter test ms) ≤ count n ms
count_filtered test n [] = le_refl 0
count_filtered test n (m ∷ ms) =
    let a = count_one (test m) m n (filter test ms) in
    let b = count_filtered test n ms in
    omega arith

eq_test : (n m : ℕ) → (n == m) ≡ true → n ≡ m
eq_test n m e = eqb-true n m e

other_count : (b same : Bool) (m n : ℕ) (ms : List ℕ) → (n == m) ≡ same → (same ≡ true → b ≡ true) → count n (cond b (m ∷ ms) ms) ≡ count n (m ∷ ms)
other_count true same m n ms e through = refl
other_count false true m n ms e through = absurd (let f = through refl in cc)
other_count false false m n ms e through = sym (ap (λ (t : Bool). cond t 1 0 + count n ms) e ∙ zero-add (count n ms))

pub count_kept : (test : ℕ → Bool) (n : ℕ) → test n ≡ true → (ms : List ℕ) → count n (filter test ms) ≡ count n ms
count_kept test n through [] = refl
count_kept test n through (m ∷ ms) =
    other_count (test m) (n == m) m n (filter test ms) refl (λ e. ap test (sym (eq_test n m e)) ∙ through)
    ∙ ap (λ (c : ℕ). (if n == m then 1 else 0) + c) (count_kept test n through ms)
