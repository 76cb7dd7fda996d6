-- The lists of the conditions that are read, the first one's last.
use Rattle.std.proofs.Common.{◌≡◌, ℕ, zero, suc, ◌<◌, ◌&&◌, ◌||◌, Bool, List, [], ◌∷◌, ◌++◌, length, get_or, drop, Vec, Global, Option, None, Some, Result, Ok, Err, IfOk, refl, sym, ap, ◌∙◌, subst, arith}
use Rattle.std.specs.List.{filter}
use Rattle.std.specs.List.Sorted.{IsNonDecreasing, IsStrictlySortedBy}
use Rattle.std.specs.Ordering.{nat_cmp}
use Rattle.std.specs.declared.alloc.AllocError.{AllocError}
use Rattle.std.proofs.lemmas.List.{append_assoc, append-nil, length-append, same_from_push}
use Rattle.point_model.specs.Conditions.{Condition, True, Eq, Ne, And, Or, meets}
use Rattle.point_model.specs.Flat.{joined, parts_of}
use Rattle.point_model.specs.declared.part.Join.{Join}
use Rattle.point_model.specs.declared.part.Join.TheVariants as join
use Rattle.point_model.specs.declared.part.Part.{Part}
use Rattle.series_index.specs.Matching.{matching}
use Rattle.series_index.specs.Evaluation.{AreLists, conditions_in, with_join, with_part}
use Rattle.series_index.proofs.FilterLemmas.{picked_ascend}

abbrev pub Joins : Join → List ℕ → List ℕ → Vec ℕ Global → Type 0
Joins j first second v =
    (series_of : ℕ → List ℕ) (one other : Condition) (all : List ℕ) → IsStrictlySortedBy nat_cmp all → first ≡ matching series_of one all → second ≡ matching series_of other all
    → v.items ≡ matching series_of (joined j one other) all

pub and_of : (r : Result (Vec ℕ Global) AllocError) (first second : List ℕ) → IfOk r (λ ids. (all : List ℕ) (is also : ℕ → Bool) → first ≡ filter is all → second ≡ filter also all → ids.items ≡ filter (λ id. is id && also id) all)
    → IfOk r (Joins join.And first second)
and_of (Ok v) first second e = λ series_of one other all up a b. e all (λ id. meets one (series_of id)) (λ id. meets other (series_of id)) a b
and_of (Err x) first second e = tt

pub or_of : (r : Result (Vec ℕ Global) AllocError) (first second : List ℕ)
    → IfOk r (λ ids. (all : List ℕ) (is also : ℕ → Bool) → IsStrictlySortedBy nat_cmp all → first ≡ filter is all → second ≡ filter also all → ids.items ≡ filter (λ id. is id || also id) all) → IfOk r (Joins join.Or first second)
or_of (Ok v) first second e = λ series_of one other all up a b. e all (λ id. meets one (series_of id)) (λ id. meets other (series_of id)) up a b
or_of (Err x) first second e = tt

-- the last list is that of the first condition
pub record Popped (series_of : ℕ → List ℕ) (ids : List ℕ) (conditions : List Condition) (before : List (Vec ℕ Global)) (last : Vec ℕ Global) : Type 0 where
  pub condition : Condition
  pub others : List Condition
  pub are : conditions ≡ condition ∷ others
  pub is : last.items ≡ matching series_of condition ids
  pub rest : AreLists series_of ids others before

pub lists_pop : (series_of : ℕ → List ℕ) (ids : List ℕ) (conditions : List Condition) (lists before : List (Vec ℕ Global)) (last : Vec ℕ Global) → AreLists series_of ids conditions lists → lists ≡ before ++ last ∷ [] → Popped series_of ids conditions before last
lists_pop series_of ids [] lists before last are e = absurd (omega (arith, ap length are, ap length e, length-append before (last ∷ [])))
lists_pop series_of ids (c ∷ cs) lists before last are e =
    let same = same_from_push are.0 before are.1 last (sym are.2 ∙ e) in
    record {
      condition = c;
      others = cs;
      are = refl;
      is = ap (λ (v : Vec ℕ Global). v.items) (sym same.1) ∙ are.3;
      rest = subst (AreLists series_of ids cs) same.0 are.4;
    }

-- the lists of a join's sides ascend
pub sides_ascend : (series_of : ℕ → List ℕ) (all : List ℕ) (conditions : List Condition) (lists before below : List (Vec ℕ Global)) (first second : Vec ℕ Global) → IsStrictlySortedBy nat_cmp all → AreLists series_of all conditions lists
    → lists ≡ before ++ first ∷ [] → before ≡ below ++ second ∷ [] → IsNonDecreasing first.items × IsNonDecreasing second.items
sides_ascend series_of all conditions lists before below first second good are e f =
    let one = lists_pop series_of all conditions lists before first are e in
    let two = lists_pop series_of all one.others before below second one.rest f in
    (picked_ascend all (λ id. meets one.condition (series_of id)) first.items good one.is, picked_ascend all (λ id. meets two.condition (series_of id)) second.items good two.is)

pub join_one : (series_of : ℕ → List ℕ) (all : List ℕ) (j : Join) (conditions : List Condition) (lists before below new : List (Vec ℕ Global)) (first second ids : Vec ℕ Global) → IsStrictlySortedBy nat_cmp all → AreLists series_of all conditions lists
    → lists ≡ before ++ first ∷ [] → before ≡ below ++ second ∷ [] → new ≡ below ++ ids ∷ [] → Joins j first.items second.items ids → AreLists series_of all (with_join j conditions) new
join_one series_of all j conditions lists before below new first second ids good are e f g joins =
    let one = lists_pop series_of all conditions lists before first are e in
    let two = lists_pop series_of all one.others before below second one.rest f in
    let whole : conditions ≡ one.condition ∷ two.condition ∷ two.others = one.are ∙ ap (λ (cs : List Condition). one.condition ∷ cs) two.are in
    subst (λ (cs : List Condition). AreLists series_of all (with_join j cs) new) (sym whole) (below, ids, g, joins series_of one.condition two.condition all good one.is two.is, two.rest)

-- no list, or one alone, is no two sides
pub no_first : (series_of : ℕ → List ℕ) (ids : List ℕ) (j : Join) (conditions : List Condition) (lists new : List (Vec ℕ Global)) → lists ≡ [] → new ≡ [] → AreLists series_of ids conditions lists → AreLists series_of ids (with_join j conditions) new
no_first series_of ids j [] lists new e f are = f
no_first series_of ids j (c ∷ cs) lists new e f are = absurd (omega (arith, ap length e, ap length are.2, length-append are.0 (are.1 ∷ [])))

-- ---- the parts of a condition

parts_back : (of : Option Join) (c : Condition) (rest : List (Option Join × Part)) → conditions_in (parts_of of c ++ rest) ≡ c ∷ conditions_in rest
parts_back of True rest = refl
parts_back of (Eq key text) rest = refl
parts_back of (Ne key text) rest = refl
parts_back of (And a b) rest =
    ap (λ (l : List (Option Join × Part)). with_join join.And (conditions_in l)) (append_assoc (parts_of None a) (parts_of (Some join.And) b) rest)
    ∙ ap (with_join join.And) (parts_back None a (parts_of (Some join.And) b ++ rest) ∙ ap (λ (l : List Condition). a ∷ l) (parts_back (Some join.And) b rest))
parts_back of (Or a b) rest =
    ap (λ (l : List (Option Join × Part)). with_join join.Or (conditions_in l)) (append_assoc (parts_of None a) (parts_of (Some join.Or) b) rest)
    ∙ ap (with_join join.Or) (parts_back None a (parts_of (Some join.Or) b ++ rest) ∙ ap (λ (l : List Condition). a ∷ l) (parts_back (Some join.Or) b rest))

pub whole_condition : (c : Condition) → conditions_in (parts_of None c) ≡ c ∷ []
whole_condition c = ap conditions_in (sym (append-nil (parts_of None c))) ∙ parts_back None c []

pub one_back : (parts : List (Option Join × Part)) (place : ℕ) (d : Option Join × Part) → place < length parts → conditions_in (drop place parts) ≡ with_part (get_or parts place d).1 (conditions_in (drop (suc place) parts))
one_back [] place d less = absurd (omega (arith, less))
one_back (p ∷ ps) zero d less = refl
one_back (p ∷ ps) (suc place) d less = one_back ps place d (omega (arith, less))

-- behind the first part stands the list of the whole condition alone
pub at_end : (parts : List (Option Join × Part)) (c : Condition) (place : ℕ) → place ≡ 0 → parts ≡ parts_of None c → conditions_in (drop place parts) ≡ c ∷ []
at_end parts c place e f = ap (λ (n : ℕ). conditions_in (drop n parts)) e ∙ ap conditions_in f ∙ whole_condition c

pub last_list : (series_of : ℕ → List ℕ) (ids : List ℕ) (conditions : List Condition) (c : Condition) (lists before : List (Vec ℕ Global)) (last : Vec ℕ Global) → conditions ≡ c ∷ [] → AreLists series_of ids conditions lists → lists ≡ before ++ last ∷ []
    → last.items ≡ matching series_of c ids
last_list series_of ids conditions c lists before last e are f =
    let one = lists_pop series_of ids (c ∷ []) lists before last (subst (λ (cs : List Condition). AreLists series_of ids cs lists) e are) f in
    one.is ∙ ap (λ (d : Condition). matching series_of d ids) (same one.condition one.others one.are)
  where
    same : (d : Condition) (others : List Condition) → c ∷ [] ≡ d ∷ others → d ≡ c
    same d others e = cc (e)

pub some_list : (series_of : ℕ → List ℕ) (ids : List ℕ) (conditions : List Condition) (c : Condition) (lists : List (Vec ℕ Global)) → conditions ≡ c ∷ [] → AreLists series_of ids conditions lists → lists ≡ [] → ⊥
some_list series_of ids conditions c lists e are f =
    let one = subst (λ (cs : List Condition). AreLists series_of ids cs lists) e are in
    omega (arith, ap length f, ap length one.2, length-append one.0 (one.1 ∷ []))
