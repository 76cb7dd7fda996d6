-- Conditions, and the sides of one that is being read, as lists of texts, by which two of them are told apart.
use Rattle.std.proofs.Common.{◌≡◌, ℕ, List, [], ◌∷◌, ◌++◌, refl, sym, ap, ◌∙◌}
use Rattle.std.specs.Prelude.{Bool, true, false, Option, Some, None}
use Rattle.std.specs.Coded.{Coded, code_by, coded×, coded_ℕ, coded_bool, coded_list, coded_option}
use Rattle.std.proofs.lemmas.List.{append-nil, append_assoc}
use Rattle.point_model.specs.Conditions.{Condition, True, Eq, Ne, And, Or}
use Rattle.point_model.specs.Flat.{Side, First, Second}
use Rattle.point_model.specs.declared.part.Join.{Join}
use Rattle.point_model.specs.declared.part.Join.TheVariants as join

-- how many texts it has says which part it is
abbrev pub Word : Type 0
Word = List (List ℕ)

-- each part before its sides
abbrev pub words_of : Condition → List Word
words_of True = [] ∷ []
words_of (And first second) = ([] ∷ []) ∷ (words_of first ++ words_of second)
words_of (Or first second) = ([] ∷ [] ∷ []) ∷ (words_of first ++ words_of second)
words_of (Eq key text) = ([] ∷ key ∷ text ∷ []) ∷ []
words_of (Ne key text) = ([] ∷ [] ∷ key ∷ text ∷ []) ∷ []

abbrev pub join_first : (Condition → Condition → Condition) → List Condition → List Condition
join_first join [] = []
join_first join (first ∷ []) = []
join_first join (first ∷ second ∷ behind) = join first second ∷ behind

abbrev pub word_before : Word → List Condition → List Condition
word_before [] behind = True ∷ behind
word_before (a ∷ []) behind = join_first And behind
word_before (a ∷ b ∷ []) behind = join_first Or behind
word_before (a ∷ key ∷ text ∷ []) behind = Eq key text ∷ behind
word_before (a ∷ b ∷ key ∷ text ∷ more) behind = Ne key text ∷ behind

-- the conditions that stand one behind the other
abbrev pub conditions_in : List Word → List Condition
conditions_in [] = []
conditions_in (word ∷ words) = word_before word (conditions_in words)

pub read_back : (c : Condition) (words : List Word) → conditions_in (words_of c ++ words) ≡ c ∷ conditions_in words
read_back True words = refl
read_back (Eq key text) words = refl
read_back (Ne key text) words = refl
read_back (And a b) words =
    ap (λ (ws : List Word). join_first And (conditions_in ws)) (append_assoc (words_of a) (words_of b) words)
    ∙ ap (λ (cs : List Condition). join_first And cs) (read_back a (words_of b ++ words))
    ∙ ap (λ (cs : List Condition). join_first And (a ∷ cs)) (read_back b words)
read_back (Or a b) words =
    ap (λ (ws : List Word). join_first Or (conditions_in ws)) (append_assoc (words_of a) (words_of b) words)
    ∙ ap (λ (cs : List Condition). join_first Or cs) (read_back a (words_of b ++ words))
    ∙ ap (λ (cs : List Condition). join_first Or (a ∷ cs)) (read_back b words)

abbrev pub first_or_true : List Condition → Condition
first_or_true [] = True
first_or_true (first ∷ behind) = first

pub told_back : (c : Condition) → first_or_true (conditions_in (words_of c)) ≡ c
told_back c = ap (λ (ws : List Word). first_or_true (conditions_in ws)) (sym (append-nil (words_of c))) ∙ ap first_or_true (read_back c [])

abbrev pub condition_code : Coded Condition
condition_code = code_by (List Word) (coded_list (coded_list (coded_list coded_ℕ))) words_of (λ words. first_or_true (conditions_in words)) told_back

abbrev pub is_and : Join → Bool
is_and join.And = true
is_and join.Or = false

abbrev pub join_of : Bool → Join
join_of true = join.And
join_of false = join.Or

pub same_join : (j : Join) → join_of (is_and j) ≡ j
same_join join.And = refl
same_join join.Or = refl

-- the join, and the first side where it was read
abbrev pub parts_of_side : Side → Bool × Option Condition
parts_of_side (First join) = (is_and join, None)
parts_of_side (Second join first) = (is_and join, Some first)

abbrev pub side_of : Bool × Option Condition → Side
side_of (and, None) = First (join_of and)
side_of (and, Some first) = Second (join_of and) first

pub same_side : (side : Side) → side_of (parts_of_side side) ≡ side
same_side (First join) = ap First (same_join join)
same_side (Second join first) = ap (λ (j : Join). Second j first) (same_join join)

abbrev pub sides_code : Coded (List Side)
sides_code = coded_list (code_by (Bool × Option Condition) (coded× coded_bool (coded_option condition_code)) parts_of_side side_of same_side)
