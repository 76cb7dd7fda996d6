-- Conditions as lists of words, by which two of them are told apart; and that a condition is read back from its parts.
use Rattle.std.proofs.Common.{◌≡◌, refl, sym, ap, ◌∙◌}
use Rattle.std.specs.Prelude.{ℕ, zero, suc, ℤ, pos, nat_abs, true, false, List, [], ◌∷◌, ◌++◌, map}
use Rattle.std.specs.Coded.{Coded, code_by, coded×, coded_ℕ, coded_ℤ, coded_list}
use Rattle.std.proofs.lemmas.List.{append-nil, append_assoc}
use Rattle.point_model.specs.declared.part.Join.TheVariants as join
use Rattle.query_model.specs.Conditions.{Condition, True, Compare, And, Or}
use Rattle.query_model.specs.Flat.{condition_in, first_or_true, parts_of, read_onto}
use Rattle.query_model.specs.declared.condition.CondPart.{CondPart}
use Rattle.query_model.specs.declared.condition.CondPart.TheVariants as part
use Rattle.query_model.specs.declared.condition.CondTest.TheVariants as test
use Rattle.query_model.specs.declared.condition.Literal.{Literal}
use Rattle.query_model.specs.declared.condition.Literal.TheVariants as literal
use Rattle.query_model.specs.declared.condition.Op.{Op}
use Rattle.query_model.specs.declared.condition.Op.TheVariants as op

abbrev pub Parts : Type 0
Parts = List CondPart

-- the parts of a condition stand for it
pub read-parts : (c : Condition) (read : List Condition) (rest : Parts) → read_onto read (parts_of c ++ rest) ≡ read_onto (c ∷ read) rest
read-parts True read rest = refl
read-parts (Compare name op literal) read rest = refl
read-parts (And a b) read rest =
    ap (λ (ps : Parts). read_onto read ps) (append_assoc (parts_of a) (parts_of b ++ part.Join join.And ∷ []) rest)
    ∙ read-parts a read ((parts_of b ++ part.Join join.And ∷ []) ++ rest)
    ∙ ap (λ (ps : Parts). read_onto (a ∷ read) ps) (append_assoc (parts_of b) (part.Join join.And ∷ []) rest)
    ∙ read-parts b (a ∷ read) (part.Join join.And ∷ rest)
read-parts (Or a b) read rest =
    ap (λ (ps : Parts). read_onto read ps) (append_assoc (parts_of a) (parts_of b ++ part.Join join.Or ∷ []) rest)
    ∙ read-parts a read ((parts_of b ++ part.Join join.Or ∷ []) ++ rest)
    ∙ ap (λ (ps : Parts). read_onto (a ∷ read) ps) (append_assoc (parts_of b) (part.Join join.Or ∷ []) rest)
    ∙ read-parts b (a ∷ read) (part.Join join.Or ∷ rest)

pub in-parts : (c : Condition) → condition_in (parts_of c) ≡ c
in-parts c = ap (λ (ps : Parts). first_or_true (read_onto [] ps)) (sym (append-nil (parts_of c))) ∙ ap (λ (cs : List Condition). first_or_true cs) (read-parts c [] [])

-- texts, whose count says which part it is, and a number
abbrev pub Word : Type 0
Word = List (List ℕ) × ℤ

abbrev pub op_number : Op → ℕ
op_number op.Eq = 0
op_number op.Ne = 1
op_number op.Lt = 2
op_number op.Le = 3
op_number op.Gt = 4
op_number op.Ge = 5

abbrev pub op_of : ℕ → Op
op_of zero = op.Eq
op_of (suc zero) = op.Ne
op_of (suc (suc zero)) = op.Lt
op_of (suc (suc (suc zero))) = op.Le
op_of (suc (suc (suc (suc zero)))) = op.Gt
op_of (suc (suc (suc (suc (suc more))))) = op.Ge

same_op : (o : Op) → op_of (op_number o) ≡ o
same_op op.Eq = refl
same_op op.Ne = refl
same_op op.Lt = refl
same_op op.Le = refl
same_op op.Gt = refl
same_op op.Ge = refl

abbrev pub literal_number : Literal → ℕ
literal_number (literal.Text text) = 0
literal_number (literal.Int number) = 1
literal_number (literal.Uint number) = 2
literal_number (literal.Bool false) = 3
literal_number (literal.Bool true) = 4

abbrev pub literal_text : Literal → List ℕ
literal_text (literal.Text text) = text
literal_text (literal.Int number) = []
literal_text (literal.Uint number) = []
literal_text (literal.Bool truth) = []

abbrev pub literal_amount : Literal → ℤ
literal_amount (literal.Text text) = pos 0
literal_amount (literal.Int number) = number
literal_amount (literal.Uint number) = pos number
literal_amount (literal.Bool truth) = pos 0

abbrev pub literal_of : ℕ → List ℕ → ℤ → Literal
literal_of zero text amount = literal.Text text
literal_of (suc zero) text amount = literal.Int amount
literal_of (suc (suc zero)) text amount = literal.Uint (nat_abs amount)
literal_of (suc (suc (suc zero))) text amount = literal.Bool false
literal_of (suc (suc (suc (suc more)))) text amount = literal.Bool true

same_literal : (l : Literal) → literal_of (literal_number l) (literal_text l) (literal_amount l) ≡ l
same_literal (literal.Text text) = refl
same_literal (literal.Int number) = refl
same_literal (literal.Uint number) = refl
same_literal (literal.Bool false) = refl
same_literal (literal.Bool true) = refl

abbrev pub word_of : CondPart → Word
word_of (part.Test test.True) = ([], pos 0)
word_of (part.Join join.And) = ([] ∷ [], pos 0)
word_of (part.Join join.Or) = ([] ∷ [] ∷ [], pos 0)
word_of (part.Test (test.Compare name op literal)) =
    (name ∷ literal_text literal ∷ (op_number op ∷ literal_number literal ∷ []) ∷ [], literal_amount literal)

abbrev pub test_of : List ℕ → List ℕ → List ℕ → ℤ → CondPart
test_of name text [] amount = part.Test test.True
test_of name text (op ∷ []) amount = part.Test test.True
test_of name text (op ∷ sort ∷ more) amount = part.Test (test.Compare name (op_of op) (literal_of sort text amount))

abbrev pub part_of : Word → CondPart
part_of ([], amount) = part.Test test.True
part_of (a ∷ [], amount) = part.Join join.And
part_of (a ∷ b ∷ [], amount) = part.Join join.Or
part_of (name ∷ text ∷ numbers ∷ more, amount) = test_of name text numbers amount

same_part : (p : CondPart) → part_of (word_of p) ≡ p
same_part (part.Test test.True) = refl
same_part (part.Join join.And) = refl
same_part (part.Join join.Or) = refl
same_part (part.Test (test.Compare name o l)) =
    ap (λ (p : Op). part.Test (test.Compare name p (literal_of (literal_number l) (literal_text l) (literal_amount l)))) (same_op o)
    ∙ ap (λ (k : Literal). part.Test (test.Compare name o k)) (same_literal l)

same_parts : (ps : Parts) → map part_of (map word_of ps) ≡ ps
same_parts [] = refl
same_parts (p ∷ ps) = ap (λ (q : CondPart). q ∷ map part_of (map word_of ps)) (same_part p) ∙ ap (λ (qs : Parts). p ∷ qs) (same_parts ps)

abbrev pub word_code : Coded Word
word_code = coded× (coded_list (coded_list coded_ℕ)) coded_ℤ

pub told_back : (c : Condition) → condition_in (map part_of (map word_of (parts_of c))) ≡ c
told_back c = ap (λ (ps : Parts). condition_in ps) (same_parts (parts_of c)) ∙ in-parts c

abbrev pub condition_code : Coded Condition
condition_code =
    code_by (List Word) (coded_list word_code) (λ c. map word_of (parts_of c)) (λ words. condition_in (map part_of words)) told_back
