-- The parts of two conditions and of their join, one behind the other.
use Rattle.std.proofs.Common.{◌≡◌, [], ◌∷◌, ◌++◌, refl, sym, ap, ◌∙◌}
use Rattle.std.proofs.lemmas.List.{append_assoc}
use Rattle.point_model.specs.declared.part.Join.{Join}
use Rattle.point_model.specs.declared.part.Join.TheVariants as join
use Rattle.query_model.specs.Conditions.{Condition}
use Rattle.query_model.specs.ConditionCode.{Parts, in-parts}
use Rattle.query_model.specs.Flat.{condition_in, joined, parts_of}
use Rattle.query_model.specs.declared.condition.CondPart.TheVariants as part

-- a list of the parts of a condition is read back
pub held-parts : (c : Condition) (parts : Parts) → parts ≡ parts_of c → parts_of (condition_in parts) ≡ parts
held-parts c parts is = ap (λ (ps : Parts). parts_of (condition_in ps)) is ∙ ap parts_of (in-parts c) ∙ sym is

pub told-parts : (c : Condition) (parts : Parts) → parts ≡ parts_of c → condition_in parts ≡ c
told-parts c parts is = ap (λ (ps : Parts). condition_in ps) is ∙ in-parts c

-- a join behind its two sides
joined-parts : (j : Join) (a b : Condition) → parts_of a ++ (parts_of b ++ part.Join j ∷ []) ≡ parts_of (joined j a b)
joined-parts join.And a b = refl
joined-parts join.Or a b = refl

-- the parts of both sides, and then the join
pub put-sides : (j : Join) (a b : Condition) (first second both all : Parts) → parts_of a ≡ first → parts_of b ≡ second → both ≡ first ++ second
    → all ≡ both ++ part.Join j ∷ [] → all ≡ parts_of (joined j a b)
put-sides j a b first second both all one two put last =
    last
    ∙ ap (λ (ps : Parts). ps ++ part.Join j ∷ []) (put ∙ ap (λ (ps : Parts). ps ++ second) (sym one) ∙ ap (λ (ps : Parts). parts_of a ++ ps) (sym two))
    ∙ append_assoc (parts_of a) (parts_of b) (part.Join j ∷ [])
    ∙ joined-parts j a b
