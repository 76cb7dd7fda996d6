-- Plans of some levels, and of the lower and the higher of them.
use Rattle.std.proofs.Common.{◌≡◌, ℕ, ◌+◌, ◌≤◌, List, arith, subst, sym, ap, ◌∙◌, ⊎_elim}
use Rattle.std.proofs.lemmas.Bool.{cases_lt, cases_order}
use Rattle.file_table.specs.declared.row.FileRow.{FileRow}
use Rattle.compact_plan.specs.declared.group.Group.{Group}
use Rattle.compact_plan.specs.Plans.{BeginsGroup, IsPlan, NoPlan, size_at}

-- groups are equal by their parts
same_group : (first other count : ℕ) (also : ℕ) → first ≡ other → count ≡ also → (let left : Group = record { first = first; count = count } in let right : Group = record { first = other; count = also } in left ≡ right)
same_group first other count also places counts = cc

-- two plans are of one level
same_level : (lowest highest : ℕ) (rows : List FileRow) (group other : Group) (a : IsPlan lowest highest rows group) (b : IsPlan lowest highest rows other) → a.level ≡ b.level
same_level lowest highest rows group other a b = ⊎_elim
    (λ same. same)
    (λ differ. ⊎_elim
    (λ less. absurd (b.none_lower a.level a.from less group.first a.begins))
    (λ more. absurd (a.none_lower b.level b.from more other.first b.begins))
    differ)
    (cases_order a.level b.level)

pub one : (lowest highest : ℕ) (rows : List FileRow) (group other : Group) → IsPlan lowest highest rows group → IsPlan lowest highest rows other → group ≡ other
one lowest highest rows group other a b =
    let level : a.level ≡ b.level = same_level lowest highest rows group other a b in
    let there : BeginsGroup rows a.level other.first = subst (λ (l : ℕ). BeginsGroup rows l other.first) (sym level) b.begins in
    let here : BeginsGroup rows b.level group.first = subst (λ (l : ℕ). BeginsGroup rows l group.first) level a.begins in
    let place : group.first ≡ other.first = ⊎_elim
    (λ same. same)
    (λ differ. ⊎_elim
    (λ less. absurd (b.none_earlier group.first less here))
    (λ more. absurd (a.none_earlier other.first more there))
    differ)
    (cases_order group.first other.first) in
    same_group group.first other.first group.count other.count place (a.count ∙ ap size_at level ∙ sym b.count)

pub lower : (lowest middle highest : ℕ) (rows : List FileRow) (group : Group) → middle ≤ highest → IsPlan lowest middle rows group → IsPlan lowest highest rows group
lower lowest middle highest rows group within plan = record {
  level = plan.level;
  from = plan.from;
  to = omega (arith, plan.to);
  count = plan.count;
  begins = plan.begins;
  none_earlier = plan.none_earlier;
  none_lower = plan.none_lower;
}

pub above : (lowest middle highest : ℕ) (rows : List FileRow) (group : Group) → lowest ≤ middle + 1 → NoPlan lowest middle rows → IsPlan (middle + 1) highest rows group
    → IsPlan lowest highest rows group
above lowest middle highest rows group order nowhere plan = record {
  level = plan.level;
  from = omega (arith, plan.from);
  to = plan.to;
  count = plan.count;
  begins = plan.begins;
  none_earlier = plan.none_earlier;
  none_lower = λ level from less place. ⊎_elim
      (λ below. nowhere level from (omega arith) place)
      (λ at. plan.none_lower level at less place)
      (cases_lt level (middle + 1));
}

pub none : (lowest middle highest : ℕ) (rows : List FileRow) → NoPlan lowest middle rows → NoPlan (middle + 1) highest rows → NoPlan lowest highest rows
none lowest middle highest rows first second = λ level from to place. ⊎_elim
    (λ below. first level from (omega arith) place)
    (λ at. second level at to place)
    (cases_lt level (middle + 1))
