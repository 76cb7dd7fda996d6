use Rattle.std.proofs.Common.{◌≡◌, ◌+◌, ◌++◌, ◌∷◌, [], ℕ, List, take, map, get_or, sym, ◌∙◌, ap, arith, refl}
use Rattle.std.specs.Prelude.{ℤ}
use Rattle.std.proofs.lemmas.List.{append-nil, take_all, take_more}
use Rattle.std.proofs.lemmas.List.Elements.{All-push, All-same, All-cons, All-nil}
use Rattle.tsdb_types.specs.declared.value.Value.{Value}
use Rattle.tsdb_types.specs.Values.{kind_of}
use Rattle.value_codec.specs.Steps.{steps_from}
use Rattle.value_codec.specs.Coding.{number_of, IsInRange}
use Rattle.value_codec.proofs.StepLemmas.{first_value, next_value, steps_from-nil}
use Rattle.value_codec.proofs.PointLemmas.{values_push, times_more}
use Rattle.value_codec.proofs.points.points_of_kind.Goals as goal

pub loop-k-init : goal.loop-k-init
loop-k-init c =
    let value = c.value_with.result in
    let time = c.index-times-0.result in
    let one : c.push_reserved.new.self.items ≡ (time, value) ∷ [] =
    c.push_reserved.ensures.items ∙ ap (λ (ps : List (ℤ × Value)). ps ++ (time, value) ∷ []) c.in_ok-points.ensures.items in
    let values : map (λ point. point.1) c.push_reserved.new.self.items ≡ value ∷ [] = ap (map (λ point. point.1)) one in
    record {
      times = times_more [] c.push_reserved.new.self.items c.args.times.now 0 time value (omega (arith, c.requires.size)) c.index-times-0.is one refl;
      steps = first_value (map (λ point. point.1) c.push_reserved.new.self.items) value c.number_after-number.result c.args.first values c.value_with.ensures.bits c.number_after-number.ensures;
      kind = All-same (λ v. kind_of v ≡ c.args.kind) (map (λ point. point.1) c.push_reserved.new.self.items) (value ∷ []) values (All-cons (λ v. kind_of v ≡ c.args.kind) value [] c.value_with.ensures.kind (All-nil (λ v. kind_of v ≡ c.args.kind)));
      range = All-same IsInRange (map (λ point. point.1) c.push_reserved.new.self.items) (value ∷ []) values (All-cons IsInRange value [] c.value_with.ensures.range (All-nil IsInRange));
      len = omega (arith, c.push_reserved.ensures.len, c.in_ok-points.ensures.len);
      room = c.push_reserved.ensures.capacity ∙ c.in_ok-points.ensures.exact;
    }

pub loop-k-preserved : goal.loop-k-preserved
loop-k-preserved c =
    let at = c.loop-k in
    let rest = c.args.rest.now in
    let value = c.value_with-in-loop-k.result in
    let time = c.index-times-k.result in
    let new = c.push_reserved-in-loop-k.new.self.items in
    let front = map (λ point. point.1) at.points.items in
    let items = map (λ point. point.1) new in
    let more : items ≡ front ++ value ∷ [] = values_push at.points.items new time value c.push_reserved-in-loop-k.ensures.items in
    record {
      times = times_more at.points.items new c.args.times.now (at.k + 1) time value (omega (arith, c.requires.size, c.loop-k-test.true)) c.index-times-k.is c.push_reserved-in-loop-k.ensures.items at.invariant.times;
      steps = λ later.
          next_value front items value at.number c.number_after-number-in-loop-k.result (get_or rest at.k 0) (c.args.first ∷ take at.k rest)
          more c.value_with-in-loop-k.ensures.bits c.number_after-number-in-loop-k.ensures at.invariant.steps later
          ∙ ap (λ (ns : List ℕ). (c.args.first ∷ ns) ++ steps_from c.number_after-number-in-loop-k.result later) (sym (take_more rest at.k 0 c.loop-k-test.true));
      kind = All-same (λ v. kind_of v ≡ c.args.kind) items (front ++ value ∷ []) more (All-push (λ v. kind_of v ≡ c.args.kind) front value at.invariant.kind c.value_with-in-loop-k.ensures.kind);
      range = All-same IsInRange items (front ++ value ∷ []) more (All-push IsInRange front value at.invariant.range c.value_with-in-loop-k.ensures.range);
      len = omega (arith, c.push_reserved-in-loop-k.ensures.len, at.invariant.len);
      room = c.push_reserved-in-loop-k.ensures.capacity ∙ at.invariant.room;
    }

pub returns-clause-times : goal.returns-clause-times
returns-clause-times c =
    let at = c.loop-k in
    at.invariant.times ∙ take_all (at.k + 1) c.args.times.now (omega (arith, c.requires.size, c.loop-k-test.false))

pub returns-clause-steps : goal.returns-clause-steps
returns-clause-steps c =
    let at = c.loop-k in
    let values = map (λ point. point.1) at.points.items in
    ap (steps_from 0) (sym (append-nil (map number_of values)))
    ∙ at.invariant.steps []
    ∙ ap (λ (ns : List ℕ). (c.args.first ∷ take at.k c.args.rest.now) ++ ns) (steps_from-nil at.number)
    ∙ append-nil (c.args.first ∷ take at.k c.args.rest.now)
    ∙ ap (λ (ns : List ℕ). c.args.first ∷ ns) (take_all at.k c.args.rest.now c.loop-k-test.false)
