use Rattle.std.proofs.Common.{◌≡◌, ◌≢◌, ◌++◌, [], ◌∷◌, ℕ, List, Option, length, inr, sym, ap, ◌∙◌, subst}
use Rattle.std.specs.Prelude.{IsTrue}
use Rattle.shard_disk.specs.Stage.{Refused}
use Rattle.point_model.specs.Rows.{Row}
use Rattle.tsm_file.specs.Written.{KeyedPoint}
use Rattle.tsm_file.specs.Writing.{IsOpen}
use Rattle.tsm_file.specs.Steps.{MayBegin}
use Rattle.tsm_file.proofs.WritingLemmas.{may_begin, may_go_on, must_be_open, not_none, on_ok_both, on_ok_then, other_key, same_key}
use Rattle.tsm_file.proofs.writer.TsmWriter.push.Goals as goal

pub returns-then-ne-clause-ok : goal.returns-then-ne-clause-ok
returns-then-ne-clause-ok g c =
    let self = c.args.self.now in
    let tells = IsTrue g.W.Writer.tells in
    let content = g.W.Writer.content self.device in
    let point : KeyedPoint = record { key = c.args.key.now; time = c.args.time; value = c.args.value } in
    let some : self.points.items ≡ [] → ⊥ = λ none. not_none _ c.is_empty.result c.is_empty.ensures c.if-is_empty.false (self.points.ok.0 ∙ ap (λ (l : List Row). length l) none) in
    let before = must_be_open tells content self c.requires.0 some c.requires.1.points in
    let other : self.key.items ≡ c.args.key.now → ⊥ = λ same. other_key c.as_slice.result.now c.args.key.now c.ne.result c.ne.ensures c.if-ne.true (c.as_slice.ensures.value ∙ same) in
    let may = subst (λ (last : Option (List ℕ)). MayBegin last c.args.key.now) (sym c.in_ok-end_key.ensures.last) (may_begin tells content self c.requires.0 point before c.requires.2 other) in
    on_ok_then c.begin-then-ne.result
    (λ opens pushed held. record {
      usable = subst (λ (d : g.row.W.Denot). g.W.Writer.stage d ≢ Refused) (sym c.begin-then-ne.ensures.device) c.in_ok-end_key.ensures.usable;
      points = inr (opens pushed may (c.in_ok-end_key.ensures.closes pushed (must_be_open tells content self pushed some held.points)));
    })
    c.begin-then-ne.ensures.opens

pub add-requires-clause-may : goal.add-requires-clause-may
add-requires-clause-may g c κs within =
    let self = c.args.self.now in
    let tells = IsTrue g.W.Writer.tells in
    let content = g.W.Writer.content self.device in
    let point : KeyedPoint = record { key = c.args.key.now; time = c.args.time; value = c.args.value } in
    let some : self.points.items ≡ [] → ⊥ = λ none. not_none _ c.is_empty.result c.is_empty.ensures c.if-is_empty.false (self.points.ok.0 ∙ ap (λ (l : List Row). length l) none) in
    let before = must_be_open tells content self c.requires.0 some c.requires.1.points in
    let same : self.key.items ≡ c.args.key.now = sym c.as_slice.ensures.value ∙ same_key c.as_slice.result.now c.args.key.now c.ne.result c.ne.ensures c.if-ne.false in
    may_go_on tells content self c.requires.0 point before c.requires.2 same

pub returns-clause-ok : goal.returns-clause-ok
returns-clause-ok g c =
    let self = c.args.self.now in
    let tells = IsTrue g.W.Writer.tells in
    let content = g.W.Writer.content self.device in
    let some : self.points.items ≡ [] → ⊥ = λ none. not_none _ c.is_empty.result c.is_empty.ensures c.if-is_empty.false (self.points.ok.0 ∙ ap (λ (l : List Row). length l) none) in
    let same : self.key.items ≡ c.args.key.now = sym c.as_slice.ensures.value ∙ same_key c.as_slice.result.now c.args.key.now c.ne.result c.ne.ensures c.if-ne.false in
    on_ok_both c.add.result
    (λ goes_on usable pushed held. record {
      usable = usable;
      points = inr (subst (λ (key : List ℕ). IsOpen tells (g.W.Writer.content c.add.new.self.device) c.add.new.self (pushed ++ (record { key = key; time = c.args.time; value = c.args.value } ∷ []))) same
          (goes_on pushed (must_be_open tells content self pushed some held.points)));
    })
    c.add.ensures.goes_on c.add.ensures.usable
