-- One point more is noted, or its field has two kinds.
use Rattle.std.proofs.Common.{List, take, Bool, sym, subst}
use Rattle.std.specs.Prelude.{Contains}
use Rattle.std.proofs.lemmas.List.{take_all}
use Rattle.std.proofs.lemmas.List.Elements.{Contains-get_or}
use Rattle.tsdb_types.specs.declared.point.Point.{Point}
use Rattle.point_cache.proofs.OrderLemmas.{take_item}
use Rattle.shard_opening.specs.Kinds.{Notes}
use Rattle.shard_opening.proofs.KindLemmas.{AreNoted, front_within, noted_more, none_noted, one_kind, several}
use Rattle.shard_opening.proofs.kinds.has_one_kind.Goals as goal

pub loop-point-init : goal.loop-point-init
loop-point-init c = none_noted c.new-kinds.result c.new-kinds.ensures.empty

pub returns-then-not-branch-clause-several : goal.returns-then-not-branch-clause-several
returns-then-not-branch-clause-several c = λ is one.
    let points = c.args.points.now in
    let i = c.loop-point.point-index in
    let point = c.point-item.result in
    several (take i points) point points c.loop-point.kinds c.note_kind.new.kinds c.loop-point.invariant
    (subst (λ (b : Bool). Notes point b c.loop-point.kinds c.note_kind.new.kinds) c.if-not-branch.true c.in_ok-note_kind.ensures)
    (front_within i points) (subst (Contains points) (sym c.point-item.is) (Contains-get_or points i _ c.loop-point-test.true)) one

pub loop-point-preserved : goal.loop-point-preserved
loop-point-preserved c =
    let points = c.args.points.now in
    let i = c.loop-point.point-index in
    let point = c.point-item.result in
    subst (λ (l : List Point). AreNoted l c.note_kind.new.kinds) (sym (take_item points i point c.loop-point-test.true c.point-item.is))
    (noted_more (take i points) point c.loop-point.kinds c.note_kind.new.kinds c.loop-point.invariant
    (subst (λ (b : Bool). Notes point b c.loop-point.kinds c.note_kind.new.kinds) c.if-not-branch.false c.in_ok-note_kind.ensures))

pub returns-clause-one : goal.returns-clause-one
returns-clause-one c = λ is.
    one_kind c.args.points.now c.loop-point.kinds (subst (λ (l : List Point). AreNoted l c.loop-point.kinds) (take_all c.loop-point.point-index c.args.points.now c.loop-point-test.false) c.loop-point.invariant)
