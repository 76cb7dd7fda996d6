-- What is learned of the columns changes no point; with the room of the cache all is known of the batch.
use Rattle.std.proofs.Common.{◌∙◌, ap, sym, subst, List}
use Rattle.tsdb_types.specs.declared.point.Point.{Point}
use Rattle.point_model.proofs.StoredLemmas.{none_some, some_values}
use Rattle.point_cache.specs.declared.key_points.KeyRun.{KeyRun}
use Rattle.point_cache.specs.Cached.{Cached}
use Rattle.live_points.specs.Known.{Holds}
use Rattle.live_points.specs.Learned.{IsLearned}
use Rattle.live_points.proofs.CommitLemmas.{is_learned, learned, marked_columns}
use Rattle.live_points.proofs.points.LivePoints.reserve.Goals as goal

pub invariant_of-self : goal.invariant_of-self
invariant_of-self c = (
  learned c.self.inside.cache.runs c.self.inside.keys c.self.inside.samples c.columns.result.now c.self.invariant.0
      (marked_columns c.args.batch.now c.requires c.columns.result.now c.columns.ensures)
      c.learn_columns.new.keys c.learn_columns.new.samples c.learn_columns.ensures.keys c.learn_columns.ensures.samples,
  λ points is. absurd (none_some points is),
)

pub invariant_of-self-in_err-reserve : goal.invariant_of-self-in_err-reserve
invariant_of-self-in_err-reserve c = (
  subst (λ (runs : List KeyRun). Holds runs c.learn_columns.new.keys c.learn_columns.new.samples) (sym (ap (λ (cached : Cached). cached.runs) c.in_err-reserve.ensures.err))
      (learned c.self.inside.cache.runs c.self.inside.keys c.self.inside.samples c.columns.result.now c.self.invariant.0
      (marked_columns c.args.batch.now c.requires c.columns.result.now c.columns.ensures)
      c.learn_columns.new.keys c.learn_columns.new.samples c.learn_columns.ensures.keys c.learn_columns.ensures.samples),
  λ points is. absurd (none_some points is),
)

pub invariant_of-self-2 : goal.invariant_of-self-2
invariant_of-self-2 c =
    let runs_are = ap (λ (cached : Cached). cached.runs) c.in_ok-reserve.ensures.ok in
    let room_is = ap (λ (cached : Cached). cached.room) c.in_ok-reserve.ensures.ok in (
      subst (λ (runs : List KeyRun). Holds runs c.learn_columns.new.keys c.learn_columns.new.samples) (sym runs_are)
          (learned c.self.inside.cache.runs c.self.inside.keys c.self.inside.samples c.columns.result.now c.self.invariant.0
          (marked_columns c.args.batch.now c.requires c.columns.result.now c.columns.ensures)
          c.learn_columns.new.keys c.learn_columns.new.samples c.learn_columns.ensures.keys c.learn_columns.ensures.samples),
      λ points is.
          subst (λ (runs : List KeyRun). IsLearned runs c.learn_columns.new.keys c.learn_columns.new.samples points) (sym runs_are)
          (subst (λ (batch : List Point). IsLearned c.self.inside.cache.runs c.learn_columns.new.keys c.learn_columns.new.samples batch) (some_values c.args.batch.now points (sym room_is ∙ is))
          (is_learned c.self.inside.cache.runs c.learn_columns.new.keys c.learn_columns.new.samples c.args.batch.now c.columns.result.now c.points.result.now
          c.requires c.columns.ensures c.points.ensures.points c.look_at.ensures c.in_ok-learn_columns.ensures.known c.in_ok-learn_columns.ensures.sampled)),
    )

pub learn_columns-requires-clause-marked : goal.learn_columns-requires-clause-marked
learn_columns-requires-clause-marked c = marked_columns c.args.batch.now c.requires c.columns.result.now c.columns.ensures
