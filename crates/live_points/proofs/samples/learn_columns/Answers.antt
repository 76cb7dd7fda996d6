-- Each column is made known and sees to its own field, and leaves those before it known and with a sample.
use Rattle.std.proofs.Common.{◌≡◌, ℕ, Some, slice_get, subst, lt_of_lt_of_le}
use Rattle.std.proofs.lemmas.Option.{slice_get_within}
use borrow.Author.Count.{below_more}
use Rattle.tsdb_types.specs.declared.column.Column.{Column}
use Rattle.live_points.specs.Known.{IsKnown}
use Rattle.live_points.specs.Learned.{IsAmong, IsSampled, key_of_column}
use Rattle.live_points.proofs.SampleLemmas.{item_at, learned_where, learns_step, resample_step, resamples_keys, sampled_now, sampled_step, some_same}
use Rattle.live_points.proofs.samples.learn_columns.Goals as goal

pub learn_column-requires : goal.learn_column-requires
learn_column-requires c =
    let columns = c.args.columns.now in
    let item = c.column-item.result in
    let there : IsAmong columns item = (c.loop-column.column-index, item_at columns c.loop-column.column-index item c.loop-column-test.true c.column-item.is) in
    learned_where c.args.cache.now.runs columns c.args.keys.now c.loop-column.keys c.args.samples.now c.loop-column.samples c.requires.holds item (c.requires.marked item there)
    c.loop-column.invariant.keys c.loop-column.invariant.samples

pub returns-in_err-learn_column-clause-keys : goal.returns-in_err-learn_column-clause-keys
returns-in_err-learn_column-clause-keys c =
    let columns = c.args.columns.now in
    let item = c.column-item.result in
    let there : IsAmong columns item = (c.loop-column.column-index, item_at columns c.loop-column.column-index item c.loop-column-test.true c.column-item.is) in
    learns_step columns c.args.keys.now c.loop-column.keys c.learn_column.new.keys item there c.loop-column.invariant.keys c.learn_column.ensures.adds

pub returns-in_err-learn_column-clause-samples : goal.returns-in_err-learn_column-clause-samples
returns-in_err-learn_column-clause-samples c =
    let columns = c.args.columns.now in
    let runs = c.args.cache.now.runs in
    let item = c.column-item.result in
    let there : IsAmong columns item = (c.loop-column.column-index, item_at columns c.loop-column.column-index item c.loop-column-test.true c.column-item.is) in
    resample_step runs columns c.learn_column.new.keys c.args.samples.now c.loop-column.samples c.learn_column.new.samples item there
    (resamples_keys runs columns c.loop-column.keys c.learn_column.new.keys c.args.samples.now c.loop-column.samples (λ key known. c.learn_column.ensures.adds.kept key known) c.loop-column.invariant.samples)
    c.learn_column.ensures.kept

pub loop-column-preserved : goal.loop-column-preserved
loop-column-preserved c =
    let columns = c.args.columns.now in
    let runs = c.args.cache.now.runs in
    let i = c.loop-column.column-index in
    let item = c.column-item.result in
    let keys = c.learn_column.new.keys in
    let samples = c.learn_column.new.samples in
    let adds = c.learn_column.ensures.adds in
    let there : IsAmong columns item = (i, item_at columns i item c.loop-column-test.true c.column-item.is) in
    record {
      keys = learns_step columns c.args.keys.now c.loop-column.keys keys item there c.loop-column.invariant.keys adds;
      samples =
          resample_step runs columns keys c.args.samples.now c.loop-column.samples samples item there
          (resamples_keys runs columns c.loop-column.keys keys c.args.samples.now c.loop-column.samples (λ key known. adds.kept key known) c.loop-column.invariant.samples)
          c.learn_column.ensures.kept;
      known = λ k column l g.
          below_more (λ (j : ℕ). (q : Column) → slice_get columns j ≡ Some q → IsKnown keys (key_of_column q)) i
          (λ j below q at. adds.kept (key_of_column q) (c.loop-column.invariant.known j q below at))
          (λ q at. subst (λ (r : Column). IsKnown keys (key_of_column r)) (some_same (slice_get columns i) item q there.1 at) c.in_ok-learn_column.ensures.known)
          k l column g;
      sampled = λ k column l g.
          below_more (λ (j : ℕ). (q : Column) → slice_get columns j ≡ Some q → IsSampled runs columns samples q) i
          (λ j below q at. sampled_step runs columns keys c.loop-column.samples samples item q there (c.loop-column.invariant.sampled j q below at) c.learn_column.ensures.kept)
          (λ q at.
          subst (λ (r : Column). IsSampled runs columns samples r) (some_same (slice_get columns i) item q there.1 at)
          (sampled_now runs columns samples item there c.in_ok-learn_column.ensures.sampled))
          k l column g;
    }

pub returns-clause-known : goal.returns-clause-known
returns-clause-known c = λ column there.
    c.loop-column.invariant.known there.0 column (lt_of_lt_of_le (slice_get_within c.args.columns.now there.0 column there.1) c.loop-column-test.false) there.1

pub returns-clause-sampled : goal.returns-clause-sampled
returns-clause-sampled c = λ column there.
    c.loop-column.invariant.sampled there.0 column (lt_of_lt_of_le (slice_get_within c.args.columns.now there.0 column there.1) c.loop-column-test.false) there.1
