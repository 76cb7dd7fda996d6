-- One key more is taken away.
use Rattle.std.proofs.Common.{◌≤◌, ◌+◌, ◌∙◌, ap, sym, refl, List, drop, length, arith, vec_capacity, Option}
use Rattle.std.proofs.lemmas.List.{drop_all}
use Rattle.tsdb_types.specs.declared.value.Value.{Value}
use Rattle.point_model.specs.Cursors.{Key}
use Rattle.point_cache.specs.Cached.{value_at}
use Rattle.live_points.specs.Held.{composite}
use Rattle.live_points.specs.Removed.{IsOneOf, value_spared}
use Rattle.live_points.proofs.RemovalLemmas.{all_places}
use Rattle.live_points.proofs.TakingLemmas.{forgets_none, forgets_step, key_at, rest_at}
use Rattle.live_points.proofs.removal.take_keys.Goals as goal

pub loop-key-init : goal.loop-key-init
loop-key-init c = record {
  room = omega arith;
  values = λ bytes time. refl;
  known = forgets_none c.args.cache.now.runs c.args.keys.now c.args.known.now;
}

pub take_key-requires : goal.take_key-requires
take_key-requires c =
    let keys = c.args.keys.now in
    let item = c.key-item.result in
    let there : IsOneOf keys item = (c.loop-key.key-index, key_at keys c.loop-key.key-index item c.loop-key-test.true c.key-item.is) in
    let fits : length (composite item) ≤ vec_capacity c.args.buffer.now =
    all_places (λ (k : Key). length (composite k) ≤ vec_capacity c.args.buffer.now) keys c.requires.room item there in
    let more = c.loop-key.invariant.room in
    omega (arith, fits, more)

pub loop-key-preserved : goal.loop-key-preserved
loop-key-preserved c =
    let keys = c.args.keys.now in
    let i = c.loop-key.key-index in
    let item = c.key-item.result in
    let there : IsOneOf keys item = (i, key_at keys i item c.loop-key-test.true c.key-item.is) in
    let inv = c.loop-key.invariant in
    let from = c.args.from in
    let to = c.args.to in
    record {
      room = let before = inv.room in let more = c.take_key.ensures.capacity in omega (arith, before, more);
      values = λ bytes time.
          ap (λ (o : Option Value). value_spared (drop (i + 1) keys) from to bytes time o) (c.take_key.ensures.values bytes time)
          ∙ ap (λ (ks : List Key). value_spared ks from to bytes time (value_at c.loop-key.cache.runs bytes time)) (sym (rest_at keys i item c.loop-key-test.true c.key-item.is))
          ∙ inv.values bytes time;
      known = forgets_step keys item from to c.loop-key.cache.runs c.take_key.new.cache.runs c.args.known.now c.loop-key.known c.take_key.new.known there
          c.take_key.ensures.values inv.known c.take_key.ensures.known;
    }

pub returns-clause-values : goal.returns-clause-values
returns-clause-values c = λ bytes time.
    ap (λ (ks : List Key). value_spared ks c.args.from c.args.to bytes time (value_at c.loop-key.cache.runs bytes time))
    (sym (drop_all c.loop-key.key-index c.args.keys.now c.loop-key-test.false))
    ∙ c.loop-key.invariant.values bytes time

pub returns-clause-known : goal.returns-clause-known
returns-clause-known c = c.loop-key.invariant.known
