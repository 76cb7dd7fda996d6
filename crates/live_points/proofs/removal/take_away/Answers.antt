-- The keys lose their points, and the samples of the measurement give place.
use Rattle.std.proofs.Common.{◌∙◌, ap, sym, subst, List}
use Rattle.point_model.specs.Cursors.{Key}
use Rattle.point_cache.specs.Cached.{value_at}
use Rattle.live_points.specs.Removed.{ForgetsKeys, HaveRoom, value_spared}
use Rattle.live_points.proofs.removal.take_away.Goals as goal

pub take_keys-requires : goal.take_keys-requires
take_keys-requires c = record { room = subst (λ (ks : List Key). HaveRoom c.args.removal.buffer ks) (sym c.as_slice.ensures.value) c.requires.room }

pub returns-clause-values : goal.returns-clause-values
returns-clause-values c = λ bytes time.
    c.take_keys.ensures.values bytes time
    ∙ ap (λ (ks : List Key). value_spared ks c.args.from c.args.to bytes time (value_at c.args.cache.now.runs bytes time)) c.as_slice.ensures.value

pub returns-clause-known : goal.returns-clause-known
returns-clause-known c =
    subst (λ (ks : List Key). ForgetsKeys c.take_keys.new.cache.runs ks c.args.known.now c.take_keys.new.known) c.as_slice.ensures.value c.take_keys.ensures.known
