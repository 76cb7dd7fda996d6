use Rattle.std.proofs.Common.{List, [], take, None, refl, sym, ap, ◌∙◌, subst}
use Rattle.std.specs.List.{AllByRecursion}
use Rattle.point_cache.specs.declared.key_points.KeyRun.{KeyRun}
use Rattle.point_cache.specs.Cached.{Cached, IsRun, count, points_at}
use Rattle.point_cache.specs.Staged.{Staging, lives}
use Rattle.point_cache.proofs.PlainLemmas.{count_lives}
use Rattle.point_cache.proofs.ResultLemmas.{on_err}
use Rattle.point_cache.proofs.StateLemmas.{cache_plain, front_long, front_plain, plain_own, plain_rows}
use Rattle.point_cache.proofs.cache.PointCache.begin_snapshot.Goals as goal

pub freeze-requires : goal.freeze-requires
freeze-requires c = plain_own c.discard.new.self _ c.discard.ensures

pub invariant_of-self : goal.invariant_of-self
invariant_of-self c =
    let k = c.self.inside.keys in
    let es = c.self.inside.runs.entries in
    cache_plain c.freeze.new.runs (take k (lives es)) k c.self.inside.snapshot_points _ (c.in_err-frozen.ensures.err ∙ c.discard.ensures) c.self.invariant.each (front_long es k c.self.invariant.within) c.self.invariant.snapshot

pub returns-in_err-frozen-clause-err : goal.returns-in_err-frozen-clause-err
returns-in_err-frozen-clause-err c =
    let k = c.self.inside.keys in
    let es = c.self.inside.runs.entries in
    let runs = front_plain c.freeze.new.runs (take k (lives es)) k (c.in_err-frozen.ensures.err ∙ c.discard.ensures) (front_long es k c.self.invariant.within) ∙ ap (λ (v : Cached). v.runs) c.self.view_is in
    on_err c.from_residual.result (λ i. record { runs = runs i; room = None; snapshot = (c.self.view_is i).snapshot; tombs = (c.self.view_is i).tombs })

pub invariant_of-self-2 : goal.invariant_of-self-2
invariant_of-self-2 c =
    let rows = plain_rows c.discard.new.self _ c.discard.ensures in
    let frozen = c.in_ok-frozen.ensures.frozen in
    cache_plain c.freeze.new.runs [] 0 c.points-points.result _ c.in_ok-frozen.ensures.none tt refl (record {
      ordered = frozen.ordered;
      each = frozen.each (subst (AllByRecursion IsRun) (sym rows) c.self.invariant.each);
      counted = c.points-points.ensures ∙ sym (count_lives c.discard.new.self.entries) ∙ sym frozen.counted;
    })

pub returns-clause-ok : goal.returns-clause-ok
returns-clause-ok c =
    let rows = plain_rows c.discard.new.self _ c.discard.ensures in
    let frozen = c.in_ok-frozen.ensures.frozen in
    record {
      frozen = _;
      snapshot = refl;
      points = λ key. frozen.points key ∙ ap (λ (rs : List KeyRun). points_at rs key) (rows ∙ ap (λ (v : Cached). v.runs) c.self.view_is);
      ordered = frozen.ordered;
      counted = frozen.counted ∙ ap count (rows ∙ ap (λ (v : Cached). v.runs) c.self.view_is);
      runs = ap (λ (s : Staging). take 0 (lives s.entries)) c.in_ok-frozen.ensures.none;
      room = refl;
      tombs = c.new.ensures;
    }
