use Rattle.std.proofs.Common.{List, refl, sym, ap, ◌∙◌, subst, arith}
use Rattle.std.specs.List.{AllByRecursion}
use Rattle.point_model.specs.Rows.{Row}
use Rattle.point_cache.specs.declared.key_points.KeyRun.{KeyRun}
use Rattle.point_cache.specs.Cached.{Cached, IsRun, count, latest, points_at, value_at}
use Rattle.point_cache.specs.Calls.{value_without}
use Rattle.point_cache.specs.Staged.{lives}
use Rattle.point_cache.proofs.CacheLemmas.{all_front, taken_value}
use Rattle.point_cache.proofs.PlainLemmas.{length_lives}
use Rattle.point_cache.proofs.StateLemmas.{cache_plain, plain_own, plain_rows}
use Rattle.point_cache.proofs.cache.PointCache.remove.Goals as goal

pub remove-requires : goal.remove-requires
remove-requires c = plain_own c.discard.new.self _ c.discard.ensures

pub invariant_of-self : goal.invariant_of-self
invariant_of-self c =
    let new = c.remove.new.self in
    let rows = plain_rows c.discard.new.self _ c.discard.ensures in
    let each = c.remove.ensures.each (subst (AllByRecursion IsRun) (sym rows) c.self.invariant.each) in
    cache_plain new (lives new.entries) c.len-self-inside.result c.self.inside.snapshot_points _ c.remove.ensures.plain each (c.len-self-inside.ensures.len ∙ sym (length_lives new.entries)) c.self.invariant.snapshot

pub returns : goal.returns
returns c =
    let new = c.remove.new.self in
    let own = c.args.key.now in
    let rows = plain_rows c.discard.new.self _ c.discard.ensures in
    let front = all_front (lives new.entries) c.len-self-inside.result (c.len-self-inside.ensures.len ∙ sym (length_lives new.entries)) in
    record {
      values = λ key t.
          ap (λ (rs : List KeyRun). value_at rs key t) front ∙ ap (λ (l : List Row). latest l t) (c.remove.ensures.points key)
          ∙ taken_value own c.args.from c.args.to key (points_at (lives c.discard.new.self.entries) key) t
          ∙ ap (λ (rs : List KeyRun). value_without own c.args.from c.args.to key t (value_at rs key t)) (rows ∙ ap (λ (v : Cached). v.runs) c.self.view_is);
      counted =
          let one = ap count front in
          let less = c.remove.ensures.fewer in
          let was = ap count (rows ∙ ap (λ (v : Cached). v.runs) c.self.view_is) in
          omega (arith, one, less, was);
      room = refl;
      snapshot = ap (λ (v : Cached). v.snapshot) c.self.view_is;
      tombs = ap (λ (v : Cached). v.tombs) c.self.view_is;
    }
