use Rattle.std.proofs.Common.{List, Option, length, refl, ap, ◌∙◌, subst, arith}
use Rattle.tsdb_types.specs.declared.point.Point.{Point}
use Rattle.point_cache.specs.declared.key_points.KeyRun.{KeyRun}
use Rattle.point_cache.specs.Cache.{RoomFor}
use Rattle.point_cache.specs.Cached.{Cached, count, value_after, value_at}
use Rattle.point_cache.specs.Staged.{Staging, lives, nexts}
use Rattle.point_cache.proofs.CacheLemmas.{set_values}
use Rattle.point_cache.proofs.PlainLemmas.{count_front, count_nexts, length_plain, runs_next}
use Rattle.point_cache.proofs.StateLemmas.{cache_plain, front_plain}
use Rattle.point_cache.proofs.cache.PointCache.insert.Goals as goal

pub invariant_of-self : goal.invariant_of-self
invariant_of-self c =
    let es = c.self.inside.runs.entries in
    let room = subst (λ (b : Option (List Point)). RoomFor b c.self.inside.keys es) (ap (λ (v : Cached). v.room) c.self.view_is ∙ c.requires) c.self.invariant.room in
    let long = c.len-self-inside.ensures.len ∙ ap (λ (s : Staging). length s.entries) c.commit.ensures ∙ length_plain (nexts es) in
    cache_plain c.commit.new.self (nexts es) c.len-self-inside.result c.self.inside.snapshot_points _ c.commit.ensures (runs_next es room.some room.settled) long c.self.invariant.snapshot

pub returns : goal.returns
returns c =
    let es = c.self.inside.runs.entries in
    let batch = c.args.batch.now in
    let room = subst (λ (b : Option (List Point)). RoomFor b c.self.inside.keys es) (ap (λ (v : Cached). v.room) c.self.view_is ∙ c.requires) c.self.invariant.room in
    let long = c.len-self-inside.ensures.len ∙ ap (λ (s : Staging). length s.entries) c.commit.ensures ∙ length_plain (nexts es) in
    let front = front_plain c.commit.new.self (nexts es) c.len-self-inside.result c.commit.ensures long in
    record {
      values = λ key t.
          ap (λ (rs : List KeyRun). value_at rs key t) front ∙ set_values batch es c.self.inside.keys c.self.invariant.empty room key t
          ∙ ap (λ (v : Cached). value_after batch key t (value_at v.runs key t)) c.self.view_is;
      counted =
          let one = ap count front in
          let two = count_nexts es in
          let less = room.fewer in
          let all = count_front (lives es) c.self.inside.keys c.self.invariant.empty in
          let was = ap (λ (v : Cached). count v.runs) c.self.view_is in
          omega (arith, one, two, less, all, was);
      room = refl;
      snapshot = ap (λ (v : Cached). v.snapshot) c.self.view_is;
      tombs = ap (λ (v : Cached). v.tombs) c.self.view_is;
    }
