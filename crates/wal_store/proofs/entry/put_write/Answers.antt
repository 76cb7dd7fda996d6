use Rattle.std.proofs.Common.{◌^◌, ◌<◌, List, refl, subst, rules}
use Rattle.std.proofs.lemmas.Result.{on_ok_weaker}
use Rattle.tsdb_types.specs.declared.point.Point.{Point}
use Rattle.point_model.specs.declared.entry.Entry.TheVariants.{Write}
use Rattle.wal_store.specs.Form.{AreGroups}
use Rattle.wal_store.specs.Runs.{runs_of}
use Rattle.wal_store.proofs.EntryLemmas.{spelled_write}
use Rattle.wal_store.proofs.entry.put_write.Goals as goal

pub returns-clause-spells : goal.returns-clause-spells
returns-clause-spells c =
    let fits : c.args.client < 2 ^ 32 = search rules in
    on_ok_weaker c.put_groups.result
    (λ are. spelled_write (Write c.args.client c.args.points.now) c.args.client c.args.points.now refl fits c.requires (subst (λ (ps : List Point). AreGroups (runs_of ps)) c.points.ensures.points are)) c.put_groups.ensures.groups
