use Rattle.std.proofs.Common.{ap, subst}
use Rattle.point_cache.specs.Staged.{Staging, KeysApart}
use Rattle.point_cache.proofs.EntryLemmas.{keys_apart}
use Rattle.point_cache.proofs.runs.Runs.len.Goals as goal

pub returns-clause-apart : goal.returns-clause-apart
returns-clause-apart c = subst KeysApart (ap (λ (s : Staging). s.entries) c.self.view_is) (keys_apart c.self.inside.map.entries c.len.ensures.unique)
