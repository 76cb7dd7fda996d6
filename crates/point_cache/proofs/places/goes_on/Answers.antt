use Rattle.std.proofs.Common.{◌-◌, sym, ap, ◌∙◌, arith}
use Rattle.point_cache.specs.Steps.{point_key}
use Rattle.point_cache.proofs.EntryLemmas.{item_or}
use Rattle.point_cache.proofs.places.goes_on.Goals as goal

pub returns : goal.returns
returns c = λ is. (
  c.args.i - 1,
  omega arith,
  λ one other a b.
      ap point_key (item_or c.args.points.now (c.args.i - 1) c.index-points-i.result one (omega arith) a)
      ∙ c.is_same_key.ensures is
      ∙ ap point_key (sym (item_or c.args.points.now c.args.i c.index-points-i-2.result other c.requires b)),
)
