use Rattle.std.proofs.Common.{ℕ, List, ◌++◌, sym, ap, ◌∙◌}
use Rattle.tsdb_types.specs.Series.{is_one_of}
use Rattle.line_protocol.proofs.NameLemmas.{plain}
use Rattle.line_protocol.proofs.name.push_name.Goals as goal

pub returns : goal.returns
returns c =
    let same = plain (is_one_of c.args.ends.now) c.args.part.now (sym c.contains.ensures.value ∙ c.if-contains.false) in
    c.in_ok-extend_from_slice.ensures.items ∙ ap (λ (t : List ℕ). c.args.text.now.items ++ t) (sym same)
