use Rattle.std.proofs.Common.{ℕ, List, ◌++◌, sym, ap, subst, ◌∙◌}
use Rattle.std.specs.Str.{IsUtf8}
use Rattle.std.proofs.lemmas.Bool.{false≢true}
use Rattle.tsdb_types.specs.Series.{is_one_of}
use Rattle.tsdb_types.specs.Spelled.{unescaped}
use Rattle.line_protocol.proofs.TextLemmas.{name-utf8}
use Rattle.line_protocol.proofs.name.name_of.Goals as goal

pub unreachable-requires : goal.unreachable-requires
unreachable-requires c =
    let spelled = c.in_ok-push_name.ensures ∙ ap (λ (t : List ℕ). t ++ unescaped (is_one_of c.args.ends.now) c.args.part.now) c.in_ok-text.ensures.items in
    false≢true (c.in-Err.ensures.succeeds (subst (λ (t : List ℕ). IsUtf8 t) (sym spelled) (name-utf8 (is_one_of c.args.ends.now) c.args.part.now c.requires.utf8)))
