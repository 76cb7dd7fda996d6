use Rattle.std.proofs.Common.{List, ℕ, subst}
use Rattle.std.proofs.lemmas.Result.{on_ok_weaker}
use Rattle.std.specs.Str.{IsUtf8}
use Rattle.tsdb_types.proofs.EscapeLemmas.{IsUtf8-tag}
use Rattle.tsdb_types.proofs.series.push_tag.Goals as goal

pub returns-clause-utf8 : goal.returns-clause-utf8
returns-clause-utf8 c =
    let key = subst (λ (t : List ℕ). IsUtf8 t) c.as_str.ensures.text c.as_str.utf8 in
    let value = subst (λ (t : List ℕ). IsUtf8 t) c.as_str-2.ensures.text c.as_str-2.utf8 in
    on_ok_weaker c.push_escaped-2.result (λ _. IsUtf8-tag c.args.tag.now key value) c.push_escaped-2.ensures
