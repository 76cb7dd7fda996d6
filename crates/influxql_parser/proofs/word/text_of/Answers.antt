use Rattle.std.proofs.Common.{◌≡◌, ℕ, Vec, Global, Bool, true, cond, Some, None, List, sym, ap, subst, ◌∙◌}
use Rattle.std.proofs.lemmas.Str.{IsUtf8-string_bytes, is_utf8-from_IsUtf8}
use Rattle.std.specs.Str.{IsUtf8, is_utf8}
use Rattle.std.specs.String.{string_bytes}
use Rattle.influxql_parser.proofs.WordLemmas.{not-utf8}
use Rattle.influxql_parser.proofs.word.text_of.Goals as goal

pub returns-in-Err : goal.returns-in-Err
returns-in-Err c = sym (ap (λ (b : Bool). cond b (Some c.args.text.items) None) (not-utf8 c.args.text.items c.in-Err.ensures.succeeds))

pub returns : goal.returns
returns c =
    let same : string_bytes c.in-Ok.text ≡ c.args.text.items = ap (λ (v : Vec ℕ Global). v.items) c.in-Ok.ensures.ok in
    let utf8 : is_utf8 c.args.text.items ≡ true = is_utf8-from_IsUtf8 c.args.text.items (subst (λ (t : List ℕ). IsUtf8 t) same (IsUtf8-string_bytes c.in-Ok.text)) in
    ap (λ (t : List ℕ). Some t) (c.new.ensures ∙ same) ∙ sym (ap (λ (b : Bool). cond b (Some c.args.text.items) None) utf8)
