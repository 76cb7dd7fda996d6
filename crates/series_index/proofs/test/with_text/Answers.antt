use Rattle.std.proofs.Common.{◌≡◌, ◌<◌, ℕ, List, [], length, Result, Err, sym, ap, ◌∙◌, subst, arith}
use Rattle.std.proofs.lemmas.Bool.Decides.{nat_tests}
use Rattle.tsdb_types.specs.Names.{IsName}
use Rattle.tsdb_types.specs.declared.name.NameFault.{NameFault}
use Rattle.series_index.proofs.ListedLemmas.{no_ids}
use Rattle.series_index.proofs.test.with_text.Goals as goal

abbrev refused : NameFault → Result (List ℕ) NameFault
refused fault = Err fault

pub returns-in-Err-BadName : goal.returns-in-Err-BadName
returns-in-Err-BadName c series_of told =
    let text = c.as_str-text.ensures in
    let bytes : c.as_bytes.result.now ≡ c.args.text.now = c.as_bytes.ensures.value ∙ text in
    let test = c.if-is_empty.ensures in
    let some : 0 < length c.as_bytes.result.now = grind (arith, nat_tests, test) in
    c.new-in-Err-BadName.ensures.items
    ∙ no_ids series_of c.args.lists.now c.args.measurement.now c.args.all.now told c.args.key.now c.args.text.now (λ (none : c.args.text.now ≡ []). omega (arith, some, ap length (bytes ∙ none)))
    (λ name. c.in-Err-BadName.ensures.bad.0 (ap (λ (f : NameFault). refused f) c.in-Err-BadName.field-0-is) (subst IsName (sym text) name))
