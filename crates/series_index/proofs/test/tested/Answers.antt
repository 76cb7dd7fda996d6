use Rattle.std.proofs.Common.{◌≡◌, ℕ, List, IfOk, sym, ◌∙◌, subst, rules}
use Rattle.std.specs.List.Sorted.{IsNonDecreasing}
use Rattle.std.specs.Str.{bytes_eq}
use Rattle.point_model.specs.Flat.{condition_of}
use Rattle.point_model.specs.Tags.{tag_text}
use Rattle.point_model.specs.declared.part.TagTest.{TagTest}
use Rattle.series_index.specs.Matching.{matching}
use Rattle.series_index.proofs.FilterLemmas.{picked_ascend}
use Rattle.series_index.proofs.ListedLemmas.{Answers, test_true, test_other}
use Rattle.series_index.proofs.test.tested.Goals as goal

pub without-requires : goal.without-requires
without-requires c =
    let told = c.requires in
    subst (λ (l : List ℕ). IsNonDecreasing l) (sym c.deref.ensures.value)
    (picked_ascend c.args.all.now (λ id. bytes_eq (tag_text c.in-Ne.key (told.0 id)) c.in-Ne.text) c.in_ok-ids-in-Ne.ids.items told.1.all.ascending (c.in_ok-ids-in-Ne.ensures told.0 told.1))

pub returns-in-True : goal.returns-in-True
returns-in-True c =
    let copied : IfOk c.to_vec.result (λ v. v.items ≡ c.args.all.now) = search rules in
    subst (λ (t : TagTest). Answers c.args.lists.now c.args.measurement.now c.args.all.now (λ series_of. matching series_of (condition_of t) c.args.all.now) c.to_vec.result) (sym c.in-True.is)
    (test_true c.to_vec.result c.args.lists.now c.args.measurement.now c.args.all.now copied)

pub returns-in-Eq : goal.returns-in-Eq
returns-in-Eq c =
    subst (λ (t : TagTest). Answers c.args.lists.now c.args.measurement.now c.args.all.now (λ series_of. matching series_of (condition_of t) c.args.all.now) c.with_text.result) (sym c.in-Eq.is)
    c.with_text.ensures

pub returns-in_ok-ids-in-Ne : goal.returns-in_ok-ids-in-Ne
returns-in_ok-ids-in-Ne c =
    subst (λ (t : TagTest). Answers c.args.lists.now c.args.measurement.now c.args.all.now (λ series_of. matching series_of (condition_of t) c.args.all.now) c.without.result) (sym c.in-Ne.is)
    (test_other c.without.result c.args.lists.now c.args.measurement.now c.args.all.now c.in-Ne.key c.in-Ne.text c.deref.result.now
    (λ series_of told. c.deref.ensures.value ∙ c.in_ok-ids-in-Ne.ensures series_of told) c.without.ensures)
