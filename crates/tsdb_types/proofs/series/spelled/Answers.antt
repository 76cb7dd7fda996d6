use Rattle.std.proofs.Common.{◌≡◌, ℕ, ◌<◌, ◌≤◌, ⊎_elim, List, [], ◌∷◌, ◌++◌, get_or, drop, subst, sym, ◌∙◌, ap, arith}
use Rattle.std.specs.Str.{IsUtf8}
use Rattle.std.proofs.lemmas.Bool.{cases_lt}
use Rattle.std.proofs.lemmas.List.{append-nil, drop_all, get_or_read}
use Rattle.std.proofs.lemmas.Str.{IsUtf8-append}
use Rattle.tsdb_types.specs.Names.{IsName}
use Rattle.tsdb_types.specs.Series.{measurement_text, tags_text, series_text}
use Rattle.tsdb_types.specs.declared.tag.Tag.{Tag}
use Rattle.tsdb_types.proofs.EscapeLemmas.{IsUtf8-measurement, tags_text-step}
use Rattle.tsdb_types.proofs.series.spelled.Goals as goal

pub loop-tag-init : goal.loop-tag-init
loop-tag-init c =
    let written : c.push_escaped.new.text.items ≡ measurement_text c.args.measurement.now = rw (c.new-text.ensures.items, c.as_bytes.ensures.value, c.as_str.ensures.text) at c.in_ok-push_escaped.ensures in
    record {
      written = ap (λ (t : List ℕ). t ++ tags_text c.args.tags.now) written;
      utf8 = subst (λ (t : List ℕ). IsUtf8 t) (sym written) (IsUtf8-measurement c.args.measurement.now (subst (λ (t : List ℕ). IsUtf8 t) c.as_str.ensures.text c.as_str.utf8));
      named = λ k d low high. absurd (omega arith);
    }

pub loop-tag-preserved : goal.loop-tag-preserved
loop-tag-preserved c =
    let i = c.loop-tag.tag-index in
    record {
      written = tags_text-step c.loop-tag.text.items c.push_tag.new.text.items c.args.tags.now i c.tag-item.result c.loop-tag-test.true c.tag-item.is c.in_ok-push_tag.ensures.text ∙ c.loop-tag.invariant.written;
      utf8 = subst (λ (t : List ℕ). IsUtf8 t) (sym c.in_ok-push_tag.ensures.text) (IsUtf8-append c.loop-tag.text.items (tags_text (c.tag-item.result ∷ [])) c.loop-tag.invariant.utf8 c.in_ok-push_tag.ensures.utf8);
      named = λ k d low high.
          ⊎_elim
          (λ (l : k < i). c.loop-tag.invariant.named k d low l)
          (λ (h : i ≤ k).
          let e : i ≡ k = omega arith in
          let is = get_or_read c.args.tags.now i c.tag-item.result c.loop-tag-test.true c.tag-item.is d in
          subst (λ (n : ℕ). IsName (get_or c.args.tags.now n d).key × IsName (get_or c.args.tags.now n d).value) e (subst (λ (t : Tag). IsName t.key × IsName t.value) is c.in_ok-push_tag.ensures.named))
          (cases_lt k i);
    }

pub returns-clause-series : goal.returns-clause-series
returns-clause-series c =
    let i = c.loop-tag.tag-index in
    let ends : tags_text (drop i c.args.tags.now) ≡ [] = ap tags_text (drop_all i c.args.tags.now (omega arith)) in
    let whole : c.loop-tag.text.items ≡ series_text c.args.measurement.now c.args.tags.now = sym (append-nil c.loop-tag.text.items) ∙ ap (λ (t : List ℕ). c.loop-tag.text.items ++ t) (sym ends) ∙ c.loop-tag.invariant.written in
    record {
      measurement = c.args.measurement.now;
      tags = c.args.tags.now;
      named = subst (λ (t : List ℕ). IsName t) c.as_str.ensures.text c.as_str.ensures.name;
      tags_named = λ k d l. c.loop-tag.invariant.named k d (omega arith) (omega arith);
      ascend = c.requires;
      spelled = rw c.in-Ok.ensures.ok whole;
    }
