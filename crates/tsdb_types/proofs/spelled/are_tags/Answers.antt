use Rattle.std.proofs.Common.{sym, ◌∙◌}
use Rattle.std.proofs.lemmas.Bool.{false≢true}
use Rattle.tsdb_types.specs.Series.{tag_ends_at}
use Rattle.tsdb_types.specs.Spelled.{unescaped}
use Rattle.tsdb_types.proofs.SpelledTagLemmas.{tags-begin, tags-next, not-above, none-next, some-left}
use Rattle.tsdb_types.proofs.spelled.are_tags.Goals as goal

pub tags-init : goal.tags-init
tags-init c = tags-begin c.args.text.now

pub returns-in-None : goal.returns-in-None
returns-in-None c = (
  λ is. absurd (false≢true is),
  λ is. absurd (none-next (unescaped tag_ends_at c.tags.last.now) c.tags.left.now (some-left c.tags.left.now (sym c.is_empty.ensures ∙ c.tags-test.true)) c.in-None.ensures.none (c.tags.invariant.0 is)),
)

pub returns-then-not-is_below : goal.returns-then-not-is_below
returns-then-not-is_below c = (
  λ is. absurd (false≢true is),
  λ is. absurd (not-above (unescaped tag_ends_at c.tags.last.now) c.tags.left.now c.in-Some.key.now c.in-Some.rest.now c.in-Some.ensures.found
      (λ less. false≢true (sym c.if-not-is_below.true ∙ c.is_below.ensures.1 less)) (c.tags.invariant.0 is)),
)

pub tags-preserved : goal.tags-preserved
tags-preserved c =
    let next = tags-next (unescaped tag_ends_at c.tags.last.now) c.tags.left.now c.in-Some.key.now c.in-Some.rest.now c.in-Some.ensures.found (c.is_below.ensures.0 c.if-not-is_below.false) in
    (λ is. next.0 (c.tags.invariant.0 is), λ behind. c.tags.invariant.1 (next.1 behind))
