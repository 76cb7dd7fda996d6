use Rattle.std.proofs.Common.{sym, ◌∙◌}
use Rattle.simple8b.proofs.Selecting.{narrow_from_fits}
use Rattle.simple8b.proofs.Spelling.{payload_ones, payload_packed}
use Rattle.simple8b.proofs.encoder.lower_bits.Goals as goal

pub returns-then-selector-lt2-clause-value : goal.returns-then-selector-lt2-clause-value
returns-then-selector-lt2-clause-value c = sym (payload_ones c.args.selector c.args.values.now c.if-selector-lt2.true)

pub pack_by-requires-clause-narrow : goal.pack_by-requires-clause-narrow
pack_by-requires-clause-narrow c = λ k d below. narrow_from_fits c.args.selector _ c.if-selector-lt2.false (c.requires.fitting k d below)

pub returns-clause-value : goal.returns-clause-value
returns-clause-value c = c.pack_by.ensures.value ∙ sym (payload_packed c.args.selector c.args.values.now c.if-selector-lt2.false)
