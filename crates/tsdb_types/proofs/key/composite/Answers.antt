use Rattle.tsdb_types.proofs.key.composite.Goals as goal

pub returns-in-Some-clause-key_too_long : goal.returns-in-Some-clause-key_too_long
returns-in-Some-clause-key_too_long c = λ len.
    let told = c.in-Some.ensures.key_too_long len in
    (λ e. told.0 cc, λ long. let is = told.1 long in cc)

pub returns-in-Some-clause-mark_in_key : goal.returns-in-Some-clause-mark_in_key
returns-in-Some-clause-mark_in_key c = λ at.
    let told = c.in-Some.ensures.mark_in_key at in
    (λ e. told.0 cc, λ cut. let is = told.1 cut in cc)

pub returns-in-Ok-clause-key_too_long : goal.returns-in-Ok-clause-key_too_long
returns-in-Ok-clause-key_too_long c = λ len. (λ e. absurd cc, λ long. let is = (c.in-None.ensures.key_too_long len).1 long in absurd cc)

pub returns-in-Err-clause-key_too_long : goal.returns-in-Err-clause-key_too_long
returns-in-Err-clause-key_too_long c = λ len. (λ e. absurd cc, λ long. let is = (c.in-None.ensures.key_too_long len).1 long in absurd cc)
