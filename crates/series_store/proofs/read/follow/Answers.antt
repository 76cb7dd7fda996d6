use Rattle.std.proofs.Common.{rules, ◌∙◌, ◌++◌, ℕ, List, Result, Ok, Err, IfOk, length, sym, ap, subst, arith}
use Rattle.fixed_width.specs.Fields.{bytes_of_u32}
use Rattle.series_store.specs.Lists.{IsList}
use Rattle.std.proofs.lemmas.List.{length-append}
use Rattle.series_store.proofs.FormatLemmas.{same_parts, length-record_bytes}
use Rattle.series_store.proofs.read.follow.Goals as goal

if_ok_map : {T E : Type 0} {P Q : T → Type 0} (r : Result T E) → ((x : T) → P x → Q x) → IfOk r P → IfOk r Q
if_ok_map (Ok x) f p = f x p
if_ok_map (Err e) f p = tt

if_ok_both : {T E : Type 0} {P Q R : T → Type 0} (r : Result T E) → ((x : T) → P x → Q x → R x) → IfOk r P → IfOk r Q → IfOk r R
if_ok_both (Ok x) f p q = f x p q
if_ok_both (Err e) f p q = tt

pub returns-in_default-clause-none : goal.returns-in_default-clause-none
returns-in_default-clause-none c = λ no all takes. omega (arith, c.in_default.ensures.cut, ap length takes.are, length-record_bytes takes.more)

pub returns-then-count-len-clause-none : goal.returns-then-count-len-clause-none
returns-then-count-len-clause-none c = λ no all takes.
    let parts = same_parts c.in-Some.count c.in-Some.rest.now takes.more (search rules) takes.written.short (sym c.in-Some.ensures.found ∙ takes.are) in
    omega (arith, parts.0, takes.sound.few, ap length takes.behind, length-append c.args.held.now.keys takes.more, c.if-count-len.true, c.len.ensures.len, c.requires)

pub returns-clause-follows : goal.returns-clause-follows
returns-clause-follows c =
    if_ok_both c.hold_each.result
    (λ follows told distinct yes.
    let all = told yes in
    let body = c.in-Some.ensures.found ∙ ap (λ (n : ℕ). bytes_of_u32 n ++ c.in-Some.rest.now) (sym all.3) ∙ ap (λ (l : List ℕ). bytes_of_u32 (length all.0) ++ l) all.4 in
    record {
      more = all.0;
      written = record { keys = all.1; room = all.2; short = omega (arith, ap length body, c.if-body.false) };
      are = body;
      behind = all.5;
      sound = record { distinct = distinct yes; few = omega (arith, ap length all.5, length-append c.args.held.now.keys all.0, all.3, c.if-count-len.false, c.len.ensures.len, c.requires) };
    })
    c.hold_each.ensures.follows c.hold_each.ensures.distinct

pub returns-clause-none : goal.returns-clause-none
returns-clause-none c =
    if_ok_map c.hold_each.result
    (λ follows none no all takes.
    let parts = same_parts c.in-Some.count c.in-Some.rest.now takes.more (search rules) takes.written.short (sym c.in-Some.ensures.found ∙ takes.are) in
    none no takes.more takes.written.keys takes.written.room parts.0 parts.1 (subst IsList takes.behind takes.sound))
    c.hold_each.ensures.none
