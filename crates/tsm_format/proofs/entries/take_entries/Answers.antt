use Rattle.std.proofs.Common.{◌≡◌, ℕ, ℤ, ◌+◌, ◌*◌, List, ◌++◌, Some, None, length, drop, sym, ap, ◌∙◌, subst, arith}
use Rattle.std.specs.List.{flat_map}
use Rattle.tsm_format.specs.declared.entry.Entry.{Entry}
use Rattle.tsm_format.specs.Format.{entry_bytes}
use Rattle.tsm_format.proofs.EntryLemmas.{TakesFrom, HasCounted, takes_none, takes_one, counted_none, counted_one, entry_at_least, stuck_none}
use Rattle.tsm_format.proofs.entries.take_entries.Goals as goal

pub loop-init : goal.loop-init
loop-init c =
    let bytes = c.args.bytes.now in (
      subst (λ (es : List Entry). TakesFrom bytes c.args.place es bytes None c.args.place) (sym c.in_ok-entries.ensures.items) (takes_none bytes c.args.place),
      subst (λ (es : List Entry). HasCounted bytes es bytes 0) (sym c.in_ok-entries.ensures.items) (counted_none bytes),
    )

pub returns-in_default-clause-none : goal.returns-in_default-clause-none
returns-in_default-clause-none c =
    let counted = c.loop.invariant.1.many in
    stuck_none c.args.bytes.now c.args.place c.loop.entries.items c.loop.rest.now c.loop.last c.loop.end c.args.count c.loop.invariant.0 (omega arith)
    (rw c.in_default.is at c.next_entry.ensures.none)

pub split_at-requires : goal.split_at-requires
split_at-requires c = entry_at_least c.loop.rest.now c.in-Some.entry (drop 28 c.loop.rest.now) c.in-Some.ensures.found

pub loop-preserved : goal.loop-preserved
loop-preserved c =
    let bytes = c.args.bytes.now in
    let done = c.loop.entries.items in
    let rest = c.loop.rest.now in
    let entry = c.in-Some.entry in
    let behind = c.split_at.result.1.now in
    let is = c.in-Some.ensures.found ∙ ap (λ (l : List ℕ). entry_bytes c.in-Some.entry ++ l) (sym c.split_at.ensures.back) in
    let takes = takes_one bytes c.args.place done rest behind c.loop.last c.loop.end c.end_of-end.result entry c.loop.invariant.0 is c.in-Some.ensures.good (λ at stands entry_is. c.end_of-end.ensures at entry_is) in
    let counted = counted_one bytes done rest behind c.loop.counter entry c.loop.invariant.1 c.split_at.ensures.back in (
      subst (λ (t : ℤ). TakesFrom bytes c.args.place c.push.new.self.items behind (Some t) c.end_of-end.result) (sym c.last_time.ensures)
          (subst (λ (es : List Entry). TakesFrom bytes c.args.place es behind (Some entry.max) c.end_of-end.result) (sym c.in_ok-push.ensures.items) takes),
      subst (λ (es : List Entry). HasCounted bytes es behind (c.loop.counter + 1)) (sym c.in_ok-push.ensures.items) counted,
    )

pub returns-clause-found : goal.returns-clause-found
returns-clause-found c =
    let counted = c.loop.invariant.1.many in
    let len : length c.loop.entries.items ≡ c.args.count = omega arith in
    c.loop.invariant.0.whole ∙ ap (λ (l : List ℕ). flat_map entry_bytes c.loop.entries.items ++ l) (c.loop.invariant.1.left ∙ ap (λ (n : ℕ). drop (28 * n) c.args.bytes.now) len)

pub returns-clause-count : goal.returns-clause-count
returns-clause-count c = let counted = c.loop.invariant.1.many in omega arith

pub returns-clause-good : goal.returns-clause-good
returns-clause-good c at stands = (c.loop.invariant.0.each at stands).good
