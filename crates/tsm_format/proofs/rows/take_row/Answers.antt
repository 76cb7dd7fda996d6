use Rattle.std.proofs.Common.{◌≡◌, ℕ, ◌*◌, ◌<◌, ◌^◌, List, ◌++◌, None, length, drop, refl, sym, ap, ◌∙◌, subst, arith, rules}
use Rattle.std.specs.List.{flat_map}
use Rattle.std.proofs.lemmas.Bool.{false≢true}
use Rattle.tsm_format.specs.declared.entry.Entry.{Entry}
use Rattle.tsm_format.specs.declared.row.KeyRow.{KeyRow}
use Rattle.tsm_format.specs.Rows.{IsAbove, AreEntries}
use Rattle.tsm_format.specs.Format.{head_bytes, entry_bytes}
use Rattle.tsm_format.specs.Faults.{last_key}
use Rattle.tsdb_types.specs.Keys.{MarkAt}
use Rattle.tsm_format.proofs.FormatLemmas.{none_from_test, some_from_test}
use Rattle.tsm_format.proofs.RowLemmas.{no_row_head, no_count, no_mark, not_above, no_blocks, whole_row}
use Rattle.tsm_format.proofs.rows.take_row.Goals as goal

pub returns-in_default-clause-none : goal.returns-in_default-clause-none
returns-in_default-clause-none c = λ at stands. no_row_head (last_key None c.args.rows.now) at c.args.bytes.now (rw c.in_default.is at c.take_head.ensures.none)

pub returns-then-head-eq0-clause-none : goal.returns-then-head-eq0-clause-none
returns-then-head-eq0-clause-none c = λ at stands.
    let head = c.in-Some.head in
    no_count (last_key None c.args.rows.now) at c.args.bytes.now head.key.now head.kind head.count head.behind.now c.in-Some.ensures.key c.if-head-eq0.true c.in-Some.ensures.found

pub returns-then-is_none-clause-none : goal.returns-then-is_none-clause-none
returns-then-is_none-clause-none c = λ at stands.
    let head = c.in-Some.head in
    let fits : head.count < 2 ^ 16 = search rules in
    no_mark (last_key None c.args.rows.now) at c.args.bytes.now head.key.now head.kind head.count head.behind.now c.in-Some.ensures.key fits
    (none_from_test c.split.result c.if-is_none.ensures c.split.ensures.none) c.in-Some.ensures.found

pub returns-then-not-is_above-clause-none : goal.returns-then-not-is_above-clause-none
returns-then-not-is_above-clause-none c = λ at stands.
    let head = c.in-Some.head in
    let fits : head.count < 2 ^ 16 = search rules in
    not_above (last_key None c.args.rows.now) at c.args.bytes.now head.key.now head.kind head.count head.behind.now c.in-Some.ensures.key fits
    (λ above. false≢true (c.if-not-is_above.ensures.1 above)) c.in-Some.ensures.found

pub returns-in_default-2-clause-none : goal.returns-in_default-2-clause-none
returns-in_default-2-clause-none c = λ at stands.
    let head = c.in-Some.head in
    let fits : head.count < 2 ^ 16 = search rules in
    no_blocks (last_key None c.args.rows.now) at c.args.bytes.now head.key.now head.kind head.count head.behind.now c.args.place c.in-Some.ensures.key fits stands
    (rw c.in_default-2.is at c.in_ok-entries.ensures.none) c.in-Some.ensures.found

pub returns-clause-found : goal.returns-clause-found
returns-clause-found c =
    let head = c.in-Some.head in
    let entries = c.in-Some-2.entries.items in
    let row : KeyRow = record { key = c.new.result; kind = head.kind; entries = c.new-2.result } in
    let key : head.key.now ≡ c.new.result = sym (c.new.ensures ∙ c.in_ok-key.ensures.items) in
    let count : head.count ≡ length c.new-2.result = sym ((rw c.in-Some-2.is at c.in_ok-entries.ensures.count)) ∙ ap length (sym c.new-2.ensures) in
    let blocks = (rw c.in-Some-2.is at c.in_ok-entries.ensures.found) in
    whole_row c.args.bytes.now row head.behind.now (drop (28 * head.count) head.behind.now)
    (c.in-Some.ensures.found ∙ ap (λ (k : List ℕ). head_bytes k head.kind head.count ++ head.behind.now) key ∙ ap (λ (n : ℕ). head_bytes c.new.result head.kind n ++ head.behind.now) count)
    (blocks ∙ ap (λ (es : List Entry). flat_map entry_bytes es ++ drop (28 * head.count) head.behind.now) (sym c.new-2.ensures))

pub returns-clause-good : goal.returns-clause-good
returns-clause-good c = λ at stands.
    let head = c.in-Some.head in
    let key : head.key.now ≡ c.new.result = sym (c.new.ensures ∙ c.in_ok-key.ensures.items) in
    let count : length c.new-2.result ≡ head.count = ap length c.new-2.ensures ∙ (rw c.in-Some-2.is at c.in_ok-entries.ensures.count) in
    let fits : head.count < 2 ^ 16 = search rules in
    let some = some_from_test c.split.result c.if-is_none.ensures in
    let mark = rw some.1 at c.split.ensures.found in
    let all = rw c.in-Some-2.is at c.in_ok-entries.ensures.good in
    let blocks = all at stands in
    record {
      fits = subst (λ (k : List ℕ). length k < 2 ^ 16) key c.in-Some.ensures.key;
      mark = (some.0, subst (λ (k : List ℕ). MarkAt k some.0) key mark.stands);
      above = subst (IsAbove (last_key None c.args.rows.now)) key (c.if-not-is_above.ensures.0 refl);
      some = λ none. let zero = ap length none in absurd (omega arith);
      count = omega arith;
      blocks = subst (AreEntries None at) (sym c.new-2.ensures) blocks;
    }
