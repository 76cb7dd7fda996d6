use Rattle.std.proofs.Common.{◌≢◌, ◌++◌, ℕ, List, Bor, subst, sym, arith}
use Rattle.point_model.specs.Conditions.{Condition}
use Rattle.point_model.specs.Flat.{Side, closed, condition_of}
use Rattle.point_model.specs.Readings.{IsRead}
use Rattle.point_model.specs.declared.part.Part.{Part}
use Rattle.point_model.specs.declared.reader.ReadCond.{ReadCond}
use Rattle.wal_store.specs.Conditions.{condition_bytes, AreComparisons}
use Rattle.wal_store.specs.Stack.{IsLeaf, IsNode}
use Rattle.wal_store.proofs.TextLemmas.{if_some_at, if_none_at}
use Rattle.wal_store.proofs.StackLemmas.{Reading, awaits, closes, leaf_room, no_part, read_whole, reading_join, reading_part, too_deep}
use Rattle.wal_store.proofs.condition.take_condition.Goals as goal

pub returns-in_default-clause-none : goal.returns-in_default-clause-none
returns-in_default-clause-none c =
    no_part 65536 c.args.bytes.now c.parts.rest.now c.parts.reader c.parts.invariant
    (if_none_at ((condition : Condition) (rest : List ℕ) → AreComparisons condition → c.parts.rest.now ≢ condition_bytes condition ++ rest) c.in_ok-part.field-0 c.in_default.is c.in_ok-part.ensures.none)

pub returns-then-nesting-ge-MOST_NESTED-clause-none : goal.returns-then-nesting-ge-MOST_NESTED-clause-none
returns-then-nesting-ge-MOST_NESTED-clause-none c =
    let node = if_some_at (λ (v : Part × Bor (List ℕ)). IsNode v.0 c.parts.rest.now v.1.now) c.in_ok-part.field-0 (c.in-Some.part, c.in-Some.behind) c.in-Some.is c.in_ok-part.ensures.found in
    let join = subst (λ (n : Part). IsNode n c.parts.rest.now c.in-Some.behind.now) c.in-Join.is node in
    too_deep 65536 c.args.bytes.now c.parts.rest.now c.in-Some.behind.now c.parts.reader c.in-Join.join c.parts.invariant join (omega (arith, c.if-nesting-ge-MOST_NESTED.true, c.nesting.ensures))

pub parts-preserved-in-Join : goal.parts-preserved-in-Join
parts-preserved-in-Join c =
    let node = if_some_at (λ (v : Part × Bor (List ℕ)). IsNode v.0 c.parts.rest.now v.1.now) c.in_ok-part.field-0 (c.in-Some.part, c.in-Some.behind) c.in-Some.is c.in_ok-part.ensures.found in
    let join = subst (λ (n : Part). IsNode n c.parts.rest.now c.in-Some.behind.now) c.in-Join.is node in
    subst (λ (sides : List Side). Reading 65536 c.args.bytes.now sides c.in-Some.behind.now) (sym c.in_ok-reader-in-Join.ensures)
    (reading_join 65536 c.args.bytes.now c.parts.rest.now c.in-Some.behind.now c.parts.reader c.in-Join.join c.parts.invariant join (omega (arith, c.if-nesting-ge-MOST_NESTED.false, c.nesting.ensures)))

pub returns-in-Whole-clause-found : goal.returns-in-Whole-clause-found
returns-in-Whole-clause-found c =
    let part = condition_of c.in-Test.test in
    let node = if_some_at (λ (v : Part × Bor (List ℕ)). IsNode v.0 c.parts.rest.now v.1.now) c.in_ok-part.field-0 (c.in-Some.part, c.in-Some.behind) c.in-Some.is c.in_ok-part.ensures.found in
    let leaf : IsLeaf part c.parts.rest.now c.in-Some.behind.now = subst (λ (n : Part). IsNode n c.parts.rest.now c.in-Some.behind.now) c.in-Test.is node in
    let whole = subst (λ (r : ReadCond). IsRead r (closed part c.parts.reader)) c.in-Whole.is c.in_ok-whole-in-Test.ensures in
    read_whole 65536 c.args.bytes.now c.parts.rest.now c.in-Some.behind.now c.parts.reader part c.in-Whole.whole c.parts.invariant leaf
    (closes 65536 c.parts.reader part c.in-Whole.whole c.parts.invariant.are leaf.comparisons (leaf_room 65536 c.parts.reader c.parts.rest.now c.in-Some.behind.now part c.parts.invariant.are leaf) whole)

pub returns-in-Whole-clause-condition : goal.returns-in-Whole-clause-condition
returns-in-Whole-clause-condition c =
    let part = condition_of c.in-Test.test in
    let node = if_some_at (λ (v : Part × Bor (List ℕ)). IsNode v.0 c.parts.rest.now v.1.now) c.in_ok-part.field-0 (c.in-Some.part, c.in-Some.behind) c.in-Some.is c.in_ok-part.ensures.found in
    let leaf : IsLeaf part c.parts.rest.now c.in-Some.behind.now = subst (λ (n : Part). IsNode n c.parts.rest.now c.in-Some.behind.now) c.in-Test.is node in
    let whole = subst (λ (r : ReadCond). IsRead r (closed part c.parts.reader)) c.in-Whole.is c.in_ok-whole-in-Test.ensures in
    let done = closes 65536 c.parts.reader part c.in-Whole.whole c.parts.invariant.are leaf.comparisons (leaf_room 65536 c.parts.reader c.parts.rest.now c.in-Some.behind.now part c.parts.invariant.are leaf) whole in
    done.is

pub parts-preserved : goal.parts-preserved
parts-preserved c =
    let part = condition_of c.in-Test.test in
    let node = if_some_at (λ (v : Part × Bor (List ℕ)). IsNode v.0 c.parts.rest.now v.1.now) c.in_ok-part.field-0 (c.in-Some.part, c.in-Some.behind) c.in-Some.is c.in_ok-part.ensures.found in
    let leaf : IsLeaf part c.parts.rest.now c.in-Some.behind.now = subst (λ (n : Part). IsNode n c.parts.rest.now c.in-Some.behind.now) c.in-Test.is node in
    let still = subst (λ (r : ReadCond). IsRead r (closed part c.parts.reader)) c.in-Open.is c.in_ok-whole-in-Test.ensures in
    subst (λ (sides : List Side). Reading 65536 c.args.bytes.now sides c.in-Some.behind.now) still.1
    (reading_part 65536 c.args.bytes.now c.parts.rest.now c.in-Some.behind.now c.parts.reader (closed part c.parts.reader).sides part c.parts.invariant leaf
    (awaits 65536 c.parts.reader part c.parts.invariant.are leaf.comparisons (leaf_room 65536 c.parts.reader c.parts.rest.now c.in-Some.behind.now part c.parts.invariant.are leaf) still.0))
