use Rattle.std.proofs.Common.{◌≡◌, ◌≢◌, ◌++◌, ℕ, List, Bor, arith}
use Rattle.wal_store.specs.Form.{text_bytes}
use Rattle.wal_store.specs.Conditions.{IsComparison}
use Rattle.wal_store.proofs.TextLemmas.{if_some_at, if_none_at}
use Rattle.wal_store.proofs.ConditionLemmas.{no_comparison, no_condition, strange_kind}
use Rattle.wal_store.proofs.StackLemmas.{leaf_eq, leaf_ne, leaf_true}
use Rattle.wal_store.proofs.condition.take_part.Goals as goal

pub returns-in-Some-2-clause-found : goal.returns-in-Some-2-clause-found
returns-in-Some-2-clause-found c =
    leaf_eq c.args.bytes.now c.in-Some.behind.now c.in-Some-2.rest.now c.in-Some-2.key c.in-Some-2.text c.in-Some.kind c.in-Some.ensures.found c.in-1.is
    (if_some_at (λ (v : List ℕ × List ℕ × Bor (List ℕ)). c.in-Some.behind.now ≡ (text_bytes v.0 ++ text_bytes v.1) ++ v.2.now) c.in_ok-key-in-1.field-0 (c.in-Some-2.key, c.in-Some-2.text, c.in-Some-2.rest) c.in-Some-2.is c.in_ok-key-in-1.ensures.found)
    (if_some_at (λ (v : List ℕ × List ℕ × Bor (List ℕ)). IsComparison (v.0, v.1)) c.in_ok-key-in-1.field-0 (c.in-Some-2.key, c.in-Some-2.text, c.in-Some-2.rest) c.in-Some-2.is c.in_ok-key-in-1.ensures.comparison)

pub returns-in-Some-3-clause-found : goal.returns-in-Some-3-clause-found
returns-in-Some-3-clause-found c =
    leaf_ne c.args.bytes.now c.in-Some.behind.now c.in-Some-3.rest.now c.in-Some-3.key c.in-Some-3.text c.in-Some.kind c.in-Some.ensures.found c.in-2.is
    (if_some_at (λ (v : List ℕ × List ℕ × Bor (List ℕ)). c.in-Some.behind.now ≡ (text_bytes v.0 ++ text_bytes v.1) ++ v.2.now) c.in_ok-key-in-2.field-0 (c.in-Some-3.key, c.in-Some-3.text, c.in-Some-3.rest) c.in-Some-3.is c.in_ok-key-in-2.ensures.found)
    (if_some_at (λ (v : List ℕ × List ℕ × Bor (List ℕ)). IsComparison (v.0, v.1)) c.in_ok-key-in-2.field-0 (c.in-Some-3.key, c.in-Some-3.text, c.in-Some-3.rest) c.in-Some-3.is c.in_ok-key-in-2.ensures.comparison)

pub returns-in_default-clause-none : goal.returns-in_default-clause-none
returns-in_default-clause-none c = no_condition c.args.bytes.now c.in_default.ensures.none

pub returns-in-0-clause-found : goal.returns-in-0-clause-found
returns-in-0-clause-found c = leaf_true c.args.bytes.now c.in-Some.behind.now c.in-Some.kind c.in-Some.ensures.found c.in-0.is

pub returns-in-None-clause-none : goal.returns-in-None-clause-none
returns-in-None-clause-none c =
    no_comparison c.args.bytes.now c.in-Some.behind.now c.in-Some.kind c.in-Some.ensures.found (omega (arith, c.in-1.is)) (omega (arith, c.in-1.is))
    (if_none_at ((key text rest : List ℕ) → IsComparison (key, text) → c.in-Some.behind.now ≢ (text_bytes key ++ text_bytes text) ++ rest) c.in_ok-key-in-1.field-0 c.in-None.is c.in_ok-key-in-1.ensures.none)

pub returns-in-None-2-clause-none : goal.returns-in-None-2-clause-none
returns-in-None-2-clause-none c =
    no_comparison c.args.bytes.now c.in-Some.behind.now c.in-Some.kind c.in-Some.ensures.found (omega (arith, c.in-2.is)) (omega (arith, c.in-2.is))
    (if_none_at ((key text rest : List ℕ) → IsComparison (key, text) → c.in-Some.behind.now ≢ (text_bytes key ++ text_bytes text) ++ rest) c.in_ok-key-in-2.field-0 c.in-None-2.is c.in_ok-key-in-2.ensures.none)

pub returns-in_default-kind-clause-none : goal.returns-in_default-kind-clause-none
returns-in_default-kind-clause-none c = strange_kind c.args.bytes.now c.in-Some.behind.now c.in-Some.kind c.in-Some.ensures.found (λ low. omega (arith, low, c.in_default-kind))
