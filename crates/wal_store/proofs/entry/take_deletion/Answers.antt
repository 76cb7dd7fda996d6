use Rattle.std.proofs.Common.{◌≡◌, ◌≢◌, ◌++◌, ℕ, List, Bor}
use Rattle.point_model.specs.Conditions.{Condition}
use Rattle.wal_store.specs.Form.{text_bytes, IsNameText}
use Rattle.wal_store.specs.Conditions.{condition_bytes, IsCondition}
use Rattle.wal_store.specs.Spelling.{most_nested}
use Rattle.wal_store.proofs.TextLemmas.{if_some_at, if_none_at}
use Rattle.wal_store.proofs.EntryLemmas.{no_measurement, no_tags, no_bounds}
use Rattle.wal_store.proofs.entry.take_deletion.Goals as goal

pub returns-in_default-clause-none : goal.returns-in_default-clause-none
returns-in_default-clause-none c =
    no_measurement c.args.bytes.now
    (if_none_at ((text rest : List ℕ) → IsNameText text → c.args.bytes.now ≢ text_bytes text ++ rest) c.in_ok-measurement.field-0 c.in_default.is c.in_ok-measurement.ensures.none)

pub returns-in_default-2-clause-none : goal.returns-in_default-2-clause-none
returns-in_default-2-clause-none c =
    no_tags c.args.bytes.now c.in-Some.measurement c.in-Some.rest.now
    (if_some_at (λ (v : List ℕ × Bor (List ℕ)). c.args.bytes.now ≡ text_bytes v.0 ++ v.1.now) c.in_ok-measurement.field-0 (c.in-Some.measurement, c.in-Some.rest) c.in-Some.is c.in_ok-measurement.ensures.found)
    (if_some_at (λ (v : List ℕ × Bor (List ℕ)). IsNameText v.0) c.in_ok-measurement.field-0 (c.in-Some.measurement, c.in-Some.rest) c.in-Some.is c.in_ok-measurement.ensures.name)
    (if_none_at ((condition : Condition) (rest : List ℕ) → IsCondition most_nested condition → c.in-Some.rest.now ≢ condition_bytes condition ++ rest) c.in_ok-tags.field-0 c.in_default-2.is c.in_ok-tags.ensures.none)

pub returns-in_default-take_bounds-clause-none : goal.returns-in_default-take_bounds-clause-none
returns-in_default-take_bounds-clause-none c =
    no_bounds c.args.bytes.now c.in-Some.measurement c.in-Some.rest.now c.in-Some-2.rest.now c.in-Some-2.tags
    (if_some_at (λ (v : List ℕ × Bor (List ℕ)). c.args.bytes.now ≡ text_bytes v.0 ++ v.1.now) c.in_ok-measurement.field-0 (c.in-Some.measurement, c.in-Some.rest) c.in-Some.is c.in_ok-measurement.ensures.found)
    (if_some_at (λ (v : List ℕ × Bor (List ℕ)). IsNameText v.0) c.in_ok-measurement.field-0 (c.in-Some.measurement, c.in-Some.rest) c.in-Some.is c.in_ok-measurement.ensures.name)
    (if_some_at (λ (v : Condition × Bor (List ℕ)). c.in-Some.rest.now ≡ condition_bytes v.0 ++ v.1.now) c.in_ok-tags.field-0 (c.in-Some-2.tags, c.in-Some-2.rest) c.in-Some-2.is c.in_ok-tags.ensures.found)
    (if_some_at (λ (v : Condition × Bor (List ℕ)). IsCondition most_nested v.0) c.in_ok-tags.field-0 (c.in-Some-2.tags, c.in-Some-2.rest) c.in-Some-2.is c.in_ok-tags.ensures.condition)
    c.in_default-take_bounds.ensures.none
