use Rattle.std.proofs.Common.{◌≡◌, ◌≢◌, ◌++◌, ℕ, List, Bor}
use Rattle.wal_store.specs.Form.{text_bytes, IsNameText}
use Rattle.wal_store.proofs.TextLemmas.{if_some_at, if_none_at}
use Rattle.wal_store.proofs.PointLemmas.{no_field, no_stamped}
use Rattle.wal_store.proofs.point.take_point.Goals as goal

pub returns-in_default-clause-none : goal.returns-in_default-clause-none
returns-in_default-clause-none c =
    no_field c.args.series.now c.args.bytes.now
    (if_none_at ((text rest : List ℕ) → IsNameText text → c.args.bytes.now ≢ text_bytes text ++ rest) c.in_ok-field.field-0 c.in_default.is c.in_ok-field.ensures.none)

pub returns-in_default-take_stamped-clause-none : goal.returns-in_default-take_stamped-clause-none
returns-in_default-take_stamped-clause-none c =
    no_stamped c.args.series.now c.args.bytes.now c.in-Some.field c.in-Some.rest.now
    (if_some_at (λ (v : List ℕ × Bor (List ℕ)). c.args.bytes.now ≡ text_bytes v.0 ++ v.1.now) c.in_ok-field.field-0 (c.in-Some.field, c.in-Some.rest) c.in-Some.is c.in_ok-field.ensures.found)
    (if_some_at (λ (v : List ℕ × Bor (List ℕ)). IsNameText v.0) c.in_ok-field.field-0 (c.in-Some.field, c.in-Some.rest) c.in-Some.is c.in_ok-field.ensures.name)
    c.in_default-take_stamped.ensures.none
