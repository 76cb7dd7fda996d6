use Rattle.std.proofs.Common.{◌≡◌, ◌≢◌, ◌++◌, ◌^◌, ◌<◌, ℕ, List, Bor, rules, arith}
use Rattle.tsdb_types.specs.Series.{IsSeriesText}
use Rattle.wal_store.specs.Form.{text_bytes, IsText}
use Rattle.wal_store.proofs.TextLemmas.{if_some_at, if_none_at, ok_some_from, ok_none_from}
use Rattle.wal_store.proofs.GroupLemmas.{no_group_series, no_group_count, no_group_points, no_group_items, takes_group}
use Rattle.wal_store.proofs.group.take_group.Goals as goal

pub returns-in_default-clause-none : goal.returns-in_default-clause-none
returns-in_default-clause-none c =
    no_group_series c.args.bytes.now
    (if_none_at ((text rest : List ℕ) → IsText text → IsSeriesText text → c.args.bytes.now ≢ text_bytes text ++ rest) c.in_ok-series.field-0 c.in_default.is c.in_ok-series.ensures.none)

pub returns-in_default-take_u32-clause-none : goal.returns-in_default-take_u32-clause-none
returns-in_default-take_u32-clause-none c =
    no_group_count c.args.bytes.now c.in-Some.series c.in-Some.rest.now
    (if_some_at (λ (v : List ℕ × Bor (List ℕ)). c.args.bytes.now ≡ text_bytes v.0 ++ v.1.now) c.in_ok-series.field-0 (c.in-Some.series, c.in-Some.rest) c.in-Some.is c.in_ok-series.ensures.found)
    (if_some_at (λ (v : List ℕ × Bor (List ℕ)). IsText v.0) c.in_ok-series.field-0 (c.in-Some.series, c.in-Some.rest) c.in-Some.is c.in_ok-series.ensures.text)
    c.in_default-take_u32.ensures.cut

pub returns-then-count-eq0-clause-none : goal.returns-then-count-eq0-clause-none
returns-then-count-eq0-clause-none c =
    let fits : c.in-Some-take_u32.count < 2 ^ 32 = search rules in
    no_group_points c.args.bytes.now c.in-Some.series c.in-Some.rest.now c.in-Some-take_u32.rest.now c.in-Some-take_u32.count
    (if_some_at (λ (v : List ℕ × Bor (List ℕ)). c.args.bytes.now ≡ text_bytes v.0 ++ v.1.now) c.in_ok-series.field-0 (c.in-Some.series, c.in-Some.rest) c.in-Some.is c.in_ok-series.ensures.found)
    (if_some_at (λ (v : List ℕ × Bor (List ℕ)). IsText v.0) c.in_ok-series.field-0 (c.in-Some.series, c.in-Some.rest) c.in-Some.is c.in_ok-series.ensures.text)
    c.in-Some-take_u32.ensures.found fits (omega arith)

pub returns-clause-found : goal.returns-clause-found
returns-clause-found c =
    let fits : c.in-Some-take_u32.count < 2 ^ 32 = search rules in
    ok_some_from c.take_points.result
    (λ rest takes. takes_group c.args.bytes.now c.in-Some.series c.in-Some.rest.now c.in-Some-take_u32.rest.now rest.now c.in-Some-take_u32.count c.args.points.now.items c.take_points.new.points.items
    (if_some_at (λ (v : List ℕ × Bor (List ℕ)). c.args.bytes.now ≡ text_bytes v.0 ++ v.1.now) c.in_ok-series.field-0 (c.in-Some.series, c.in-Some.rest) c.in-Some.is c.in_ok-series.ensures.found)
    (if_some_at (λ (v : List ℕ × Bor (List ℕ)). IsText v.0) c.in_ok-series.field-0 (c.in-Some.series, c.in-Some.rest) c.in-Some.is c.in_ok-series.ensures.text)
    (if_some_at (λ (v : List ℕ × Bor (List ℕ)). IsSeriesText v.0) c.in_ok-series.field-0 (c.in-Some.series, c.in-Some.rest) c.in-Some.is c.in_ok-series.ensures.series)
    c.in-Some-take_u32.ensures.found fits (λ is. omega (arith, is)) takes)
    c.take_points.ensures.found

pub returns-clause-none : goal.returns-clause-none
returns-clause-none c =
    let fits : c.in-Some-take_u32.count < 2 ^ 32 = search rules in
    ok_none_from c.take_points.result
    (λ none. no_group_items c.args.bytes.now c.in-Some.series c.in-Some.rest.now c.in-Some-take_u32.rest.now c.in-Some-take_u32.count
    (if_some_at (λ (v : List ℕ × Bor (List ℕ)). c.args.bytes.now ≡ text_bytes v.0 ++ v.1.now) c.in_ok-series.field-0 (c.in-Some.series, c.in-Some.rest) c.in-Some.is c.in_ok-series.ensures.found)
    (if_some_at (λ (v : List ℕ × Bor (List ℕ)). IsText v.0) c.in_ok-series.field-0 (c.in-Some.series, c.in-Some.rest) c.in-Some.is c.in_ok-series.ensures.text)
    c.in-Some-take_u32.ensures.found fits none)
    c.take_points.ensures.none
