use Rattle.std.proofs.Common.{◌≡◌, ◌≢◌, ◌++◌, ℕ, List, Bor}
use Rattle.wal_store.specs.Form.{text_bytes, IsNameText}
use Rattle.wal_store.proofs.TextLemmas.{if_some_at, if_none_at}
use Rattle.wal_store.proofs.ConditionLemmas.{no_key, no_word}
use Rattle.wal_store.proofs.condition.take_comparison.Goals as goal

pub returns-in_default-clause-none : goal.returns-in_default-clause-none
returns-in_default-clause-none c =
    no_key c.args.bytes.now
    (if_none_at ((text rest : List ℕ) → IsNameText text → c.args.bytes.now ≢ text_bytes text ++ rest) c.in_ok-key.field-0 c.in_default.is c.in_ok-key.ensures.none)

pub returns-in_default-take_text-clause-none : goal.returns-in_default-take_text-clause-none
returns-in_default-take_text-clause-none c =
    no_word c.args.bytes.now c.in-Some.key c.in-Some.behind.now
    (if_some_at (λ (v : List ℕ × Bor (List ℕ)). c.args.bytes.now ≡ text_bytes v.0 ++ v.1.now) c.in_ok-key.field-0 (c.in-Some.key, c.in-Some.behind) c.in-Some.is c.in_ok-key.ensures.found)
    (if_some_at (λ (v : List ℕ × Bor (List ℕ)). IsNameText v.0) c.in_ok-key.field-0 (c.in-Some.key, c.in-Some.behind) c.in-Some.is c.in_ok-key.ensures.name)
    c.in_default-take_text.ensures.none
