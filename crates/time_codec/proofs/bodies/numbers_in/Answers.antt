use Rattle.std.proofs.Common.{◌≡◌, ◌++◌, ℕ, List, [], length, drop, ap, sym, ◌∙◌, arith}
use Rattle.std.proofs.lemmas.List.{drop_all, append-nil}
use Rattle.word_codec.specs.Uvarint.{uvarint}
use Rattle.time_codec.proofs.ReadingLemmas.{behind_first, ok_pair}
use Rattle.time_codec.proofs.bodies.numbers_in.Goals as goal

pub returns-in_default-clause-only : goal.returns-in_default-clause-only
returns-in_default-clause-only c = λ one two fits also is. absurd (cc (c.in_default.ensures.only one (uvarint two) fits is))

pub returns-in_default-read_uvarint-clause-only : goal.returns-in_default-read_uvarint-clause-only
returns-in_default-read_uvarint-clause-only c = λ one two fits also is.
    let len : c.in-Ok.len ≡ length (uvarint one) = (ok_pair _ _ _ _ (c.in-Ok.ensures.only one (uvarint two) fits is)).1 in
    let behind = c.split_at.ensures.back ∙ behind_first c.args.bytes.now (uvarint one) (uvarint two) c.in-Ok.len is len in
    absurd (cc (c.in_default-read_uvarint.ensures.only two [] also behind))

pub returns-then-size-behind-clause-only : goal.returns-then-size-behind-clause-only
returns-then-size-behind-clause-only c = λ one two fits also is.
    let len : c.in-Ok.len ≡ length (uvarint one) = (ok_pair _ _ _ _ (c.in-Ok.ensures.only one (uvarint two) fits is)).1 in
    let behind = c.split_at.ensures.back ∙ behind_first c.args.bytes.now (uvarint one) (uvarint two) c.in-Ok.len is len in
    let size : c.in-Ok-read_uvarint.size ≡ length (uvarint two) = (ok_pair _ _ _ _ (c.in-Ok-read_uvarint.ensures.only two [] also behind)).1 in
    absurd (omega (arith, size, ap length (behind ∙ append-nil (uvarint two))))

pub returns-clause-found : goal.returns-clause-found
returns-clause-found c =
    let first = c.in-Ok.ensures.found.0 in
    let second = c.in-Ok-read_uvarint.ensures.found.0 in
    let none : drop c.in-Ok-read_uvarint.size c.split_at.result.1.now ≡ [] = drop_all c.in-Ok-read_uvarint.size c.split_at.result.1.now (omega arith) in
    first ∙ ap (λ (b : List ℕ). uvarint c.in-Ok.first ++ b) (sym c.split_at.ensures.back ∙ second ∙ ap (λ (b : List ℕ). uvarint c.in-Ok-read_uvarint.second ++ b) none ∙ append-nil (uvarint c.in-Ok-read_uvarint.second))

pub returns-clause-only : goal.returns-clause-only
returns-clause-only c = λ one two fits also is.
    let first = ok_pair _ _ _ _ (c.in-Ok.ensures.only one (uvarint two) fits is) in
    let behind = c.split_at.ensures.back ∙ behind_first c.args.bytes.now (uvarint one) (uvarint two) c.in-Ok.len is first.1 in
    let second = ok_pair _ _ _ _ (c.in-Ok-read_uvarint.ensures.only two [] also behind) in
    cc (first.0, second.0)
