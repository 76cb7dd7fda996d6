use Rattle.std.proofs.Common.{◌≡◌, ℕ, ◌+◌, ◌*◌, List, ◌++◌, None, length, drop, sym, ap, ◌∙◌, subst, arith}
use Rattle.tsm_format.specs.declared.row.KeyRow.{KeyRow}
use Rattle.tsm_format.specs.Rows.{IsRow}
use Rattle.tsm_format.specs.Format.{row_bytes}
use Rattle.tsm_format.specs.Faults.{last_key}
use Rattle.tsm_format.proofs.RowLemmas.{row_at_least}
use Rattle.tsm_format.proofs.ReadLemmas.{HasRead, one_read}
use Rattle.tsm_format.proofs.read.read_rows.Goals as goal

pub split_at-requires : goal.split_at-requires
split_at-requires c =
    let rest = c.loop-rest.rest.now in
    let row = c.in-Some.row in
    let is = rw c.in-Some.is at c.in_ok-row.ensures.found in
    let least = row_at_least rest row (drop (5 + length row.key + 28 * length row.entries) rest) is in
    let len = c.row_len.ensures in
    omega arith

pub loop-rest-preserved : goal.loop-rest-preserved
loop-rest-preserved c =
    let rest = c.loop-rest.rest.now in
    let row = c.in-Some.row in
    let behind = c.split_at.result.1.now in
    let is = rw c.in-Some.is at c.in_ok-row.ensures.found in
    let good = rw c.in-Some.is at c.in_ok-row.ensures.good in
    let same : drop (5 + length row.key + 28 * length row.entries) rest ≡ behind = ap (λ (n : ℕ). drop n rest) (sym c.row_len.ensures) ∙ sym c.split_at.ensures.back in
    let read = one_read c.args.bytes.now rest behind c.loop-rest.rows.items row c.loop-rest.end c.row_end-end.result c.loop-rest.invariant (is ∙ ap (λ (l : List ℕ). row_bytes row ++ l) same)
    (λ at stands. subst (λ (rows : List KeyRow). IsRow (last_key None rows) at row) c.deref.ensures.value (good at stands)) c.row_end-end.ensures in
    subst (λ (rows : List KeyRow). HasRead c.args.bytes.now behind rows c.row_end-end.result) (sym c.in_ok-push.ensures.items) read
