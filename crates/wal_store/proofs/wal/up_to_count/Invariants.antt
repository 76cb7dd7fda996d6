use Rattle.std.proofs.Common.{◌≡◌, ◌+◌, length, drop, nat_le}
use Rattle.std.specs.List.{take_while}
use Rattle.wal_store.proofs.wal.up_to_count.Given as goal

-- the numbers so far are at most this one
abbrev pub invariant-loop-at : goal.invariant-loop-at
invariant-loop-at l = length (take_while (λ number. nat_le number l.up_to) l.numbers) ≡ l.at + length (take_while (λ number. nat_le number l.up_to) (drop l.at l.numbers))
