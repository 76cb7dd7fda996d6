use Rattle.std.proofs.Common.{◌≡◌, ◌<◌, ◌^◌, drop}
use Rattle.line_protocol.specs.Numbers.{read_on, number_of}
use Rattle.line_protocol.proofs.number.number_of.Given as goal

abbrev pub invariant-loop-digit : goal.invariant-loop-digit
invariant-loop-digit l = record {
  fits : l.number < 2 ^ 64;
  same : read_on l.number (drop l.digit-index l.digits) ≡ number_of l.digits;
}
