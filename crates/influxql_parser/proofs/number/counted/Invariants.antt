use Rattle.std.proofs.Common.{◌≡◌, ◌<◌, ◌^◌, drop}
use Rattle.influxql_parser.specs.Numbers.{decimal_from}
use Rattle.influxql_parser.proofs.number.counted.Given as goal

abbrev pub invariant-loop-digit : goal.invariant-loop-digit
invariant-loop-digit l = record {
  fits : l.number < 2 ^ 64;
  same : decimal_from l.number (drop l.digit-index l.digits) ≡ decimal_from 0 l.digits;
}
