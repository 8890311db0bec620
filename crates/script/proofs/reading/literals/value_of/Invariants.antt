use Rattle.std.proofs.Common.{◌≡◌, ◌<◌, ◌^◌, drop, fold}
use Rattle.script.specs.Words.{value_of, with_digit}
use Rattle.script.proofs.reading.literals.value_of.Given as goal

abbrev pub invariant-loop-digit : goal.invariant-loop-digit
invariant-loop-digit l = record {
  read : value_of l.digits ≡ fold with_digit l.value (drop l.digit-index l.digits);
  small : l.value < 2 ^ 64;
}
