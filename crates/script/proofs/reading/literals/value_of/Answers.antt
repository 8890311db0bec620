use Rattle.std.proofs.Common.{◌+◌, arith, drop, fold, sym, ap, ◌∙◌, length-drop}
use Rattle.script.specs.Words.{with_digit}
use Rattle.script.proofs.NumberLemmas.{too_large, fits, one_digit}
use Rattle.script.proofs.reading.literals.value_of.Goals as goal

pub returns-in-None : goal.returns-in-None
returns-in-None c =
    let digits = c.args.digits.now in
    too_large digits (drop (c.loop-digit.digit-index + 1) digits) _
    (c.loop-digit.invariant.read ∙ one_digit digits c.loop-digit.digit-index c.loop-digit.value c.loop-digit-test.true) c.in-None.ensures

pub returns : goal.returns
returns c =
    let digits = c.args.digits.now in
    fits digits (drop c.loop-digit.digit-index digits) c.loop-digit.value c.loop-digit.invariant.read
    (omega (arith, length-drop c.loop-digit.digit-index digits)) c.loop-digit.invariant.small

pub loop-digit-preserved : goal.loop-digit-preserved
loop-digit-preserved c =
    let digits = c.args.digits.now in
    record {
      read =
          c.loop-digit.invariant.read
          ∙ one_digit digits c.loop-digit.digit-index c.loop-digit.value c.loop-digit-test.true
          ∙ ap (λ value. fold with_digit value (drop (c.loop-digit.digit-index + 1) digits)) (sym c.in-Some.ensures.0);
      small = c.in-Some.ensures.1;
    }
