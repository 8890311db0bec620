use Rattle.std.proofs.Common.{arith}
use Rattle.journal_one.proofs.laws.fillings_begin.Goals as goal

pub returns : goal.returns
returns g c idle own = record {
  own = own;
  shut = idle;
  written = λ k lt. absurd (omega arith);
}
