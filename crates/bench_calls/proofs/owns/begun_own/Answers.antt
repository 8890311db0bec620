use Rattle.std.proofs.Common.{All, List, sym, subst}
use Rattle.stamp_table.specs.Table.{IsBetweenCalls}
use Rattle.mem_values.specs.Start.{FileHand}
use Rattle.bench_calls.proofs.Lists.{last_has}
use Rattle.bench_calls.proofs.owns.begun_own.Goals as goal

pub returns : goal.returns
returns c = record {
  between = subst (IsBetweenCalls c.in_ok-table.table) (sym c.in_ok-worker.ensures.core)
      (last_has (IsBetweenCalls c.in_ok-table.table) c.pop.new.self.items c.in_ok-core.core
      (subst (λ (l : List FileHand). All (IsBetweenCalls c.in_ok-table.table) l) c.in_ok-core.ensures.items c.in_ok-table.ensures));
  readable = c.in_ok-worker.ensures.calls;
}
